-- Lists with a space in front of each, as they are read from the left.
use Rattle.std.specs.Prelude.{◌≡◌, ℕ, suc, ◌+◌, ◌≤◌, ◌<◌, List, [], ◌∷◌, ◌++◌, refl}
use Rattle.std.proofs.Common.{sym, ◌∙◌, ap, subst, arith, append_assoc}
use Rattle.std.proofs.lemmas.List.{append-nil}
use Rattle.dc_cert.specs.declared.sparse.Item.{Item}
use Rattle.dc_cert.specs.declared.sparse.Sparse.{Sparse}
use Rattle.dc_cert.specs.Vectors.{IsItem, AreItems, IsVector}
use Rattle.dc_cert.proofs.VectorLaws.{AreWithin, within-append, within_items}
use Rattle.dc_lines.specs.Bytes.{Bytes, spaced}
use Rattle.dc_certtext.specs.Words.{item_text, vector_text}
use Rattle.dc_lines.specs.Cuts.{Starts, until}
use Rattle.dc_lines.proofs.Cutting.{tail_of, nil_not, until-append, same_cut, spaced-starts, spaced-append}
use Rattle.dc_certtext.proofs.Fractions.{item-lacks, item_one}

-- ---- the first item
pub refuse_item : (t v w : Bytes) → t ≡ 32 ∷ v → w ≡ until 32 v → ((i : Item) → IsItem i → ¬ (item_text i ≡ w)) → (i : Item) (r : Bytes) → IsItem i → Starts 32 r → ¬ (32 ∷ (item_text i ++ r) ≡ t)
refuse_item t v w a b g i r h s e = g i h (sym (until-append 32 (item_text i) r (item-lacks i h) s) ∙ ap (until 32) (tail_of 32 (item_text i ++ r) v (e ∙ a)) ∙ sym b)

-- ---- a vector under way: what is read, what is left, and the least index that may follow
pub record Rest (text : Bytes) (is : List Item) (rest : Bytes) (low : ℕ) (js : List Item) : Type 0 where
  pub more : List Item
  pub whole : js ≡ is ++ more
  pub items : AreItems low more
  pub left : spaced item_text more ≡ rest

pub record Taken (text : Bytes) (is : List Item) (rest : Bytes) (low : ℕ) : Type 0 where
  pub front : spaced item_text is ++ rest ≡ text
  pub within : AreWithin 0 low is
  pub few : low ≤ 8192
  pub only : (js : List Item) → AreItems 0 js → spaced item_text js ≡ text → Rest text is rest low js

pub taken_start : (text : Bytes) → Taken text [] text 0
taken_start text = record { front = refl; within = omega arith; few = omega arith; only = λ js h e. record { more = js; whole = refl; items = h; left = e } }

first_rest : (text rest : Bytes) (is js : List Item) (low : ℕ) (i : Item) (r : Bytes) → IsItem i → Starts 32 r → 32 ∷ (item_text i ++ r) ≡ rest → low ≤ i.index → Rest text is rest low js
    → Rest text (is ++ i ∷ []) r (i.index + 1) js
first_rest text rest is js low i r h s e l t = by t.more t.whole t.items t.left
  where
    by : (more : List Item) → js ≡ is ++ more → AreItems low more → spaced item_text more ≡ rest → Rest text (is ++ i ∷ []) r (i.index + 1) js
    by [] w a q = absurd (nil_not 32 (item_text i ++ r) rest e (sym q))
    by (j ∷ more) w a q =
        let c = same_cut 32 (item_text i) (item_text j) r (spaced item_text more) (item-lacks i h) (item-lacks j a.1) s (spaced-starts item_text more) (tail_of 32 (item_text i ++ r) (item_text j ++ spaced item_text more) (e ∙ sym q)) in
        let m = item_one i j h a.1 c.0 in
        record {
          more = more;
          whole = w ∙ ap (λ x. is ++ x ∷ more) (sym m) ∙ sym (append_assoc is (i ∷ []) more);
          items = subst (λ n. AreItems n more) (ap (λ (x : Item). suc x.index) (sym m) ∙ (let y : suc i.index ≡ i.index + 1 = omega arith in y)) a.2;
          left = sym c.1;
        }

pub taken_step : (text rest : Bytes) (is ks : List Item) (low : ℕ) (i : Item) (r : Bytes) → IsItem i → Starts 32 r → 32 ∷ (item_text i ++ r) ≡ rest → low ≤ i.index → ks ≡ is ++ i ∷ [] → Taken text is rest low → Taken text ks r (i.index + 1)
taken_step text rest is ks low i r h s e l k t =
    subst (λ x. Taken text x r (i.index + 1)) (sym k) (record {
      front = ap (λ x. x ++ r) (spaced-append item_text is (i ∷ []) ∙ ap (λ y. spaced item_text is ++ (32 ∷ y)) (append-nil (item_text i))) ∙ append_assoc (spaced item_text is) (32 ∷ item_text i) r ∙ ap (λ x. spaced item_text is ++ x) e ∙ t.front;
      within = within-append 0 i.index is i refl h (wider low i.index is l t.within);
      few = (let b = h.low in omega arith);
      only = λ js a q. first_rest text rest is js low i r h s e l (t.only js a q);
    })
  where
    wider-from : (a m n : ℕ) (is : List Item) → m ≤ n → AreWithin a m is → AreWithin a n is
    wider-from a m n [] l h = omega arith
    wider-from a m n (i ∷ is) l h = (h.0, h.1, wider-from (suc i.index) m n is l h.2)

    wider : (m n : ℕ) (is : List Item) → m ≤ n → AreWithin 0 m is → AreWithin 0 n is
    wider m n is l h = wider-from 0 m n is l h

pub taken_end : (text : Bytes) (is : List Item) (rest : Bytes) (low : ℕ) → rest ≡ [] → Taken text is rest low → AreItems 0 is × (spaced item_text is ≡ text)
taken_end text is rest low e t = (within_items 0 low is t.within, sym (append-nil (spaced item_text is)) ∙ ap (λ x. spaced item_text is ++ x) (sym e) ∙ t.front)

pub taken_refuse : (text : Bytes) (is : List Item) (rest : Bytes) (low : ℕ) → ¬ (rest ≡ []) → ((i : Item) (r : Bytes) → IsItem i → Starts 32 r → ¬ (32 ∷ (item_text i ++ r) ≡ rest)) → Taken text is rest low
    → (s : Sparse) → IsVector s → ¬ (vector_text s ≡ text)
taken_refuse text is rest low n g t s h e = let r = t.only s.items h e in by r.more r.items r.left
  where
    by : (more : List Item) → AreItems low more → spaced item_text more ≡ rest → ⊥
    by [] a q = n (sym q)
    by (j ∷ more) a q = g j (spaced item_text more) a.1 (spaced-starts item_text more) q

pub taken_low : (text : Bytes) (is : List Item) (rest : Bytes) (low : ℕ) (i : Item) (r : Bytes) → IsItem i → Starts 32 r → 32 ∷ (item_text i ++ r) ≡ rest → i.index < low → Taken text is rest low → (s : Sparse) → IsVector s → ¬ (vector_text s ≡ text)
taken_low text is rest low i r k b d l t s h e = let x = t.only s.items h e in by x.more x.items x.left
  where
    by : (more : List Item) → AreItems low more → spaced item_text more ≡ rest → ⊥
    by [] a q = nil_not 32 (item_text i ++ r) rest d (sym q)
    by (j ∷ more) a q =
        let c = same_cut 32 (item_text i) (item_text j) r (spaced item_text more) (item-lacks i k) (item-lacks j a.1) b (spaced-starts item_text more) (tail_of 32 (item_text i ++ r) (item_text j ++ spaced item_text more) (d ∙ sym q)) in
        let m = ap (λ (x : Item). x.index) (item_one i j k a.1 c.0) in
        let z = a.0 in
        omega arith
