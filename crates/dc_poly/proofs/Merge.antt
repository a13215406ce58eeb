-- A merge of two canonical lists is their sum.
use Rattle.std.specs.Prelude.{◌≡◌, ◌⊎◌, ℕ, ◌+◌, ◌<◌, Bool, true, false, cond, [], ◌∷◌, ◌++◌, length, get_or, drop, ℤ, pos, ◌+ℤ◌}
use Rattle.std.proofs.Common.{sym, ◌∙◌, ap, subst, arith, inl, inr}
use Rattle.std.proofs.lemmas.Int.{ints}
use Rattle.std.proofs.lemmas.List.{append_assoc, append-nil, drop_more}
use Rattle.std.specs.declared.cmp.Ordering.{Ordering}
use Rattle.std.specs.declared.cmp.Ordering.TheVariants.{Less, Equal, Greater}
use Rattle.dc_poly.specs.declared.monomial.Term.{Term}
use Rattle.dc_poly.specs.Terms.{Exponents, TermList, term, same_mono, coef, Before, Ahead, Canonical}
use Rattle.dc_poly.proofs.Same.{coef-++}
use Rattle.dc_poly.proofs.Graded.{Ahead-more, graded_told}
use Rattle.dc_poly.specs.Order.{graded, Told}
use Rattle.dc_poly.specs.Sums.{plus}
use Rattle.dc_poly.proofs.Values.{plus_is}

-- the loop's invariant: what is out stands before both rests, and the coefficients add up
pub record Merging (p q out left right : TermList) : Type 0 where
  pub left_in_order : Canonical (out ++ left)
  pub right_in_order : Canonical (out ++ right)
  pub adds_up : (m : Exponents) → (coef out m +ℤ coef left m) +ℤ coef right m ≡ coef p m +ℤ coef q m

pub merge_start : (p q : TermList) → Canonical p → Canonical q → Merging p q [] p q
merge_start p q h k = record { left_in_order = h; right_in_order = k; adds_up = λ m. omega (arith, ints) }

Ahead-++ : (m : Exponents) (a b : TermList) → Ahead m a → Ahead m b → Ahead m (a ++ b)
Ahead-++ m [] b h k = k
Ahead-++ m (t ∷ a) b h k = (h.0, Ahead-++ m a b h.1 k)

Ahead-front : (m : Exponents) (a b : TermList) → Ahead m (a ++ b) → Ahead m a
Ahead-front m [] b h = tt
Ahead-front m (t ∷ a) b h = (h.0, Ahead-front m a b h.1)

Ahead-back : (m : Exponents) (a b : TermList) → Ahead m (a ++ b) → Ahead m b
Ahead-back m [] b h = h
Ahead-back m (t ∷ a) b h = Ahead-back m a b h.1

Canonical-back : (a b : TermList) → Canonical (a ++ b) → Canonical b
Canonical-back [] b h = h
Canonical-back (t ∷ a) b h = Canonical-back a b h.2

Canonical-front : (a b : TermList) → Canonical (a ++ b) → Canonical a
Canonical-front [] b h = tt
Canonical-front (t ∷ a) b h = (h.0, Ahead-front t.mono a b h.1, Canonical-front a b h.2)

-- another rest behind the same front
Canonical-swap : (a b c : TermList) → Canonical (a ++ b) → Canonical c → ((m : Exponents) → Ahead m b → Ahead m c) → Canonical (a ++ c)
Canonical-swap [] b c h k g = k
Canonical-swap (t ∷ a) b c h k g = (h.0, Ahead-++ t.mono a c (Ahead-front t.mono a b h.1) (g t.mono (Ahead-back t.mono a b h.1)), Canonical-swap a b c h.2 k g)

-- a term that stands where t does, before a canonical rest
put : (a b c : TermList) (t : Term) (v : ℤ) → Canonical (a ++ t ∷ b) → ¬ (v ≡ pos 0) → Ahead t.mono c → Canonical c → Canonical ((a ++ term t.mono v ∷ []) ++ c)
put a b c t v h n k l =
    rw (append_assoc a (term t.mono v ∷ []) c)
    (Canonical-swap a (t ∷ b) (term t.mono v ∷ c) h (n, k, l) (λ m x. (x.0, Ahead-more m t.mono c x.0 k)))

-- the rest alone
skip : (a b c : TermList) (t : Term) → Canonical (a ++ t ∷ b) → Ahead t.mono c → Canonical c → Canonical (a ++ c)
skip a b c t h k l = Canonical-swap a (t ∷ b) c h l (λ m x. Ahead-more m t.mono c x.0 k)

nonzero : (a b : TermList) (t : Term) → Canonical (a ++ t ∷ b) → ¬ (t.coef ≡ pos 0)
nonzero a b t h = (Canonical-back a (t ∷ b) h).0

ahead : (a b : TermList) (t : Term) → Canonical (a ++ t ∷ b) → Ahead t.mono b
ahead a b t h = (Canonical-back a (t ∷ b) h).1

rest : (a b : TermList) (t : Term) → Canonical (a ++ t ∷ b) → Canonical b
rest a b t h = (Canonical-back a (t ∷ b) h).2

pub take_left : (p q out left right : TermList) (t : Term) → Merging p q out (t ∷ left) right → Ahead t.mono right → Merging p q (out ++ term t.mono t.coef ∷ []) left right
take_left p q out left right t h k = record {
  left_in_order = put out left left t t.coef h.left_in_order (nonzero out left t h.left_in_order) (ahead out left t h.left_in_order) (rest out left t h.left_in_order);
  right_in_order = put out left right t t.coef h.left_in_order (nonzero out left t h.left_in_order) k (Canonical-back out right h.right_in_order);
  adds_up = λ m. (let e = h.adds_up m in let f = coef-++ out (term t.mono t.coef ∷ []) m in omega (arith, ints));
}

pub take_right : (p q out left right : TermList) (t : Term) → Merging p q out left (t ∷ right) → Ahead t.mono left → Merging p q (out ++ term t.mono t.coef ∷ []) left right
take_right p q out left right t h k = record {
  left_in_order = put out right left t t.coef h.right_in_order (nonzero out right t h.right_in_order) k (Canonical-back out left h.left_in_order);
  right_in_order = put out right right t t.coef h.right_in_order (nonzero out right t h.right_in_order) (ahead out right t h.right_in_order) (rest out right t h.right_in_order);
  adds_up = λ m. (let e = h.adds_up m in let f = coef-++ out (term t.mono t.coef ∷ []) m in omega (arith, ints));
}

sum_at : (b : Bool) (v w x y z : ℤ) (s : ℤ) → (x +ℤ (cond b v (pos 0) +ℤ y)) +ℤ (cond b w (pos 0) +ℤ z) ≡ s → ((x +ℤ (cond b (v +ℤ w) (pos 0) +ℤ pos 0)) +ℤ y) +ℤ z ≡ s
sum_at true v w x y z s e = omega (arith, ints)
sum_at false v w x y z s e = omega (arith, ints)

gone_at : (b : Bool) (v w x y z : ℤ) (s : ℤ) → v +ℤ w ≡ pos 0 → (x +ℤ (cond b v (pos 0) +ℤ y)) +ℤ (cond b w (pos 0) +ℤ z) ≡ s → (x +ℤ y) +ℤ z ≡ s
gone_at true v w x y z s h e = omega (arith, ints)
gone_at false v w x y z s h e = omega (arith, ints)

pub take_both : (p q out left right : TermList) (t u : Term) → t.mono ≡ u.mono → ¬ (t.coef +ℤ u.coef ≡ pos 0) → Merging p q out (t ∷ left) (u ∷ right) → Merging p q (out ++ term t.mono (t.coef +ℤ u.coef) ∷ []) left right
take_both p q out left right t u d n h = record {
  left_in_order = put out left left t (t.coef +ℤ u.coef) h.left_in_order n (ahead out left t h.left_in_order) (rest out left t h.left_in_order);
  right_in_order = put out left right t (t.coef +ℤ u.coef) h.left_in_order n (subst (λ m. Ahead m right) (sym d) (ahead out right u h.right_in_order)) (rest out right u h.right_in_order);
  adds_up = λ m.
      let e = subst (λ k. (coef out m +ℤ (cond (same_mono t.mono m) t.coef (pos 0) +ℤ coef left m)) +ℤ (cond (same_mono k m) u.coef (pos 0) +ℤ coef right m) ≡ coef p m +ℤ coef q m) (sym d) (h.adds_up m) in
      ap (λ x. (x +ℤ coef left m) +ℤ coef right m) (coef-++ out (term t.mono (t.coef +ℤ u.coef) ∷ []) m) ∙ sum_at (same_mono t.mono m) t.coef u.coef _ _ _ _ e;
}

pub skip_both : (p q out left right : TermList) (t u : Term) → t.mono ≡ u.mono → t.coef +ℤ u.coef ≡ pos 0 → Merging p q out (t ∷ left) (u ∷ right) → Merging p q out left right
skip_both p q out left right t u d n h = record {
  left_in_order = skip out left left t h.left_in_order (ahead out left t h.left_in_order) (rest out left t h.left_in_order);
  right_in_order = skip out right right u h.right_in_order (ahead out right u h.right_in_order) (rest out right u h.right_in_order);
  adds_up = λ m.
      let e = subst (λ k. (coef out m +ℤ (cond (same_mono t.mono m) t.coef (pos 0) +ℤ coef left m)) +ℤ (cond (same_mono k m) u.coef (pos 0) +ℤ coef right m) ≡ coef p m +ℤ coef q m) (sym d) (h.adds_up m) in
      gone_at (same_mono t.mono m) t.coef u.coef _ _ _ _ n e;
}

-- at the end of one rest, what is left of the other is taken whole
pub merge_done : (p q out left right : TermList) → Canonical q → Merging p q out left right → (left ≡ []) ⊎ (right ≡ []) → (out ++ left) ++ right ≡ plus p q
merge_done p q out left right k h (inl e) =
    ap (λ y. (out ++ y) ++ right) e ∙ ap (λ y. y ++ right) (append-nil out)
    ∙ plus_is p q (out ++ right) k h.right_in_order
    (λ m. coef-++ out right m ∙ zeros (coef out m) (coef left m) (coef right m) _ (ap (λ y. coef y m) e) (h.adds_up m))
  where
    zeros : (x l y z : ℤ) → l ≡ pos 0 → (x +ℤ l) +ℤ y ≡ z → x +ℤ y ≡ z
    zeros x l y z g e = omega (arith, ints)
merge_done p q out left right k h (inr e) =
    ap (λ y. (out ++ left) ++ y) e ∙ append-nil (out ++ left)
    ∙ plus_is p q (out ++ left) k h.left_in_order
    (λ m. coef-++ out left m ∙ zeros (coef out m) (coef left m) (coef right m) _ (ap (λ y. coef y m) e) (h.adds_up m))
  where
    zeros : (x y r z : ℤ) → r ≡ pos 0 → (x +ℤ y) +ℤ r ≡ z → x +ℤ y ≡ z
    zeros x y r z g e = omega (arith, ints)

-- ---- by places in the two lists
open_at : (i : ℕ) (p : TermList) (a : Term) → i < length p → a ≡ get_or p i a → drop i p ≡ a ∷ drop (i + 1) p
open_at i p a h e = drop_more p i a h ∙ ap (λ y. y ∷ drop (i + 1) p) (sym e)

pub told_before : (m k : Exponents) (o : Ordering) → o ≡ graded m k → Told m k o
told_before m k o e = subst (Told m k) (sym e) (graded_told m k)

pub merge_less : (p q out out2 : TermList) (i j : ℕ) (a b : Term) → i < length p → j < length q → a ≡ get_or p i a → b ≡ get_or q j b → Less ≡ graded a.mono b.mono → out2 ≡ out ++ a ∷ []
    → Merging p q out (drop i p) (drop j q) → Merging p q out2 (drop (i + 1) p) (drop j q)
merge_less p q out out2 i j a b h k e f g o m =
    let d = open_at j q b k f in
    let r : Merging p q out (a ∷ drop (i + 1) p) (drop j q) = subst (λ y. Merging p q out y (drop j q)) (open_at i p a h e) m in
    let t : Before a.mono b.mono = told_before a.mono b.mono Less g in
    let c : Canonical (b ∷ drop (j + 1) q) = subst Canonical d (Canonical-back out (drop j q) m.right_in_order) in
    let w : Ahead a.mono (drop j q) = subst (Ahead a.mono) (sym d) (t, Ahead-more a.mono b.mono (drop (j + 1) q) t c.1) in
    subst (λ y. Merging p q y (drop (i + 1) p) (drop j q)) (sym o) (take_left p q out (drop (i + 1) p) (drop j q) a r w)

pub merge_more : (p q out out2 : TermList) (i j : ℕ) (a b : Term) → i < length p → j < length q → a ≡ get_or p i a → b ≡ get_or q j b → Greater ≡ graded a.mono b.mono → out2 ≡ out ++ b ∷ []
    → Merging p q out (drop i p) (drop j q) → Merging p q out2 (drop i p) (drop (j + 1) q)
merge_more p q out out2 i j a b h k e f g o m =
    let d = open_at i p a h e in
    let r : Merging p q out (drop i p) (b ∷ drop (j + 1) q) = subst (λ y. Merging p q out (drop i p) y) (open_at j q b k f) m in
    let t : Before b.mono a.mono = told_before a.mono b.mono Greater g in
    let c : Canonical (a ∷ drop (i + 1) p) = subst Canonical d (Canonical-back out (drop i p) m.left_in_order) in
    let w : Ahead b.mono (drop i p) = subst (Ahead b.mono) (sym d) (t, Ahead-more b.mono a.mono (drop (i + 1) p) t c.1) in
    subst (λ y. Merging p q y (drop i p) (drop (j + 1) q)) (sym o) (take_right p q out (drop i p) (drop (j + 1) q) b r w)

both_open : (p q out : TermList) (i j : ℕ) (a b : Term) → i < length p → j < length q → a ≡ get_or p i a → b ≡ get_or q j b → Merging p q out (drop i p) (drop j q) → Merging p q out (a ∷ drop (i + 1) p) (b ∷ drop (j + 1) q)
both_open p q out i j a b h k e f m =
    subst (λ y. Merging p q out y (b ∷ drop (j + 1) q)) (open_at i p a h e) (subst (λ y. Merging p q out (drop i p) y) (open_at j q b k f) m)

pub merge_equal : (p q out out2 : TermList) (i j : ℕ) (a b : Term) (c : ℤ) → i < length p → j < length q → a ≡ get_or p i a → b ≡ get_or q j b → Equal ≡ graded a.mono b.mono → c ≡ a.coef +ℤ b.coef → ¬ (c ≡ pos 0) → out2 ≡ out ++ term a.mono c ∷ []
    → Merging p q out (drop i p) (drop j q) → Merging p q out2 (drop (i + 1) p) (drop (j + 1) q)
merge_equal p q out out2 i j a b c h k e f g s n o m =
    subst (λ y. Merging p q y (drop (i + 1) p) (drop (j + 1) q)) (ap (λ y. out ++ term a.mono y ∷ []) (sym s) ∙ sym o)
    (take_both p q out (drop (i + 1) p) (drop (j + 1) q) a b (told_before a.mono b.mono Equal g) (λ z. n (s ∙ z)) (both_open p q out i j a b h k e f m))

pub merge_gone : (p q out out2 : TermList) (i j : ℕ) (a b : Term) → i < length p → j < length q → a ≡ get_or p i a → b ≡ get_or q j b → Equal ≡ graded a.mono b.mono → a.coef +ℤ b.coef ≡ pos 0 → out2 ≡ out
    → Merging p q out (drop i p) (drop j q) → Merging p q out2 (drop (i + 1) p) (drop (j + 1) q)
merge_gone p q out out2 i j a b h k e f g s o m =
    subst (λ y. Merging p q y (drop (i + 1) p) (drop (j + 1) q)) (sym o)
    (skip_both p q out (drop (i + 1) p) (drop (j + 1) q) a b (told_before a.mono b.mono Equal g) s (both_open p q out i j a b h k e f m))
