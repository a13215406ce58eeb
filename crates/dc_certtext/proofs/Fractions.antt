-- Fractions and items: each has one spelling.
use Rattle.std.specs.Prelude.{◌≡◌, ◌⊎◌, ℕ, zero, suc, ◌≤◌, ◌<◌, ◌^◌, Bool, true, false, eqb, cond, [], ◌∷◌, ◌++◌, ℤ, pos, negsuc, ◌≤ℤ◌, unsigned_abs, Option, Some, None, MatchOption, refl}
use Rattle.std.proofs.Common.{sym, ◌∙◌, ap, ap₂, subst, arith, inl, inr}
use Rattle.std.proofs.lemmas.Int.{ints}
use Rattle.std.specs.Fmt.{decimal, signed_decimal}
use Rattle.dc_math.specs.Gcd.{gcd}
use Rattle.dc_frac.specs.declared.Frac.{Frac}
use Rattle.dc_frac.specs.Fits.{IsSmall}
use Rattle.dc_math.specs.Tests.{is_zero}
use Rattle.dc_frac.specs.Value.{value}
use Rattle.dc_cert.specs.declared.sparse.Item.{Item}
use Rattle.dc_cert.specs.Vectors.{IsItem}
use Rattle.dc_cert.proofs.SameParts.{same_parts}
use Rattle.dc_lines.specs.Bytes.{Bytes}
use Rattle.dc_certtext.specs.Words.{den_text, frac_text, item_text}
use Rattle.dc_lines.specs.Cuts.{Lacks, Starts, until, onward}
use Rattle.dc_lines.proofs.Cutting.{tail_of, until-append, onward-append, cut_whole, same_cut, lacks-append}
use Rattle.std.proofs.lemmas.Bool.{ne_eqb}
use Rattle.dc_lines.proofs.Numerals.{digits-lack, decimal_digits, decimal_one, whole_lacks, whole_one}

-- ---- denominators
den_by : (n : ℕ) (t : Bool) → eqb n 1 ≡ t → den_text n ≡ cond t [] (47 ∷ decimal n)
den_by n t e = ap (λ b. cond b [] (47 ∷ decimal n)) e

pub den_one_is : den_text 1 ≡ []
den_one_is = refl

pub den_more : (n : ℕ) → 2 ≤ n → den_text n ≡ 47 ∷ decimal n
den_more n h = den_by n false (ne_eqb n 1 (λ e. omega arith))

pub den-starts : (n : ℕ) → Starts 47 (den_text n)
den-starts n = by (eqb n 1)
  where
    by : (t : Bool) → Starts 47 (cond t [] (47 ∷ decimal n))
    by true = tt
    by false = refl

data Den (n : ℕ) : Type 0 where
  none : n ≡ 1 → Den n
  some : 2 ≤ n → Den n

den_cases : (n : ℕ) → 1 ≤ n → Den n
den_cases zero h = absurd (omega arith)
den_cases (suc zero) h = none refl
den_cases (suc (suc n)) h = some (omega arith)

nil_not : (x : ℕ) (u : Bytes) → [] ≡ x ∷ u → ⊥
nil_not x u e = cc

pub refuse_sign : (w : Bytes) → ¬ (w ≡ []) → ((r : Bytes) → ¬ (w ≡ 47 ∷ r)) → (n : ℕ) → 1 ≤ n → n < 2 ^ 127 → ¬ (den_text n ≡ w)
refuse_sign w k g n h l e = by (den_cases n h)
  where
    by : Den n → ⊥
    by (none q) = k (sym e ∙ ap den_text q)
    by (some q) = g (decimal n) (sym e ∙ den_more n q)

pub refuse_den : (w r : Bytes) → w ≡ 47 ∷ r → ((n : ℕ) → n < 2 ^ 127 → ¬ (decimal n ≡ r)) → (n : ℕ) → 1 ≤ n → n < 2 ^ 127 → ¬ (den_text n ≡ w)
refuse_den w r i g n h l e = by (den_cases n h)
  where
    by : Den n → ⊥
    by (none q) = nil_not 47 r (sym (ap den_text q) ∙ e ∙ i)
    by (some q) = g n l (tail_of 47 (decimal n) r (sym (den_more n q) ∙ e ∙ i))

pub refuse_low : (w r : Bytes) (d : ℕ) → w ≡ 47 ∷ r → d < 2 → decimal d ≡ r → (n : ℕ) → 1 ≤ n → n < 2 ^ 127 → ¬ (den_text n ≡ w)
refuse_low w r d i b g n h l e = by (den_cases n h)
  where
    by : Den n → ⊥
    by (none q) = nil_not 47 r (sym (ap den_text q) ∙ e ∙ i)
    by (some q) = let f = decimal_one n d l (omega arith) (tail_of 47 (decimal n) r (sym (den_more n q) ∙ e ∙ i) ∙ sym g) in omega arith

pub den_read : (w r : Bytes) (n : ℕ) → w ≡ 47 ∷ r → 2 ≤ n → decimal n ≡ r → den_text n ≡ w
den_read w r n i h e = den_more n h ∙ ap (λ l. 47 ∷ l) e ∙ sym i

pub ruleset dens = (refuse_sign, refuse_den, refuse_low, den_read)

den_same : (m n : ℕ) → 1 ≤ m → 1 ≤ n → m < 2 ^ 127 → n < 2 ^ 127 → den_text m ≡ den_text n → m ≡ n
den_same m n h k l j e = by (den_cases m h) (den_cases n k)
  where
    by : Den m → Den n → m ≡ n
    by (none p) (none q) = p ∙ sym q
    by (none p) (some q) = absurd (nil_not 47 (decimal n) (sym (ap den_text p) ∙ e ∙ den_more n q))
    by (some p) (none q) = absurd (nil_not 47 (decimal m) (sym (ap den_text q) ∙ sym e ∙ den_more m p))
    by (some p) (some q) = decimal_one m n l j (tail_of 47 (decimal m) (decimal n) (sym (den_more m p) ∙ e ∙ den_more n q))

-- ---- fractions
size_positive : (d : ℤ) → pos 1 ≤ℤ d → 1 ≤ unsigned_abs d
size_positive (pos n) h = omega (arith, ints)
size_positive (negsuc n) h = absurd (omega (arith, ints))

size_same : (c d : ℤ) → pos 1 ≤ℤ c → pos 1 ≤ℤ d → unsigned_abs c ≡ unsigned_abs d → c ≡ d
size_same (pos m) (pos n) h k e = ap pos e
size_same (pos m) (negsuc n) h k e = absurd (omega (arith, ints))
size_same (negsuc m) d h k e = absurd (omega (arith, ints))

frac_cut : (f : Frac) (n : ℤ) (w r : Bytes) → unsigned_abs n < 2 ^ 127 → w ≡ signed_decimal n ++ r → Starts 47 r → frac_text f ≡ w → (f.num ≡ n) × (den_text (unsigned_abs f.den) ≡ r)
frac_cut f n w r h q s e =
    let c = same_cut 47 (signed_decimal f.num) (signed_decimal n) (den_text (unsigned_abs f.den)) r (whole_lacks 47 f.num (inr refl) f.small) (whole_lacks 47 n (inr refl) h) (den-starts (unsigned_abs f.den)) s (e ∙ q) in
    (whole_one f.num n f.small h c.0, c.1)

pub frac_one : (f g : Frac) → IsSmall f.den → IsSmall g.den → frac_text f ≡ frac_text g → f ≡ g
frac_one f g h k e =
    let c = frac_cut f g.num (frac_text g) (den_text (unsigned_abs g.den)) g.small refl (den-starts (unsigned_abs g.den)) e in
    same_parts f g c.0 (size_same f.den g.den f.positive g.positive (den_same (unsigned_abs f.den) (unsigned_abs g.den) (size_positive f.den f.positive) (size_positive g.den g.positive) h k c.1))

-- the pieces of a word that is cut at its first `/`
pub refuse_front : (w u r : Bytes) → u ≡ until 47 w → r ≡ onward 47 w → ((z : ℤ) → unsigned_abs z < 2 ^ 127 → ¬ (signed_decimal z ≡ u)) → (f : Frac) → IsSmall f.den → ¬ (frac_text f ≡ w)
refuse_front w u r a b g f h e = g f.num f.small (sym (until-append 47 (signed_decimal f.num) (den_text (unsigned_abs f.den)) (whole_lacks 47 f.num (inr refl) f.small) (den-starts (unsigned_abs f.den))) ∙ ap (until 47) e ∙ sym a)

rest_is : (w u r : Bytes) (f : Frac) → r ≡ onward 47 w → frac_text f ≡ w → den_text (unsigned_abs f.den) ≡ r
rest_is w u r f b e = sym (onward-append 47 (signed_decimal f.num) (den_text (unsigned_abs f.den)) (whole_lacks 47 f.num (inr refl) f.small) (den-starts (unsigned_abs f.den))) ∙ ap (onward 47) e ∙ sym b

pub refuse_rest : (w u r : Bytes) → u ≡ until 47 w → r ≡ onward 47 w → ((n : ℕ) → 1 ≤ n → n < 2 ^ 127 → ¬ (den_text n ≡ r)) → (f : Frac) → IsSmall f.den → ¬ (frac_text f ≡ w)
refuse_rest w u r a b g f h e = g (unsigned_abs f.den) (size_positive f.den f.positive) h (rest_is w u r f b e)

frac_read : (w u r : Bytes) (n d : ℤ) → u ≡ until 47 w → r ≡ onward 47 w → signed_decimal n ≡ u → den_text (unsigned_abs d) ≡ r → signed_decimal n ++ den_text (unsigned_abs d) ≡ w
frac_read w u r n d a b p q = ap₂ ◌++◌ (p ∙ a) (q ∙ b) ∙ cut_whole 47 w

pub frac_is : (w u r : Bytes) (f : Frac) (n d : ℤ) → f.num ≡ n → f.den ≡ d → u ≡ until 47 w → r ≡ onward 47 w → signed_decimal n ≡ u → den_text (unsigned_abs d) ≡ r → frac_text f ≡ w
frac_is w u r f n d i j a b p q = ap₂ (λ x y. signed_decimal x ++ den_text (unsigned_abs y)) i j ∙ frac_read w u r n d a b p q

pub refuse_reduced : (w u r : Bytes) (n d : ℤ) → u ≡ until 47 w → r ≡ onward 47 w → unsigned_abs n < 2 ^ 127 → signed_decimal n ≡ u → pos 1 ≤ℤ d → unsigned_abs d < 2 ^ 127 → den_text (unsigned_abs d) ≡ r
    → ¬ (gcd (unsigned_abs n) (unsigned_abs d) ≡ 1) → (f : Frac) → IsSmall f.den → ¬ (frac_text f ≡ w)
refuse_reduced w u r n d a b s p l c q g f h e =
    let k = whole_one f.num n f.small s (sym (until-append 47 (signed_decimal f.num) (den_text (unsigned_abs f.den)) (whole_lacks 47 f.num (inr refl) f.small) (den-starts (unsigned_abs f.den))) ∙ ap (until 47) e ∙ sym a ∙ sym p) in
    let m = den_same (unsigned_abs f.den) (unsigned_abs d) (size_positive f.den f.positive) (size_positive d l) h c (rest_is w u r f b e ∙ sym q) in
    g (sym (ap₂ (λ x y. gcd (unsigned_abs x) y) k m) ∙ f.reduced)

pub frac_end : (w u r : Bytes) (n d : ℤ) (o : Option Frac) → u ≡ until 47 w → r ≡ onward 47 w → unsigned_abs n < 2 ^ 127 → signed_decimal n ≡ u → pos 1 ≤ℤ d → unsigned_abs d < 2 ^ 127 → den_text (unsigned_abs d) ≡ r
    → MatchOption o (¬ (gcd (unsigned_abs n) (unsigned_abs d) ≡ 1)) (λ f. (f.num ≡ n) × (f.den ≡ d))
    → MatchOption o ((f : Frac) → IsSmall f.den → ¬ (frac_text f ≡ w)) (λ f. IsSmall f.den × (frac_text f ≡ w))
frac_end w u r n d None a b s p l c q h = refuse_reduced w u r n d a b s p l c q h
frac_end w u r n d (Some f) a b s p l c q h = (subst (λ y. unsigned_abs y < 2 ^ 127) (sym h.1) c, frac_is w u r f n d h.0 h.1 a b p q)

pub ruleset fractions = (refuse_front, refuse_rest, refuse_reduced, frac_is)

-- ---- items
pub frac_lacks : (b : ℕ) (f : Frac) → (b < 45) ⊎ (57 < b) → IsSmall f.den → Lacks b (frac_text f)
frac_lacks b f o h = lacks-append b (signed_decimal f.num) (den_text (unsigned_abs f.den)) (whole_lacks b f.num (inl o) f.small) (by (eqb (unsigned_abs f.den) 1))
  where
    by : (t : Bool) → Lacks b (cond t [] (47 ∷ decimal (unsigned_abs f.den)))
    by true = tt
    by false = ((λ e. omega (arith, o)), digits-lack b (decimal (unsigned_abs f.den)) (wider o) (decimal_digits (unsigned_abs f.den) h))
      where
        wider : (b < 45) ⊎ (57 < b) → (b < 48) ⊎ (57 < b)
        wider (inl x) = inl (omega arith)
        wider (inr x) = inr x

pub index-lacks : (b n : ℕ) → (b < 48) ⊎ (57 < b) → n ≤ 8191 → Lacks b (decimal n)
index-lacks b n o h = digits-lack b (decimal n) o (decimal_digits n (omega arith))

pub item-lacks : (i : Item) → IsItem i → Lacks 32 (item_text i)
item-lacks i h = lacks-append 32 (decimal i.index) (58 ∷ frac_text i.value) (index-lacks 32 i.index (inl (omega arith)) h.low) ((λ e. omega arith), frac_lacks 32 i.value (inl (omega arith)) h.small)

item_cut : (i : Item) (w u r : Bytes) → IsItem i → u ≡ until 58 w → r ≡ onward 58 w → item_text i ≡ w → (decimal i.index ≡ u) × (58 ∷ frac_text i.value ≡ r)
item_cut i w u r h a b e = (
  sym (until-append 58 (decimal i.index) (58 ∷ frac_text i.value) (index-lacks 58 i.index (inr (omega arith)) h.low) refl) ∙ ap (until 58) e ∙ sym a,
  sym (onward-append 58 (decimal i.index) (58 ∷ frac_text i.value) (index-lacks 58 i.index (inr (omega arith)) h.low) refl) ∙ ap (onward 58) e ∙ sym b,
)

pub item_one : (i j : Item) → IsItem i → IsItem j → item_text i ≡ item_text j → i ≡ j
item_one i j h k e =
    let c = item_cut i (item_text j) (decimal j.index) (58 ∷ frac_text j.value) h (sym (until-append 58 (decimal j.index) (58 ∷ frac_text j.value) (index-lacks 58 j.index (inr (omega arith)) k.low) refl))
    (sym (onward-append 58 (decimal j.index) (58 ∷ frac_text j.value) (index-lacks 58 j.index (inr (omega arith)) k.low) refl)) e in
    pair i j (decimal_one i.index j.index (let l = h.low in omega arith) (let l = k.low in omega arith) c.0) (frac_one i.value j.value h.small k.small (tail_of 58 (frac_text i.value) (frac_text j.value) c.1))
  where
    pair : (i j : Item) → i.index ≡ j.index → i.value ≡ j.value → i ≡ j
    pair i j a b = ap₂ (λ x y. record { index = x; value = y }) a b

pub refuse_index : (w u r : Bytes) → u ≡ until 58 w → r ≡ onward 58 w → ((n : ℕ) → n < 2 ^ 127 → ¬ (decimal n ≡ u)) → (i : Item) → IsItem i → ¬ (item_text i ≡ w)
refuse_index w u r a b g i h e = g i.index (let l = h.low in omega arith) (item_cut i w u r h a b e).0

pub refuse_colon : (w u r : Bytes) → u ≡ until 58 w → r ≡ onward 58 w → ((v : Bytes) → ¬ (r ≡ 58 ∷ v)) → (i : Item) → IsItem i → ¬ (item_text i ≡ w)
refuse_colon w u r a b g i h e = g (frac_text i.value) (sym (item_cut i w u r h a b e).1)

pub refuse_value : (w u r v : Bytes) → u ≡ until 58 w → r ≡ onward 58 w → r ≡ 58 ∷ v → ((f : Frac) → IsSmall f.den → ¬ (frac_text f ≡ v)) → (i : Item) → IsItem i → ¬ (item_text i ≡ w)
refuse_value w u r v a b c g i h e = g i.value h.small (tail_of 58 (frac_text i.value) v ((item_cut i w u r h a b e).1 ∙ c))

pub refuse_high : (w u r : Bytes) (n : ℕ) → u ≡ until 58 w → r ≡ onward 58 w → n < 2 ^ 127 → decimal n ≡ u → 8191 < n → (i : Item) → IsItem i → ¬ (item_text i ≡ w)
refuse_high w u r n a b l d g i h e = let k = h.low in let q = decimal_one i.index n (omega arith) l ((item_cut i w u r h a b e).0 ∙ sym d) in omega arith

pub refuse_nothing : (w u r v : Bytes) (f : Frac) → u ≡ until 58 w → r ≡ onward 58 w → r ≡ 58 ∷ v → IsSmall f.den → frac_text f ≡ v → is_zero (value f) ≡ true → (i : Item) → IsItem i → ¬ (item_text i ≡ w)
refuse_nothing w u r v f a b c s d z i h e =
    let q = frac_one i.value f h.small s (tail_of 58 (frac_text i.value) v ((item_cut i w u r h a b e).1 ∙ c) ∙ sym d) in
    differ (sym z ∙ ap (λ x. is_zero (value x)) (sym q) ∙ h.nonzero)
  where
    differ : true ≡ false → ⊥
    differ e = cc

pub item_is : (w u r v : Bytes) (n : ℕ) (f : Frac) (i : Item) → i ≡ (record { index = n; value = f }) → u ≡ until 58 w → r ≡ onward 58 w → decimal n ≡ u → r ≡ 58 ∷ v → frac_text f ≡ v → item_text i ≡ w
item_is w u r v n f i q a b c d e = ap item_text q ∙ ap₂ ◌++◌ (c ∙ a) (ap (λ l. 58 ∷ l) e ∙ sym d ∙ b) ∙ cut_whole 58 w

pub ruleset items = (refuse_index, refuse_colon, refuse_value, refuse_high, refuse_nothing, item_is)
