-- The values and the sizes of forms and products.
use Rattle.std.specs.Prelude.{◌≡◌, ℕ, zero, suc, ◌+◌, ◌*◌, ◌^◌, ◌≤◌, ◌<◌, List, [], ◌∷◌, map, length, All, slice_index_or, unsigned_abs, ℤ, pos, ◌+ℤ◌, ◌*ℤ◌, ◌≤ℤ◌, refl}
use Rattle.std.specs.List.{AllByRecursion}
use Rattle.std.proofs.Common.{sym, ◌∙◌, ap, ap₂, subst, arith}
use Rattle.std.proofs.Math.Nat.{pow-zero, pow-succ'}
use Rattle.std.proofs.lemmas.Int.{ints}
use Rattle.std.proofs.lemmas.List.Elements.{All-from_recursion}
use Rattle.dc_math.specs.Members.{each-map_weaker}
use Rattle.dc_math.specs.Integers.{0≤ℤ-*ℤ, one-*ℤ, *ℤ-one}
use Rattle.dc_math.specs.WholeRing.{ring, reads, read_nat, same_form}
use Rattle.dc_math.specs.WholeVectors.{dot_ℤ, dot_ℤ-nil}
use Rattle.dc_poly.specs.Terms.{Polynomial, IsPolynomial, degree_of, weight, value, front, others}
use Rattle.dc_poly.specs.Sums.{constant, variable, sum_of, product_of, constant_of, variable_of, times}
use Rattle.dc_poly.specs.Conditions.{CanAdd, CanMul}
use Rattle.dc_poly.proofs.Values.{value-plus, value-times, value-constant, value-variable}
use Rattle.dc_poly.proofs.Sizes.{weight-constant, weight-plus, weight-times, mul_both, power_more}
use Rattle.dc_poly.proofs.Degrees.{degree-constant, degree-unit_at, degree-plus, degree-times}
use Rattle.dc_poly.proofs.Closed.{is_constant, is_variable, is_sum, is_product}
use Rattle.dc_affine.specs.declared.atom.Atom.{Atom}
use Rattle.dc_affine.specs.Atoms.{AllFit, IsAtom, atom_value}
use Rattle.dc_handelman.specs.Choices.{Choice, Rises, IsChoice, choices_of}
use Rattle.dc_handelman.proofs.Listed.{are_choices}
use Rattle.dc_handelman.specs.Products.{linear_of, form_of, factor_at, times_choice, product_at, products_of, factor_weight, IsProduct, atom_at, choice_value, FactorsHold, HaveValues, StayAboveZero}

-- ---- values
-- a point from a place on
past : ℕ → List ℤ → List ℤ
past zero xs = xs
past (suc k) xs = past k (others xs)

past-more : (k : ℕ) (xs : List ℤ) → past (suc k) xs ≡ others (past k xs)
unfolding past
past-more zero xs = refl
past-more (suc k) xs = past-more k (others xs)

past-front : (k : ℕ) (xs : List ℤ) → slice_index_or xs k (pos 0) ≡ front (past k xs)
unfolding past
past-front zero [] = refl
past-front zero (x ∷ xs) = refl
past-front (suc k) [] = past-front k []
past-front (suc k) (x ∷ xs) = past-front k xs

dot-front : (c : ℤ) (cs xs : List ℤ) → c *ℤ front xs +ℤ dot_ℤ cs (others xs) ≡ dot_ℤ (c ∷ cs) xs
dot-front c cs [] = rw (dot_ℤ-nil cs) (ring (c ∷ []) (λ ρ i. simp (i, read_nat ρ, reads) (same_form _ _ _ refl)))
dot-front c cs (x ∷ xs) = refl

value_linear : (n at : ℕ) (cs xs : List ℤ) → at + length cs ≤ n → value (linear_of n at cs).terms xs ≡ dot_ℤ cs (past at xs)
value_linear n at [] xs h = refl
value_linear n at (c ∷ cs) xs h =
    value-plus (times (constant_of c n) (variable_of at n)) (linear_of n (suc at) cs).terms xs
    ∙ ap₂ ◌+ℤ◌ (value-times (constant_of c n) (variable_of at n) xs ∙ ap₂ ◌*ℤ◌ (value-constant c n xs) (value-variable at n xs (omega arith) ∙ past-front at xs))
    (value_linear n (suc at) cs xs (omega arith) ∙ ap (dot_ℤ cs) (past-more at xs))
    ∙ dot-front c cs (past at xs)

pub value_form : (n : ℕ) (a : Atom) (xs : List ℤ) → IsAtom n a → value (form_of n a).terms xs ≡ atom_value a xs
unfolding past
value_form n a xs h =
    value-plus (constant_of a.c0 n) (linear_of n 0 a.coefs).terms xs ∙ ap₂ ◌+ℤ◌ (value-constant a.c0 n xs) (value_linear n 0 a.coefs xs (let l = h.few in omega arith))

value_factor : (n i : ℕ) (hyps : List Atom) (xs : List ℤ) → AllByRecursion (IsAtom n) hyps → value (factor_at (map (form_of n) hyps) i).terms xs ≡ atom_value (atom_at hyps i) xs
value_factor n i [] xs h = refl
value_factor n zero (a ∷ hyps) xs h = value_form n a xs h.0
value_factor n (suc i) (a ∷ hyps) xs h = value_factor n i hyps xs h.1

value_choice : (n : ℕ) (hyps : List Atom) (p : Polynomial) (c : Choice) (xs : List ℤ) → AllByRecursion (IsAtom n) hyps
    → value (times_choice (map (form_of n) hyps) p c).terms xs ≡ value p.terms xs *ℤ choice_value hyps c xs
value_choice n hyps p [] xs h = sym (*ℤ-one (value p.terms xs))
value_choice n hyps p (i ∷ c) xs h =
    value_choice n hyps (product_of p (factor_at (map (form_of n) hyps) i)) c xs h
    ∙ ap (λ y. y *ℤ choice_value hyps c xs) (value-times p.terms (factor_at (map (form_of n) hyps) i).terms xs ∙ ap (λ y. value p.terms xs *ℤ y) (value_factor n i hyps xs h))
    ∙ turn (value p.terms xs) (atom_value (atom_at hyps i) xs) (choice_value hyps c xs)
  where
    turn : (x y z : ℤ) → (x *ℤ y) *ℤ z ≡ x *ℤ (y *ℤ z)
    turn x y z = ring (x ∷ y ∷ z ∷ []) (λ ρ i j k. simp (i, j, k, reads) (same_form _ _ _ refl))

pub have_values : HaveValues
have_values n hyps c xs h = value_choice n hyps (constant (pos 1) n) c xs h ∙ ap (λ y. y *ℤ choice_value hyps c xs) (value-constant (pos 1) n xs) ∙ one-*ℤ (choice_value hyps c xs)

choice_above : (hyps : List Atom) (c : Choice) (xs : List ℤ) → FactorsHold hyps c xs → pos 0 ≤ℤ choice_value hyps c xs
choice_above hyps [] xs h = omega (arith, ints)
choice_above hyps (i ∷ c) xs h = 0≤ℤ-*ℤ (atom_value (atom_at hyps i) xs) (choice_value hyps c xs) h.0 (choice_above hyps c xs h.1)

pub stay_above_zero : StayAboveZero
stay_above_zero n hyps c xs h k = subst (λ y. pos 0 ≤ℤ y) (sym (have_values n hyps c xs h)) (choice_above hyps c xs k)

-- ---- sizes
-- after so many terms of a linear form
pub record IsLinear (n j : ℕ) (p : Polynomial) : Type 0 where
  pub places : p.places ≡ n
  pub kind : IsPolynomial p
  pub low : degree_of p.terms ≤ 1
  pub light : weight p.terms ≤ j * 2147483648

pub can_scale : (n at : ℕ) (c : ℤ) → unsigned_abs c ≤ 2147483647 → CanMul (constant c n) (variable at n)
can_scale n at c h = record {
  same_places = refl;
  low = (let a = degree-times (constant_of c n) (variable_of at n) in let b = degree-constant c n in let d = degree-unit_at n at in omega arith);
  light = (let a = weight-constant c n in omega arith);
}

scaled : (n at : ℕ) (c : ℤ) → n ≤ 11 → unsigned_abs c ≤ 2147483647 → IsLinear n 1 (product_of (constant c n) (variable at n))
scaled n at c f h = record {
  places = refl;
  kind = is_product (constant c n) (variable at n) (is_constant c n f (omega arith)) (is_variable at n f) (can_scale n at c h);
  low = (let a = degree-times (constant_of c n) (variable_of at n) in let b = degree-constant c n in let d = degree-unit_at n at in omega arith);
  light = (let a = weight-times (constant_of c n) (variable_of at n) in let b = weight-constant c n in omega arith);
}

can_join : (n i j : ℕ) (p q : Polynomial) → i + j ≤ 12 → IsLinear n i p → IsLinear n j q → CanAdd p q
can_join n i j p q h a b = record { same_places = b.places ∙ sym a.places; light = (let x = a.light in let y = b.light in omega arith) }

joined : (n i j : ℕ) (p q : Polynomial) → i + j ≤ 12 → IsLinear n i p → IsLinear n j q → IsLinear n (i + j) (sum_of p q)
joined n i j p q h a b = record {
  places = a.places;
  kind = is_sum p q a.kind b.kind (can_join n i j p q h a b);
  low = (let x = degree-plus p.terms q.terms in let y = a.low in let z = b.low in omega arith);
  light = (let x = weight-plus p.terms q.terms in let y = a.light in let z = b.light in omega arith);
}

pub is_linear : (n at : ℕ) (cs : List ℤ) → n ≤ 11 → length cs ≤ 11 → AllFit cs → IsLinear n (length cs) (linear_of n at cs)
is_linear n at [] f h k = record { places = refl; kind = is_constant (pos 0) n f (omega arith); low = (let b = degree-constant (pos 0) n in omega arith); light = (let w = weight-constant (pos 0) n in omega arith) }
is_linear n at (c ∷ cs) f h k =
    subst (λ j. IsLinear n j (linear_of n at (c ∷ cs))) (let j : 1 + length cs ≡ suc (length cs) = omega arith in j)
    (joined n 1 (length cs) (product_of (constant c n) (variable at n)) (linear_of n (suc at) cs) (omega arith) (scaled n at c f k.0) (is_linear n (suc at) cs f (omega arith) k.1))

-- what the sums require
pub can_add_rest : (n at : ℕ) (c : ℤ) (cs : List ℤ) → n ≤ 11 → suc (length cs) ≤ 11 → unsigned_abs c ≤ 2147483647 → AllFit cs → CanAdd (product_of (constant c n) (variable at n)) (linear_of n (suc at) cs)
can_add_rest n at c cs f h k l = can_join n 1 (length cs) _ _ (omega arith) (scaled n at c f k) (is_linear n (suc at) cs f (omega arith) l)

first_linear : (n : ℕ) (a : Atom) → n ≤ 11 → IsAtom n a → IsLinear n 1 (constant a.c0 n)
first_linear n a f h = record { places = refl; kind = is_constant a.c0 n f (let k = h.constant_within in omega arith); low = (let b = degree-constant a.c0 n in omega arith); light = (let w = weight-constant a.c0 n in let k = h.constant_within in omega arith) }

pub can_add_constant : (n : ℕ) (a : Atom) → n ≤ 11 → IsAtom n a → CanAdd (constant a.c0 n) (linear_of n 0 a.coefs)
can_add_constant n a f h = can_join n 1 (length a.coefs) _ _ (let l = h.few in omega arith) (first_linear n a f h) (is_linear n 0 a.coefs f (let l = h.few in omega arith) h.coefs_within)

pub is_factor : (n : ℕ) (a : Atom) → n ≤ 11 → IsAtom n a → IsProduct n 1 (form_of n a)
is_factor n a f h =
    let l = joined n 1 (length a.coefs) (constant a.c0 n) (linear_of n 0 a.coefs) (let l = h.few in omega arith) (first_linear n a f h) (is_linear n 0 a.coefs f (let l = h.few in omega arith) h.coefs_within) in
    let k = h.few in
    let b = mul_both (1 + length a.coefs) 12 2147483648 2147483648 (omega arith) (omega arith) in
    let w = l.light in
    record { places = l.places; kind = l.kind; low = l.low; light = one_power (weight (form_of n a).terms) (omega arith) }
  where
    one_power : (x : ℕ) → x ≤ factor_weight → x ≤ factor_weight ^ 1
    one_power x h = h

-- ---- a product under way
pub can_times : (n k : ℕ) (p f : Polynomial) → k ≤ 2 → IsProduct n k p → IsProduct n 1 f → CanMul p f
can_times n k p f h a b = record {
  same_places = b.places ∙ sym a.places;
  low = (let x = degree-times p.terms f.terms in let y = a.low in let z = b.low in omega arith);
  light =
      (let x = mul_both (weight p.terms) (factor_weight ^ 2) (weight f.terms) factor_weight (let y = a.light in let z = power_more factor_weight k 2 (omega arith) h in omega arith) b.light in
      omega arith);
}

pub is_times : (n k : ℕ) (p f : Polynomial) → k ≤ 2 → IsProduct n k p → IsProduct n 1 f → IsProduct n (suc k) (product_of p f)
is_times n k p f h a b = record {
  places = a.places;
  kind = is_product p f a.kind b.kind (can_times n k p f h a b);
  low = (let x = degree-times p.terms f.terms in let y = a.low in let z = b.low in omega arith);
  light =
      rw (pow-succ' factor_weight k)
      (let x = mul_both (weight p.terms) (factor_weight ^ k) (weight f.terms) factor_weight a.light b.light in let y = weight-times p.terms f.terms in turn (weight (product_of p f).terms) (factor_weight ^ k) (omega arith));
}
  where
    turn : (x y : ℕ) → x ≤ y * factor_weight → x ≤ factor_weight * y
    turn x y h = omega arith

pub is_more : (n j k : ℕ) (p : Polynomial) → j ≤ k → IsProduct n j p → IsProduct n k p
is_more n j k p h a = record {
  places = a.places;
  kind = a.kind;
  low = (let x = a.low in omega arith);
  light = (let x = a.light in let y = power_more factor_weight j k (omega arith) h in omega arith);
}

pub is_one : (n : ℕ) → n ≤ 11 → IsProduct n 0 (constant (pos 1) n)
is_one n f = record { places = refl; kind = is_constant (pos 1) n f (omega arith); low = (let b = degree-constant (pos 1) n in omega arith); light = (let w = weight-constant (pos 1) n in rw pow-zero (omega arith)) }

-- ---- all of them
each_factor : (n : ℕ) (hyps : List Atom) → n ≤ 11 → AllByRecursion (IsAtom n) hyps → AllByRecursion (IsProduct n 1) (map (form_of n) hyps)
each_factor n [] f h = tt
each_factor n (a ∷ hyps) f h = (is_factor n a f h.0, each_factor n hyps f h.1)

pub all_factors : (n : ℕ) (hyps : List Atom) → n ≤ 11 → AllByRecursion (IsAtom n) hyps → All (IsProduct n 1) (map (form_of n) hyps)
all_factors n hyps f h = All-from_recursion (IsProduct n 1) (map (form_of n) hyps) (each_factor n hyps f h)

-- the factor does not depend on what stands for one that is not there
pub factor_is : (fs : List Polynomial) (i : ℕ) (d : Polynomial) → i < length fs → slice_index_or fs i d ≡ factor_at fs i
factor_is [] i d h = absurd (omega arith)
factor_is (f ∷ fs) zero d h = refl
factor_is (f ∷ fs) (suc i) d h = factor_is fs i d (omega arith)

choice_product : (n k low : ℕ) (fs : List Polynomial) (p : Polynomial) (c : Choice) → All (IsProduct n 1) fs → Rises (length fs) low c → k + length c ≤ 3 → IsProduct n k p → IsProduct n (k + length c) (times_choice fs p c)
choice_product n k low fs p [] a r h i = subst (λ j. IsProduct n j p) (let q : k ≡ k + 0 = omega arith in q) i
choice_product n k low fs p (i ∷ c) a r h g =
    subst (λ j. IsProduct n j (times_choice fs p (i ∷ c))) (let q : suc k + length c ≡ k + suc (length c) = omega arith in q)
    (choice_product n (suc k) i fs (product_of p (factor_at fs i)) c a r.2 (omega arith) (is_times n k p (factor_at fs i) (omega arith) g (a i (constant (pos 0) 0) r.1)))

length-forms : (n : ℕ) (hyps : List Atom) → length (map (form_of n) hyps) ≡ length hyps
length-forms n [] = refl
length-forms n (a ∷ hyps) = ap suc (length-forms n hyps)

pub all_products : (n k : ℕ) (hyps : List Atom) → n ≤ 11 → k ≤ 3 → AllByRecursion (IsAtom n) hyps → All (IsProduct n k) (products_of n hyps k)
all_products n k hyps f l h =
    All-from_recursion (IsProduct n k) (products_of n hyps k)
    (each-map_weaker (IsChoice (length hyps) k) (IsProduct n k) (product_at n hyps) one (choices_of (length hyps) k) (are_choices (length hyps) k).only)
  where
    one : (c : Choice) → IsChoice (length hyps) k c → IsProduct n k (product_at n hyps c)
    one c i =
        is_more n (0 + length c) k (product_at n hyps c) (let w = i.few in omega arith)
        (choice_product n 0 0 (map (form_of n) hyps) (constant (pos 1) n) c (all_factors n hyps f h) (subst (λ m. Rises m 0 c) (sym (length-forms n hyps)) i.rises) (let w = i.few in omega arith) (is_one n f))
