-- A polynomial of degree at most 2 in at most 11 places has at most 78 terms, so a normal form is light.
use Rattle.std.specs.Prelude.{◌≡◌, ℕ, suc, ◌+◌, ◌*◌, ◌≤◌, true, leb, List, [], ◌∷◌, map, length, unsigned_abs, refl}
use Rattle.std.specs.List.{AllByRecursion}
use Rattle.std.proofs.Common.{ap, arith}
use Rattle.std.proofs.lemmas.Bool.{and_parts, leb-true}
use Rattle.dc_math.specs.Members.{Among}
use Rattle.dc_math.specs.OrderedLists.{Ordered, no_longer}
use Rattle.dc_math.specs.Pascal.{higher}
use Rattle.dc_poly.specs.declared.monomial.Term.{Term}
use Rattle.dc_poly.specs.Terms.{Exponents, TermList, degree_of, weight, Ahead, Canonical, Places, Before}
use Rattle.dc_poly.specs.Monomials.{monomials_of}
use Rattle.dc_poly.specs.NormalForm.{most, coefs_fit, IsNormalForm, normal_weight}
use Rattle.dc_poly.proofs.Sizes.{mul_both}
use Rattle.dc_poly.proofs.Graded.{strict}
use Rattle.dc_poly.proofs.Listed.{list_ordered, list_every}
use Rattle.dc_poly.proofs.Counts.{pascal}

abbrev count : ℕ → ℕ → ℕ
count n d = length (monomials_of n d)

abbrev monos : TermList → List Exponents
monos p = map (λ (t : Term). t.mono) p

ahead : (m : Exponents) (p : TermList) → Ahead m p → AllByRecursion (Before m) (monos p)
ahead m [] h = tt
ahead m (t ∷ p) h = (h.0, ahead m p h.1)

in_order : (p : TermList) → Canonical p → Ordered Before (monos p)
in_order [] h = tt
in_order (t ∷ p) h = (ahead t.mono p h.1, in_order p h.2)

within : (n d : ℕ) (p : TermList) → Places n p → degree_of p ≤ d → AllByRecursion (λ m. Among m (monomials_of n d)) (monos p)
within n d [] h k = tt
within n d (t ∷ p) h k = (list_every n d t.mono (record { places = h.0; low = omega arith }), within n d p h.1 (omega arith))

length-monos : (p : TermList) → length (monos p) ≡ length p
length-monos [] = refl
length-monos (t ∷ p) = ap suc (length-monos p)

few_monomials : (n : ℕ) → n ≤ 11 → length (monomials_of n 2) ≤ 78
few_monomials n h =
    let a = pascal.empty n in let b = higher count pascal n 0 in let c = higher count pascal n 1 in
    bound n (length (monomials_of n 0)) (length (monomials_of n 1)) (length (monomials_of n 2)) h a b c
  where
    bound : (n x y z : ℕ) → n ≤ 11 → x ≡ 1 → 1 * y ≡ suc (n + 0) * x → 2 * z ≡ suc (n + 1) * y → z ≤ 78
    bound n x y z h a b c = let d : y ≡ suc n = (let e : suc (n + 0) * x ≡ suc (n + 0) * 1 = ap (λ i. suc (n + 0) * i) a in omega arith) in let f = mul_both (suc (n + 1)) 13 y 12 (omega arith) (omega arith) in omega arith

pub few_terms : (n : ℕ) (p : TermList) → n ≤ 11 → Canonical p → Places n p → degree_of p ≤ 2 → length p ≤ 78
few_terms n p h c j d =
    let a = no_longer Before strict (monomials_of n 2) (monos p) (list_ordered n 2) (in_order p c) (within n 2 p j d) in
    let b = length-monos p in
    let e = few_monomials n h in
    omega arith

weight_by_length : (p : TermList) → coefs_fit p ≡ true → weight p ≤ length p * most
weight_by_length [] h = omega arith
weight_by_length (t ∷ p) h =
    let q = and_parts (leb (unsigned_abs t.coef) most) (coefs_fit p) h in
    let a = leb-true (unsigned_abs t.coef) most q.0 in
    let r = weight_by_length p q.1 in
    omega arith

pub normal_light : (n : ℕ) (p : TermList) → n ≤ 11 → Canonical p → Places n p → IsNormalForm p → weight p ≤ normal_weight
normal_light n p h c j k =
    let l = few_terms n p h c j k.low in
    let e = weight_by_length p k.fits in
    let f = mul_both (length p) 78 most most l (omega arith) in
    omega arith
