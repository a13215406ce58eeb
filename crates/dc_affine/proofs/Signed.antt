-- Numbers with a sign turned, one after another, and the atom of them.
use Rattle.std.specs.Prelude.{◌≡◌, ℕ, ◌+◌, ◌≤◌, ◌<◌, ◌≤ℤ◌, Bool, List, [], ◌∷◌, ◌++◌, map, take, length, ℤ, pos, ◌-ℤ◌, get_or, unsigned_abs, refl}
use Rattle.std.specs.List.{AllByRecursion}
use Rattle.std.proofs.Common.{◌∙◌, sym, ap, ap₂, subst, arith, take_all}
use Rattle.std.proofs.lemmas.Int.{ints}
use Rattle.std.proofs.lemmas.List.{map_more}
use Rattle.dc_math.specs.Members.{each_all, each-map}
use Rattle.dc_poly.specs.Terms.{Exponents, TermList, coef, Polynomial}
use Rattle.dc_poly.specs.Sums.{zeros}
use Rattle.dc_poly.specs.Affine.{units}
use Rattle.dc_affine.specs.declared.atom.Atom.{Atom}
use Rattle.dc_affine.specs.Atoms.{most_constant}
use Rattle.dc_affine.specs.Gaps.{signed, signed_coef, gap_atom}

pub signed_next : (b : Bool) (xs : List ℤ) (k : ℕ) (o p : List ℤ) (y : ℤ) → k < length xs → y ≡ signed b (get_or xs k (pos 0)) → p ≡ o ++ y ∷ [] → o ≡ map (signed b) (take k xs) → p ≡ map (signed b) (take (k + 1) xs)
signed_next b xs k o p y h e f i = f ∙ ap₂ (λ u v. u ++ v ∷ []) i e ∙ sym (map_more (signed b) xs k (pos 0) h)

pub signed_done : (b : Bool) (xs : List ℤ) (k : ℕ) (o : List ℤ) → length xs ≤ k → o ≡ map (signed b) (take k xs) → o ≡ map (signed b) xs
signed_done b xs k o h i = i ∙ ap (map (signed b)) (take_all k xs h)

pub ruleset signing = (signed_done)

-- the numbers that are read of a form
abbrev pub IsWithin : ℤ → Type 0
IsWithin x = unsigned_abs x ≤ most_constant

pub read_within : (p : TermList) (us : List Exponents) (xs : List ℤ) → xs ≡ map (coef p) us → ((u : Exponents) → unsigned_abs (coef p u) ≤ most_constant) → AllByRecursion (λ x. unsigned_abs x ≤ most_constant) xs
read_within p us xs e h = subst (AllByRecursion IsWithin) (sym e) (each-map IsWithin (coef p) us (each_all (λ u. IsWithin (coef p u)) us h))

signed_coefs : (b : Bool) (p : TermList) (us : List Exponents) → map (signed b) (map (coef p) us) ≡ map (signed_coef b p) us
signed_coefs b p [] = refl
signed_coefs b p (u ∷ us) = ap (λ y. signed b (coef p u) ∷ y) (signed_coefs b p us)

pub atom_made : (p : Polynomial) (b : Bool) (less z c : ℤ) (xs cs : List ℤ) → xs ≡ map (coef p.terms) (units p.places) → cs ≡ map (signed b) xs → z ≡ coef p.terms (zeros p.places) → c ≡ signed b z → pos 0 ≤ℤ less → record { c0 = c -ℤ less; coefs = cs } ≡ gap_atom p b (unsigned_abs less)
atom_made p b less z c xs cs e f g h l = ap₂ atom (ap₂ (λ u v. u -ℤ v) (h ∙ ap (signed b) g) (whole less l)) (f ∙ ap (map (signed b)) e ∙ signed_coefs b p.terms (units p.places))
  where
    atom : ℤ → List ℤ → Atom
    atom x y = record { c0 = x; coefs = y }

    whole : (x : ℤ) → pos 0 ≤ℤ x → x ≡ pos (unsigned_abs x)
    whole x l = omega (arith, ints)
