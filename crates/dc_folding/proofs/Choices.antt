-- The products of choices of atoms are the products of the atoms' values.
use Rattle.std.specs.Prelude.{◌≡◌, ℕ, zero, suc, ◌+◌, ◌<◌, List, [], ◌∷◌, ◌++◌, map, length, ℤ}
use Rattle.std.proofs.Common.{refl, sym, ap, ap₂, ◌∙◌, subst, arith}
use Rattle.std.proofs.lemmas.List.{map-append}
use Rattle.dc_math.specs.Rational.{ℚ, ◌*ℚ◌, of_ℤ, of_ℤ-*ℤ}
use Rattle.dc_math.specs.Cones.{values_at}
use Rattle.dc_affine.specs.declared.atom.Atom.{Atom}
use Rattle.dc_affine.specs.Atoms.{atom_value}
use Rattle.dc_handelman.specs.Choices.{Choice, of_size, choices_of}
use Rattle.dc_handelman.specs.Products.{choice_value, atom_at}
use Rattle.dc_folding.proofs.Products.{exactly, products, by_each}

-- the values of atoms, as functions of points that are read as lists
module _ {X : Type 0} (state : X → List ℤ) where
  abbrev pub atom_values : List Atom → List (X → ℚ)
  atom_values hyps = map (λ a x. of_ℤ (atom_value a (state x))) hyps

  values-++ : (fs gs : List (X → ℚ)) (x : X) → values_at (fs ++ gs) x ≡ values_at fs x ++ values_at gs x
  values-++ [] gs x = refl
  values-++ (f ∷ fs) gs x = ap (λ ys. f x ∷ ys) (values-++ fs gs x)

  module _ (hyps : List Atom) (x : X) where
    abbrev choice : Choice → ℚ
    choice c = of_ℤ (choice_value hyps c (state x))

    -- each product times one factor
    times_first : (i : ℕ) (f : X → ℚ) → f x ≡ of_ℤ (atom_value (atom_at hyps i) (state x)) → (fs : List (X → ℚ)) (cs : List Choice) → values_at fs x ≡ map choice cs
        → values_at (map (by_each f) fs) x ≡ map choice (map (λ c. i ∷ c) cs)
    times_first i f e [] [] h = refl
    times_first i f e [] (c ∷ cs) h = absurd (let r : [] ≡ choice c ∷ map choice cs = h in cc)
    times_first i f e (g ∷ fs) [] h = absurd (let r : g x ∷ values_at fs x ≡ [] = h in cc)
    times_first i f e (g ∷ fs) (c ∷ cs) h =
        let p : g x ≡ choice c = cc in
        let q : values_at fs x ≡ map choice cs = cc in
        ap₂ ◌∷◌ (ap₂ ◌*ℚ◌ e p ∙ sym (of_ℤ-*ℤ _ _)) (times_first i f e fs cs q)

    -- the atoms from an index on
    abbrev IsFrom : ℕ → List Atom → Type 0
    IsFrom low rest = (i : ℕ) → i < length rest → atom_at hyps (low + i) ≡ atom_at rest i

    from_first : (low : ℕ) (a : Atom) (rest : List Atom) → IsFrom low (a ∷ rest) → atom_at hyps low ≡ a
    from_first low a rest h = let e : low + 0 ≡ low = omega arith in subst (λ j. atom_at hyps j ≡ a) e (h 0 (omega arith))

    from_rest : (low : ℕ) (a : Atom) (rest : List Atom) → IsFrom low (a ∷ rest) → IsFrom (suc low) rest
    from_rest low a rest h i l = let e : low + suc i ≡ suc low + i = omega arith in subst (λ j. atom_at hyps j ≡ atom_at rest i) e (h (suc i) (omega arith))

    of_size_values : (rest : List Atom) (low k : ℕ) → IsFrom low rest → values_at (exactly (atom_values rest) k) x ≡ map choice (of_size (length rest) low k)
    of_size_values [] low zero h = refl
    of_size_values [] low (suc k) h = refl
    of_size_values (a ∷ rest) low zero h = refl
    of_size_values (a ∷ rest) low (suc k) h =
        values-++ (map (by_each (λ x. of_ℤ (atom_value a (state x)))) (exactly (atom_values (a ∷ rest)) k)) (exactly (atom_values rest) (suc k)) x
        ∙ ap₂ ◌++◌
        (times_first low (λ x. of_ℤ (atom_value a (state x))) (ap (λ b. of_ℤ (atom_value b (state x))) (sym (from_first low a rest h))) _ _ (of_size_values (a ∷ rest) low k h))
        (of_size_values rest (suc low) (suc k) (from_rest low a rest h))
        ∙ sym (map-append choice (map (λ c. low ∷ c) (of_size (length (a ∷ rest)) low k)) (of_size (length rest) (suc low) (suc k)))

    all_from : IsFrom 0 hyps
    all_from i l = let e : 0 + i ≡ i = omega arith in ap (atom_at hyps) e

    -- of at most k atoms
    pub product_values_are : (k : ℕ) → values_at (products (atom_values hyps) k) x ≡ map choice (choices_of (length hyps) k)
    product_values_are zero = of_size_values hyps 0 0 all_from
    product_values_are (suc k) =
        values-++ (products (atom_values hyps) k) (exactly (atom_values hyps) (suc k)) x
        ∙ ap₂ ◌++◌ (product_values_are k) (of_size_values hyps 0 (suc k) all_from)
        ∙ sym (map-append choice (choices_of (length hyps) k) (of_size (length hyps) 0 (suc k)))
