-- What a list of atoms entails that isn't dead is, at each point, a sum of its atoms and of 1 with factors of at least 0.
use Rattle.std.specs.Prelude.{◌≡◌, ℕ, zero, suc, ◌+◌, ◌≤◌, max, List, [], ◌∷◌, map, length, slice_index_or, ℤ, pos}
use Rattle.std.specs.List.{range_with_len}
use Rattle.std.proofs.Common.{refl, sym, ap, ap₂, ◌∙◌, arith}
use Rattle.dc_math.specs.WholeVectors.{dot_ℤ}
use Rattle.dc_math.specs.Rational.{ℚ, ◌+ℚ◌, ◌-ℚ◌, ◌*ℚ◌, of_ℤ, of_ℤ-+ℤ, ≤ℚ-sub}
use Rattle.dc_math.specs.RationalRing.{ring, reads, read_nat, same_form}
use Rattle.dc_math.specs.Sums.{sum_ℚ, sum_ℚ_none, sum_ℚ_first, sum_ℚ_same, sum_ℚ-+ℚ, sum_ℚ-*ℚ, sum_ℚ_swap}
use Rattle.dc_math.specs.Vectors.{dot}
use Rattle.dc_math.specs.Cones.{values_at, Cone}
use Rattle.dc_lp.specs.Tables.{made}
use Rattle.dc_affine.specs.declared.atom.Atom.{Atom}
use Rattle.dc_affine.specs.Atoms.{atom_value}
use Rattle.dc_points.specs.Points.{AreOver, IsDead, Entails}
use Rattle.dc_points.specs.Stated.{atom_number, coefficient_of}
use Rattle.dc_points.specs.Shown.{sum_at, constant_sum, ShowsAtom}
use Rattle.dc_points.proofs.Coordinates.{dot-by_places}
use Rattle.dc_points.proofs.Farkas.{entailed_are_shown}
use Rattle.dc_folding.proofs.Products.{one}
use Rattle.dc_folding.proofs.Choices.{atom_values}
use Rattle.dc_claims.proofs.Bounds.{each_made}

-- ---- a number of places that is enough for all atoms
abbrev widest : List Atom → ℕ
widest [] = 0
widest (a ∷ hyps) = max (length a.coefs) (widest hyps)

all_over : (n : ℕ) (hyps : List Atom) → widest hyps ≤ n → AreOver n hyps
all_over n [] h = tt
all_over n (a ∷ hyps) h = (omega arith, all_over n hyps (omega arith))

module _ {X : Type 0} (state : X → List ℤ) (p : X) where
  abbrev value_of : Atom → ℚ
  value_of a = of_ℤ (atom_value a (state p))

  -- the values of the atoms with factors, by index
  dot_values : (hyps : List Atom) (x : ℕ → ℚ) (a : ℕ) → dot (values_at (atom_values state hyps) p) (map x (range_with_len a (length hyps))) ≡ sum_ℚ (length hyps) (λ j. value_of (atom_number hyps j) *ℚ x (a + j))
  dot_values [] x a = sym (sum_ℚ_none _)
  dot_values (h ∷ hyps) x a =
      let e : a + 0 ≡ a = omega arith in
      ap₂ ◌+ℚ◌ (ap (λ j. value_of h *ℚ x j) (sym e))
      (dot_values hyps x (a + 1) ∙ sum_ℚ_same (length hyps) _ _ (λ j l. let f : (a + 1) + j ≡ a + suc j = omega arith in ap (λ k. value_of (atom_number hyps j) *ℚ x k) f))
      ∙ sym (sum_ℚ_first (length hyps) (λ j. value_of (atom_number (h ∷ hyps) j) *ℚ x (a + j)))

  abbrev number : ℕ → ℚ
  number i = of_ℤ (slice_index_or (state p) i (pos 0))

  -- one atom, by its places
  by_places : (n : ℕ) (a : Atom) → length a.coefs ≤ n → value_of a ≡ of_ℤ a.c0 +ℚ sum_ℚ n (λ i. number i *ℚ of_ℤ (coefficient_of a i))
  by_places n a h = of_ℤ-+ℤ a.c0 (dot_ℤ a.coefs (state p)) ∙ ap (λ y. of_ℤ a.c0 +ℚ y) (dot-by_places n a.coefs (state p) h)

  over_at : (n : ℕ) (hyps : List Atom) (j : ℕ) → AreOver n hyps → length (atom_number hyps j).coefs ≤ n
  over_at n [] j h = omega arith
  over_at n (a ∷ hyps) zero h = h.0
  over_at n (a ∷ hyps) (suc j) h = over_at n hyps j h.1

  module _ (n : ℕ) (hyps : List Atom) (x : ℕ → ℚ) (o : AreOver n hyps) where
    abbrev m : ℕ
    m = length hyps

    abbrev entry : ℕ → ℕ → ℚ
    entry j i = of_ℤ (coefficient_of (atom_number hyps j) i)

    apart : (c s y : ℚ) → (c +ℚ s) *ℚ y ≡ c *ℚ y +ℚ s *ℚ y
    apart c s y = ring (c ∷ s ∷ y ∷ []) (λ ρ i j k. simp (i, j, k, reads) (same_form _ _ _ refl))

    turn : (u c y : ℚ) → (u *ℚ c) *ℚ y ≡ (c *ℚ y) *ℚ u
    turn u c y = ring (u ∷ c ∷ y ∷ []) (λ ρ i j k. simp (i, j, k, reads) (same_form _ _ _ refl))

    -- the sum of the atoms is its constant and the sum of its places
    sum_by_places : sum_ℚ m (λ j. value_of (atom_number hyps j) *ℚ x j) ≡ constant_sum hyps x +ℚ sum_ℚ n (λ i. sum_at hyps x i *ℚ number i)
    sum_by_places =
        sum_ℚ_same m _ _ (λ j l. ap (λ v. v *ℚ x j) (by_places n (atom_number hyps j) (over_at n hyps j o)) ∙ apart (of_ℤ (atom_number hyps j).c0) _ (x j))
        ∙ sum_ℚ-+ℚ m (λ j. of_ℤ (atom_number hyps j).c0 *ℚ x j) (λ j. sum_ℚ n (λ i. number i *ℚ entry j i) *ℚ x j)
        ∙ ap (λ y. constant_sum hyps x +ℚ y)
        (sum_ℚ_same m _ _ (λ j l. sym (sum_ℚ-*ℚ n (λ i. number i *ℚ entry j i) (x j)))
        ∙ sum_ℚ_swap m n (λ j i. (number i *ℚ entry j i) *ℚ x j)
        ∙ sum_ℚ_same n _ _ (λ i l. sum_ℚ_same m _ _ (λ j k. turn (number i) (entry j i) (x j)) ∙ sum_ℚ-*ℚ m (λ j. entry j i *ℚ x j) (number i)))

    shown_value : (a : Atom) → length a.coefs ≤ n → ShowsAtom hyps n a x → of_ℤ (pos 1) *ℚ (of_ℤ a.c0 -ℚ constant_sum hyps x) +ℚ dot (values_at (atom_values state hyps) p) (made m x) ≡ value_of a
    shown_value a ia s =
        ap (λ y. of_ℤ (pos 1) *ℚ (of_ℤ a.c0 -ℚ constant_sum hyps x) +ℚ y)
        (dot_values hyps x 0
        ∙ sum_ℚ_same m _ _ (λ j l. let e : 0 + j ≡ j = omega arith in ap (λ k. value_of (atom_number hyps j) *ℚ x k) e)
        ∙ sum_by_places
        ∙ ap (λ y. constant_sum hyps x +ℚ y) (sum_ℚ_same n _ _ (λ i l. ap (λ y. y *ℚ number i) (s.coefficients i l) ∙ swap (of_ℤ (coefficient_of a i)) (number i))))
        ∙ gather (of_ℤ a.c0) (constant_sum hyps x) (sum_ℚ n (λ i. number i *ℚ of_ℤ (coefficient_of a i)))
        ∙ sym (by_places n a ia)
      where
        swap : (u v : ℚ) → u *ℚ v ≡ v *ℚ u
        swap u v = ring (u ∷ v ∷ []) (λ ρ i j. simp (i, j, reads) (same_form _ _ _ refl))

        gather : (c s y : ℚ) → of_ℤ (pos 1) *ℚ (c -ℚ s) +ℚ (s +ℚ y) ≡ c +ℚ y
        gather c s y = ring (c ∷ s ∷ y ∷ []) (λ ρ i j k. simp (i, j, k, read_nat ρ, reads) (same_form _ _ _ refl))

-- ---- Farkas' lemma, at each point of any kind
pub entailed_sum : {X : Type 0} (state : X → List ℤ) (hyps : List Atom) (a : Atom) → ¬ IsDead hyps → Entails hyps a → Cone (one ∷ atom_values state hyps) (λ x. of_ℤ (atom_value a (state x)))
entailed_sum state hyps a live h =
    let n = widest (a ∷ hyps) in
    let o : AreOver n hyps = all_over n hyps (omega arith) in
    let ia : length a.coefs ≤ n = omega arith in
    let s = entailed_are_shown hyps n a o ia live h in
    record {
      by = (of_ℤ a.c0 -ℚ constant_sum hyps s.0) ∷ made (length hyps) s.0;
      not_negative = (≤ℚ-sub _ _ s.1.constant, each_made s.0 0 (length hyps) (λ i l. s.1.signs i (omega arith)));
      is = λ x. shown_value state x n hyps s.0 o a ia s.1;
    }
