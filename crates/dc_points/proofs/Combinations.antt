-- Solutions of the two problems are combinations of the atoms, and refutations of the empty problem show them live.
use Rattle.std.specs.Prelude.{◌≡◌, ℕ, ◌<◌, List, length, ℤ, pos, negsuc}
use Rattle.std.proofs.Common.{refl, sym, ◌∙◌, ap, subst, arith, inl, inr}
use Rattle.std.proofs.lemmas.Bool.{cases_eq}
use Rattle.dc_math.specs.Rational.{ℚ, ◌*ℚ◌, of_ℤ, ◌≤ℚ◌}
use Rattle.dc_math.specs.Sums.{sum_ℚ_same}
use Rattle.dc_affine.specs.declared.atom.Atom.{Atom}
use Rattle.dc_lp.specs.Linear.{left_side, cost_of, IsSolution, IsRefutation}
use Rattle.dc_lp.specs.Problems.{whole_at}
use Rattle.dc_points.specs.Stated.{rational, atom_number, coefficient_of, place_entry, empty_problem, sum_problem, sup_problem}
use Rattle.dc_points.specs.Shown.{sum_at, constant_sum, CombinesTo, ShowsAtom, ShowsDead, ShowsLive}
use Rattle.dc_points.specs.Laws.{EmptySolutionsCombine, SupSolutionsCombine, RefutationsShow, CombinationsShow}
use Rattle.dc_points.proofs.Duals.{entry-inside, inside, last, negative-right, refuting_negative}

module _ (n : ℕ) (hyps : List Atom) (x : ℕ → ℚ) where
  -- ---- the empty problem's left sides
  left-inside : (i : ℕ) → i < n → left_side (rational (empty_problem hyps n)) x i ≡ sum_at hyps x i
  left-inside i l =
      sum_ℚ_same (length hyps) _ _
      (λ j k. ap (λ c. of_ℤ c *ℚ x j) (inside n hyps i ((atom_number hyps j).c0) (place_entry n hyps i j) l ∙ entry-inside n hyps i j l))

  left-last : left_side (rational (empty_problem hyps n)) x n ≡ constant_sum hyps x
  left-last = sum_ℚ_same (length hyps) _ _ (λ j k. ap (λ c. of_ℤ c *ℚ x j) (last n hyps ((atom_number hyps j).c0) (place_entry n hyps n j)))

  pub solution-shows_dead : IsSolution (rational (empty_problem hyps n)) x → ShowsDead hyps n x
  solution-shows_dead s = record {
    signs = s.signs;
    coefficients = λ i l. sym (left-inside i l) ∙ s.equations i (omega arith) ∙ ap of_ℤ (inside n hyps i (negsuc 0) (pos 0) l);
    constant = sym left-last ∙ s.equations n (omega arith) ∙ ap of_ℤ (last n hyps (negsuc 0) (pos 0));
  }

  pub shows_dead-solution : ShowsDead hyps n x → IsSolution (rational (empty_problem hyps n)) x
  shows_dead-solution h = record {
    signs = h.signs;
    equations = λ i l. elim (cases_eq i n) [
      | inl e ↦ subst (λ k. left_side (rational (empty_problem hyps n)) x k ≡ of_ℤ ((empty_problem hyps n).right_side k)) (sym e)
          (left-last ∙ h.constant ∙ ap of_ℤ (sym (last n hyps (negsuc 0) (pos 0))))
      | inr ne ↦ (let k : i < n = omega arith in left-inside i k ∙ h.coefficients i k ∙ ap of_ℤ (sym (inside n hyps i (negsuc 0) (pos 0) k)))
    ];
  }

  -- ---- the problem of a sum
  module _ (f : ℕ → ℤ) where
    left-sum : (i : ℕ) → i < n → left_side (rational (sum_problem hyps n f)) x i ≡ sum_at hyps x i
    left-sum i l = sum_ℚ_same (length hyps) _ _ (λ j k. ap (λ c. of_ℤ c *ℚ x j) (entry-inside n hyps i j l))

    pub solution-combines : IsSolution (rational (sum_problem hyps n f)) x → CombinesTo hyps n f (constant_sum hyps x) x
    solution-combines s = record { signs = s.signs; coefficients = λ i l. sym (left-sum i l) ∙ s.equations i l; constant = refl }

    pub combines-solution : (c : ℚ) → CombinesTo hyps n f c x → IsSolution (rational (sum_problem hyps n f)) x
    combines-solution c h = record { signs = h.signs; equations = λ i l. left-sum i l ∙ h.coefficients i l }

-- ---- multiples that show an atom
pub combinations_show : CombinationsShow
combinations_show hyps n a c x h l = record { signs = h.signs; coefficients = h.coefficients; constant = subst (λ s. s ≤ℚ of_ℤ a.c0) (sym h.constant) l }

pub shows-combines : (hyps : List Atom) (n : ℕ) (a : Atom) (x : ℕ → ℚ) → ShowsAtom hyps n a x → IsSolution (rational (sum_problem hyps n (coefficient_of a))) x
shows-combines hyps n a x h = record {
  signs = h.signs;
  equations = λ i l. sum_ℚ_same (length hyps) _ _ (λ j k. ap (λ c. of_ℤ c *ℚ x j) (entry-inside n hyps i j l)) ∙ h.coefficients i l;
}

-- ---- refutations of the empty problem
pub refutation-shows_live : (hyps : List Atom) (n : ℕ) (y : ℕ → ℚ) → IsRefutation (rational (empty_problem hyps n)) y → ShowsLive hyps n y
refutation-shows_live hyps n y r = record { columns = r.prices; last = refuting_negative n hyps y r }

pub shows_live-refutation : (hyps : List Atom) (n : ℕ) (y : ℕ → ℚ) → ShowsLive hyps n y → IsRefutation (rational (empty_problem hyps n)) y
shows_live-refutation hyps n y h = record { prices = h.columns; right_side = negative-right n hyps y h.last }

-- ---- the laws
pub empty_solutions_combine : EmptySolutionsCombine
empty_solutions_combine hyps n x = (solution-shows_dead n hyps x, shows_dead-solution n hyps x)

pub sup_solutions_combine : SupSolutionsCombine
sup_solutions_combine hyps form x = (
  solution-combines (length form) hyps x (whole_at form),
  combines-solution (length form) hyps x (whole_at form) (cost_of (rational (sup_problem hyps form)) x),
)

pub refutations_show : RefutationsShow
refutations_show hyps n y = (refutation-shows_live hyps n y, shows_live-refutation hyps n y)
