-- Worked by hand: the problems of small lists of atoms over one place n.
use Rattle.std.specs.Prelude.{◌≡◌, ℕ, zero, suc, ◌<◌, List, [], ◌∷◌, map, ℤ, pos, negsuc}
use Rattle.std.specs.List.{range_with_len}
use Rattle.std.proofs.Common.{refl, sym, ◌∙◌, ap, arith}
use Rattle.dc_math.specs.Rational.{ℚ, ◌+ℚ◌, ◌*ℚ◌, of_ℤ, of_ℤ-*ℤ, zero-+ℚ, zero-*ℚ}
use Rattle.dc_math.specs.Order.{≤ℚ_same}
use Rattle.dc_math.specs.Signs.{nat_non_negative}
use Rattle.dc_math.specs.Sums.{sum_ℚ, sum_ℚ_none, sum_ℚ_last}
use Rattle.dc_affine.specs.declared.atom.Atom.{Atom}
use Rattle.dc_lp.specs.Linear.{Linear}
use Rattle.dc_points.specs.Points.{Entails}
use Rattle.dc_points.specs.Stated.{atom_number, coefficient_of, empty_problem, sup_problem}
use Rattle.dc_points.specs.Shown.{sum_at, ShowsAtom}
use Rattle.dc_points.proofs.Farkas.{shown_are_entailed}

abbrev atom : ℤ → List ℤ → Atom
atom c cs = record { c0 = c; coefs = cs }

-- the columns of a problem, with the rows in order, and its right side and costs
abbrev columns : Linear ℤ → List (List ℤ)
columns p = map (λ j. map (λ i. p.coefficient i j) (range_with_len 0 p.equations)) (range_with_len 0 p.columns)

abbrev right_sides : Linear ℤ → List ℤ
right_sides p = map (λ i. p.right_side i) (range_with_len 0 p.equations)

abbrev costs : Linear ℤ → List ℤ
costs p = map (λ j. p.cost j) (range_with_len 0 p.columns)

-- n - 1 and -n
abbrev none : List Atom
none = atom (negsuc 0) (pos 1 ∷ []) ∷ atom (pos 0) (negsuc 0 ∷ []) ∷ []

none_columns : columns (empty_problem none 1) ≡ (pos 1 ∷ negsuc 0 ∷ []) ∷ (negsuc 0 ∷ pos 0 ∷ []) ∷ []
none_columns = refl

none_right : right_sides (empty_problem none 1) ≡ pos 0 ∷ negsuc 0 ∷ []
none_right = refl

-- n and 10 - n, and the form n
abbrev some : List Atom
some = atom (pos 0) (pos 1 ∷ []) ∷ atom (pos 10) (negsuc 0 ∷ []) ∷ []

some_columns : columns (sup_problem some (pos 1 ∷ [])) ≡ (pos 1 ∷ []) ∷ (negsuc 0 ∷ []) ∷ []
some_columns = refl

some_costs : costs (sup_problem some (pos 1 ∷ [])) ≡ pos 0 ∷ pos 10 ∷ []
some_costs = refl

some_right : right_sides (sup_problem some (pos 1 ∷ [])) ≡ pos 1 ∷ []
some_right = refl

-- a guard with a coefficient for the chosen value, over the one variable of an edge that chooses none: two equations, not three
no_choice : columns (empty_problem (atom (pos 5) (pos 3 ∷ pos 0 ∷ []) ∷ []) 1) ≡ (pos 3 ∷ pos 5 ∷ []) ∷ []
no_choice = refl

-- 2147483647 * n is at least 0, so twice as much is: the second atom's coefficient passes the size of those of a program
abbrev large : List Atom
large = atom (pos 0) (pos 2147483647 ∷ []) ∷ []

abbrev twice : Atom
twice = atom (pos 0) (pos 4294967294 ∷ [])

one_term : (f : ℕ → ℚ) → sum_ℚ 1 f ≡ f 0
one_term f = sum_ℚ_last 0 f ∙ ap (λ s. s +ℚ f 0) (sum_ℚ_none f) ∙ zero-+ℚ (f 0)

abbrev two : ℕ → ℚ
two j = of_ℤ (pos 2)

shows_twice : ShowsAtom large 1 twice two
shows_twice = record {
  signs = λ j l. nat_non_negative 2;
  coefficients = coefficients;
  constant = ≤ℚ_same _ _ (one_term (λ j. of_ℤ ((atom_number large j).c0) *ℚ two j) ∙ zero-*ℚ (of_ℤ (pos 2)));
}
  where
    coefficients : (i : ℕ) → i < 1 → sum_at large two i ≡ of_ℤ (coefficient_of twice i)
    coefficients zero l = one_term (λ j. of_ℤ (coefficient_of (atom_number large j) 0) *ℚ two j) ∙ sym (of_ℤ-*ℤ (pos 2147483647) (pos 2))
    coefficients (suc i) l = absurd (omega arith)

entails_twice : Entails large twice
entails_twice = shown_are_entailed large 1 twice two (omega arith, tt) (omega arith) shows_twice
