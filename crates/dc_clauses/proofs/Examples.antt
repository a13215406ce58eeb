-- Worked by hand: the clauses on certificates of `proc f(n) { }` twice, degree 0, one factor, whose numbers are any.
use Rattle.std.specs.Prelude.{◌≡◌, ℕ, List, [], ◌∷◌, map, true, false, ℤ, pos, Some, None}
use Rattle.std.proofs.Common.{refl}
use Rattle.dc_frac.specs.declared.Frac.{Frac}
use Rattle.dc_affine.specs.declared.atom.Atom.{Atom}
use Rattle.dc_lp.specs.Linear.{Linear}
use Rattle.dc_system.specs.declared.edges.System.{System}
use Rattle.dc_cert.specs.declared.sparse.Item.{Item}
use Rattle.dc_cert.specs.declared.sparse.Sparse.{Sparse}
use Rattle.dc_cert.specs.declared.certificate.Liveness.{Liveness}
use Rattle.dc_cert.specs.declared.certificate.Liveness.TheVariants.{Live}
use Rattle.dc_cert.specs.declared.certificate.SideCert.{SideCert}
use Rattle.dc_cert.specs.declared.certificate.Body.TheVariants.{Threshold, Nothing, Vacuous}
use Rattle.dc_cert.specs.declared.certificate.Certificate.{Certificate}
use Rattle.dc_clauses.specs.Steps.{Step, all_of, step, first_failure}
use Rattle.dc_clauses.specs.Lines.{part}
use Rattle.dc_clauses.specs.Sides.{shape_fits, case_tests, family_steps}
use Rattle.dc_clauses.specs.Mains.{multipliers, short_column, range_steps, claim_steps}

-- ---- parts in order: the first that is not true decides
false_first : all_of (Some true ∷ Some false ∷ None ∷ []) ≡ Some false
false_first = refl

past_first : all_of (Some true ∷ None ∷ Some false ∷ []) ≡ None
past_first = refl

one_true : all_of (Some true ∷ []) ≡ Some true
one_true = refl

first_is : first_failure (step 1 0 (Some true) ∷ step 2 0 None ∷ step 2 1 (Some false) ∷ []) ≡ Some (step 2 0 None)
first_is = refl

-- ---- the parts of 5 + 3 * n over two places: 3, 0, and then 5
abbrev atom : Atom
atom = record { c0 = pos 5; coefs = pos 3 ∷ [] }

parts : map (part 2 atom) (0 ∷ 1 ∷ 2 ∷ []) ≡ pos 3 ∷ pos 0 ∷ pos 5 ∷ []
parts = refl

-- ---- certificates
abbrev idle : System
idle = record { vars = 1; params = 1; locs = 1; edges = []; literals = [] }

abbrev item : ℕ → Frac → Item
item k f = record { index = k; value = f }

abbrev vector : List Item → Sparse
vector is = record { items = is }

abbrev side_with : List (List Sparse) → Liveness → SideCert
side_with keeps exit = record { families = [] ∷ []; entry_keeps = keeps; edges = []; exit_line = exit }

abbrev numbers : List Step → List (ℕ × ℕ)
numbers ss = map (λ (s : Step). (s.clause, s.index)) ss

module _ (f g t : Frac) where
  abbrev live : Liveness
  live = Live (vector (item 0 f ∷ item 1 g ∷ []))

  abbrev outside : Liveness
  outside = Live (vector (item 5 f ∷ []))

  abbrev side : SideCert
  side = side_with ([] ∷ []) live

  -- an item out of range: of the exit's line by clause 1, of a case's by clause 2
  right_shape : shape_fits idle ([] ∷ []) (live ∷ []) side ≡ true
  right_shape = refl

  wrong_exit : shape_fits idle ([] ∷ []) (live ∷ []) (side_with ([] ∷ []) outside) ≡ false
  wrong_exit = refl

  wrong_case : case_tests 1 ([] ∷ []) (outside ∷ []) ≡ Some false ∷ []
  wrong_case = refl

  -- a case that the certificate has no line for, and a line that has no case
  missing_line : case_tests 1 ([] ∷ [] ∷ []) (outside ∷ []) ≡ Some false ∷ Some false ∷ []
  missing_line = refl

  missing_case : case_tests 1 ([] ∷ []) (outside ∷ outside ∷ []) ≡ Some false ∷ Some false ∷ []
  missing_case = refl

  -- no list of keeps for a line, a keep without an atom, and the keeps of a case that doesn't exist
  missing_keeps : shape_fits idle ([] ∷ []) (live ∷ []) (side_with [] live) ≡ false
  missing_keeps = refl

  surplus_keep : shape_fits idle ([] ∷ []) (live ∷ []) (side_with ((vector [] ∷ []) ∷ []) live) ≡ false
  surplus_keep = refl

  surplus_case : shape_fits idle ([] ∷ []) (live ∷ live ∷ []) (side_with ([] ∷ [] ∷ []) live) ≡ true
  surplus_case = refl

  -- a location too many
  surplus_location : shape_fits idle ([] ∷ []) (live ∷ []) (record { families = [] ∷ [] ∷ []; entry_keeps = [] ∷ []; edges = []; exit_line = live }) ≡ false
  surplus_location = refl

  abbrev certificate : Certificate
  certificate = record { version = 2; body = Nothing (vector []); degree = 0; products = 1; when = live ∷ []; new_side = side; old_side = side }

  order : numbers (family_steps idle idle ([] ∷ []) certificate) ≡ (1, 0) ∷ (1, 1) ∷ (2, 0) ∷ (6, 0) ∷ (6, 1) ∷ []
  order = refl

  -- ---- a main problem of two unknowns, two multipliers and one equation: columns 0, 2, and 4, 5
  abbrev main : Linear ℤ
  main = record { equations = 1; columns = 6; coefficient = λ i j. pos 1; right_side = λ i. pos 0; cost = λ j. pos 0 }

  two : multipliers main 2 ≡ 2
  two = refl

  short : map (short_column main 2) (0 ∷ 1 ∷ 2 ∷ 3 ∷ []) ≡ 0 ∷ 2 ∷ 4 ∷ 5 ∷ []
  short = refl

  -- an unknown, a multiplier and an equation out of range
  ranges : range_steps main 2 (Threshold t (vector (item 2 f ∷ [])) (vector (item 1 f ∷ [])) (vector (item 1 f ∷ [])))
      ≡ step 7 0 (Some false) ∷ step 7 1 (Some true) ∷ step 7 4 (Some false) ∷ []
  ranges = refl

  threshold_order : numbers (claim_steps main 2 (Threshold t (vector []) (vector (item 1 f ∷ [])) (vector [])))
      ≡ (7, 0) ∷ (7, 1) ∷ (7, 4) ∷ (8, 1) ∷ (9, 0) ∷ (10, 0) ∷ (10, 1) ∷ (10, 2) ∷ (10, 3) ∷ (11, 0) ∷ []
  threshold_order = refl

  none_order : numbers (claim_steps main 2 (Nothing (vector []))) ≡ (7, 4) ∷ (10, 0) ∷ (10, 1) ∷ (10, 2) ∷ (10, 3) ∷ (11, 0) ∷ []
  none_order = refl

  vacuous_order : numbers (claim_steps main 2 (Vacuous (vector []) (vector (item 1 f ∷ [])) (vector []) (vector (item 0 f ∷ []))))
      ≡ (7, 0) ∷ (7, 1) ∷ (7, 2) ∷ (7, 3) ∷ (8, 1) ∷ (8, 0) ∷ (9, 0) ∷ (12, 0) ∷ (13, 0) ∷ []
  vacuous_order = refl
