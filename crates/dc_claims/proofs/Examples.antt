-- Worked by hand: the main problems of small pairs.
use Rattle.std.specs.Prelude.{◌≡◌, List, [], ◌∷◌, map, length, replicate, ℤ, pos, negsuc, true, false}
use Rattle.std.specs.List.{range_with_len}
use Rattle.std.proofs.Common.{refl}
use Rattle.dc_syntax.specs.declared.tree.Side.TheVariants.{New, Old}
use Rattle.dc_affine.specs.declared.atom.Atom.{Atom}
use Rattle.dc_poly.specs.Terms.{term}
use Rattle.dc_poly.specs.Sums.{constant, variable, sum_of}
use Rattle.dc_lp.specs.Linear.{Linear}
use Rattle.dc_system.specs.declared.edges.Edge.{Edge}
use Rattle.dc_system.specs.declared.edges.System.{System}
use Rattle.dc_claims.specs.Duties.{Pair, Flags, duties_of}
use Rattle.dc_claims.specs.declared.duty.Duty.TheVariants.{Along, AtExit, AtEntry}
use Rattle.dc_claims.specs.declared.duty.Unknown.TheVariants.{Coefficient}
use Rattle.dc_claims.specs.Parts.{unknowns_of, part_of, rest_of}
use Rattle.dc_claims.specs.Problems.{main_problem, equations_at}

abbrev pub atom : ℤ → List ℤ → Atom
atom c cs = record { c0 = c; coefs = cs }

-- the columns of a problem, each with its entries in order, its right side and costs
abbrev pub columns : Linear ℤ → List (List ℤ)
columns p = map (λ j. map (λ i. p.coefficient i j) (range_with_len 0 p.equations)) (range_with_len 0 p.columns)

abbrev pub right_sides : Linear ℤ → List ℤ
right_sides p = map (λ i. p.right_side i) (range_with_len 0 p.equations)

abbrev pub costs : Linear ℤ → List ℤ
costs p = map (λ j. p.cost j) (range_with_len 0 p.columns)

-- ---- `proc f(n) { }` twice, degree 0, one factor
abbrev pub idle : System
idle = record { vars = 1; params = 1; locs = 1; edges = []; literals = [] }

abbrev pub idle_pair : List Atom → Pair
idle_pair exit = record { new = idle; new_atoms = exit ∷ []; old = idle; old_atoms = [] ∷ []; cases = [] ∷ [] }

abbrev pub all_live : Flags
all_live = record { new_edges = []; new_exit = true; old_edges = []; old_exit = true; cases = true ∷ [] }

-- the columns are t, phi, chi, each plus and minus, and three multipliers; the equations phi - l0 = 0, -chi - l1 = 0, t - phi + chi - l2 = 0
idle_costs : costs (main_problem (idle_pair []) 0 1 all_live) ≡ pos 1 ∷ negsuc 0 ∷ replicate 7 (pos 0)
idle_costs = refl

-- ---- new `while (i < n) { tick 2; i = i + 1; }`, folded to one edge from 0 to itself and one to the exit; degree 1
abbrev pub turn : Edge
turn = record {
  from = 0;
  to = 0;
  guard = atom (negsuc 0) (pos 1 ∷ negsuc 0 ∷ pos 0 ∷ []) ∷ [];
  update = variable 0 3 ∷ sum_of (variable 1 3) (constant (pos 1) 3) ∷ [];
  any = false;
  cost = constant (pos 2) 3;
}

abbrev pub leave : Edge
leave = record {
  from = 0;
  to = 1;
  guard = atom (pos 0) (negsuc 0 ∷ pos 1 ∷ pos 0 ∷ []) ∷ [];
  update = variable 0 3 ∷ variable 1 3 ∷ [];
  any = false;
  cost = constant (pos 0) 3;
}

abbrev pub loop : System
loop = record { vars = 2; params = 1; locs = 2; edges = turn ∷ leave ∷ []; literals = [] }

abbrev pub loop_pair : Pair
loop_pair = record { new = loop; new_atoms = (atom (pos 0) (pos 0 ∷ pos 1 ∷ []) ∷ []) ∷ [] ∷ []; old = loop; old_atoms = [] ∷ [] ∷ []; cases = [] ∷ [] }

-- t, and at each of four locations the coefficients of 1, n and i
loop_unknowns : length (unknowns_of loop_pair 1) ≡ 13
loop_unknowns = refl

-- around the loop the constant and n cancel, and i falls by 1
turn_cost : rest_of loop_pair (Along New 0) ≡ term (0 ∷ 0 ∷ 0 ∷ []) (negsuc 1) ∷ []
turn_cost = refl

turn_cost_old : rest_of loop_pair (Along Old 0) ≡ term (0 ∷ 0 ∷ 0 ∷ []) (pos 2) ∷ []
turn_cost_old = refl

-- at the entry i is 0
entry_i : part_of loop_pair 1 (AtEntry 0) (Coefficient New 0 2) ≡ []
entry_i = refl

entry_n : part_of loop_pair 1 (AtEntry 0) (Coefficient New 0 1) ≡ term (1 ∷ []) (negsuc 0) ∷ []
entry_n = refl

loop_duties : duties_of (record { new_edges = true ∷ false ∷ []; new_exit = true; old_edges = false ∷ true ∷ []; old_exit = false; cases = false ∷ true ∷ [] }) ≡
    Along New 0 ∷ AtExit New ∷ Along Old 1 ∷ AtEntry 1 ∷ []
loop_duties = refl

-- ---- where monomials are compared
-- the columns are t, phi, chi, each plus and minus, and three multipliers; the equations phi - l0 = 0, -chi - l1 = 0, t - phi + chi - l2 = 0
idle_columns : columns (main_problem (idle_pair []) 0 1 all_live) ≡
    (pos 0 ∷ pos 0 ∷ pos 1 ∷ []) ∷ (pos 0 ∷ pos 0 ∷ negsuc 0 ∷ [])
    ∷ (pos 1 ∷ pos 0 ∷ negsuc 0 ∷ []) ∷ (negsuc 0 ∷ pos 0 ∷ pos 1 ∷ [])
    ∷ (pos 0 ∷ negsuc 0 ∷ pos 1 ∷ []) ∷ (pos 0 ∷ pos 1 ∷ negsuc 0 ∷ [])
    ∷ (negsuc 0 ∷ pos 0 ∷ pos 0 ∷ []) ∷ (pos 0 ∷ negsuc 0 ∷ pos 0 ∷ []) ∷ (pos 0 ∷ pos 0 ∷ negsuc 0 ∷ []) ∷ []
idle_columns = refl

idle_right : right_sides (main_problem (idle_pair []) 0 1 all_live) ≡ pos 0 ∷ pos 0 ∷ pos 0 ∷ []
idle_right = refl

-- around the loop the constant and n cancel, and i falls by 1
turn_constant : part_of loop_pair 1 (Along New 0) (Coefficient New 0 0) ≡ []
turn_constant = refl

turn_i : part_of loop_pair 1 (Along New 0) (Coefficient New 0 2) ≡ term (0 ∷ 0 ∷ 0 ∷ []) (negsuc 0) ∷ []
turn_i = refl

turn_i_old : part_of loop_pair 1 (Along Old 0) (Coefficient Old 0 2) ≡ term (0 ∷ 0 ∷ 0 ∷ []) (pos 1) ∷ []
turn_i_old = refl

-- so its equations are those of 1, n and i alone: n and i come by the atoms i and n - i - 1
turn_equations : map (λ q. q.mono) (equations_at loop_pair 1 1 (Along New 0)) ≡ (0 ∷ 0 ∷ 0 ∷ []) ∷ (1 ∷ 0 ∷ 0 ∷ []) ∷ (0 ∷ 1 ∷ 0 ∷ []) ∷ []
turn_equations = refl

-- the other edge keeps the state and leads to the exit
leave_part : part_of loop_pair 1 (Along New 1) (Coefficient New 1 2) ≡ term (0 ∷ 1 ∷ 0 ∷ []) (negsuc 0) ∷ []
leave_part = refl
