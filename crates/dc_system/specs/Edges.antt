-- The edges of a procedure's graph over n variables and the chosen value, which is the last of n +
-- 1 places.
use Rattle.std.specs.Prelude.{ℕ, zero, suc, ◌+◌, List, [], ◌∷◌, ◌++◌, map, slice_set, Bool, true, false, pos}
use Rattle.dc_syntax.specs.declared.tree.Expr.TheVariants.{Var}
use Rattle.dc_poly.specs.Terms.{Polynomial}
use Rattle.dc_poly.specs.Sums.{constant, variable}
use Rattle.dc_affine.specs.declared.atom.Atom.{Atom}
use Rattle.dc_affine.specs.Forms.{form_of}
use Rattle.dc_affine.specs.Table.{fact}
use Rattle.dc_affine.specs.Atoms.{atom_of}
use Rattle.dc_graph.specs.Labels.{Label, Arrow, idle, sets, picks, picks_in, pays, tests}
use Rattle.dc_system.specs.declared.edges.Edge.{Edge}

-- the first k variables, of so many places: what leaves them as they are
abbrev pub variables : ℕ → ℕ → List Polynomial
variables places zero = []
variables places (suc k) = variables places k ++ variable k places ∷ []

abbrev pub unchanged : ℕ → List Polynomial
unchanged n = variables (n + 1) n

-- the chosen value
abbrev pub chosen : ℕ → Polynomial
chosen n = variable n (n + 1)

abbrev pub guard_of : ℕ → Label → List Atom
guard_of n idle = []
guard_of n (sets x e) = []
guard_of n (picks x) = []
guard_of n (picks_in x a b) =
    atom_of (n + 1) (fact (Var n) a 0) ∷ atom_of (n + 1) (fact b (Var n) 0) ∷ []
guard_of n (pays e) = []
guard_of n (tests f) = map (atom_of (n + 1)) f

abbrev pub update_of : ℕ → Label → List Polynomial
update_of n idle = unchanged n
update_of n (sets x e) = slice_set (unchanged n) x (form_of (n + 1) e)
update_of n (picks x) = slice_set (unchanged n) x (chosen n)
update_of n (picks_in x a b) = slice_set (unchanged n) x (chosen n)
update_of n (pays e) = unchanged n
update_of n (tests f) = unchanged n

abbrev pub chooses : Label → Bool
chooses idle = false
chooses (sets x e) = false
chooses (picks x) = true
chooses (picks_in x a b) = true
chooses (pays e) = false
chooses (tests f) = false

abbrev pub free : ℕ → Polynomial
free n = constant (pos 0) (n + 1)

abbrev pub cost_of : ℕ → Label → Polynomial
cost_of n idle = free n
cost_of n (sets x e) = free n
cost_of n (picks x) = free n
cost_of n (picks_in x a b) = free n
cost_of n (pays e) = form_of (n + 1) e
cost_of n (tests f) = free n

abbrev pub edge_of : ℕ → Arrow → Edge
edge_of n a = record {
  from = a.from;
  to = a.to;
  guard = guard_of n a.label;
  update = update_of n a.label;
  any = chooses a.label;
  cost = cost_of n a.label;
}

-- an edge that only tests
abbrev pub test_edge : ℕ → ℕ → ℕ → List Atom → Edge
test_edge n k l g = record {
  from = k;
  to = l;
  guard = g;
  update = unchanged n;
  any = false;
  cost = free n;
}

abbrev pub test_edges : ℕ → ℕ → ℕ → List (List Atom) → List Edge
test_edges n k l gs = map (test_edge n k l) gs

-- an edge that gives one variable a value
abbrev pub set_edge : ℕ → ℕ → ℕ → List Atom → ℕ → Polynomial → Bool → Edge
set_edge n k l g x p a = record {
  from = k;
  to = l;
  guard = g;
  update = slice_set (unchanged n) x p;
  any = a;
  cost = free n;
}

-- an edge that only costs
abbrev pub cost_edge : ℕ → ℕ → ℕ → Polynomial → Edge
cost_edge n k l p = record { from = k; to = l; guard = []; update = unchanged n; any = false; cost = p }
