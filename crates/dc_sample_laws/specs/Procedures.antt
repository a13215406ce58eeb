-- What the source of a list of costs says, and the condition that goes with it.
use Rattle.std.specs.Prelude.{ℕ, List, [], ◌∷◌, codes, pos, negsuc}
use Rattle.dc_syntax.specs.declared.tree.Expr.TheVariants.{Num, Var, Add}
use Rattle.dc_syntax.specs.declared.tree.Rel.TheVariants.{Lt}
use Rattle.dc_syntax.specs.declared.tree.Cond.TheVariants.{Cmp}
use Rattle.dc_syntax.specs.declared.tree.Stmt.{Stmt}
use Rattle.dc_syntax.specs.declared.tree.Stmt.TheVariants.{Assign, Tick, While}
use Rattle.dc_syntax.specs.declared.tree.Proc.{Proc}
use Rattle.dc_affine.specs.declared.atom.Atom.{Atom}

-- ---- a procedure of one parameter n at place 0, with one local i at place 1

-- while i < n: pay the cost, and count i up
abbrev pub loop_of : ℕ → Stmt
loop_of c = While (Cmp (Var 1) Lt (Var 0)) (Tick (Num c) ∷ Assign 1 (Add (Var 1) (Num 1)) ∷ [])

-- for each cost i is 0 again, and a loop follows
abbrev pub loops_of : List ℕ → List Stmt
loops_of [] = []
loops_of (c ∷ cs) = Assign 1 (Num 0) ∷ loop_of c ∷ loops_of cs

abbrev pub sample_proc : List ℕ → Proc
sample_proc costs = record {
  name = codes "s";
  names = codes "n" ∷ codes "i" ∷ [];
  params = 1;
  body = loops_of costs;
}

-- ---- its condition

abbrev pub sample_condition : List ℕ
sample_condition = codes "0 <= n && n <= 50"

-- the one case: n is at least 0, and 50 - n is at least 0
abbrev pub low_atom : Atom
low_atom = record { c0 = pos 0; coefs = pos 1 ∷ [] }

abbrev pub high_atom : Atom
high_atom = record { c0 = pos 50; coefs = negsuc 0 ∷ [] }

abbrev pub sample_cases : List (List Atom)
sample_cases = (low_atom ∷ high_atom ∷ []) ∷ []
