-- Plain programs, whose body is `skip` and ticks of numbers alone.
use Rattle.std.specs.Prelude.{◌≡◌, ℕ, ◌+◌, List, [], ◌∷◌, Some, None, IsSome}
use Rattle.std.specs.declared.option.Option.{Option}
use Rattle.dc_syntax.specs.declared.tree.Proc.{Proc}
use Rattle.dc_syntax.specs.declared.tree.Stmt.{Stmt, Stmt-F, out-Stmt}
use Rattle.dc_syntax.specs.declared.tree.Stmt.TheOpen.{Skip, Tick}
use Rattle.dc_syntax.specs.declared.tree.Expr.{Expr, Expr-F, out-Expr}
use Rattle.dc_syntax.specs.declared.tree.Expr.TheOpen as F

-- the number that an expression is, where it is one
abbrev pub number_in : Expr-F Expr → Option ℕ
number_in (F.Num n) = Some n
number_in _ = None

-- the cost of `skip` or of a tick of a number; no other statement has one
abbrev pub plain_in : Stmt-F Stmt → Option ℕ
plain_in Skip = Some 0
plain_in (Tick e) = number_in (out-Expr e)
plain_in _ = None

-- the sum, where both are there
abbrev pub both : Option ℕ → Option ℕ → Option ℕ
both None o = None
both (Some a) None = None
both (Some a) (Some b) = Some (a + b)

-- the sum of the costs of a list of plain statements; none where some statement isn't plain
abbrev pub plain_cost : List Stmt → Option ℕ
plain_cost [] = Some 0
plain_cost (S ∷ R) = both (plain_in (out-Stmt S)) (plain_cost R)

-- a plain program, and its cost
abbrev pub IsPlain : Proc → Type 0
IsPlain p = IsSome (plain_cost p.body)

abbrev pub HasPlainCost : Proc → ℕ → Type 0
HasPlainCost p n = plain_cost p.body ≡ Some n
