-- Statements that have one edge, whatever they mention.
use Rattle.dc_syntax.specs.declared.tree.Stmt.{Stmt, Stmt-F, out-Stmt}
use Rattle.dc_syntax.specs.declared.tree.Stmt.TheOpen.{Skip, Assign, AnyOf, Between, Tick, Assume, If, IfAny, While, WhileAny}

abbrev pub IsSimpleLayer : {A : Type 0} → Stmt-F A → Type 0
IsSimpleLayer Skip = Unit {0}
IsSimpleLayer (Assign x e) = Unit {0}
IsSimpleLayer (AnyOf x) = Unit {0}
IsSimpleLayer (Between x a b) = Unit {0}
IsSimpleLayer (Tick e) = Unit {0}
IsSimpleLayer (Assume c) = ⊥
IsSimpleLayer (If c A B) = ⊥
IsSimpleLayer (IfAny A B) = ⊥
IsSimpleLayer (While c A) = ⊥
IsSimpleLayer (WhileAny A) = ⊥

abbrev pub IsSimple : Stmt → Type 0
IsSimple S = IsSimpleLayer (out-Stmt S)
