-- Trees by their parts.
use Rattle.std.proofs.Common.{◌≡◌, ap, ◌∙◌, Some, List}
use Rattle.std.specs.declared.option.Option.{Option}
use Rattle.dc_syntax.specs.declared.tree.Expr.{Expr}
use Rattle.dc_syntax.specs.declared.tree.Rel.{Rel}
use Rattle.dc_syntax.specs.declared.tree.Cond.{Cond}
use Rattle.dc_syntax.specs.declared.tree.Cond.TheVariants.{Cmp}
use Rattle.dc_syntax.specs.declared.tree.Stmt.{Stmt}
use Rattle.dc_descent.specs.Statements.{branch_by, loop_by}
use Rattle.dc_descent.specs.declared.parts.Range.{Range}

pub compared : (a b x y : Expr) (r s : Rel) → a ≡ x → b ≡ y → r ≡ s → Cmp a r b ≡ Cmp x s y
compared a b x y r s p q e = ap (λ z. Cmp z r b) p ∙ (ap (λ z. Cmp x z b) e ∙ ap (Cmp x s) q)

abbrev made : Expr → Expr → Range
made a b = record { low = a; high = b }

pub ranges : (a b x y : Expr) → a ≡ x → b ≡ y → Some (made a b) ≡ Some (made x y)
ranges a b x y p q = ap (λ z. Some (made z b)) p ∙ ap (λ z. Some (made x z)) q

pub branches : (c d : Option Cond) (A X B Y : List Stmt) → c ≡ d → A ≡ X → B ≡ Y → branch_by c A B ≡ branch_by d X Y
branches c d A X B Y p q e = ap (λ z. branch_by z A B) p ∙ (ap (λ z. branch_by d z B) q ∙ ap (branch_by d X) e)

pub loops : (c d : Option Cond) (A X : List Stmt) → c ≡ d → A ≡ X → loop_by c A ≡ loop_by d X
loops c d A X p q = ap (λ z. loop_by z A) p ∙ ap (loop_by d) q
