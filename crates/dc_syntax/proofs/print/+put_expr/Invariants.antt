use Rattle.std.proofs.Common.{ℕ, ◌+◌, ◌*◌}
use Rattle.dc_syntax.specs.declared.layer.Layer.{Layer}
use Rattle.dc_syntax.specs.declared.layer.Layer.TheVariants.{Loose}
use Rattle.dc_syntax.proofs.print.+put_expr.Given as goal

-- an expression in brackets is printed again where nothing is asked
abbrev pub asks : Layer → ℕ
asks Loose = 0
asks _ = 1

abbrev pub decreases-put_expr : goal.decreases-put_expr
decreases-put_expr l = goal.size-put_expr l * 2 + asks l.asked
