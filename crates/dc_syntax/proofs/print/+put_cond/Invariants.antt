use Rattle.std.proofs.Common.{ℕ, ◌+◌, ◌*◌}
use Rattle.dc_syntax.specs.declared.layer.Layer.{Layer}
use Rattle.dc_syntax.specs.declared.layer.Layer.TheVariants.{Loose}
use Rattle.dc_syntax.proofs.print.+put_cond.Given as goal

-- a condition in brackets is printed again where nothing is asked
abbrev pub asks : Layer → ℕ
asks Loose = 0
asks _ = 1

abbrev pub decreases-put_cond : goal.decreases-put_cond
decreases-put_cond l = goal.size-put_cond l * 2 + asks l.asked
