use Rattle.std.proofs.Common.{◌∙◌, sym}
use Rattle.dc_frac.specs.Value.{value}
use Rattle.dc_start.proofs.Changes.{quotient-zero}
use Rattle.dc_start.proofs.change.quotient.Goals as goal

pub returns-then-is_zero : goal.returns-then-is_zero
returns-then-is_zero c = quotient-zero (value c.args.x) (value c.args.by) (sym c.is_zero.ensures ∙ c.if-is_zero.true)
