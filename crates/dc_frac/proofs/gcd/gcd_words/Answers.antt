use Rattle.std.proofs.Common.{◌∙◌}
use Rattle.dc_frac.proofs.Halving.{gcd-swap}
use Rattle.dc_frac.proofs.gcd.gcd_words.Goals as goal

pub returns-then-a-b : goal.returns-then-a-b
returns-then-a-b c = c.gcd_ordered.ensures ∙ gcd-swap c.args.b c.args.a
