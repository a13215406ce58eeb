use Rattle.std.proofs.Common.{length}
use Rattle.dc_handelman.proofs.forms.+linear.Given as goal

abbrev pub decreases-linear : goal.decreases-linear
decreases-linear l = length l.coefs.now
