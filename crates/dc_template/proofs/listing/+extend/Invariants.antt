use Rattle.std.proofs.Common.{◌+◌, ◌-◌, length}
use Rattle.dc_template.proofs.listing.+extend.Given as goal

abbrev pub decreases-extend : goal.decreases-extend
decreases-extend l = l.left + (length l.mono.now - l.from)
