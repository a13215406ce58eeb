use Rattle.std.proofs.Common.{◌≡◌, ◌-◌, ◌++◌, length, map}
use Rattle.dc_handelman.specs.Choices.{of_size}
use Rattle.dc_handelman.specs.Products.{times_choice}
use Rattle.dc_handelman.proofs.choices.+extend.Given as goal

abbrev pub decreases-extend : goal.decreases-extend
decreases-extend l = l.left

-- what was put there, with what is still to come, is the whole
abbrev pub invariant-loop-i : goal.invariant-loop-i
invariant-loop-i l =
    l.out.items ++ map (times_choice l.factors l.product) (of_size (length l.factors - l.i) l.i l.left)
    ≡ l.initial.out.items ++ map (times_choice l.factors l.product) (of_size (length l.factors - l.from) l.from l.left)
