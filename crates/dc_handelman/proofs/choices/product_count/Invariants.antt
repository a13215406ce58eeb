use Rattle.std.proofs.Common.{◌≡◌, ◌-◌, length}
use Rattle.dc_handelman.specs.Choices.{choices_of}
use Rattle.dc_handelman.proofs.choices.product_count.Given as goal

abbrev pub invariant-loop-factor : goal.invariant-loop-factor
invariant-loop-factor l = l.count ≡ length (choices_of l.hyps (l.factor - 1))
