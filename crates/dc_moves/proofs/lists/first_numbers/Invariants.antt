use Rattle.std.proofs.Common.{◌≡◌, take}
use Rattle.dc_moves.proofs.lists.first_numbers.Given as goal

abbrev pub invariant-loop-coef : goal.invariant-loop-coef
invariant-loop-coef l = l.numbers.items ≡ take l.coef-index l.coef-items
