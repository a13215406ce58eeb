use Rattle.std.proofs.Common.{◌≡◌, ◌++◌, map}
use Rattle.std.specs.List.{range_with_len}
use Rattle.dc_claims.specs.declared.duty.Unknown.TheVariants.{Coefficient}
use Rattle.dc_duties.proofs.unknowns.push_at.Given as goal

abbrev pub invariant-loop-number : goal.invariant-loop-number
invariant-loop-number l = l.list.items ≡ l.initial.list.items ++ map (Coefficient l.side l.location) (range_with_len 0 l.number)
