use Rattle.std.proofs.Common.{◌≡◌, map}
use Rattle.std.specs.List.{range_with_len}
use Rattle.dc_poly.specs.Sums.{variable}
use Rattle.dc_duties.proofs.states.identity.Given as goal

abbrev pub invariant-loop-index : goal.invariant-loop-index
invariant-loop-index l = l.state.items ≡ map (λ k. variable k l.places) (range_with_len 0 l.index)
