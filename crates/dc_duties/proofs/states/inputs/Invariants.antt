use Rattle.std.proofs.Common.{◌≡◌, ◌-◌, ◌++◌, pos, replicate}
use Rattle.dc_poly.specs.Sums.{constant}
use Rattle.dc_duties.proofs.states.inputs.Given as goal

abbrev pub invariant-loop-local : goal.invariant-loop-local
invariant-loop-local l = l.state.items ≡ l.initial.state.items ++ replicate (l._local - l.params) (constant (pos 0) l.params)
