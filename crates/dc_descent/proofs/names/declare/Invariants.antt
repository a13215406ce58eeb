use Rattle.std.proofs.Common.{◌≡◌, ◌++◌, [], drop, map}
use Rattle.dc_descent.specs.Faults.{declared_fault}
use Rattle.dc_descent.specs.Scopes.{spelled}
use Rattle.dc_descent.proofs.names.declare.Given as goal

abbrev pub invariant-loop-token : goal.invariant-loop-token
invariant-loop-token l = record {
  faults : declared_fault l.text l.names (drop l.token-index l.tokens) ≡ declared_fault l.text [] l.tokens;
  listed : l.names ++ map (spelled l.text) (drop l.token-index l.tokens) ≡ map (spelled l.text) l.tokens;
}
