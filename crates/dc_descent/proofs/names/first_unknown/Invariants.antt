use Rattle.std.proofs.Common.{◌≡◌, drop, map}
use Rattle.std.specs.String.{string_bytes}
use Rattle.dc_descent.specs.Faults.{used_fault}
use Rattle.dc_descent.proofs.names.first_unknown.Given as goal

abbrev pub invariant-loop-token : goal.invariant-loop-token
invariant-loop-token l = used_fault l.scope.text.now (map string_bytes l.scope.names.now) (drop l.token-index l.tokens) ≡ used_fault l.scope.text.now (map string_bytes l.scope.names.now) l.tokens
