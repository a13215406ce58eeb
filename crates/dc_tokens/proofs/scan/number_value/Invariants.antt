use Rattle.std.proofs.Common.{◌≡◌, ◌≤◌, drop}
use Rattle.dc_tokens.proofs.Numbers.{value_from}
use Rattle.dc_tokens.proofs.scan.number_value.Given as goal

abbrev pub invariant-loop-digit : goal.invariant-loop-digit
invariant-loop-digit l = record {
  bound : l.value ≤ 2147483647;
  same : value_from l.value (drop l.digit-index l.digits) ≡ value_from 0 l.digits;
}
