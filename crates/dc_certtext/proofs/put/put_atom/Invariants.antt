use Rattle.std.proofs.Common.{◌≡◌, ◌++◌, drop}
use Rattle.std.specs.Fmt.{signed_decimal}
use Rattle.dc_lines.specs.Bytes.{spaced}
use Rattle.dc_certtext.proofs.put.put_atom.Given as goal

abbrev pub invariant-loop-coef : goal.invariant-loop-coef
invariant-loop-coef l = l.out.items ++ spaced signed_decimal (drop l.coef-index l.coef-items) ≡ l.initial.out.items ++ spaced signed_decimal l.coef-items
