use Rattle.std.proofs.Common.{◌≡◌, ◌++◌, drop}
use Rattle.dc_lines.specs.Fields.{fields_text}
use Rattle.dc_lines.proofs.lists.put_fields.Given as goal

abbrev pub invariant-loop-z : goal.invariant-loop-z
invariant-loop-z l = l.out.items ++ fields_text (drop l.z-index l.list) ≡ l.initial.out.items ++ fields_text l.list
