use Rattle.std.proofs.Common.{length}
use Rattle.dc_lines.proofs.Listed.{Listed}
use Rattle.dc_lines.proofs.lists.read_fields.Given as goal

abbrev pub invariant-fields : goal.invariant-fields
invariant-fields l = Listed l.text l.list.items l.rest

abbrev pub decreases-fields : goal.decreases-fields
decreases-fields l = length l.rest
