use Rattle.dc_points.specs.Stated.{coefficient_of}
use Rattle.dc_entail.specs.Columns.{IsColumnOf, rows_below}
use Rattle.dc_entail.proofs.column.place_entries.Given as goal

abbrev pub invariant-loop-row : goal.invariant-loop-row
invariant-loop-row l = IsColumnOf l.row (rows_below l.row (coefficient_of l.atom)) l.entries.items
