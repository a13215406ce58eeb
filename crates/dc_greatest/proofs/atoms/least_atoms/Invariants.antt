use Rattle.std.specs.Prelude.{◌≡◌, take}
use Rattle.dc_greatest.specs.Kept.{least_rows}
use Rattle.dc_greatest.proofs.atoms.least_atoms.Given as goal

abbrev pub invariant-loop-row : goal.invariant-loop-row
invariant-loop-row l = l.atoms.items ≡ least_rows l.c (take l.row l.c.rows) (take l.row l.f.least)
