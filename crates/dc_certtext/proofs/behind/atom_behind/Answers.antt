use Rattle.std.specs.Prelude.{codes}
use Rattle.dc_certtext.proofs.Afterword.{no_atom_behind}
use Rattle.dc_certtext.proofs.behind.atom_behind.Goals as goal

pub returns-in_default-2 : goal.returns-in_default-2
returns-in_default-2 c = no_atom_behind (codes "atom") c.args.line.now c.in-Some.rest.now c.in-Some.ensures (rw c.in_default-2.is at c.in_ok-a.ensures)
