-- Atoms that hold together.
use Rattle.std.specs.Prelude.{List, ◌++◌}
use Rattle.dc_affine.specs.declared.atom.Atom.{Atom}
use Rattle.dc_clauses.specs.declared.hyps.Hyps.{Hyps}

abbrev pub atoms_of : Hyps → List Atom
atoms_of h = h.atoms.now ++ h.guard.now
