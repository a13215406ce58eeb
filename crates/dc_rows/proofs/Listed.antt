-- The bounds next to some numbers, and the numbers that a condition mentions.
use Rattle.std.proofs.Common.{ℕ, List, map, filter, flat_map, ℤ, unsigned_abs}
use Rattle.dc_affine.specs.declared.atom.Atom.{Atom}
use Rattle.dc_rows.specs.Bounds.{around, is_within}

abbrev pub near : List ℕ → List ℤ
near ks = filter is_within (flat_map around ks)

abbrev pub sizes : List Atom → List ℕ
sizes atoms = map (λ (a : Atom). unsigned_abs a.c0) atoms
