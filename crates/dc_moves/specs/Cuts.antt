-- Atoms at the first places.
use Rattle.std.specs.Prelude.{ℕ, List, ◌++◌, map, take}
use Rattle.dc_affine.specs.declared.atom.Atom.{Atom}
use Rattle.dc_system.specs.declared.edges.Edge.{Edge}

-- the coefficients of the first n places alone
abbrev pub cut_to : ℕ → Atom → Atom
cut_to n a = record { c0 = a.c0; coefs = take n a.coefs }

-- atoms, and behind them the guard of an edge at the first n places
abbrev pub with_guard : ℕ → List Atom → Edge → List Atom
with_guard n atoms e = atoms ++ map (cut_to n) e.guard
