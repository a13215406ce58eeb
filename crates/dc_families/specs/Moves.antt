-- Atoms at the entry, and forms after an edge.
use Rattle.std.specs.Prelude.{ℕ, ◌+◌, if◌then◌else◌, List, take, ℤ}
use Rattle.dc_affine.specs.declared.atom.Atom.{Atom}
use Rattle.dc_system.specs.declared.edges.Edge.{Edge}
use Rattle.dc_system.specs.After.{row_after_of}

-- with the locals 0, over the parameters
abbrev pub at_start : ℕ → Atom → Atom
at_start params a = record { c0 = a.c0; coefs = take params a.coefs }

-- the places over which an edge speaks: the variables, and the chosen value where it has one
abbrev pub edge_places : ℕ → Edge → ℕ
edge_places n e = if e.any then n + 1 else n

-- the coefficients, at the places of an edge, that a form has after the edge
abbrev pub form_after : ℕ → Edge → List ℤ → List ℤ
form_after n e form = take (edge_places n e) (row_after_of n e form).coefs
