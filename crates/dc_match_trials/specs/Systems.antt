-- What the tests' systems are made of.
use Rattle.std.specs.Prelude.{ℕ, [], ◌∷◌, pos}
use Rattle.dc_affine.specs.declared.atom.Atom.{Atom}
use Rattle.dc_system.specs.declared.edges.System.{System}

-- it does nothing
abbrev pub idle_system : ℕ → ℕ → System
idle_system vars params = record { vars = vars; params = params; locs = 1; edges = []; literals = [] }

-- the first place is at least 0
abbrev pub first_place : Atom
first_place = record { c0 = pos 0; coefs = pos 1 ∷ [] }
