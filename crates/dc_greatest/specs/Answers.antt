-- What `greatest` answers, and which refusals a part of the session has.
use Rattle.std.specs.Prelude.{ℕ, Bool, List}
use Rattle.dc_syntax.specs.declared.tree.Side.{Side}
use Rattle.dc_affine.specs.declared.atom.Atom.{Atom}
use Rattle.dc_simplex.specs.Limits.{Past, Out}
use Rattle.dc_system.specs.declared.edges.System.{System}
use Rattle.dc_entail.specs.Asked.{Asked, AllDone, Refuses}
use Rattle.dc_rows.specs.declared.kinds.Candidates.{Candidates}
use Rattle.dc_families.specs.Graphs.{graph_of}
use Rattle.dc_families.specs.Rounds.{IsGreatest}
use Rattle.dc_greatest.specs.declared.family.LocFamily.{LocFamily}
use Rattle.dc_greatest.specs.declared.family.InvFault.{InvFault}
use Rattle.dc_greatest.specs.declared.family.InvFault.TheVariants.{Past128, Budget, NoMemory}
use Rattle.dc_greatest.specs.Kept.{stands_for, IsShaped}
use Rattle.dc_greatest.specs.Parts.{RoundsAsk}

-- each problem that a part of the session asks comes to its end
abbrev pub IsThrough : ℕ → (List Asked → Type 0) → Type 0
IsThrough budget Asks = (asked : List Asked) × Asks asked × AllDone budget asked

-- a refusal: want of memory is free, each other is the first of that part
abbrev pub IsFault : ℕ → (List Asked → Type 0) → InvFault → Type 0
IsFault budget Asks (Past128 site k) =
    (asked : List Asked) × Asks asked × Refuses budget asked site (Past k)
IsFault budget Asks (Budget site) =
    (asked : List Asked) × Asks asked × Refuses budget asked site (Out budget)
IsFault budget Asks NoMemory = Unit {0}

-- the greatest family, where the problems of all rounds come to their end
pub record TellsGreatest (side : Side) (s : System) (cases : List (List Atom)) (live : List Bool)
    (c : Candidates) (budget : ℕ) (fs : List LocFamily) : Type 0 where
  pub shape : IsShaped s.locs c fs
  pub greatest : IsGreatest (graph_of s) cases c (stands_for s.vars c fs)
  pub through : IsThrough budget (RoundsAsk side (graph_of s) cases live c)
