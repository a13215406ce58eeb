-- Worked by hand: `proc f(n) { }` against itself, without a condition.
use Rattle.std.specs.Prelude.{◌≡◌, ℕ, Bool, true, false, if◌then◌else◌, eqb, List, [], ◌∷◌, ◌++◌, map, ℤ, pos, negsuc, ◌≤ℤ◌, Option, None}
use Rattle.std.proofs.Common.{refl, sym, arith}
use Rattle.std.proofs.lemmas.Int.{ints}
use Rattle.dc_math.specs.Members.{Among, head, tail}
use Rattle.dc_syntax.specs.declared.tree.Proc.{Proc}
use Rattle.dc_syntax.specs.declared.tree.Side.{Side}
use Rattle.dc_syntax.specs.declared.tree.Side.TheVariants.{New, Old}
use Rattle.dc_affine.specs.declared.atom.Atom.{Atom}
use Rattle.dc_system.specs.declared.edges.Edge.{Edge}
use Rattle.dc_system.specs.declared.edges.System.{System}
use Rattle.dc_system.specs.Systems.{system_of}
use Rattle.dc_system.specs.Folded.{fold_at, IsFolded, unfolded}
use Rattle.dc_points.specs.Points.{Point, MeetsAt, IsDead, whole_point}
use Rattle.dc_points.specs.Flags.{IsFlag}
use Rattle.dc_entail.specs.declared.answer.Site.{Site}
use Rattle.dc_entail.specs.declared.answer.Site.TheVariants as site
use Rattle.dc_entail.specs.Asked.{Asked}
use Rattle.dc_rows.specs.declared.kinds.Candidates.{Candidates}
use Rattle.dc_families.specs.Graphs.{Graph, graph_of}
use Rattle.dc_families.specs.Families.{Family, never, candidate_atoms, everything}
use Rattle.dc_families.specs.Rounds.{CasesGive, IsRound, IsWithin}
use Rattle.dc_families.specs.Printed.{ArePrinted, IsPrinted, Pruned}
use Rattle.dc_families.specs.Printed as printed
use Rattle.dc_families.proofs.Lists.{differ}
use Rattle.dc_families.proofs.Tests.{everything_is}
use Rattle.dc_greatest.specs.Parts.{round_asked, Rounds, last, next}
use Rattle.dc_session.specs.Session.{Input, candidates_for, Part, IsPart, Analysis, IsAnalysis, session_of}
use Rattle.dc_session.specs.Refusals.{early_excess}

abbrev idle : Proc
idle = record { name = 102 ∷ []; names = (110 ∷ []) ∷ []; params = 1; body = [] }

abbrev input : Input
input = record { new = idle; old = idle; cases = [] ∷ []; settings = record { degree = 0; products = 1; pairs = false; pivots = 100000 } }

-- ---- candidates: n and -n, with the neighbours of 0
abbrev few : Candidates
few = record { rows = (pos 1 ∷ []) ∷ (negsuc 0 ∷ []) ∷ []; bounds = negsuc 0 ∷ pos 0 ∷ pos 1 ∷ [] }

few_candidates : candidates_for input idle ≡ few
few_candidates = refl

within_limits : early_excess input ≡ None
within_limits = refl

-- ---- the analysis: one round takes all candidates away, and one finds nothing to take
abbrev graph : Graph
graph = graph_of (system_of idle)

abbrev nothing : Family
nothing l a = false

abbrev first_round : Side → List Asked
first_round side = round_asked side graph few (everything graph few) ([] ∷ []) (true ∷ []) []

abbrev last_round : Side → List Asked
last_round side = round_asked side graph few nothing ([] ∷ []) (true ∷ []) []

abbrev part : Side → Part
part side = record {
  rounds = first_round side ++ last_round side;
  family = nothing;
  questions = [] ∷ [];
  printed = [] ∷ [];
  edges_live = [];
  exit_live = true;
}

abbrev analysis : Analysis
analysis = record { new = system_of idle; old = system_of idle; live = true ∷ []; new_part = part New; old_part = part Old }

-- ---- its sites in order
sites : map (λ (q : Asked). q.site) (session_of input analysis) ≡
    site.When 0
    ∷ site.EntryRow New 0 0 ∷ site.EntryRow New 0 1 ∷ site.Exit New
    ∷ site.EntryRow Old 0 0 ∷ site.EntryRow Old 0 1 ∷ site.Exit Old
    ∷ site.Main ∷ []
sites = refl
