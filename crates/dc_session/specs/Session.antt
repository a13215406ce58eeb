-- The problems of an analysis, in order, as the definitions determine them.
use Rattle.std.specs.Prelude.{◌≡◌, ℕ, Bool, List, [], ◌∷◌, ◌++◌, flat_map, ℤ}
use Rattle.dc_syntax.specs.declared.tree.Proc.{Proc}
use Rattle.dc_syntax.specs.declared.tree.Side.{Side}
use Rattle.dc_syntax.specs.declared.tree.Side.TheVariants.{New, Old}
use Rattle.dc_affine.specs.declared.atom.Atom.{Atom}
use Rattle.dc_lp.specs.Linear.{Linear}
use Rattle.dc_system.specs.declared.edges.System.{System}
use Rattle.dc_system.specs.Systems.{system_of}
use Rattle.dc_system.specs.Folded.{IsFolded}
use Rattle.dc_cert.specs.declared.certificate.Settings.{Settings}
use Rattle.dc_points.specs.Stated.{empty_problem}
use Rattle.dc_points.specs.Flags.{IsFlag, AreFlags}
use Rattle.dc_entail.specs.declared.answer.Site.TheVariants as site
use Rattle.dc_entail.specs.Asked.{Asked, ask}
use Rattle.dc_rows.specs.declared.kinds.Candidates.{Candidates}
use Rattle.dc_rows.specs.Candidate.{candidates_of}
use Rattle.dc_families.specs.Graphs.{Graph, graph_of}
use Rattle.dc_families.specs.Families.{Family, everything}
use Rattle.dc_families.specs.Printed.{Question, ArePrinted}
use Rattle.dc_greatest.specs.Parts.{Rounds}
use Rattle.dc_invariant.specs.Prunes.{questions_asked}
use Rattle.dc_invariant.specs.Keeps.{numbered, exit_atoms, AreLive, keeps_asked}
use Rattle.dc_claims.specs.Duties.{Pair, Flags}
use Rattle.dc_claims.specs.Problems.{main_problem}

-- what is analysed: two versions of a program, under a condition
pub record Input : Type 0 where
  pub new : Proc
  pub old : Proc
  pub cases : List (List Atom)
  pub settings : Settings

-- the candidates are those of the system before folding, and of the atoms of all cases in order
abbrev pub candidates_for : Input → Proc → Candidates
candidates_for i p = candidates_of (system_of p) (flat_map (λ case. case) i.cases) i.settings.pairs

-- ---- 1. whether each case is dead
abbrev pub case_asked : ℕ → ℕ → List Atom → Asked
case_asked params k case = ask (site.When k) (empty_problem case params)

abbrev pub cases_asked : ℕ → List (List Atom) → List Asked
cases_asked params cases = numbered (case_asked params) 0 cases

-- ---- 2. of one version
-- the problems of the rounds and the family that these leave; the printed atoms and the questions
-- that are asked for them; and by these atoms which edges are live, and whether the exit is
pub record Part : Type 0 where
  pub rounds : List Asked
  pub family : Family
  pub questions : List (List Question)
  pub printed : List (List Atom)
  pub edges_live : List Bool
  pub exit_live : Bool

module _ (side : Side) (s : Graph) (cases : List (List Atom)) (live : List Bool) (c : Candidates) where
  -- the rounds go from every candidate everywhere
  pub record IsPart (p : Part) : Type 0 where
    pub rounds : Rounds side s cases live c (everything s c) p.rounds p.family
    pub printed : ArePrinted s c p.family p.printed p.questions
    pub edges_live : AreLive s p.printed p.edges_live
    pub exit_live : IsFlag p.exit_live (exit_atoms s p.printed)

  -- the rounds, then pruning, then what shows the printed atoms
  abbrev pub part_asked : Part → List Asked
  part_asked p =
      p.rounds ++ (questions_asked side c p.family 0 p.questions
      ++ keeps_asked side s p.printed cases live p.edges_live)

-- ---- the whole: both systems folded, which cases are live, and the parts of both versions
pub record Analysis : Type 0 where
  pub new : System
  pub old : System
  pub live : List Bool
  pub new_part : Part
  pub old_part : Part

pub record IsAnalysis (i : Input) (a : Analysis) : Type 0 where
  pub new : IsFolded (system_of i.new) a.new
  pub old : IsFolded (system_of i.old) a.old
  pub live : AreFlags a.live i.cases
  pub new_part : IsPart New (graph_of a.new) i.cases a.live (candidates_for i i.new) a.new_part
  pub old_part : IsPart Old (graph_of a.old) i.cases a.live (candidates_for i i.old) a.old_part

module _ (i : Input) (a : Analysis) where
  abbrev pub new_asked : List Asked
  new_asked = part_asked New (graph_of a.new) i.cases a.live (candidates_for i i.new) a.new_part

  abbrev pub old_asked : List Asked
  old_asked = part_asked Old (graph_of a.old) i.cases a.live (candidates_for i i.old) a.old_part

  -- all problems before the main one
  abbrev pub early_asked : List Asked
  early_asked = cases_asked i.new.params i.cases ++ (new_asked ++ old_asked)

  -- ---- 3. the main problem, over the printed atoms
  abbrev pub pair_of : Pair
  pair_of = record {
    new = a.new;
    new_atoms = a.new_part.printed;
    old = a.old;
    old_atoms = a.old_part.printed;
    cases = i.cases;
  }

  abbrev pub flags_of : Flags
  flags_of = record {
    new_edges = a.new_part.edges_live;
    new_exit = a.new_part.exit_live;
    old_edges = a.old_part.edges_live;
    old_exit = a.old_part.exit_live;
    cases = a.live;
  }

  abbrev pub main_of : Linear ℤ
  main_of = main_problem pair_of i.settings.degree i.settings.products flags_of

  abbrev pub main_asked : Asked
  main_asked = ask site.Main main_of

  -- ---- all problems, each with its site
  abbrev pub session_of : List Asked
  session_of = early_asked ++ main_asked ∷ []
