-- The parts of an analysis as they are made, each with what it answers.
use Rattle.std.specs.Prelude.{◌≡◌, ℕ, Bool, List, map, ℤ, Option, None}
use Rattle.std.specs.Option.{option_and_then}
use Rattle.dc_math.specs.Rational.{ℚ}
use Rattle.dc_syntax.specs.declared.tree.Proc.{Proc}
use Rattle.dc_syntax.specs.declared.tree.Side.{Side}
use Rattle.dc_syntax.specs.declared.tree.Side.TheVariants.{New, Old}
use Rattle.dc_affine.specs.declared.atom.Atom.{Atom}
use Rattle.dc_lp.specs.Linear.{Linear}
use Rattle.dc_lp.specs.Tables.{Table}
use Rattle.dc_lp.specs.Meanings.{Meaning, resting}
use Rattle.dc_system.specs.Shapes.{IsWellFormed}
use Rattle.dc_system.specs.Systems.{system_of}
use Rattle.dc_system.specs.Folded.{IsFolded}
use Rattle.dc_points.specs.Flags.{AreFlags}
use Rattle.dc_cert.specs.declared.certificate.Liveness.{Liveness}
use Rattle.dc_cert.specs.declared.certificate.SideCert.{SideCert}
use Rattle.dc_cert.specs.declared.certificate.Certificate.{Certificate}
use Rattle.dc_cert.specs.Ranges.{is_live}
use Rattle.dc_rows.specs.declared.kinds.Candidates.{Candidates}
use Rattle.dc_rows.specs.Candidate.{AreCandidates}
use Rattle.dc_entail.specs.Asked.{Asked, AllDone}
use Rattle.dc_families.specs.Graphs.{Graph}
use Rattle.dc_invariant.specs.Keeps.{IsSidePart}
use Rattle.dc_claims.specs.Duties.{Pair, Flags}
use Rattle.dc_claims.specs.Problems.{main_problem}
use Rattle.dc_match.specs.Answers.{size_fault}
use Rattle.dc_check.specs.Pairs.{edge_flags}
use Rattle.dc_session.specs.Session.{Input, candidates_for, cases_asked, Part, IsPart, part_asked}
use Rattle.dc_session.specs.Session.{Analysis, IsAnalysis, early_asked}
use Rattle.dc_session.specs.Made.{AreCaseLines, IsSideOf, IsMade}
use Rattle.dc_session.specs.Refusals.{Excess, of_main, system_excess, IsThrough}
use Rattle.dc_engine.specs.declared.lent.Lent.{Lent}
use Rattle.dc_engine.specs.declared.lent.Version.{Version}
use Rattle.dc_engine.specs.declared.lent.Versions.{Versions}
use Rattle.dc_engine.specs.declared.lent.Early.{Early}
use Rattle.dc_engine.specs.declared.versions.Plain.{Plain}
use Rattle.dc_engine.specs.Inputs.{input}

abbrev pub input_of : Lent → Input
input_of t = input t.new.now t.old.now t.cases.now t.settings.now

abbrev pub degree_of : Lent → ℕ
degree_of t = t.settings.now.degree

abbrev pub products_of : Lent → ℕ
products_of t = t.settings.now.products

-- these problems and no others
abbrev pub Only : List Asked → List Asked → Type 0
Only ps asked = asked ≡ ps

-- ---- both versions
-- the systems before folding, within their limits
pub record ArePlain (i : Input) (p : Plain) : Type 0 where
  pub new : p.new ≡ system_of i.new
  pub new_shape : IsWellFormed p.new
  pub new_within : system_excess New i.new ≡ None
  pub old : p.old ≡ system_of i.old
  pub old_shape : IsWellFormed p.old
  pub old_within : system_excess Old i.old ≡ None

-- the folded system of a program, over the parameters of the input, and its candidates
pub record IsVersion (i : Input) (p : Proc) (v : Version) : Type 0 where
  pub folded : IsFolded (system_of p) v.system
  pub well_formed : IsWellFormed v.system
  pub params : v.system.params ≡ i.new.params
  pub candidates : v.candidates ≡ candidates_for i p
  pub kind : AreCandidates v.system.vars v.candidates

pub record AreVersions (i : Input) (v : Versions) : Type 0 where
  pub new : IsVersion i i.new v.new
  pub old : IsVersion i i.old v.old

-- ---- the problems before the main one
-- the lines of the cases
pub record TellsCases (i : Input) (lines : List Liveness) : Type 0 where
  pub lines_are : AreCaseLines i.new.params i.settings.pivots i.cases (map is_live lines) lines
  pub right : AreFlags (map is_live lines) i.cases
  pub through : AllDone i.settings.pivots (cases_asked i.new.params i.cases)

-- the side of a version
module _ (side : Side) (s : Graph) (cases : List (List Atom)) (live : List Bool) (c : Candidates) where
  pub record TellsPart (budget : ℕ) (x : SideCert) : Type 0 where
    pub part : Part
    pub right : IsPart side s cases live c part
    pub keeps : IsSidePart s part.printed budget cases live part.edges_live x
    pub exit : is_live x.exit_line ≡ part.exit_live
    pub through : AllDone budget (part_asked side s cases live c part)

  abbrev pub PartAsks : List Asked → Type 0
  PartAsks asked =
      (p : Part) × IsPart side s cases live c p × (asked ≡ part_asked side s cases live c p)

-- the lines and both sides
pub record TellsEarly (i : Input) (v : Versions) (e : Early) : Type 0 where
  pub analysis : Analysis
  pub right : IsAnalysis i analysis
  pub new : analysis.new ≡ v.new.system
  pub old : analysis.old ≡ v.old.system
  pub when : AreCaseLines i.new.params i.settings.pivots i.cases analysis.live e.when
  pub new_side : IsSideOf i analysis.new analysis.live analysis.new_part e.new_side
  pub old_side : IsSideOf i analysis.old analysis.live analysis.old_part e.old_side
  pub through : AllDone i.settings.pivots (early_asked i analysis)

abbrev pub EarlyAsks : Input → List Asked → Type 0
EarlyAsks i asked = (a : Analysis) × IsAnalysis i a × (asked ≡ early_asked i a)

-- ---- the main problem
abbrev pub flags_in : Early → Flags
flags_in e = record {
  new_edges = edge_flags e.new_side.edges;
  new_exit = is_live e.new_side.exit_line;
  old_edges = edge_flags e.old_side.edges;
  old_exit = is_live e.old_side.exit_line;
  cases = map is_live e.when;
}

module _ (t : Lent) (v : Versions) (e : Early) where
  abbrev pub pair_in : Pair
  pair_in = record {
    new = v.new.system;
    new_atoms = e.new_side.families;
    old = v.old.system;
    old_atoms = e.old_side.families;
    cases = t.cases.now;
  }

  abbrev pub main_in : Linear ℤ
  main_in = main_problem pair_in (degree_of t) (products_of t) (flags_in e)

  -- the limit that it passes
  abbrev pub width_of : Option Excess
  width_of = option_and_then of_main (size_fault pair_in (degree_of t) (products_of t) (flags_in e))

-- ---- the certificate, before the checker has looked at it
pub record TellsMade (i : Input) (left : Meaning) (c : Certificate) : Type 0 where
  pub analysis : Analysis
  pub through : IsThrough i analysis
  pub table : Table ℚ
  pub made : IsMade i analysis table c
  pub rest : left ≡ resting table
