-- Where every problem comes to its end, the certificate of an analysis is made.
use Rattle.std.specs.Prelude.{◌≡◌, ℕ, ◌≤◌, Bool, List, [], ◌∷◌, ◌++◌, map, length, None}
use Rattle.std.specs.List.{AllByRecursion}
use Rattle.std.proofs.Common.{refl, sym, ◌∙◌, subst, arith}
use Rattle.std.proofs.lemmas.List.{length-map}
use Rattle.dc_math.specs.Rational.{ℚ}
use Rattle.dc_syntax.specs.declared.tree.Proc.{Proc}
use Rattle.dc_syntax.specs.declared.tree.Side.{Side}
use Rattle.dc_syntax.specs.declared.tree.Side.TheVariants.{New, Old}
use Rattle.dc_affine.specs.declared.atom.Atom.{Atom}
use Rattle.dc_affine.specs.Atoms.{IsFullAtom, AllCases}
use Rattle.dc_affine.proofs.Within.{flat_atoms, full_within}
use Rattle.dc_lp.specs.Tables.{Table}
use Rattle.dc_program.specs.Programs.{IsProgram, AllShort}
use Rattle.dc_system.specs.declared.edges.System.{System}
use Rattle.dc_system.specs.Systems.{system_of, size_fault}
use Rattle.dc_system.specs.Folded.{IsFolded}
use Rattle.dc_system.specs.Shapes.{IsWellFormed}
use Rattle.dc_cert.specs.declared.certificate.SideCert.{SideCert}
use Rattle.dc_cert.specs.declared.certificate.Certificate.{Certificate}
use Rattle.dc_entail.specs.Asked.{AllDone}
use Rattle.dc_rows.specs.Candidate.{AreCandidates}
use Rattle.dc_families.specs.Graphs.{graph_of}
use Rattle.dc_families.specs.Families.{family_of}
use Rattle.dc_families.specs.Rounds.{IsInductive, IsGreatest}
use Rattle.dc_families.proofs.Folds.{systems_are_graphs}
use Rattle.dc_families.proofs.Prunes.{printed_are_inductive}
use Rattle.dc_points.specs.Flags.{AreFlags}
use Rattle.dc_points.proofs.Flags.{flags_many}
use Rattle.dc_invariant.specs.Prunes.{questions_asked}
use Rattle.dc_invariant.specs.Keeps.{kept_atoms, keeps_asked}
use Rattle.dc_invariant.proofs.Tells.{full_atoms}
use Rattle.dc_invariant.proofs.Whole.{printed_are_atoms}
use Rattle.dc_claims.specs.Plans.{AreAtoms, IsPlan, IsCase, IsPair, IsFit}
use Rattle.dc_mainlines.proofs.Mains.{main_problems_are_paired}
use Rattle.dc_session.specs.Session.{Input, candidates_for, Part, IsPart, part_asked, Analysis, cases_asked, new_asked, old_asked, early_asked, main_asked, pair_of, flags_of, main_of}
use Rattle.dc_session.specs.Refusals.{IsThrough}
use Rattle.dc_session.specs.Made.{IsSideOf, unknowns_in, IsMade}
use Rattle.dc_session.specs.Answers.{IsInput}
use Rattle.dc_session.proofs.Analyses.{are_of_greatest}
use Rattle.dc_acceptance.proofs.Accepted.{IsWithin, within, side_system, side_params, side_kind}
use Rattle.dc_acceptance.proofs.Few.{few_printed}
use Rattle.dc_endings.specs.Laws.{EachIsMade}
use Rattle.dc_endings.proofs.Starts.{IsLight}
use Rattle.dc_endings.proofs.Vectors.{has_body}
use Rattle.dc_endings.proofs.Shown.{done_ended}
use Rattle.dc_endings.proofs.Sides.{case_lines, has_side}
use Rattle.dc_endings.proofs.Mains.{main_light}
use Rattle.dc_greatest.proofs.Searching.{done_parts}

-- ---- one version
module _ (i : Input) (p : Proc) (s : System) (program : IsProgram p) (size : size_fault p ≡ None) (folded : IsFolded (system_of p) s) where
  formed : IsWellFormed s
  formed = side_system i p s program size folded

  module _ (side : Side) (live : List Bool) (part : Part) (kind : AreCandidates s.vars (candidates_for i p))
      (is_part : IsPart side (graph_of s) i.cases live (candidates_for i p) part)
      (greatest : IsGreatest (graph_of s) i.cases (candidates_for i p) part.family) where
    full : AllByRecursion (AllByRecursion (IsFullAtom s.vars)) part.printed
    full = printed_are_atoms (graph_of s) (candidates_for i p) part.family part.printed part.questions kind is_part.printed

    inductive : IsInductive (graph_of s) i.cases (family_of part.printed)
    inductive =
        printed_are_inductive (graph_of s) i.cases (candidates_for i p) part.family part.printed part.questions (systems_are_graphs s formed) kind greatest is_part.printed

    are_atoms : (lists : List (List Atom)) → AllByRecursion (λ atoms. length atoms ≤ 1024) lists → AllByRecursion (AllByRecursion (IsFullAtom s.vars)) lists
        → AllByRecursion (AreAtoms s.vars) lists
    are_atoms [] f h = tt
    are_atoms (atoms ∷ lists) f h = (record { few = f.0; within = full_atoms s.vars s.vars atoms refl h.0 }, are_atoms lists f.1 h.1)

    plan : IsPlan s part.printed
    plan = record {
      system = formed;
      one_each = is_part.printed.one_each;
      each = are_atoms part.printed (few_printed (graph_of s) (candidates_for i p) part.family part.printed part.questions kind.few_rows is_part.printed) full;
    }

    flags_one_each : length part.edges_live ≡ length s.edges
    flags_one_each =
        flags_many part.edges_live (map (kept_atoms (graph_of s) part.printed) s.edges) is_part.edges_live ∙ length-map s.edges (kept_atoms (graph_of s) part.printed)

    made_side : AllCases (IsFullAtom s.params) i.cases → AreFlags live i.cases → AllDone i.settings.pivots (part_asked side (graph_of s) i.cases live (candidates_for i p) part)
        → (x : SideCert) × IsSideOf i s live part x
    made_side condition flags done =
        let a = done_parts i.settings.pivots part.rounds
        (questions_asked side (candidates_for i p) part.family 0 part.questions ++ keeps_asked side (graph_of s) part.printed i.cases live part.edges_live) done in
        let b = done_parts i.settings.pivots (questions_asked side (candidates_for i p) part.family 0 part.questions)
        (keeps_asked side (graph_of s) part.printed i.cases live part.edges_live) a.1 in
        let x = has_side side s formed i.cases condition part.printed full inductive i.settings.pivots live part.edges_live part.exit_live flags is_part.edges_live is_part.exit_live b.1 in
        (x.made, record { part = x.part; exit = x.exit_flag })

-- ---- the cases

are_cases : (n : ℕ) (cases : List (List Atom)) → AllShort 130 cases → AllCases (IsFullAtom n) cases → AllByRecursion (IsCase n) cases
are_cases n [] h g = tt
are_cases n (case ∷ cases) h g = (record { few = (let l = h.0 in omega arith); within = full_within n case g.0 }, are_cases n cases h.1 g.1)

-- ---- the whole
module _ (i : Input) (a : Analysis) (input : IsInput i) (h : IsThrough i a) where
  abbrev budget : ℕ
  budget = i.settings.pivots

  limits : IsWithin i
  limits = within i h.counts

  new_cases : AllCases (IsFullAtom i.new.params) i.cases
  new_cases = input.condition.atoms

  old_cases : AllCases (IsFullAtom i.old.params) i.cases
  old_cases = subst (λ n. AllCases (IsFullAtom n) i.cases) input.params.0 new_cases

  new_kind : AreCandidates a.new.vars (candidates_for i i.new)
  new_kind = side_kind i i.new a.new input.new limits.new h.analysis.new limits.new_rows (flat_atoms i.new.params i.cases new_cases)

  old_kind : AreCandidates a.old.vars (candidates_for i i.old)
  old_kind = side_kind i i.old a.old input.old limits.old h.analysis.old limits.old_rows (flat_atoms i.old.params i.cases old_cases)

  new_params : a.new.params ≡ i.new.params
  new_params = side_params i i.new a.new input.new limits.new h.analysis.new

  old_params : a.old.params ≡ i.old.params
  old_params = side_params i i.old a.old input.old limits.old h.analysis.old

  -- ---- the problems of each part
  record AreDone : Type 0 where
    cases : AllDone budget (cases_asked i.new.params i.cases)
    new : AllDone budget (new_asked i a)
    old : AllDone budget (old_asked i a)
    main : AllDone budget (main_asked i a ∷ [])

  done : AreDone
  done =
      let x = done_parts budget (early_asked i a) (main_asked i a ∷ []) h.through in
      let y = done_parts budget (cases_asked i.new.params i.cases) (new_asked i a ++ old_asked i a) x.0 in
      let z = done_parts budget (new_asked i a) (old_asked i a) y.1 in
      record { cases = y.0; new = z.0; old = z.1; main = x.1 }

  -- ---- the main problem
  pair : IsPair (pair_of i a)
  pair = record {
    new = plan i i.new a.new input.new limits.new h.analysis.new New a.live a.new_part new_kind h.analysis.new_part (are_of_greatest i a h.analysis).new;
    old = plan i i.old a.old input.old limits.old h.analysis.old Old a.live a.old_part old_kind h.analysis.old_part (are_of_greatest i a h.analysis).old;
    params = new_params ∙ input.params.0 ∙ sym old_params;
    cases = record {
      some = input.condition.some;
      few = input.condition.few;
      each = subst (λ n. AllByRecursion (IsCase n) i.cases) (sym new_params) (are_cases i.new.params i.cases input.condition.short new_cases);
    };
  }

  fit : IsFit (pair_of i a) i.settings.degree i.settings.products (flags_of i a)
  fit = record {
    pair = pair;
    flags = record {
      new = flags_one_each i i.new a.new input.new limits.new h.analysis.new New a.live a.new_part new_kind h.analysis.new_part (are_of_greatest i a h.analysis).new;
      old = flags_one_each i i.old a.old input.old limits.old h.analysis.old Old a.live a.old_part old_kind h.analysis.old_part (are_of_greatest i a h.analysis).old;
      cases = flags_many a.live i.cases h.analysis.live;
    };
    degree = input.settings.degree;
    some_products = input.settings.some_products;
    few_products = input.settings.few_products;
  }

  light : IsLight (main_of i a)
  light = main_light (pair_of i a) i.settings.degree i.settings.products (flags_of i a) fit

  made : (t : Table ℚ) × (c : Certificate) × IsMade i a t c
  made =
      let x = done_ended budget (main_asked i a) done.main.0 in
      let paired = main_problems_are_paired (pair_of i a) i.settings.degree i.settings.products (flags_of i a) in
      let b = has_body (main_of i a) (unknowns_in i a) paired light budget x.table x.ending x.comes in
      let w = case_lines i.new.params budget (let l = input.new.few in let q = input.new.params in omega arith) 0 i.cases a.live new_cases h.analysis.live done.cases in
      let n = made_side i i.new a.new input.new limits.new h.analysis.new New a.live a.new_part new_kind h.analysis.new_part (are_of_greatest i a h.analysis).new
      (subst (λ k. AllCases (IsFullAtom k) i.cases) (sym new_params) new_cases) h.analysis.live done.new in
      let o = made_side i i.old a.old input.old limits.old h.analysis.old Old a.live a.old_part old_kind h.analysis.old_part (are_of_greatest i a h.analysis).old
      (subst (λ k. AllCases (IsFullAtom k) i.cases) (sym old_params) old_cases) h.analysis.live done.old in (
        x.table,
        record {
          version = 2;
          body = b.0;
          degree = i.settings.degree;
          products = i.settings.products;
          when = w.0;
          new_side = n.0;
          old_side = o.0;
        },
        record {
          version = refl;
          degree = refl;
          products = refl;
          when = w.1;
          new_side = n.1;
          old_side = o.1;
          main = record { ending = x.ending; comes = x.comes };
          body = b.1;
        },
      )

pub each_is_made : EachIsMade
each_is_made i a input h = made i a input h
