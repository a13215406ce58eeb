-- What is made is accepted, but for sums that don't fit.
use Rattle.std.specs.Prelude.{◌≡◌, ℕ, Bool, true, false, ltb, if◌then◌else◌, List, [], ◌∷◌, ◌++◌, length, flat_map, Option, Some, None}
use Rattle.std.specs.Option.{option_and_then}
use Rattle.std.specs.List.{AllByRecursion}
use Rattle.std.proofs.Common.{refl, sym, ◌∙◌, ap, subst, arith, inl, inr}
use Rattle.dc_math.specs.Rational.{ℚ}
use Rattle.dc_syntax.specs.declared.tree.Proc.{Proc}
use Rattle.dc_syntax.specs.declared.tree.Side.{Side}
use Rattle.dc_syntax.specs.declared.tree.Side.TheVariants.{New, Old}
use Rattle.dc_syntax.specs.declared.tree.Count.{Count}
use Rattle.dc_syntax.specs.declared.tree.Count.TheVariants.{Rows, Bounds}
use Rattle.dc_affine.specs.declared.atom.Atom.{Atom}
use Rattle.dc_affine.specs.Atoms.{IsAtom, IsFullAtom, AllCases}
use Rattle.dc_affine.proofs.Within.{flat_atoms}
use Rattle.dc_lp.specs.Tables.{Table}
use Rattle.dc_program.specs.Programs.{IsProgram}
use Rattle.dc_system.specs.declared.edges.System.{System}
use Rattle.dc_system.specs.declared.edges.SystemFault.TheVariants as system
use Rattle.dc_system.specs.Systems.{system_of, size_fault}
use Rattle.dc_system.specs.Folded.{IsFolded}
use Rattle.dc_system.specs.Shapes.{IsWellFormed}
use Rattle.dc_system.proofs.Shape as shape
use Rattle.dc_system.proofs.Renumbered.{folded_shaped}
use Rattle.dc_system.proofs.OneFold.{one_folded}
use Rattle.dc_cert.specs.declared.certificate.Liveness.{Liveness}
use Rattle.dc_cert.specs.declared.certificate.SideCert.{SideCert}
use Rattle.dc_cert.specs.declared.certificate.Body.{Body}
use Rattle.dc_cert.specs.declared.certificate.Certificate.{Certificate}
use Rattle.dc_rows.specs.declared.kinds.RowFault.TheVariants as row
use Rattle.dc_rows.specs.declared.kinds.Candidates.{Candidates}
use Rattle.dc_rows.specs.Candidate as rows
use Rattle.dc_rows.specs.Candidate.{AreCandidates}
use Rattle.dc_rows.proofs.Wanted.{are_kind}
use Rattle.dc_match.specs.declared.fault.MatchFault.{MatchFault}
use Rattle.dc_match.specs.declared.fault.MatchFault.TheVariants as match
use Rattle.dc_match.specs.Answers as mains
use Rattle.dc_families.specs.Graphs.{graph_of}
use Rattle.dc_families.specs.Families.{family_of}
use Rattle.dc_families.specs.Rounds.{IsInductive, IsGreatest}
use Rattle.dc_families.proofs.Folds.{systems_are_graphs}
use Rattle.dc_families.proofs.Prunes.{printed_are_inductive}
use Rattle.dc_invariant.specs.Keeps.{IsSidePart, AreLive}
use Rattle.dc_invariant.proofs.Whole.{printed_are_atoms}
use Rattle.dc_claims.specs.Duties.{Pair, Flags}
use Rattle.dc_claims.specs.Parts.{unknowns_of}
use Rattle.dc_claims.specs.Problems.{main_problem}
use Rattle.dc_clauses.specs.declared.step.Step.{Step}
use Rattle.dc_clauses.specs.Steps.{counted, step}
use Rattle.dc_clauses.specs.Sides.{shape_tests, case_tests, entry_tests, edge_tests, keep_tests, exit_tests, family_steps}
use Rattle.dc_clauses.specs.Mains as mainlines
use Rattle.dc_mainlines.proofs.Mains.{main_problems_are_paired}
use Rattle.dc_check.specs.declared.fault.CheckFault.TheVariants as check
use Rattle.dc_check.specs.Pairs.{pair, flags}
use Rattle.dc_check.specs.Systems.{IsSystemOf}
use Rattle.dc_check.specs.Answers.{claim_steps, main_fault, IsFirst, FailsAt, Accepts}
use Rattle.dc_session.specs.Session.{Input, candidates_for, Part, IsPart, Analysis, pair_of, flags_of, main_of}
use Rattle.dc_session.specs.Refusals.{excess, of_rows, of_main, system_excess, rows_excess, early_excess}
use Rattle.dc_session.specs.Made.{IsSideOf, AreCaseLines, unknowns_in}
use Rattle.dc_session.proofs.Analyses.{first_none, are_of_greatest, system_within}
use Rattle.dc_session.proofs.Repeated.{made_repeats}
use Rattle.dc_session.proofs.Stops.{some_none}
use Rattle.dc_acceptance.specs.Laws.{Makes, MadeHaveSystems, MadeAreNarrow, MadeAreTrue, AcceptedAreTold, FaultsAreFolds}
use Rattle.dc_acceptance.proofs.Passing.{not_true, Passes, StepsPass, pass_both, steps_both, counted_pass, failure_passes}
use Rattle.dc_acceptance.proofs.Sides.{IsMadeSide, SidePasses, side_passes}
use Rattle.dc_acceptance.proofs.Bodies.{shown_at_end, body_passes}

-- ---- limits

rows_limits : (side : Side) (b d : Bool) (m n : ℕ)
    → option_and_then (of_rows side) (if b then Some (row.TooLarge Rows m) else (if d then Some (row.TooLarge Bounds n) else None)) ≡ None
    → (if b then Some (row.TooLarge Rows m) else (if d then Some (row.TooLarge Bounds n) else None)) ≡ None
rows_limits side true d m n e = absurd (cc)
rows_limits side false true m n e = absurd (cc)
rows_limits side false false m n e = refl

rows_within : (side : Side) (c : Candidates) → rows_excess side c ≡ None → rows.size_fault c ≡ None
rows_within side c e = rows_limits side (ltb 1024 (length c.rows)) (ltb 256 (length c.bounds)) (length c.rows) (length c.bounds) e

-- no limit is passed
pub record IsWithin (i : Input) : Type 0 where
  pub new : size_fault i.new ≡ None
  pub old : size_fault i.old ≡ None
  pub new_rows : rows.size_fault (candidates_for i i.new) ≡ None
  pub old_rows : rows.size_fault (candidates_for i i.old) ≡ None

pub within : (i : Input) → early_excess i ≡ None → IsWithin i
within i e =
    let c = candidates_for i i.new in
    let d = candidates_for i i.old in
    let x = first_none (system_excess New i.new) (system_excess Old i.old ∷ rows_excess New c ∷ rows_excess Old d ∷ []) e in
    let y = first_none (system_excess Old i.old) (rows_excess New c ∷ rows_excess Old d ∷ []) x.1 in
    let z = first_none (rows_excess New c) (rows_excess Old d ∷ []) y.1 in
    let w = first_none (rows_excess Old d) [] z.1 in
    record { new = system_within New i.new x.0; old = system_within Old i.old y.0; new_rows = rows_within New c z.0; old_rows = rows_within Old d w.0 }

-- ---- the atoms of all cases

-- ---- one side
module _ (i : Input) (p : Proc) (s : System) (program : IsProgram p) (size : size_fault p ≡ None) (folded : IsFolded (system_of p) s) where
  pub side_system : IsWellFormed s
  side_system = folded_shaped (system_of p) s (shape.shaped p program size) folded

  pub side_params : s.params ≡ p.params
  side_params = ap (λ (y : System). y.params) folded.is

  pub side_kind : rows.size_fault (candidates_for i p) ≡ None → AllByRecursion (IsAtom p.params) (flat_map (λ case. case) i.cases) → AreCandidates s.vars (candidates_for i p)
  side_kind e w =
      subst (λ n. AreCandidates n (candidates_for i p)) (sym (ap (λ (y : System). y.vars) folded.is))
      (are_kind (system_of p) (flat_map (λ case. case) i.cases) i.settings.pairs (shape.shaped p program size) w e)

  module _ (side : Side) (live : List Bool) (part : Part) (when : List Liveness) (x : SideCert)
      (kind : AreCandidates s.vars (candidates_for i p))
      (is_part : IsPart side (graph_of s) i.cases live (candidates_for i p) part)
      (greatest : IsGreatest (graph_of s) i.cases (candidates_for i p) part.family)
      (lines : AreCaseLines s.params i.settings.pivots i.cases live when)
      (made : IsSideOf i s live part x) where
    printed_is : part.printed ≡ x.families
    printed_is = sym made.part.families

    inductive : IsInductive (graph_of s) i.cases (family_of part.printed)
    inductive = printed_are_inductive (graph_of s) i.cases (candidates_for i p) part.family part.printed part.questions (systems_are_graphs s side_system) kind greatest is_part.printed

    pub made_side : IsMadeSide i.settings.pivots s i.cases live part.edges_live when x
    made_side = record {
      system = side_system;
      one_each = ap length made.part.families ∙ is_part.printed.one_each;
      full = subst (AllByRecursion (AllByRecursion (IsFullAtom s.vars))) printed_is
          (printed_are_atoms (graph_of s) (candidates_for i p) part.family part.printed part.questions kind is_part.printed);
      inductive = subst (λ fs. IsInductive (graph_of s) i.cases (family_of fs)) printed_is inductive;
      right = subst (λ fs. AreLive (graph_of s) fs part.edges_live) printed_is is_part.edges_live;
      lines = lines;
      part = subst (λ fs. IsSidePart (graph_of s) fs i.settings.pivots i.cases live part.edges_live x) printed_is made.part;
    }

-- ---- the steps of the checker
both_sides : (s t : System) (cases : List (List Atom)) (c : Certificate) → SidePasses s cases c.when c.new_side → SidePasses t cases c.when c.old_side → StepsPass (family_steps s t cases c)
both_sides s t cases c h k =
    let first = counted 1 0 (shape_tests s t cases c) in
    let second = counted 2 0 (case_tests s.params cases c.when) in
    let third = counted 3 0 (entry_tests s cases c.new_side ++ entry_tests t cases c.old_side) in
    let fourth = counted 4 0 (edge_tests s c.new_side ++ edge_tests t c.old_side) in
    let fifth = counted 5 0 (keep_tests s c.new_side ++ keep_tests t c.old_side) in
    let sixth = counted 6 0 (exit_tests s c.new_side t c.old_side) in
    steps_both first (second ++ (third ++ (fourth ++ (fifth ++ sixth)))) (counted_pass 1 0 (shape_tests s t cases c) (h.shape, (k.shape, tt)))
    (steps_both second (third ++ (fourth ++ (fifth ++ sixth))) (counted_pass 2 0 (case_tests s.params cases c.when) h.lines)
    (steps_both third (fourth ++ (fifth ++ sixth)) (counted_pass 3 0 (entry_tests s cases c.new_side ++ entry_tests t cases c.old_side) (pass_both (entry_tests s cases c.new_side) (entry_tests t cases c.old_side) h.entry k.entry))
    (steps_both fourth (fifth ++ sixth) (counted_pass 4 0 (edge_tests s c.new_side ++ edge_tests t c.old_side) (pass_both (edge_tests s c.new_side) (edge_tests t c.old_side) h.edges k.edges))
    (steps_both fifth sixth (counted_pass 5 0 (keep_tests s c.new_side ++ keep_tests t c.old_side) (pass_both (keep_tests s c.new_side) (keep_tests t c.old_side) h.keeps k.keeps))
    (counted_pass 6 0 (exit_tests s c.new_side t c.old_side) (h.exit, (k.exit, tt)))))))

moved_claims : (b : Body) (p q : Pair) (d e k l : ℕ) (f g : Flags) → p ≡ q → d ≡ e → k ≡ l → f ≡ g
    → StepsPass (mainlines.claim_steps (main_problem q e l g) (length (unknowns_of q e)) b)
    → StepsPass (mainlines.claim_steps (main_problem p d k f) (length (unknowns_of p d)) b)
moved_claims b p q d e k l f g u v w x h =
    subst (λ y. StepsPass (mainlines.claim_steps (main_problem y d k f) (length (unknowns_of y d)) b)) (sym u)
    (subst (λ y. StepsPass (mainlines.claim_steps (main_problem q y k f) (length (unknowns_of q y)) b)) (sym v)
    (subst (λ y. StepsPass (mainlines.claim_steps (main_problem q e y f) (length (unknowns_of q e)) b)) (sym w)
    (subst (λ y. StepsPass (mainlines.claim_steps (main_problem q e l y) (length (unknowns_of q e)) b)) (sym x) h)))

system_is : (version : ℕ) (p : Proc) (s t : System) → version ≡ 2 → IsFolded (system_of p) t → IsSystemOf version p s → s ≡ t
system_is version p s t e f (inl h) = absurd (let g = h.0 in omega arith)
system_is version p s t e f (inr h) = one_folded (system_of p) s t h.1 f

module _ (i : Input) (a : Analysis) (t : Table ℚ) (c : Certificate) (h : Makes i a t c) where
  pub limits : IsWithin i
  limits = within i h.through.counts

  old_cases : AllCases (IsFullAtom i.old.params) i.cases
  old_cases = subst (λ n. AllCases (IsFullAtom n) i.cases) h.input.params.0 h.input.condition.atoms

  pub new_kind : AreCandidates a.new.vars (candidates_for i i.new)
  new_kind = side_kind i i.new a.new h.input.new limits.new h.through.analysis.new limits.new_rows (flat_atoms i.new.params i.cases h.input.condition.atoms)

  pub old_kind : AreCandidates a.old.vars (candidates_for i i.old)
  old_kind = side_kind i i.old a.old h.input.old limits.old h.through.analysis.old limits.old_rows (flat_atoms i.old.params i.cases old_cases)

  new_params : a.new.params ≡ i.new.params
  new_params = side_params i i.new a.new h.input.new limits.new h.through.analysis.new

  old_params : a.old.params ≡ i.new.params
  old_params = side_params i i.old a.old h.input.old limits.old h.through.analysis.old ∙ sym h.input.params.0

  pub new_side : IsMadeSide i.settings.pivots a.new i.cases a.live a.new_part.edges_live c.when c.new_side
  new_side =
      made_side i i.new a.new h.input.new limits.new h.through.analysis.new New a.live a.new_part c.when c.new_side new_kind h.through.analysis.new_part
      (are_of_greatest i a h.through.analysis).new
      (subst (λ n. AreCaseLines n i.settings.pivots i.cases a.live c.when) (sym new_params) h.made.when) h.made.new_side

  pub old_side : IsMadeSide i.settings.pivots a.old i.cases a.live a.old_part.edges_live c.when c.old_side
  old_side =
      made_side i i.old a.old h.input.old limits.old h.through.analysis.old Old a.live a.old_part c.when c.old_side old_kind h.through.analysis.old_part
      (are_of_greatest i a h.through.analysis).old
      (subst (λ n. AreCaseLines n i.settings.pivots i.cases a.live c.when) (sym old_params) h.made.when) h.made.old_side

  families_pass : StepsPass (family_steps a.new a.old i.cases c)
  families_pass =
      both_sides a.new a.old i.cases c
      (side_passes i.settings.pivots a.new i.cases a.live a.new_part.edges_live c.when c.new_side new_side)
      (side_passes i.settings.pivots a.old i.cases a.live a.old_part.edges_live c.when c.old_side old_side)

  claims_pass : StepsPass (claim_steps a.new a.old i.cases c)
  claims_pass =
      let r = made_repeats i a t c h.through.analysis h.made in
      let m = main_of i a in
      let u = unknowns_in i a in
      let paired = main_problems_are_paired (pair_of i a) i.settings.degree i.settings.products (flags_of i a) in
      let shown = shown_at_end _ i.settings.pivots h.made.main.ending t h.made.main.comes in
      moved_claims c.body (pair a.new a.old i.cases c) (pair_of i a) c.degree i.settings.degree c.products i.settings.products (flags c) (flags_of i a)
      r.pair_is h.made.degree h.made.products r.flags_are
      (body_passes m u paired t h.made.main.ending c.body shown h.made.body)

  first_passes : (x : Step) → IsFirst a.new a.old i.cases c x → Passes x.test
  first_passes x (inl e) = failure_passes (family_steps a.new a.old i.cases c) x families_pass e
  first_passes x (inr (r, e)) = failure_passes (claim_steps a.new a.old i.cases c) x claims_pass e

  new_is : (s : System) → IsSystemOf c.version i.new s → s ≡ a.new
  new_is s e = system_is c.version i.new s a.new h.made.version h.through.analysis.new e

  old_is : (s : System) → IsSystemOf c.version i.old s → s ≡ a.old
  old_is s e = system_is c.version i.old s a.old h.made.version h.through.analysis.old e

  pub failing_passes : (x : Step) → FailsAt i.new i.old i.cases c x → Passes x.test
  failing_passes x f =
      first_passes x
      (subst (λ s. IsFirst s a.old i.cases c x) (new_is f.new_system f.systems.new_system)
      (subst (λ s. IsFirst f.new_system s i.cases c x) (old_is f.old_system f.systems.old_system) f.first))

-- ---- the laws
pub made_have_systems : MadeHaveSystems
made_have_systems i a t c h = record {
  new_size = (limits i a t c h).new;
  old_size = (limits i a t c h).old;
  new_system = inr (h.made.version, h.through.analysis.new);
  old_system = inr (h.made.version, h.through.analysis.old);
}

pub made_are_true : MadeAreTrue
made_are_true i a t c clause index h f = not_true (failing_passes i a t c h (step clause index (Some false)) f)

-- ---- no count passes its limit
not_wide : (what : Count) (n : ℕ) (o : Option MatchFault) → o ≡ Some (match.TooLarge what n) → option_and_then of_main o ≡ None → ⊥
not_wide what n o e g = some_none (excess None what n) (option_and_then of_main o) (ap (option_and_then of_main) e) g

same_size : (p q : Pair) (d e k l : ℕ) (f g : Flags) → p ≡ q → d ≡ e → k ≡ l → f ≡ g → mains.size_fault q e l g ≡ mains.size_fault p d k f
same_size p q d e k l f g u v w x =
    sym (ap (λ y. mains.size_fault y d k f) u ∙ ap (λ y. mains.size_fault q y k f) v ∙ ap (λ y. mains.size_fault q e y f) w ∙ ap (λ y. mains.size_fault q e l y) x)

pub made_are_narrow : MadeAreNarrow
made_are_narrow i a t c (Some New) what n h e = some_none _ (size_fault i.new) e (limits i a t c h).new
made_are_narrow i a t c (Some Old) what n h e = some_none _ (size_fault i.old) e.1 (limits i a t c h).old
made_are_narrow i a t c None what n h e =
    let r = made_repeats i a t c h.through.analysis h.made in
    let moved = subst (λ s. main_fault s a.old i.cases c ≡ Some (match.TooLarge what n)) (new_is i a t c h e.new_system e.systems.new_system)
    (subst (λ s. main_fault e.new_system s i.cases c ≡ Some (match.TooLarge what n)) (old_is i a t c h e.old_system e.systems.old_system) e.size) in
    not_wide what n (mains.size_fault (pair_of i a) i.settings.degree i.settings.products (flags_of i a))
    (same_size (pair a.new a.old i.cases c) (pair_of i a) c.degree i.settings.degree c.products i.settings.products (flags c) (flags_of i a)
    r.pair_is h.made.degree h.made.products r.flags_are ∙ moved)
    h.through.main_counts

-- ---- what the checker answers
pub accepted_are_told : AcceptedAreTold
accepted_are_told i a t c k h x = record {
  analysis = a;
  through = h.through;
  table = t;
  made = h.made;
  accepted = subst (Accepts i.new i.old i.cases c) x.claim x;
  rest = refl;
}

pub faults_are_folds : FaultsAreFolds
faults_are_folds i a t c (check.Rejected clause index) h f = made_are_true i a t c clause index h f
faults_are_folds i a t c (check.Past128 clause index) h f = record { analysis = a; through = h.through; table = t; certificate = c; made = h.made; fails = f }
faults_are_folds i a t c (check.TooLarge side what n) h f = made_are_narrow i a t c side what n h f
faults_are_folds i a t c check.NoMemory h f = tt
