-- The part of a version: the rounds, pruning, and what shows the printed atoms.
use Rattle.std.specs.Prelude.{◌≡◌, ℕ, zero, suc, ◌-◌, Bool, List, [], ◌∷◌, ◌++◌, map, slice_index_or}
use Rattle.std.specs.List.{AllByRecursion}
use Rattle.std.proofs.Common.{refl, sym, ◌∙◌, ap, subst, append_assoc, append-nil}
use Rattle.dc_syntax.specs.declared.tree.Side.{Side}
use Rattle.dc_affine.specs.declared.atom.Atom.{Atom}
use Rattle.dc_affine.specs.Atoms.{IsAtom, IsFullAtom}
use Rattle.dc_affine.proofs.Within.{full_within}
use Rattle.dc_system.specs.declared.edges.System.{System}
use Rattle.dc_system.specs.Shapes.{IsWellFormed}
use Rattle.dc_cert.specs.declared.certificate.Liveness.{Liveness}
use Rattle.dc_cert.specs.declared.certificate.Liveness.TheVariants.{Dead, Live}
use Rattle.dc_cert.specs.declared.certificate.SideCert.{SideCert}
use Rattle.dc_cert.specs.Vectors.{entry_of}
use Rattle.dc_cert.specs.Ranges.{is_live}
use Rattle.dc_points.specs.Points.{AreOver}
use Rattle.dc_points.specs.Flags.{IsFlag}
use Rattle.dc_points.proofs.Combinations.{shows_dead-solution, shows_live-refutation}
use Rattle.dc_points.proofs.Farkas.{solved-dead, refuted-met}
use Rattle.dc_points.proofs.Flags.{dead_flag, live_flag}
use Rattle.dc_points.proofs.Whole.{over_atoms}
use Rattle.dc_entail.specs.Asked.{Asked, AllDone}
use Rattle.dc_rows.specs.declared.kinds.Candidates.{Candidates}
use Rattle.dc_rows.specs.Candidate.{AreCandidates}
use Rattle.dc_families.specs.Graphs.{Graph, graph_of}
use Rattle.dc_families.specs.Families.{Family, everything, family_of}
use Rattle.dc_families.specs.Rounds.{IsGreatest, IsHonest, IsInductive}
use Rattle.dc_families.specs.Printed.{Question, ArePrinted}
use Rattle.dc_families.proofs.Decisions.{has_flag}
use Rattle.dc_families.proofs.False.{greatest_is_honest}
use Rattle.dc_families.proofs.Folds.{systems_are_graphs}
use Rattle.dc_families.proofs.Greatest.{one_greatest}
use Rattle.dc_families.proofs.Prunes.{has_printed, printed_are_inductive}
use Rattle.dc_greatest.specs.declared.family.InvFault.{InvFault}
use Rattle.dc_greatest.specs.declared.family.LocFamily.{LocFamily}
use Rattle.dc_greatest.specs.Kept.{stands_for}
use Rattle.dc_greatest.specs.Parts.{Rounds, RoundsAsk}
use Rattle.dc_greatest.specs.Answers.{IsFault, TellsGreatest}
use Rattle.dc_greatest.proofs.Ends.{has_flags, rounds_reach_greatest}
use Rattle.dc_greatest.proofs.Unchanged.{both_done}
use Rattle.dc_invariant.specs.Answers.{TellsPrinted, TellsKeeps}
use Rattle.dc_invariant.specs.Prunes.{questions_asked, PrunesAsk}
use Rattle.dc_invariant.specs.Keeps.{kept_atoms, exit_atoms, AreLive, keeps_asked, KeepsAsk}
use Rattle.dc_invariant.specs.Shown.{IsLine}
use Rattle.dc_invariant.proofs.Faults.{fault_before}
use Rattle.dc_invariant.proofs.Whole.{printed_are_atoms}
use Rattle.dc_session.specs.Session.{Part, IsPart, part_asked}
use Rattle.dc_engine.specs.Parts.{TellsPart, PartAsks}

-- ---- flags

line_flag : (hyps : List Atom) (n budget : ℕ) (l : Liveness) → AreOver n hyps → IsLine hyps n budget l → IsFlag (is_live l) hyps
line_flag hyps n budget (Dead k) o h = dead_flag hyps (solved-dead n hyps o (entry_of k.items) (shows_dead-solution n hyps (entry_of k.items) h.shows))
line_flag hyps n budget (Live k) o h =
    let m = refuted-met n hyps o (entry_of k.items) (shows_live-refutation hyps n (entry_of k.items) h.shows) in
    live_flag hyps (λ d. d m.point m.meets)

atoms_in : (n : ℕ) (lists : List (List Atom)) (l : ℕ) → AllByRecursion (AllByRecursion (IsFullAtom n)) lists → AllByRecursion (IsAtom n) (slice_index_or lists l [])
atoms_in n [] l h = tt
atoms_in n (x ∷ lists) zero h = full_within n x h.0
atoms_in n (x ∷ lists) (suc l) h = atoms_in n lists l h.1

module _ (side : Side) (s : System) (cases : List (List Atom)) (live : List Bool) (c : Candidates) (budget : ℕ) where
  abbrev g : Graph
  g = graph_of s

  abbrev Asks : List Asked → Type 0
  Asks = PartAsks side g cases live c

  -- ---- after the rounds
  -- the family is that which the rounds leave
  pub record IsBegun (J : Family) : Type 0 where
    pub asked : List Asked
    pub rounds : Rounds side g cases live c (everything g c) asked J
    pub greatest : IsGreatest g cases c J
    pub done : AllDone budget asked

  pub begun : (fs : List LocFamily) → TellsGreatest side s cases live c budget fs → IsBegun (stands_for s.vars c fs)
  begun fs h =
      let asks = h.through.1 in
      let reached = rounds_reach_greatest side g cases live c h.through.0 asks.0 asks.1 in
      record {
        asked = h.through.0;
        rounds = subst (Rounds side g cases live c (everything g c) h.through.0) (one_greatest g cases c asks.0 (stands_for s.vars c fs) reached h.greatest) asks.1;
        greatest = h.greatest;
        done = h.through.2;
      }

  part_of : List Asked → Family → List (List Question) → List (List Atom) → List Bool → Bool → Part
  part_of rounds family questions printed edges_live exit_live =
      record { rounds = rounds; family = family; questions = questions; printed = printed; edges_live = edges_live; exit_live = exit_live }

  -- a part, from what it begins with
  module _ (asked : List Asked) (J : Family) (rounds : Rounds side g cases live c (everything g c) asked J) where
    module _ (printed : List (List Atom)) (questions : List (List Question)) (are : ArePrinted g c J printed questions) where
      keeps_part : (flags : List Bool) → AreLive g printed flags → (p : Part) × IsPart side g cases live c p × (part_asked side g cases live c p ≡ asked ++ (questions_asked side c J 0 questions ++ keeps_asked side g printed cases live flags))
      unfolding part_of
      keeps_part flags f =
          let x = has_flag (exit_atoms g printed) in
          (part_of asked J questions printed flags x.0, record { rounds = rounds; printed = are; edges_live = f; exit_live = x.1 }, refl)

      prune_part : (p : Part) × (flags : List Bool) × IsPart side g cases live c p × (part_asked side g cases live c p ≡ asked ++ (questions_asked side c J 0 questions ++ keeps_asked side g printed cases live flags))
      prune_part =
          let f = has_flags (map (kept_atoms g printed) g.edges) in
          let p = keeps_part f.0 f.1 in
          (p.0, f.0, p.1, p.2)

  -- ---- refusals
  pub rounds_fault : (f : InvFault) → IsFault budget (RoundsAsk side g cases live c) f → IsFault budget Asks f
  rounds_fault f h = fault_before budget [] (RoundsAsk side g cases live c) Asks tt to f h
    where
      to : (asked : List Asked) → RoundsAsk side g cases live c asked → (after : List Asked) × Asks ([] ++ (asked ++ after))
      to asked (J, r) =
          let q = has_printed g c J in
          let p = prune_part asked J r q.0 q.1 q.2 in
          (questions_asked side c J 0 q.1 ++ keeps_asked side g q.0 cases live p.1, (p.0, p.2, sym p.3))

  module _ (fs : List LocFamily) (h : TellsGreatest side s cases live c budget fs) where
    abbrev J : Family
    J = stands_for s.vars c fs

    abbrev b : IsBegun J
    b = begun fs h

    pub prune_fault : (f : InvFault) → IsFault budget (PrunesAsk side c J g) f → IsFault budget Asks f
    prune_fault f k = fault_before budget b.asked (PrunesAsk side c J g) Asks b.done to f k
      where
        to : (asked : List Asked) → PrunesAsk side c J g asked → (after : List Asked) × Asks (b.asked ++ (asked ++ after))
        to asked (printed, questions, are, e) =
            let p = prune_part b.asked J b.rounds printed questions are in
            let after = keeps_asked side g printed cases live p.1 in
            (after, (p.0, p.2, ap (λ zs. b.asked ++ (zs ++ after)) e ∙ sym p.3))

  module _ (fs : List LocFamily) (h : TellsGreatest side s cases live c budget fs) (printed : List (List Atom)) (q : TellsPrinted side g c (stands_for s.vars c fs) budget printed) where
    abbrev F : Family
    F = stands_for s.vars c fs

    abbrev before : List Asked
    before = (begun fs h).asked ++ questions_asked side c F 0 q.questions

    before_done : AllDone budget before
    before_done = both_done budget (begun fs h).asked (questions_asked side c F 0 q.questions) (begun fs h).done q.through

    pub keeps_fault : (f : InvFault) → IsFault budget (KeepsAsk side g printed cases live) f → IsFault budget Asks f
    keeps_fault f k = fault_before budget before (KeepsAsk side g printed cases live) Asks before_done to f k
      where
        to : (asked : List Asked) → KeepsAsk side g printed cases live asked → (after : List Asked) × Asks (before ++ (asked ++ after))
        to asked (flags, right, e) =
            let p = keeps_part (begun fs h).asked F (begun fs h).rounds printed q.questions q.printed_is flags right in (
              [],
              (
                p.0,
                p.1,
                ap (λ zs. before ++ zs) (append-nil asked ∙ e)
                    ∙ append_assoc (begun fs h).asked (questions_asked side c F 0 q.questions) (keeps_asked side g printed cases live flags)
                    ∙ sym p.2,
              ),
            )

    -- ---- the answer
    pub part_told : AreCandidates s.vars c → (x : SideCert) → TellsKeeps side g cases live printed budget x → TellsPart side g cases live c budget x
    unfolding part_of
    part_told kind x k = record {
      part = part_of (begun fs h).asked F q.questions printed k.flags (is_live x.exit_line);
      right = record {
        rounds = (begun fs h).rounds;
        printed = q.printed_is;
        edges_live = k.right;
        exit_live = line_flag (exit_atoms g printed) s.vars budget x.exit_line
            (over_atoms s.vars (exit_atoms g printed) (atoms_in s.vars printed (s.locs - 1) (printed_are_atoms g c F printed q.questions kind q.printed_is))) k.part.exit_line;
      };
      keeps = k.part;
      exit = refl;
      through = both_done budget (begun fs h).asked (questions_asked side c F 0 q.questions ++ keeps_asked side g printed cases live k.flags) (begun fs h).done
          (both_done budget (questions_asked side c F 0 q.questions) (keeps_asked side g printed cases live k.flags) q.through k.through);
    }

  -- ---- what the calls require
  pub honest : AreCandidates s.vars c → (fs : List LocFamily) → TellsGreatest side s cases live c budget fs → IsHonest g c (stands_for s.vars c fs)
  honest kind fs h = greatest_is_honest g cases c (stands_for s.vars c fs) kind h.greatest

  module _ (w : IsWellFormed s) (kind : AreCandidates s.vars c) (fs : List LocFamily) (h : TellsGreatest side s cases live c budget fs) (printed : List (List Atom))
      (q : TellsPrinted side g c (stands_for s.vars c fs) budget printed) where
    pub atoms : AllByRecursion (AllByRecursion (IsFullAtom s.vars)) printed
    atoms = printed_are_atoms g c (stands_for s.vars c fs) printed q.questions kind q.printed_is

    pub inductive : IsInductive g cases (family_of printed)
    inductive = printed_are_inductive g cases c (stands_for s.vars c fs) printed q.questions (systems_are_graphs s w) kind h.greatest q.printed_is
