-- Two programs whose counts are within their limits have one analysis.
use Rattle.std.specs.Prelude.{◌≡◌, ℕ, Bool, true, false, ltb, if◌then◌else◌, List, ◌∷◌, map, Option, Some, None}
use Rattle.std.specs.Option.{option_and_then}
use Rattle.std.proofs.Common.{refl, sym, ◌∙◌, ap, ap₂, subst}
use Rattle.dc_syntax.specs.declared.tree.Proc.{Proc}
use Rattle.dc_syntax.specs.declared.tree.Side.{Side}
use Rattle.dc_syntax.specs.declared.tree.Count.TheVariants.{Locations, Edges}
use Rattle.dc_affine.specs.declared.atom.Atom.{Atom}
use Rattle.dc_system.specs.declared.edges.System.{System}
use Rattle.dc_system.specs.declared.edges.SystemFault.TheVariants as system
use Rattle.dc_system.specs.Systems.{system_of, size_fault, locations_of}
use Rattle.dc_system.proofs.Shape.{shaped}
use Rattle.dc_system.proofs.OneFold.{one_folded}
use Rattle.dc_system.proofs.EveryFold.{every_folded}
use Rattle.dc_points.specs.Flags.{IsFlag}
use Rattle.dc_entail.specs.Asked.{Asked}
use Rattle.dc_rows.specs.declared.kinds.Candidates.{Candidates}
use Rattle.dc_families.specs.Graphs.{Graph, graph_of}
use Rattle.dc_families.specs.Families.{Family, everything}
use Rattle.dc_families.specs.Printed.{Question, ArePrinted}
use Rattle.dc_families.proofs.Decisions.{has_flag}
use Rattle.dc_families.proofs.Prunes.{has_printed, one_printed_each}
use Rattle.dc_greatest.proofs.Ends.{flag_same, flags_same, has_flags, rounds_end, one_session, rounds_reach_greatest}
use Rattle.dc_invariant.specs.Keeps.{kept_atoms, exit_atoms, AreLive}
use Rattle.dc_session.specs.Session.{candidates_for, Part, IsPart, Analysis, session_of}
use Rattle.dc_session.specs.Refusals.{first_of, of_system, system_excess}
use Rattle.dc_session.specs.Laws.{HasAnalysis, OneAnalysis, AsksOne, AreOfGreatest}

-- ---- parts
part_of : List Asked → Family → List (List Question) → List (List Atom) → List Bool → Bool → Part
part_of rounds family questions printed edges_live exit_live =
    record { rounds = rounds; family = family; questions = questions; printed = printed; edges_live = edges_live; exit_live = exit_live }

module _ (side : Side) (s : Graph) (cases : List (List Atom)) (live : List Bool) (c : Candidates) where
  has_part : (p : Part) × IsPart side s cases live c p
  unfolding part_of
  has_part =
      let r = rounds_end side s cases live c in
      let p = has_printed s c r.1 in
      let f = has_flags (map (kept_atoms s p.0) s.edges) in
      let x = has_flag (exit_atoms s p.0) in
      (part_of r.0 r.1 p.1 p.0 f.0 x.0, record { rounds = r.2; printed = p.2; edges_live = f.1; exit_live = x.1 })

  one_part : (p q : Part) → IsPart side s cases live c p → IsPart side s cases live c q → p ≡ q
  unfolding part_of
  one_part p q h k =
      let r = one_session side s cases live c (everything s c) p.family q.family p.rounds q.rounds h.rounds k.rounds in
      let kept : ArePrinted s c p.family q.printed q.questions = subst (λ J. ArePrinted s c J q.printed q.questions) (sym r.1) k.printed in
      let e = one_printed_each s c p.family p.printed q.printed p.questions q.questions h.printed kept in
      let fs = flags_same p.edges_live q.edges_live (map (kept_atoms s p.printed) s.edges) h.edges_live
      (subst (λ ps. AreLive s ps q.edges_live) (sym e.0) k.edges_live) in
      let x = flag_same p.exit_live q.exit_live (exit_atoms s p.printed) h.exit_live
      (subst (λ ps. IsFlag q.exit_live (exit_atoms s ps)) (sym e.0) k.exit_live) in
      ap₂ (λ a J. part_of a J p.questions p.printed p.edges_live p.exit_live) r.0 r.1
      ∙ ap₂ (λ qs ps. part_of q.rounds q.family qs ps p.edges_live p.exit_live) e.1 e.0
      ∙ ap₂ (λ es b. part_of q.rounds q.family q.questions q.printed es b) fs x

-- ---- analyses
analysis_of : System → System → List Bool → Part → Part → Analysis
analysis_of new old live new_part old_part = record { new = new; old = old; live = live; new_part = new_part; old_part = old_part }

-- a part over equal systems and flags
moved : (side : Side) (s t : System) (cases : List (List Atom)) (live flags : List Bool) (c : Candidates) (p : Part)
    → s ≡ t → live ≡ flags → IsPart side (graph_of t) cases flags c p → IsPart side (graph_of s) cases live c p
moved side s t cases live flags c p e f h =
    subst (λ y. IsPart side (graph_of y) cases live c p) (sym e) (subst (λ fs. IsPart side (graph_of t) cases fs c p) (sym f) h)

pub one_analysis : OneAnalysis
unfolding analysis_of
one_analysis i a b h k =
    let n = one_folded (system_of i.new) a.new b.new h.new k.new in
    let o = one_folded (system_of i.old) a.old b.old h.old k.old in
    let f = flags_same a.live b.live i.cases h.live k.live in
    let p = one_part _ (graph_of a.new) i.cases a.live (candidates_for i i.new) a.new_part b.new_part h.new_part
    (moved _ a.new b.new i.cases a.live b.live _ b.new_part n f k.new_part) in
    let q = one_part _ (graph_of a.old) i.cases a.live (candidates_for i i.old) a.old_part b.old_part h.old_part
    (moved _ a.old b.old i.cases a.live b.live _ b.old_part o f k.old_part) in
    ap₂ (λ s t. analysis_of s t a.live a.new_part a.old_part) n o
    ∙ ap₂ (λ fs x. analysis_of b.new b.old fs x a.old_part) f p
    ∙ ap (λ x. analysis_of b.new b.old b.live b.new_part x) q

pub asks_one : AsksOne
asks_one i a b h k = ap (session_of i) (one_analysis i a b h k)

-- ---- the limits of the systems
pub first_none : {A : Type 0} (x : Option A) (xs : List (Option A)) → first_of (x ∷ xs) ≡ None → (x ≡ None) × (first_of xs ≡ None)
first_none None xs e = (refl, e)
first_none (Some y) xs e = absurd (none e)
  where
    none : Some y ≡ None → ⊥
    none e = cc

within : (side : Side) (b d : Bool) (m n : ℕ)
    → option_and_then (of_system side) (if b then Some (system.TooLarge Locations m) else (if d then Some (system.TooLarge Edges n) else None)) ≡ None
    → (if b then Some (system.TooLarge Locations m) else (if d then Some (system.TooLarge Edges n) else None)) ≡ None
within side true d m n e = absurd (cc)
within side false true m n e = absurd (cc)
within side false false m n e = refl

pub system_within : (side : Side) (p : Proc) → system_excess side p ≡ None → size_fault p ≡ None
system_within side p e = within side (ltb 128 (locations_of p)) _ _ _ e

pub has_analysis : HasAnalysis
unfolding analysis_of
has_analysis i p q e =
    let x = first_none _ _ e in
    let y = first_none _ _ x.1 in
    let n = every_folded (system_of i.new) (shaped i.new p (system_within _ i.new x.0)) in
    let o = every_folded (system_of i.old) (shaped i.old q (system_within _ i.old y.0)) in
    let f = has_flags i.cases in
    let a = has_part _ (graph_of n.0) i.cases f.0 (candidates_for i i.new) in
    let b = has_part _ (graph_of o.0) i.cases f.0 (candidates_for i i.old) in
    (analysis_of n.0 o.0 f.0 a.0 b.0, record { new = n.1; old = o.1; live = f.1; new_part = a.1; old_part = b.1 })

-- ---- of the greatest families
pub are_of_greatest : AreOfGreatest
are_of_greatest i a h = record {
  new = rounds_reach_greatest _ (graph_of a.new) i.cases a.live (candidates_for i i.new) a.new_part.rounds a.new_part.family h.new_part.rounds;
  old = rounds_reach_greatest _ (graph_of a.old) i.cases a.live (candidates_for i i.old) a.old_part.rounds a.old_part.family h.old_part.rounds;
  flags = record {
    new_edges = h.new_part.edges_live;
    new_exit = h.new_part.exit_live;
    old_edges = h.old_part.edges_live;
    old_exit = h.old_part.exit_live;
    cases = h.live;
  };
}
