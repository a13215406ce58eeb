-- All problems before the main one.
use Rattle.std.specs.Prelude.{◌≡◌, ℕ, Bool, List, [], ◌++◌, map, None}
use Rattle.std.proofs.Common.{refl, ◌∙◌, ap, subst, append_assoc, append-nil}
use Rattle.dc_syntax.specs.declared.tree.Side.{Side}
use Rattle.dc_syntax.specs.declared.tree.Side.TheVariants.{New, Old}
use Rattle.dc_affine.specs.declared.atom.Atom.{Atom}
use Rattle.dc_system.specs.declared.edges.System.{System}
use Rattle.dc_cert.specs.declared.certificate.Liveness.{Liveness}
use Rattle.dc_cert.specs.declared.certificate.SideCert.{SideCert}
use Rattle.dc_cert.specs.Ranges.{is_live}
use Rattle.dc_entail.specs.Asked.{Asked}
use Rattle.dc_rows.specs.declared.kinds.Candidates.{Candidates}
use Rattle.dc_families.specs.Graphs.{Graph, graph_of}
use Rattle.dc_greatest.specs.declared.family.InvFault.{InvFault}
use Rattle.dc_greatest.specs.Answers.{IsFault}
use Rattle.dc_greatest.proofs.Ends.{flags_same}
use Rattle.dc_greatest.proofs.Unchanged.{both_done}
use Rattle.dc_invariant.proofs.Faults.{fault_before}
use Rattle.dc_session.specs.Session.{Input, Part, Analysis, candidates_for, part_asked, cases_asked, new_asked, old_asked}
use Rattle.dc_session.specs.Refusals.{early_excess}
use Rattle.dc_session.specs.Answers.{IsInput}
use Rattle.dc_session.proofs.Analyses.{has_analysis}
use Rattle.dc_engine.specs.declared.lent.Versions.{Versions}
use Rattle.dc_engine.specs.Parts.{Only, AreVersions, TellsCases, TellsPart, PartAsks, TellsEarly, EarlyAsks}

-- ---- parts over equal flags and candidates
asks_moved : (side : Side) (s : Graph) (cases : List (List Atom)) (l m : List Bool) (c d : Candidates) → l ≡ m → c ≡ d
    → (asked : List Asked) → PartAsks side s cases l c asked → PartAsks side s cases m d asked
asks_moved side s cases l m c d e f asked h = subst (λ x. PartAsks side s cases m x asked) f (subst (λ x. PartAsks side s cases x c asked) e h)

part_moved : (side : Side) (s : Graph) (cases : List (List Atom)) (l m : List Bool) (c d : Candidates) (budget : ℕ) (x : SideCert) → l ≡ m → c ≡ d
    → TellsPart side s cases l c budget x → TellsPart side s cases m d budget x
part_moved side s cases l m c d budget x e f h = subst (λ y. TellsPart side s cases m y budget x) f (subst (λ y. TellsPart side s cases y c budget x) e h)

analysis_of : System → System → List Bool → Part → Part → Analysis
analysis_of new old live new_part old_part = record { new = new; old = old; live = live; new_part = new_part; old_part = old_part }

module _ (i : Input) (input : IsInput i) (v : Versions) (vs : AreVersions i v) where
  abbrev budget : ℕ
  budget = i.settings.pivots

  -- ---- the cases refuse
  pub cases_fault : early_excess i ≡ None → (f : InvFault) → IsFault budget (Only (cases_asked i.new.params i.cases)) f → IsFault budget (EarlyAsks i) f
  cases_fault counts f h = fault_before budget [] (Only (cases_asked i.new.params i.cases)) (EarlyAsks i) tt to f h
    where
      to : (asked : List Asked) → Only (cases_asked i.new.params i.cases) asked → (after : List Asked) × EarlyAsks i ([] ++ (asked ++ after))
      to asked e =
          let a = has_analysis i input.new input.old counts in
          let after = new_asked i a.0 ++ old_asked i a.0 in
          (after, (a.0, a.1, ap (λ zs. zs ++ after) e))

  module _ (when : List Liveness) (h : TellsCases i when) where
    abbrev live : List Bool
    live = map is_live when

    abbrev first : List Asked
    first = cases_asked i.new.params i.cases

    -- ---- the new version refuses
    pub new_fault : early_excess i ≡ None → (flags : List Bool) → flags ≡ live → (f : InvFault)
        → IsFault budget (PartAsks New (graph_of v.new.system) i.cases flags v.new.candidates) f → IsFault budget (EarlyAsks i) f
    unfolding analysis_of
    new_fault counts flags e f k = fault_before budget first (PartAsks New (graph_of v.new.system) i.cases flags v.new.candidates) (EarlyAsks i) h.through to f k
      where
        to : (asked : List Asked) → PartAsks New (graph_of v.new.system) i.cases flags v.new.candidates asked → (after : List Asked) × EarlyAsks i (first ++ (asked ++ after))
        to asked p =
            let a = has_analysis i input.new input.old counts in
            let same : flags ≡ a.0.live = e ∙ flags_same live a.0.live i.cases h.right a.1.live in
            let q = asks_moved New (graph_of v.new.system) i.cases flags a.0.live v.new.candidates (candidates_for i i.new) same vs.new.candidates asked p in
            let after = old_asked i a.0 in (
              after,
              (
                analysis_of v.new.system a.0.old a.0.live q.0 a.0.old_part,
                record { new = vs.new.folded; old = a.1.old; live = a.1.live; new_part = q.1; old_part = a.1.old_part },
                ap (λ zs. first ++ (zs ++ after)) q.2,
              ),
            )

    -- ---- the old version refuses
    module _ (flags : List Bool) (e : flags ≡ live) (x : SideCert) (n : TellsPart New (graph_of v.new.system) i.cases flags v.new.candidates budget x) where
      new_told : TellsPart New (graph_of v.new.system) i.cases live (candidates_for i i.new) budget x
      new_told = part_moved New (graph_of v.new.system) i.cases flags live v.new.candidates (candidates_for i i.new) budget x e vs.new.candidates n

      abbrev second : List Asked
      second = part_asked New (graph_of v.new.system) i.cases live (candidates_for i i.new) new_told.part

      pub old_fault : (bs : List Bool) → bs ≡ live → (f : InvFault)
          → IsFault budget (PartAsks Old (graph_of v.old.system) i.cases bs v.old.candidates) f → IsFault budget (EarlyAsks i) f
      unfolding analysis_of
      old_fault bs d f k =
          fault_before budget (first ++ second) (PartAsks Old (graph_of v.old.system) i.cases bs v.old.candidates) (EarlyAsks i)
          (both_done budget first second h.through new_told.through) to f k
        where
          to : (asked : List Asked) → PartAsks Old (graph_of v.old.system) i.cases bs v.old.candidates asked
              → (after : List Asked) × EarlyAsks i ((first ++ second) ++ (asked ++ after))
          to asked p =
              let q = asks_moved Old (graph_of v.old.system) i.cases bs live v.old.candidates (candidates_for i i.old) d vs.old.candidates asked p in (
                [],
                (
                  analysis_of v.new.system v.old.system live new_told.part q.0,
                  record { new = vs.new.folded; old = vs.old.folded; live = h.right; new_part = new_told.right; old_part = q.1 },
                  ap (λ zs. (first ++ second) ++ zs) (append-nil asked ∙ q.2)
                      ∙ append_assoc first second (part_asked Old (graph_of v.old.system) i.cases live (candidates_for i i.old) q.0),
                ),
              )

      -- ---- the answer
      pub early_told : (bs : List Bool) → bs ≡ live → (y : SideCert) → TellsPart Old (graph_of v.old.system) i.cases bs v.old.candidates budget y
          → TellsEarly i v (record { when = when; new_side = x; old_side = y })
      unfolding analysis_of
      early_told bs d y o =
          let old_told = part_moved Old (graph_of v.old.system) i.cases bs live v.old.candidates (candidates_for i i.old) budget y d vs.old.candidates o in
          let third = part_asked Old (graph_of v.old.system) i.cases live (candidates_for i i.old) old_told.part in
          record {
            analysis = analysis_of v.new.system v.old.system live new_told.part old_told.part;
            right = record { new = vs.new.folded; old = vs.old.folded; live = h.right; new_part = new_told.right; old_part = old_told.right };
            new = refl;
            old = refl;
            when = h.lines_are;
            new_side = record { part = new_told.keeps; exit = new_told.exit };
            old_side = record { part = old_told.keeps; exit = old_told.exit };
            through = both_done budget first (second ++ third) h.through (both_done budget second third new_told.through old_told.through);
          }
