-- The two parts of a round as one.
use Rattle.std.specs.Prelude.{◌≡◌, ℕ, Bool, true, List, ◌++◌, map}
use Rattle.std.proofs.Common.{ap, subst, inl, inr}
use Rattle.dc_math.specs.Members.{none_among}
use Rattle.dc_syntax.specs.declared.tree.Side.{Side}
use Rattle.dc_affine.specs.declared.atom.Atom.{Atom}
use Rattle.dc_simplex.specs.Limits.{Answer, Past, Out}
use Rattle.dc_entail.specs.Asked.{Asked, AllDone, Refuses}
use Rattle.dc_entail.specs.declared.answer.Site.{Site}
use Rattle.dc_entail.proofs.Refusals.{refusals_join}
use Rattle.dc_rows.specs.declared.kinds.Candidates.{Candidates}
use Rattle.dc_families.specs.Graphs.{Graph}
use Rattle.dc_families.specs.Families.{Family}
use Rattle.dc_greatest.specs.declared.family.LocFamily.{LocFamily}
use Rattle.dc_greatest.specs.declared.family.InvFault.{InvFault}
use Rattle.dc_greatest.specs.declared.family.InvFault.TheVariants.{Past128, Budget, NoMemory}
use Rattle.dc_greatest.specs.Kept.{stands_for, IsShaped}
use Rattle.dc_greatest.specs.Parts.{for_live, for_edges, edge_atoms, entry_rows, edge_asked}
use Rattle.dc_greatest.specs.Answers.{IsFault}
use Rattle.dc_greatest.specs.Searches.{EntryAsks, EdgesAsk, RoundAsks, IsSettledEntry, AreEntriesTaken, AreEdgesTaken, IsRoundTo}
use Rattle.dc_greatest.proofs.Ends.{has_flags}
use Rattle.dc_greatest.proofs.Unchanged.{both_done}

module _ (side : Side) (s : Graph) (cases : List (List Atom)) (live : List Bool) (c : Candidates) (budget : ℕ) where
  -- an entry that has been looked at takes nothing
  pub entries_skipped : (fs : List LocFamily) → IsShaped s.locs c fs → IsSettledEntry side s cases live c (stands_for s.vars c fs) budget → AreEntriesTaken side s cases live c (stands_for s.vars c fs) budget fs
  entries_skipped fs shape h = record {
    shape = shape;
    round = λ l a. (
      (λ t. (
        t,
        record {
          entry = λ e case m. h.gives case a m (subst (λ i. stands_for s.vars c fs i a ≡ true) e t);
          edges = λ e m. none_among m;
        },
      )),
      (λ t. t.0),
    );
    done = h.done;
  }

  module _ (J : Family) where
    pub parts_are_round : (fs gs : List LocFamily) → AreEntriesTaken side s cases live c J budget fs → AreEdgesTaken side s cases live c J budget gs → IsRoundTo side s cases live c J budget gs
    parts_are_round fs gs h k = record {
      shape = k.shape;
      round = k.round;
      through =
          let f = k.through.1 in
          (for_live (entry_rows side s c J) 0 cases live ++ k.through.0, (f.0, f.1, ap (λ xs. for_live (entry_rows side s c J) 0 cases live ++ xs) f.2), both_done budget _ k.through.0 h.done k.through.2);
    }

    first_refused : (asked : List Asked) → EntryAsks side s cases live c J asked → (site : Site) (a : Answer) → Refuses budget asked site a
        → (whole : List Asked) × RoundAsks side s cases live c J whole × Refuses budget whole site a
    first_refused asked e site a r =
        let f = has_flags (map (edge_atoms s c J) s.edges) in
        let rest = for_edges (edge_asked side s c J) 0 s.edges f.0 in
        (asked ++ rest, (f.0, f.1, ap (λ xs. xs ++ rest) e), (refusals_join budget asked rest site a).1 (inl r))

    pub entries_fault : (f : InvFault) → IsFault budget (EntryAsks side s cases live c J) f → IsFault budget (RoundAsks side s cases live c J) f
    entries_fault (Past128 site k) (asked, e, r) = first_refused asked e site (Past k) r
    entries_fault (Budget site) (asked, e, r) = first_refused asked e site (Out budget) r
    entries_fault NoMemory h = tt

    second_refused : AllDone budget (for_live (entry_rows side s c J) 0 cases live) → (asked : List Asked) → EdgesAsk side s cases live c J asked → (site : Site) (a : Answer) → Refuses budget asked site a
        → (whole : List Asked) × RoundAsks side s cases live c J whole × Refuses budget whole site a
    second_refused d asked q site a r =
        let first = for_live (entry_rows side s c J) 0 cases live in
        (first ++ asked, (q.0, q.1, ap (λ xs. first ++ xs) q.2), (refusals_join budget first asked site a).1 (inr (d, r)))

    pub edges_fault : (fs : List LocFamily) → AreEntriesTaken side s cases live c J budget fs → (f : InvFault) → IsFault budget (EdgesAsk side s cases live c J) f → IsFault budget (RoundAsks side s cases live c J) f
    edges_fault fs h (Past128 site k) (asked, q, r) = second_refused h.done asked q site (Past k) r
    edges_fault fs h (Budget site) (asked, q, r) = second_refused h.done asked q site (Out budget) r
    edges_fault fs h NoMemory q = tt
