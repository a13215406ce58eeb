-- A well formed system is a graph, also with a location folded.
use Rattle.std.specs.Prelude.{◌≡◌, ℕ, ◌-◌, ◌<◌, eqb, Some}
use Rattle.std.proofs.Common.{sym, ap, subst, inl, inr}
use Rattle.dc_math.specs.Members.{Among, head, each_among, among_each}
use Rattle.dc_system.specs.declared.edges.Edge.{Edge}
use Rattle.dc_system.specs.declared.edges.System.{System}
use Rattle.dc_system.specs.Folded.{fold_at, folded}
use Rattle.dc_system.specs.Shapes.{IsEdge, IsWellFormed, IsWithin as EndsWithin}
use Rattle.dc_system.proofs.Filters.{in_kept}
use Rattle.dc_system.proofs.Crossings.{made_by}
use Rattle.dc_system.proofs.Composite.{compose_edge}
use Rattle.dc_system.proofs.Folds.{Joined, joined_at, was}
use Rattle.dc_families.specs.Graphs.{graph_of, with_edges, IsGraph}
use Rattle.dc_families.specs.Laws.{SystemsAreGraphs, FoldsAreGraphs}

pub systems_are_graphs : SystemsAreGraphs
systems_are_graphs s w = record { params_first = w.params_first; ends = w.ends; edges = w.edges }

module _ (s : System) (l : ℕ) (c : Edge) (w : IsWellFormed s) (h : fold_at s.vars (s.locs - 1) s.edges l ≡ Some c) where
  abbrev J : Joined s.vars (s.locs - 1) l s.edges c
  J = joined_at s.vars (s.locs - 1) l s.edges c h

  first : Among J.first s.edges
  first = (in_kept (λ (e : Edge). eqb e.to l) J.first s.edges (subst (Among J.first) (sym J.goes_in) head)).among

  second : Among J.second s.edges
  second = (in_kept (λ (e : Edge). eqb e.from l) J.second s.edges (subst (Among J.second) (sym J.goes_out) head)).among

  shape : IsEdge s.vars c
  shape = compose_edge s.vars J.first J.second c w.few_vars (each_among (IsEdge s.vars) w.edges first) (each_among (IsEdge s.vars) w.edges second) J.made

  ends : EndsWithin s.locs c
  ends =
      let m = made_by s.vars J.first J.second c J.made in
      record {
        from = subst (λ k. k < s.locs) (sym (ap (λ (e : Edge). e.from) m.is)) (each_among (EndsWithin s.locs) w.ends first).from;
        to = subst (λ k. k < s.locs) (sym (ap (λ (e : Edge). e.to) m.is)) (each_among (EndsWithin s.locs) w.ends second).to;
      }

  graph : IsGraph (with_edges (folded l c s.edges) (graph_of s))
  graph = record {
    params_first = w.params_first;
    ends = among_each (EndsWithin s.locs) _ (λ g i. elim (was s.vars (s.locs - 1) l s.edges c J g i) [
      | inl e ↦ subst (EndsWithin s.locs) (sym e) ends
      | inr o ↦ each_among (EndsWithin s.locs) w.ends o.0
    ]);
    edges = among_each (IsEdge s.vars) _ (λ g i. elim (was s.vars (s.locs - 1) l s.edges c J g i) [
      | inl e ↦ subst (IsEdge s.vars) (sym e) shape
      | inr o ↦ each_among (IsEdge s.vars) w.edges o.0
    ]);
  }

pub folds_are_graphs : FoldsAreGraphs
folds_are_graphs s l c w h = graph s l c w h
