use Rattle.std.proofs.Common.{◌∙◌, ap, sym, subst, length, arith, ◌<◌}
use Rattle.dc_system.specs.declared.edges.Edge.{Edge}
use Rattle.dc_system.specs.declared.edges.System.{System}
use Rattle.dc_system.specs.Shapes.{IsEdge, IsWithin}
use Rattle.std.proofs.lemmas.List.{get_or_default}
use Rattle.dc_claims.specs.Duties.{system_of, edge_at, no_edge}
use Rattle.dc_duties.specs.Lent.{lent}
use Rattle.dc_duties.proofs.Sides.{indexed, edge_kind, edge_ends}
use Rattle.dc_duties.proofs.plan.Programs.edge.Goals as goal

pub bounds-edges-number : goal.bounds-edges-number
bounds-edges-number c =
    subst (λ es. c.args.number < length es) (sym (c.as_slice-edges.ensures ∙ ap (λ (s : System). s.edges) c.system.ensures.system)) c.requires.there

pub returns-clause-edge : goal.returns-clause-edge
returns-clause-edge c =
    indexed c.as_slice-edges.result.now (system_of (lent c.args.self.now) c.args.side).edges c.args.number c.index-edges-number.result no_edge
    (c.as_slice-edges.ensures ∙ ap (λ (s : System). s.edges) c.system.ensures.system) c.requires.there c.index-edges-number.is

pub returns-clause-kind : goal.returns-clause-kind
returns-clause-kind c =
    subst (IsEdge (system_of (lent c.args.self.now) c.args.side).vars)
    (sym (indexed c.as_slice-edges.result.now (system_of (lent c.args.self.now) c.args.side).edges c.args.number c.index-edges-number.result no_edge
    (c.as_slice-edges.ensures ∙ ap (λ (s : System). s.edges) c.system.ensures.system) c.requires.there c.index-edges-number.is))
    (edge_kind c.args.self.now c.requires.pair c.args.side c.args.number c.requires.there)

pub returns-clause-ends : goal.returns-clause-ends
returns-clause-ends c =
    subst (IsWithin (system_of (lent c.args.self.now) c.args.side).locs)
    (sym (indexed c.as_slice-edges.result.now (system_of (lent c.args.self.now) c.args.side).edges c.args.number c.index-edges-number.result no_edge
    (c.as_slice-edges.ensures ∙ ap (λ (s : System). s.edges) c.system.ensures.system) c.requires.there c.index-edges-number.is))
    (edge_ends c.args.self.now c.requires.pair c.args.side c.args.number c.requires.there)
