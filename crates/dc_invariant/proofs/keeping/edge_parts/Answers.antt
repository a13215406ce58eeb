use Rattle.std.proofs.Common.{◌<◌, ◌≤◌, List, length, slice_index_or, sym, ◌∙◌, ap, subst, add-one}
use Rattle.dc_system.specs.declared.edges.Edge.{Edge}
use Rattle.dc_cert.specs.declared.certificate.EdgeCert.{EdgeCert}
use Rattle.dc_invariant.proofs.Keepings.{ArePartsFirst, parts_start, edge_among, parts_next, parts_fault, parts_end}
use Rattle.dc_invariant.proofs.keeping.edge_parts.Goals as goal

pub loop-number-init : goal.loop-number-init
loop-number-init g c = subst (λ (xs : List EdgeCert). ArePartsFirst c.args.t.now 0 xs) (sym c.new-parts.ensures) (parts_start c.args.t.now c.requires.lent)

pub edge_part-requires-clause-edge : goal.edge_part-requires-clause-edge
edge_part-requires-clause-edge g c = edge_among c.args.t.now.system.now.edges c.loop-number.number c.edge-item.result (subst (λ (es : List Edge). c.loop-number.number < length es) c.as_slice-edge-items.ensures c.loop-number-test.true) (c.edge-item.is ∙ ap (λ (es : List Edge). slice_index_or es c.loop-number.number c.edge-item.result) c.as_slice-edge-items.ensures)

pub loop-number-preserved : goal.loop-number-preserved
loop-number-preserved g c =
    subst (λ n. ArePartsFirst c.args.t.now n c.push.new.self) (sym (add-one c.loop-number.number))
    (parts_next c.args.t.now c.requires.lent c.loop-number.number c.edge-item.result (subst (λ (es : List Edge). c.loop-number.number < length es) c.as_slice-edge-items.ensures c.loop-number-test.true) (c.edge-item.is ∙ ap (λ (es : List Edge). slice_index_or es c.loop-number.number c.edge-item.result) c.as_slice-edge-items.ensures)
    c.loop-number.parts c.push.new.self c.in-Ok.part c.loop-number.invariant (c.in-Ok.ensures {u = tt}).answer (c.in_ok-push-in-Ok.ensures {u = tt}).ok)

pub returns-clause-answer : goal.returns-clause-answer
returns-clause-answer g c =
    parts_end c.args.t.now c.requires.lent c.loop-number.number c.loop-number.parts
    (subst (λ (es : List Edge). length es ≤ c.loop-number.number) c.as_slice-edge-items.ensures c.loop-number-test.false) c.loop-number.invariant

pub returns-in-Err-clause-fault : goal.returns-in-Err-clause-fault
returns-in-Err-clause-fault g c =
    parts_fault c.args.t.now c.requires.lent c.loop-number.number c.edge-item.result (subst (λ (es : List Edge). c.loop-number.number < length es) c.as_slice-edge-items.ensures c.loop-number-test.true) (c.edge-item.is ∙ ap (λ (es : List Edge). slice_index_or es c.loop-number.number c.edge-item.result) c.as_slice-edge-items.ensures)
    c.loop-number.parts c.loop-number.invariant c.in-Err.fault (c.in-Err.ensures {u = tt}).fault
