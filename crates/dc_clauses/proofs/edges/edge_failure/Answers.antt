use Rattle.std.proofs.Common.{◌<◌, sym, ◌∙◌, ap, arith, length, get_or}
use Rattle.dc_system.specs.declared.edges.Edge.{Edge}
use Rattle.dc_cert.specs.declared.certificate.EdgeCert.{EdgeCert}
use Rattle.dc_clauses.specs.Steps.{counted, first_failure}
use Rattle.dc_clauses.specs.Sides.{edge_test, edge_tests}
use Rattle.dc_clauses.proofs.Shaped.{edge_part}
use Rattle.dc_clauses.proofs.Walks.{pair_passed, pair_stops, pairs_end}
use Rattle.dc_clauses.proofs.edges.edge_failure.Goals as goal

pub edge_test-test-requires : goal.edge_test-test-requires
edge_test-test-requires c = record {
  part = edge_part c.args.s.now c.args.x.now c.loop-k.k c.index-edges-k.result c.index-certs-k.result c.requires.shaped (let e = ap (length {A = Edge}) c.as_slice-edges.ensures in omega arith)
      (c.index-edges-k.is ∙ ap (λ es. get_or es c.loop-k.k c.index-edges-k.result) c.as_slice-edges.ensures) (c.index-certs-k.is ∙ ap (λ es. get_or es c.loop-k.k c.index-certs-k.result) c.as_slice-certs.ensures);
}

pub returns-in-Some : goal.returns-in-Some
returns-in-Some c =
    let m : c.loop-k.k < length c.as_slice-certs.result.now = (let e = ap (length {A = Edge}) c.as_slice-edges.ensures in let d = ap (length {A = EdgeCert}) c.as_slice-certs.ensures in let o = c.requires.shaped.one_each in omega arith) in
    pair_stops (edge_test c.args.s.now c.args.x.now) c.as_slice-edges.result.now c.as_slice-certs.result.now 4 c.args.start c.loop-k.k (first_failure (counted 4 c.args.start (edge_tests c.args.s.now c.args.x.now))) c.loop-k.invariant
    c.index-edges-k.result c.index-certs-k.result c.edge_test-test.result c.loop-k-test.true m c.index-edges-k.is c.index-certs-k.is c.edge_test-test.ensures c.in-Some.step (sym c.in-Some.is ∙ c.failure.ensures)

pub loop-k-preserved : goal.loop-k-preserved
loop-k-preserved c =
    let m : c.loop-k.k < length c.as_slice-certs.result.now = (let e = ap (length {A = Edge}) c.as_slice-edges.ensures in let d = ap (length {A = EdgeCert}) c.as_slice-certs.ensures in let o = c.requires.shaped.one_each in omega arith) in
    pair_passed (edge_test c.args.s.now c.args.x.now) c.as_slice-edges.result.now c.as_slice-certs.result.now 4 c.args.start c.loop-k.k (first_failure (counted 4 c.args.start (edge_tests c.args.s.now c.args.x.now))) c.loop-k.invariant
    c.index-edges-k.result c.index-certs-k.result c.edge_test-test.result c.loop-k-test.true m c.index-edges-k.is c.index-certs-k.is c.edge_test-test.ensures (sym c.in_default.is ∙ c.failure.ensures)

pub returns : goal.returns
returns c =
    pairs_end (edge_test c.args.s.now c.args.x.now) c.as_slice-edges.result.now c.as_slice-certs.result.now 4 c.args.start c.loop-k.k (first_failure (counted 4 c.args.start (edge_tests c.args.s.now c.args.x.now))) c.loop-k.invariant
    c.loop-k-test.false
