use Rattle.std.proofs.Common.{◌<◌, ◌≤◌, ◌∙◌, sym, ap, arith, length, get_or}
use Rattle.dc_system.specs.declared.edges.Edge.{Edge}
use Rattle.dc_clauses.specs.Sides.{keep_test, paired, atoms_at}
use Rattle.dc_clauses.proofs.Shaped.{edge_part, keeps_few}
use Rattle.dc_clauses.proofs.Walks.{length-paired, walk_more, walk_stops}
use Rattle.dc_clauses.proofs.keeps.keep_walk.Goals as goal

pub edge_keep_failure-requires-clause-part : goal.edge_keep_failure-requires-clause-part
edge_keep_failure-requires-clause-part c =
    edge_part c.args.s.now c.args.x.now c.loop-k.k c.index-edges-k.result c.index-certs-k.result c.requires.shaped (let e = ap (length {A = Edge}) c.as_slice-edges.ensures in omega arith)
    (c.index-edges-k.is ∙ ap (λ es. get_or es c.loop-k.k c.index-edges-k.result) c.as_slice-edges.ensures) (c.index-certs-k.is ∙ ap (λ es. get_or es c.loop-k.k c.index-certs-k.result) c.as_slice-certs.ensures)

pub returns-in-Some-clause-walk : goal.returns-in-Some-clause-walk
returns-in-Some-clause-walk c =
    let l : c.loop-k.k < length c.args.s.now.edges = (let e = ap (length {A = Edge}) c.as_slice-edges.ensures in omega arith) in
    let m : c.loop-k.k < length c.args.x.now.edges = (let o = c.requires.shaped.one_each in omega arith) in
    walk_stops (λ e d. paired (keep_test c.args.s.now c.args.x.now e) (atoms_at c.args.x.now e.to) d.keeps) c.args.s.now.edges c.args.x.now.edges 5 c.args.start c.loop-k.k c.loop-k.next c.loop-k.invariant
    c.index-edges-k.result c.index-certs-k.result l m
    (c.index-edges-k.is ∙ ap (λ es. get_or es c.loop-k.k c.index-edges-k.result) c.as_slice-edges.ensures) (c.index-certs-k.is ∙ ap (λ es. get_or es c.loop-k.k c.index-certs-k.result) c.as_slice-certs.ensures)
    c.in-Some.step (sym c.in-Some.is ∙ c.in_ok-found.ensures)

pub loop-k-preserved : goal.loop-k-preserved
loop-k-preserved c =
    let l : c.loop-k.k < length c.args.s.now.edges = (let e = ap (length {A = Edge}) c.as_slice-edges.ensures in omega arith) in
    let m : c.loop-k.k < length c.args.x.now.edges = (let o = c.requires.shaped.one_each in omega arith) in
    let p = edge_part c.args.s.now c.args.x.now c.loop-k.k c.index-edges-k.result c.index-certs-k.result c.requires.shaped l
    (c.index-edges-k.is ∙ ap (λ es. get_or es c.loop-k.k c.index-edges-k.result) c.as_slice-edges.ensures) (c.index-certs-k.is ∙ ap (λ es. get_or es c.loop-k.k c.index-certs-k.result) c.as_slice-certs.ensures) in
    let n : length c.index-certs-k.result.keeps ≤ length (atoms_at c.args.x.now c.index-edges-k.result.to) = keeps_few c.args.s.now c.args.x.now c.index-edges-k.result c.index-certs-k.result p in
    walk_more (λ e d. paired (keep_test c.args.s.now c.args.x.now e) (atoms_at c.args.x.now e.to) d.keeps) c.args.s.now.edges c.args.x.now.edges 5 c.args.start c.loop-k.k c.loop-k.next c.loop-k.invariant
    c.index-edges-k.result c.index-certs-k.result l m
    (c.index-edges-k.is ∙ ap (λ es. get_or es c.loop-k.k c.index-edges-k.result) c.as_slice-edges.ensures) (c.index-certs-k.is ∙ ap (λ es. get_or es c.loop-k.k c.index-certs-k.result) c.as_slice-certs.ensures)
    c.len-next.result (c.len-next.ensures ∙ sym (length-paired (keep_test c.args.s.now c.args.x.now c.index-edges-k.result) (atoms_at c.args.x.now c.index-edges-k.result.to) c.index-certs-k.result.keeps n)) (let y = p.cert.keeps.few in let z = c.len-next.ensures in omega arith) (sym c.in_default.is ∙ c.in_ok-found.ensures)
