use Rattle.std.proofs.Common.{◌∙◌, sym, ap, ap₂, arith, length}
use Rattle.dc_affine.specs.declared.atom.Atom.{Atom}
use Rattle.dc_cert.specs.declared.sparse.Sparse.{Sparse}
use Rattle.dc_clauses.specs.Steps.{counted, first_failure}
use Rattle.dc_clauses.specs.Sides.{keep_test, paired}
use Rattle.dc_clauses.proofs.Shaped.{keeps_few}
use Rattle.dc_clauses.proofs.Walks.{pair_passed, pair_stops, pairs_end_right}
use Rattle.dc_clauses.proofs.keeps.edge_keep_failure.Goals as goal

pub returns-in-Some : goal.returns-in-Some
returns-in-Some c =
    let f = keep_test c.args.s.now c.args.x.now c.args.e.now in
    pair_stops f c.atoms_at-atoms.result.now c.as_slice-keeps.result.now 5 c.args.start c.loop-k.k
    (first_failure (counted 5 c.args.start (paired f c.atoms_at-atoms.result.now c.as_slice-keeps.result.now))) c.loop-k.invariant
    c.index-atoms-k.result c.index-keeps-k.result c.in_ok-test.test (let n = keeps_few c.args.s.now c.args.x.now c.args.e.now c.args.c.now c.requires.part in let p = ap (length {A = Atom}) c.atoms_at-atoms.ensures in let q = ap (length {A = Sparse}) c.as_slice-keeps.ensures in omega arith) c.loop-k-test.true c.index-atoms-k.is c.index-keeps-k.is c.in_ok-test.ensures c.in-Some.step (sym c.in-Some.is ∙ c.failure.ensures)
    ∙ ap₂ (λ xs ks. first_failure (counted 5 c.args.start (paired f xs ks))) c.atoms_at-atoms.ensures c.as_slice-keeps.ensures

pub loop-k-preserved : goal.loop-k-preserved
loop-k-preserved c =
    let f = keep_test c.args.s.now c.args.x.now c.args.e.now in
    pair_passed f c.atoms_at-atoms.result.now c.as_slice-keeps.result.now 5 c.args.start c.loop-k.k
    (first_failure (counted 5 c.args.start (paired f c.atoms_at-atoms.result.now c.as_slice-keeps.result.now))) c.loop-k.invariant
    c.index-atoms-k.result c.index-keeps-k.result c.in_ok-test.test (let n = keeps_few c.args.s.now c.args.x.now c.args.e.now c.args.c.now c.requires.part in let p = ap (length {A = Atom}) c.atoms_at-atoms.ensures in let q = ap (length {A = Sparse}) c.as_slice-keeps.ensures in omega arith) c.loop-k-test.true c.index-atoms-k.is c.index-keeps-k.is c.in_ok-test.ensures (sym c.in_default.is ∙ c.failure.ensures)

pub returns : goal.returns
returns c =
    let f = keep_test c.args.s.now c.args.x.now c.args.e.now in
    pairs_end_right f c.atoms_at-atoms.result.now c.as_slice-keeps.result.now 5 c.args.start c.loop-k.k
    (first_failure (counted 5 c.args.start (paired f c.atoms_at-atoms.result.now c.as_slice-keeps.result.now))) c.loop-k.invariant c.loop-k-test.false
    ∙ ap₂ (λ xs ks. first_failure (counted 5 c.args.start (paired f xs ks))) c.atoms_at-atoms.ensures c.as_slice-keeps.ensures
