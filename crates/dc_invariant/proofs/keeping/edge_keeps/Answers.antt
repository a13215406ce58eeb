use Rattle.std.proofs.Common.{List, sym, subst, add-one}
use Rattle.dc_cert.specs.declared.sparse.Sparse.{Sparse}
use Rattle.dc_invariant.proofs.Keepings.{EdgeKeepsFirst, along_first, along_next, along_end, along_stop, among_read, is_within}
use Rattle.dc_invariant.proofs.keeping.edge_keeps.Goals as goal

pub atoms_of-atoms-requires-clause-inside : goal.atoms_of-atoms-requires-clause-inside
atoms_of-atoms-requires-clause-inside g c = (is_within c.args.t.now c.requires.lent c.args.edge.now c.requires.edge).to

pub loop-number-init : goal.loop-number-init
loop-number-init g c =
    subst (λ (ks : List Sparse). EdgeKeepsFirst c.args.t.now c.args.edge_number c.args.edge.now c.atoms_of-atoms.result.now 0 ks) (sym c.new-keeps.ensures)
    (along_first c.args.t.now c.requires.lent c.args.edge.now c.requires.edge c.args.edge_number c.atoms_of-atoms.result.now c.atoms_of-atoms.ensures)

pub edge_keep-requires-clause-atom : goal.edge_keep-requires-clause-atom
edge_keep-requires-clause-atom g c =
    among_read c.atoms_of-atoms.result.now _ c.loop-number.number c.index-atoms-number.result c.atoms_of-atoms.ensures c.loop-number-test.true c.index-atoms-number.is

pub loop-number-preserved : goal.loop-number-preserved
loop-number-preserved g c =
    subst (λ i. EdgeKeepsFirst c.args.t.now c.args.edge_number c.args.edge.now c.atoms_of-atoms.result.now i c.push.new.self) (sym (add-one c.loop-number.number))
    (along_next c.args.t.now c.requires.lent c.args.edge.now c.requires.edge c.args.edge_number c.atoms_of-atoms.result.now c.atoms_of-atoms.ensures c.loop-number.number c.index-atoms-number.result c.loop-number-test.true c.index-atoms-number.is
    c.loop-number.keeps c.push.new.self c.in-Ok.keep c.loop-number.invariant (c.in-Ok.ensures {u = tt}).answer (c.in_ok-push-in-Ok.ensures {u = tt}).ok)

pub returns-clause-answer : goal.returns-clause-answer
returns-clause-answer g c =
    along_end c.args.t.now c.requires.lent c.args.edge.now c.requires.edge c.args.edge_number c.atoms_of-atoms.result.now c.atoms_of-atoms.ensures c.loop-number.number c.loop-number.keeps c.loop-number-test.false c.loop-number.invariant

pub returns-in-Err-clause-fault : goal.returns-in-Err-clause-fault
returns-in-Err-clause-fault g c =
    along_stop c.args.t.now c.requires.lent c.args.edge.now c.requires.edge c.args.edge_number c.atoms_of-atoms.result.now c.atoms_of-atoms.ensures c.loop-number.number c.index-atoms-number.result c.loop-number-test.true c.index-atoms-number.is
    c.loop-number.keeps c.loop-number.invariant c.in-Err.fault (c.in-Err.ensures {u = tt}).fault
