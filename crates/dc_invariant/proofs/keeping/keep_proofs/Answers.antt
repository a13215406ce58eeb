use Rattle.std.proofs.Common.{List, sym, subst}
use Rattle.dc_affine.specs.declared.atom.Atom.{Atom}
use Rattle.dc_cert.specs.declared.certificate.SideCert.{SideCert}
use Rattle.dc_families.specs.Graphs.{graph_of}
use Rattle.dc_greatest.specs.Answers.{IsFault}
use Rattle.dc_invariant.specs.Keeps.{KeepsAsk}
use Rattle.dc_invariant.specs.Answers.{TellsKeeps}
use Rattle.dc_invariant.proofs.Keepings.{keeping_lent, whole_side, entry_side_fault, edges_side_fault, exit_side_fault}
use Rattle.dc_invariant.proofs.keeping.keep_proofs.Goals as goal

pub returns-clause-answer : goal.returns-clause-answer
returns-clause-answer g c =
    let x : SideCert = record { families = c.args.printed; entry_keeps = c.in-Ok.keeps; edges = c.in-Ok-edge_parts.parts; exit_line = c.in-Ok-exit_line.line } in
    subst (λ (ps : List (List Atom)). TellsKeeps c.args.side (graph_of c.args.s.now) c.args.cases.now c.args.live.now ps c.args.budget x) c.as_slice.ensures
    (whole_side (record { side = c.args.side; system = c.args.s; cases = c.args.cases; live = c.args.live; printed = c.as_slice.result; budget = c.args.budget }) (keeping_lent (record { side = c.args.side; system = c.args.s; cases = c.args.cases; live = c.args.live; printed = c.as_slice.result; budget = c.args.budget }) c.args.printed c.as_slice.ensures c.requires.system c.requires.condition c.requires.flags c.requires.one_each c.requires.atoms c.requires.inductive) x (sym c.as_slice.ensures) (c.in-Ok.ensures {u = tt}).answer (c.in-Ok-edge_parts.ensures {u = tt}).answer (c.in-Ok-exit_line.ensures {u = tt}).answer)

pub returns-in-Err-clause-fault : goal.returns-in-Err-clause-fault
returns-in-Err-clause-fault g c =
    subst (λ (ps : List (List Atom)). IsFault c.args.budget (KeepsAsk c.args.side (graph_of c.args.s.now) ps c.args.cases.now c.args.live.now) c.in-Err.fault) c.as_slice.ensures (entry_side_fault (record { side = c.args.side; system = c.args.s; cases = c.args.cases; live = c.args.live; printed = c.as_slice.result; budget = c.args.budget }) (keeping_lent (record { side = c.args.side; system = c.args.s; cases = c.args.cases; live = c.args.live; printed = c.as_slice.result; budget = c.args.budget }) c.args.printed c.as_slice.ensures c.requires.system c.requires.condition c.requires.flags c.requires.one_each c.requires.atoms c.requires.inductive) c.in-Err.fault (c.in-Err.ensures {u = tt}).fault)

pub returns-in-Err-edge_parts-clause-fault : goal.returns-in-Err-edge_parts-clause-fault
returns-in-Err-edge_parts-clause-fault g c =
    subst (λ (ps : List (List Atom)). IsFault c.args.budget (KeepsAsk c.args.side (graph_of c.args.s.now) ps c.args.cases.now c.args.live.now) c.in-Err-edge_parts.fault) c.as_slice.ensures
    (edges_side_fault (record { side = c.args.side; system = c.args.s; cases = c.args.cases; live = c.args.live; printed = c.as_slice.result; budget = c.args.budget }) (keeping_lent (record { side = c.args.side; system = c.args.s; cases = c.args.cases; live = c.args.live; printed = c.as_slice.result; budget = c.args.budget }) c.args.printed c.as_slice.ensures c.requires.system c.requires.condition c.requires.flags c.requires.one_each c.requires.atoms c.requires.inductive) c.in-Ok.keeps (c.in-Ok.ensures {u = tt}).answer c.in-Err-edge_parts.fault (c.in-Err-edge_parts.ensures {u = tt}).fault)

pub returns-in-Err-exit_line-clause-fault : goal.returns-in-Err-exit_line-clause-fault
returns-in-Err-exit_line-clause-fault g c =
    subst (λ (ps : List (List Atom)). IsFault c.args.budget (KeepsAsk c.args.side (graph_of c.args.s.now) ps c.args.cases.now c.args.live.now) c.in-Err-exit_line.fault) c.as_slice.ensures
    (exit_side_fault (record { side = c.args.side; system = c.args.s; cases = c.args.cases; live = c.args.live; printed = c.as_slice.result; budget = c.args.budget }) (keeping_lent (record { side = c.args.side; system = c.args.s; cases = c.args.cases; live = c.args.live; printed = c.as_slice.result; budget = c.args.budget }) c.args.printed c.as_slice.ensures c.requires.system c.requires.condition c.requires.flags c.requires.one_each c.requires.atoms c.requires.inductive) c.in-Ok.keeps c.in-Ok-edge_parts.parts (c.in-Ok.ensures {u = tt}).answer (c.in-Ok-edge_parts.ensures {u = tt}).answer
    c.in-Err-exit_line.fault (c.in-Err-exit_line.ensures {u = tt}).fault)
