use Rattle.dc_engine.proofs.OneSide.{rounds_fault, prune_fault, keeps_fault, part_told, honest, atoms, inductive}
use Rattle.dc_engine.proofs.sides.side_of.Goals as goal

pub returns-in-Err-clause-fault : goal.returns-in-Err-clause-fault
returns-in-Err-clause-fault g c =
    rounds_fault c.args.side c.args.v.now.system c.args.cases.now c.args.live.now c.args.v.now.candidates c.args.budget c.in-Err.fault (c.in-Err.ensures {u = tt}).fault

pub prune-requires-clause-honest : goal.prune-requires-clause-honest
prune-requires-clause-honest g c =
    honest c.args.side c.args.v.now.system c.args.cases.now c.args.live.now c.args.v.now.candidates c.args.budget c.requires.kind c.in-Ok.family.at (c.in-Ok.ensures {u = tt}).answer

pub returns-in-Err-prune-clause-fault : goal.returns-in-Err-prune-clause-fault
returns-in-Err-prune-clause-fault g c =
    prune_fault c.args.side c.args.v.now.system c.args.cases.now c.args.live.now c.args.v.now.candidates c.args.budget c.in-Ok.family.at (c.in-Ok.ensures {u = tt}).answer
    c.in-Err-prune.fault (c.in-Err-prune.ensures {u = tt}).fault

pub keep_proofs-requires-clause-atoms : goal.keep_proofs-requires-clause-atoms
keep_proofs-requires-clause-atoms g c =
    atoms c.args.side c.args.v.now.system c.args.cases.now c.args.live.now c.args.v.now.candidates c.args.budget c.requires.system c.requires.kind c.in-Ok.family.at (c.in-Ok.ensures {u = tt}).answer
    c.in-Ok-prune.printed (c.in-Ok-prune.ensures {u = tt}).answer

pub keep_proofs-requires-clause-inductive : goal.keep_proofs-requires-clause-inductive
keep_proofs-requires-clause-inductive g c =
    inductive c.args.side c.args.v.now.system c.args.cases.now c.args.live.now c.args.v.now.candidates c.args.budget c.requires.system c.requires.kind c.in-Ok.family.at (c.in-Ok.ensures {u = tt}).answer
    c.in-Ok-prune.printed (c.in-Ok-prune.ensures {u = tt}).answer

pub returns-in-Ok-keep_proofs-clause-answer : goal.returns-in-Ok-keep_proofs-clause-answer
returns-in-Ok-keep_proofs-clause-answer g c =
    part_told c.args.side c.args.v.now.system c.args.cases.now c.args.live.now c.args.v.now.candidates c.args.budget c.in-Ok.family.at (c.in-Ok.ensures {u = tt}).answer
    c.in-Ok-prune.printed (c.in-Ok-prune.ensures {u = tt}).answer c.requires.kind
    c.in-Ok-keep_proofs.part (c.in-Ok-keep_proofs.ensures {u = tt}).answer

pub returns-clause-fault : goal.returns-clause-fault
returns-clause-fault g c =
    keeps_fault c.args.side c.args.v.now.system c.args.cases.now c.args.live.now c.args.v.now.candidates c.args.budget c.in-Ok.family.at (c.in-Ok.ensures {u = tt}).answer
    c.in-Ok-prune.printed (c.in-Ok-prune.ensures {u = tt}).answer
    c.in-Err-keep_proofs.fault (c.in-Err-keep_proofs.ensures {u = tt}).fault
