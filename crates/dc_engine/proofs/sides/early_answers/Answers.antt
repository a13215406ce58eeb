use Rattle.std.proofs.Common.{◌∙◌, ap, map}
use Rattle.dc_cert.specs.Ranges.{is_live}
use Rattle.dc_engine.specs.Parts.{input_of}
use Rattle.dc_engine.proofs.Early.{cases_fault, new_fault, old_fault, early_told}
use Rattle.dc_engine.proofs.sides.early_answers.Goals as goal

pub returns-in-Err-clause-fault : goal.returns-in-Err-clause-fault
returns-in-Err-clause-fault g c = cases_fault (input_of c.args.t.now) c.requires.input c.args.v.now c.requires.versions c.requires.counts c.in-Err.fault (c.in-Err.ensures {u = tt}).fault

pub returns-in-Err-side_of-clause-fault : goal.returns-in-Err-side_of-clause-fault
returns-in-Err-side_of-clause-fault g c =
    new_fault (input_of c.args.t.now) c.requires.input c.args.v.now c.requires.versions c.in-Ok.lines (c.in-Ok.ensures {u = tt}).answer c.requires.counts
    c.deref.result.now (c.deref.ensures.value ∙ c.in-Ok-flags_of.ensures {u = tt} ∙ ap (map is_live) c.as_slice.ensures)
    c.in-Err-side_of.fault (c.in-Err-side_of.ensures {u = tt}).fault

pub returns-in-Err-side_of-2-clause-fault : goal.returns-in-Err-side_of-2-clause-fault
returns-in-Err-side_of-2-clause-fault g c =
    old_fault (input_of c.args.t.now) c.requires.input c.args.v.now c.requires.versions c.in-Ok.lines (c.in-Ok.ensures {u = tt}).answer
    c.deref.result.now (c.deref.ensures.value ∙ c.in-Ok-flags_of.ensures {u = tt} ∙ ap (map is_live) c.as_slice.ensures)
    c.in-Ok-side_of.side (c.in-Ok-side_of.ensures {u = tt}).answer
    c.deref-2.result.now (c.deref-2.ensures.value ∙ c.in-Ok-flags_of.ensures {u = tt} ∙ ap (map is_live) c.as_slice.ensures)
    c.in-Err-side_of-2.fault (c.in-Err-side_of-2.ensures {u = tt}).fault

pub returns-clause-answer : goal.returns-clause-answer
returns-clause-answer g c =
    early_told (input_of c.args.t.now) c.requires.input c.args.v.now c.requires.versions c.in-Ok.lines (c.in-Ok.ensures {u = tt}).answer
    c.deref.result.now (c.deref.ensures.value ∙ c.in-Ok-flags_of.ensures {u = tt} ∙ ap (map is_live) c.as_slice.ensures)
    c.in-Ok-side_of.side (c.in-Ok-side_of.ensures {u = tt}).answer
    c.deref-2.result.now (c.deref-2.ensures.value ∙ c.in-Ok-flags_of.ensures {u = tt} ∙ ap (map is_live) c.as_slice.ensures)
    c.in-Ok-side_of-2.side (c.in-Ok-side_of-2.ensures {u = tt}).answer
