use Rattle.std.proofs.Common.{◌≡◌, slice_index_or, sym, subst, add-one}
use Rattle.std.proofs.lemmas.List.{get_or_default}
use Rattle.dc_engine.proofs.Lines.{AreFirstLines, case_atoms, lines_next, lines_fault}
use Rattle.dc_engine.proofs.cases.case_lines.Goals as goal

pub case_line-requires : goal.case_line-requires
case_line-requires g c = record {
  atoms = case_atoms c.args.t.now.new.now.params c.args.t.now.cases.now c.loop-number.number c.as_slice.result.now c.requires.input.condition.atoms c.loop-number-test.true
      (let r : c.as_slice.result.now ≡ slice_index_or c.args.t.now.cases.now c.loop-number.number c.as_slice.result.now = cc (c.as_slice.ensures, c.case-item.is, get_or_default c.args.t.now.cases.now c.loop-number.number c.case-item.result c.as_slice.result.now c.loop-number-test.true) in r);
}

pub returns-in-Err-clause-fault : goal.returns-in-Err-clause-fault
returns-in-Err-clause-fault g c =
    lines_fault c.args.t.now.new.now.params c.args.t.now.settings.now.pivots c.args.t.now.cases.now c.loop-number.number c.as_slice.result.now c.loop-number-test.true
    (let r : c.as_slice.result.now ≡ slice_index_or c.args.t.now.cases.now c.loop-number.number c.as_slice.result.now = cc (c.as_slice.ensures, c.case-item.is, get_or_default c.args.t.now.cases.now c.loop-number.number c.case-item.result c.as_slice.result.now c.loop-number-test.true) in r)
    c.loop-number.lines c.loop-number.invariant c.in-Err.fault (c.in-Err.ensures {u = tt}).fault

pub loop-number-preserved : goal.loop-number-preserved
loop-number-preserved g c =
    subst (λ n. AreFirstLines c.args.t.now.new.now.params c.args.t.now.settings.now.pivots c.args.t.now.cases.now n c.push.new.self) (sym (add-one c.loop-number.number))
    (lines_next c.args.t.now.new.now.params c.args.t.now.settings.now.pivots c.args.t.now.cases.now c.loop-number.number c.as_slice.result.now c.loop-number-test.true
    (let r : c.as_slice.result.now ≡ slice_index_or c.args.t.now.cases.now c.loop-number.number c.as_slice.result.now = cc (c.as_slice.ensures, c.case-item.is, get_or_default c.args.t.now.cases.now c.loop-number.number c.case-item.result c.as_slice.result.now c.loop-number-test.true) in r)
    c.loop-number.lines c.push.new.self c.in-Ok.line c.loop-number.invariant (c.in-Ok.ensures {u = tt}).answer (c.in-Ok.ensures {u = tt}).flag (c.in_ok-push-in-Ok.ensures {u = tt}).ok)
