use Rattle.std.proofs.Common.{◌≡◌, ◌<◌, List, false, length, slice_index_or, sym, subst, arith, add-one}
use Rattle.std.proofs.lemmas.List.{get_or_default}
use Rattle.dc_cert.specs.declared.sparse.Sparse.{Sparse}
use Rattle.dc_invariant.proofs.Keepings.{AreCasesFirst, cases_start, many_flags, case_among, case_flag, cases_next, cases_fault, cases_end}
use Rattle.dc_invariant.proofs.keeping.entry_keeps.Goals as goal

pub loop-number-init : goal.loop-number-init
loop-number-init g c = subst (λ (xs : List (List Sparse)). AreCasesFirst c.args.t.now 0 xs) (sym c.new-keeps.ensures) (cases_start c.args.t.now c.requires.lent)

pub bounds-t-number : goal.bounds-t-number
bounds-t-number g c = let m = many_flags c.args.t.now c.requires.lent in let l = c.loop-number-test.true in omega arith

pub keeps_if_live-requires-clause-case : goal.keeps_if_live-requires-clause-case
keeps_if_live-requires-clause-case g c = case_among c.args.t.now.cases.now c.loop-number.number c.as_slice.result.now c.loop-number-test.true (let r : c.as_slice.result.now ≡ slice_index_or c.args.t.now.cases.now c.loop-number.number c.as_slice.result.now = cc (c.as_slice.ensures, c.case-item.is, get_or_default c.args.t.now.cases.now c.loop-number.number c.case-item.result c.as_slice.result.now c.loop-number-test.true) in r)

pub keeps_if_live-requires-clause-flag : goal.keeps_if_live-requires-clause-flag
keeps_if_live-requires-clause-flag g c =
    let m = many_flags c.args.t.now c.requires.lent in
    let l = c.loop-number-test.true in
    let i : c.loop-number.number < length c.args.t.now.live.now = omega arith in
    case_flag c.args.t.now c.requires.lent c.loop-number.number c.as_slice.result.now (slice_index_or c.args.t.now.live.now c.loop-number.number false) c.loop-number-test.true (let r : c.as_slice.result.now ≡ slice_index_or c.args.t.now.cases.now c.loop-number.number c.as_slice.result.now = cc (c.as_slice.ensures, c.case-item.is, get_or_default c.args.t.now.cases.now c.loop-number.number c.case-item.result c.as_slice.result.now c.loop-number-test.true) in r)
    (get_or_default c.args.t.now.live.now c.loop-number.number false (slice_index_or c.args.t.now.live.now c.loop-number.number false) i)

pub loop-number-preserved : goal.loop-number-preserved
loop-number-preserved g c =
    let m = many_flags c.args.t.now c.requires.lent in
    let l = c.loop-number-test.true in
    let i : c.loop-number.number < length c.args.t.now.live.now = omega arith in
    subst (λ n. AreCasesFirst c.args.t.now n c.push.new.self) (sym (add-one c.loop-number.number))
    (cases_next c.args.t.now c.requires.lent c.loop-number.number c.as_slice.result.now (slice_index_or c.args.t.now.live.now c.loop-number.number false) c.loop-number-test.true (let r : c.as_slice.result.now ≡ slice_index_or c.args.t.now.cases.now c.loop-number.number c.as_slice.result.now = cc (c.as_slice.ensures, c.case-item.is, get_or_default c.args.t.now.cases.now c.loop-number.number c.case-item.result c.as_slice.result.now c.loop-number-test.true) in r)
    (get_or_default c.args.t.now.live.now c.loop-number.number false (slice_index_or c.args.t.now.live.now c.loop-number.number false) i)
    c.loop-number.keeps c.push.new.self c.in-Ok.part c.loop-number.invariant (c.in-Ok.ensures {u = tt}).answer (c.in_ok-push-in-Ok.ensures {u = tt}).ok)

pub returns-clause-answer : goal.returns-clause-answer
returns-clause-answer g c = cases_end c.args.t.now c.requires.lent c.loop-number.number c.loop-number.keeps c.loop-number-test.false c.loop-number.invariant

pub returns-in-Err-clause-fault : goal.returns-in-Err-clause-fault
returns-in-Err-clause-fault g c =
    let m = many_flags c.args.t.now c.requires.lent in
    let l = c.loop-number-test.true in
    let i : c.loop-number.number < length c.args.t.now.live.now = omega arith in
    cases_fault c.args.t.now c.requires.lent c.loop-number.number c.as_slice.result.now (slice_index_or c.args.t.now.live.now c.loop-number.number false) c.loop-number-test.true (let r : c.as_slice.result.now ≡ slice_index_or c.args.t.now.cases.now c.loop-number.number c.as_slice.result.now = cc (c.as_slice.ensures, c.case-item.is, get_or_default c.args.t.now.cases.now c.loop-number.number c.case-item.result c.as_slice.result.now c.loop-number-test.true) in r)
    (get_or_default c.args.t.now.live.now c.loop-number.number false (slice_index_or c.args.t.now.live.now c.loop-number.number false) i)
    c.loop-number.keeps c.loop-number.invariant c.in-Err.fault (c.in-Err.ensures {u = tt}).fault
