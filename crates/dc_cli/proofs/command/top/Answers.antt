use Rattle.std.proofs.Common.{map}
use Rattle.std.specs.String.{string_bytes}
use Rattle.dc_sparse.specs.Meanings.{cross_meaning}
use Rattle.dc_answers.specs.Outside.{outside, visit_of, stream_of}
use Rattle.dc_answers.specs.Promise.{Refuses}
use Rattle.dc_cli.proofs.Tops.{prints, says_headline, is_answered, not_answered, early, refuses, prints_complete, prints_found, refuses_complete, refuses_found}
use Rattle.dc_cli.proofs.command.top.Goals as goal

pub returns-in-Ok-clause-headline : goal.returns-in-Ok-clause-headline
returns-in-Ok-clause-headline g c =
    let o = outside (map string_bytes c.args.words.now.items)
    (visit_of g.S.Store.files g.S.Store.faults g.S.Store.call c.args.store.now c.print_answer.new.store)
    (stream_of g.O.Sink.written g.O.Sink.faults c.args.out.now c.print_answer.new.out)
    (stream_of g.E.Sink.written g.E.Sink.faults c.args.err.now c.args.err.now) in
    let left = cross_meaning c.print_answer.new.tableau in
    let n = c.in-Ok.status in
    let p = prints o left n c.in-Ok.ensures.ok in
    λ _. says_headline o left n p

pub returns-in-Ok-clause-printed : goal.returns-in-Ok-clause-printed
returns-in-Ok-clause-printed g c =
    let o = outside (map string_bytes c.args.words.now.items)
    (visit_of g.S.Store.files g.S.Store.faults g.S.Store.call c.args.store.now c.print_answer.new.store)
    (stream_of g.O.Sink.written g.O.Sink.faults c.args.out.now c.print_answer.new.out)
    (stream_of g.E.Sink.written g.E.Sink.faults c.args.err.now c.args.err.now) in
    let left = cross_meaning c.print_answer.new.tableau in
    let n = c.in-Ok.status in
    let p = prints o left n c.in-Ok.ensures.ok in
    λ _. p

pub returns-in-Ok-clause-refused : goal.returns-in-Ok-clause-refused
returns-in-Ok-clause-refused g c =
    let o = outside (map string_bytes c.args.words.now.items)
    (visit_of g.S.Store.files g.S.Store.faults g.S.Store.call c.args.store.now c.print_answer.new.store)
    (stream_of g.O.Sink.written g.O.Sink.faults c.args.out.now c.print_answer.new.out)
    (stream_of g.E.Sink.written g.E.Sink.faults c.args.err.now c.args.err.now) in
    let left = cross_meaning c.print_answer.new.tableau in
    let n = c.in-Ok.status in
    let p = prints o left n c.in-Ok.ensures.ok in
    λ h. absurd {A = Refuses o n} (h (is_answered o left n p))

pub returns-in-Ok-clause-complete : goal.returns-in-Ok-clause-complete
returns-in-Ok-clause-complete g c =
    let o = outside (map string_bytes c.args.words.now.items)
    (visit_of g.S.Store.files g.S.Store.faults g.S.Store.call c.args.store.now c.print_answer.new.store)
    (stream_of g.O.Sink.written g.O.Sink.faults c.args.out.now c.print_answer.new.out)
    (stream_of g.E.Sink.written g.E.Sink.faults c.args.err.now c.args.err.now) in
    let left = cross_meaning c.print_answer.new.tableau in
    let n = c.in-Ok.status in
    let p = prints o left n c.in-Ok.ensures.ok in
    prints_complete o n left p

pub returns-in-Ok-clause-missing : goal.returns-in-Ok-clause-missing
returns-in-Ok-clause-missing g c =
    let o = outside (map string_bytes c.args.words.now.items)
    (visit_of g.S.Store.files g.S.Store.faults g.S.Store.call c.args.store.now c.print_answer.new.store)
    (stream_of g.O.Sink.written g.O.Sink.faults c.args.out.now c.print_answer.new.out)
    (stream_of g.E.Sink.written g.E.Sink.faults c.args.err.now c.args.err.now) in
    let left = cross_meaning c.print_answer.new.tableau in
    let n = c.in-Ok.status in
    let p = prints o left n c.in-Ok.ensures.ok in
    prints_found o n left p

pub returns-in-Ok-clause-untouched : goal.returns-in-Ok-clause-untouched
returns-in-Ok-clause-untouched g c =
    let o = outside (map string_bytes c.args.words.now.items)
    (visit_of g.S.Store.files g.S.Store.faults g.S.Store.call c.args.store.now c.print_answer.new.store)
    (stream_of g.O.Sink.written g.O.Sink.faults c.args.out.now c.print_answer.new.out)
    (stream_of g.E.Sink.written g.E.Sink.faults c.args.err.now c.args.err.now) in
    let left = cross_meaning c.print_answer.new.tableau in
    let n = c.in-Ok.status in
    let p = prints o left n c.in-Ok.ensures.ok in
    λ h w. absurd (h (is_answered o left n p))

pub returns-in-Err-clause-headline : goal.returns-in-Err-clause-headline
returns-in-Err-clause-headline g c =
    let o = outside (map string_bytes c.args.words.now.items)
    (visit_of g.S.Store.files g.S.Store.faults g.S.Store.call c.args.store.now c.print_answer.new.store)
    (stream_of g.O.Sink.written g.O.Sink.faults c.args.out.now c.print_answer.new.out)
    (stream_of g.E.Sink.written g.E.Sink.faults c.args.err.now c.report.new.err) in
    let z = c.in-Err.refusal in
    let n = c.report.result in
    λ a. absurd (not_answered z o.err n c.report.ensures.line a)

pub returns-in-Err-clause-printed : goal.returns-in-Err-clause-printed
returns-in-Err-clause-printed g c =
    let o = outside (map string_bytes c.args.words.now.items)
    (visit_of g.S.Store.files g.S.Store.faults g.S.Store.call c.args.store.now c.print_answer.new.store)
    (stream_of g.O.Sink.written g.O.Sink.faults c.args.out.now c.print_answer.new.out)
    (stream_of g.E.Sink.written g.E.Sink.faults c.args.err.now c.report.new.err) in
    let z = c.in-Err.refusal in
    let n = c.report.result in
    λ a. absurd (not_answered z o.err n c.report.ensures.line a)

pub returns-in-Err-clause-refused : goal.returns-in-Err-clause-refused
returns-in-Err-clause-refused g c =
    let o = outside (map string_bytes c.args.words.now.items)
    (visit_of g.S.Store.files g.S.Store.faults g.S.Store.call c.args.store.now c.print_answer.new.store)
    (stream_of g.O.Sink.written g.O.Sink.faults c.args.out.now c.print_answer.new.out)
    (stream_of g.E.Sink.written g.E.Sink.faults c.args.err.now c.report.new.err) in
    let z = c.in-Err.refusal in
    let n = c.report.result in
    λ _. refuses o z n c.in-Err.ensures.refused c.report.ensures.line

pub returns-in-Err-clause-complete : goal.returns-in-Err-clause-complete
returns-in-Err-clause-complete g c =
    let o = outside (map string_bytes c.args.words.now.items)
    (visit_of g.S.Store.files g.S.Store.faults g.S.Store.call c.args.store.now c.print_answer.new.store)
    (stream_of g.O.Sink.written g.O.Sink.faults c.args.out.now c.print_answer.new.out)
    (stream_of g.E.Sink.written g.E.Sink.faults c.args.err.now c.report.new.err) in
    let z = c.in-Err.refusal in
    let n = c.report.result in
    refuses_complete o n (refuses o z n c.in-Err.ensures.refused c.report.ensures.line)

pub returns-in-Err-clause-missing : goal.returns-in-Err-clause-missing
returns-in-Err-clause-missing g c =
    let o = outside (map string_bytes c.args.words.now.items)
    (visit_of g.S.Store.files g.S.Store.faults g.S.Store.call c.args.store.now c.print_answer.new.store)
    (stream_of g.O.Sink.written g.O.Sink.faults c.args.out.now c.print_answer.new.out)
    (stream_of g.E.Sink.written g.E.Sink.faults c.args.err.now c.report.new.err) in
    let z = c.in-Err.refusal in
    let n = c.report.result in
    refuses_found o n (refuses o z n c.in-Err.ensures.refused c.report.ensures.line)

pub returns-in-Err-clause-untouched : goal.returns-in-Err-clause-untouched
returns-in-Err-clause-untouched g c =
    let o = outside (map string_bytes c.args.words.now.items)
    (visit_of g.S.Store.files g.S.Store.faults g.S.Store.call c.args.store.now c.print_answer.new.store)
    (stream_of g.O.Sink.written g.O.Sink.faults c.args.out.now c.print_answer.new.out)
    (stream_of g.E.Sink.written g.E.Sink.faults c.args.err.now c.report.new.err) in
    let z = c.in-Err.refusal in
    let n = c.report.result in
    λ _ w. c.in-Err.ensures.untouched (early z o.err n c.report.ensures.line w)

pub returns-in-Err-clause-quiet : goal.returns-in-Err-clause-quiet
returns-in-Err-clause-quiet g c =
    let o = outside (map string_bytes c.args.words.now.items)
    (visit_of g.S.Store.files g.S.Store.faults g.S.Store.call c.args.store.now c.print_answer.new.store)
    (stream_of g.O.Sink.written g.O.Sink.faults c.args.out.now c.print_answer.new.out)
    (stream_of g.E.Sink.written g.E.Sink.faults c.args.err.now c.report.new.err) in
    let z = c.in-Err.refusal in
    let n = c.report.result in
    λ a. absurd (not_answered z o.err n c.report.ensures.line a)
