use Rattle.std.proofs.Common.{map}
use Rattle.std.specs.String.{string_bytes}
use Rattle.dc_sparse.specs.Meanings.{cross_meaning}
use Rattle.dc_answers.specs.Outside.{visit_of, stream_of}
use Rattle.dc_cli.specs.Written.{IsUnprinted}
use Rattle.dc_cli.proofs.Results.{handed_on}
use Rattle.dc_cli.proofs.Tops.{unprinted, gained, gained_part}
use Rattle.dc_cli.proofs.command.print_answer.Goals as goal

pub returns-in_err-output-clause-refused : goal.returns-in_err-output-clause-refused
returns-in_err-output-clause-refused g c =
    let words = map string_bytes c.args.words.now.items in
    let visit = visit_of g.S.Store.files g.S.Store.faults g.S.Store.call c.args.store.now c.output.new.store in
    let out = stream_of g.O.Sink.written g.O.Sink.faults c.args.out.now c.args.out.now in
    handed_on c.from_residual.result c.in_err-output.field-0.0 (IsUnprinted words visit out) c.from_residual.ensures.1
    (unprinted words visit out c.in_err-output.field-0.0 c.in_err-output.ensures.refused)

pub returns-in-Ok-clause-ok : goal.returns-in-Ok-clause-ok
returns-in-Ok-clause-ok g c =
    record {
      bytes = c.in_ok-output.output.bytes.items;
      due = c.in_ok-output.ensures.ok;
      added = gained (stream_of g.O.Sink.written g.O.Sink.faults c.args.out.now c.put_all.new.sink) c.as_slice.result.now c.in_ok-output.output.bytes.items
          c.as_slice.ensures.value c.in-Ok.ensures.taken;
    }

pub returns-clause-refused : goal.returns-clause-refused
returns-clause-refused g c =
    record {
      left = cross_meaning c.output.new.tableau;
      status = c.in_ok-output.output.status;
      bytes = c.in_ok-output.output.bytes.items;
      due = c.in_ok-output.ensures.ok;
      part = gained_part (stream_of g.O.Sink.written g.O.Sink.faults c.args.out.now c.put_all.new.sink) c.as_slice.result.now c.in_ok-output.output.bytes.items
          c.as_slice.ensures.value c.in-Err.ensures.failed c.in-Err.ensures.part;
    }
