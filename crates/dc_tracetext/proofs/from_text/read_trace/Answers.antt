use Rattle.std.proofs.Common.{sym, arith}
use Rattle.std.proofs.lemmas.List.{length-take-le}
use Rattle.dc_lines.proofs.Readers.{bad_long, bad_short}
use Rattle.dc_tracetext.specs.Text.{limit, HasText}
use Rattle.dc_tracetext.proofs.from_text.read_trace.Goals as goal

pub slice_bounds-read_lines-end : goal.slice_bounds-read_lines-end
slice_bounds-read_lines-end c = sym (length-take-le 1048576 c.args.text.now (let h = c.if-text-gt-LIMIT.true in omega arith))

pub read_lines-requires : goal.read_lines-requires
read_lines-requires c = (let e = length-take-le 1048576 c.args.text.now (let h = c.if-text-gt-LIMIT.true in omega arith) in omega arith)

pub returns-then-text-gt-LIMIT-clause-fault : goal.returns-then-text-gt-LIMIT-clause-fault
returns-then-text-gt-LIMIT-clause-fault c = bad_long HasText limit c.args.text.now c.in_ok-reading.reading.line c.in_ok-reading.reading.whole c.if-text-gt-LIMIT.true c.in_ok-reading.ensures

pub returns-in-None-clause-fault : goal.returns-in-None-clause-fault
returns-in-None-clause-fault c = bad_short HasText limit c.args.text.now c.in_ok-reading-2.reading.line c.in_ok-reading-2.reading.whole c.if-text-gt-LIMIT.false c.in-None.is c.in_ok-reading-2.ensures
