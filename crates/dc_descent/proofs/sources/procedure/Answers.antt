use Rattle.std.proofs.Common.{arith}
use Rattle.dc_grammar.specs.Grammar.{ref, leaf, pair}
use Rattle.dc_grammar.specs.Language as lang
use Rattle.dc_grammar.specs.Reading.{name-of, seq-ok}
use Rattle.dc_descent.proofs.Rules.{stop_name, stop_here, stop_then, passed}
use Rattle.dc_descent.proofs.Saying.{source_says}
use Rattle.dc_descent.proofs.sources.procedure.Goals as goal

pub returns-in_err-expect : goal.returns-in_err-expect
returns-in_err-expect c = passed (ref lang.source) (_) c.from_residual.result c.from_residual.ensures.1 (stop_name (stop_here c.in_err-expect.ensures))

pub returns-in_err-name : goal.returns-in_err-name
returns-in_err-name c = passed (ref lang.source) (_) c.from_residual-in_err-name.result c.from_residual-in_err-name.ensures.1 (stop_name (stop_then c.in_ok-expect.ensures (stop_here c.in_err-name.ensures)))

pub returns-in_err-expect-2 : goal.returns-in_err-expect-2
returns-in_err-expect-2 c = passed (ref lang.source) (_) c.from_residual-in_err-expect-2.result c.from_residual-in_err-expect-2.ensures.1 (stop_name (stop_then c.in_ok-expect.ensures (stop_then c.in_ok-name.ensures (stop_here c.in_err-expect-2.ensures))))

pub returns-in_err-params : goal.returns-in_err-params
returns-in_err-params c = passed (ref lang.source) (_) c.from_residual-in_err-params.result c.from_residual-in_err-params.ensures.1 (stop_name (stop_then c.in_ok-expect.ensures (stop_then c.in_ok-name.ensures (stop_then c.in_ok-expect-2.ensures (stop_here c.in_err-params.ensures)))))

pub returns-in_err-expect-3 : goal.returns-in_err-expect-3
returns-in_err-expect-3 c = passed (ref lang.source) (_) c.from_residual-in_err-expect-3.result c.from_residual-in_err-expect-3.ensures.1 (stop_name (stop_then c.in_ok-expect.ensures (stop_then c.in_ok-name.ensures (stop_then c.in_ok-expect-2.ensures (stop_then c.in_ok-params.ensures.1 (stop_here c.in_err-expect-3.ensures))))))

pub returns-in_err-expect-4 : goal.returns-in_err-expect-4
returns-in_err-expect-4 c = passed (ref lang.source) (_) c.from_residual-in_err-expect-4.result c.from_residual-in_err-expect-4.ensures.1 (stop_name (stop_then c.in_ok-expect.ensures (stop_then c.in_ok-name.ensures (stop_then c.in_ok-expect-2.ensures (stop_then c.in_ok-params.ensures.1 (stop_then c.in_ok-expect-3.ensures (stop_here c.in_err-expect-4.ensures)))))))

pub returns-in_err-locals : goal.returns-in_err-locals
returns-in_err-locals c = passed (ref lang.source) (_) c.from_residual-in_err-locals.result c.from_residual-in_err-locals.ensures.1 (stop_name (stop_then c.in_ok-expect.ensures (stop_then c.in_ok-name.ensures (stop_then c.in_ok-expect-2.ensures (stop_then c.in_ok-params.ensures.1 (stop_then c.in_ok-expect-3.ensures (stop_then c.in_ok-expect-4.ensures (stop_here c.in_err-locals.ensures))))))))

pub returns-in_err-inside : goal.returns-in_err-inside
returns-in_err-inside c = passed (ref lang.source) (_) c.from_residual-in_err-inside.result c.from_residual-in_err-inside.ensures.1 (stop_name (stop_then c.in_ok-expect.ensures (stop_then c.in_ok-name.ensures (stop_then c.in_ok-expect-2.ensures (stop_then c.in_ok-params.ensures.1 (stop_then c.in_ok-expect-3.ensures (stop_then c.in_ok-expect-4.ensures (stop_then c.in_ok-locals.ensures.1 (stop_here c.in_err-inside.ensures)))))))))

pub returns-in_err-expect-5 : goal.returns-in_err-expect-5
returns-in_err-expect-5 c = passed (ref lang.source) (_) c.from_residual-in_err-expect-5.result c.from_residual-in_err-expect-5.ensures.1 (stop_name (stop_then c.in_ok-expect.ensures (stop_then c.in_ok-name.ensures (stop_then c.in_ok-expect-2.ensures (stop_then c.in_ok-params.ensures.1 (stop_then c.in_ok-expect-3.ensures (stop_then c.in_ok-expect-4.ensures (stop_then c.in_ok-locals.ensures.1 (stop_then c.in_ok-inside.ensures.1 (c.in_err-expect-5.ensures))))))))))

pub returns : goal.returns
returns c = (
  (pair (leaf c.in_ok-expect.field-0) (pair (leaf c.in_ok-name.name) (pair (leaf c.in_ok-expect-2.field-0) (pair c.in_ok-params.ensures.0 (pair (leaf c.in_ok-expect-3.field-0) (pair (leaf c.in_ok-expect-4.field-0) (pair c.in_ok-locals.ensures.0 (pair c.in_ok-inside.ensures.0 (leaf c.in_ok-expect-5.field-0))))))))),
  name-of (seq-ok c.in_ok-expect.ensures (seq-ok c.in_ok-name.ensures (seq-ok c.in_ok-expect-2.ensures (seq-ok c.in_ok-params.ensures.1 (seq-ok c.in_ok-expect-3.ensures (seq-ok c.in_ok-expect-4.ensures (seq-ok c.in_ok-locals.ensures.1 (seq-ok c.in_ok-inside.ensures.1 c.in_ok-expect-5.ensures)))))))),
  source_says c.args.text.now _ _ _ _ _ _ _ _ _ c.new-found.result.items c.params.new.found.items c.locals.new.found.items c.as_slice.result.now c.len-count.result c.in_ok-inside.inside
      c.new-found.ensures.items c.in_ok-params.ensures.2 c.in_ok-locals.ensures.2 c.as_slice.ensures.value (omega (arith, c.params.new.found.ok.0)) c.in_ok-inside.ensures.2,
)
