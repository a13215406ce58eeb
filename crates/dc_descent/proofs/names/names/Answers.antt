use Rattle.std.proofs.Common.{[], ◌∷◌, ◌++◌, sym, ap, ◌∙◌, arith, append_assoc, append-nil}
use Rattle.dc_grammar.specs.Grammar.{ref, leaf, pair}
use Rattle.dc_grammar.specs.Language as lang
use Rattle.dc_grammar.specs.Reading.{name-of, seq-ok}
use Rattle.dc_descent.specs.Reads.{memory}
use Rattle.dc_descent.specs.Sources.{more_names}
use Rattle.dc_descent.proofs.Rules.{shorter, stop_name, stop_here, stop_then, going_stop_at, going_on_at, going_end_at, going_begin, passed}
use Rattle.dc_descent.proofs.names.names.Goals as goal

pub returns-in_err-first : goal.returns-in_err-first
returns-in_err-first c = passed (ref lang.names) (_) c.from_residual.result c.from_residual.ensures.1 (stop_name (stop_here c.in_err-first.ensures))

pub returns-in_err-keep : goal.returns-in_err-keep
returns-in_err-keep c = passed (ref lang.names) (_) c.from_residual-in_err-keep.result c.from_residual-in_err-keep.ensures.1 (memory)

pub commas-init : goal.commas-init
commas-init c = going_begin _ _

pub returns-in_err-expect : goal.returns-in_err-expect
returns-in_err-expect c = passed (ref lang.names) (_) c.from_residual-in_err-expect.result c.from_residual-in_err-expect.ensures.1 (stop_name (stop_then c.in_ok-first.ensures (going_stop_at c.commas.invariant (sym c.sees.ensures ∙ c.commas-test.true) (stop_here c.in_err-expect.ensures))))

pub returns-in_err-next : goal.returns-in_err-next
returns-in_err-next c = passed (ref lang.names) (_) c.from_residual-in_err-next.result c.from_residual-in_err-next.ensures.1 (stop_name (stop_then c.in_ok-first.ensures (going_stop_at c.commas.invariant (sym c.sees.ensures ∙ c.commas-test.true) (stop_then c.in_ok-expect.ensures c.in_err-next.ensures))))

pub returns-in_err-keep-2 : goal.returns-in_err-keep-2
returns-in_err-keep-2 c = passed (ref lang.names) (_) c.from_residual-in_err-keep-2.result c.from_residual-in_err-keep-2.ensures.1 (memory)

pub commas-smaller : goal.commas-smaller
commas-smaller c = let g : _ = shorter c.in_ok-expect.ensures in let h : _ = shorter c.in_ok-next.ensures in omega arith

pub commas-preserved : goal.commas-preserved
commas-preserved c = going_on_at (pair (leaf c.in_ok-expect.field-0) (leaf c.in_ok-next.next)) c.commas.invariant (sym c.sees.ensures ∙ c.commas-test.true) (seq-ok c.in_ok-expect.ensures c.in_ok-next.ensures)
    (λ b. sym (ap (λ v. v ++ more_names b) c.in_ok-keep-2.ensures ∙ append_assoc c.commas.found.items (c.in_ok-next.next ∷ []) (more_names b)))

pub returns : goal.returns
returns c =
    let w : _ = going_end_at c.commas.invariant (sym c.sees.ensures ∙ c.commas-test.false) in (
      pair (leaf c.in_ok-first.first) w.0,
      name-of (seq-ok c.in_ok-first.ensures w.1),
      sym (append-nil c.commas.found.items) ∙ (sym w.2 ∙ (ap (λ v. v ++ more_names w.0) c.in_ok-keep.ensures ∙ append_assoc c.args.found.now.items (c.in_ok-first.first ∷ []) (more_names w.0))),
    )
