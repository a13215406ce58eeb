use Rattle.std.proofs.Common.{refl, sym, ap, ◌∙◌, arith}
use Rattle.dc_grammar.specs.Grammar.{ref, leaf, pair, left, right}
use Rattle.dc_grammar.specs.Language.{cond, conj, fact}
use Rattle.dc_syntax.specs.declared.tree.Cond.TheVariants as e
use Rattle.dc_grammar.specs.Reading.{name-of, seq-ok, left-ok, right-ok}
use Rattle.dc_descent.specs.Reads.{memory}
use Rattle.dc_descent.specs.Scopes.{places}
use Rattle.dc_descent.specs.Trees.{IsCond, IsConj, IsFact, conjuncts, disjuncts}
use Rattle.dc_descent.proofs.Rules.{no_longer, shorter, stop_name, stop_here, stop_then, stop_left, stop_right, stop_left_at, stop_right_at, left_at, right_at, going_begin, going_on_at, going_end_at, going_stop_at, passed}
use Rattle.dc_descent.proofs.Compared.{compared}
use Rattle.dc_descent.proofs.conditions.+cond.Goals as goal

pub cond-returns-in_err-whole : goal.cond-returns-in_err-whole
cond-returns-in_err-whole t c = passed (ref cond) (IsCond (places c.args.scope.now)) c.from_residual.result c.from_residual.ensures.1 (stop_name (stop_here c.in_err-whole.ensures))

pub cond-ors-init : goal.cond-ors-init
cond-ors-init t c = record { within = no_longer c.in_ok-whole.ensures.1; going = going_begin _ _ }

pub cond-returns-in_err-expect : goal.cond-returns-in_err-expect
cond-returns-in_err-expect t c = passed (ref cond) (IsCond (places c.args.scope.now)) c.from_residual-in_err-expect.result c.from_residual-in_err-expect.ensures.1 (stop_name (stop_then c.in_ok-whole.ensures.1 (going_stop_at c.ors.invariant.going (sym c.sees.ensures ∙ c.ors-test.true) (stop_here c.in_err-expect.ensures))))

pub cond-conj-requires-in-ors : goal.cond-conj-requires-in-ors
cond-conj-requires-in-ors t c = let h : _ = c.ors.invariant.within in let g : _ = shorter c.in_ok-expect.ensures in (omega arith, tt)

pub cond-returns-in_err-part : goal.cond-returns-in_err-part
cond-returns-in_err-part t c = passed (ref cond) (IsCond (places c.args.scope.now)) c.from_residual-in_err-part.result c.from_residual-in_err-part.ensures.1 (stop_name (stop_then c.in_ok-whole.ensures.1 (going_stop_at c.ors.invariant.going (sym c.sees.ensures ∙ c.ors-test.true) (stop_then c.in_ok-expect.ensures c.in_err-part.ensures))))

pub cond-returns-in_err-whole-2 : goal.cond-returns-in_err-whole-2
cond-returns-in_err-whole-2 t c = passed (ref cond) (IsCond (places c.args.scope.now)) c.from_residual-in_err-whole-2.result c.from_residual-in_err-whole-2.ensures.1 (memory)

pub cond-ors-smaller : goal.cond-ors-smaller
cond-ors-smaller t c = let g : _ = shorter c.in_ok-expect.ensures in let h : _ = no_longer c.in_ok-part.ensures.1 in omega arith

pub cond-ors-preserved : goal.cond-ors-preserved
cond-ors-preserved t c =
    let g : _ = shorter c.in_ok-expect.ensures in
    let h : _ = no_longer c.in_ok-part.ensures.1 in
    let i : _ = c.ors.invariant.within in
    record {
      within = omega arith;
      going = going_on_at (pair (leaf c.in_ok-expect.field-0) c.in_ok-part.ensures.0) c.ors.invariant.going (sym c.sees.ensures ∙ c.ors-test.true) (seq-ok c.in_ok-expect.ensures c.in_ok-part.ensures.1)
          (λ b. ap (disjuncts (places c.args.scope.now) b) (ap (e.Or c.ors.whole) c.in_ok-part.ensures.2 ∙ sym c.in_ok-whole-2.ensures));
    }

pub cond-returns : goal.cond-returns
cond-returns t c =
    let w : _ = going_end_at c.ors.invariant.going (sym c.sees.ensures ∙ c.ors-test.false) in
    (pair c.in_ok-whole.ensures.0 w.0, name-of (seq-ok c.in_ok-whole.ensures.1 w.1), ap (disjuncts (places c.args.scope.now) w.0) c.in_ok-whole.ensures.2 ∙ w.2)

pub conj-returns-in_err-whole : goal.conj-returns-in_err-whole
conj-returns-in_err-whole t c = passed (ref conj) (IsConj (places c.args.scope.now)) c.from_residual.result c.from_residual.ensures.1 (stop_name (stop_here c.in_err-whole.ensures))

pub conj-ands-init : goal.conj-ands-init
conj-ands-init t c = record { within = no_longer c.in_ok-whole.ensures.1; going = going_begin _ _ }

pub conj-returns-in_err-expect : goal.conj-returns-in_err-expect
conj-returns-in_err-expect t c = passed (ref conj) (IsConj (places c.args.scope.now)) c.from_residual-in_err-expect.result c.from_residual-in_err-expect.ensures.1 (stop_name (stop_then c.in_ok-whole.ensures.1 (going_stop_at c.ands.invariant.going (sym c.sees.ensures ∙ c.ands-test.true) (stop_here c.in_err-expect.ensures))))

pub conj-fact-requires-in-ands : goal.conj-fact-requires-in-ands
conj-fact-requires-in-ands t c = let h : _ = c.ands.invariant.within in let g : _ = shorter c.in_ok-expect.ensures in (omega arith, tt)

pub conj-returns-in_err-part : goal.conj-returns-in_err-part
conj-returns-in_err-part t c = passed (ref conj) (IsConj (places c.args.scope.now)) c.from_residual-in_err-part.result c.from_residual-in_err-part.ensures.1 (stop_name (stop_then c.in_ok-whole.ensures.1 (going_stop_at c.ands.invariant.going (sym c.sees.ensures ∙ c.ands-test.true) (stop_then c.in_ok-expect.ensures c.in_err-part.ensures))))

pub conj-returns-in_err-whole-2 : goal.conj-returns-in_err-whole-2
conj-returns-in_err-whole-2 t c = passed (ref conj) (IsConj (places c.args.scope.now)) c.from_residual-in_err-whole-2.result c.from_residual-in_err-whole-2.ensures.1 (memory)

pub conj-ands-smaller : goal.conj-ands-smaller
conj-ands-smaller t c = let g : _ = shorter c.in_ok-expect.ensures in let h : _ = no_longer c.in_ok-part.ensures.1 in omega arith

pub conj-ands-preserved : goal.conj-ands-preserved
conj-ands-preserved t c =
    let g : _ = shorter c.in_ok-expect.ensures in
    let h : _ = no_longer c.in_ok-part.ensures.1 in
    let i : _ = c.ands.invariant.within in
    record {
      within = omega arith;
      going = going_on_at (pair (leaf c.in_ok-expect.field-0) c.in_ok-part.ensures.0) c.ands.invariant.going (sym c.sees.ensures ∙ c.ands-test.true) (seq-ok c.in_ok-expect.ensures c.in_ok-part.ensures.1)
          (λ b. ap (conjuncts (places c.args.scope.now) b) (ap (e.And c.ands.whole) c.in_ok-part.ensures.2 ∙ sym c.in_ok-whole-2.ensures));
    }

pub conj-returns : goal.conj-returns
conj-returns t c =
    let w : _ = going_end_at c.ands.invariant.going (sym c.sees.ensures ∙ c.ands-test.false) in
    (pair c.in_ok-whole.ensures.0 w.0, name-of (seq-ok c.in_ok-whole.ensures.1 w.1), ap (conjuncts (places c.args.scope.now) w.0) c.in_ok-whole.ensures.2 ∙ w.2)

pub fact-returns-in_err-expect : goal.fact-returns-in_err-expect
fact-returns-in_err-expect t c = passed (ref fact) (IsFact (places c.args.scope.now)) c.from_residual.result c.from_residual.ensures.1 (stop_name (stop_left_at (sym c.sees.ensures ∙ c.if-sees.true) (stop_here c.in_err-expect.ensures)))

pub fact-returns-in_err-inner : goal.fact-returns-in_err-inner
fact-returns-in_err-inner t c = passed (ref fact) (IsFact (places c.args.scope.now)) c.from_residual-in_err-inner.result c.from_residual-in_err-inner.ensures.1 (stop_name (stop_left_at (sym c.sees.ensures ∙ c.if-sees.true) (stop_then c.in_ok-expect.ensures (c.in_err-inner.ensures))))

pub fact-returns-in_err-opposite : goal.fact-returns-in_err-opposite
fact-returns-in_err-opposite t c = passed (ref fact) (IsFact (places c.args.scope.now)) c.from_residual-in_err-opposite.result c.from_residual-in_err-opposite.ensures.1 (memory)

pub fact-returns-in_err-expect-2 : goal.fact-returns-in_err-expect-2
fact-returns-in_err-expect-2 t c = passed (ref fact) (IsFact (places c.args.scope.now)) c.from_residual-in_err-expect-2.result c.from_residual-in_err-expect-2.ensures.1 (stop_name (stop_right_at (sym c.sees.ensures ∙ c.if-sees.false) (stop_left (sym c.sees-else-sees.ensures ∙ c.if-sees-2.true) (c.in_err-expect-2.ensures))))

pub fact-returns-in_err-expect-3 : goal.fact-returns-in_err-expect-3
fact-returns-in_err-expect-3 t c = passed (ref fact) (IsFact (places c.args.scope.now)) c.from_residual-in_err-expect-3.result c.from_residual-in_err-expect-3.ensures.1 (stop_name (stop_right_at (sym c.sees.ensures ∙ c.if-sees.false) (stop_right (sym c.sees-else-sees.ensures ∙ c.if-sees-2.false) (stop_left (sym c.sees-else-sees-2.ensures ∙ c.if-sees-3.true) (c.in_err-expect-3.ensures)))))

pub fact-returns-in_err-expect-4 : goal.fact-returns-in_err-expect-4
fact-returns-in_err-expect-4 t c = passed (ref fact) (IsFact (places c.args.scope.now)) c.from_residual-in_err-expect-4.result c.from_residual-in_err-expect-4.ensures.1 (stop_name (stop_right_at (sym c.sees.ensures ∙ c.if-sees.false) (stop_right (sym c.sees-else-sees.ensures ∙ c.if-sees-2.false) (stop_right (sym c.sees-else-sees-2.ensures ∙ c.if-sees-3.false) (stop_left_at (sym c.sees-else-sees-3.ensures ∙ c.if-sees-4.true) (stop_here c.in_err-expect-4.ensures))))))

pub fact-returns-in_err-whole : goal.fact-returns-in_err-whole
fact-returns-in_err-whole t c = passed (ref fact) (IsFact (places c.args.scope.now)) c.from_residual-in_err-whole.result c.from_residual-in_err-whole.ensures.1 (stop_name (stop_right_at (sym c.sees.ensures ∙ c.if-sees.false) (stop_right (sym c.sees-else-sees.ensures ∙ c.if-sees-2.false) (stop_right (sym c.sees-else-sees-2.ensures ∙ c.if-sees-3.false) (stop_left_at (sym c.sees-else-sees-3.ensures ∙ c.if-sees-4.true) (stop_then c.in_ok-expect-4.ensures (stop_here c.in_err-whole.ensures)))))))

pub fact-returns-in_err-expect-5 : goal.fact-returns-in_err-expect-5
fact-returns-in_err-expect-5 t c = passed (ref fact) (IsFact (places c.args.scope.now)) c.from_residual-in_err-expect-5.result c.from_residual-in_err-expect-5.ensures.1 (stop_name (stop_right_at (sym c.sees.ensures ∙ c.if-sees.false) (stop_right (sym c.sees-else-sees.ensures ∙ c.if-sees-2.false) (stop_right (sym c.sees-else-sees-2.ensures ∙ c.if-sees-3.false) (stop_left_at (sym c.sees-else-sees-3.ensures ∙ c.if-sees-4.true) (stop_then c.in_ok-expect-4.ensures (stop_then c.in_ok-whole.ensures.1 (c.in_err-expect-5.ensures))))))))

pub fact-returns-in_err-left : goal.fact-returns-in_err-left
fact-returns-in_err-left t c = passed (ref fact) (IsFact (places c.args.scope.now)) c.from_residual-in_err-left.result c.from_residual-in_err-left.ensures.1 (stop_name (stop_right_at (sym c.sees.ensures ∙ c.if-sees.false) (stop_right (sym c.sees-else-sees.ensures ∙ c.if-sees-2.false) (stop_right (sym c.sees-else-sees-2.ensures ∙ c.if-sees-3.false) (stop_right_at (sym c.sees-else-sees-3.ensures ∙ c.if-sees-4.false) (stop_here c.in_err-left.ensures))))))

pub fact-returns-in_err-sign : goal.fact-returns-in_err-sign
fact-returns-in_err-sign t c = passed (ref fact) (IsFact (places c.args.scope.now)) c.from_residual-in_err-sign.result c.from_residual-in_err-sign.ensures.1 (stop_name (stop_right_at (sym c.sees.ensures ∙ c.if-sees.false) (stop_right (sym c.sees-else-sees.ensures ∙ c.if-sees-2.false) (stop_right (sym c.sees-else-sees-2.ensures ∙ c.if-sees-3.false) (stop_right_at (sym c.sees-else-sees-3.ensures ∙ c.if-sees-4.false) (stop_then c.in_ok-left.ensures.1 (stop_here c.in_err-sign.ensures)))))))

pub fact-returns-in_err-right : goal.fact-returns-in_err-right
fact-returns-in_err-right t c = passed (ref fact) (IsFact (places c.args.scope.now)) c.from_residual-in_err-right.result c.from_residual-in_err-right.ensures.1 (stop_name (stop_right_at (sym c.sees.ensures ∙ c.if-sees.false) (stop_right (sym c.sees-else-sees.ensures ∙ c.if-sees-2.false) (stop_right (sym c.sees-else-sees-2.ensures ∙ c.if-sees-3.false) (stop_right_at (sym c.sees-else-sees-3.ensures ∙ c.if-sees-4.false) (stop_then c.in_ok-left.ensures.1 (stop_then c.in_ok-sign.ensures (c.in_err-right.ensures))))))))

pub fact-fact-requires : goal.fact-fact-requires
fact-fact-requires t c = let g : _ = shorter c.in_ok-expect.ensures in (omega arith, tt)

pub fact-cond-requires : goal.fact-cond-requires
fact-cond-requires t c = let g : _ = shorter c.in_ok-expect-4.ensures in (omega arith, tt)

pub fact-returns-in_ok-opposite : goal.fact-returns-in_ok-opposite
fact-returns-in_ok-opposite t c = ((left (pair (leaf c.in_ok-expect.field-0) c.in_ok-inner.ensures.0)), name-of (left_at (sym c.sees.ensures ∙ c.if-sees.true) ((seq-ok c.in_ok-expect.ensures c.in_ok-inner.ensures.1))), ap e.Not c.in_ok-inner.ensures.2 ∙ sym c.in_ok-opposite.ensures)

pub fact-returns-in_ok-expect-2 : goal.fact-returns-in_ok-expect-2
fact-returns-in_ok-expect-2 t c = ((right (left (leaf c.in_ok-expect-2.field-0))), name-of (right_at (sym c.sees.ensures ∙ c.if-sees.false) (left-ok (sym c.sees-else-sees.ensures ∙ c.if-sees-2.true) (c.in_ok-expect-2.ensures))), refl)

pub fact-returns-in_ok-expect-3 : goal.fact-returns-in_ok-expect-3
fact-returns-in_ok-expect-3 t c = ((right (right (left (leaf c.in_ok-expect-3.field-0)))), name-of (right_at (sym c.sees.ensures ∙ c.if-sees.false) (right-ok (sym c.sees-else-sees.ensures ∙ c.if-sees-2.false) (left-ok (sym c.sees-else-sees-2.ensures ∙ c.if-sees-3.true) (c.in_ok-expect-3.ensures)))), refl)

pub fact-returns-in_ok-expect-5 : goal.fact-returns-in_ok-expect-5
fact-returns-in_ok-expect-5 t c = ((right (right (right (left (pair (leaf c.in_ok-expect-4.field-0) (pair c.in_ok-whole.ensures.0 (leaf c.in_ok-expect-5.field-0))))))), name-of (right_at (sym c.sees.ensures ∙ c.if-sees.false) (right-ok (sym c.sees-else-sees.ensures ∙ c.if-sees-2.false) (right-ok (sym c.sees-else-sees-2.ensures ∙ c.if-sees-3.false) (left_at (sym c.sees-else-sees-3.ensures ∙ c.if-sees-4.true) ((seq-ok c.in_ok-expect-4.ensures (seq-ok c.in_ok-whole.ensures.1 c.in_ok-expect-5.ensures))))))), c.in_ok-whole.ensures.2)

pub fact-returns-in_ok-right : goal.fact-returns-in_ok-right
fact-returns-in_ok-right t c = ((right (right (right (right (pair c.in_ok-left.ensures.0 (pair (leaf c.in_ok-sign.sign) c.in_ok-right.ensures.0)))))), name-of (right_at (sym c.sees.ensures ∙ c.if-sees.false) (right-ok (sym c.sees-else-sees.ensures ∙ c.if-sees-2.false) (right-ok (sym c.sees-else-sees-2.ensures ∙ c.if-sees-3.false) (right_at (sym c.sees-else-sees-3.ensures ∙ c.if-sees-4.false) ((seq-ok c.in_ok-left.ensures.1 (seq-ok c.in_ok-sign.ensures c.in_ok-right.ensures.1))))))), compared _ _ _ _ _ _ c.in_ok-left.ensures.2 c.in_ok-right.ensures.2 (sym c.rel_of.ensures))
