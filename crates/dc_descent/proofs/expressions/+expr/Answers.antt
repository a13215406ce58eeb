use Rattle.std.proofs.Common.{refl, sym, ap, ◌∙◌, arith}
use Rattle.dc_grammar.specs.Grammar.{ref, leaf, pair, left, right}
use Rattle.dc_grammar.specs.Language.{expr, term, unary}
use Rattle.dc_syntax.specs.declared.tree.Expr.TheVariants as e
use Rattle.dc_grammar.specs.Reading.{name-of, seq-ok, left-ok, right-ok}
use Rattle.dc_descent.specs.Reads.{memory}
use Rattle.dc_descent.specs.Scopes.{places}
use Rattle.dc_descent.specs.Trees.{IsExpr, IsTerm, IsUnary, sum_by, summands, factors}
use Rattle.dc_descent.proofs.Rules.{no_longer, shorter, stop_name, stop_here, stop_then, stop_left, stop_right, stop_left_at, stop_right_at, left_at, right_at, going_begin, going_on_at, going_end_at, going_stop_at, passed}
use Rattle.dc_descent.proofs.expressions.+expr.Goals as goal

pub expr-returns-in_err-whole : goal.expr-returns-in_err-whole
expr-returns-in_err-whole t c = passed (ref expr) (IsExpr (places c.args.scope.now)) c.from_residual.result c.from_residual.ensures.1 (stop_name (stop_here c.in_err-whole.ensures))

pub expr-signs-init : goal.expr-signs-init
expr-signs-init t c = record { within = no_longer c.in_ok-whole.ensures.1; going = going_begin _ _ }

pub expr-returns-in_err-sign : goal.expr-returns-in_err-sign
expr-returns-in_err-sign t c = passed (ref expr) (IsExpr (places c.args.scope.now)) c.from_residual-in_err-sign.result c.from_residual-in_err-sign.ensures.1 (stop_name (stop_then c.in_ok-whole.ensures.1 (going_stop_at c.signs.invariant.going (sym c.sees_sign.ensures ∙ c.signs-test.true) (stop_here c.in_err-sign.ensures))))

pub expr-term-requires-in-signs : goal.expr-term-requires-in-signs
expr-term-requires-in-signs t c = let h : _ = c.signs.invariant.within in let g : _ = shorter c.in_ok-sign.ensures in (omega arith, tt)

pub expr-returns-in_err-part : goal.expr-returns-in_err-part
expr-returns-in_err-part t c = passed (ref expr) (IsExpr (places c.args.scope.now)) c.from_residual-in_err-part.result c.from_residual-in_err-part.ensures.1 (stop_name (stop_then c.in_ok-whole.ensures.1 (going_stop_at c.signs.invariant.going (sym c.sees_sign.ensures ∙ c.signs-test.true) (stop_then c.in_ok-sign.ensures c.in_err-part.ensures))))

pub expr-returns-in_err-whole-2 : goal.expr-returns-in_err-whole-2
expr-returns-in_err-whole-2 t c = passed (ref expr) (IsExpr (places c.args.scope.now)) c.from_residual-in_err-whole-2.result c.from_residual-in_err-whole-2.ensures.1 (memory)

pub expr-signs-smaller : goal.expr-signs-smaller
expr-signs-smaller t c = let g : _ = shorter c.in_ok-sign.ensures in let h : _ = no_longer c.in_ok-part.ensures.1 in omega arith

pub expr-signs-preserved : goal.expr-signs-preserved
expr-signs-preserved t c =
    let g : _ = shorter c.in_ok-sign.ensures in
    let h : _ = no_longer c.in_ok-part.ensures.1 in
    let i : _ = c.signs.invariant.within in
    record {
      within = omega arith;
      going = going_on_at (pair (leaf c.in_ok-sign.sign) c.in_ok-part.ensures.0) c.signs.invariant.going (sym c.sees_sign.ensures ∙ c.signs-test.true) (seq-ok c.in_ok-sign.ensures c.in_ok-part.ensures.1)
          (λ b. ap (summands (places c.args.scope.now) b) (ap (sum_by c.in_ok-sign.sign.kind c.signs.whole) c.in_ok-part.ensures.2 ∙ sym c.in_ok-whole-2.ensures));
    }

pub expr-returns : goal.expr-returns
expr-returns t c =
    let w : _ = going_end_at c.signs.invariant.going (sym c.sees_sign.ensures ∙ c.signs-test.false) in
    (pair c.in_ok-whole.ensures.0 w.0, name-of (seq-ok c.in_ok-whole.ensures.1 w.1), ap (summands (places c.args.scope.now) w.0) c.in_ok-whole.ensures.2 ∙ w.2)

pub term-returns-in_err-whole : goal.term-returns-in_err-whole
term-returns-in_err-whole t c = passed (ref term) (IsTerm (places c.args.scope.now)) c.from_residual.result c.from_residual.ensures.1 (stop_name (stop_here c.in_err-whole.ensures))

pub term-stars-init : goal.term-stars-init
term-stars-init t c = record { within = no_longer c.in_ok-whole.ensures.1; going = going_begin _ _ }

pub term-returns-in_err-expect : goal.term-returns-in_err-expect
term-returns-in_err-expect t c = passed (ref term) (IsTerm (places c.args.scope.now)) c.from_residual-in_err-expect.result c.from_residual-in_err-expect.ensures.1 (stop_name (stop_then c.in_ok-whole.ensures.1 (going_stop_at c.stars.invariant.going (sym c.sees.ensures ∙ c.stars-test.true) (stop_here c.in_err-expect.ensures))))

pub term-unary-requires-in-stars : goal.term-unary-requires-in-stars
term-unary-requires-in-stars t c = let h : _ = c.stars.invariant.within in let g : _ = shorter c.in_ok-expect.ensures in (omega arith, tt)

pub term-returns-in_err-factor : goal.term-returns-in_err-factor
term-returns-in_err-factor t c = passed (ref term) (IsTerm (places c.args.scope.now)) c.from_residual-in_err-factor.result c.from_residual-in_err-factor.ensures.1 (stop_name (stop_then c.in_ok-whole.ensures.1 (going_stop_at c.stars.invariant.going (sym c.sees.ensures ∙ c.stars-test.true) (stop_then c.in_ok-expect.ensures c.in_err-factor.ensures))))

pub term-returns-in_err-whole-2 : goal.term-returns-in_err-whole-2
term-returns-in_err-whole-2 t c = passed (ref term) (IsTerm (places c.args.scope.now)) c.from_residual-in_err-whole-2.result c.from_residual-in_err-whole-2.ensures.1 (memory)

pub term-stars-smaller : goal.term-stars-smaller
term-stars-smaller t c = let g : _ = shorter c.in_ok-expect.ensures in let h : _ = no_longer c.in_ok-factor.ensures.1 in omega arith

pub term-stars-preserved : goal.term-stars-preserved
term-stars-preserved t c =
    let g : _ = shorter c.in_ok-expect.ensures in
    let h : _ = no_longer c.in_ok-factor.ensures.1 in
    let i : _ = c.stars.invariant.within in
    record {
      within = omega arith;
      going = going_on_at (pair (leaf c.in_ok-expect.field-0) c.in_ok-factor.ensures.0) c.stars.invariant.going (sym c.sees.ensures ∙ c.stars-test.true) (seq-ok c.in_ok-expect.ensures c.in_ok-factor.ensures.1)
          (λ b. ap (factors (places c.args.scope.now) b) (ap (e.Mul c.stars.whole) c.in_ok-factor.ensures.2 ∙ sym c.in_ok-whole-2.ensures));
    }

pub term-returns : goal.term-returns
term-returns t c =
    let w : _ = going_end_at c.stars.invariant.going (sym c.sees.ensures ∙ c.stars-test.false) in
    (pair c.in_ok-whole.ensures.0 w.0, name-of (seq-ok c.in_ok-whole.ensures.1 w.1), ap (factors (places c.args.scope.now) w.0) c.in_ok-whole.ensures.2 ∙ w.2)

pub unary-returns-in_err-expect : goal.unary-returns-in_err-expect
unary-returns-in_err-expect t c = passed (ref unary) (IsUnary (places c.args.scope.now)) c.from_residual.result c.from_residual.ensures.1 (stop_name (stop_left_at (sym c.sees.ensures ∙ c.if-sees.true) (stop_here c.in_err-expect.ensures)))

pub unary-returns-in_err-inner : goal.unary-returns-in_err-inner
unary-returns-in_err-inner t c = passed (ref unary) (IsUnary (places c.args.scope.now)) c.from_residual-in_err-inner.result c.from_residual-in_err-inner.ensures.1 (stop_name (stop_left_at (sym c.sees.ensures ∙ c.if-sees.true) (stop_then c.in_ok-expect.ensures (c.in_err-inner.ensures))))

pub unary-returns-in_err-negation : goal.unary-returns-in_err-negation
unary-returns-in_err-negation t c = passed (ref unary) (IsUnary (places c.args.scope.now)) c.from_residual-in_err-negation.result c.from_residual-in_err-negation.ensures.1 (memory)

pub unary-returns-in_err-number : goal.unary-returns-in_err-number
unary-returns-in_err-number t c = passed (ref unary) (IsUnary (places c.args.scope.now)) c.from_residual-in_err-number.result c.from_residual-in_err-number.ensures.1 (stop_name (stop_right_at (sym c.sees.ensures ∙ c.if-sees.false) (stop_left (sym c.sees-else-sees.ensures ∙ c.if-sees-2.true) (c.in_err-number.ensures))))

pub unary-returns-in_err-name : goal.unary-returns-in_err-name
unary-returns-in_err-name t c = passed (ref unary) (IsUnary (places c.args.scope.now)) c.from_residual-in_err-name.result c.from_residual-in_err-name.ensures.1 (stop_name (stop_right_at (sym c.sees.ensures ∙ c.if-sees.false) (stop_right (sym c.sees-else-sees.ensures ∙ c.if-sees-2.false) (stop_left (sym c.sees-else-sees-2.ensures ∙ c.if-sees-3.true) (c.in_err-name.ensures)))))

pub unary-returns-in_err-expect-2 : goal.unary-returns-in_err-expect-2
unary-returns-in_err-expect-2 t c = passed (ref unary) (IsUnary (places c.args.scope.now)) c.from_residual-in_err-expect-2.result c.from_residual-in_err-expect-2.ensures.1 (stop_name (stop_right_at (sym c.sees.ensures ∙ c.if-sees.false) (stop_right (sym c.sees-else-sees.ensures ∙ c.if-sees-2.false) (stop_right (sym c.sees-else-sees-2.ensures ∙ c.if-sees-3.false) (stop_here c.in_err-expect-2.ensures)))))

pub unary-returns-in_err-whole : goal.unary-returns-in_err-whole
unary-returns-in_err-whole t c = passed (ref unary) (IsUnary (places c.args.scope.now)) c.from_residual-in_err-whole.result c.from_residual-in_err-whole.ensures.1 (stop_name (stop_right_at (sym c.sees.ensures ∙ c.if-sees.false) (stop_right (sym c.sees-else-sees.ensures ∙ c.if-sees-2.false) (stop_right (sym c.sees-else-sees-2.ensures ∙ c.if-sees-3.false) (stop_then c.in_ok-expect-2.ensures (stop_here c.in_err-whole.ensures))))))

pub unary-returns-in_err-expect-3 : goal.unary-returns-in_err-expect-3
unary-returns-in_err-expect-3 t c = passed (ref unary) (IsUnary (places c.args.scope.now)) c.from_residual-in_err-expect-3.result c.from_residual-in_err-expect-3.ensures.1 (stop_name (stop_right_at (sym c.sees.ensures ∙ c.if-sees.false) (stop_right (sym c.sees-else-sees.ensures ∙ c.if-sees-2.false) (stop_right (sym c.sees-else-sees-2.ensures ∙ c.if-sees-3.false) (stop_then c.in_ok-expect-2.ensures (stop_then c.in_ok-whole.ensures.1 (c.in_err-expect-3.ensures)))))))

pub unary-unary-requires : goal.unary-unary-requires
unary-unary-requires t c = let g : _ = shorter c.in_ok-expect.ensures in (omega arith, tt)

pub unary-expr-requires : goal.unary-expr-requires
unary-expr-requires t c = let g : _ = shorter c.in_ok-expect-2.ensures in (omega arith, tt)

pub unary-returns-in_ok-negation : goal.unary-returns-in_ok-negation
unary-returns-in_ok-negation t c = (left (pair (leaf c.in_ok-expect.field-0) c.in_ok-inner.ensures.0), name-of (left_at (sym c.sees.ensures ∙ c.if-sees.true) (seq-ok c.in_ok-expect.ensures c.in_ok-inner.ensures.1)), ap e.Neg c.in_ok-inner.ensures.2 ∙ sym c.in_ok-negation.ensures)

pub unary-returns-in_ok-number : goal.unary-returns-in_ok-number
unary-returns-in_ok-number t c = (right (left (leaf c.in_ok-number.number)), name-of (right_at (sym c.sees.ensures ∙ c.if-sees.false) (left-ok (sym c.sees-else-sees.ensures ∙ c.if-sees-2.true) c.in_ok-number.ensures)), refl)

pub unary-returns-in_ok-name : goal.unary-returns-in_ok-name
unary-returns-in_ok-name t c = (right (right (left (leaf c.in_ok-name.name))), name-of (right_at (sym c.sees.ensures ∙ c.if-sees.false) (right-ok (sym c.sees-else-sees.ensures ∙ c.if-sees-2.false) (left-ok (sym c.sees-else-sees-2.ensures ∙ c.if-sees-3.true) c.in_ok-name.ensures))), ap e.Var (sym c.place.ensures))

pub unary-returns-in_ok-expect-3 : goal.unary-returns-in_ok-expect-3
unary-returns-in_ok-expect-3 t c = (right (right (right (pair (leaf c.in_ok-expect-2.field-0) (pair c.in_ok-whole.ensures.0 (leaf c.in_ok-expect-3.field-0))))), name-of (right_at (sym c.sees.ensures ∙ c.if-sees.false) (right-ok (sym c.sees-else-sees.ensures ∙ c.if-sees-2.false) (right-ok (sym c.sees-else-sees-2.ensures ∙ c.if-sees-3.false) (seq-ok c.in_ok-expect-2.ensures (seq-ok c.in_ok-whole.ensures.1 c.in_ok-expect-3.ensures))))), c.in_ok-whole.ensures.2)
