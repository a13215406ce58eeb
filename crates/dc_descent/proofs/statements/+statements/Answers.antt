use Rattle.std.proofs.Common.{[], refl, sym, ap, ◌∙◌, arith, subst, append-nil}
use Rattle.dc_tokens.specs.declared.token.TokenKind.TheVariants as k
use Rattle.dc_grammar.specs.Grammar.{ref, tok, opt, many, ◌▸◌, none, leaf, pair, left, right}
use Rattle.dc_grammar.specs.Language as lang
use Rattle.dc_grammar.specs.Reading.{name-of, seq-ok, nil-ok}
use Rattle.dc_descent.specs.Reads.{memory}
use Rattle.dc_descent.specs.Scopes.{places}
use Rattle.dc_descent.specs.Statements.{IsWith, stmt_of, choice_of, stmt_starts, block_starts, else_starts}
use Rattle.dc_descent.specs.Alternatives.{IsSkip, IsTick, IsAssume, IsAssign, branch_of, loop_of, branch_starts, loop_starts}
use Rattle.dc_descent.proofs.Rules.{no_longer, shorter, stop_name, stop_here, stop_then, stop_left_at, stop_right_at, left_at, right_at, going_stop, going_begin, passed}
use Rattle.dc_grammar.specs.Readers.{language_reader}
use Rattle.dc_grammar.proofs.Alone.{Going, going_on, going_end, consumes}
use Rattle.dc_grammar.proofs.LanguageReader.{language_ahead}
use Rattle.dc_descent.proofs.Compared.{branches, loops}
use Rattle.dc_descent.proofs.Lists.{first_read, lift, both_of, both_more, begun_first, begun_then, begun_both}
use Rattle.dc_descent.proofs.statements.+statements.Goals as goal

pub branch-returns-in_err-expect : goal.branch-returns-in_err-expect
branch-returns-in_err-expect t c = passed (tok k.If ▸ tok k.LParen ▸ ref lang.choice ▸ tok k.RParen ▸ ref lang.block ▸ opt (tok k.Else ▸ ref lang.block)) (_) c.from_residual.result c.from_residual.ensures.1 (stop_here c.in_err-expect.ensures)

pub branch-returns-in_err-expect-2 : goal.branch-returns-in_err-expect-2
branch-returns-in_err-expect-2 t c = passed (tok k.If ▸ tok k.LParen ▸ ref lang.choice ▸ tok k.RParen ▸ ref lang.block ▸ opt (tok k.Else ▸ ref lang.block)) (_) c.from_residual-in_err-expect-2.result c.from_residual-in_err-expect-2.ensures.1 (stop_then c.in_ok-expect.ensures (stop_here c.in_err-expect-2.ensures))

pub branch-returns-in_err-condition : goal.branch-returns-in_err-condition
branch-returns-in_err-condition t c = passed (tok k.If ▸ tok k.LParen ▸ ref lang.choice ▸ tok k.RParen ▸ ref lang.block ▸ opt (tok k.Else ▸ ref lang.block)) (_) c.from_residual-in_err-condition.result c.from_residual-in_err-condition.ensures.1 (stop_then c.in_ok-expect.ensures (stop_then c.in_ok-expect-2.ensures (stop_here c.in_err-condition.ensures)))

pub branch-returns-in_err-expect-3 : goal.branch-returns-in_err-expect-3
branch-returns-in_err-expect-3 t c = passed (tok k.If ▸ tok k.LParen ▸ ref lang.choice ▸ tok k.RParen ▸ ref lang.block ▸ opt (tok k.Else ▸ ref lang.block)) (_) c.from_residual-in_err-expect-3.result c.from_residual-in_err-expect-3.ensures.1 (stop_then c.in_ok-expect.ensures (stop_then c.in_ok-expect-2.ensures (stop_then c.in_ok-condition.ensures.1 (stop_here c.in_err-expect-3.ensures))))

pub branch-returns-in_err-yes : goal.branch-returns-in_err-yes
branch-returns-in_err-yes t c = passed (tok k.If ▸ tok k.LParen ▸ ref lang.choice ▸ tok k.RParen ▸ ref lang.block ▸ opt (tok k.Else ▸ ref lang.block)) (_) c.from_residual-in_err-yes.result c.from_residual-in_err-yes.ensures.1 (stop_then c.in_ok-expect.ensures (stop_then c.in_ok-expect-2.ensures (stop_then c.in_ok-condition.ensures.1 (stop_then c.in_ok-expect-3.ensures (stop_here c.in_err-yes.ensures)))))

pub branch-returns-in_err-no : goal.branch-returns-in_err-no
branch-returns-in_err-no t c = passed (tok k.If ▸ tok k.LParen ▸ ref lang.choice ▸ tok k.RParen ▸ ref lang.block ▸ opt (tok k.Else ▸ ref lang.block)) (_) c.from_residual-in_err-no.result c.from_residual-in_err-no.ensures.1 (stop_then c.in_ok-expect.ensures (stop_then c.in_ok-expect-2.ensures (stop_then c.in_ok-condition.ensures.1 (stop_then c.in_ok-expect-3.ensures (stop_then c.in_ok-yes.ensures.1 (c.in_err-no.ensures))))))

pub branch-returns : goal.branch-returns
branch-returns t c = (
  (pair (leaf c.in_ok-expect.field-0) (pair (leaf c.in_ok-expect-2.field-0) (pair c.in_ok-condition.ensures.0 (pair (leaf c.in_ok-expect-3.field-0) (pair c.in_ok-yes.ensures.0 c.in_ok-no.ensures.0))))),
  (seq-ok c.in_ok-expect.ensures (seq-ok c.in_ok-expect-2.ensures (seq-ok c.in_ok-condition.ensures.1 (seq-ok c.in_ok-expect-3.ensures (seq-ok c.in_ok-yes.ensures.1 c.in_ok-no.ensures.1))))),
  record {
    said = branches (choice_of (places c.args.scope.now) c.in_ok-condition.ensures.0) _ _ _ _ _ c.in_ok-condition.ensures.2 c.in_ok-yes.ensures.2.said c.in_ok-no.ensures.2.said ∙ sym c.branch_stmt.ensures;
    begun = begun_both _ _ _ (block_starts c.in_ok-yes.ensures.0) (else_starts c.in_ok-no.ensures.0) c.in_ok-yes.ensures.2.begun c.in_ok-no.ensures.2.begun;
  },
)

pub branch-block-requires : goal.branch-block-requires
branch-block-requires t c = let g : _ = shorter c.in_ok-expect.ensures in let h : _ = shorter c.in_ok-expect-2.ensures in let i : _ = no_longer c.in_ok-condition.ensures.1 in let j : _ = shorter c.in_ok-expect-3.ensures in (omega arith, tt)

pub branch-otherwise-requires : goal.branch-otherwise-requires
branch-otherwise-requires t c = let g : _ = shorter c.in_ok-expect.ensures in let h : _ = shorter c.in_ok-expect-2.ensures in let i : _ = no_longer c.in_ok-condition.ensures.1 in let j : _ = shorter c.in_ok-expect-3.ensures in let k : _ = no_longer c.in_ok-yes.ensures.1 in (omega arith, tt)

pub otherwise-returns-in_err-expect : goal.otherwise-returns-in_err-expect
otherwise-returns-in_err-expect t c = passed (opt (tok k.Else ▸ ref lang.block)) (_) c.from_residual.result c.from_residual.ensures.1 (stop_left_at (sym c.sees.ensures ∙ c.if-sees.true) (stop_here c.in_err-expect.ensures))

pub otherwise-returns-in_err-body : goal.otherwise-returns-in_err-body
otherwise-returns-in_err-body t c = passed (opt (tok k.Else ▸ ref lang.block)) (_) c.from_residual-in_err-body.result c.from_residual-in_err-body.ensures.1 (stop_left_at (sym c.sees.ensures ∙ c.if-sees.true) (stop_then c.in_ok-expect.ensures (c.in_err-body.ensures)))

pub otherwise-block-requires : goal.otherwise-block-requires
otherwise-block-requires t c = let g : _ = shorter c.in_ok-expect.ensures in (omega arith, tt)

pub otherwise-returns-in_ok-body : goal.otherwise-returns-in_ok-body
otherwise-returns-in_ok-body t c = (left (pair (leaf c.in_ok-expect.field-0) c.in_ok-body.ensures.0), left_at (sym c.sees.ensures ∙ c.if-sees.true) (seq-ok c.in_ok-expect.ensures c.in_ok-body.ensures.1), record { said = c.in_ok-body.ensures.2.said; begun = c.in_ok-body.ensures.2.begun })

pub otherwise-returns-else-sees : goal.otherwise-returns-else-sees
otherwise-returns-else-sees t c = (right none, right_at (sym c.sees.ensures ∙ c.if-sees.false) nil-ok, record { said = sym c.new.ensures; begun = sym (append-nil c.args.starts.now.items) })

pub repeat-returns-in_err-expect : goal.repeat-returns-in_err-expect
repeat-returns-in_err-expect t c = passed (tok k.While ▸ tok k.LParen ▸ ref lang.choice ▸ tok k.RParen ▸ ref lang.block) (_) c.from_residual.result c.from_residual.ensures.1 (stop_here c.in_err-expect.ensures)

pub repeat-returns-in_err-expect-2 : goal.repeat-returns-in_err-expect-2
repeat-returns-in_err-expect-2 t c = passed (tok k.While ▸ tok k.LParen ▸ ref lang.choice ▸ tok k.RParen ▸ ref lang.block) (_) c.from_residual-in_err-expect-2.result c.from_residual-in_err-expect-2.ensures.1 (stop_then c.in_ok-expect.ensures (stop_here c.in_err-expect-2.ensures))

pub repeat-returns-in_err-condition : goal.repeat-returns-in_err-condition
repeat-returns-in_err-condition t c = passed (tok k.While ▸ tok k.LParen ▸ ref lang.choice ▸ tok k.RParen ▸ ref lang.block) (_) c.from_residual-in_err-condition.result c.from_residual-in_err-condition.ensures.1 (stop_then c.in_ok-expect.ensures (stop_then c.in_ok-expect-2.ensures (stop_here c.in_err-condition.ensures)))

pub repeat-returns-in_err-expect-3 : goal.repeat-returns-in_err-expect-3
repeat-returns-in_err-expect-3 t c = passed (tok k.While ▸ tok k.LParen ▸ ref lang.choice ▸ tok k.RParen ▸ ref lang.block) (_) c.from_residual-in_err-expect-3.result c.from_residual-in_err-expect-3.ensures.1 (stop_then c.in_ok-expect.ensures (stop_then c.in_ok-expect-2.ensures (stop_then c.in_ok-condition.ensures.1 (stop_here c.in_err-expect-3.ensures))))

pub repeat-returns-in_err-body : goal.repeat-returns-in_err-body
repeat-returns-in_err-body t c = passed (tok k.While ▸ tok k.LParen ▸ ref lang.choice ▸ tok k.RParen ▸ ref lang.block) (_) c.from_residual-in_err-body.result c.from_residual-in_err-body.ensures.1 (stop_then c.in_ok-expect.ensures (stop_then c.in_ok-expect-2.ensures (stop_then c.in_ok-condition.ensures.1 (stop_then c.in_ok-expect-3.ensures (c.in_err-body.ensures)))))

pub repeat-returns : goal.repeat-returns
repeat-returns t c = (
  (pair (leaf c.in_ok-expect.field-0) (pair (leaf c.in_ok-expect-2.field-0) (pair c.in_ok-condition.ensures.0 (pair (leaf c.in_ok-expect-3.field-0) c.in_ok-body.ensures.0)))),
  (seq-ok c.in_ok-expect.ensures (seq-ok c.in_ok-expect-2.ensures (seq-ok c.in_ok-condition.ensures.1 (seq-ok c.in_ok-expect-3.ensures c.in_ok-body.ensures.1)))),
  record {
    said = loops (choice_of (places c.args.scope.now) c.in_ok-condition.ensures.0) _ _ _ c.in_ok-condition.ensures.2 c.in_ok-body.ensures.2.said ∙ sym c.loop_stmt.ensures;
    begun = c.in_ok-body.ensures.2.begun;
  },
)

pub repeat-block-requires : goal.repeat-block-requires
repeat-block-requires t c = let g : _ = shorter c.in_ok-expect.ensures in let h : _ = shorter c.in_ok-expect-2.ensures in let i : _ = no_longer c.in_ok-condition.ensures.1 in let j : _ = shorter c.in_ok-expect-3.ensures in (omega arith, tt)

pub block-returns-in_err-expect : goal.block-returns-in_err-expect
block-returns-in_err-expect t c = passed (ref lang.block) (_) c.from_residual.result c.from_residual.ensures.1 (stop_name (stop_here c.in_err-expect.ensures))

pub block-returns-in_err-body : goal.block-returns-in_err-body
block-returns-in_err-body t c = passed (ref lang.block) (_) c.from_residual-in_err-body.result c.from_residual-in_err-body.ensures.1 (stop_name (stop_then c.in_ok-expect.ensures (stop_here c.in_err-body.ensures)))

pub block-returns-in_err-expect-2 : goal.block-returns-in_err-expect-2
block-returns-in_err-expect-2 t c = passed (ref lang.block) (_) c.from_residual-in_err-expect-2.result c.from_residual-in_err-expect-2.ensures.1 (stop_name (stop_then c.in_ok-expect.ensures (stop_then c.in_ok-body.ensures.1 (c.in_err-expect-2.ensures))))

pub block-stmts-requires : goal.block-stmts-requires
block-stmts-requires t c = let g : _ = shorter c.in_ok-expect.ensures in (omega arith, tt)

pub block-returns : goal.block-returns
block-returns t c = ((pair (leaf c.in_ok-expect.field-0) (pair c.in_ok-body.ensures.0 (leaf c.in_ok-expect-2.field-0))), name-of (seq-ok c.in_ok-expect.ensures (seq-ok c.in_ok-body.ensures.1 c.in_ok-expect-2.ensures)), record { said = c.in_ok-body.ensures.2.said; begun = c.in_ok-body.ensures.2.begun })

pub stmt-returns-in_err-begin : goal.stmt-returns-in_err-begin
stmt-returns-in_err-begin t c = passed (ref lang.stmt) (_) c.from_residual.result c.from_residual.ensures.1 (memory)

pub stmt-returns-then-sees : goal.stmt-returns-then-sees
stmt-returns-then-sees t c =
    lift (tok k.Skip ▸ tok k.Semi) (ref lang.stmt) IsSkip (IsWith (stmt_of (places c.args.scope.now)) stmt_starts c.args.starts.now.items c.begin.new.starts.items) c.skip.result
    (λ e d. stop_name (stop_left_at (sym c.sees.ensures ∙ c.if-sees.true) (d)))
    (λ a x d e. ((left a), name-of (left_at (sym c.sees.ensures ∙ c.if-sees.true) (d)), record { said = e; begun = begun_first _ _ _ _ c.in_ok-begin.ensures (c.offset.ensures ∙ first_read d refl) }))
    c.skip.ensures

pub stmt-returns-then-sees-2 : goal.stmt-returns-then-sees-2
stmt-returns-then-sees-2 t c =
    lift (tok k.Tick ▸ ref lang.expr ▸ tok k.Semi) (ref lang.stmt) (IsTick (places c.args.scope.now)) (IsWith (stmt_of (places c.args.scope.now)) stmt_starts c.args.starts.now.items c.begin.new.starts.items) c.tick.result
    (λ e d. stop_name (stop_right_at (sym c.sees.ensures ∙ c.if-sees.false) (stop_left_at (sym c.sees-else-sees.ensures ∙ c.if-sees-2.true) (d))))
    (λ a x d e. ((right (left a)), name-of (right_at (sym c.sees.ensures ∙ c.if-sees.false) (left_at (sym c.sees-else-sees.ensures ∙ c.if-sees-2.true) (d))), record { said = e; begun = begun_first _ _ _ _ c.in_ok-begin.ensures (c.offset.ensures ∙ first_read d refl) }))
    c.tick.ensures

pub stmt-returns-then-sees-3 : goal.stmt-returns-then-sees-3
stmt-returns-then-sees-3 t c =
    lift (tok k.Assume ▸ tok k.LParen ▸ ref lang.cond ▸ tok k.RParen ▸ tok k.Semi) (ref lang.stmt) (IsAssume (places c.args.scope.now)) (IsWith (stmt_of (places c.args.scope.now)) stmt_starts c.args.starts.now.items c.begin.new.starts.items) c.assume.result
    (λ e d. stop_name (stop_right_at (sym c.sees.ensures ∙ c.if-sees.false) (stop_right_at (sym c.sees-else-sees.ensures ∙ c.if-sees-2.false) (stop_left_at (sym c.sees-else-sees-2.ensures ∙ c.if-sees-3.true) (d)))))
    (λ a x d e. ((right (right (left a))), name-of (right_at (sym c.sees.ensures ∙ c.if-sees.false) (right_at (sym c.sees-else-sees.ensures ∙ c.if-sees-2.false) (left_at (sym c.sees-else-sees-2.ensures ∙ c.if-sees-3.true) (d)))), record { said = e; begun = begun_first _ _ _ _ c.in_ok-begin.ensures (c.offset.ensures ∙ first_read d refl) }))
    c.assume.ensures

pub stmt-returns-then-sees-4 : goal.stmt-returns-then-sees-4
stmt-returns-then-sees-4 t c =
    lift (tok k.Name ▸ tok k.Assign ▸ ref lang.assigned ▸ tok k.Semi) (ref lang.stmt) (IsAssign (places c.args.scope.now)) (IsWith (stmt_of (places c.args.scope.now)) stmt_starts c.args.starts.now.items c.begin.new.starts.items) c.assign.result
    (λ e d. stop_name (stop_right_at (sym c.sees.ensures ∙ c.if-sees.false) (stop_right_at (sym c.sees-else-sees.ensures ∙ c.if-sees-2.false) (stop_right_at (sym c.sees-else-sees-2.ensures ∙ c.if-sees-3.false) (stop_left_at (sym c.sees-else-sees-3.ensures ∙ c.if-sees-4.true) (d))))))
    (λ a x d e. ((right (right (right (left a)))), name-of (right_at (sym c.sees.ensures ∙ c.if-sees.false) (right_at (sym c.sees-else-sees.ensures ∙ c.if-sees-2.false) (right_at (sym c.sees-else-sees-2.ensures ∙ c.if-sees-3.false) (left_at (sym c.sees-else-sees-3.ensures ∙ c.if-sees-4.true) (d))))), record { said = e; begun = begun_first _ _ _ _ c.in_ok-begin.ensures (c.offset.ensures ∙ first_read d refl) }))
    c.assign.ensures

pub stmt-returns-then-sees-5 : goal.stmt-returns-then-sees-5
stmt-returns-then-sees-5 t c =
    lift (tok k.If ▸ tok k.LParen ▸ ref lang.choice ▸ tok k.RParen ▸ ref lang.block ▸ opt (tok k.Else ▸ ref lang.block)) (ref lang.stmt) (IsWith (branch_of (places c.args.scope.now)) branch_starts c.begin.new.starts.items c.branch-alloc.new.starts.items) (IsWith (stmt_of (places c.args.scope.now)) stmt_starts c.args.starts.now.items c.branch-alloc.new.starts.items) c.branch-alloc.result
    (λ e d. stop_name (stop_right_at (sym c.sees.ensures ∙ c.if-sees.false) (stop_right_at (sym c.sees-else-sees.ensures ∙ c.if-sees-2.false) (stop_right_at (sym c.sees-else-sees-2.ensures ∙ c.if-sees-3.false) (stop_right_at (sym c.sees-else-sees-3.ensures ∙ c.if-sees-4.false) (stop_left_at (sym c.sees-else-sees-4.ensures ∙ c.if-sees-5.true) (d)))))))
    (λ a x d e. ((right (right (right (right (left a))))), name-of (right_at (sym c.sees.ensures ∙ c.if-sees.false) (right_at (sym c.sees-else-sees.ensures ∙ c.if-sees-2.false) (right_at (sym c.sees-else-sees-2.ensures ∙ c.if-sees-3.false) (right_at (sym c.sees-else-sees-3.ensures ∙ c.if-sees-4.false) (left_at (sym c.sees-else-sees-4.ensures ∙ c.if-sees-5.true) (d)))))), record { said = e.said; begun = begun_then _ c.begin.new.starts.items _ _ _ _ c.in_ok-begin.ensures e.begun (c.offset.ensures ∙ first_read d refl) }))
    c.branch-alloc.ensures

pub stmt-returns-else-sees-5 : goal.stmt-returns-else-sees-5
stmt-returns-else-sees-5 t c =
    lift (tok k.While ▸ tok k.LParen ▸ ref lang.choice ▸ tok k.RParen ▸ ref lang.block) (ref lang.stmt) (IsWith (loop_of (places c.args.scope.now)) loop_starts c.begin.new.starts.items c.repeat.new.starts.items) (IsWith (stmt_of (places c.args.scope.now)) stmt_starts c.args.starts.now.items c.repeat.new.starts.items) c.repeat.result
    (λ e d. stop_name (stop_right_at (sym c.sees.ensures ∙ c.if-sees.false) (stop_right_at (sym c.sees-else-sees.ensures ∙ c.if-sees-2.false) (stop_right_at (sym c.sees-else-sees-2.ensures ∙ c.if-sees-3.false) (stop_right_at (sym c.sees-else-sees-3.ensures ∙ c.if-sees-4.false) (stop_right_at (sym c.sees-else-sees-4.ensures ∙ c.if-sees-5.false) (d)))))))
    (λ a x d e. ((right (right (right (right (right a))))), name-of (right_at (sym c.sees.ensures ∙ c.if-sees.false) (right_at (sym c.sees-else-sees.ensures ∙ c.if-sees-2.false) (right_at (sym c.sees-else-sees-2.ensures ∙ c.if-sees-3.false) (right_at (sym c.sees-else-sees-3.ensures ∙ c.if-sees-4.false) (right_at (sym c.sees-else-sees-4.ensures ∙ c.if-sees-5.false) (d)))))), record { said = e.said; begun = begun_then _ c.begin.new.starts.items _ _ _ _ c.in_ok-begin.ensures e.begun (c.offset.ensures ∙ first_read d refl) }))
    c.repeat.ensures

pub stmt-branch-alloc-requires : goal.stmt-branch-alloc-requires
stmt-branch-alloc-requires t c = (omega arith, tt)

pub stmt-repeat-requires : goal.stmt-repeat-requires
stmt-repeat-requires t c = (omega arith, tt)

pub stmts-stmts-init : goal.stmts-stmts-init
stmts-stmts-init t c = record { within = omega arith; going = subst (λ v. Going language_reader (ref lang.stmt) (both_of (places c.args.scope.now)) c.args.cursor.now.rest.now c.args.cursor.now.rest.now ([], c.args.starts.now.items) (v, c.args.starts.now.items)) (sym c.new-found.ensures) (going_begin _ _) }

pub stmts-returns-in_err-one : goal.stmts-returns-in_err-one
stmts-returns-in_err-one t c = passed (many (ref lang.stmt)) (_) c.from_residual.result c.from_residual.ensures.1 (going_stop c.stmts.invariant.going (sym c.sees_stmt.ensures ∙ c.stmts-test.true) c.in_err-one.ensures)

pub stmts-returns-in_err-push : goal.stmts-returns-in_err-push
stmts-returns-in_err-push t c = passed (many (ref lang.stmt)) (_) c.from_residual-in_err-push.result c.from_residual-in_err-push.ensures.1 (memory)

pub stmts-stmt-requires : goal.stmts-stmt-requires
stmts-stmt-requires t c = let h : _ = c.stmts.invariant.within in (omega arith, tt)

pub stmts-stmts-smaller : goal.stmts-stmts-smaller
stmts-stmts-smaller t c = consumes language_ahead c.in_ok-one.ensures.1 refl

pub stmts-stmts-preserved : goal.stmts-stmts-preserved
stmts-stmts-preserved t c =
    let g : _ = no_longer c.in_ok-one.ensures.1 in
    let i : _ = c.stmts.invariant.within in
    record {
      within = omega arith;
      going = going_on c.in_ok-one.ensures.0 c.stmts.invariant.going (sym c.sees_stmt.ensures ∙ c.stmts-test.true) c.in_ok-one.ensures.1
          (λ b. both_more (places c.args.scope.now) c.in_ok-one.ensures.0 b c.stmts.found _ c.stmts.starts.items _ c.in_ok-one.one c.in_ok-one.ensures.2.said c.in_ok-push.ensures.ok c.in_ok-one.ensures.2.begun);
    }

pub stmts-returns : goal.stmts-returns
stmts-returns t c =
    let w : _ = going_end c.stmts.invariant.going (sym c.sees_stmt.ensures ∙ c.stmts-test.false) in
    (w.0, w.1, record { said = ap (λ v. v.0) w.2 ∙ append-nil c.stmts.found; begun = sym (append-nil c.stmts.starts.items) ∙ sym (ap (λ v. v.1) w.2) })
