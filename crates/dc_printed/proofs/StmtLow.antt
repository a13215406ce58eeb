-- Whatever way statements are derived, their tokens have at least the brackets that they need.
use Rattle.std.proofs.Common.{◌≡◌, ℕ, suc, List, [], ◌∷◌, ◌++◌, Option, Some, None, sym, ap, subst, append_assoc, append-nil}
use Rattle.dc_tokens.specs.declared.token.TokenKind.TheVariants as k
use Rattle.dc_tokens.specs.declared.token.Token.{Token}
use Rattle.dc_grammar.specs.Grammar.{ref, seq, many, tok, opt, Tree, Derives, token, nothing, name, both, first, second, no_more, one_more}
use Rattle.dc_grammar.specs.Language.{language, stmt, block, assigned, choice}
use Rattle.dc_grammar.proofs.AllKinds.{one_kind}
use Rattle.dc_syntax.specs.declared.tree.Cond.{Cond}
use Rattle.dc_syntax.specs.declared.tree.Stmt.{Stmt}
use Rattle.dc_descent.specs.Trees.{expr_of, cond_of}
use Rattle.dc_descent.specs.Statements.{assigned_of, choice_of, branch_by, loop_by, stmt_of, stmts_of, block_of, else_of}
use Rattle.dc_printed.specs.Brackets.{bracket_of}
use Rattle.dc_printed.proofs.Measures.{Measure}
use Rattle.dc_printed.proofs.Needs.{cond_part}
use Rattle.dc_printed.proofs.StmtNeeds.{need_of, need_all, need-Skip, need-Assign, need-AnyOf, need-Between, need-Tick, need-Assume, need-If, need-IfAny, need-While, need-WhileAny}
use Rattle.dc_printed.proofs.Low.{AtLeast, less, at_none, at_join, at_token, at_after, at_before, at_round, at_brace, low_expr, low_cond}

module _ (M : Measure) (p : Token → ℕ) where
  as_need : {us : List Token} {m n : ℕ} → m ≡ n → AtLeast M us n → AtLeast M us m
  as_need {us} e h = subst (AtLeast M us) (sym e) h

  as_tokens : {us vs : List Token} {n : ℕ} → us ≡ vs → AtLeast M us n → AtLeast M vs n
  as_tokens {n = n} e h = subst (λ v. AtLeast M v n) e h

  -- what a choice needs
  abbrev choice_need : Option Cond → ℕ
  choice_need (Some c) = (cond_part M c).need
  choice_need None = 0

  branch_need : (o : Option Cond) (A B : List Stmt) → need_of M (branch_by o A B) ≡ M.c (suc (choice_need o)) (M.c (M.b (need_all M A)) (M.b (need_all M B)))
  branch_need (Some c) A B = need-If M c A B
  branch_need None A B = need-IfAny M A B

  loop_need : (o : Option Cond) (A : List Stmt) → need_of M (loop_by o A) ≡ M.c (suc (choice_need o)) (M.b (need_all M A))
  loop_need (Some c) A = need-While M c A
  loop_need None A = need-WhileAny M A

  low_choice : {us : List Token} {a : Tree Token} → Derives language (ref choice) us a → AtLeast M us (choice_need (choice_of p a))
  low_choice (name (first (token {t = t} h))) = at_token M t (ap bracket_of (one_kind k.Star t.kind h))
  low_choice (name (second d)) = low_cond M p d

  low_assigned : {us : List Token} {a : Tree Token} (i : ℕ) → Derives language (ref assigned) us a → AtLeast M us (need_of M (assigned_of p i a))
  low_assigned i (name (first {a = x} d)) = as_need (need-Assign M i (expr_of p x)) (low_expr M p d)
  low_assigned i (name (second (both (token {t = t} h) (second nothing)))) = as_need (need-AnyOf M i) (at_token M t (ap bracket_of (one_kind k.Any t.kind h)))
  low_assigned i (name (second (both (token {t = t} h) (first (both (token {t = o} e) (both {u = u} {a = x} d (both (token {t = m} f) (both {u = v} {a = y} g (token {t = c} q))))))))) =
      as_need (need-Between M i (expr_of p x) (expr_of p y))
      (at_after M t (ap bracket_of (one_kind k.Any t.kind h))
      (as_tokens (ap (λ w. o ∷ w) (append_assoc u (m ∷ v) (c ∷ [])))
      (at_round M o c (one_kind k.LParen o.kind e) (one_kind k.RParen c.kind q) (at_join M (low_expr M p d) (at_after M m (ap bracket_of (one_kind k.Comma m.kind f)) (low_expr M p g))))))

  mutual
    pub low_stmt : {us : List Token} {a : Tree Token} → Derives language (ref stmt) us a → AtLeast M us (need_of M (stmt_of p a))
    low_stmt (name (first (both (token {t = t} h) (token {t = m} g)))) =
        as_need (need-Skip M) (at_after M t (ap bracket_of (one_kind k.Skip t.kind h)) (at_token M m (ap bracket_of (one_kind k.Semi m.kind g))))
    low_stmt (name (second (first (both (token {t = t} h) (both {a = x} d (token {t = m} g)))))) =
        as_need (need-Tick M (expr_of p x)) (at_after M t (ap bracket_of (one_kind k.Tick t.kind h)) (at_before M m (ap bracket_of (one_kind k.Semi m.kind g)) (low_expr M p d)))
    low_stmt (name (second (second (first (both (token {t = t} h) (both (token {t = o} e) (both {u = u} {a = x} d (both (token {t = c} f) (token {t = m} g))))))))) =
        as_need (need-Assume M (cond_of p x))
        (at_after M t (ap bracket_of (one_kind k.Assume t.kind h))
        (as_tokens (ap (λ w. o ∷ w) (append_assoc u (c ∷ []) (m ∷ [])))
        (at_before M m (ap bracket_of (one_kind k.Semi m.kind g)) (at_round M o c (one_kind k.LParen o.kind e) (one_kind k.RParen c.kind f) (low_cond M p d)))))
    low_stmt (name (second (second (second (first (both (token {t = t} h) (both (token {t = o} e) (both d (token {t = m} g))))))))) =
        at_after M t (ap bracket_of (one_kind k.Name t.kind h)) (at_after M o (ap bracket_of (one_kind k.Assign o.kind e)) (at_before M m (ap bracket_of (one_kind k.Semi m.kind g)) (low_assigned (p t) d)))
    low_stmt (name (second (second (second (second (first (both (token {t = t} h) (both (token {t = o} e) (both {u = u} {a = x} d (both (token {t = c} f) (both {u = v} {v = w} {a = y} {b = z} g q))))))))))) =
        as_need (branch_need (choice_of p x) (block_of p y) (else_of p z))
        (at_after M t (ap bracket_of (one_kind k.If t.kind h))
        (as_tokens (ap (λ n. o ∷ n) (append_assoc u (c ∷ []) (v ++ w)))
        (at_join M (at_round M o c (one_kind k.LParen o.kind e) (one_kind k.RParen c.kind f) (low_choice d)) (low_arms (need_all M (block_of p y)) (low_block g) q))))
    low_stmt (name (second (second (second (second (second (both (token {t = t} h) (both (token {t = o} e) (both {u = u} {a = x} d (both {v = v} {b = y} (token {t = c} f) g)))))))))) =
        as_need (loop_need (choice_of p x) (block_of p y))
        (at_after M t (ap bracket_of (one_kind k.While t.kind h))
        (as_tokens (ap (λ n. o ∷ n) (append_assoc u (c ∷ []) v))
        (at_join M (at_round M o c (one_kind k.LParen o.kind e) (one_kind k.RParen c.kind f) (low_choice d)) (low_block g))))

    -- both arms of a branch; a missing second one needs no more than the first has
    low_arms : {us vs : List Token} {b : Tree Token} (n : ℕ) → AtLeast M us (M.b n) → Derives language (opt (seq (tok k.Else) (ref block))) vs b
        → AtLeast M (us ++ vs) (M.c (M.b n) (M.b (need_all M (else_of p b))))
    low_arms n h (first (both (token {t = t} e) q)) = at_join M h (at_after M t (ap bracket_of (one_kind k.Else t.kind e)) (low_block q))
    low_arms {us} n h (second nothing) = as_tokens (sym (append-nil us)) (less M (let f = M.b_empty in f n) h)

    pub low_block : {us : List Token} {a : Tree Token} → Derives language (ref block) us a → AtLeast M us (M.b (need_all M (block_of p a)))
    low_block (name (both (token {t = o} h) (both d (token {t = c} g)))) = at_brace M o c (one_kind k.LBrace o.kind h) (one_kind k.RBrace c.kind g) (low_stmts d)

    pub low_stmts : {us : List Token} {a : Tree Token} → Derives language (many (ref stmt)) us a → AtLeast M us (need_all M (stmts_of p a))
    low_stmts no_more = at_none M
    low_stmts (one_more d g) = at_join M (low_stmt d) (low_stmts g)
