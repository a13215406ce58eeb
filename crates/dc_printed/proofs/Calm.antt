-- Where no expression and no whole condition has more than 64 operators, no front of the tokens has them in a row.
use Rattle.std.proofs.Common.{◌≡◌, ℕ, zero, suc, ◌+◌, ◌≤◌, Bool, true, false, ◌&&◌, ◌||◌, List, [], ◌∷◌, ◌++◌, take, Option, Some, None, refl, sym, ap, subst, ◌∙◌, arith, append_assoc}
use Rattle.std.specs.Prelude.{max, fold, if◌then◌else◌}
use Rattle.std.specs.List.{AllByRecursion}
use Rattle.std.proofs.lemmas.Bool.{leb-true}
use Rattle.dc_tokens.specs.declared.token.TokenKind.{TokenKind}
use Rattle.dc_tokens.specs.declared.token.TokenKind.TheVariants as k
use Rattle.dc_tokens.specs.declared.token.Token.{Token}
use Rattle.dc_tokens.proofs.Front.{and_left, and_right}
use Rattle.dc_grammar.specs.Kinds.{is}
use Rattle.dc_grammar.specs.Grammar.{ref, seq, many, tok, opt, has, Tree, Derives, token, nothing, name, both, first, second, no_more, one_more}
use Rattle.dc_grammar.specs.Depth.{operands, operators_with}
use Rattle.dc_grammar.specs.Language.{language, source, names, expr, cond, stmt, block, assigned, choice}
use Rattle.dc_grammar.proofs.AllKinds.{one_kind}
use Rattle.dc_grammar.proofs.Standing.{run-append}
use Rattle.dc_syntax.specs.declared.tree.Cond.{Cond}
use Rattle.dc_syntax.specs.declared.tree.Stmt.{Stmt}
use Rattle.dc_descent.specs.Trees.{expr_of, cond_of}
use Rattle.dc_descent.specs.Statements.{assigned_of, choice_of, branch_by, loop_by, stmt_of, stmts_of, block_of, else_of}
use Rattle.dc_descent.specs.Sources.{parts_of}
use Rattle.dc_program.specs.Limits.{is_limited, cond_is_limited, literals_fit, cond_literals_fit, limits_step, stmt_is_limited, all_limited}
use Rattle.dc_program.specs.Limits as limits
use Rattle.dc_parse.proofs.Counted.{is_operator, is_inside, each_both, Inside, one_if, ops, ops_both}
use Rattle.dc_parse.proofs.Facts.{expr_facts, cond_facts}
use Rattle.dc_parse.proofs.Folds.{at_assign, at_between, at_tick, at_assume, at_if, at_if_any, at_while, at_while_any}

-- the operators in a row after tokens, and the most of them after a front
abbrev run : ℕ → List Token → ℕ
run n ts = fold operators_with n ts

abbrev pub most : ℕ → List Token → ℕ
most n [] = n
most n (t ∷ ts) = max n (most (operators_with n t) ts)

n-≤-most : (n : ℕ) (ts : List Token) → n ≤ most n ts
n-≤-most n [] = omega arith
n-≤-most n (t ∷ ts) = omega arith

most-append : (n : ℕ) (us vs : List Token) → most n (us ++ vs) ≡ max (most n us) (most (run n us) vs)
most-append n [] vs = let h = n-≤-most n vs in omega arith
most-append n (t ∷ us) vs = let h = most-append (operators_with n t) us vs in omega arith

pub front_most : (n : ℕ) (ts : List Token) (j : ℕ) → run n (take j ts) ≤ most n ts
front_most n ts zero = n-≤-most n ts
front_most n [] (suc j) = omega arith
front_most n (t ∷ ts) (suc j) = let h = front_most (operators_with n t) ts j in omega arith

-- ---- one token

inside_token : (n : ℕ) (t : Token) → Inside t → operators_with n t ≡ n + one_if (is_operator t.kind)
inside_token n t h = go (is_operator t.kind) (has is operands t.kind) h
  where
    go : (a b : Bool) → a || b ≡ true → (if a then n + 1 else (if b then n else 0)) ≡ n + one_if a
    go true b h = refl
    go false true h = omega arith
    go false false h = absurd cc

resets : (j : TokenKind) → Type 0
resets j = is_inside j ≡ false

reset_token : (n : ℕ) (t : Token) → is_inside t.kind ≡ false → operators_with n t ≡ 0
reset_token n t h = go (is_operator t.kind) (has is operands t.kind) h
  where
    go : (a b : Bool) → a || b ≡ false → (if a then n + 1 else (if b then n else 0)) ≡ 0
    go true b h = absurd cc
    go false true h = absurd cc
    go false false h = refl

-- ---- lists

-- from none in a row to none, with at most 64 between
pub record Calm (ts : List Token) : Type 0 where
  pub back : run 0 ts ≡ 0
  pub low : most 0 ts ≤ 64

-- from any number up to 64
record Falls (ts : List Token) : Type 0 where
  back : (n : ℕ) → n ≤ 64 → run n ts ≡ 0
  low : (n : ℕ) → n ≤ 64 → most n ts ≤ 64

calm-nil : Calm []
calm-nil = record { back = refl; low = omega arith }

calm-append : {us vs : List Token} → Calm us → Calm vs → Calm (us ++ vs)
calm-append {us} {vs} h g = record {
  back = run-append 0 us vs ∙ (ap (λ n. run n vs) h.back ∙ g.back);
  low = (let m = most-append 0 us vs in let e : most (run 0 us) vs ≡ most 0 vs = ap (λ n. most n vs) h.back in let a = h.low in let b = g.low in omega arith);
}

falls-append : {us vs : List Token} → Falls us → Calm vs → Falls (us ++ vs)
falls-append {us} {vs} h g = record {
  back = λ n l. run-append n us vs ∙ (ap (λ m. run m vs) (let f = h.back in f n l) ∙ g.back);
  low = λ n l. (let m = most-append n us vs in let e : most (run n us) vs ≡ most 0 vs = ap (λ m. most m vs) (let f = h.back in f n l) in let f = h.low in let a = f n l in let b = g.low in omega arith);
}

calm : {us : List Token} → Falls us → Calm us
calm h = record { back = (let f = h.back in f 0 (omega arith)); low = (let f = h.low in f 0 (omega arith)) }

falls-cons : {us : List Token} (t : Token) → is_inside t.kind ≡ false → Calm us → Falls (t ∷ us)
falls-cons {us} t h g = record {
  back = λ n l. ap (λ m. run m us) (reset_token n t h) ∙ g.back;
  low = λ n l. (let e : most (operators_with n t) us ≡ most 0 us = ap (λ m. most m us) (reset_token n t h) in let a = g.low in omega arith);
}

-- a token that is no operator
calm-cons : {us : List Token} (t : Token) → is_operator t.kind ≡ false → Calm us → Calm (t ∷ us)
calm-cons {us} t h g = record {
  back = ap (λ m. run m us) none_here ∙ g.back;
  low = (let e : most (operators_with 0 t) us ≡ most 0 us = ap (λ m. most m us) none_here in let a = g.low in omega arith);
}
  where
    go : (a b : Bool) → a ≡ false → (if a then 0 + 1 else (if b then 0 else 0)) ≡ 0
    go true b e = absurd cc
    go false true e = refl
    go false false e = refl

    none_here : operators_with 0 t ≡ 0
    none_here = go (is_operator t.kind) (has is operands t.kind) h

inside_run : (n : ℕ) (us : List Token) → AllByRecursion Inside us → (run n us ≡ n + ops us) × (most n us ≤ n + ops us)
inside_run n [] h = (omega arith, omega arith)
inside_run n (t ∷ us) h =
    let e = inside_token n t h.0 in
    let g = inside_run (operators_with n t) us h.1 in
    (omega (arith, g.0), omega (arith, g.1))

-- an expression or a condition, and then what resets
within : (us : List Token) {vs : List Token} → AllByRecursion Inside us → ops us ≤ 64 → Falls vs → Calm (us ++ vs)
within us {vs} h l g =
    let r = inside_run 0 us h in
    let q : run 0 us ≤ 64 = omega (arith, r.0) in
    record {
      back = run-append 0 us vs ∙ (let f = g.back in f (run 0 us) q);
      low = (let m = most-append 0 us vs in let f = g.low in let a = f (run 0 us) q in omega (arith, r.1));
    }

-- ---- kinds

kind_resets : (j : TokenKind) (t : Token) → has is (j ∷ []) t.kind ≡ true → is_inside j ≡ false → is_inside t.kind ≡ false
kind_resets j t h e = ap is_inside (one_kind j t.kind h) ∙ e

kind_stands : (j : TokenKind) (t : Token) → has is (j ∷ []) t.kind ≡ true → is_operator j ≡ false → is_operator t.kind ≡ false
kind_stands j t h e = ap is_operator (one_kind j t.kind h) ∙ e

kind_inside : (j : TokenKind) (t : Token) → has is (j ∷ []) t.kind ≡ true → is_inside j ≡ true → Inside t
kind_inside j t h e = ap is_inside (one_kind j t.kind h) ∙ e

-- brackets around tokens add no operator
around : (o c : Token) (us : List Token) → is_operator o.kind ≡ false → is_operator c.kind ≡ false → ops (o ∷ (us ++ c ∷ [])) ≡ ops us
around o c us h g =
    let a = ops_both us (c ∷ []) in
    let b : one_if (is_operator o.kind) ≡ 0 = ap one_if h in
    let d : one_if (is_operator c.kind) ≡ 0 = ap one_if g in
    omega arith

around_inside : (o c : Token) (us : List Token) → Inside o → Inside c → AllByRecursion Inside us → AllByRecursion Inside (o ∷ (us ++ c ∷ []))
around_inside o c us h g e = (h, each_both Inside us (c ∷ []) e (g, tt))

module _ (p : Token → ℕ) where
  -- an expression within its limit
  few_expr : {us : List Token} {a : Tree Token} → Derives language (ref expr) us a → is_limited (expr_of p a) ≡ true → ops us ≤ 64
  few_expr {us} {a} d h =
      let f = expr_facts 0 p d in
      let e = f.counts in
      let l = leb-true (limits.operators (expr_of p a)) 64 (and_right (literals_fit (expr_of p a)) _ h) in
      omega arith

  inside_expr : {us : List Token} {a : Tree Token} → Derives language (ref expr) us a → AllByRecursion Inside us
  inside_expr d = let f = expr_facts 0 p d in f.inside

  few_cond : {us : List Token} {a : Tree Token} → Derives language (ref cond) us a → cond_is_limited (cond_of p a) ≡ true → ops us ≤ 64
  few_cond {us} {a} d h =
      let f = cond_facts 0 p d in
      let e = f.counts in
      let l = leb-true (limits.cond_operators (cond_of p a)) 64 (and_right (cond_literals_fit (cond_of p a)) _ h) in
      omega arith

  inside_cond : {us : List Token} {a : Tree Token} → Derives language (ref cond) us a → AllByRecursion Inside us
  inside_cond d = let f = cond_facts 0 p d in f.inside

  abbrev LimitedChoice : Option Cond → Type 0
  LimitedChoice (Some c) = cond_is_limited c ≡ true
  LimitedChoice None = Unit {0}

  few_choice : {us : List Token} {a : Tree Token} → Derives language (ref choice) us a → LimitedChoice (choice_of p a) → ops us ≤ 64
  few_choice (name (first (token {t = t} h))) l = one (is_operator t.kind)
    where
      one : (b : Bool) → one_if b + 0 ≤ 64
      one true = omega arith
      one false = omega arith
  few_choice (name (second d)) l = few_cond d l

  inside_choice : {us : List Token} {a : Tree Token} → Derives language (ref choice) us a → AllByRecursion Inside us
  inside_choice (name (first (token {t = t} h))) = (kind_inside k.Star t h refl, tt)
  inside_choice (name (second d)) = inside_cond d

  -- what is assigned, and then what resets
  calm_assigned : {us vs : List Token} {a : Tree Token} (i : ℕ) → Derives language (ref assigned) us a → stmt_is_limited (assigned_of p i a) ≡ true → Falls vs → Calm (us ++ vs)
  calm_assigned i (name (first {a = x} d)) l f = within _ (inside_expr d) (few_expr d (and_left _ _ (sym (at_assign Bool limits_step i (expr_of p x)) ∙ l))) f
  calm_assigned i (name (second (both (token {t = t} h) (second nothing)))) l f = calm-cons t (kind_stands k.Any t h refl) (calm f)
  calm_assigned {vs = vs} i (name (second (both (token {t = t} h) (first (both (token {t = o} e) (both {u = u} {a = x} d (both (token {t = m} g) (both {u = v} {a = y} q (token {t = c} r))))))))) l f =
      let z : (is_limited (expr_of p x) && is_limited (expr_of p y)) ≡ true = and_left _ _ (sym (at_between Bool limits_step i (expr_of p x) (expr_of p y)) ∙ l) in
      calm-cons t (kind_stands k.Any t h refl)
      (calm-cons o (kind_stands k.LParen o e refl)
      (subst Calm (sym (append_assoc u (m ∷ (v ++ c ∷ [])) vs))
      (within _ (inside_expr d) (few_expr d (and_left _ _ z))
      (falls-cons m (kind_resets k.Comma m g refl)
      (within (v ++ c ∷ []) (each_both Inside v (c ∷ []) (inside_expr q) (kind_inside k.RParen c r refl, tt)) (let a = ops_both v (c ∷ []) in let b : one_if (is_operator c.kind) ≡ 0 = ap one_if (kind_stands k.RParen c r refl) in let w = few_expr q (and_right _ _ z) in omega arith) f)))))

  limited_branch : (o : Option Cond) (A B : List Stmt) → stmt_is_limited (branch_by o A B) ≡ true → LimitedChoice o × ((all_limited A ≡ true) × (all_limited B ≡ true))
  limited_branch (Some c) A B h = let e = sym (at_if Bool limits_step c A B) ∙ h in let g = and_right _ _ e in (and_left _ _ e, (and_left _ _ g, and_right _ _ g))
  limited_branch None A B h = let e = and_right true _ (sym (at_if_any Bool limits_step A B) ∙ h) in (tt, (and_left _ _ e, and_right _ _ e))

  limited_loop : (o : Option Cond) (A : List Stmt) → stmt_is_limited (loop_by o A) ≡ true → LimitedChoice o × (all_limited A ≡ true)
  limited_loop (Some c) A h = let e = sym (at_while Bool limits_step c A) ∙ h in (and_left _ _ e, and_right _ _ e)
  limited_loop None A h = (tt, and_right true _ (sym (at_while_any Bool limits_step A) ∙ h))

  mutual
    calm_stmt : {us : List Token} {a : Tree Token} → Derives language (ref stmt) us a → stmt_is_limited (stmt_of p a) ≡ true → Calm us
    calm_stmt (name (first (both (token {t = t} h) (token {t = m} g)))) l = calm (falls-cons t (kind_resets k.Skip t h refl) (calm (falls-cons m (kind_resets k.Semi m g refl) calm-nil)))
    calm_stmt (name (second (first (both (token {t = t} h) (both {a = x} d (token {t = m} g)))))) l =
        calm (falls-cons t (kind_resets k.Tick t h refl) (within _ (inside_expr d) (few_expr d (and_left _ _ (sym (at_tick Bool limits_step (expr_of p x)) ∙ l))) (falls-cons m (kind_resets k.Semi m g refl) calm-nil)))
    calm_stmt (name (second (second (first (both (token {t = t} h) (both (token {t = o} e) (both {u = u} {a = x} d (both (token {t = c} f) (token {t = m} g))))))))) l =
        calm (falls-cons t (kind_resets k.Assume t h refl)
        (subst Calm (ap (λ w. o ∷ w) (append_assoc u (c ∷ []) (m ∷ [])))
        (within (o ∷ (u ++ c ∷ [])) (around_inside o c u (kind_inside k.LParen o e refl) (kind_inside k.RParen c f refl) (inside_cond d))
        (let a = around o c u (kind_stands k.LParen o e refl) (kind_stands k.RParen c f refl) in let w = few_cond d (and_left _ _ (sym (at_assume Bool limits_step (cond_of p x)) ∙ l)) in omega arith)
        (falls-cons m (kind_resets k.Semi m g refl) calm-nil))))
    calm_stmt (name (second (second (second (first (both (token {t = t} h) (both (token {t = o} e) (both d (token {t = m} g))))))))) l =
        calm-cons t (kind_stands k.Name t h refl) (calm (falls-cons o (kind_resets k.Assign o e refl) (calm_assigned (p t) d l (falls-cons m (kind_resets k.Semi m g refl) calm-nil))))
    calm_stmt (name (second (second (second (second (first (both (token {t = t} h) (both (token {t = o} e) (both {u = u} {a = x} d (both (token {t = c} f) (both {u = v} {v = w} {a = y} {b = z} g q))))))))))) l =
        let b = limited_branch (choice_of p x) (block_of p y) (else_of p z) l in
        calm (falls-cons t (kind_resets k.If t h refl)
        (subst Calm (ap (λ n. o ∷ n) (append_assoc u (c ∷ []) (v ++ w)))
        (within (o ∷ (u ++ c ∷ [])) (around_inside o c u (kind_inside k.LParen o e refl) (kind_inside k.RParen c f refl) (inside_choice d))
        (let a = around o c u (kind_stands k.LParen o e refl) (kind_stands k.RParen c f refl) in let w = few_choice d b.0 in omega arith)
        (falls-append (falls_block g b.1.0) (calm_else q b.1.1)))))
    calm_stmt (name (second (second (second (second (second (both (token {t = t} h) (both (token {t = o} e) (both {u = u} {a = x} d (both {v = v} {b = y} (token {t = c} f) g)))))))))) l =
        let b = limited_loop (choice_of p x) (block_of p y) l in
        calm (falls-cons t (kind_resets k.While t h refl)
        (subst Calm (ap (λ n. o ∷ n) (append_assoc u (c ∷ []) v))
        (within (o ∷ (u ++ c ∷ [])) (around_inside o c u (kind_inside k.LParen o e refl) (kind_inside k.RParen c f refl) (inside_choice d))
        (let a = around o c u (kind_stands k.LParen o e refl) (kind_stands k.RParen c f refl) in let w = few_choice d b.0 in omega arith)
        (falls_block g b.1))))

    falls_block : {us : List Token} {a : Tree Token} → Derives language (ref block) us a → all_limited (block_of p a) ≡ true → Falls us
    falls_block (name (both (token {t = o} h) (both d (token {t = c} g)))) l = falls-cons o (kind_resets k.LBrace o h refl) (calm-append (calm_stmts d l) (calm (falls-cons c (kind_resets k.RBrace c g refl) calm-nil)))

    calm_else : {us : List Token} {a : Tree Token} → Derives language (opt (seq (tok k.Else) (ref block))) us a → all_limited (else_of p a) ≡ true → Calm us
    calm_else (first (both (token {t = t} h) d)) l = calm (falls-cons t (kind_resets k.Else t h refl) (calm (falls_block d l)))
    calm_else (second nothing) l = calm-nil

    pub calm_stmts : {us : List Token} {a : Tree Token} → Derives language (many (ref stmt)) us a → all_limited (stmts_of p a) ≡ true → Calm us
    calm_stmts no_more l = calm-nil
    calm_stmts (one_more d g) l = calm-append (calm_stmt d (and_left _ _ l)) (calm_stmts g (and_right _ _ l))

  calm_more_names : {us : List Token} {a : Tree Token} → Derives language (many (seq (tok k.Comma) (tok k.Name))) us a → Calm us
  calm_more_names no_more = calm-nil
  calm_more_names (one_more (both (token {t = t} h) (token {t = n} g)) d) = calm-cons t (kind_stands k.Comma t h refl) (calm-cons n (kind_stands k.Name n g refl) (calm_more_names d))

  calm_names : {us : List Token} {a : Tree Token} → Derives language (ref names) us a → Calm us
  calm_names (name (both (token {t = t} h) d)) = calm-cons t (kind_stands k.Name t h refl) (calm_more_names d)

  calm_params : {us : List Token} {a : Tree Token} → Derives language (opt (ref names)) us a → Calm us
  calm_params (first d) = calm_names d
  calm_params (second nothing) = calm-nil

  calm_locals : {us : List Token} {a : Tree Token} → Derives language (opt (seq (tok k.Var) (seq (ref names) (tok k.Semi)))) us a → Calm us
  calm_locals (first (both (token {t = t} h) (both d (token {t = m} g)))) = calm-cons t (kind_stands k.Var t h refl) (calm-append (calm_names d) (calm-cons m (kind_stands k.Semi m g refl) calm-nil))
  calm_locals (second nothing) = calm-nil

  pub calm_source : {us : List Token} {a : Tree Token} → Derives language (ref source) us a → all_limited (stmts_of p (parts_of a).body) ≡ true → Calm us
  calm_source (name (both (token {t = t} h) (both (token {t = n} e) (both (token {t = o} f) (both d (both (token {t = c} g) (both (token {t = b} i) (both dl (both ds (token {t = z} j)))))))))) l =
      calm-cons t (kind_stands k.Proc t h refl) (calm-cons n (kind_stands k.Name n e refl) (calm-cons o (kind_stands k.LParen o f refl)
      (calm-append (calm_params d) (calm-cons c (kind_stands k.RParen c g refl) (calm-cons b (kind_stands k.LBrace b i refl)
      (calm-append (calm_locals dl) (calm-append (calm_stmts ds l) (calm-cons z (kind_stands k.RBrace z j refl) calm-nil))))))))
