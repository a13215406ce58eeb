-- Each statement has the offset at which it begins: a derivation says as many offsets as statements.
use Rattle.std.proofs.Common.{◌≡◌, ℕ, suc, ◌+◌, List, [], ◌∷◌, ◌++◌, length, refl, arith, length-append, Some, None}
use Rattle.std.specs.declared.option.Option.{Option}
use Rattle.dc_tokens.specs.declared.token.TokenKind.TheVariants as k
use Rattle.dc_tokens.specs.declared.token.Token.{Token}
use Rattle.dc_grammar.specs.Grammar.{tok, ref, many, opt, ◌▸◌, Tree, left, right, pair, Derives, token, nothing, name, both, first, second, no_more, one_more}
use Rattle.dc_grammar.specs.Language as lang
use Rattle.dc_grammar.specs.Language.{language}
use Rattle.dc_syntax.specs.declared.tree.Expr.{Expr}
use Rattle.dc_syntax.specs.declared.tree.Cond.{Cond}
use Rattle.dc_syntax.specs.declared.tree.Stmt.{Stmt, Stmt-F, out-Stmt}
use Rattle.dc_syntax.specs.declared.tree.Stmt.TheVariants as v
use Rattle.dc_syntax.specs.declared.tree.Stmt.TheOpen as G
use Rattle.dc_affine.specs.Whole.{statement_fault}
use Rattle.dc_descent.specs.declared.parts.Range.{Range}
use Rattle.dc_descent.specs.Trees.{expr_of, cond_of}
use Rattle.dc_descent.specs.Statements.{range_of, any_by, assigned_of, choice_of, branch_by, loop_by, stmt_of, stmts_of, block_of, else_of, starts_of, inner_starts, block_starts, else_starts}
use Rattle.dc_descent.specs.Sources.{parts_of}
use Rattle.dc_parse.specs.Forms.{faults_in, all_faults}
use Rattle.dc_parse.proofs.Layers.{inside, faults_at, counted, count_If, count_IfAny, count_While, count_WhileAny}

module _ (n : ℕ) where
  -- a statement without others inside
  flat : (S : Stmt) (L : Stmt-F Stmt) → out-Stmt S ≡ L → inside n L ≡ [] → length (faults_in n S) ≡ 1
  flat S L e h = omega (arith, counted (statement_fault n (out-Stmt S)) (inside n L) (faults_in n S) (faults_at n S L e), none (inside n L) h)
    where
      none : {A : Type 0} (xs : List A) → xs ≡ [] → length xs ≡ 0
      none [] h = refl
      none (x ∷ xs) h = absurd cc

  flat_any_of : (k : ℕ) → length (faults_in n (v.AnyOf k)) ≡ 1
  flat_any_of k = flat (v.AnyOf k) (G.AnyOf k) (v.outs-AnyOf k) refl

  flat_any : (k : ℕ) (r : Option Range) → length (faults_in n (any_by k r)) ≡ 1
  flat_any k (Some r) = flat (v.Between k r.low r.high) (G.Between k r.low r.high) (v.outs-Between k r.low r.high) refl
  flat_any k None = flat_any_of k

  flat_assigned : (p : Token → ℕ) (k : ℕ) (a : Tree Token) → length (faults_in n (assigned_of p k a)) ≡ 1
  flat_assigned p k (left a) = flat (v.Assign k (expr_of p a)) (G.Assign k (expr_of p a)) (v.outs-Assign k (expr_of p a)) refl
  flat_assigned p k (right (pair any r)) = flat_any k (range_of p r)
  flat_assigned p k _ = flat_any_of k

  count_branch : (o : Option Cond) (A B : List Stmt) → length (faults_in n (branch_by o A B)) ≡ 1 + (length (all_faults n A) + length (all_faults n B))
  count_branch (Some c) A B = count_If n (v.If c A B) c A B (v.outs-If c A B)
  count_branch None A B = count_IfAny n (v.IfAny A B) A B (v.outs-IfAny A B)

  count_loop : (o : Option Cond) (A : List Stmt) → length (faults_in n (loop_by o A)) ≡ 1 + length (all_faults n A)
  count_loop (Some c) A = count_While n (v.While c A) c A (v.outs-While c A)
  count_loop None A = count_WhileAny n (v.WhileAny A) A (v.outs-WhileAny A)

  module _ (p : Token → ℕ) where
    mutual
      begin_stmt : {u : List Token} {a : Tree Token} → Derives language (ref lang.stmt) u a → length (faults_in n (stmt_of p a)) ≡ 1 + length (inner_starts a)
      begin_stmt (name (first d)) = flat v.Skip G.Skip v.outs-Skip refl
      begin_stmt (name (second (first (both (token h) (both {a = a} d (token g)))))) = flat (v.Tick (expr_of p a)) (G.Tick (expr_of p a)) (v.outs-Tick (expr_of p a)) refl
      begin_stmt (name (second (second (first (both (token h) (both (token g) (both {a = a} d (both (token f) (token i))))))))) =
          flat (v.Assume (cond_of p a)) (G.Assume (cond_of p a)) (v.outs-Assume (cond_of p a)) refl
      begin_stmt (name (second (second (second (first (both (token {t = t} h) (both (token g) (both {a = a} d (token f))))))))) = flat_assigned p (p t) a
      begin_stmt (name (second (second (second (second (first (both (token h) (both (token g) (both {a = c} d (both (token f) (both {a = a} {b = b} e i))))))))))) =
          omega (arith, count_branch (choice_of p c) (block_of p a) (else_of p b), begin_block e, begin_else i, length-append (block_starts a) (else_starts b))
      begin_stmt (name (second (second (second (second (second (both (token h) (both (token g) (both {a = c} d (both {b = a} (token f) e)))))))))) =
          omega (arith, count_loop (choice_of p c) (block_of p a), begin_block e)

      pub begin_stmts : {u : List Token} {a : Tree Token} → Derives language (many (ref lang.stmt)) u a → length (all_faults n (stmts_of p a)) ≡ length (starts_of a)
      begin_stmts no_more = refl
      begin_stmts (one_more {a = a} {b = b} d m) =
          omega (arith, length-append (faults_in n (stmt_of p a)) (all_faults n (stmts_of p b)), length-append (inner_starts a) (starts_of b), begin_stmt d, begin_stmts m)

      begin_block : {u : List Token} {a : Tree Token} → Derives language (ref lang.block) u a → length (all_faults n (block_of p a)) ≡ length (block_starts a)
      begin_block (name (both (token h) (both d (token g)))) = begin_stmts d

      begin_else : {u : List Token} {a : Tree Token} → Derives language (opt (tok k.Else ▸ ref lang.block)) u a → length (all_faults n (else_of p a)) ≡ length (else_starts a)
      begin_else (first (both (token h) d)) = begin_block d
      begin_else (second nothing) = refl

    pub begin_source : {u : List Token} {a : Tree Token} → Derives language (ref lang.source) u a → length (all_faults n (stmts_of p (parts_of a).body)) ≡ length (starts_of (parts_of a).body)
    begin_source (name (both (token h1) (both (token h2) (both (token h3) (both dp (both (token h4) (both (token h5) (both dl (both ds (token h6)))))))))) = begin_stmts ds
