-- Where the variables of what tokens say are below n, each name among the tokens has a place below n.
use Rattle.std.proofs.Common.{◌≡◌, ℕ, ◌<◌, Bool, true, false, ◌&&◌, ltb, List, [], ◌∷◌, ◌++◌, Option, Some, None, refl, sym, ap, ◌∙◌}
use Rattle.std.specs.Prelude.{if◌then◌else◌}
use Rattle.std.specs.List.{AllByRecursion}
use Rattle.dc_tokens.specs.declared.token.TokenKind.{TokenKind}
use Rattle.dc_tokens.specs.declared.token.TokenKind.TheVariants as k
use Rattle.dc_tokens.specs.declared.token.Token.{Token}
use Rattle.dc_tokens.proofs.Front.{and_left, and_right}
use Rattle.dc_grammar.specs.Kinds.{is}
use Rattle.dc_grammar.specs.Grammar.{one, ref, seq, many, tok, opt, has, Tree, Derives, token, nothing, name, both, first, second, no_more, one_more}
use Rattle.dc_grammar.specs.Language.{language, expr, term, unary, cond, conj, fact, stmt, block, assigned, choice}
use Rattle.dc_grammar.proofs.AllKinds.{one_kind}
use Rattle.dc_syntax.specs.declared.tree.Expr.{Expr}
use Rattle.dc_syntax.specs.declared.tree.Expr.TheVariants.{Add, Sub, Mul}
use Rattle.dc_syntax.specs.declared.tree.Cond.{Cond}
use Rattle.dc_syntax.specs.declared.tree.Cond.TheVariants.{And, Or}
use Rattle.dc_syntax.specs.declared.tree.Stmt.{Stmt}
use Rattle.dc_descent.specs.Trees.{sum_by, unary_of, term_of, factors, expr_of, summands, rel_of, fact_of, conj_of, conjuncts, cond_of, disjuncts}
use Rattle.dc_descent.specs.Statements.{assigned_of, choice_of, branch_by, loop_by, stmt_of, stmts_of, block_of, else_of}
use Rattle.dc_parse.proofs.Counted.{each_both}
use Rattle.dc_parse.proofs.Facts.{Known}
use Rattle.dc_printed.specs.Fits.{fits, cond_fits, stmt_fits, stmts_fit}
use Rattle.dc_printed.proofs.Parts.{below, fits-Var, fits-Neg, fits-Add, fits-Sub, fits-Mul, fits-Cmp, fits-Not, fits-And, fits-Or}
use Rattle.dc_printed.proofs.StmtParts.{fits-Assign, fits-AnyOf, fits-Between, fits-Tick, fits-Assume, fits-If, fits-IfAny, fits-While, fits-WhileAny}

module _ (n : ℕ) (q : Token → ℕ) where
  -- a token that is no name
  other : (j : TokenKind) (t : Token) → has is (j ∷ []) t.kind ≡ true → (j ≡ k.Name → ⊥) → Known n q t
  other j t h f e = absurd (f (sym (one_kind j t.kind h) ∙ e))

  -- no sign of a list is a name
  no_name : (js : List TokenKind) (t : Token) → has is js t.kind ≡ true → has is js k.Name ≡ false → Known n q t
  no_name js t h g e = absurd (let z : true ≡ false = sym h ∙ (ap (has is js) e ∙ g) in cc)

  mutual
    know_unary : {us : List Token} {a : Tree Token} → Derives language (ref unary) us a → fits n (unary_of q a) ≡ true → AllByRecursion (Known n q) us
    know_unary (name (first (both {b = x} (token {t = t} h) d))) f = (other k.Minus t h (λ e. cc), know_unary d (sym (fits-Neg n (unary_of q x)) ∙ f))
    know_unary (name (second (first (token {t = t} h)))) f = (other k.Number t h (λ e. cc), tt)
    know_unary (name (second (second (first (token {t = t} h))))) f = ((λ e. below (sym (fits-Var n (q t)) ∙ f)), tt)
    know_unary (name (second (second (second (both (token {t = o} h) (both {u = u} d (token {t = c} g))))))) f =
        (other k.LParen o h (λ e. cc), each_both (Known n q) u (c ∷ []) (know_expr d f) (other k.RParen c g (λ e. cc), tt))

    know_factors : {vs : List Token} {b : Tree Token} → Derives language (many (seq (tok k.Star) (ref unary))) vs b → (g : Expr) → fits n (factors q b g) ≡ true → (fits n g ≡ true) × AllByRecursion (Known n q) vs
    know_factors no_more g f = (f, tt)
    know_factors (one_more {v = v} (both {v = u} {b = x} (token {t = t} s) d) m) g f =
        let r = know_factors m (Mul g (unary_of q x)) f in
        let z : (fits n g && fits n (unary_of q x)) ≡ true = sym (fits-Mul n g (unary_of q x)) ∙ r.0 in
        (and_left _ _ z, (other k.Star t s (λ e. cc), each_both (Known n q) u v (know_unary d (and_right _ _ z)) r.1))

    know_term : {us : List Token} {a : Tree Token} → Derives language (ref term) us a → fits n (term_of q a) ≡ true → AllByRecursion (Known n q) us
    know_term (name (both {u = u} {v = v} {a = x} d m)) f = let r = know_factors m (unary_of q x) f in each_both (Known n q) u v (know_unary d r.0) r.1

    know_summands : {vs : List Token} {b : Tree Token} → Derives language (many (seq (one k.Plus (k.Minus ∷ [])) (ref term))) vs b → (g : Expr) → fits n (summands q b g) ≡ true → (fits n g ≡ true) × AllByRecursion (Known n q) vs
    know_summands no_more g f = (f, tt)
    know_summands (one_more {v = v} (both {v = u} {b = x} (token {t = t} s) d) m) g f =
        let r = know_summands m (sum_by t.kind g (term_of q x)) f in
        let z : (fits n g && fits n (term_of q x)) ≡ true = of_sum (is k.Plus t.kind) g (term_of q x) r.0 in
        (and_left _ _ z, (no_name (k.Plus ∷ k.Minus ∷ []) t s refl, each_both (Known n q) u v (know_term d (and_right _ _ z)) r.1))
      where
        of_sum : (b : Bool) (g x : Expr) → fits n (if b then Add g x else Sub g x) ≡ true → (fits n g && fits n x) ≡ true
        of_sum true g x f = sym (fits-Add n g x) ∙ f
        of_sum false g x f = sym (fits-Sub n g x) ∙ f

    know_expr : {us : List Token} {a : Tree Token} → Derives language (ref expr) us a → fits n (expr_of q a) ≡ true → AllByRecursion (Known n q) us
    know_expr (name (both {u = u} {v = v} {a = x} d m)) f = let r = know_summands m (term_of q x) f in each_both (Known n q) u v (know_term d r.0) r.1

  mutual
    know_fact : {us : List Token} {a : Tree Token} → Derives language (ref fact) us a → cond_fits n (fact_of q a) ≡ true → AllByRecursion (Known n q) us
    know_fact (name (first (both {b = x} (token {t = t} h) d))) f = (other k.Bang t h (λ e. cc), know_fact d (sym (fits-Not n (fact_of q x)) ∙ f))
    know_fact (name (second (first (token {t = t} h)))) f = (other k.True t h (λ e. cc), tt)
    know_fact (name (second (second (first (token {t = t} h))))) f = (other k.False t h (λ e. cc), tt)
    know_fact (name (second (second (second (first (both (token {t = o} h) (both {u = u} d (token {t = c} g)))))))) f =
        (other k.LBracket o h (λ e. cc), each_both (Known n q) u (c ∷ []) (know_cond d f) (other k.RBracket c g (λ e. cc), tt))
    know_fact (name (second (second (second (second (both {u = u} {a = x} d (both {v = v} {b = y} (token {t = t} s) g))))))) f =
        let z : (fits n (expr_of q x) && fits n (expr_of q y)) ≡ true = sym (fits-Cmp n (expr_of q x) (rel_of t.kind) (expr_of q y)) ∙ f in
        each_both (Known n q) u (t ∷ v) (know_expr d (and_left _ _ z)) (no_name (k.Lt ∷ k.Le ∷ k.Gt ∷ k.Ge ∷ k.Eq ∷ k.Ne ∷ []) t s refl, know_expr g (and_right _ _ z))

    know_conjuncts : {vs : List Token} {b : Tree Token} → Derives language (many (seq (tok k.And) (ref fact))) vs b → (g : Cond) → cond_fits n (conjuncts q b g) ≡ true → (cond_fits n g ≡ true) × AllByRecursion (Known n q) vs
    know_conjuncts no_more g f = (f, tt)
    know_conjuncts (one_more {v = v} (both {v = u} {b = x} (token {t = t} s) d) m) g f =
        let r = know_conjuncts m (And g (fact_of q x)) f in
        let z : (cond_fits n g && cond_fits n (fact_of q x)) ≡ true = sym (fits-And n g (fact_of q x)) ∙ r.0 in
        (and_left _ _ z, (other k.And t s (λ e. cc), each_both (Known n q) u v (know_fact d (and_right _ _ z)) r.1))

    know_conj : {us : List Token} {a : Tree Token} → Derives language (ref conj) us a → cond_fits n (conj_of q a) ≡ true → AllByRecursion (Known n q) us
    know_conj (name (both {u = u} {v = v} {a = x} d m)) f = let r = know_conjuncts m (fact_of q x) f in each_both (Known n q) u v (know_fact d r.0) r.1

    know_disjuncts : {vs : List Token} {b : Tree Token} → Derives language (many (seq (tok k.Or) (ref conj))) vs b → (g : Cond) → cond_fits n (disjuncts q b g) ≡ true → (cond_fits n g ≡ true) × AllByRecursion (Known n q) vs
    know_disjuncts no_more g f = (f, tt)
    know_disjuncts (one_more {v = v} (both {v = u} {b = x} (token {t = t} s) d) m) g f =
        let r = know_disjuncts m (Or g (conj_of q x)) f in
        let z : (cond_fits n g && cond_fits n (conj_of q x)) ≡ true = sym (fits-Or n g (conj_of q x)) ∙ r.0 in
        (and_left _ _ z, (other k.Or t s (λ e. cc), each_both (Known n q) u v (know_conj d (and_right _ _ z)) r.1))

    know_cond : {us : List Token} {a : Tree Token} → Derives language (ref cond) us a → cond_fits n (cond_of q a) ≡ true → AllByRecursion (Known n q) us
    know_cond (name (both {u = u} {v = v} {a = x} d m)) f = let r = know_disjuncts m (conj_of q x) f in each_both (Known n q) u v (know_conj d r.0) r.1

  abbrev ChoiceFits : Option Cond → Type 0
  ChoiceFits (Some c) = cond_fits n c ≡ true
  ChoiceFits None = Unit {0}

  know_choice : {us : List Token} {a : Tree Token} → Derives language (ref choice) us a → ChoiceFits (choice_of q a) → AllByRecursion (Known n q) us
  know_choice (name (first (token {t = t} h))) f = (other k.Star t h (λ e. cc), tt)
  know_choice (name (second d)) f = know_cond d f

  know_assigned : {us : List Token} {a : Tree Token} (i : ℕ) → Derives language (ref assigned) us a → stmt_fits n (assigned_of q i a) ≡ true → (i < n) × AllByRecursion (Known n q) us
  know_assigned i (name (first {a = x} d)) f = let z : (ltb i n && fits n (expr_of q x)) ≡ true = sym (fits-Assign n i (expr_of q x)) ∙ f in (below (and_left _ _ z), know_expr d (and_right _ _ z))
  know_assigned i (name (second (both (token {t = t} h) (second nothing)))) f = (below (sym (fits-AnyOf n i) ∙ f), (other k.Any t h (λ e. cc), tt))
  know_assigned i (name (second (both (token {t = t} h) (first (both (token {t = o} e) (both {u = u} {a = x} d (both (token {t = m} g) (both {u = v} {a = y} r (token {t = c} s))))))))) f =
      let z : (ltb i n && (fits n (expr_of q x) && fits n (expr_of q y))) ≡ true = sym (fits-Between n i (expr_of q x) (expr_of q y)) ∙ f in
      let w : (fits n (expr_of q x) && fits n (expr_of q y)) ≡ true = and_right _ _ z in (
        below (and_left _ _ z),
        (
          other k.Any t h (λ e. cc),
          (
            other k.LParen o e (λ e. cc),
            each_both (Known n q) u (m ∷ (v ++ c ∷ [])) (know_expr d (and_left _ _ w)) (other k.Comma m g (λ e. cc), each_both (Known n q) v (c ∷ []) (know_expr r (and_right _ _ w)) (other k.RParen c s (λ e. cc), tt)),
          ),
        ),
      )

  fits_branch : (o : Option Cond) (A B : List Stmt) → stmt_fits n (branch_by o A B) ≡ true → ChoiceFits o × ((stmts_fit n A ≡ true) × (stmts_fit n B ≡ true))
  fits_branch (Some c) A B f = let z : (cond_fits n c && (stmts_fit n A && stmts_fit n B)) ≡ true = sym (fits-If n c A B) ∙ f in let w = and_right _ _ z in (and_left _ _ z, (and_left _ _ w, and_right _ _ w))
  fits_branch None A B f = let w : (stmts_fit n A && stmts_fit n B) ≡ true = sym (fits-IfAny n A B) ∙ f in (tt, (and_left _ _ w, and_right _ _ w))

  fits_loop : (o : Option Cond) (A : List Stmt) → stmt_fits n (loop_by o A) ≡ true → ChoiceFits o × (stmts_fit n A ≡ true)
  fits_loop (Some c) A f = let z : (cond_fits n c && stmts_fit n A) ≡ true = sym (fits-While n c A) ∙ f in (and_left _ _ z, and_right _ _ z)
  fits_loop None A f = (tt, sym (fits-WhileAny n A) ∙ f)

  mutual
    know_stmt : {us : List Token} {a : Tree Token} → Derives language (ref stmt) us a → stmt_fits n (stmt_of q a) ≡ true → AllByRecursion (Known n q) us
    know_stmt (name (first (both (token {t = t} h) (token {t = m} g)))) f = (other k.Skip t h (λ e. cc), (other k.Semi m g (λ e. cc), tt))
    know_stmt (name (second (first (both (token {t = t} h) (both {u = u} {a = x} d (token {t = m} g)))))) f =
        (other k.Tick t h (λ e. cc), each_both (Known n q) u (m ∷ []) (know_expr d (sym (fits-Tick n (expr_of q x)) ∙ f)) (other k.Semi m g (λ e. cc), tt))
    know_stmt (name (second (second (first (both (token {t = t} h) (both (token {t = o} e) (both {u = u} {a = x} d (both (token {t = c} i) (token {t = m} g))))))))) f =
        (other k.Assume t h (λ e. cc), (other k.LParen o e (λ e. cc), each_both (Known n q) u (c ∷ m ∷ []) (know_cond d (sym (fits-Assume n (cond_of q x)) ∙ f)) (other k.RParen c i (λ e. cc), (other k.Semi m g (λ e. cc), tt))))
    know_stmt (name (second (second (second (first (both (token {t = t} h) (both (token {t = o} e) (both {u = u} d (token {t = m} g))))))))) f =
        let r = know_assigned (q t) d f in
        ((λ e. r.0), (other k.Assign o e (λ e. cc), each_both (Known n q) u (m ∷ []) r.1 (other k.Semi m g (λ e. cc), tt)))
    know_stmt (name (second (second (second (second (first (both (token {t = t} h) (both (token {t = o} e) (both {u = u} {a = x} d (both (token {t = c} i) (both {u = v} {v = w} {a = y} {b = z} g r))))))))))) f =
        let b = fits_branch (choice_of q x) (block_of q y) (else_of q z) f in
        (other k.If t h (λ e. cc), (other k.LParen o e (λ e. cc), each_both (Known n q) u (c ∷ (v ++ w)) (know_choice d b.0) (other k.RParen c i (λ e. cc), each_both (Known n q) v w (know_block g b.1.0) (know_else r b.1.1))))
    know_stmt (name (second (second (second (second (second (both (token {t = t} h) (both (token {t = o} e) (both {u = u} {a = x} d (both {v = v} {b = y} (token {t = c} i) g)))))))))) f =
        let b = fits_loop (choice_of q x) (block_of q y) f in
        (other k.While t h (λ e. cc), (other k.LParen o e (λ e. cc), each_both (Known n q) u (c ∷ v) (know_choice d b.0) (other k.RParen c i (λ e. cc), know_block g b.1)))

    know_block : {us : List Token} {a : Tree Token} → Derives language (ref block) us a → stmts_fit n (block_of q a) ≡ true → AllByRecursion (Known n q) us
    know_block (name (both (token {t = o} h) (both {u = u} d (token {t = c} g)))) f = (other k.LBrace o h (λ e. cc), each_both (Known n q) u (c ∷ []) (know_stmts d f) (other k.RBrace c g (λ e. cc), tt))

    know_else : {us : List Token} {a : Tree Token} → Derives language (opt (seq (tok k.Else) (ref block))) us a → stmts_fit n (else_of q a) ≡ true → AllByRecursion (Known n q) us
    know_else (first (both (token {t = t} h) d)) f = (other k.Else t h (λ e. cc), know_block d f)
    know_else (second nothing) f = tt

    pub know_stmts : {us : List Token} {a : Tree Token} → Derives language (many (ref stmt)) us a → stmts_fit n (stmts_of q a) ≡ true → AllByRecursion (Known n q) us
    know_stmts no_more f = tt
    know_stmts (one_more {u = u} {v = v} d m) f = each_both (Known n q) u v (know_stmt d (and_left _ _ f)) (know_stmts m (and_right _ _ f))
