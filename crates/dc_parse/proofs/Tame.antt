-- What is known of statements from the tokens that derive them.
use Rattle.std.proofs.Common.{◌≡◌, ℕ, ◌+◌, ◌<◌, ◌≤◌, Bool, true, false, ◌&&◌, ◌||◌, ltb, leb, List, [], ◌∷◌, ◌++◌, refl, sym, ap, ◌∙◌, append_assoc, append-nil, arith, Some, None}
use Rattle.std.specs.declared.option.Option.{Option}
use Rattle.std.proofs.lemmas.Bool.Decides.{nat_tests}
use Rattle.std.specs.List.{AllByRecursion}
use Rattle.std.proofs.lemmas.Bool.{and_from, lt-ltb}
use Rattle.dc_tokens.specs.declared.token.TokenKind.TheVariants as k
use Rattle.dc_tokens.specs.declared.token.Token.{Token}
use Rattle.dc_grammar.specs.Grammar.{has, tok, ref, many, opt, ◌▸◌, Tree, Derives, token, nothing, name, both, first, second, no_more, one_more}
use Rattle.dc_grammar.specs.Kinds.{is}
use Rattle.dc_grammar.specs.Language as lang
use Rattle.dc_grammar.specs.Language.{language}
use Rattle.dc_grammar.proofs.AllKinds.{same_kind}
use Rattle.dc_syntax.specs.declared.tree.Expr.{Expr}
use Rattle.dc_syntax.specs.declared.tree.Cond.{Cond}
use Rattle.dc_syntax.specs.declared.tree.Stmt.{Stmt}
use Rattle.dc_syntax.specs.declared.tree.Stmt.TheVariants as v
use Rattle.dc_affine.specs.Forms.{is_below}
use Rattle.dc_affine.specs.Atoms.{cond_is_below}
use Rattle.dc_program.specs.Limits.{literals_fit, is_limited, cond_literals_fit, cond_is_limited, limits_step, stmt_is_limited, all_limited}
use Rattle.dc_descent.specs.Trees.{expr_of, cond_of}
use Rattle.dc_descent.specs.Statements.{assigned_of, choice_of, branch_by, loop_by, stmt_of, stmts_of, block_of, else_of}
use Rattle.dc_parse.specs.Forms.{below_step, stmt_below, all_below}
use Rattle.dc_parse.proofs.Counted.{each_front, each_rest, Inside, ops}
use Rattle.dc_parse.proofs.Facts.{Known, Small, ExprFacts, CondFacts, expr_facts, cond_facts}
use Rattle.dc_parse.proofs.Folds.{at_skip, at_assign, at_any_of, at_between, at_tick, at_assume, at_if, at_if_any, at_while, at_while_any}

-- ---- tokens with places for their names, small numbers, and few operators in a row

abbrev pub Few : List Token → Type 0
Few ts = (x y z : List Token) → ts ≡ x ++ (y ++ z) → AllByRecursion Inside y → ops y ≤ 64

pub record Tame (n : ℕ) (p : Token → ℕ) (ts : List Token) : Type 0 where
  pub known : AllByRecursion (Known n p) ts
  pub small : AllByRecursion Small ts
  pub few : Few ts

pub few_front : (u v : List Token) → Few (u ++ v) → Few u
few_front u v f x y z e = f x y (z ++ v) (ap (λ w. w ++ v) e ∙ (append_assoc x (y ++ z) v ∙ ap (λ w. x ++ w) (append_assoc y z v)))

pub few_rest : (u v : List Token) → Few (u ++ v) → Few v
few_rest u v f x y z e = f (u ++ x) y z (ap (λ w. u ++ w) e ∙ sym (append_assoc u x (y ++ z)))

few_all : (u : List Token) → Few u → AllByRecursion Inside u → ops u ≤ 64
few_all u f i = f [] u [] (sym (append-nil u)) i

pub tame_front : {n : ℕ} {p : Token → ℕ} (u v : List Token) → Tame n p (u ++ v) → Tame n p u
tame_front {n} {p} u v t = record { known = each_front (Known n p) u v t.known; small = each_front Small u v t.small; few = few_front u v t.few }

pub tame_rest : {n : ℕ} {p : Token → ℕ} (u v : List Token) → Tame n p (u ++ v) → Tame n p v
tame_rest {n} {p} u v t = record { known = each_rest (Known n p) u v t.known; small = each_rest Small u v t.small; few = few_rest u v t.few }

-- ---- tests

at_most : (a : ℕ) → a ≤ 64 → leb a 64 ≡ true
at_most a h = grind (arith, nat_tests)

and_true : (a : Bool) → a ≡ true → (a && true) ≡ true
and_true a h = and_from a true h refl

module _ (n : ℕ) (p : Token → ℕ) where
  -- ---- expressions and conditions

  pub record GoodExpr (x : Expr) : Type 0 where
    pub below : is_below n x ≡ true
    pub limited : is_limited x ≡ true

  pub record GoodCond (x : Cond) : Type 0 where
    pub below : cond_is_below n x ≡ true
    pub limited : cond_is_limited x ≡ true

  good_expr : {u : List Token} {a : Tree Token} → Derives language (ref lang.expr) u a → Tame n p u → GoodExpr (expr_of p a)
  good_expr {u} {a} d t =
      let f : ExprFacts n p u (expr_of p a) = expr_facts n p d in
      record {
        below = f.below t.known;
        limited = and_from (literals_fit (expr_of p a)) _ (f.fits t.small) (at_most _ (omega (arith, f.counts, few_all u t.few f.inside)));
      }

  pub good_cond : {u : List Token} {a : Tree Token} → Derives language (ref lang.cond) u a → Tame n p u → GoodCond (cond_of p a)
  good_cond {u} {a} d t =
      let f : CondFacts n p u (cond_of p a) = cond_facts n p d in
      record {
        below = f.below t.known;
        limited = and_from (cond_literals_fit (cond_of p a)) _ (f.fits t.small) (at_most _ (omega (arith, f.counts, few_all u t.few f.inside)));
      }

  -- ---- statements

  pub record Good (x : Stmt) : Type 0 where
    pub below : stmt_below n x ≡ true
    pub limited : stmt_is_limited x ≡ true

  pub record Goods (xs : List Stmt) : Type 0 where
    pub below : all_below n xs ≡ true
    pub limited : all_limited xs ≡ true

  good_skip : Good v.Skip
  good_skip = record { below = at_skip Bool (below_step n); limited = at_skip Bool limits_step }

  good_tick : (x : Expr) → GoodExpr x → Good (v.Tick x)
  good_tick x g = record { below = at_tick Bool (below_step n) x ∙ and_true _ g.below; limited = at_tick Bool limits_step x ∙ and_true _ g.limited }

  good_assume : (x : Cond) → GoodCond x → Good (v.Assume x)
  good_assume x g = record { below = at_assume Bool (below_step n) x ∙ and_true _ g.below; limited = at_assume Bool limits_step x ∙ and_true _ g.limited }

  good_assign : (k : ℕ) (x : Expr) → k < n → GoodExpr x → Good (v.Assign k x)
  good_assign k x l g = record {
    below = at_assign Bool (below_step n) k x ∙ and_true _ (and_from _ _ (lt-ltb k n l) g.below);
    limited = at_assign Bool limits_step k x ∙ and_true _ g.limited;
  }

  good_any_of : (k : ℕ) → k < n → Good (v.AnyOf k)
  good_any_of k l = record { below = at_any_of Bool (below_step n) k ∙ and_true _ (lt-ltb k n l); limited = at_any_of Bool limits_step k }

  good_between : (k : ℕ) (x y : Expr) → k < n → GoodExpr x → GoodExpr y → Good (v.Between k x y)
  good_between k x y l g h = record {
    below = at_between Bool (below_step n) k x y ∙ and_true _ (left_group (ltb k n) (is_below n x) (is_below n y) (lt-ltb k n l) g.below h.below);
    limited = at_between Bool limits_step k x y ∙ and_true _ (and_from _ _ g.limited h.limited);
  }
    where
      left_group : (a b c : Bool) → a ≡ true → b ≡ true → c ≡ true → (a && b && c) ≡ true
      left_group true true true e f g = refl
      left_group false b c e f g = absurd cc
      left_group true false c e f g = absurd cc
      left_group true true false e f g = absurd cc

  abbrev GoodChoice : Option Cond → Type 0
  GoodChoice (Some x) = GoodCond x
  GoodChoice None = Unit {0}

  good_branch : (o : Option Cond) (A B : List Stmt) → GoodChoice o → Goods A → Goods B → Good (branch_by o A B)
  good_branch (Some x) A B g a b = record {
    below = at_if Bool (below_step n) x A B ∙ and_from _ _ g.below (and_from _ _ a.below b.below);
    limited = at_if Bool limits_step x A B ∙ and_from _ _ g.limited (and_from _ _ a.limited b.limited);
  }
  good_branch None A B g a b = record {
    below = at_if_any Bool (below_step n) A B ∙ and_from _ _ a.below b.below;
    limited = at_if_any Bool limits_step A B ∙ and_from _ _ a.limited b.limited;
  }

  good_loop : (o : Option Cond) (A : List Stmt) → GoodChoice o → Goods A → Good (loop_by o A)
  good_loop (Some x) A g a = record {
    below = at_while Bool (below_step n) x A ∙ and_from _ _ g.below a.below;
    limited = at_while Bool limits_step x A ∙ and_from _ _ g.limited a.limited;
  }
  good_loop None A g a = record { below = at_while_any Bool (below_step n) A ∙ a.below; limited = at_while_any Bool limits_step A ∙ a.limited }

  good_choice : {u : List Token} {a : Tree Token} → Derives language (ref lang.choice) u a → Tame n p u → GoodChoice (choice_of p a)
  good_choice (name (first (token h))) t = tt
  good_choice (name (second d)) t = good_cond d t

  good_assigned : {u : List Token} {a : Tree Token} → Derives language (ref lang.assigned) u a → Tame n p u → (k : ℕ) → k < n → Good (assigned_of p k a)
  good_assigned (name (first d)) t k l = good_assign k _ l (good_expr d t)
  good_assigned (name (second (both (token {t = a} h) (second nothing)))) t k l = good_any_of k l
  good_assigned (name (second (both (token {t = a} h) (first (both (token {t = b} g) (both {u = u} d (both (token {t = c} f) (both {u = w} e (token {t = z} i))))))))) t k l =
      let t1 : Tame n p (u ++ c ∷ (w ++ z ∷ [])) = tame_rest (b ∷ []) _ (tame_rest (a ∷ []) _ t) in
      good_between k _ _ l (good_expr d (tame_front u _ t1)) (good_expr e (tame_front w (z ∷ []) (tame_rest (c ∷ []) _ (tame_rest u _ t1))))

  or_first : (a b : Bool) → b ≡ false → (a || b) ≡ true → a ≡ true
  or_first true b e h = refl
  or_first false b e h = absurd cc

  named : (t : Token) (u : List Token) → has is (k.Name ∷ []) t.kind ≡ true → Tame n p (t ∷ u) → p t < n
  named t u h m = m.known.0 (sym (same_kind k.Name t.kind (or_first (is k.Name t.kind) false refl h)))

  good_cons : (x : Stmt) (xs : List Stmt) → Good x → Goods xs → Goods (x ∷ xs)
  good_cons x xs g h = record { below = and_from _ _ g.below h.below; limited = and_from _ _ g.limited h.limited }

  no_stmts : Goods []
  no_stmts = record { below = refl; limited = refl }

  mutual
    pub good_stmt : {u : List Token} {a : Tree Token} → Derives language (ref lang.stmt) u a → Tame n p u → Good (stmt_of p a)
    good_stmt (name (first d)) t = good_skip
    good_stmt (name (second (first (both (token {t = a} h) (both {u = u} d (token {t = b} g)))))) t = good_tick _ (good_expr d (tame_front u (b ∷ []) (tame_rest (a ∷ []) _ t)))
    good_stmt (name (second (second (first (both (token {t = a} h) (both (token {t = b} g) (both {u = u} d (both (token f) (token i))))))))) t =
        good_assume _ (good_cond d (tame_front u _ (tame_rest (b ∷ []) _ (tame_rest (a ∷ []) _ t))))
    good_stmt (name (second (second (second (first (both (token {t = a} h) (both (token {t = b} g) (both {u = u} d (token {t = c} f))))))))) t =
        good_assigned d (tame_front u (c ∷ []) (tame_rest (b ∷ []) _ (tame_rest (a ∷ []) _ t))) (p a) (named a _ h t)
    good_stmt (name (second (second (second (second (first (both (token {t = a} h) (both (token {t = b} g) (both {u = u} d (both (token {t = c} f) (both {u = w} {v = z} e i))))))))))) t =
        let t1 : Tame n p (u ++ c ∷ (w ++ z)) = tame_rest (b ∷ []) _ (tame_rest (a ∷ []) _ t) in
        let t2 : Tame n p (w ++ z) = tame_rest (c ∷ []) _ (tame_rest u _ t1) in
        good_branch _ _ _ (good_choice d (tame_front u _ t1)) (good_block e (tame_front w z t2)) (good_else i (tame_rest w z t2))
    good_stmt (name (second (second (second (second (second (both (token {t = a} h) (both (token {t = b} g) (both {u = u} d (both (token {t = c} f) e)))))))))) t =
        let t1 : Tame n p _ = tame_rest (b ∷ []) _ (tame_rest (a ∷ []) _ t) in
        good_loop _ _ (good_choice d (tame_front u _ t1)) (good_block e (tame_rest (c ∷ []) _ (tame_rest u _ t1)))

    pub good_stmts : {u : List Token} {a : Tree Token} → Derives language (many (ref lang.stmt)) u a → Tame n p u → Goods (stmts_of p a)
    good_stmts no_more t = no_stmts
    good_stmts (one_more {u = u} {v = w} d m) t = good_cons _ _ (good_stmt d (tame_front u w t)) (good_stmts m (tame_rest u w t))

    good_block : {u : List Token} {a : Tree Token} → Derives language (ref lang.block) u a → Tame n p u → Goods (block_of p a)
    good_block (name (both (token {t = a} h) (both {u = u} d (token {t = b} g)))) t = good_stmts d (tame_front u (b ∷ []) (tame_rest (a ∷ []) _ t))

    good_else : {u : List Token} {a : Tree Token} → Derives language (opt (tok k.Else ▸ ref lang.block)) u a → Tame n p u → Goods (else_of p a)
    good_else (first (both (token {t = a} h) d)) t = good_block d (tame_rest (a ∷ []) _ t)
    good_else (second nothing) t = no_stmts
