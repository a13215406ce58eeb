-- What is known of an expression or a condition from the tokens that derive it.
use Rattle.std.proofs.Common.{◌≡◌, ℕ, ◌+◌, ◌<◌, ◌≤◌, Bool, true, false, ◌&&◌, ◌||◌, leb, List, [], ◌∷◌, ◌++◌, refl, sym, ap, ap₂, ◌∙◌, subst, append_assoc, append-nil, arith, if◌then◌else◌}
use Rattle.std.proofs.lemmas.Bool.Decides.{nat_tests}
use Rattle.std.specs.List.{AllByRecursion}
use Rattle.std.proofs.lemmas.Bool.{and_from, lt-ltb}
use Rattle.dc_tokens.specs.declared.token.TokenKind.TheVariants as k
use Rattle.dc_tokens.specs.declared.token.Token.{Token}
use Rattle.dc_grammar.specs.Grammar.{has, one, tok, ref, seq, many, Tree, Derives, token, name, both, first, second, no_more, one_more}
use Rattle.dc_grammar.specs.Kinds.{is}
use Rattle.dc_grammar.specs.Language as lang
use Rattle.dc_grammar.specs.Language.{language}
use Rattle.dc_grammar.proofs.AllKinds.{same_kind}
use Rattle.dc_syntax.specs.declared.tree.Expr.{Expr}
use Rattle.dc_syntax.specs.declared.tree.Expr.TheVariants as e
use Rattle.dc_syntax.specs.declared.tree.Rel.{Rel}
use Rattle.dc_syntax.specs.declared.tree.Cond.{Cond}
use Rattle.dc_syntax.specs.declared.tree.Cond.TheVariants as c
use Rattle.dc_affine.specs.Forms.{below_step, is_below}
use Rattle.dc_affine.specs.Atoms.{cond_below_step, cond_is_below}
use Rattle.dc_program.specs.Limits.{literals_step, literals_fit, cond_literals_step, cond_literals_fit, operators_step, operators, cond_operators_step, cond_operators}
use Rattle.dc_descent.specs.Trees.{unary_of, term_of, factors, expr_of, summands, rel_of, fact_of, conj_of, conjuncts, cond_of, disjuncts}
use Rattle.dc_parse.proofs.Counted.{each_both, each_front, each_rest, Inside, one_if, ops, ops_both, Operates, Stands, operates, stands}
use Rattle.dc_parse.proofs.Folds.{at_num, at_var, at_neg, at_add, at_sub, at_mul, at_true, at_false, at_cmp, at_not, at_and, at_or}

-- a name has a place below n, and a number is at most 2147483647
abbrev pub Known : ℕ → (Token → ℕ) → Token → Type 0
Known n p t = t.kind ≡ k.Name → p t < n

abbrev pub Small : Token → Type 0
Small t = t.value ≤ 2147483647

-- these tokens derive the expression
pub record ExprFacts (n : ℕ) (p : Token → ℕ) (u : List Token) (x : Expr) : Type 0 where
  pub inside : AllByRecursion Inside u
  pub counts : operators x ≡ ops u
  pub fits : AllByRecursion Small u → literals_fit x ≡ true
  pub below : AllByRecursion (Known n p) u → is_below n x ≡ true

pub record CondFacts (n : ℕ) (p : Token → ℕ) (u : List Token) (x : Cond) : Type 0 where
  pub inside : AllByRecursion Inside u
  pub counts : cond_operators x ≡ ops u
  pub fits : AllByRecursion Small u → cond_literals_fit x ≡ true
  pub below : AllByRecursion (Known n p) u → cond_is_below n x ≡ true

fits_leb : (v : ℕ) → v ≤ 2147483647 → leb v 2147483647 ≡ true
fits_leb v h = grind (arith, nat_tests)

one_stands : (t : Token) → Stands t → 0 ≡ ops (t ∷ [])
one_stands t s = sym (ap (λ b. one_if b + 0) s.counts)

-- an operator before tokens, between tokens, and brackets around tokens
ops_before : (t : Token) (u : List Token) → Operates t → ops (t ∷ u) ≡ 1 + ops u
ops_before t u o = ap (λ b. one_if b + ops u) o.counts

ops_between : (u : List Token) (t : Token) (v : List Token) → Operates t → ops (u ++ t ∷ v) ≡ ops u + (1 + ops v)
ops_between u t v o = ops_both u (t ∷ v) ∙ ap (λ z. ops u + z) (ops_before t v o)

ops_around : (s : Token) (u : List Token) (t : Token) → Stands s → Stands t → ops (s ∷ (u ++ t ∷ [])) ≡ ops u
ops_around s u t a b = omega (arith, ap (λ z. one_if z + ops (u ++ t ∷ [])) a.counts, ops_both u (t ∷ []), one_stands t b)

inside_between : (u : List Token) (t : Token) (v : List Token) → AllByRecursion Inside u → Operates t → AllByRecursion Inside v → AllByRecursion Inside (u ++ t ∷ v)
inside_between u t v a o b = each_both Inside u (t ∷ v) a (o.inside, b)

inside_around : (s : Token) (u : List Token) (t : Token) → Stands s → AllByRecursion Inside u → Stands t → AllByRecursion Inside (s ∷ (u ++ t ∷ []))
inside_around s u t a h b = (a.inside, each_both Inside u (t ∷ []) h (b.inside, tt))

each_inner : (P : Token → Type 0) (s : Token) (u : List Token) (t : Token) → AllByRecursion P (s ∷ (u ++ t ∷ [])) → AllByRecursion P u
each_inner P s u t h = each_front P u (t ∷ []) h.1

module _ (n : ℕ) (p : Token → ℕ) where
  -- ---- expressions

  num_facts : (t : Token) → has is (k.Number ∷ []) t.kind ≡ true → ExprFacts n p (t ∷ []) (e.Num t.value)
  num_facts t h =
      let s : Stands t = stands (k.Number ∷ []) t (refl, tt) (refl, tt) h in
      record {
        inside = (s.inside, tt);
        counts = at_num ℕ operators_step t.value ∙ one_stands t s;
        fits = λ g. at_num Bool literals_step t.value ∙ fits_leb t.value g.0;
        below = λ g. at_num Bool (below_step n) t.value;
      }

  or_first : (a b : Bool) → b ≡ false → a || b ≡ true → a ≡ true
  or_first true b e h = refl
  or_first false b e h = absurd cc

  name_is : (t : Token) → has is (k.Name ∷ []) t.kind ≡ true → t.kind ≡ k.Name
  name_is t h = sym (same_kind k.Name t.kind (or_first (is k.Name t.kind) false refl h))

  var_facts : (t : Token) → has is (k.Name ∷ []) t.kind ≡ true → ExprFacts n p (t ∷ []) (e.Var (p t))
  var_facts t h =
      let s : Stands t = stands (k.Name ∷ []) t (refl, tt) (refl, tt) h in
      record {
        inside = (s.inside, tt);
        counts = at_var ℕ operators_step (p t) ∙ one_stands t s;
        fits = λ g. at_var Bool literals_step (p t);
        below = λ g. at_var Bool (below_step n) (p t) ∙ lt-ltb (p t) n (g.0 (name_is t h));
      }

  neg_facts : (t : Token) (u : List Token) (x : Expr) → Operates t → ExprFacts n p u x → ExprFacts n p (t ∷ u) (e.Neg x)
  neg_facts t u x o f = record {
    inside = (o.inside, f.inside);
    counts = at_neg ℕ operators_step x ∙ (ap (λ z. 1 + z) f.counts ∙ sym (ops_before t u o));
    fits = λ g. at_neg Bool literals_step x ∙ f.fits g.1;
    below = λ g. at_neg Bool (below_step n) x ∙ f.below g.1;
  }

  pair_facts : (t : Token) (u v : List Token) (x y z : Expr) → Operates t → ExprFacts n p u x → ExprFacts n p v y
      → operators z ≡ operators x + (1 + operators y) → literals_fit z ≡ (literals_fit x && literals_fit y) → is_below n z ≡ (is_below n x && is_below n y)
      → ExprFacts n p (u ++ t ∷ v) z
  pair_facts t u v x y z o f g a b d = record {
    inside = inside_between u t v f.inside o g.inside;
    counts = a ∙ (ap₂ (λ i j. i + (1 + j)) f.counts g.counts ∙ sym (ops_between u t v o));
    fits = λ h. b ∙ and_from _ _ (f.fits (each_front Small u (t ∷ v) h)) (g.fits (each_rest Small u (t ∷ v) h).1);
    below = λ h. d ∙ and_from _ _ (f.below (each_front (Known n p) u (t ∷ v) h)) (g.below (each_rest (Known n p) u (t ∷ v) h).1);
  }

  paren_facts : (s t : Token) (u : List Token) (x : Expr) → Stands s → Stands t → ExprFacts n p u x → ExprFacts n p (s ∷ (u ++ t ∷ [])) x
  paren_facts s t u x a b f = record {
    inside = inside_around s u t a f.inside b;
    counts = f.counts ∙ sym (ops_around s u t a b);
    fits = λ h. f.fits (each_inner Small s u t h);
    below = λ h. f.below (each_inner (Known n p) s u t h);
  }

  mul_facts : (t : Token) (u v : List Token) (x y : Expr) → Operates t → ExprFacts n p u x → ExprFacts n p v y → ExprFacts n p (u ++ t ∷ v) (e.Mul x y)
  mul_facts t u v x y o f g = pair_facts t u v x y (e.Mul x y) o f g (at_mul ℕ operators_step x y) (at_mul Bool literals_step x y) (at_mul Bool (below_step n) x y)

  sum_facts : (b : Bool) (t : Token) (u v : List Token) (x y : Expr) → Operates t → ExprFacts n p u x → ExprFacts n p v y → ExprFacts n p (u ++ t ∷ v) (if b then e.Add x y else e.Sub x y)
  sum_facts true t u v x y o f g = pair_facts t u v x y (e.Add x y) o f g (at_add ℕ operators_step x y) (at_add Bool literals_step x y) (at_add Bool (below_step n) x y)
  sum_facts false t u v x y o f g = pair_facts t u v x y (e.Sub x y) o f g (at_sub ℕ operators_step x y) (at_sub Bool literals_step x y) (at_sub Bool (below_step n) x y)

  expr_end : (u : List Token) (x : Expr) → ExprFacts n p u x → ExprFacts n p (u ++ []) x
  expr_end u x f = subst (λ z. ExprFacts n p z x) (sym (append-nil u)) f

  expr_join : (u v w : List Token) (x : Expr) → ExprFacts n p ((u ++ v) ++ w) x → ExprFacts n p (u ++ (v ++ w)) x
  expr_join u v w x f = subst (λ z. ExprFacts n p z x) (append_assoc u v w) f

  mutual
    pub unary_facts : {u : List Token} {a : Tree Token} → Derives language (ref lang.unary) u a → ExprFacts n p u (unary_of p a)
    unary_facts (name (first (both {u = u} {v = v} (token {t = t} h) d))) = neg_facts t v _ (operates (k.Minus ∷ []) t (refl, tt) (refl, tt) h) (unary_facts d)
    unary_facts (name (second (first (token {t = t} h)))) = num_facts t h
    unary_facts (name (second (second (first (token {t = t} h))))) = var_facts t h
    unary_facts (name (second (second (second (both (token {t = s} h) (both {u = u} d (token {t = t} g))))))) =
        paren_facts s t u _ (stands (k.LParen ∷ []) s (refl, tt) (refl, tt) h) (stands (k.RParen ∷ []) t (refl, tt) (refl, tt) g) (expr_facts d)

    factor_facts : {v : List Token} {b : Tree Token} → Derives language (many (seq (tok k.Star) (ref lang.unary))) v b → (u : List Token) (x : Expr) → ExprFacts n p u x → ExprFacts n p (u ++ v) (factors p b x)
    factor_facts no_more u x f = expr_end u x f
    factor_facts (one_more {v = w} (both {v = v} (token {t = t} h) d) m) u x f =
        expr_join u (t ∷ v) w _ (factor_facts m (u ++ t ∷ v) _ (mul_facts t u v x _ (operates (k.Star ∷ []) t (refl, tt) (refl, tt) h) f (unary_facts d)))

    term_facts : {u : List Token} {a : Tree Token} → Derives language (ref lang.term) u a → ExprFacts n p u (term_of p a)
    term_facts (name (both {u = u} d m)) = factor_facts m u _ (unary_facts d)

    summand_facts : {v : List Token} {b : Tree Token} → Derives language (many (seq (one k.Plus (k.Minus ∷ [])) (ref lang.term))) v b → (u : List Token) (x : Expr) → ExprFacts n p u x → ExprFacts n p (u ++ v) (summands p b x)
    summand_facts no_more u x f = expr_end u x f
    summand_facts (one_more {v = w} (both {v = v} (token {t = t} h) d) m) u x f =
        expr_join u (t ∷ v) w _ (summand_facts m (u ++ t ∷ v) _ (sum_facts (is k.Plus t.kind) t u v x _ (operates (k.Plus ∷ k.Minus ∷ []) t (refl, (refl, tt)) (refl, (refl, tt)) h) f (term_facts d)))

    pub expr_facts : {u : List Token} {a : Tree Token} → Derives language (ref lang.expr) u a → ExprFacts n p u (expr_of p a)
    expr_facts (name (both {u = u} d m)) = summand_facts m u _ (term_facts d)

  -- ---- conditions

  true_facts : (t : Token) → has is (k.True ∷ []) t.kind ≡ true → CondFacts n p (t ∷ []) c.True
  true_facts t h =
      let s : Stands t = stands (k.True ∷ []) t (refl, tt) (refl, tt) h in
      record {
        inside = (s.inside, tt);
        counts = at_true ℕ cond_operators_step ∙ one_stands t s;
        fits = λ g. at_true Bool cond_literals_step;
        below = λ g. at_true Bool (cond_below_step n);
      }

  false_facts : (t : Token) → has is (k.False ∷ []) t.kind ≡ true → CondFacts n p (t ∷ []) c.False
  false_facts t h =
      let s : Stands t = stands (k.False ∷ []) t (refl, tt) (refl, tt) h in
      record {
        inside = (s.inside, tt);
        counts = at_false ℕ cond_operators_step ∙ one_stands t s;
        fits = λ g. at_false Bool cond_literals_step;
        below = λ g. at_false Bool (cond_below_step n);
      }

  -- a token that is no operator between tokens
  ops_apart : (u : List Token) (t : Token) (v : List Token) → Stands t → ops (u ++ t ∷ v) ≡ ops u + ops v
  ops_apart u t v s = omega (arith, ops_both u (t ∷ v), ap (λ z. one_if z + ops v) s.counts)

  cmp_facts : (t : Token) (r : Rel) (u v : List Token) (x y : Expr) → Stands t → ExprFacts n p u x → ExprFacts n p v y → CondFacts n p (u ++ t ∷ v) (c.Cmp x r y)
  cmp_facts t r u v x y s f g = record {
    inside = each_both Inside u (t ∷ v) f.inside (s.inside, g.inside);
    counts = at_cmp ℕ cond_operators_step x r y ∙ (ap₂ ◌+◌ f.counts g.counts ∙ sym (ops_apart u t v s));
    fits = λ h. at_cmp Bool cond_literals_step x r y ∙ and_from _ _ (f.fits (each_front Small u (t ∷ v) h)) (g.fits (each_rest Small u (t ∷ v) h).1);
    below = λ h. at_cmp Bool (cond_below_step n) x r y ∙ and_from _ _ (f.below (each_front (Known n p) u (t ∷ v) h)) (g.below (each_rest (Known n p) u (t ∷ v) h).1);
  }

  not_facts : (t : Token) (u : List Token) (x : Cond) → Operates t → CondFacts n p u x → CondFacts n p (t ∷ u) (c.Not x)
  not_facts t u x o f = record {
    inside = (o.inside, f.inside);
    counts = at_not ℕ cond_operators_step x ∙ (ap (λ z. 1 + z) f.counts ∙ sym (ops_before t u o));
    fits = λ g. at_not Bool cond_literals_step x ∙ f.fits g.1;
    below = λ g. at_not Bool (cond_below_step n) x ∙ f.below g.1;
  }

  both_facts : (t : Token) (u v : List Token) (x y z : Cond) → Operates t → CondFacts n p u x → CondFacts n p v y
      → cond_operators z ≡ cond_operators x + (1 + cond_operators y) → cond_literals_fit z ≡ (cond_literals_fit x && cond_literals_fit y) → cond_is_below n z ≡ (cond_is_below n x && cond_is_below n y)
      → CondFacts n p (u ++ t ∷ v) z
  both_facts t u v x y z o f g a b d = record {
    inside = inside_between u t v f.inside o g.inside;
    counts = a ∙ (ap₂ (λ i j. i + (1 + j)) f.counts g.counts ∙ sym (ops_between u t v o));
    fits = λ h. b ∙ and_from _ _ (f.fits (each_front Small u (t ∷ v) h)) (g.fits (each_rest Small u (t ∷ v) h).1);
    below = λ h. d ∙ and_from _ _ (f.below (each_front (Known n p) u (t ∷ v) h)) (g.below (each_rest (Known n p) u (t ∷ v) h).1);
  }

  bracket_facts : (s t : Token) (u : List Token) (x : Cond) → Stands s → Stands t → CondFacts n p u x → CondFacts n p (s ∷ (u ++ t ∷ [])) x
  bracket_facts s t u x a b f = record {
    inside = inside_around s u t a f.inside b;
    counts = f.counts ∙ sym (ops_around s u t a b);
    fits = λ h. f.fits (each_inner Small s u t h);
    below = λ h. f.below (each_inner (Known n p) s u t h);
  }

  and_facts : (t : Token) (u v : List Token) (x y : Cond) → Operates t → CondFacts n p u x → CondFacts n p v y → CondFacts n p (u ++ t ∷ v) (c.And x y)
  and_facts t u v x y o f g = both_facts t u v x y (c.And x y) o f g (at_and ℕ cond_operators_step x y) (at_and Bool cond_literals_step x y) (at_and Bool (cond_below_step n) x y)

  or_facts : (t : Token) (u v : List Token) (x y : Cond) → Operates t → CondFacts n p u x → CondFacts n p v y → CondFacts n p (u ++ t ∷ v) (c.Or x y)
  or_facts t u v x y o f g = both_facts t u v x y (c.Or x y) o f g (at_or ℕ cond_operators_step x y) (at_or Bool cond_literals_step x y) (at_or Bool (cond_below_step n) x y)

  cond_end : (u : List Token) (x : Cond) → CondFacts n p u x → CondFacts n p (u ++ []) x
  cond_end u x f = subst (λ z. CondFacts n p z x) (sym (append-nil u)) f

  cond_join : (u v w : List Token) (x : Cond) → CondFacts n p ((u ++ v) ++ w) x → CondFacts n p (u ++ (v ++ w)) x
  cond_join u v w x f = subst (λ z. CondFacts n p z x) (append_assoc u v w) f

  mutual
    pub fact_facts : {u : List Token} {a : Tree Token} → Derives language (ref lang.fact) u a → CondFacts n p u (fact_of p a)
    fact_facts (name (first (both {v = v} (token {t = t} h) d))) = not_facts t v _ (operates (k.Bang ∷ []) t (refl, tt) (refl, tt) h) (fact_facts d)
    fact_facts (name (second (first (token {t = t} h)))) = true_facts t h
    fact_facts (name (second (second (first (token {t = t} h))))) = false_facts t h
    fact_facts (name (second (second (second (first (both (token {t = s} h) (both {u = u} d (token {t = t} g)))))))) =
        bracket_facts s t u _ (stands (k.LBracket ∷ []) s (refl, tt) (refl, tt) h) (stands (k.RBracket ∷ []) t (refl, tt) (refl, tt) g) (cond_facts d)
    fact_facts (name (second (second (second (second (both {u = u} d (both {v = v} (token {t = t} h) g))))))) =
        cmp_facts t (rel_of t.kind) u v _ _
        (stands (k.Lt ∷ k.Le ∷ k.Gt ∷ k.Ge ∷ k.Eq ∷ k.Ne ∷ []) t (refl, (refl, (refl, (refl, (refl, (refl, tt)))))) (refl, (refl, (refl, (refl, (refl, (refl, tt)))))) h)
        (expr_facts d) (expr_facts g)

    conjunct_facts : {v : List Token} {b : Tree Token} → Derives language (many (seq (tok k.And) (ref lang.fact))) v b → (u : List Token) (x : Cond) → CondFacts n p u x → CondFacts n p (u ++ v) (conjuncts p b x)
    conjunct_facts no_more u x f = cond_end u x f
    conjunct_facts (one_more {v = w} (both {v = v} (token {t = t} h) d) m) u x f =
        cond_join u (t ∷ v) w _ (conjunct_facts m (u ++ t ∷ v) _ (and_facts t u v x _ (operates (k.And ∷ []) t (refl, tt) (refl, tt) h) f (fact_facts d)))

    conj_facts : {u : List Token} {a : Tree Token} → Derives language (ref lang.conj) u a → CondFacts n p u (conj_of p a)
    conj_facts (name (both {u = u} d m)) = conjunct_facts m u _ (fact_facts d)

    disjunct_facts : {v : List Token} {b : Tree Token} → Derives language (many (seq (tok k.Or) (ref lang.conj))) v b → (u : List Token) (x : Cond) → CondFacts n p u x → CondFacts n p (u ++ v) (disjuncts p b x)
    disjunct_facts no_more u x f = cond_end u x f
    disjunct_facts (one_more {v = w} (both {v = v} (token {t = t} h) d) m) u x f =
        cond_join u (t ∷ v) w _ (disjunct_facts m (u ++ t ∷ v) _ (or_facts t u v x _ (operates (k.Or ∷ []) t (refl, tt) (refl, tt) h) f (conj_facts d)))

    pub cond_facts : {u : List Token} {a : Tree Token} → Derives language (ref lang.cond) u a → CondFacts n p u (cond_of p a)
    cond_facts (name (both {u = u} d m)) = disjunct_facts m u _ (conj_facts d)
