-- Whatever way an expression or a condition is derived, its tokens have at least the brackets that it needs.
use Rattle.std.proofs.Common.{◌≡◌, ℕ, suc, ◌≤◌, Bool, true, false, ◌||◌, List, [], ◌∷◌, ◌++◌, refl, sym, ap, subst, ◌∙◌, arith, append_assoc, append-nil}
use Rattle.std.specs.Prelude.{if◌then◌else◌}
use Rattle.dc_tokens.specs.declared.token.TokenKind.{TokenKind}
use Rattle.dc_tokens.specs.declared.token.TokenKind.TheVariants as k
use Rattle.dc_tokens.specs.declared.token.Token.{Token}
use Rattle.dc_grammar.specs.Kinds.{is}
use Rattle.dc_grammar.specs.Grammar.{one, ref, seq, many, tok, Tree, has, Derives, token, name, both, first, second, no_more, one_more}
use Rattle.dc_grammar.specs.Language.{language, expr, term, unary, cond, conj, fact}
use Rattle.dc_grammar.proofs.AllKinds.{same_kind, one_kind}
use Rattle.dc_syntax.specs.declared.tree.Expr.{Expr}
use Rattle.dc_syntax.specs.declared.tree.Expr.TheVariants.{Add, Sub, Mul}
use Rattle.dc_syntax.specs.declared.tree.Cond.{Cond}
use Rattle.dc_syntax.specs.declared.tree.Cond.TheVariants.{And, Or}
use Rattle.dc_syntax.specs.declared.layer.Layer.{Layer}
use Rattle.dc_syntax.specs.declared.layer.Layer.TheVariants.{Loose, Middle, Tight}
use Rattle.dc_syntax.specs.Text.{is_within}
use Rattle.dc_descent.specs.Trees.{sum_by, unary_of, term_of, factors, expr_of, summands, rel_of, fact_of, conj_of, conjuncts, cond_of, disjuncts}
use Rattle.dc_printed.specs.Brackets.{bracket_of, brackets_in}
use Rattle.dc_printed.proofs.Words.{brackets_in-append}
use Rattle.dc_printed.proofs.Measures.{Measure}
use Rattle.dc_printed.proofs.Needs.{Part, need_in, part, cond_part, part-Num, part-Var, part-Neg, part-Add, part-Sub, part-Mul, part-True, part-False, part-Cmp, part-Not, part-And, part-Or}

-- ---- the kinds of tokens

abbrev AllPlain : List TokenKind → Type 0
AllPlain [] = Unit {0}
AllPlain (j ∷ ks) = (bracket_of j ≡ []) × AllPlain ks

pub plain_among : (ks : List TokenKind) → AllPlain ks → (i : TokenKind) → has is ks i ≡ true → bracket_of i ≡ []
plain_among [] h i g = absurd cc
plain_among (j ∷ ks) h i g = at_first (is j i) refl (plain_among ks h.1 i)
  where
    at_first : (z : Bool) → is j i ≡ z → (has is ks i ≡ true → bracket_of i ≡ []) → bracket_of i ≡ []
    at_first true e f = ap bracket_of (sym (same_kind j i e)) ∙ h.0
    at_first false e f = f (subst (λ z. z || has is ks i ≡ true) e g)

-- ---- need_in

loose_middle : (v : Part) → v.need ≤ need_in Middle v
loose_middle v = go v.layer
  where
    go : (l : Layer) → v.need ≤ (if is_within l Middle then v.need else suc v.need)
    go Loose = omega arith
    go Middle = omega arith
    go Tight = omega arith

middle_tight : (v : Part) → need_in Middle v ≤ need_in Tight v
middle_tight v = go v.layer
  where
    go : (l : Layer) → (if is_within l Middle then v.need else suc v.need) ≤ (if is_within l Tight then v.need else suc v.need)
    go Loose = omega arith
    go Middle = omega arith
    go Tight = omega arith

tight_suc : (v : Part) → need_in Tight v ≤ suc v.need
tight_suc v = go v.layer
  where
    go : (l : Layer) → (if is_within l Tight then v.need else suc v.need) ≤ suc v.need
    go Loose = omega arith
    go Middle = omega arith
    go Tight = omega arith

module _ (M : Measure) where
  -- the brackets of the tokens measure at least so much
  pub record AtLeast (us : List Token) (n : ℕ) : Type 0 where
    pub size : ℕ
    pub sized : M.Sized (brackets_in us) size
    pub enough : n ≤ size

  pub less : {us : List Token} {m n : ℕ} → m ≤ n → AtLeast us n → AtLeast us m
  less l h = record { size = h.size; sized = h.sized; enough = (let e = h.enough in omega arith) }

  pub at_none : AtLeast [] 0
  at_none = record { size = 0; sized = M.empty; enough = omega arith }

  pub at_join : {us vs : List Token} {m n : ℕ} → AtLeast us m → AtLeast vs n → AtLeast (us ++ vs) (M.c m n)
  at_join {us} {vs} {m} {n} h g = record {
    size = M.c h.size g.size;
    sized = subst (λ v. M.Sized v (M.c h.size g.size)) (sym (brackets_in-append us vs)) (let f = M.join in f (brackets_in us) (brackets_in vs) h.size g.size h.sized g.sized);
    enough = (let f = M.c_mono in f m h.size n g.size h.enough g.enough);
  }

  pub at_token : (t : Token) → bracket_of t.kind ≡ [] → AtLeast (t ∷ []) 0
  at_token t h = record { size = 0; sized = subst (λ v. M.Sized v 0) (sym (append-nil (bracket_of t.kind) ∙ h)) M.empty; enough = omega arith }

  -- a token without a bracket, before others and after them
  pub at_after : {us : List Token} {n : ℕ} (t : Token) → bracket_of t.kind ≡ [] → AtLeast us n → AtLeast (t ∷ us) n
  at_after {us} {n} t e h = record { size = h.size; sized = subst (λ v. M.Sized v h.size) (sym (ap (λ v. v ++ brackets_in us) e)) h.sized; enough = h.enough }

  pub at_before : {us : List Token} {n : ℕ} (t : Token) → bracket_of t.kind ≡ [] → AtLeast us n → AtLeast (us ++ t ∷ []) n
  at_before {us} {n} t e h = record {
    size = h.size;
    sized = subst (λ v. M.Sized v h.size) (sym (brackets_in-append us (t ∷ []) ∙ (ap (λ v. brackets_in us ++ (v ++ [])) e ∙ append-nil (brackets_in us)))) h.sized;
    enough = h.enough;
  }

  bracketed : {us : List Token} {n : ℕ} (o d : Token) (x y : ℕ) → bracket_of o.kind ≡ x ∷ [] → bracket_of d.kind ≡ y ∷ [] → (f : ℕ → ℕ) → ((i : ℕ) → n ≤ i → f n ≤ f i)
      → ((t : List ℕ) (i : ℕ) → M.Sized t i → M.Sized (x ∷ (t ++ y ∷ [])) (f i)) → AtLeast us n → AtLeast (o ∷ (us ++ d ∷ [])) (f n)
  bracketed {us} {n} o d x y e g f m s h = record {
    size = f h.size;
    sized = subst (λ v. M.Sized v (f h.size)) (sym ((λ j. e j ++ brackets_in (us ++ d ∷ [])) ∙ ap (λ v. x ∷ v) (brackets_in-append us (d ∷ []) ∙ ap (λ v. brackets_in us ++ (v ++ [])) g))) (s (brackets_in us) h.size h.sized);
    enough = m h.size h.enough;
  }

  pub at_round : {us : List Token} {n : ℕ} (o d : Token) → o.kind ≡ k.LParen → d.kind ≡ k.RParen → AtLeast us n → AtLeast (o ∷ (us ++ d ∷ [])) (suc n)
  at_round o d e g h = bracketed o d 40 41 (ap bracket_of e) (ap bracket_of g) suc (λ i l. omega arith) M.round h

  pub at_square : {us : List Token} {n : ℕ} (o d : Token) → o.kind ≡ k.LBracket → d.kind ≡ k.RBracket → AtLeast us n → AtLeast (o ∷ (us ++ d ∷ [])) (suc n)
  at_square o d e g h = bracketed o d 91 93 (ap bracket_of e) (ap bracket_of g) suc (λ i l. omega arith) M.square h

  pub at_brace : {us : List Token} {n : ℕ} (o d : Token) → o.kind ≡ k.LBrace → d.kind ≡ k.RBrace → AtLeast us n → AtLeast (o ∷ (us ++ d ∷ [])) (M.b n)
  at_brace {us} {n} o d e g h = bracketed o d 123 125 (ap bracket_of e) (ap bracket_of g) M.b (λ i l. let f = M.b_mono in f n i l) M.brace h

  pub same_need : {us : List Token} {n : ℕ} (asked : Layer) (w v : Part) → w ≡ v → n ≡ need_in asked v → AtLeast us n → AtLeast us (need_in asked w)
  same_need {us} asked w v e g h = subst (λ x. AtLeast us (need_in asked x)) (sym e) (subst (AtLeast us) g h)

  module _ (p : Token → ℕ) where
    mutual
      pub low_unary : {us : List Token} {a : Tree Token} → Derives language (ref unary) us a → AtLeast us (need_in Tight (part M (unary_of p a)))
      low_unary (name (first (both {b = x} (token {t = t} h) d))) = same_need Tight _ _ (part-Neg M (unary_of p x)) refl (at_after t (ap bracket_of (one_kind k.Minus t.kind h)) (low_unary d))
      low_unary (name (second (first (token {t = t} h)))) = same_need Tight _ _ (part-Num M t.value) refl (at_token t (ap bracket_of (one_kind k.Number t.kind h)))
      low_unary (name (second (second (first (token {t = t} h))))) = same_need Tight _ _ (part-Var M (p t)) refl (at_token t (ap bracket_of (one_kind k.Name t.kind h)))
      low_unary (name (second (second (second (both (token {t = o} h) (both {a = x} d (token {t = c} g))))))) =
          less (tight_suc (part M (expr_of p x))) (at_round o c (one_kind k.LParen o.kind h) (one_kind k.RParen c.kind g) (low_expr d))

      low_factors : {vs : List Token} {b : Tree Token} → Derives language (many (seq (tok k.Star) (ref unary))) vs b → (f : Expr) (us : List Token)
          → AtLeast us (need_in Middle (part M f)) → AtLeast (us ++ vs) (need_in Middle (part M (factors p b f)))
      low_factors no_more f us h = subst (λ v. AtLeast v (need_in Middle (part M f))) (sym (append-nil us)) h
      low_factors (one_more {v = vs} {b = y} (both {v = u} {b = x} (token {t = t} s) d) g) f us h =
          subst (λ v. AtLeast v (need_in Middle (part M (factors p y (Mul f (unary_of p x)))))) (append_assoc us (t ∷ u) vs)
          (low_factors g (Mul f (unary_of p x)) (us ++ t ∷ u) (same_need Middle _ _ (part-Mul M f (unary_of p x)) refl (at_join h (at_after t (ap bracket_of (one_kind k.Star t.kind s)) (low_unary d)))))

      pub low_term : {us : List Token} {a : Tree Token} → Derives language (ref term) us a → AtLeast us (need_in Middle (part M (term_of p a)))
      low_term (name (both {u = u} {a = x} d g)) = low_factors g (unary_of p x) u (less (middle_tight (part M (unary_of p x))) (low_unary d))

      low_summands : {vs : List Token} {b : Tree Token} → Derives language (many (seq (one k.Plus (k.Minus ∷ [])) (ref term))) vs b → (f : Expr) (us : List Token)
          → AtLeast us (part M f).need → AtLeast (us ++ vs) (part M (summands p b f)).need
      low_summands no_more f us h = subst (λ v. AtLeast v (part M f).need) (sym (append-nil us)) h
      low_summands (one_more {v = vs} {b = y} (both {v = u} {b = x} (token {t = t} s) d) g) f us h =
          subst (λ v. AtLeast v (part M (summands p y (sum_by t.kind f (term_of p x)))).need) (append_assoc us (t ∷ u) vs)
          (low_summands g (sum_by t.kind f (term_of p x)) (us ++ t ∷ u)
          (summed (is k.Plus t.kind) (at_join h (at_after t (plain_among (k.Plus ∷ k.Minus ∷ []) (refl, (refl, tt)) t.kind s) (low_term d)))))
        where
          summed : (z : Bool) → AtLeast (us ++ t ∷ u) (M.c (part M f).need (need_in Middle (part M (term_of p x)))) → AtLeast (us ++ t ∷ u) (part M (if z then Add f (term_of p x) else Sub f (term_of p x))).need
          summed true h = same_need Loose _ _ (part-Add M f (term_of p x)) refl h
          summed false h = same_need Loose _ _ (part-Sub M f (term_of p x)) refl h

      pub low_expr : {us : List Token} {a : Tree Token} → Derives language (ref expr) us a → AtLeast us (part M (expr_of p a)).need
      low_expr (name (both {u = u} {a = x} d g)) = low_summands g (term_of p x) u (less (loose_middle (part M (term_of p x))) (low_term d))

    mutual
      pub low_fact : {us : List Token} {a : Tree Token} → Derives language (ref fact) us a → AtLeast us (need_in Tight (cond_part M (fact_of p a)))
      low_fact (name (first (both {b = x} (token {t = t} h) d))) = same_need Tight _ _ (part-Not M (fact_of p x)) refl (at_after t (ap bracket_of (one_kind k.Bang t.kind h)) (low_fact d))
      low_fact (name (second (first (token {t = t} h)))) = same_need Tight _ _ (part-True M) refl (at_token t (ap bracket_of (one_kind k.True t.kind h)))
      low_fact (name (second (second (first (token {t = t} h))))) = same_need Tight _ _ (part-False M) refl (at_token t (ap bracket_of (one_kind k.False t.kind h)))
      low_fact (name (second (second (second (first (both (token {t = o} h) (both {a = x} d (token {t = c} g)))))))) =
          less (tight_suc (cond_part M (cond_of p x))) (at_square o c (one_kind k.LBracket o.kind h) (one_kind k.RBracket c.kind g) (low_cond d))
      low_fact (name (second (second (second (second (both {a = x} d (both {b = y} (token {t = t} s) g))))))) =
          same_need Tight _ _ (part-Cmp M (expr_of p x) (rel_of t.kind) (expr_of p y)) refl (at_join (low_expr d) (at_after t (plain_among (k.Lt ∷ k.Le ∷ k.Gt ∷ k.Ge ∷ k.Eq ∷ k.Ne ∷ []) (refl, (refl, (refl, (refl, (refl, (refl, tt)))))) t.kind s) (low_expr g)))

      low_conjuncts : {vs : List Token} {b : Tree Token} → Derives language (many (seq (tok k.And) (ref fact))) vs b → (f : Cond) (us : List Token)
          → AtLeast us (need_in Middle (cond_part M f)) → AtLeast (us ++ vs) (need_in Middle (cond_part M (conjuncts p b f)))
      low_conjuncts no_more f us h = subst (λ v. AtLeast v (need_in Middle (cond_part M f))) (sym (append-nil us)) h
      low_conjuncts (one_more {v = vs} {b = y} (both {v = u} {b = x} (token {t = t} s) d) g) f us h =
          subst (λ v. AtLeast v (need_in Middle (cond_part M (conjuncts p y (And f (fact_of p x)))))) (append_assoc us (t ∷ u) vs)
          (low_conjuncts g (And f (fact_of p x)) (us ++ t ∷ u) (same_need Middle _ _ (part-And M f (fact_of p x)) refl (at_join h (at_after t (ap bracket_of (one_kind k.And t.kind s)) (low_fact d)))))

      pub low_conj : {us : List Token} {a : Tree Token} → Derives language (ref conj) us a → AtLeast us (need_in Middle (cond_part M (conj_of p a)))
      low_conj (name (both {u = u} {a = x} d g)) = low_conjuncts g (fact_of p x) u (less (middle_tight (cond_part M (fact_of p x))) (low_fact d))

      low_disjuncts : {vs : List Token} {b : Tree Token} → Derives language (many (seq (tok k.Or) (ref conj))) vs b → (f : Cond) (us : List Token)
          → AtLeast us (cond_part M f).need → AtLeast (us ++ vs) (cond_part M (disjuncts p b f)).need
      low_disjuncts no_more f us h = subst (λ v. AtLeast v (cond_part M f).need) (sym (append-nil us)) h
      low_disjuncts (one_more {v = vs} {b = y} (both {v = u} {b = x} (token {t = t} s) d) g) f us h =
          subst (λ v. AtLeast v (cond_part M (disjuncts p y (Or f (conj_of p x)))).need) (append_assoc us (t ∷ u) vs)
          (low_disjuncts g (Or f (conj_of p x)) (us ++ t ∷ u) (same_need Loose _ _ (part-Or M f (conj_of p x)) refl (at_join h (at_after t (ap bracket_of (one_kind k.Or t.kind s)) (low_conj d)))))

      pub low_cond : {us : List Token} {a : Tree Token} → Derives language (ref cond) us a → AtLeast us (cond_part M (cond_of p a)).need
      low_cond (name (both {u = u} {a = x} d g)) = low_disjuncts g (conj_of p x) u (less (loose_middle (cond_part M (conj_of p x))) (low_conj d))
