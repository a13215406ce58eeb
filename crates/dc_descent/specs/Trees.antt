-- What the derivation of an expression or a condition says, where p gives the place that a name
-- stands for.
use Rattle.std.specs.Prelude.{◌≡◌, ℕ, List, [], ◌∷◌, ◌++◌, if◌then◌else◌}
use Rattle.dc_tokens.specs.declared.token.TokenKind.{TokenKind}
use Rattle.dc_tokens.specs.declared.token.TokenKind.TheVariants as k
use Rattle.dc_tokens.specs.declared.token.Token.{Token}
use Rattle.dc_grammar.specs.Grammar.{Tree, leaf, none, pair, left, right}
use Rattle.dc_grammar.specs.Kinds.{is}
use Rattle.dc_syntax.specs.declared.tree.Expr.{Expr}
use Rattle.dc_syntax.specs.declared.tree.Expr.TheVariants as e
use Rattle.dc_syntax.specs.declared.tree.Rel.{Rel}
use Rattle.dc_syntax.specs.declared.tree.Rel.TheVariants as r
use Rattle.dc_syntax.specs.declared.tree.Cond.{Cond}
use Rattle.dc_syntax.specs.declared.tree.Cond.TheVariants as c

-- the tokens of a tree, in order
abbrev pub leaves : Tree Token → List Token
leaves (leaf t) = t ∷ []
leaves none = []
leaves (pair a b) = leaves a ++ leaves b
leaves (left a) = leaves a
leaves (right a) = leaves a

-- a sum or a difference, by its sign
abbrev pub sum_by : TokenKind → Expr → Expr → Expr
sum_by j a b = if is k.Plus j then e.Add a b else e.Sub a b

abbrev mutual
  -- "-" unary | NUMBER | NAME | "(" expr ")"
  pub unary_of : (Token → ℕ) → Tree Token → Expr
  unary_of p (left (pair minus a)) = e.Neg (unary_of p a)
  unary_of p (right (left (leaf t))) = e.Num t.value
  unary_of p (right (right (left (leaf t)))) = e.Var (p t)
  unary_of p (right (right (right (pair opens (pair a closes))))) = expr_of p a
  unary_of p _ = e.Num 0

  -- unary { "*" unary }, to the left
  pub term_of : (Token → ℕ) → Tree Token → Expr
  term_of p (pair a more) = factors p more (unary_of p a)
  term_of p _ = e.Num 0

  pub factors : (Token → ℕ) → Tree Token → Expr → Expr
  factors p (pair (pair star a) more) f = factors p more (e.Mul f (unary_of p a))
  factors p _ f = f

  -- term { ( "+" | "-" ) term }, to the left
  pub expr_of : (Token → ℕ) → Tree Token → Expr
  expr_of p (pair a more) = summands p more (term_of p a)
  expr_of p _ = e.Num 0

  pub summands : (Token → ℕ) → Tree Token → Expr → Expr
  summands p (pair (pair (leaf sign) a) more) f = summands p more (sum_by sign.kind f (term_of p a))
  summands p _ f = f

abbrev pub rel_of : TokenKind → Rel
rel_of k.Lt = r.Lt
rel_of k.Le = r.Le
rel_of k.Gt = r.Gt
rel_of k.Ge = r.Ge
rel_of k.Eq = r.Eq
rel_of _ = r.Ne

abbrev mutual
  -- "!" fact | "true" | "false" | "[" cond "]" | expr REL expr
  pub fact_of : (Token → ℕ) → Tree Token → Cond
  fact_of p (left (pair bang a)) = c.Not (fact_of p a)
  fact_of p (right (left sign)) = c.True
  fact_of p (right (right (left sign))) = c.False
  fact_of p (right (right (right (left (pair opens (pair a closes)))))) = cond_of p a
  fact_of p (right (right (right (right (pair a (pair (leaf rel) b)))))) =
      c.Cmp (expr_of p a) (rel_of rel.kind) (expr_of p b)
  fact_of p _ = c.True

  -- fact { "&&" fact }, to the left
  pub conj_of : (Token → ℕ) → Tree Token → Cond
  conj_of p (pair a more) = conjuncts p more (fact_of p a)
  conj_of p _ = c.True

  pub conjuncts : (Token → ℕ) → Tree Token → Cond → Cond
  conjuncts p (pair (pair and a) more) f = conjuncts p more (c.And f (fact_of p a))
  conjuncts p _ f = f

  -- conj { "||" conj }, to the left
  pub cond_of : (Token → ℕ) → Tree Token → Cond
  cond_of p (pair a more) = disjuncts p more (conj_of p a)
  cond_of p _ = c.True

  pub disjuncts : (Token → ℕ) → Tree Token → Cond → Cond
  disjuncts p (pair (pair or a) more) f = disjuncts p more (c.Or f (conj_of p a))
  disjuncts p _ f = f

abbrev pub IsUnary : (Token → ℕ) → Tree Token → Expr → Type 0
IsUnary p a x = unary_of p a ≡ x

abbrev pub IsTerm : (Token → ℕ) → Tree Token → Expr → Type 0
IsTerm p a x = term_of p a ≡ x

abbrev pub IsExpr : (Token → ℕ) → Tree Token → Expr → Type 0
IsExpr p a x = expr_of p a ≡ x

abbrev pub IsFact : (Token → ℕ) → Tree Token → Cond → Type 0
IsFact p a x = fact_of p a ≡ x

abbrev pub IsConj : (Token → ℕ) → Tree Token → Cond → Type 0
IsConj p a x = conj_of p a ≡ x

abbrev pub IsCond : (Token → ℕ) → Tree Token → Cond → Type 0
IsCond p a x = cond_of p a ≡ x
