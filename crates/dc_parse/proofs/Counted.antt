-- Kinds of tokens, and how many operators stand among tokens.
use Rattle.std.proofs.Common.{◌≡◌, ℕ, ◌+◌, Bool, true, false, not, ◌||◌, List, [], ◌∷◌, ◌++◌, refl, subst, arith}
use Rattle.std.specs.List.{AllByRecursion}
use Rattle.std.proofs.lemmas.Bool.{not-true}
use Rattle.dc_tokens.specs.declared.token.TokenKind.{TokenKind}
use Rattle.dc_tokens.specs.declared.token.TokenKind.TheVariants as k
use Rattle.dc_tokens.specs.declared.token.Token.{Token}
use Rattle.dc_grammar.specs.Grammar.{has}
use Rattle.dc_grammar.specs.Kinds.{is}
use Rattle.dc_grammar.specs.Depth as depth
use Rattle.dc_grammar.proofs.AllKinds.{same_kind}

-- ---- a kind is known by its number

-- each kind of a list passes a test
abbrev pub Pass : (TokenKind → Bool) → List TokenKind → Type 0
Pass p [] = Unit {0}
Pass p (j ∷ js) = (p j ≡ true) × Pass p js

first_or : (p : TokenKind → Bool) (i j : TokenKind) (b c : Bool) → is i j ≡ b → p i ≡ true → b || c ≡ true → (c ≡ true → p j ≡ true) → p j ≡ true
first_or p i j true c e a h more = subst (λ z. p z ≡ true) (same_kind i j e) a
first_or p i j false c e a h more = more h

pub has_passes : (p : TokenKind → Bool) (js : List TokenKind) (j : TokenKind) → Pass p js → has is js j ≡ true → p j ≡ true
has_passes p [] j a h = absurd cc
has_passes p (i ∷ js) j a h = first_or p i j (is i j) (has is js j) refl a.0 h (λ g. has_passes p js j a.1 g)

-- ---- the tokens of expressions and conditions

abbrev pub is_operator : TokenKind → Bool
is_operator j = has is depth.operators j

abbrev pub is_inside : TokenKind → Bool
is_inside j = is_operator j || has is depth.operands j

pub each_both : (P : Token → Type 0) (u v : List Token) → AllByRecursion P u → AllByRecursion P v → AllByRecursion P (u ++ v)
each_both P [] v h g = g
each_both P (t ∷ u) v h g = (h.0, each_both P u v h.1 g)

pub each_front : (P : Token → Type 0) (u v : List Token) → AllByRecursion P (u ++ v) → AllByRecursion P u
each_front P [] v h = tt
each_front P (t ∷ u) v h = (h.0, each_front P u v h.1)

pub each_rest : (P : Token → Type 0) (u v : List Token) → AllByRecursion P (u ++ v) → AllByRecursion P v
each_rest P [] v h = h
each_rest P (t ∷ u) v h = each_rest P u v h.1

abbrev pub Inside : Token → Type 0
Inside t = is_inside t.kind ≡ true

abbrev pub one_if : Bool → ℕ
one_if true = 1
one_if false = 0

-- the number of operators among tokens
abbrev pub ops : List Token → ℕ
ops [] = 0
ops (t ∷ ts) = one_if (is_operator t.kind) + ops ts

pub ops_both : (u v : List Token) → ops (u ++ v) ≡ ops u + ops v
ops_both [] v = omega arith
ops_both (t ∷ u) v = omega (arith, ops_both u v)

-- an operator, and another token of an expression
pub record Operates (t : Token) : Type 0 where
  pub counts : is_operator t.kind ≡ true
  pub inside : is_inside t.kind ≡ true

pub record Stands (t : Token) : Type 0 where
  pub counts : is_operator t.kind ≡ false
  pub inside : is_inside t.kind ≡ true

pub operates : (js : List TokenKind) (t : Token) → Pass is_operator js → Pass is_inside js → has is js t.kind ≡ true → Operates t
operates js t a b h = record { counts = has_passes is_operator js t.kind a h; inside = has_passes is_inside js t.kind b h }

pub stands : (js : List TokenKind) (t : Token) → Pass (λ j. not (is_operator j)) js → Pass is_inside js → has is js t.kind ≡ true → Stands t
stands js t a b h = record { counts = not-true (is_operator t.kind) (has_passes (λ j. not (is_operator j)) js t.kind a h); inside = has_passes is_inside js t.kind b h }
