-- A test that each kind of token in the list of all passes is passed by each kind.
use Rattle.std.proofs.Common.{◌≡◌, ℕ, zero, suc, Bool, true, false, ◌||◌, nat_eq, List, [], ◌∷◌, get_or, refl, ap, sym, ◌∙◌, subst, arith}
use Rattle.std.proofs.lemmas.Bool.Decides.{nat_tests}
use Rattle.std.proofs.lemmas.Bool.{eqb-true}
use Rattle.dc_tokens.specs.declared.token.TokenKind.{TokenKind}
use Rattle.dc_tokens.specs.declared.token.TokenKind.TheVariants as k
use Rattle.dc_tokens.specs.declared.token.Token.{Token}
use Rattle.dc_tokens.proofs.Front.{and_left, and_right}
use Rattle.dc_grammar.specs.Kinds.{number, is, kinds}
use Rattle.dc_grammar.specs.Grammar.{has}
use Rattle.dc_grammar.specs.Lookahead.{every}

-- the kind with a number
pub kind_at : (j : TokenKind) → get_or kinds (number j) k.Name ≡ j
kind_at k.Name = refl
kind_at k.Number = refl
kind_at k.Proc = refl
kind_at k.Var = refl
kind_at k.Skip = refl
kind_at k.Tick = refl
kind_at k.Any = refl
kind_at k.Assume = refl
kind_at k.If = refl
kind_at k.Else = refl
kind_at k.While = refl
kind_at k.True = refl
kind_at k.False = refl
kind_at k.LParen = refl
kind_at k.RParen = refl
kind_at k.LBrace = refl
kind_at k.RBrace = refl
kind_at k.LBracket = refl
kind_at k.RBracket = refl
kind_at k.Comma = refl
kind_at k.Semi = refl
kind_at k.Assign = refl
kind_at k.Eq = refl
kind_at k.Ne = refl
kind_at k.Lt = refl
kind_at k.Le = refl
kind_at k.Gt = refl
kind_at k.Ge = refl
kind_at k.Plus = refl
kind_at k.Minus = refl
kind_at k.Star = refl
kind_at k.Bang = refl
kind_at k.And = refl
kind_at k.Or = refl

every_at : {K : Type 0} (p : K → Bool) (ks : List K) (d : K) → p d ≡ true → every ks p ≡ true → (n : ℕ) → p (get_or ks n d) ≡ true
unfolding every
every_at p [] d e h n = e
every_at p (j ∷ ks) d e h zero = and_left (p j) _ h
every_at p (j ∷ ks) d e h (suc n) = every_at p ks d e (and_right (p j) _ h) n

first_of_all : (p : TokenKind → Bool) → every kinds p ≡ true → p k.Name ≡ true
unfolding every
first_of_all p h = and_left (p k.Name) _ h

pub all_kinds : (p : TokenKind → Bool) → every kinds p ≡ true → (j : TokenKind) → p j ≡ true
all_kinds p h j = subst (λ i. p i ≡ true) (kind_at j) (every_at p kinds k.Name (first_of_all p h) h (number j))

is_equal : (n : ℕ) → nat_eq n n ≡ true
is_equal n = grind (arith, nat_tests)

pub same_self : (j : TokenKind) → is j j ≡ true
same_self j = is_equal (number j)

-- kinds with the same number are the same
pub same_kind : (i j : TokenKind) → is i j ≡ true → i ≡ j
same_kind i j h = sym (kind_at i) ∙ (ap (λ n. get_or kinds n k.Name) (eqb-true (number i) (number j) h) ∙ kind_at j)

only : (b : Bool) → b || false ≡ true → b ≡ true
only true h = refl
only false h = h

-- a kind among one
pub one_kind : (j i : TokenKind) → has is (j ∷ []) i ≡ true → i ≡ j
one_kind j i h = sym (same_kind j i (only (is j i) h))

-- each kind has a token
pub some_token : (j : TokenKind) → (t : Token) × (t.kind ≡ j)
some_token j = (record { kind = j; at = 0; end = 0; value = 0 }, refl)
