-- The tokens of a tree, and the lists that the loop over statements builds.
use Rattle.std.proofs.Common.{◌≡◌, ℕ, ◌<◌, false, List, [], ◌∷◌, ◌++◌, length, refl, sym, ap, ap₂, ◌∙◌, append_assoc, arith}
use Rattle.std.specs.Prelude.{Result, Ok, Err}
use Rattle.dc_tokens.specs.declared.token.TokenKind.{TokenKind}
use Rattle.dc_tokens.specs.declared.token.Token.{Token}
use Rattle.dc_grammar.specs.Grammar.{Rule, Tree, pair, Derives, token, nothing, name, both, first, second, no_more, one_more, Grammar}
use Rattle.dc_grammar.specs.Language.{Name}
use Rattle.dc_grammar.specs.Reading.{nullable, ok, Parses}
use Rattle.dc_grammar.specs.Readers.{language_reader}
use Rattle.dc_grammar.proofs.Alone.{consumes}
use Rattle.dc_grammar.proofs.Done.{Done, done}
use Rattle.dc_grammar.proofs.LanguageReader.{language_ahead}
use Rattle.dc_syntax.specs.declared.tree.Stmt.{Stmt}
use Rattle.dc_descent.specs.declared.cursor.Stop.{Stop}
use Rattle.dc_descent.specs.Reads.{Reads, Stops}
use Rattle.dc_descent.specs.Trees.{leaves}
use Rattle.dc_descent.specs.Statements.{head_at, first_at, stmt_of, stmts_of, starts_of, stmt_starts}

-- ---- the tokens of a tree

pub derived_leaves : {K N : Type 0} {G : Grammar K N Token} {r : Rule K N} {u : List Token} {a : Tree Token} → Derives G r u a → leaves a ≡ u
derived_leaves (token h) = refl
derived_leaves nothing = refl
derived_leaves (name d) = derived_leaves d
derived_leaves (both d e) = ap₂ ◌++◌ (derived_leaves d) (derived_leaves e)
derived_leaves (first d) = derived_leaves d
derived_leaves (second d) = derived_leaves d
derived_leaves no_more = refl
derived_leaves (one_more d e) = ap₂ ◌++◌ (derived_leaves d) (derived_leaves e)

pub parsed_leaves : {r : Rule TokenKind Name} {ts us : List Token} {a : Tree Token} → Parses language_reader r ts (ok a us) → ts ≡ leaves a ++ us
parsed_leaves {r} {ts} {us} {a} d =
    let i : Done language_reader r ts (ok a us) = done language_ahead d in
    i.split ∙ ap (λ x. x ++ us) (sym (derived_leaves i.means))

same_head : (l us ts : List Token) → ts ≡ l ++ us → length us < length ts → head_at ts ≡ head_at l
same_head [] us ts e h = absurd (omega (arith, ap length e))
same_head (t ∷ l) us ts e h = ap head_at e

-- a tree begins where its reading begins
pub first_read : {r : Rule TokenKind Name} {ts us : List Token} {a : Tree Token} → Parses language_reader r ts (ok a us) → nullable language_reader r ≡ false → head_at ts ≡ first_at a
first_read {r} {ts} {us} {a} d n = same_head (leaves a) us ts (parsed_leaves d) (consumes language_ahead d n)

-- ---- an answer that another part hands on

pub lift : {X : Type 0} (r q : Rule TokenKind Name) (Is Of : Tree Token → X → Type 0) {ts us : List Token} (o : Result X Stop)
    → ((e : Stop) → Stops r ts e us → Stops q ts e us)
    → ((a : Tree Token) (x : X) → Parses language_reader r ts (ok a us) → Is a x → (b : Tree Token) × Parses language_reader q ts (ok b us) × Of b x)
    → Reads r Is ts o us → Reads q Of ts o us
lift r q Is Of (Ok x) s f d = f d.0 x d.1 d.2
lift r q Is Of (Err e) s f d = s e d

-- ---- statements, and the offsets at which they begin

abbrev pub both_of : (Token → ℕ) → Tree Token → List Stmt × List ℕ → List Stmt × List ℕ
both_of p t v = (v.0 ++ stmts_of p t, v.1 ++ starts_of t)

pub pairs : {A B : Type 0} (a x : A) (b y : B) → a ≡ x → b ≡ y → ◌≡◌ {A = A × B} (a, b) (x, y)
pairs a x b y p q = ap (λ z. (z, b)) p ∙ ap (λ z. (x, z)) q

pub both_more : (p : Token → ℕ) (x b : Tree Token) (xs ys : List Stmt) (ns ms : List ℕ) (s : Stmt) → stmt_of p x ≡ s → ys ≡ xs ++ s ∷ [] → ms ≡ ns ++ stmt_starts x
    → both_of p (pair x b) (xs, ns) ≡ both_of p b (ys, ms)
both_more p x b xs ys ns ms s e f g =
    pairs _ _ _ _
    (ap (λ z. xs ++ z ∷ stmts_of p b) e ∙ (sym (append_assoc xs (s ∷ []) (stmts_of p b)) ∙ ap (λ z. z ++ stmts_of p b) (sym f)))
    (sym (append_assoc ns (stmt_starts x) (starts_of b)) ∙ ap (λ z. z ++ starts_of b) (sym g))

pub begun_first : (old new : List ℕ) (p q : ℕ) → new ≡ old ++ p ∷ [] → p ≡ q → new ≡ old ++ q ∷ []
begun_first old new p q e g = e ∙ ap (λ z. old ++ z ∷ []) g

-- one offset, then those inside
pub begun_then : (old mid new inner : List ℕ) (p q : ℕ) → mid ≡ old ++ p ∷ [] → new ≡ mid ++ inner → p ≡ q → new ≡ old ++ q ∷ inner
begun_then old mid new inner p q e f g = f ∙ (ap (λ z. z ++ inner) e ∙ (append_assoc old (p ∷ []) inner ∙ ap (λ z. old ++ z ∷ inner) g))

pub begun_both : (old mid new a b : List ℕ) → mid ≡ old ++ a → new ≡ mid ++ b → new ≡ old ++ (a ++ b)
begun_both old mid new a b e f = f ∙ (ap (λ z. z ++ b) e ∙ append_assoc old a b)
