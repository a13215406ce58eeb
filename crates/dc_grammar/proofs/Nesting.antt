-- A text of the grammar closes each bracket that it opens, the last one first.
use Rattle.std.proofs.Common.{◌≡◌, ℕ, suc, ◌+◌, ◌-◌, Bool, true, false, List, [], ◌∷◌, ◌++◌, length, refl, sym, ap, ◌∙◌, subst, arith}
use Rattle.std.specs.Prelude.{fold, if◌then◌else◌}
use Rattle.dc_tokens.specs.declared.token.TokenKind.{TokenKind}
use Rattle.dc_tokens.specs.declared.token.Token.{Token}
use Rattle.dc_grammar.specs.Grammar.{Rule, one, nil, ref, seq, alt, many, tok, Tree, Derives, has}
use Rattle.dc_grammar.specs.Grammar as D
use Rattle.dc_grammar.specs.Kinds.{is, kinds}
use Rattle.dc_grammar.specs.Lookahead.{every, implies}
use Rattle.dc_grammar.specs.Language.{Name, source, names, stmt, assigned, choice, block, expr, term, unary, cond, conj, fact, rules, language}
use Rattle.dc_grammar.specs.Depth.{opening, closing, brackets_with, open_brackets}
use Rattle.dc_grammar.specs.Nesting.{Pair, parens, squares, braces, Nests, nothing, opens, closes, passes, CountsOpen}
use Rattle.dc_grammar.proofs.Tests.{implies_true}
use Rattle.dc_grammar.proofs.AllKinds.{all_kinds, one_kind}

-- ---- tokens one after the other

pub nests-append : {s t u : List TokenKind} {us vs : List Token} → Nests s us t → Nests t vs u → Nests s (us ++ vs) u
nests-append nothing h = h
nests-append (opens e g) h = opens e (nests-append g h)
nests-append (closes e g) h = closes e (nests-append g h)
nests-append (passes e f g) h = passes e f (nests-append g h)

pub nests_front : (us vs : List Token) {s u : List TokenKind} → Nests s (us ++ vs) u → (t : List TokenKind) × Nests s us t
nests_front [] vs {s = s} h = (s, nothing)
nests_front (t ∷ us) vs (opens e g) = let r = nests_front us vs g in (r.0, opens e r.1)
nests_front (t ∷ us) vs (closes e g) = let r = nests_front us vs g in (r.0, closes e r.1)
nests_front (t ∷ us) vs (passes e f g) = let r = nests_front us vs g in (r.0, passes e f r.1)

-- ---- the scan

pair_closes : {j i : TokenKind} → Pair j i → (has is opening i ≡ false) × (has is closing i ≡ true)
pair_closes parens = (refl, refl)
pair_closes squares = (refl, refl)
pair_closes braces = (refl, refl)

up : (n : ℕ) (a b : Bool) → a ≡ true → (if a then n + 1 else (if b then n - 1 else n)) ≡ suc n
up n true b h = omega arith
up n false b h = absurd cc

down : (n : ℕ) (a b : Bool) → a ≡ false → b ≡ true → (if a then suc n + 1 else (if b then suc n - 1 else suc n)) ≡ n
down n true b h g = absurd cc
down n false true h g = omega arith
down n false false h g = absurd cc

level : (n : ℕ) (a b : Bool) → a ≡ false → b ≡ false → (if a then n + 1 else (if b then n - 1 else n)) ≡ n
level n true b h g = absurd cc
level n false true h g = absurd cc
level n false false h g = refl

pub counted : {s u : List TokenKind} {ts : List Token} → Nests s ts u → fold brackets_with (length s) ts ≡ length u
counted nothing = refl
counted (opens {s = s} {t = t} {ts = ts} e g) =
    ap (λ n. fold brackets_with n ts) (up (length s) (has is opening t.kind) (has is closing t.kind) e) ∙ counted g
counted (closes {s = s} {t = t} {ts = ts} p g) =
    let c = pair_closes p in
    ap (λ n. fold brackets_with n ts) (down (length s) (has is opening t.kind) (has is closing t.kind) c.0 c.1) ∙ counted g
counted (passes {s = s} {t = t} {ts = ts} e f g) =
    ap (λ n. fold brackets_with n ts) (level (length s) (has is opening t.kind) (has is closing t.kind) e f) ∙ counted g

-- ---- rules

abbrev is_plain : TokenKind → Bool
is_plain j = if has is opening j then false else (if has is closing j then false else true)

plain_open : (a b : Bool) → (if a then false else (if b then false else true)) ≡ true → a ≡ false
plain_open true b h = absurd cc
plain_open false b h = refl

plain_close : (a b : Bool) → (if a then false else (if b then false else true)) ≡ true → b ≡ false
plain_close true b h = absurd cc
plain_close false true h = absurd cc
plain_close false false h = refl

-- what the rule derives leads from these open brackets to those
data Turns : Rule TokenKind Name → List TokenKind → List TokenKind → Type 0 where
  plain : {j : TokenKind} {js : List TokenKind} {s : List TokenKind} → every kinds (λ i. implies (has is (j ∷ js) i) (is_plain i)) ≡ true → Turns (one j js) s s
  turn_open : {j : TokenKind} {s : List TokenKind} → has is opening j ≡ true → Turns (one j []) s (j ∷ s)
  turn_close : {i j : TokenKind} {s : List TokenKind} → Pair i j → Turns (one j []) (i ∷ s) s
  turn_nil : {s : List TokenKind} → Turns nil s s
  turn_ref : {x : Name} {s : List TokenKind} → Turns (ref x) s s
  turn_seq : {r q : Rule TokenKind Name} {s t u : List TokenKind} → Turns r s t → Turns q t u → Turns (seq r q) s u
  turn_alt : {r q : Rule TokenKind Name} {s t : List TokenKind} → Turns r s t → Turns q s t → Turns (alt r q) s t
  turn_many : {r : Rule TokenKind Name} {s : List TokenKind} → Turns r s s → Turns (many r) s s

-- a token of one kind
at : {j : TokenKind} {s : List TokenKind} → every kinds (λ i. implies (has is (j ∷ []) i) (is_plain i)) ≡ true → Turns (one j []) s s
at h = plain h

infixr 6 ◌▹◌
abbrev ◌▹◌ : {r q : Rule TokenKind Name} {s t u : List TokenKind} → Turns r s t → Turns q t u → Turns (seq r q) s u
a ▹ b = turn_seq a b

infixr 5 ◌else◌
abbrev ◌else◌ : {r q : Rule TokenKind Name} {s t : List TokenKind} → Turns r s t → Turns q s t → Turns (alt r q) s t
a else b = turn_alt a b

abbrev maybe : {r : Rule TokenKind Name} {s : List TokenKind} → Turns r s s → Turns (alt r nil) s s
maybe a = turn_alt a turn_nil

balanced : (x : Name) (s : List TokenKind) → Turns (rules x) s s
unfolding every implies
balanced source s =
    plain refl ▹ plain refl ▹ turn_open refl ▹ maybe turn_ref ▹ turn_close parens ▹ turn_open refl
    ▹ maybe (plain refl ▹ turn_ref ▹ plain refl) ▹ turn_many turn_ref ▹ turn_close braces
balanced names s = plain refl ▹ turn_many (plain refl ▹ plain refl)
balanced stmt s =
    (plain refl ▹ plain refl)
    else (plain refl ▹ turn_ref ▹ plain refl)
    else (plain refl ▹ turn_open refl ▹ turn_ref ▹ turn_close parens ▹ plain refl)
    else (plain refl ▹ plain refl ▹ turn_ref ▹ plain refl)
    else (plain refl ▹ turn_open refl ▹ turn_ref ▹ turn_close parens ▹ turn_ref ▹ maybe (plain refl ▹ turn_ref))
    else (plain refl ▹ turn_open refl ▹ turn_ref ▹ turn_close parens ▹ turn_ref)
balanced assigned s = turn_ref else (plain refl ▹ maybe (turn_open refl ▹ turn_ref ▹ plain refl ▹ turn_ref ▹ turn_close parens))
balanced choice s = plain refl else turn_ref
balanced block s = turn_open refl ▹ turn_many turn_ref ▹ turn_close braces
balanced expr s = turn_ref ▹ turn_many (plain refl ▹ turn_ref)
balanced term s = turn_ref ▹ turn_many (plain refl ▹ turn_ref)
balanced unary s = (plain refl ▹ turn_ref) else plain refl else plain refl else (turn_open refl ▹ turn_ref ▹ turn_close parens)
balanced cond s = turn_ref ▹ turn_many (plain refl ▹ turn_ref)
balanced conj s = turn_ref ▹ turn_many (plain refl ▹ turn_ref)
balanced fact s =
    (plain refl ▹ turn_ref) else plain refl else plain refl else (turn_open refl ▹ turn_ref ▹ turn_close squares) else (turn_ref ▹ plain refl ▹ turn_ref)

-- a token of a rule
one_token : {j : TokenKind} {js : List TokenKind} {s u : List TokenKind} (t : Token) → has is (j ∷ js) t.kind ≡ true → Turns (one j js) s u → Nests s (t ∷ []) u
one_token {j = j} {js = js} t h (plain p) =
    let e : is_plain t.kind ≡ true = implies_true (has is (j ∷ js) t.kind) (is_plain t.kind) (all_kinds (λ i. implies (has is (j ∷ js) i) (is_plain i)) p t.kind) h in
    passes (plain_open (has is opening t.kind) (has is closing t.kind) e) (plain_close (has is opening t.kind) (has is closing t.kind) e) nothing
one_token {s = s} t h (turn_open {j = j} p) =
    let e : t.kind ≡ j = one_kind j t.kind h in
    subst (λ i. Nests s (t ∷ []) (i ∷ s)) e (opens (ap (has is opening) e ∙ p) nothing)
one_token {u = u} t h (turn_close {i = i} {j = j} p) = closes (subst (Pair i) (sym (one_kind j t.kind h)) p) nothing

nested : {r : Rule TokenKind Name} {us : List Token} {a : Tree Token} {s u : List TokenKind} → Derives language r us a → Turns r s u → Nests s us u
nested (D.token {t = t} h) g = one_token t h g
nested D.nothing turn_nil = nothing
nested (D.name {x = x} d) (turn_ref {s = s}) = nested d (balanced x s)
nested (D.both d e) (turn_seq g h) = nests-append (nested d g) (nested e h)
nested (D.first d) (turn_alt g h) = nested d g
nested (D.second d) (turn_alt g h) = nested d h
nested D.no_more (turn_many g) = nothing
nested (D.one_more d e) (turn_many g) = nests-append (nested d g) (nested e (turn_many g))

pub counts_open : CountsOpen
unfolding open_brackets
counts_open x ts v = let r = nests_front ts v.0 (nested v.2 turn_ref) in (r.0, r.1, counted r.1)
