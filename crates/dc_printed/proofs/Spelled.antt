-- What the tokens of a text are spelled with, and that names are spelled as names.
use Rattle.std.proofs.Common.{◌≡◌, ℕ, zero, suc, ◌+◌, ◌-◌, Bool, true, false, ◌&&◌, nat_eq, List, [], ◌∷◌, ◌++◌, map, take, drop, Option, Some, refl, sym, ap, subst, ◌∙◌, arith}
use Rattle.std.specs.Prelude.{if◌then◌else◌}
use Rattle.std.specs.List.{AllByRecursion}
use Rattle.std.proofs.lemmas.List.{map-append}
use Rattle.std.proofs.lemmas.Option.{same_Some}
use Rattle.dc_tokens.specs.declared.token.TokenKind.{TokenKind}
use Rattle.dc_tokens.specs.declared.token.TokenKind.TheVariants as k
use Rattle.dc_tokens.specs.declared.token.Token.{Token}
use Rattle.dc_tokens.specs.Spelling.{is_word, is_number, word_kind, short_sign, long_sign, sign_kind, kind_of}
use Rattle.dc_tokens.specs.Pieces.{Piece, separator, comment, token}
use Rattle.dc_tokens.specs.Texts.{Tokens, end, piece, with_token}
use Rattle.dc_grammar.specs.Kinds.{is}
use Rattle.dc_grammar.specs.Grammar.{ref, seq, many, tok, opt, has, Tree, Derives, name, nothing, both, first, second, no_more, one_more}
use Rattle.dc_grammar.specs.Grammar as g
use Rattle.dc_grammar.specs.Language.{language, source, names}
use Rattle.dc_grammar.proofs.AllKinds.{one_kind}
use Rattle.dc_descent.specs.Scopes.{spelled}
use Rattle.dc_descent.specs.Sources.{more_names, names_in, params_in, locals_in, parts_of}
use Rattle.dc_parse.proofs.Counted.{each_front, each_rest}
use Rattle.dc_printed.specs.Fits.{IsName, AreNames}
use Rattle.dc_printed.proofs.Exprs.{drop_sum}
use Rattle.dc_printed.proofs.Sources.{AllNames}

-- the bytes of a token are of its kind
abbrev pub Spells : List ℕ → Token → Type 0
Spells whole t = kind_of (spelled whole t) ≡ Some t.kind

with_spelled : (whole : List ℕ) (at n : ℕ) (bs : List ℕ) (o : Option Token) (ts : List Token) → drop at whole ≡ bs → Piece at bs o n → AllByRecursion (Spells whole) ts → AllByRecursion (Spells whole) (with_token o ts)
with_spelled whole at n bs o ts e (separator h) r = r
with_spelled whole at n bs o ts e (comment h) r = r
with_spelled whole at n bs o ts e (token {kind = kind} l v) r =
    (ap kind_of (ap (λ i. take i (drop at whole)) (let q : at + n - at ≡ n = omega arith in q) ∙ ap (take n) e) ∙ l.spelled, r)

pub tokens_spelled : (whole : List ℕ) {at : ℕ} {bs : List ℕ} {ts : List Token} → Tokens at bs ts → drop at whole ≡ bs → AllByRecursion (Spells whole) ts
tokens_spelled whole end e = tt
tokens_spelled whole (piece {at} {n} {bs} {found = o} {ts} l p d) e =
    with_spelled whole at n bs o ts e p (tokens_spelled whole d (drop_sum at n whole ∙ ap (drop n) e))

-- ---- a name is spelled as a name

record NoName (o : Option TokenKind) : Type 0 where
  no : o ≡ Some k.Name → ⊥

either : (z : Bool) (i : TokenKind) (o : Option TokenKind) → NoName (Some i) → NoName o → NoName (if z then Some i else o)
either true i o h g = h
either false i o h g = g

short_no_name : (b : ℕ) → NoName (short_sign b)
unfolding short_sign
short_no_name b = either (nat_eq b 40) k.LParen _ (record { no = λ e. cc }) (either (nat_eq b 41) k.RParen _ (record { no = λ e. cc }) (either (nat_eq b 123) k.LBrace _ (record { no = λ e. cc }) (either (nat_eq b 125) k.RBrace _ (record { no = λ e. cc }) (either (nat_eq b 91) k.LBracket _ (record { no = λ e. cc }) (either (nat_eq b 93) k.RBracket _ (record { no = λ e. cc }) (either (nat_eq b 44) k.Comma _ (record { no = λ e. cc }) (either (nat_eq b 59) k.Semi _ (record { no = λ e. cc }) (either (nat_eq b 61) k.Assign _ (record { no = λ e. cc }) (either (nat_eq b 60) k.Lt _ (record { no = λ e. cc }) (either (nat_eq b 62) k.Gt _ (record { no = λ e. cc }) (either (nat_eq b 43) k.Plus _ (record { no = λ e. cc }) (either (nat_eq b 45) k.Minus _ (record { no = λ e. cc }) (either (nat_eq b 42) k.Star _ (record { no = λ e. cc }) (either (nat_eq b 33) k.Bang _ (record { no = λ e. cc }) (record { no = λ e. cc })))))))))))))))

long_no_name : (a b : ℕ) → NoName (long_sign a b)
unfolding long_sign
long_no_name a b = either (nat_eq a 61 && nat_eq b 61) k.Eq _ (record { no = λ e. cc }) (either (nat_eq a 33 && nat_eq b 61) k.Ne _ (record { no = λ e. cc }) (either (nat_eq a 60 && nat_eq b 61) k.Le _ (record { no = λ e. cc }) (either (nat_eq a 62 && nat_eq b 61) k.Ge _ (record { no = λ e. cc }) (either (nat_eq a 38 && nat_eq b 38) k.And _ (record { no = λ e. cc }) (either (nat_eq a 124 && nat_eq b 124) k.Or _ (record { no = λ e. cc }) (record { no = λ e. cc }))))))

sign_no_name : (w : List ℕ) → NoName (sign_kind w)
sign_no_name [] = record { no = λ e. cc }
sign_no_name (a ∷ []) = short_no_name a
sign_no_name (a ∷ b ∷ []) = long_no_name a b
sign_no_name (a ∷ b ∷ c ∷ w) = record { no = λ e. cc }

pub spelled_name : (w : List ℕ) → kind_of w ≡ Some k.Name → IsName w
unfolding kind_of
spelled_name w h = go (is_word w) (is_number w) refl h
  where
    go : (a b : Bool) → is_word w ≡ a → (if a then Some (word_kind w) else (if b then Some k.Number else sign_kind w)) ≡ Some k.Name → IsName w
    go true b e f = record { word = e; no_keyword = same_Some (word_kind w) k.Name f }
    go false true e f = cc
    go false false e f = let s = sign_no_name w in absurd (let n = s.no in n f)

-- a token of the kind of names
named_token : (whole : List ℕ) (t : Token) → Spells whole t → has is (k.Name ∷ []) t.kind ≡ true → IsName (spelled whole t)
named_token whole t s h = spelled_name (spelled whole t) (s ∙ ap Some (one_kind k.Name t.kind h))

-- ---- the names of a source

more_named : (whole : List ℕ) {us : List Token} {a : Tree Token} → Derives language (many (seq (tok k.Comma) (tok k.Name))) us a → AllByRecursion (Spells whole) us → AllNames (map (spelled whole) (more_names a))
more_named whole no_more s = tt
more_named whole (one_more {u = u} {v = v} (both (g.token h) (g.token {t = n} f)) d) s = (named_token whole n (s.1.0) f, more_named whole d (s.1.1))

names_named : (whole : List ℕ) {us : List Token} {a : Tree Token} → Derives language (ref names) us a → AllByRecursion (Spells whole) us → AllNames (map (spelled whole) (names_in a))
names_named whole (name (both (g.token {t = t} h) d)) s = (named_token whole t s.0 h, more_named whole d s.1)

params_named : (whole : List ℕ) {us : List Token} {a : Tree Token} → Derives language (opt (ref names)) us a → AllByRecursion (Spells whole) us → AllNames (map (spelled whole) (params_in a))
params_named whole (first d) s = names_named whole d s
params_named whole (second nothing) s = tt

locals_named : (whole : List ℕ) {us : List Token} {a : Tree Token} → Derives language (opt (seq (tok k.Var) (seq (ref names) (tok k.Semi)))) us a → AllByRecursion (Spells whole) us → AllNames (map (spelled whole) (locals_in a))
locals_named whole (first (both (g.token h) (both {u = u} d (g.token {t = m} f)))) s = names_named whole d (each_front (Spells whole) u (m ∷ []) s.1)
locals_named whole (second nothing) s = tt

all_append : (ns ms : List (List ℕ)) → AllNames ns → AllNames ms → AllNames (ns ++ ms)
all_append [] ms h f = f
all_append (n ∷ ns) ms h f = (h.0, all_append ns ms h.1 f)

pub record SourceNames (whole : List ℕ) (a : Tree Token) : Type 0 where
  pub own : IsName (spelled whole (parts_of a).name)
  pub declared : AllNames (map (spelled whole) ((parts_of a).params ++ (parts_of a).locals))

pub source_names : (whole : List ℕ) {us : List Token} {a : Tree Token} → Derives language (ref source) us a → AllByRecursion (Spells whole) us → SourceNames whole a
source_names whole (name (both (g.token h) (both (g.token {t = n} e) (both (g.token f) (both {u = u} {a = x} d (both (g.token c) (both (g.token b) (both {u = v} {a = y} dl (both ds (g.token z)))))))))) s =
    let r = s.1.1.1 in
    let q = (each_rest (Spells whole) u _ r).1.1 in
    record {
      own = named_token whole n s.1.0 e;
      declared = subst AllNames (sym (map-append (spelled whole) (params_in x) (locals_in y))) (all_append _ _ (params_named whole d (each_front (Spells whole) u _ r)) (locals_named whole dl (each_front (Spells whole) v _ q)));
    }

pub are_names : (ns : List (List ℕ)) → AllNames ns → AreNames ns
are_names [] h i l = absurd (omega arith)
are_names (n ∷ ns) h zero l = h.0
are_names (n ∷ ns) h (suc i) l = are_names ns h.1 i (omega arith)
