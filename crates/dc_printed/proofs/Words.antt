-- The tokens of a text that is put together from words and gaps.
use Rattle.std.proofs.Common.{◌≡◌, ℕ, ◌+◌, ◌<◌, ◌≤◌, Bool, true, false, List, [], ◌∷◌, ◌++◌, length, take, drop, get_or, Some, None, refl, sym, ap, subst, ◌∙◌, arith, append_assoc, append-nil, length-append}
use Rattle.std.specs.Prelude.{if◌then◌else◌, codes}
use Rattle.std.specs.Str.{bytes_eq}
use Rattle.std.specs.List.{list_all}
use Rattle.dc_printed.specs.Brackets.{is_bracket, brackets_of, bracket_of, brackets_in}
use Rattle.std.proofs.lemmas.Bool.Decides.{nat_tests}
use Rattle.std.proofs.Math.ListN.{get_or-append}
use Rattle.std.proofs.Math.Seq.{take-append_seam, drop-append_seam}
use Rattle.std.proofs.lemmas.List.Elements.{All-get_or}
use Rattle.std.proofs.lemmas.List.Sums.{AllPass-from_list_all}
use Rattle.dc_tokens.specs.declared.token.TokenKind.{TokenKind}
use Rattle.dc_tokens.specs.declared.token.TokenKind.TheVariants as k
use Rattle.dc_tokens.specs.declared.token.Token.{Token}
use Rattle.dc_tokens.specs.Spelling.{is_letter, is_digit, is_word_byte, is_word, is_number, word_kind, short_sign, long_sign, value_of}
use Rattle.dc_tokens.specs.Pieces.{is_separator, Longest, separator, token}
use Rattle.dc_tokens.specs.Texts.{Tokens, piece}
use Rattle.dc_tokens.proofs.Front.{and_left, and_right, word_longest, number_longest, long_longest, short_longest}

-- a text at an offset has these tokens, whatever the tokens of the rest after it are
pub record Reads (at : ℕ) (t rest : List ℕ) (ts : List Token) : Type 0 where
  pub read : (more : List Token) → Tokens (at + length t) rest more → Tokens at (t ++ rest) (ts ++ more)
  -- the tokens have the brackets of the text
  pub same : brackets_in ts ≡ brackets_of t

with_bracket : (z : Bool) (b : ℕ) (x y u : List ℕ) → x ≡ y ++ u → (if z then b ∷ x else x) ≡ (if z then b ∷ y else y) ++ u
with_bracket true b x y u h = ap (λ v. b ∷ v) h
with_bracket false b x y u h = h

pub brackets_of-append : (t u : List ℕ) → brackets_of (t ++ u) ≡ brackets_of t ++ brackets_of u
brackets_of-append [] u = refl
brackets_of-append (b ∷ t) u = with_bracket (is_bracket b) b _ _ _ (brackets_of-append t u)

pub brackets_in-append : (ts us : List Token) → brackets_in (ts ++ us) ≡ brackets_in ts ++ brackets_in us
brackets_in-append [] us = refl
brackets_in-append (t ∷ ts) us = ap (λ v. bracket_of t.kind ++ v) (brackets_in-append ts us) ∙ sym (append_assoc (bracket_of t.kind) (brackets_in ts) (brackets_in us))

pub nothing_read : (at : ℕ) (rest : List ℕ) → Reads at [] rest []
nothing_read at rest = record { read = λ more d. subst (λ n. Tokens n rest more) (omega arith) d; same = refl }

pub joined : (at : ℕ) (t u rest : List ℕ) (ts us : List Token) → Reads at t (u ++ rest) ts → Reads (at + length t) u rest us → Reads at (t ++ u) rest (ts ++ us)
joined at t u rest ts us h g = record {
  read = λ more d.
      rw (append_assoc t u rest, append_assoc ts us more)
      (h.read (us ++ more) (g.read more (subst (λ n. Tokens n rest more) (let l = length-append t u in omega arith) d)));
  same = brackets_in-append ts us ∙ ((λ j. h.same j ++ g.same j) ∙ sym (brackets_of-append t u));
}

-- the token that a word is
abbrev pub token_of : ℕ → TokenKind → List ℕ → Token
token_of at kind w = record { kind = kind; at = at; end = at + length w; value = value_of kind w }

-- a word is read where it is the longest token at the front
pub word_read : (at : ℕ) (w rest : List ℕ) (kind : TokenKind) → 0 < length w → Longest (w ++ rest) (length w) kind → value_of kind w ≤ 2147483647 → bracket_of kind ≡ brackets_of w
    → Reads at w rest (token_of at kind w ∷ [])
word_read at w rest kind some l v e = record { read = λ more d. go more d (take-append_seam w rest) (drop-append_seam w rest); same = append-nil (bracket_of kind) ∙ e }
  where
    go : (more : List Token) → Tokens (at + length w) rest more → take (length w) (w ++ rest) ≡ w → drop (length w) (w ++ rest) ≡ rest → Tokens at (w ++ rest) (token_of at kind w ∷ more)
    go more d e f =
        subst (λ x. Tokens at (w ++ rest) (record { kind = kind; at = at; end = at + length w; value = value_of kind x } ∷ more)) e
        (piece (let k = length-append w rest in omega arith) (token l (subst (λ x. value_of kind x ≤ 2147483647) (sym e) v)) (subst (λ x. Tokens (at + length w) x more) (sym f) d))

gap_plain : (b : ℕ) → is_separator b ≡ true → brackets_of (b ∷ []) ≡ []
gap_plain b h = rw (no_bracket b h) refl
  where
    no_bracket : (b : ℕ) → is_separator b ≡ true → is_bracket b ≡ false
    no_bracket b h = grind (arith, nat_tests)

-- a separator has no token
pub gap_read : (at b : ℕ) (rest : List ℕ) → is_separator b ≡ true → Reads at (b ∷ []) rest []
gap_read at b rest h = record { read = λ more d. piece (omega arith) (separator h) d; same = sym (gap_plain b h) }

-- ---- words

-- what comes next goes on with no word
abbrev pub Breaks : List ℕ → Type 0
Breaks rest = is_word_byte (get_or rest 0 0) ≡ false

in_front : (w rest : List ℕ) (i : ℕ) → i < length w → get_or (w ++ rest) i 0 ≡ get_or w i 0
in_front w rest i h = get_or-append w rest 0 i h

after : (w rest : List ℕ) → get_or (w ++ rest) (length w) 0 ≡ get_or rest 0 0
after [] rest = refl
after (b ∷ w) rest = after w rest

passes_at : (p : ℕ → Bool) (w : List ℕ) → list_all p w ≡ true → (i : ℕ) → i < length w → p (get_or w i 0) ≡ true
passes_at p w h i l = All-get_or (λ b. p b ≡ true) w i 0 l (AllPass-from_list_all p w h)

-- a name or a keyword
pub word_front : (w rest : List ℕ) → is_word w ≡ true → Breaks rest → Longest (w ++ rest) (length w) (word_kind w)
word_front [] rest h b = absurd cc
word_front (x ∷ w) rest h b =
    subst (λ v. Longest (x ∷ w ++ rest) (length (x ∷ w)) (word_kind v)) (take-append_seam (x ∷ w) rest)
    (word_longest (x ∷ w ++ rest) (length (x ∷ w)) (omega arith) (and_left (is_letter x) _ h) (let l = length-append (x ∷ w) rest in omega arith)
    (λ i l. ap is_word_byte (in_front (x ∷ w) rest i l) ∙ passes_at is_word_byte (x ∷ w) (rw (and_left (is_letter x) _ h) (and_right (is_letter x) _ h)) i l)
    (λ l. ap is_word_byte (after (x ∷ w) rest) ∙ b))

digit_no_letter : (b : ℕ) → is_digit b ≡ true → is_letter b ≡ false
digit_no_letter b h = grind (arith, nat_tests)

no_digit : (b : ℕ) → is_word_byte b ≡ false → is_digit b ≡ false
no_digit b h = grind (arith, nat_tests)

pub number_front : (w rest : List ℕ) → is_number w ≡ true → Breaks rest → Longest (w ++ rest) (length w) k.Number
number_front [] rest h b = absurd cc
number_front (x ∷ w) rest h b =
    number_longest (x ∷ w ++ rest) (length (x ∷ w)) (omega arith) (digit_no_letter x (and_left (is_digit x) _ h)) (and_left (is_digit x) _ h) (let l = length-append (x ∷ w) rest in omega arith)
    (λ i l. ap is_digit (in_front (x ∷ w) rest i l) ∙ passes_at is_digit (x ∷ w) h i l)
    (λ l. ap is_digit (after (x ∷ w) rest) ∙ no_digit (get_or rest 0 0) b)

-- ---- signs

-- a sign of one byte that no second byte makes longer
pub sign_front : (b : ℕ) (rest : List ℕ) (kind : TokenKind) → is_letter b ≡ false → is_digit b ≡ false → short_sign b ≡ Some kind → long_sign b (get_or rest 0 0) ≡ None → Longest (b ∷ rest) 1 kind
sign_front b rest kind g h e f = short_longest (b ∷ rest) kind g h (omega arith) (λ l. f) e

pub long_front : (a b : ℕ) (rest : List ℕ) (kind : TokenKind) → is_letter a ≡ false → is_digit a ≡ false → long_sign a b ≡ Some kind → Longest (a ∷ b ∷ rest) 2 kind
long_front a b rest kind g h e = long_longest (a ∷ b ∷ rest) kind g h (omega arith) e

-- ---- no brackets in words and numbers

word_byte_plain : (b : ℕ) → is_word_byte b ≡ true → is_bracket b ≡ false
word_byte_plain b h = grind (arith, nat_tests)

plain_bytes : (p : ℕ → Bool) → ((b : ℕ) → p b ≡ true → is_bracket b ≡ false) → (w : List ℕ) → list_all p w ≡ true → brackets_of w ≡ []
plain_bytes p f [] h = refl
plain_bytes p f (b ∷ w) h = rw (f b (and_left (p b) _ h)) (plain_bytes p f w (and_right (p b) _ h))

letter_word : (b : ℕ) → is_letter b ≡ true → is_word_byte b ≡ true
letter_word b h = rw h refl

pub word_plain : (w : List ℕ) → is_word w ≡ true → brackets_of w ≡ []
word_plain [] h = refl
word_plain (b ∷ w) h = rw (word_byte_plain b (letter_word b (and_left (is_letter b) _ h))) (plain_bytes is_word_byte word_byte_plain w (and_right (is_letter b) _ h))

digit_plain : (b : ℕ) → is_digit b ≡ true → is_bracket b ≡ false
digit_plain b h = grind (arith, nat_tests)

pub number_plain : (w : List ℕ) → is_number w ≡ true → brackets_of w ≡ []
number_plain [] h = refl
number_plain (b ∷ w) h = plain_bytes is_digit digit_plain (b ∷ w) h

-- a word is no bracket
record IsPlain (j : TokenKind) : Type 0 where
  none : bracket_of j ≡ []

either : (z : Bool) (i j : TokenKind) → IsPlain i → IsPlain j → IsPlain (if z then i else j)
either true i j h g = h
either false i j h g = g

plain_word : (w : List ℕ) → IsPlain (word_kind w)
unfolding word_kind
plain_word w =
    either (bytes_eq w (codes "proc")) k.Proc _ (record { none = refl }) (either (bytes_eq w (codes "var")) k.Var _ (record { none = refl }) (either (bytes_eq w (codes "skip")) k.Skip _ (record { none = refl }) (either (bytes_eq w (codes "tick")) k.Tick _ (record { none = refl }) (either (bytes_eq w (codes "any")) k.Any _ (record { none = refl }) (either (bytes_eq w (codes "assume")) k.Assume _ (record { none = refl }) (either (bytes_eq w (codes "if")) k.If _ (record { none = refl }) (either (bytes_eq w (codes "else")) k.Else _ (record { none = refl }) (either (bytes_eq w (codes "while")) k.While _ (record { none = refl }) (either (bytes_eq w (codes "true")) k.True _ (record { none = refl }) (either (bytes_eq w (codes "false")) k.False _ (record { none = refl }) (record { none = refl })))))))))))

pub word_kind_plain : (w : List ℕ) → bracket_of (word_kind w) ≡ []
word_kind_plain w = let h = plain_word w in h.none
