-- Texts that a rule of the grammar derives, put together from parts.
use Rattle.std.proofs.Common.{◌≡◌, ℕ, suc, ◌+◌, ◌<◌, ◌≤◌, true, false, List, [], ◌∷◌, ◌++◌, length, get_or, Some, None, refl, sym, ap, subst, ◌∙◌, arith, append_assoc, append-nil}
use Rattle.dc_tokens.specs.declared.token.TokenKind.{TokenKind}
use Rattle.dc_tokens.specs.declared.token.TokenKind.TheVariants as k
use Rattle.dc_tokens.specs.declared.token.Token.{Token}
use Rattle.dc_tokens.specs.Spelling.{is_word, is_number, is_letter, is_digit, word_kind, short_sign, long_sign, value_of}
use Rattle.dc_tokens.specs.Pieces.{is_separator, Longest}
use Rattle.dc_grammar.specs.Kinds.{is}
use Rattle.dc_grammar.specs.Grammar.{Rule, one, seq, many, Tree, leaf, none, pair, has, Derives, token, both, no_more, one_more}
use Rattle.dc_grammar.specs.Language.{Name, language}
use Rattle.dc_printed.specs.Brackets.{brackets_of, bracket_of}
use Rattle.dc_printed.proofs.Words.{word_plain, number_plain, word_kind_plain, Reads, joined, token_of, word_read, gap_read, Breaks, word_front, number_front, sign_front, long_front}

-- a text at an offset, with a rest after it, reads as these tokens, which the rule derives in this way
pub record Says (at : ℕ) (t rest : List ℕ) (r : Rule TokenKind Name) (ts : List Token) (a : Tree Token) : Type 0 where
  pub reads : Reads at t rest ts
  pub derives : Derives language r ts a

pub followed : (at : ℕ) (t u rest : List ℕ) (r s : Rule TokenKind Name) (ts us : List Token) (a b : Tree Token)
    → Says at t (u ++ rest) r ts a → Says (at + length t) u rest s us b → Says at (t ++ u) rest (seq r s) (ts ++ us) (pair a b)
followed at t u rest r s ts us a b h g = record { reads = joined at t u rest ts us h.reads g.reads; derives = both h.derives g.derives }

-- the same offset, said in another way
pub moved : {at to : ℕ} {t rest : List ℕ} {r : Rule TokenKind Name} {ts : List Token} {a : Tree Token} → at ≡ to → Says at t rest r ts a → Says to t rest r ts a
moved {t = t} {rest} {r} {ts} {a} e h = subst (λ n. Says n t rest r ts a) e h

-- a separator before it
pub spaced : (at b : ℕ) (t rest : List ℕ) (r : Rule TokenKind Name) (ts : List Token) (a : Tree Token) → is_separator b ≡ true → Says (suc at) t rest r ts a → Says at (b ∷ t) rest r ts a
spaced at b t rest r ts a e h = record {
  reads = joined at (b ∷ []) t rest [] ts (gap_read at b (t ++ rest) e) (subst (λ n. Reads n t rest ts) (omega arith) h.reads);
  derives = h.derives;
}

-- a separator after it
pub spaced_after : (at b : ℕ) (t rest : List ℕ) (r : Rule TokenKind Name) (ts : List Token) (a : Tree Token) → is_separator b ≡ true → Says at t (b ∷ rest) r ts a → Says at (t ++ b ∷ []) rest r ts a
spaced_after at b t rest r ts a e h = record {
  reads = subst (Reads at (t ++ b ∷ []) rest) (append-nil ts) (joined at t (b ∷ []) rest ts [] h.reads (gap_read (at + length t) b rest e));
  derives = h.derives;
}

-- ---- one token

says_token : (at : ℕ) (w rest : List ℕ) (kind j : TokenKind) (ks : List TokenKind) → 0 < length w → Longest (w ++ rest) (length w) kind → value_of kind w ≤ 2147483647 → bracket_of kind ≡ brackets_of w
    → has is (j ∷ ks) kind ≡ true → Says at w rest (one j ks) (token_of at kind w ∷ []) (leaf (token_of at kind w))
says_token at w rest kind j ks some l v e h = record { reads = word_read at w rest kind some l v e; derives = token h }

word_some : (w : List ℕ) → is_word w ≡ true → 0 < length w
word_some [] h = absurd cc
word_some (b ∷ w) h = omega arith

number_some : (w : List ℕ) → is_number w ≡ true → 0 < length w
number_some [] h = absurd cc
number_some (b ∷ w) h = omega arith

-- a keyword has no value
abbrev pub IsMute : TokenKind → Type 0
IsMute kind = (w : List ℕ) → value_of kind w ≡ 0

pub says_word : (at : ℕ) (w rest : List ℕ) (kind : TokenKind) → is_word w ≡ true → word_kind w ≡ kind → IsMute kind → is kind kind ≡ true → Breaks rest
    → Says at w rest (one kind []) (token_of at kind w ∷ []) (leaf (token_of at kind w))
says_word at w rest kind h e m i b =
    says_token at w rest kind kind [] (word_some w h) (subst (Longest (w ++ rest) (length w)) e (word_front w rest h b)) (let z = m w in omega arith) (ap bracket_of (sym e) ∙ (word_kind_plain w ∙ sym (word_plain w h))) (rw i refl)

pub says_number : (at : ℕ) (w rest : List ℕ) → is_number w ≡ true → value_of k.Number w ≤ 2147483647 → Breaks rest
    → Says at w rest (one k.Number []) (token_of at k.Number w ∷ []) (leaf (token_of at k.Number w))
says_number at w rest h v b = says_token at w rest k.Number k.Number [] (number_some w h) (number_front w rest h b) v (sym (number_plain w h)) refl

-- a sign of one byte
pub record IsSign (b : ℕ) (kind : TokenKind) (next : ℕ) : Type 0 where
  pub no_letter : is_letter b ≡ false
  pub no_digit : is_digit b ≡ false
  pub spelled : short_sign b ≡ Some kind
  pub alone : long_sign b next ≡ None
  pub mute : IsMute kind
  pub bracket : bracket_of kind ≡ brackets_of (b ∷ [])

pub says_sign : (at b : ℕ) (rest : List ℕ) (kind j : TokenKind) (ks : List TokenKind) → IsSign b kind (get_or rest 0 0) → has is (j ∷ ks) kind ≡ true
    → Says at (b ∷ []) rest (one j ks) (token_of at kind (b ∷ []) ∷ []) (leaf (token_of at kind (b ∷ [])))
says_sign at b rest kind j ks s i =
    says_token at (b ∷ []) rest kind j ks (omega arith) (sign_front b rest kind s.no_letter s.no_digit s.spelled s.alone) (let m = s.mute in let z = m (b ∷ []) in omega arith) s.bracket i

-- a sign of two bytes
pub record IsLongSign (a b : ℕ) (kind : TokenKind) : Type 0 where
  pub no_letter : is_letter a ≡ false
  pub no_digit : is_digit a ≡ false
  pub spelled : long_sign a b ≡ Some kind
  pub mute : IsMute kind
  pub bracket : bracket_of kind ≡ brackets_of (a ∷ b ∷ [])

pub says_long : (at a b : ℕ) (rest : List ℕ) (kind j : TokenKind) (ks : List TokenKind) → IsLongSign a b kind → has is (j ∷ ks) kind ≡ true
    → Says at (a ∷ b ∷ []) rest (one j ks) (token_of at kind (a ∷ b ∷ []) ∷ []) (leaf (token_of at kind (a ∷ b ∷ [])))
says_long at a b rest kind j ks s i =
    says_token at (a ∷ b ∷ []) rest kind j ks (omega arith) (long_front a b rest kind s.no_letter s.no_digit s.spelled) (let m = s.mute in let z = m (a ∷ b ∷ []) in omega arith) s.bracket i

-- ---- lists of any length, to which one more is put at the end

abbrev pub with_last : Tree Token → Tree Token → Tree Token
with_last (pair a b) c = pair a (with_last b c)
with_last t c = pair c none

pub one_more_last : {r : Rule TokenKind Name} {u v : List Token} {b : Tree Token} (c : Tree Token) → Derives language (many r) v b → Derives language r u c → Derives language (many r) (v ++ u) (with_last b c)
one_more_last {r} {u} c no_more h = subst (λ x. Derives language (many r) x (pair c none)) (append-nil u) (one_more h no_more)
one_more_last {r} {u} c (one_more {u = x} {v = y} {a} {b} g d) h = subst (λ z. Derives language (many r) z (pair a (with_last b c))) (sym (append_assoc x y u)) (one_more g (one_more_last c d h))
