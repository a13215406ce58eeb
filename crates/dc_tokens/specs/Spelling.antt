-- What a token is, by its spelling alone.
use Rattle.std.specs.Prelude.{ℕ, ◌+◌, ◌*◌, ◌-◌, Bool, false, ◌||◌, ◌&&◌, nat_eq, if◌then◌else◌, List, [], ◌∷◌, Option, Some, None, codes, fold}
use Rattle.std.specs.List.{list_all}
use Rattle.std.specs.Str.{bytes_eq}
use Rattle.std.specs.Char.{is_ascii_digit, is_ascii_alphabetic}
use Rattle.dc_tokens.specs.declared.token.TokenKind.{TokenKind}
use Rattle.dc_tokens.specs.declared.token.TokenKind.TheVariants as k

-- a letter or `_`
abbrev pub is_letter : ℕ → Bool
is_letter b = is_ascii_alphabetic b || nat_eq b 95

abbrev pub is_digit : ℕ → Bool
is_digit b = is_ascii_digit b

abbrev pub is_word_byte : ℕ → Bool
is_word_byte b = is_letter b || is_digit b

-- a letter or `_`, then letters, digits and `_`
abbrev pub is_word : List ℕ → Bool
is_word [] = false
is_word (b ∷ w) = is_letter b && list_all is_word_byte w

-- a run of digits
abbrev pub is_number : List ℕ → Bool
is_number [] = false
is_number (b ∷ w) = is_digit b && list_all is_digit w

-- a word is a keyword, or else a name
unfoldable pub word_kind : List ℕ → TokenKind
word_kind w =
    if bytes_eq w (codes "proc") then k.Proc
    else (if bytes_eq w (codes "var") then k.Var
    else (if bytes_eq w (codes "skip") then k.Skip
    else (if bytes_eq w (codes "tick") then k.Tick
    else (if bytes_eq w (codes "any") then k.Any
    else (if bytes_eq w (codes "assume") then k.Assume
    else (if bytes_eq w (codes "if") then k.If
    else (if bytes_eq w (codes "else") then k.Else
    else (if bytes_eq w (codes "while") then k.While
    else (if bytes_eq w (codes "true") then k.True
    else (if bytes_eq w (codes "false") then k.False
    else k.Name))))))))))

-- ( ) { } [ ] , ; = < > + - * !
unfoldable pub short_sign : ℕ → Option TokenKind
short_sign b =
    if nat_eq b 40 then Some k.LParen
    else (if nat_eq b 41 then Some k.RParen
    else (if nat_eq b 123 then Some k.LBrace
    else (if nat_eq b 125 then Some k.RBrace
    else (if nat_eq b 91 then Some k.LBracket
    else (if nat_eq b 93 then Some k.RBracket
    else (if nat_eq b 44 then Some k.Comma
    else (if nat_eq b 59 then Some k.Semi
    else (if nat_eq b 61 then Some k.Assign
    else (if nat_eq b 60 then Some k.Lt
    else (if nat_eq b 62 then Some k.Gt
    else (if nat_eq b 43 then Some k.Plus
    else (if nat_eq b 45 then Some k.Minus
    else (if nat_eq b 42 then Some k.Star
    else (if nat_eq b 33 then Some k.Bang
    else None))))))))))))))

-- == != <= >= && ||
unfoldable pub long_sign : ℕ → ℕ → Option TokenKind
long_sign a b =
    if nat_eq a 61 && nat_eq b 61 then Some k.Eq
    else (if nat_eq a 33 && nat_eq b 61 then Some k.Ne
    else (if nat_eq a 60 && nat_eq b 61 then Some k.Le
    else (if nat_eq a 62 && nat_eq b 61 then Some k.Ge
    else (if nat_eq a 38 && nat_eq b 38 then Some k.And
    else (if nat_eq a 124 && nat_eq b 124 then Some k.Or
    else None)))))

abbrev pub sign_kind : List ℕ → Option TokenKind
sign_kind (a ∷ []) = short_sign a
sign_kind (a ∷ b ∷ []) = long_sign a b
sign_kind _ = None

-- the kind of the token that is spelled so
unfoldable pub kind_of : List ℕ → Option TokenKind
kind_of w =
    if is_word w then Some (word_kind w) else (if is_number w then Some k.Number else sign_kind w)

-- the number that a run of digits writes, of any size
abbrev pub number_value : List ℕ → ℕ
number_value w = fold (λ n b. n * 10 + (b - 48)) 0 w

-- the value of a number; another token has none, and says 0
abbrev pub value_of : TokenKind → List ℕ → ℕ
value_of k.Number w = number_value w
value_of _ w = 0
