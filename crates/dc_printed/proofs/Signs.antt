-- The signs of the language.
use Rattle.std.proofs.Common.{◌≡◌, ℕ, false, nat_eq, [], ◌∷◌, refl}
use Rattle.dc_tokens.specs.declared.token.TokenKind.TheVariants as k
use Rattle.dc_tokens.specs.Spelling.{short_sign, long_sign, word_kind}
pub use Rattle.dc_printed.proofs.Says.{IsSign, IsLongSign}

pub open_paren : (next : ℕ) → IsSign 40 k.LParen next
unfolding short_sign long_sign
open_paren next = record { no_letter = refl; no_digit = refl; spelled = refl; alone = refl; mute = λ w. refl; bracket = refl }

pub close_paren : (next : ℕ) → IsSign 41 k.RParen next
unfolding short_sign long_sign
close_paren next = record { no_letter = refl; no_digit = refl; spelled = refl; alone = refl; mute = λ w. refl; bracket = refl }

pub open_brace : (next : ℕ) → IsSign 123 k.LBrace next
unfolding short_sign long_sign
open_brace next = record { no_letter = refl; no_digit = refl; spelled = refl; alone = refl; mute = λ w. refl; bracket = refl }

pub close_brace : (next : ℕ) → IsSign 125 k.RBrace next
unfolding short_sign long_sign
close_brace next = record { no_letter = refl; no_digit = refl; spelled = refl; alone = refl; mute = λ w. refl; bracket = refl }

pub open_square : (next : ℕ) → IsSign 91 k.LBracket next
unfolding short_sign long_sign
open_square next = record { no_letter = refl; no_digit = refl; spelled = refl; alone = refl; mute = λ w. refl; bracket = refl }

pub close_square : (next : ℕ) → IsSign 93 k.RBracket next
unfolding short_sign long_sign
close_square next = record { no_letter = refl; no_digit = refl; spelled = refl; alone = refl; mute = λ w. refl; bracket = refl }

pub comma : (next : ℕ) → IsSign 44 k.Comma next
unfolding short_sign long_sign
comma next = record { no_letter = refl; no_digit = refl; spelled = refl; alone = refl; mute = λ w. refl; bracket = refl }

pub semi : (next : ℕ) → IsSign 59 k.Semi next
unfolding short_sign long_sign
semi next = record { no_letter = refl; no_digit = refl; spelled = refl; alone = refl; mute = λ w. refl; bracket = refl }

pub plus : (next : ℕ) → IsSign 43 k.Plus next
unfolding short_sign long_sign
plus next = record { no_letter = refl; no_digit = refl; spelled = refl; alone = refl; mute = λ w. refl; bracket = refl }

pub minus : (next : ℕ) → IsSign 45 k.Minus next
unfolding short_sign long_sign
minus next = record { no_letter = refl; no_digit = refl; spelled = refl; alone = refl; mute = λ w. refl; bracket = refl }

pub star : (next : ℕ) → IsSign 42 k.Star next
unfolding short_sign long_sign
star next = record { no_letter = refl; no_digit = refl; spelled = refl; alone = refl; mute = λ w. refl; bracket = refl }

-- before a space

pub equals : IsSign 61 k.Assign 32
unfolding short_sign long_sign
equals = record { no_letter = refl; no_digit = refl; spelled = refl; alone = refl; mute = λ w. refl; bracket = refl }

pub less : IsSign 60 k.Lt 32
unfolding short_sign long_sign
less = record { no_letter = refl; no_digit = refl; spelled = refl; alone = refl; mute = λ w. refl; bracket = refl }

pub greater : IsSign 62 k.Gt 32
unfolding short_sign long_sign
greater = record { no_letter = refl; no_digit = refl; spelled = refl; alone = refl; mute = λ w. refl; bracket = refl }

-- before what is no `=`
pub bang : (next : ℕ) → nat_eq next 61 ≡ false → IsSign 33 k.Bang next
unfolding short_sign long_sign
bang next h = record { no_letter = refl; no_digit = refl; spelled = refl; alone = rw h refl; mute = λ w. refl; bracket = refl }

-- of two bytes

pub same : IsLongSign 61 61 k.Eq
unfolding long_sign
same = record { no_letter = refl; no_digit = refl; spelled = refl; mute = λ w. refl; bracket = refl }

pub other : IsLongSign 33 61 k.Ne
unfolding long_sign
other = record { no_letter = refl; no_digit = refl; spelled = refl; mute = λ w. refl; bracket = refl }

pub at_most : IsLongSign 60 61 k.Le
unfolding long_sign
at_most = record { no_letter = refl; no_digit = refl; spelled = refl; mute = λ w. refl; bracket = refl }

pub at_least : IsLongSign 62 61 k.Ge
unfolding long_sign
at_least = record { no_letter = refl; no_digit = refl; spelled = refl; mute = λ w. refl; bracket = refl }

pub and : IsLongSign 38 38 k.And
unfolding long_sign
and = record { no_letter = refl; no_digit = refl; spelled = refl; mute = λ w. refl; bracket = refl }

pub or : IsLongSign 124 124 k.Or
unfolding long_sign
or = record { no_letter = refl; no_digit = refl; spelled = refl; mute = λ w. refl; bracket = refl }

-- ---- keywords

pub word-true : word_kind (116 ∷ 114 ∷ 117 ∷ 101 ∷ []) ≡ k.True
unfolding word_kind
word-true = refl

pub word-false : word_kind (102 ∷ 97 ∷ 108 ∷ 115 ∷ 101 ∷ []) ≡ k.False
unfolding word_kind
word-false = refl

pub word-proc : word_kind (112 ∷ 114 ∷ 111 ∷ 99 ∷ []) ≡ k.Proc
unfolding word_kind
word-proc = refl

pub word-var : word_kind (118 ∷ 97 ∷ 114 ∷ []) ≡ k.Var
unfolding word_kind
word-var = refl

pub word-skip : word_kind (115 ∷ 107 ∷ 105 ∷ 112 ∷ []) ≡ k.Skip
unfolding word_kind
word-skip = refl

pub word-tick : word_kind (116 ∷ 105 ∷ 99 ∷ 107 ∷ []) ≡ k.Tick
unfolding word_kind
word-tick = refl

pub word-any : word_kind (97 ∷ 110 ∷ 121 ∷ []) ≡ k.Any
unfolding word_kind
word-any = refl

pub word-assume : word_kind (97 ∷ 115 ∷ 115 ∷ 117 ∷ 109 ∷ 101 ∷ []) ≡ k.Assume
unfolding word_kind
word-assume = refl

pub word-if : word_kind (105 ∷ 102 ∷ []) ≡ k.If
unfolding word_kind
word-if = refl

pub word-else : word_kind (101 ∷ 108 ∷ 115 ∷ 101 ∷ []) ≡ k.Else
unfolding word_kind
word-else = refl

pub word-while : word_kind (119 ∷ 104 ∷ 105 ∷ 108 ∷ 101 ∷ []) ≡ k.While
unfolding word_kind
word-while = refl
