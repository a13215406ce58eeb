-- How the answer of a part follows from those of its parts.
use Rattle.std.proofs.Common.{◌≡◌, ◌<◌, ◌≤◌, true, false, List, length, refl, sym, ◌∙◌, subst, Result}
use Rattle.std.specs.Prelude.{IsErrAnd}
use Rattle.std.proofs.lemmas.Result.{err_from_is_err_and}
use Rattle.dc_tokens.specs.declared.token.TokenKind.{TokenKind}
use Rattle.dc_tokens.specs.declared.token.Token.{Token}
use Rattle.dc_grammar.specs.Grammar.{Rule, one, ref, seq, alt, many, Tree, none, pair, left, right}
use Rattle.dc_grammar.specs.Language.{Name, rules}
use Rattle.dc_grammar.specs.Reading.{begins, Parses, Out, ok, fail, rest, name-of, seq-bad, seq-stops, left-ok, left-bad, right-ok, right-bad}
use Rattle.dc_grammar.specs.Readers.{language_reader}
use Rattle.dc_grammar.proofs.Alone as alone
use Rattle.dc_grammar.proofs.Alone.{Going}
use Rattle.dc_grammar.proofs.LanguageReader.{language_ahead}
use Rattle.dc_descent.specs.declared.cursor.Stop.{Stop}
use Rattle.dc_descent.specs.declared.cursor.Stop.TheVariants.{Syntax}
use Rattle.dc_descent.specs.Reads.{Stops, syntax, memory, Reads}

-- ---- the end of a part

pub stop_name : {x : Name} {ts us : List Token} {e : Stop} → Stops (rules x) ts e us → Stops (ref x) ts e us
stop_name (syntax d) = syntax (name-of d)
stop_name memory = memory

pub stop_here : {r s : Rule TokenKind Name} {ts us : List Token} {e : Stop} → Stops r ts e us → Stops (seq r s) ts e us
stop_here (syntax d) = syntax (seq-bad d)
stop_here memory = memory

pub stop_then : {r s : Rule TokenKind Name} {ts us vs : List Token} {a : Tree Token} {e : Stop} → Parses language_reader r ts (ok a us) → Stops s us e vs → Stops (seq r s) ts e vs
stop_then p (syntax d) = syntax (seq-stops p d)
stop_then p memory = memory

pub stop_left : {r s : Rule TokenKind Name} {ts us : List Token} {e : Stop} → begins language_reader r ts ≡ true → Stops r ts e us → Stops (alt r s) ts e us
stop_left h (syntax d) = syntax (left-bad h d)
stop_left h memory = memory

pub stop_right : {r s : Rule TokenKind Name} {ts us : List Token} {e : Stop} → begins language_reader r ts ≡ false → Stops s ts e us → Stops (alt r s) ts e us
stop_right h (syntax d) = syntax (right-bad h d)
stop_right h memory = memory

pub fails : {r : Rule TokenKind Name} {ts us : List Token} {e : Stop} → Stops r ts e us → e ≡ Syntax → Parses language_reader r ts (fail us)
fails (syntax d) h = d
fails memory h = absurd cc

-- an error that is passed on
pub passed : {Y : Type 0} (R : Rule TokenKind Name) (Is : Tree Token → Y → Type 0) {old new : List Token} {e : Stop} (r : Result Y Stop)
    → IsErrAnd r (λ y. y ≡ e) → Stops R old e new → Reads R Is old r new
passed {Y} R Is {old} {new} {e} r h d =
    let p = err_from_is_err_and r h in
    subst (λ x. Reads R Is old x new) (sym p.1) (subst (λ y. Stops R old y new) (sym p.2) d)

-- ---- alternatives that begin with a token

begins_one : (j : TokenKind) (js : List TokenKind) (s : Rule TokenKind Name) (ts : List Token) → begins language_reader (seq (one j js) s) ts ≡ begins language_reader (one j js) ts
begins_one j js s ts = alone.begins_seq language_reader (one j js) s ts refl

pub stop_left_at : {j : TokenKind} {js : List TokenKind} {s q : Rule TokenKind Name} {ts us : List Token} {e : Stop}
    → begins language_reader (one j js) ts ≡ true → Stops (seq (one j js) s) ts e us → Stops (alt (seq (one j js) s) q) ts e us
stop_left_at {j} {js} {s} {ts = ts} h d = stop_left (begins_one j js s ts ∙ h) d

pub stop_right_at : {j : TokenKind} {js : List TokenKind} {s q : Rule TokenKind Name} {ts us : List Token} {e : Stop}
    → begins language_reader (one j js) ts ≡ false → Stops q ts e us → Stops (alt (seq (one j js) s) q) ts e us
stop_right_at {j} {js} {s} {ts = ts} h d = stop_right (begins_one j js s ts ∙ h) d

pub left_at : {j : TokenKind} {js : List TokenKind} {s q : Rule TokenKind Name} {ts us : List Token} {a : Tree Token}
    → begins language_reader (one j js) ts ≡ true → Parses language_reader (seq (one j js) s) ts (ok a us) → Parses language_reader (alt (seq (one j js) s) q) ts (ok (left a) us)
left_at {j} {js} {s} {ts = ts} h d = left-ok (begins_one j js s ts ∙ h) d

pub right_at : {j : TokenKind} {js : List TokenKind} {s q : Rule TokenKind Name} {ts us : List Token} {a : Tree Token}
    → begins language_reader (one j js) ts ≡ false → Parses language_reader q ts (ok a us) → Parses language_reader (alt (seq (one j js) s) q) ts (ok (right a) us)
right_at {j} {js} {s} {ts = ts} h d = right-ok (begins_one j js s ts ∙ h) d

-- ---- loops over parts

pub going_stop : {A : Type 0} {r : Rule TokenKind Name} {fold : Tree Token → A → A} {start now vs : List Token} {first value : A} {e : Stop}
    → Going language_reader r fold start now first value → begins language_reader r now ≡ true → Stops r now e vs → Stops (many r) start e vs
going_stop g h (syntax d) = syntax (alone.going_fail g h d)
going_stop g h memory = memory

-- the parts begin with a token
pub going_stop_at : {A : Type 0} {j : TokenKind} {js : List TokenKind} {s : Rule TokenKind Name} {fold : Tree Token → A → A} {start now vs : List Token} {first value : A} {e : Stop}
    → Going language_reader (seq (one j js) s) fold start now first value → begins language_reader (one j js) now ≡ true → Stops (seq (one j js) s) now e vs → Stops (many (seq (one j js) s)) start e vs
going_stop_at {j = j} {js = js} {s = s} {now = now} g h d = going_stop g (begins_one j js s now ∙ h) d

pub going_on_at : {A : Type 0} {j : TokenKind} {js : List TokenKind} {s : Rule TokenKind Name} {fold : Tree Token → A → A} {start now mid : List Token} {first value next : A} (x : Tree Token)
    → Going language_reader (seq (one j js) s) fold start now first value → begins language_reader (one j js) now ≡ true → Parses language_reader (seq (one j js) s) now (ok x mid)
    → ((b : Tree Token) → fold (pair x b) value ≡ fold b next) → Going language_reader (seq (one j js) s) fold start mid first next
going_on_at {j = j} {js = js} {s = s} {now = now} x g h p q = alone.going_on x g (begins_one j js s now ∙ h) p q

pub going_end_at : {A : Type 0} {j : TokenKind} {js : List TokenKind} {s : Rule TokenKind Name} {fold : Tree Token → A → A} {start now : List Token} {first value : A}
    → Going language_reader (seq (one j js) s) fold start now first value → begins language_reader (one j js) now ≡ false
    → (c : Tree Token) × Parses language_reader (many (seq (one j js) s)) start (ok c now) × (fold c first ≡ fold none value)
going_end_at {j = j} {js = js} {s = s} {now = now} g h = alone.going_end g (begins_one j js s now ∙ h)

pub going_begin : {A : Type 0} {r : Rule TokenKind Name} {fold : Tree Token → A → A} (ts : List Token) (a : A) → Going language_reader r fold ts ts a a
going_begin {r = r} {fold = fold} ts a = alone.going_begin language_reader r fold ts a

-- ---- tokens are used up

pub no_longer : {r : Rule TokenKind Name} {ts : List Token} {o : Out Token} → Parses language_reader r ts o → length (rest o) ≤ length ts
no_longer d = alone.no_longer language_ahead d

pub shorter : {j : TokenKind} {js : List TokenKind} {ts us : List Token} {a : Tree Token} → Parses language_reader (one j js) ts (ok a us) → length us < length ts
shorter d = alone.consumes language_ahead d refl
