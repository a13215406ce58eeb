-- What is answered of the tokens of a whole text.
use Rattle.std.specs.Prelude.{◌≡◌, ◌⊎◌, ℕ, suc, List, length, take, Result, Ok, Err, Some, None}
use Rattle.std.specs.declared.option.Option.{Option}
use Rattle.dc_tokens.specs.declared.token.Token.{Token}
use Rattle.dc_grammar.specs.Grammar.{Tree}
use Rattle.dc_grammar.specs.Language.{Name, language}
use Rattle.dc_grammar.specs.Depth.{IsDeep}
use Rattle.dc_grammar.specs.Reading.{Out, ok, fail}
use Rattle.dc_grammar.specs.Verdicts.{Verdict, whole, unclosed, Shallow, IsFirstDeep, Finds}
use Rattle.dc_descent.specs.declared.fault.Fault.{Fault}
use Rattle.dc_descent.specs.declared.fault.Kind.TheVariants as f
use Rattle.dc_descent.specs.Faults.{verdict_fault}

-- what the tokens say as a text of the name x; or want of memory, or the fault of their verdict,
-- where the text ends at an offset
abbrev pub IsRead : {X : Type 0} → Name → (Tree Token → X → Type 0) → List Token → ℕ
    → Result X Fault → Type 0
IsRead x Is ts end (Ok s) = (a : Tree Token) × Finds language IsDeep x ts (whole a) × Is a s
IsRead x Is ts end (Err e) =
    (e.kind ≡ f.NoMemory)
    ⊎ ((v : Verdict Token) × Finds language IsDeep x ts v × (verdict_fault ts end v ≡ Some e))

-- the tokens up to the first that is too deep, where there is one
abbrev pub IsCut : List Token → Option ℕ → List Token → Type 0
IsCut ts None p = Shallow IsDeep ts (length ts) × (p ≡ ts)
IsCut ts (Some n) p = IsFirstDeep IsDeep ts n × (p ≡ take (suc n) ts)

-- the verdict where a reader comes to the end
abbrev pub at_end : Out Token → Verdict Token
at_end (ok a us) = whole a
at_end (fail us) = unclosed

-- the fault at a token, or none where the reader came to the end and no token is too deep
abbrev pub Tells : Name → List Token → Out Token → Option Fault → Type 0
Tells x ts o (Some e) =
    (v : Verdict Token) × Finds language IsDeep x ts v
    × ((end : ℕ) → verdict_fault ts end v ≡ Some e)
Tells x ts o None = Finds language IsDeep x ts (at_end o)
