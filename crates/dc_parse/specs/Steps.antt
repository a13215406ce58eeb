-- What a step of the judgement of statements answers.
use Rattle.std.specs.Prelude.{◌≡◌, ◌⊎◌, ℕ, List, [], ◌∷◌, Result, Ok, Err, Some, None}
use Rattle.std.specs.declared.option.Option.{Option}
use Rattle.dc_affine.specs.declared.form.FormFault.{FormFault}
use Rattle.dc_parse.specs.declared.fault.Fault.{Fault}
use Rattle.dc_parse.specs.declared.fault.Kind.TheVariants as k
use Rattle.dc_tokens.specs.declared.token.Token.{Token}
use Rattle.dc_grammar.specs.Grammar.{Tree}
use Rattle.dc_grammar.specs.Language.{Name, language}
use Rattle.dc_grammar.specs.Depth.{IsDeep}
use Rattle.dc_grammar.specs.Verdicts.{Verdict, whole, Finds}
use Rattle.dc_parse.specs.Faults.{verdict_fault}
use Rattle.dc_parse.specs.Forms.{first_form, tail_of}

-- the offsets after those of these statements
abbrev pub after_all : {A : Type 0} → List A → List ℕ → List ℕ
after_all [] ps = ps
after_all (f ∷ fs) ps = after_all fs (tail_of ps)

-- of statements with these faults, which begin at the offsets old: none has one and the offsets new
-- are left, or the first is told
abbrev pub JudgesAll : List (Option FormFault) → List ℕ → Result (Unit {0}) Fault → List ℕ → Type 0
JudgesAll fs old (Ok u) new = (first_form old fs ≡ None) × (new ≡ after_all fs old)
JudgesAll fs old (Err e) new = (e.kind ≡ k.NoMemory) ⊎ (first_form old fs ≡ Some e)

-- of one statement
abbrev pub Judges : Option FormFault → List ℕ → Result (Unit {0}) Fault → List ℕ → Type 0
Judges f = JudgesAll (f ∷ [])

-- what the tokens say as a text of the name x; or want of memory, or the fault of their verdict,
-- where the text ends at an offset
abbrev pub IsFound : {X : Type 0} → Name → (Tree Token → X → Type 0) → List Token → ℕ
    → Result X Fault → Type 0
IsFound x Is ts end (Ok s) = (a : Tree Token) × Finds language IsDeep x ts (whole a) × Is a s
IsFound x Is ts end (Err e) =
    (e.kind ≡ k.NoMemory)
    ⊎ ((v : Verdict Token) × Finds language IsDeep x ts v × (verdict_fault ts end v ≡ Some e))
