-- The tokens of a text that is not too deep: their numbers are small, and few operators stand in a row.
use Rattle.std.proofs.Common.{◌≡◌, ◌⊎◌, inr, ℕ, ◌+◌, ◌<◌, ◌≤◌, Bool, true, false, ◌||◌, nat_lt, List, [], ◌∷◌, ◌++◌, length, take, refl, sym, ap, ◌∙◌, subst, append_assoc, arith, length-append, if◌then◌else◌}
use Rattle.std.proofs.lemmas.Bool.Decides.{nat_tests}
use Rattle.std.proofs.Math.Seq.{take-append_seam}
use Rattle.std.specs.List.{fold, AllByRecursion}
use Rattle.std.proofs.lemmas.List.Sums.{fold-append}
use Rattle.dc_tokens.specs.declared.token.Token.{Token}
use Rattle.dc_tokens.specs.Pieces.{separator, comment, token}
use Rattle.dc_tokens.specs.Texts.{Tokens, end, piece}
use Rattle.dc_grammar.specs.Grammar.{has}
use Rattle.dc_grammar.specs.Kinds.{is}
use Rattle.dc_grammar.specs.Depth as depth
use Rattle.dc_grammar.specs.Depth.{IsDeep, operators_so_far, operators_with}
use Rattle.dc_grammar.specs.Verdicts.{Shallow}
use Rattle.dc_parse.proofs.Counted.{is_operator, Inside, one_if, ops}
use Rattle.dc_parse.proofs.Facts.{Small}
use Rattle.dc_parse.proofs.Tame.{Few}

pub small_tokens : {at : ℕ} {bs : List ℕ} {ts : List Token} → Tokens at bs ts → AllByRecursion Small ts
small_tokens end = tt
small_tokens (piece l (separator h) d) = small_tokens d
small_tokens (piece l (comment h) d) = small_tokens d
small_tokens (piece l (token h v) d) = (v, small_tokens d)

counted : (b c : Bool) (m : ℕ) → b || c ≡ true → (if b then m + 1 else (if c then m else 0)) ≡ one_if b + m
counted true c m h = omega arith
counted false true m h = omega arith
counted false false m h = absurd cc

counts : (m : ℕ) (y : List Token) → AllByRecursion Inside y → fold operators_with m y ≡ ops y + m
counts m [] h = omega arith
counts m (t ∷ y) h = counts (operators_with m t) y h.1 ∙ omega (arith, counted (is_operator t.kind) (has is depth.operands t.kind) m h.0)

pub few_of : (ts : List Token) → Shallow IsDeep ts (length ts) → Few ts
unfolding operators_so_far
few_of ts s x y z e i = go (nat_lt 64 (ops y)) refl
  where
    whole : ts ≡ (x ++ y) ++ z
    whole = e ∙ sym (append_assoc x y z)

    so_far : operators_so_far (x ++ y) ≡ ops y + operators_so_far x
    so_far = fold-append operators_with 0 x y ∙ counts (operators_so_far x) y i

    shallow : IsDeep (x ++ y) → ⊥
    shallow d = s (length (x ++ y)) (omega (arith, ap length whole, length-append (x ++ y) z)) (subst IsDeep (sym (ap (take (length (x ++ y))) whole ∙ take-append_seam (x ++ y) z)) d)

    go : (b : Bool) → nat_lt 64 (ops y) ≡ b → ops y ≤ 64
    go true h = absurd (shallow (inr (omega (arith, more h, so_far))))
      where
        more : nat_lt 64 (ops y) ≡ true → 64 < ops y
        more h = grind (arith, nat_tests)
    go false h = grind (arith, nat_tests)
