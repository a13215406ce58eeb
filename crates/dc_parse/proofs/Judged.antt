-- Each text has one outcome.
use Rattle.std.proofs.Common.{◌≡◌, ◌⊎◌, inl, inr, ℕ, ◌<◌, ◌≤◌, Bool, true, false, nat_lt, List, length, refl, sym, ap, ◌∙◌, subst, arith, Some, None}
use Rattle.std.proofs.lemmas.Bool.Decides.{nat_tests}
use Rattle.std.specs.declared.option.Option.{Option}
use Rattle.dc_tokens.specs.declared.token.Token.{Token}
use Rattle.dc_tokens.specs.declared.token.LexFault.{LexFault}
use Rattle.dc_tokens.specs.Texts.{Tokens, Fails}
use Rattle.dc_tokens.proofs.Readings.{one_reading}
use Rattle.dc_grammar.specs.Grammar.{Tree}
use Rattle.dc_grammar.specs.Language.{Name, language}
use Rattle.dc_grammar.specs.Depth.{IsDeep}
use Rattle.dc_grammar.specs.Verdicts.{Verdict, whole, unexpected, unclosed, too_deep, Finds, HasOneVerdict}
use Rattle.dc_grammar.proofs.LanguageReader.{language_ahead}
use Rattle.dc_grammar.proofs.Right.{deep_or_not, nothing_shallow}
use Rattle.dc_grammar.proofs.Verdicts.{has_one_verdict}
use Rattle.dc_parse.specs.declared.fault.Fault.{Fault}
use Rattle.dc_parse.specs.Faults.{verdict_fault}
use Rattle.dc_parse.specs.Outcomes.{Outcome, refuses, lexed, IsOutcome, too_long, bytes, grammar, tree, HasOneOutcome}

verdicts : (ts : List Token) → HasOneVerdict language IsDeep ts
verdicts ts = has_one_verdict language_ahead IsDeep deep_or_not nothing_shallow ts

pub same_verdict : (text : List ℕ) (x : Name) (ts us : List Token) → Tokens 0 text ts → Tokens 0 text us → (v w : Verdict Token) → Finds language IsDeep x ts v → Finds language IsDeep x us w → v ≡ w
same_verdict text x ts us t u v w f g = (verdicts us).one x v w (subst (λ z. Finds language IsDeep x z v) ((one_reading text).one_list ts us t u) f) g

some_fault : (ts : List Token) (n : ℕ) (a : Tree Token) (v : Verdict Token) (f : Fault) → verdict_fault ts n v ≡ Some f → v ≡ whole a → ⊥
some_fault ts n a v f h e = none_some (sym (ap (verdict_fault ts n) e) ∙ h)
  where
    none_some : ◌≡◌ {A = Option Fault} None (Some f) → ⊥
    none_some e = absurd cc

fault_same : (f g : Fault) → ◌≡◌ {A = Option Fault} (Some f) (Some g) → f ≡ g
fault_same f g e = cc

module _ {A : Type 0} (x : Name) (judge : Tree Token → Outcome A) (text : List ℕ) where
  of_verdict : length text ≤ 65536 → (ts : List Token) → Tokens 0 text ts → (v : Verdict Token) → Finds language IsDeep x ts v → (o : Outcome A) × IsOutcome x judge text o
  of_verdict l ts t (whole a) f = (judge a, tree l ts t a f refl)
  of_verdict l ts t (unexpected n) f = (_, grammar l ts t (unexpected n) f _ refl refl)
  of_verdict l ts t unclosed f = (_, grammar l ts t unclosed f _ refl refl)
  of_verdict l ts t (too_deep n) f = (_, grammar l ts t (too_deep n) f _ refl refl)

  of_short : length text ≤ 65536 → ((ts : List Token) × Tokens 0 text ts) ⊎ ((f : LexFault) × Fails 0 text f) → (o : Outcome A) × IsOutcome x judge text o
  of_short l (inl t) = let v = (verdicts t.0).some x in of_verdict l t.0 t.1 v.0 v.1
  of_short l (inr f) = (refuses (lexed f.0), bytes l f.0 f.1 refl)

  some_outcome : (o : Outcome A) × IsOutcome x judge text o
  some_outcome = go (nat_lt 65536 (length text)) refl
    where
      more : nat_lt 65536 (length text) ≡ true → 65536 < length text
      more h = grind (arith, nat_tests)

      less : nat_lt 65536 (length text) ≡ false → length text ≤ 65536
      less h = grind (arith, nat_tests)

      go : (b : Bool) → nat_lt 65536 (length text) ≡ b → (o : Outcome A) × IsOutcome x judge text o
      go true h = (_, too_long (more h) refl)
      go false h = of_short (less h) (one_reading text).some

  pub one_outcome : (o p : Outcome A) → IsOutcome x judge text o → IsOutcome x judge text p → o ≡ p
  one_outcome o p (too_long l e) (too_long m f) = e ∙ sym f
  one_outcome o p (too_long l e) (bytes m g d f) = absurd (omega arith)
  one_outcome o p (too_long l e) (grammar m ts t v d g q f) = absurd (omega arith)
  one_outcome o p (too_long l e) (tree m ts t a d f) = absurd (omega arith)
  one_outcome o p (bytes l g d e) (too_long m f) = absurd (omega arith)
  one_outcome o p (bytes l g d e) (bytes m h c f) = e ∙ (ap (λ z. refuses (lexed z)) ((one_reading text).one_fault g h d c) ∙ sym f)
  one_outcome o p (bytes l g d e) (grammar m ts t v c h q f) = absurd ((one_reading text).not_both ts g t d)
  one_outcome o p (bytes l g d e) (tree m ts t a c f) = absurd ((one_reading text).not_both ts g t d)
  one_outcome o p (grammar l ts t v d g q e) (too_long m f) = absurd (omega arith)
  one_outcome o p (grammar l ts t v d g q e) (bytes m h c f) = absurd ((one_reading text).not_both ts h t c)
  one_outcome o p (grammar l ts t v d g q e) (grammar m us u w c h r f) =
      let s : ts ≡ us = (one_reading text).one_list ts us t u in
      let z : v ≡ w = same_verdict text x ts us t u v w d c in
      e ∙ (ap refuses (fault_same g h (sym q ∙ (ap (λ i. verdict_fault i (length text) v) s ∙ (ap (verdict_fault us (length text)) z ∙ r)))) ∙ sym f)
  one_outcome o p (grammar l ts t v d g q e) (tree m us u a c f) = absurd (some_fault ts (length text) a v g q (same_verdict text x ts us t u v (whole a) d c))
  one_outcome o p (tree l ts t a d e) (too_long m f) = absurd (omega arith)
  one_outcome o p (tree l ts t a d e) (bytes m h c f) = absurd ((one_reading text).not_both ts h t c)
  one_outcome o p (tree l ts t a d e) (grammar m us u w c h r f) = absurd (some_fault us (length text) a w h r (same_verdict text x us ts u t w (whole a) c d))
  one_outcome o p (tree l ts t a d e) (tree m us u b c f) = e ∙ (ap judge (whole_same a b (same_verdict text x ts us t u (whole a) (whole b) d c)) ∙ sym f)
    where
      whole_same : (a b : Tree Token) → ◌≡◌ {A = Verdict Token} (whole a) (whole b) → a ≡ b
      whole_same a b e = cc

  pub has_one_outcome : HasOneOutcome x judge text
  has_one_outcome = record { some = some_outcome; one = one_outcome }
