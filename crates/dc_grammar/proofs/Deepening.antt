-- One more token.
use Rattle.std.proofs.Common.{◌≡◌, ℕ, ◌+◌, ◌<◌, ◌≤◌, ◌⊎◌, inl, inr, List, length, take, get_or, refl, sym, ap, ◌∙◌, subst, arith, add-one}
use Rattle.std.proofs.lemmas.List.Sums.{fold_more}
use Rattle.dc_tokens.specs.declared.token.Token.{Token}
use Rattle.dc_grammar.specs.Depth.{IsDeep, open_brackets, operators_so_far, brackets_with, operators_with}
use Rattle.dc_grammar.specs.Verdicts.{Shallow, IsFirstDeep}
use Rattle.dc_grammar.proofs.Right.{nothing_shallow}
use Rattle.dc_grammar.proofs.Verdicts.{shallow_none, shallow_more}

pub brackets_next : (ts : List Token) (n a b : ℕ) (t : Token) → n < length ts → a ≡ open_brackets (take n ts) → b ≡ brackets_with a (get_or ts n t) → b ≡ open_brackets (take (n + 1) ts)
unfolding open_brackets
brackets_next ts n a b t h p q = q ∙ (ap (λ x. brackets_with x (get_or ts n t)) p ∙ sym (fold_more brackets_with 0 ts n t h))

pub operators_next : (ts : List Token) (n a b : ℕ) (t : Token) → n < length ts → a ≡ operators_so_far (take n ts) → b ≡ operators_with a (get_or ts n t) → b ≡ operators_so_far (take (n + 1) ts)
unfolding operators_so_far
operators_next ts n a b t h p q = q ∙ (ap (λ x. operators_with x (get_or ts n t)) p ∙ sym (fold_more operators_with 0 ts n t h))

pub nothing_deep : (ts : List Token) → Shallow IsDeep ts 0
nothing_deep ts = shallow_none IsDeep ts nothing_shallow

pub no_brackets : (ts : List Token) → 0 ≡ open_brackets (take 0 ts)
unfolding open_brackets
no_brackets ts = refl

pub no_operators : (ts : List Token) → 0 ≡ operators_so_far (take 0 ts)
unfolding operators_so_far
no_operators ts = refl

pub still_shallow : (ts : List Token) (n a b : ℕ) → Shallow IsDeep ts n → a ≡ open_brackets (take (n + 1) ts) → b ≡ operators_so_far (take (n + 1) ts) → a ≤ 64 → b ≤ 64 → Shallow IsDeep ts (n + 1)
still_shallow ts n a b s p q g h =
    subst (Shallow IsDeep ts) (sym (add-one n)) (shallow_more IsDeep ts n s (λ d. elim (subst (λ i. IsDeep (take i ts)) (sym (add-one n)) d) [ inl x ↦ omega arith | inr x ↦ omega arith ]))

pub first_found : (ts : List Token) (n a b : ℕ) → n < length ts → Shallow IsDeep ts n → a ≡ open_brackets (take (n + 1) ts) → b ≡ operators_so_far (take (n + 1) ts)
    → (64 < a) ⊎ ((a ≤ 64) × (64 < b)) → IsFirstDeep IsDeep ts n
first_found ts n a b l s p q h = (l, subst (λ i. IsDeep (take i ts)) (add-one n) (go h), s)
  where
    go : (64 < a) ⊎ ((a ≤ 64) × (64 < b)) → IsDeep (take (n + 1) ts)
    go (inl x) = inl (omega arith)
    go (inr x) = inr (omega (arith, x.1))
