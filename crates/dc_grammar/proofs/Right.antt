-- The reader of a grammar that looks one token ahead reads right.
use Rattle.std.proofs.Common.{◌≡◌, ℕ, ◌<◌, ◌⊎◌, inl, inr, Bool, true, false, nat_lt, List, [], ◌∷◌, refl, arith}
use Rattle.std.proofs.lemmas.Bool.Decides.{nat_tests}
use Rattle.dc_tokens.specs.declared.token.Token.{Token}
use Rattle.dc_grammar.specs.Grammar.{ref, has}
use Rattle.dc_grammar.specs.Reading.{Reader, ok}
use Rattle.dc_grammar.specs.Lookahead.{ll1, LooksAhead, implies}
use Rattle.dc_grammar.specs.Laws.{MayFollow, ReadsRight}
use Rattle.dc_grammar.specs.Depth.{IsDeep, open_brackets, operators_so_far}
use Rattle.dc_grammar.proofs.OneAnswer.{one_answer}
use Rattle.dc_grammar.proofs.Done.{Done, done}
use Rattle.dc_grammar.proofs.Complete.{Fits, complete}
use Rattle.dc_grammar.proofs.Alone.{every_all}
use Rattle.dc_grammar.proofs.Total.{total}
use Rattle.dc_grammar.proofs.Verdicts.{fails_at, ends_early}

same_follow : {K N T : Type 0} (R : Reader K N T) (x : N) (ts : List T) → MayFollow R x ts → Fits R (has R.grammar.same (R.follow x)) ts
same_follow R x [] h = tt
same_follow R x (t ∷ ts) h = h

self_implies : (b : Bool) → implies b b ≡ true
unfolding implies
self_implies true = refl
self_implies false = refl

name_alone : {K N T : Type 0} {R : Reader K N T} → (each : LooksAhead R) → (x : N) → ll1 R each.kinds (ref x) (has R.grammar.same (R.follow x)) ≡ true
unfolding ll1
name_alone {R = R} each x = every_all each.kinds (λ k. implies (has R.grammar.same (R.follow x) k) (has R.grammar.same (R.follow x) k)) (λ k. self_implies (has R.grammar.same (R.follow x) k))

pub reads_right : {K N T : Type 0} {R : Reader K N T} → LooksAhead R → ReadsRight R
reads_right {K} {N} {T} {R} each = record {
  some = λ x ts. let o = total each x ts in (o.out, o.parsed);
  one = λ r ts o p d e. one_answer d e;
  sound = λ x ts us a d. let i : Done R (ref x) ts (ok a us) = done each d in (i.used, i.split, i.means);
  complete = λ x u ts a d h. complete each d (has R.grammar.same (R.follow x)) (name_alone each x) ts (same_follow R x ts h);
  local = λ x ts w a t d. let i : Done R (ref x) ts (ok a (t ∷ w)) = done each d in (i.used, i.split, λ v. i.again t w v refl);
  first_wrong = λ x ts w t d. let k = fails_at each x ts t w d in (k.used, k.split, k.wrong.before, k.wrong.after);
  ends_soon = λ x ts d. ends_early each x ts d;
}

-- ---- depth can be told

above : (n : ℕ) → (64 < n) ⊎ (64 < n → ⊥)
above n = go (nat_lt 64 n) refl
  where
    go : (b : Bool) → nat_lt 64 n ≡ b → (64 < n) ⊎ (64 < n → ⊥)
    go true h = inl (grind (arith, nat_tests))
    go false h = inr (λ l. grind (arith, nat_tests))

pub deep_or_not : (u : List Token) → IsDeep u ⊎ (IsDeep u → ⊥)
deep_or_not u = go (above (open_brackets u)) (above (operators_so_far u))
  where
    go : (64 < open_brackets u) ⊎ (64 < open_brackets u → ⊥) → (64 < operators_so_far u) ⊎ (64 < operators_so_far u → ⊥) → IsDeep u ⊎ (IsDeep u → ⊥)
    go (inl h) g = inl (inl h)
    go (inr h) (inl g) = inl (inr g)
    go (inr h) (inr g) = inr (λ d. elim d [ inl e ↦ h e | inr e ↦ g e ])

pub nothing_shallow : IsDeep [] → ⊥
unfolding open_brackets operators_so_far
nothing_shallow (inl h) = absurd (omega arith)
nothing_shallow (inr h) = absurd (omega arith)
