-- From the reader's answer to what stands first in a text.
use Rattle.std.proofs.Common.{◌≡◌, ℕ, zero, suc, ◌+◌, ◌<◌, ◌≤◌, ◌⊎◌, inl, inr, Bool, true, false, nat_lt, List, [], ◌∷◌, ◌++◌, length, take, drop, refl, ap, sym, ◌∙◌, subst, append_assoc, append-nil, take-append-drop, arith, length-append, length-take}
use Rattle.std.proofs.lemmas.Bool.Decides.{nat_tests}
use Rattle.std.proofs.Math.Seq.{take-append_seam}
use Rattle.std.proofs.lemmas.List.{take-take, take_all}
use Rattle.dc_grammar.specs.Grammar.{Grammar, ref, Tree, Derives, Viable}
use Rattle.dc_grammar.specs.Reading.{Reader, Out, ok, fail, Parses}
use Rattle.dc_grammar.specs.Lookahead.{LooksAhead}
use Rattle.dc_grammar.specs.Verdicts.{Verdict, whole, unexpected, unclosed, too_deep, Shallow, Finds, HasOneVerdict}
use Rattle.dc_grammar.proofs.OneAnswer.{one_answer, ok_same, fail_ok}
use Rattle.dc_grammar.proofs.Done.{Done, done}
use Rattle.dc_grammar.proofs.Alone.{alone, one_tree, ends_whole, fails_whole, list_cons}
use Rattle.dc_grammar.proofs.Total.{total}

-- ---- fronts of texts

pub viable_front : {K N T : Type 0} (G : Grammar K N T) (x : N) (u : List T) (n : ℕ) → Viable G x u → Viable G x (take n u)
viable_front G x u n (more, a, d) =
    (drop n u ++ more, a, subst (λ v. Derives G (ref x) v a) (sym (sym (append_assoc (take n u) (drop n u) more) ∙ ap (λ v. v ++ more) (take-append-drop n u))) d)

viable_before : {K N T : Type 0} (G : Grammar K N T) (x : N) (ts : List T) (m n : ℕ) → m ≤ n → Viable G x (take n ts) → Viable G x (take m ts)
viable_before G x ts m n l v = subst (Viable G x) (take-take m n ts l) (viable_front G x (take n ts) m v)

pub text_viable : {K N T : Type 0} (G : Grammar K N T) (x : N) (u : List T) (a : Tree T) → Derives G (ref x) u a → Viable G x u
text_viable G x u a d = ([], a, subst (λ v. Derives G (ref x) v a) (sym (append-nil u)) d)

-- ---- one verdict

-- a text in which a token is unexpected is neither whole nor begins a text
not_unexpected : {K N T : Type 0} (G : Grammar K N T) (x : N) (ts : List T) (n : ℕ) → (Viable G x (take (suc n) ts) → ⊥) → Viable G x ts → ⊥
not_unexpected G x ts n h v = h (viable_front G x ts (suc n) v)

-- a token is not unexpected where a text goes on with it, deep or not
unexpected_deep : {K N T : Type 0} (G : Grammar K N T) (Deep : List T → Type 0) (x : N) (ts : List T) (n m : ℕ) → Finds G Deep x ts (unexpected n) → Finds G Deep x ts (too_deep m) → ⊥
unexpected_deep G Deep x ts n m f g = go (nat_lt m n) refl
  where
    less : nat_lt m n ≡ true → m < n
    less h = grind (arith, nat_tests)

    more : nat_lt m n ≡ false → n ≤ m
    more h = grind (arith, nat_tests)

    go : (b : Bool) → nat_lt m n ≡ b → ⊥
    go true h = f.3 (suc m) (less h) g.2
    go false h = f.2 (viable_before G x ts (suc n) (suc m) (omega (arith, more h)) g.1)

one_verdict : {K N T : Type 0} {R : Reader K N T} → LooksAhead R → (Deep : List T → Type 0) (x : N) (ts : List T) (v w : Verdict T)
    → Finds R.grammar Deep x ts v → Finds R.grammar Deep x ts w → v ≡ w
one_verdict each Deep x ts (whole a) (whole b) f g = ap whole (one_tree each x ts a b f.0 g.0)
one_verdict {R = R} each Deep x ts (whole a) (unexpected n) f g = absurd (not_unexpected R.grammar x ts n g.2 (text_viable R.grammar x ts a f.0))
one_verdict each Deep x ts (whole a) unclosed f g = absurd (g.1 a f.0)
one_verdict each Deep x ts (whole a) (too_deep n) f g = absurd (f.1 (suc n) g.0 g.2)
one_verdict {R = R} each Deep x ts (unexpected n) (whole b) f g = absurd (not_unexpected R.grammar x ts n f.2 (text_viable R.grammar x ts b g.0))
one_verdict {R = R} each Deep x ts (unexpected n) (unexpected m) f g = ap unexpected (omega (arith, not_less n m f g, not_less m n g f))
  where
    not_less : (n m : ℕ) → Finds R.grammar Deep x ts (unexpected n) → Finds R.grammar Deep x ts (unexpected m) → n < m → ⊥
    not_less n m f g l = f.2 (viable_before R.grammar x ts (suc n) m l g.1)
one_verdict {R = R} each Deep x ts (unexpected n) unclosed f g = absurd (not_unexpected R.grammar x ts n f.2 g.0)
one_verdict {R = R} each Deep x ts (unexpected n) (too_deep m) f g = absurd (unexpected_deep R.grammar Deep x ts n m f g)
one_verdict each Deep x ts unclosed (whole b) f g = absurd (f.1 b g.0)
one_verdict {R = R} each Deep x ts unclosed (unexpected n) f g = absurd (not_unexpected R.grammar x ts n g.2 f.0)
one_verdict each Deep x ts unclosed unclosed f g = refl
one_verdict each Deep x ts unclosed (too_deep n) f g = absurd (f.2 (suc n) g.0 g.2)
one_verdict each Deep x ts (too_deep n) (whole b) f g = absurd (g.1 (suc n) f.0 f.2)
one_verdict {R = R} each Deep x ts (too_deep n) (unexpected m) f g = absurd (unexpected_deep R.grammar Deep x ts m n g f)
one_verdict each Deep x ts (too_deep n) unclosed f g = absurd (g.2 (suc n) f.0 f.2)
one_verdict {R = R} each Deep x ts (too_deep n) (too_deep m) f g = ap too_deep (omega (arith, not_less n m f g, not_less m n g f))
  where
    not_less : (n m : ℕ) → Finds R.grammar Deep x ts (too_deep n) → Finds R.grammar Deep x ts (too_deep m) → n < m → ⊥
    not_less n m f g l = g.3 (suc n) l f.2

-- ---- where the reader stops

pub stuck : {K N T : Type 0} {R : Reader K N T} → LooksAhead R → {x : N} (u : List T) (t : T) (o : List T → Out T)
    → ((w : List T) → Parses R (ref x) (u ++ t ∷ w) (o (t ∷ w)))
    → ((w : List T) (a : Tree T) → o (t ∷ w) ≡ ok a [] → ⊥)
    → Viable R.grammar x (u ++ t ∷ []) → ⊥
stuck {R = R} each {x} u t o again differs (more, a, d) =
    differs more a (one_answer (again more) (alone each (subst (λ v. Derives R.grammar (ref x) v a) (append_assoc u (t ∷ []) more) d)))

-- a token with which no text goes on, after the tokens u
pub record Wrong_at {K N T : Type 0} (G : Grammar K N T) (x : N) (u : List T) (t : T) : Type 0 where
  pub before : Viable G x u
  pub after : Viable G x (u ++ t ∷ []) → ⊥

pub record Stuck {K N T : Type 0} (G : Grammar K N T) (x : N) (ts : List T) (t : T) (w : List T) : Type 0 where
  pub used : List T
  pub split : ts ≡ used ++ t ∷ w
  pub wrong : Wrong_at G x used t

pub fails_at : {K N T : Type 0} {R : Reader K N T} → LooksAhead R → (x : N) (ts : List T) (t : T) (w : List T) → Parses R (ref x) ts (fail (t ∷ w)) → Stuck R.grammar x ts t w
fails_at {R = R} each x ts t w d =
    let i : Done R (ref x) ts (fail (t ∷ w)) = done each d in
    record { used = i.used; split = i.split; wrong = record { before = i.means; after = stuck each i.used t (λ v. fail v) (λ w'. i.again t w w' refl) (λ w' a e. fail_ok e) } }

pub more_at : {K N T : Type 0} {R : Reader K N T} → LooksAhead R → (x : N) (ts : List T) (a : Tree T) (t : T) (w : List T) → Parses R (ref x) ts (ok a (t ∷ w)) → Stuck R.grammar x ts t w
more_at {R = R} each x ts a t w d =
    let i : Done R (ref x) ts (ok a (t ∷ w)) = done each d in
    record {
      used = i.used;
      split = i.split;
      wrong = record {
        before = text_viable R.grammar x i.used a i.means;
        after = stuck each i.used t (λ v. ok a v) (λ w'. i.again t w w' refl) (λ w' b e. list_cons (ok_same e).1);
      };
    }

pub ends_early : {K N T : Type 0} {R : Reader K N T} → LooksAhead R → (x : N) (ts : List T) → Parses R (ref x) ts (fail []) → Viable R.grammar x ts × ((a : Tree T) → Derives R.grammar (ref x) ts a → ⊥)
ends_early {R = R} each x ts d =
    let i : Done R (ref x) ts (fail []) = done each d in
    (subst (Viable R.grammar x) (sym (i.split ∙ append-nil i.used)) i.means, fails_whole each x ts [] d)

-- ---- the front of a text that is to be read: up to the first token that is too deep

pub data Part {T : Type 0} (Deep : List T → Type 0) (ts : List T) : List T → Type 0 where
  all : Shallow Deep ts (length ts) → Part Deep ts ts
  deep : {n : ℕ} → n < length ts → Deep (take (suc n) ts) → Shallow Deep ts n → Part Deep ts (take (suc n) ts)

front_more : {T : Type 0} (u : List T) (t : T) (w : List T) → take (suc (length u)) (u ++ t ∷ w) ≡ u ++ t ∷ []
front_more [] t w = refl
front_more (x ∷ u) t w = ap (λ v. x ∷ v) (front_more u t w)

-- in the first m tokens, which are u, then t, then w, the token t is unexpected
pub found_at : {K N T : Type 0} (G : Grammar K N T) (Deep : List T → Type 0) (x : N) (ts : List T) (m s : ℕ) (u : List T) (t : T) (w : List T)
    → take m ts ≡ u ++ t ∷ w → m ≤ length ts → length u ≤ s → Shallow Deep ts s → Wrong_at G x u t → Finds G Deep x ts (unexpected (length u))
found_at G Deep x ts m s u t w q g k shallow wrong =
    let l : length (take m ts) ≡ length u + suc (length w) = ap length q ∙ length-append u (t ∷ w) in
    let c : length u < m = omega (arith, l, length-take m ts) in
    let e1 : take (length u) ts ≡ u = sym (take-take (length u) m ts (omega arith)) ∙ (ap (take (length u)) q ∙ take-append_seam u (t ∷ w)) in
    let e2 : take (suc (length u)) ts ≡ u ++ t ∷ [] = sym (take-take (suc (length u)) m ts c) ∙ (ap (take (suc (length u))) q ∙ front_more u t w) in
    (omega arith, subst (Viable G x) (sym e1) wrong.before, (λ v. wrong.after (subst (Viable G x) e2 v)), λ j h d. shallow j (omega arith) d)

judge : {K N T : Type 0} {R : Reader K N T} → LooksAhead R → (Deep : List T → Type 0) (x : N) (ts p : List T) → Part Deep ts p → (o : Out T) → Parses R (ref x) p o
    → (v : Verdict T) × Finds R.grammar Deep x ts v
judge each Deep x ts p (all s) (ok a []) d = (whole a, (ends_whole each x ts a d, s))
judge {R = R} each Deep x ts p (all s) (ok a (t ∷ w)) d =
    let k = more_at each x ts a t w d in (
      unexpected (length k.used),
      found_at R.grammar Deep x ts (length ts) (length ts) k.used t w (take_all (length ts) ts (omega arith) ∙ k.split) (omega arith)
          (omega (arith, ap length k.split, length-append k.used (t ∷ w))) s k.wrong,
    )
judge each Deep x ts p (all s) (fail []) d = let e = ends_early each x ts d in (unclosed, (e.0, e.1, s))
judge {R = R} each Deep x ts p (all s) (fail (t ∷ w)) d =
    let k = fails_at each x ts t w d in (
      unexpected (length k.used),
      found_at R.grammar Deep x ts (length ts) (length ts) k.used t w (take_all (length ts) ts (omega arith) ∙ k.split) (omega arith)
          (omega (arith, ap length k.split, length-append k.used (t ∷ w))) s k.wrong,
    )
judge {R = R} each Deep x ts p (deep {n = n} h e s) (ok a []) d = (too_deep n, (h, text_viable R.grammar x (take (suc n) ts) a (ends_whole each x (take (suc n) ts) a d), e, s))
judge {R = R} each Deep x ts p (deep {n = n} h e s) (ok a (t ∷ w)) d =
    let k = more_at each x (take (suc n) ts) a t w d in (
      unexpected (length k.used),
      found_at R.grammar Deep x ts (suc n) n k.used t w k.split h
          (omega (arith, ap length k.split, length-append k.used (t ∷ w), length-take (suc n) ts)) s k.wrong,
    )
judge each Deep x ts p (deep {n = n} h e s) (fail []) d = (too_deep n, (h, (ends_early each x (take (suc n) ts) d).0, e, s))
judge {R = R} each Deep x ts p (deep {n = n} h e s) (fail (t ∷ w)) d =
    let k = fails_at each x (take (suc n) ts) t w d in (
      unexpected (length k.used),
      found_at R.grammar Deep x ts (suc n) n k.used t w k.split h
          (omega (arith, ap length k.split, length-append k.used (t ∷ w), length-take (suc n) ts)) s k.wrong,
    )

-- ---- the first token that is too deep

one_below : (j n : ℕ) → j ≤ suc n → (j ≤ n) ⊎ (j ≡ suc n)
one_below zero n h = inl (omega arith)
one_below (suc j) zero h = inr (omega arith)
one_below (suc j) (suc n) h = elim (one_below j n (omega arith)) [ inl g ↦ inl (omega arith) | inr e ↦ inr (ap suc e) ]

pub shallow_more : {T : Type 0} (Deep : List T → Type 0) (ts : List T) (n : ℕ) → Shallow Deep ts n → (Deep (take (suc n) ts) → ⊥) → Shallow Deep ts (suc n)
shallow_more Deep ts n s h j l d = elim (one_below j n l) [ inl g ↦ s j g d | inr e ↦ h (subst (λ i. Deep (take i ts)) e d) ]

part_from : {T : Type 0} (Deep : List T → Type 0) → ((u : List T) → Deep u ⊎ (Deep u → ⊥)) → (ts : List T) (k n : ℕ) → n + k ≡ length ts → Shallow Deep ts n → (p : List T) × Part Deep ts p
part_from Deep test ts zero n e s = (ts, all (λ j l. s j (omega arith)))
part_from {T = T} Deep test ts (suc k) n e s = go (test (take (suc n) ts)) (λ h. part_from Deep test ts k (suc n) (omega arith) (shallow_more Deep ts n s h))
  where
    go : Deep (take (suc n) ts) ⊎ (Deep (take (suc n) ts) → ⊥) → ((Deep (take (suc n) ts) → ⊥) → (p : List T) × Part Deep ts p) → (p : List T) × Part Deep ts p
    go (inl d) again = (take (suc n) ts, deep (omega arith) d s)
    go (inr h) again = again h

pub shallow_none : {T : Type 0} (Deep : List T → Type 0) (ts : List T) → (Deep [] → ⊥) → Shallow Deep ts 0
shallow_none Deep ts h zero l d = h d
shallow_none Deep ts h (suc j) l d = absurd (omega arith)

-- each list of tokens has one verdict, where depth can be told and nothing is not too deep
pub has_one_verdict : {K N T : Type 0} {R : Reader K N T} → LooksAhead R → (Deep : List T → Type 0) → ((u : List T) → Deep u ⊎ (Deep u → ⊥)) → (Deep [] → ⊥)
    → (ts : List T) → HasOneVerdict R.grammar Deep ts
has_one_verdict {R = R} each Deep test none ts =
    let p = part_from Deep test ts (length ts) 0 (omega arith) (shallow_none Deep ts none) in
    record {
      some = λ x. let o = total each x p.0 in judge each Deep x ts p.0 p.1 o.out o.parsed;
      one = λ x v w f g. one_verdict each Deep x ts v w f g;
    }
