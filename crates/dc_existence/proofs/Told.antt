-- Two texts and a condition say something together, or one of them is wrong first.
use Rattle.std.proofs.Common.{◌≡◌, ◌≢◌, ◌⊎◌, inl, inr, refl, sym, ◌∙◌, ℕ, Bool, true, false, nat_lt, true≢false, arith, List, [], ◌∷◌, Option, Some, None}
use Rattle.std.specs.Str.{bytes_eq}
use Rattle.std.proofs.lemmas.Bool.Decides.{nat_tests}
use Rattle.std.proofs.lemmas.Slice.Eq.{bytes_eq-Decides}
use Rattle.std.proofs.lemmas.Bool.{ltb-true}
use Rattle.dc_syntax.specs.declared.tree.Proc.{Proc}
use Rattle.dc_syntax.specs.Params.{params_of, HaveSameParams}
use Rattle.dc_affine.specs.declared.atom.Atom.{Atom}
use Rattle.dc_lines.specs.Bytes.{Bytes}
use Rattle.dc_grammar.specs.Language.{source, cond}
use Rattle.dc_parse.specs.Outcomes.{Outcome, says, refuses}
use Rattle.dc_parse.specs.Judges.{judge_source, judge_condition}
use Rattle.dc_parse.specs.Answers.{SourceOutcome, ConditionOutcome}
use Rattle.dc_parse.proofs.Judged.{has_one_outcome}
use Rattle.dc_answers.specs.declared.refusal.Text.{Text}
use Rattle.dc_answers.specs.declared.refusal.Text.TheVariants.{New, Old, When}
use Rattle.dc_answers.specs.declared.refusal.Wrong.{Wrong}
use Rattle.dc_answers.specs.declared.refusal.Wrong.TheVariants.{Parse, ParametersDiffer}
use Rattle.dc_answers.specs.Sources.{SaysProgram, SaysCases, SayPair, is_wrong, Tells, new_wrong, old_wrong, differ, when_wrong}
use Rattle.dc_existence.proofs.Wants.{source_judged, condition_judged, fault_in}

-- ---- equal parameters or not
text_same : (x y : Bytes) → (x ≡ y) ⊎ (x ≢ y)
text_same x y = go (bytes_eq x y) refl
  where
    go : (b : Bool) → bytes_eq x y ≡ b → (x ≡ y) ⊎ (x ≢ y)
    go true e = inl ((bytes_eq-Decides x y).0 e)
    go false e = inr (λ s. true≢false (sym ((bytes_eq-Decides x y).1 s) ∙ e))

first_same : (x y : Bytes) (xs ys : List Bytes) → x ∷ xs ≡ y ∷ ys → x ≡ y
first_same x y xs ys e = cc

rest_same : (x y : Bytes) (xs ys : List Bytes) → x ∷ xs ≡ y ∷ ys → xs ≡ ys
rest_same x y xs ys e = cc

texts_same : (xs ys : List Bytes) → (xs ≡ ys) ⊎ (xs ≢ ys)
texts_same [] [] = inl refl
texts_same [] (y ∷ ys) = inr (λ e. cc)
texts_same (x ∷ xs) [] = inr (λ e. cc)
texts_same (x ∷ xs) (y ∷ ys) = go (text_same x y) (texts_same xs ys)
  where
    go : (x ≡ y) ⊎ (x ≢ y) → (xs ≡ ys) ⊎ (xs ≢ ys) → (x ∷ xs ≡ y ∷ ys) ⊎ (x ∷ xs ≢ y ∷ ys)
    go (inl e) (inl f) = inl (λ i. e i ∷ f i)
    go (inr n) s = inr (λ e. n (first_same x y xs ys e))
    go (inl e) (inr n) = inr (λ f. n (rest_same x y xs ys f))

count_same : (m n : ℕ) → (m ≡ n) ⊎ (m ≢ n)
count_same m n = go (nat_lt m n) refl (nat_lt n m) refl
  where
    equal : nat_lt m n ≡ false → nat_lt n m ≡ false → m ≡ n
    equal h k = grind (arith, nat_tests)

    go : (a : Bool) → nat_lt m n ≡ a → (b : Bool) → nat_lt n m ≡ b → (m ≡ n) ⊎ (m ≢ n)
    go true h b k = inr (λ e. let l = ltb-true m n h in omega arith)
    go false h true k = inr (λ e. let l = ltb-true n m k in omega arith)
    go false h false k = inl (equal h k)

params_same : (p q : Proc) → HaveSameParams p q ⊎ (¬ HaveSameParams p q)
params_same p q = go (count_same p.params q.params) (texts_same (params_of p) (params_of q))
  where
    go : (p.params ≡ q.params) ⊎ (p.params ≢ q.params) → (params_of p ≡ params_of q) ⊎ (params_of p ≢ params_of q) → HaveSameParams p q ⊎ (¬ HaveSameParams p q)
    go (inl e) (inl f) = inl (e, f)
    go (inr n) s = inr (λ h. n h.0)
    go (inl e) (inr n) = inr (λ h. n h.1)

-- ---- the texts
-- which text is wrong first, or what all say
abbrev pub AreRead : Bytes → Bytes → Option Bytes → Type 0
AreRead x y when =
    ((at : Text) × (w : Wrong) × Tells x y when (is_wrong at w))
    ⊎ ((p : Proc) × (q : Proc) × (cases : List (List Atom)) × SayPair x y p q × SaysCases when p cases)

module _ (x y : Bytes) (when : Option Bytes) where
  by_condition : (p q : Proc) → SayPair x y p q → (w : Option Bytes) → w ≡ when → AreRead x y w
  by_condition p q s None e = inr (p, q, ([] ∷ []), s, refl)
  by_condition p q s (Some z) e = of (has_one_outcome cond (judge_condition (params_of p) z) z).some
    where
      of : (o : Outcome (List (List Atom))) × ConditionOutcome (params_of p) z o → AreRead x y (Some z)
      of (says cases, h) = inr (p, q, cases, s, h)
      of (refuses f, h) =
          let g = fault_in (ConditionOutcome (params_of p) z) z f h (condition_judged (params_of p) z f h) in
          inl (When, Parse g.0, when_wrong p q s g.0 g.1 refl)

  by_params : (p q : Proc) → SaysProgram x p → SaysProgram y q → HaveSameParams p q ⊎ (¬ HaveSameParams p q) → AreRead x y when
  by_params p q h k (inl a) = by_condition p q (record { new_said = h; old_said = k; agree = a }) when refl
  by_params p q h k (inr n) = inl (Old, ParametersDiffer, differ p q h k n refl)

  by_old : (p : Proc) → SaysProgram x p → (o : Outcome Proc) × SourceOutcome y o → AreRead x y when
  by_old p h (says q, k) = by_params p q h k (params_same p q)
  by_old p h (refuses f, k) =
      let g = fault_in (SourceOutcome y) y f k (source_judged y f k) in
      inl (Old, Parse g.0, old_wrong p h g.0 g.1 refl)

  by_new : (o : Outcome Proc) × SourceOutcome x o → AreRead x y when
  by_new (says p, h) = by_old p h (has_one_outcome source (judge_source y) y).some
  by_new (refuses f, h) =
      let g = fault_in (SourceOutcome x) x f h (source_judged x f h) in
      inl (New, Parse g.0, new_wrong g.0 g.1 refl)

  pub are_read : AreRead x y when
  are_read = by_new (has_one_outcome source (judge_source x) x).some
