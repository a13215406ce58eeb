-- Steps of the judgement, one after another.
use Rattle.std.proofs.Common.{◌≡◌, ◌⊎◌, inl, inr, ℕ, suc, ◌<◌, ◌+◌, List, [], ◌∷◌, ◌++◌, length, drop, get_or, refl, sym, ap, ◌∙◌, subst, Result, Ok, Err, Some, None, add-one}
use Rattle.std.specs.Prelude.{IsErrAnd}
use Rattle.std.specs.declared.option.Option.{Option}
use Rattle.std.specs.Option.{option_or}
use Rattle.std.proofs.Math.Seq.{drop-cons}
use Rattle.std.proofs.lemmas.Result.{err_from_is_err_and}
use Rattle.dc_syntax.specs.declared.tree.Stmt.{Stmt}
use Rattle.dc_affine.specs.declared.form.FormFault.{FormFault}
use Rattle.dc_parse.specs.declared.fault.Fault.{Fault}
use Rattle.dc_parse.specs.declared.fault.Kind.TheVariants as k
use Rattle.dc_parse.specs.Forms.{first_form, tail_of, faults_in, all_faults}
use Rattle.dc_parse.specs.Steps.{after_all, JudgesAll}

pub after_both : (fs gs : List (Option FormFault)) (ps : List ℕ) → after_all (fs ++ gs) ps ≡ after_all gs (after_all fs ps)
after_both [] gs ps = refl
after_both (f ∷ fs) gs ps = after_both fs gs (tail_of ps)

pub first_both : (fs gs : List (Option FormFault)) (ps : List ℕ) → first_form ps (fs ++ gs) ≡ option_or (first_form ps fs) (first_form (after_all fs ps) gs)
first_both [] gs ps = refl
first_both (None ∷ fs) gs ps = first_both fs gs (tail_of ps)
first_both (Some f ∷ fs) gs ps = refl

-- want of memory, or the first fault
abbrev pub Stopped : List (Option FormFault) → List ℕ → Fault → Type 0
Stopped fs ps e = (e.kind ≡ k.NoMemory) ⊎ (first_form ps fs ≡ Some e)

pub stops_first : (fs gs : List (Option FormFault)) (ps : List ℕ) (e : Fault) → Stopped fs ps e → Stopped (fs ++ gs) ps e
stops_first fs gs ps e (inl h) = inl h
stops_first fs gs ps e (inr h) = inr (first_both fs gs ps ∙ ap (λ z. option_or z (first_form (after_all fs ps) gs)) h)

pub first_then : (fs gs : List (Option FormFault)) (ps qs : List ℕ) → first_form ps fs ≡ None → qs ≡ after_all fs ps → first_form ps (fs ++ gs) ≡ first_form qs gs
first_then fs gs ps qs n a = first_both fs gs ps ∙ (ap (λ z. option_or z (first_form (after_all fs ps) gs)) n ∙ ap (λ z. first_form z gs) (sym a))

pub stops_then : (fs gs : List (Option FormFault)) (ps qs : List ℕ) (e : Fault) → first_form ps fs ≡ None → qs ≡ after_all fs ps → Stopped gs qs e → Stopped (fs ++ gs) ps e
stops_then fs gs ps qs e n a (inl h) = inl h
stops_then fs gs ps qs e n a (inr h) = inr (first_then fs gs ps qs n a ∙ h)

pub stops_same : (fs gs : List (Option FormFault)) (ps qs : List ℕ) (e : Fault) → first_form ps fs ≡ first_form qs gs → Stopped fs ps e → Stopped gs qs e
stops_same fs gs ps qs e q (inl h) = inl h
stops_same fs gs ps qs e q (inr h) = inr (sym q ∙ h)

pub goes_on : (fs gs : List (Option FormFault)) (ps qs new : List ℕ) (r : Result (Unit {0}) Fault) → first_form ps fs ≡ None → qs ≡ after_all fs ps → JudgesAll gs qs r new → JudgesAll (fs ++ gs) ps r new
goes_on fs gs ps qs new (Ok u) n a d = (first_then fs gs ps qs n a ∙ d.0, d.1 ∙ (ap (after_all gs) a ∙ sym (after_both fs gs ps)))
goes_on fs gs ps qs new (Err e) n a d = stops_then fs gs ps qs e n a d

pub same_faults : (hs fs : List (Option FormFault)) (ps new : List ℕ) (r : Result (Unit {0}) Fault) → hs ≡ fs → JudgesAll fs ps r new → JudgesAll hs ps r new
same_faults hs fs ps new r e d = subst (λ z. JudgesAll z ps r new) (sym e) d

-- a fault that is handed on
pub handed : (hs fs : List (Option FormFault)) (ps new : List ℕ) (e : Fault) (r : Result (Unit {0}) Fault) → IsErrAnd r (λ y. y ≡ e) → hs ≡ fs → Stopped fs ps e → JudgesAll hs ps r new
handed hs fs ps new e r h q d =
    let p = err_from_is_err_and r h in
    subst (λ x. JudgesAll hs ps x new) (sym p.1) (subst (λ y. Stopped hs ps y) (sym p.2) (subst (λ z. Stopped z ps e) (sym q) d))

-- ---- a list of statements

pub faults_drop : (n : ℕ) (A : List Stmt) (i : ℕ) (S : Stmt) → i < length A → S ≡ get_or A i S → all_faults n (drop i A) ≡ faults_in n S ++ all_faults n (drop (i + 1) A)
faults_drop n A i S l e = rw add-one (ap (all_faults n) (drop-cons A i S l) ∙ ap (λ z. faults_in n z ++ all_faults n (drop (suc i) A)) (sym e))
