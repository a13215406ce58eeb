-- A check has an answer.
use Rattle.std.specs.Prelude.{◌≡◌, ◌≢◌, ◌⊎◌, ℕ, Bool, true, false, cond, if◌then◌else◌, List, [], ◌∷◌, length, Option, Some, None}
use Rattle.std.proofs.Common.{refl, ◌∙◌, ap, subst, inl, inr}
use Rattle.dc_syntax.specs.declared.tree.Proc.{Proc}
use Rattle.dc_syntax.specs.declared.tree.Side.TheVariants.{New, Old}
use Rattle.dc_syntax.specs.declared.tree.Count.TheVariants as count
use Rattle.dc_syntax.specs.Params.{HaveSameParams}
use Rattle.dc_affine.specs.declared.atom.Atom.{Atom}
use Rattle.dc_program.specs.Programs.{IsProgram, IsCondition}
use Rattle.dc_system.specs.declared.edges.System.{System}
use Rattle.dc_system.specs.declared.edges.SystemFault.{SystemFault}
use Rattle.dc_system.specs.declared.edges.SystemFault.TheVariants as system
use Rattle.dc_system.specs.Systems.{system_of, size_fault}
use Rattle.dc_system.proofs.Shape.{shaped}
use Rattle.dc_system.proofs.EveryFold.{every_folded}
use Rattle.dc_cert.specs.declared.certificate.Certificate.{Certificate}
use Rattle.dc_cert.specs.Claims.{claim_of}
use Rattle.dc_cert.specs.Ranges.{HasCases, IsCertificate}
use Rattle.dc_match.specs.declared.fault.MatchFault.{MatchFault}
use Rattle.dc_match.specs.declared.fault.MatchFault.TheVariants as main
use Rattle.dc_clauses.specs.declared.step.Step.{Step}
use Rattle.dc_clauses.specs.Steps.{Test, is_true, AllHold, step, first_failure}
use Rattle.dc_clauses.specs.Sides.{family_steps}
use Rattle.dc_check.specs.declared.fault.CheckFault.{CheckFault}
use Rattle.dc_check.specs.declared.fault.CheckFault.TheVariants.{Rejected, Past128, TooLarge, NoMemory}
use Rattle.dc_check.specs.Systems.{IsSystemOf, HasSystems}
use Rattle.dc_check.specs.Answers.{claim_steps, main_fault, IsReady, IsFirst, FailsAt, IsFault}
use Rattle.dc_check.proofs.Checked.{accepts}
use Rattle.dc_endings.specs.Laws.{IsChecked, EachIsChecked}

-- ---- steps
record HasFailure (ss : List Step) : Type 0 where
  failing : Step
  first : first_failure ss ≡ Some failing
  untrue : is_true failing.test ≡ false

test_true : (t : Test) → is_true t ≡ true → t ≡ Some true
test_true (Some true) e = refl
test_true (Some false) e = absurd cc
test_true None e = absurd cc

hold_or_fail : (ss : List Step) → AllHold ss ⊎ HasFailure ss
hold_or_fail [] = inl tt
hold_or_fail (s ∷ ss) = by (is_true s.test) refl (hold_or_fail ss)
  where
    by : (b : Bool) → is_true s.test ≡ b → AllHold ss ⊎ HasFailure ss → AllHold (s ∷ ss) ⊎ HasFailure (s ∷ ss)
    by true e (inl h) = inl (test_true s.test e, h)
    by true e (inr h) =
        inr (record {
          failing = h.failing;
          first = ap (λ b. cond b (first_failure ss) (Some s)) e ∙ h.first;
          untrue = h.untrue;
        })
    by false e r =
        inr (record { failing = s; first = ap (λ b. cond b (first_failure ss) (Some s)) e; untrue = e })

-- ---- faults
abbrev HasFault : Proc → Proc → List (List Atom) → Certificate → Type 0
HasFault new old cases c = (f : CheckFault) × (f ≢ NoMemory) × IsFault new old cases c f

failed : (new old : Proc) (cases : List (List Atom)) (c : Certificate) (x : Step) → FailsAt new old cases c x
    → is_true x.test ≡ false → HasFault new old cases c
failed new old cases c x h e = by x.test refl e
  where
    by : (t : Test) → x.test ≡ t → is_true t ≡ false → HasFault new old cases c
    by (Some true) q f = absurd cc
    by (Some false) q f = (Rejected x.clause x.index, (λ z. cc), subst (λ t. FailsAt new old cases c (step x.clause x.index t)) q h)
    by None q f = (Past128 x.clause x.index, (λ z. cc), subst (λ t. FailsAt new old cases c (step x.clause x.index t)) q h)

-- ---- within the limits
module _ (new old : Proc) (cases : List (List Atom)) (c : Certificate)
    (hn : IsProgram new) (ho : IsProgram old) (same : HaveSameParams new old) (ok : IsCondition new.params cases) (cert : IsCertificate c) where
  module _ (s t : System) (systems : HasSystems new old c.version s t) where
    at_step : (x : Step) → IsFirst s t cases c x → is_true x.test ≡ false → IsChecked new old cases c
    at_step x h e = inr (failed new old cases c x (record { new_system = s; old_system = t; systems = systems; first = h }) e)

    claims_end : IsReady s t cases c → IsChecked new old cases c
    claims_end ready = by (hold_or_fail (claim_steps s t cases c))
      where
        by : AllHold (claim_steps s t cases c) ⊎ HasFailure (claim_steps s t cases c) → IsChecked new old cases c
        by (inl h) = inl (claim_of c.body, accepts new old s t cases c (claim_of c.body) hn ho same ok cert systems ready h refl)
        by (inr h) = at_step h.failing (inr (ready, h.first)) h.untrue

    width_ends : AllHold (family_steps s t cases c) → IsChecked new old cases c
    width_ends h = by (main_fault s t cases c) refl
      where
        wide : (b d : Bool) (m n : ℕ) (f : MatchFault)
            → (if b then Some (main.TooLarge count.Columns m) else (if d then Some (main.TooLarge count.Equations n) else None)) ≡ Some f → f ≢ main.NoMemory
        wide true d m n f e q = cc
        wide false true m n f e q = cc
        wide false false m n f e q = cc

        by : (o : Option MatchFault) → main_fault s t cases c ≡ o → IsChecked new old cases c
        by None e = claims_end (record { families = h; size = e })
        by (Some (main.TooLarge what n)) e =
            inr (TooLarge None what n, (λ z. cc), record { new_system = s; old_system = t; systems = systems; families = h; size = e })
        by (Some main.NoMemory) e = absurd (wide _ _ _ _ main.NoMemory e refl)

    steps_end : IsChecked new old cases c
    steps_end = by (hold_or_fail (family_steps s t cases c))
      where
        by : AllHold (family_steps s t cases c) ⊎ HasFailure (family_steps s t cases c) → IsChecked new old cases c
        by (inl h) = width_ends h
        by (inr h) = at_step h.failing (inl h.first) h.untrue

-- ---- the systems
has_system : (version : ℕ) (p : Proc) → IsProgram p → size_fault p ≡ None → (version ≡ 1) ⊎ (version ≡ 2)
    → (s : System) × IsSystemOf version p s
has_system version p h e (inl v) = (system_of p, inl (v, refl))
has_system version p h e (inr v) = let f = every_folded (system_of p) (shaped p h e) in (f.0, inr (v, f.1))

version_is : (c : Certificate) → IsCertificate c → (c.version ≡ 1) ⊎ (c.version ≡ 2)
version_is c h = by h.cases
  where
    by : HasCases c.version (length c.when) → (c.version ≡ 1) ⊎ (c.version ≡ 2)
    by (inl e) = inl e.0
    by (inr e) = inr e.0

large : (b d : Bool) (m n : ℕ)
    → (if b then Some (system.TooLarge count.Locations m) else (if d then Some (system.TooLarge count.Edges n) else None)) ≡ Some system.NoMemory → ⊥
large true d m n e = cc
large false true m n e = cc
large false false m n e = cc

pub each_is_checked : EachIsChecked
each_is_checked new old cases c hn ho same ok cert = new_size (size_fault new) refl
  where
    old_size : size_fault new ≡ None → (o : Option SystemFault) → size_fault old ≡ o → IsChecked new old cases c
    old_size e None f =
        let v = version_is c cert in
        let s = has_system c.version new hn e v in
        let t = has_system c.version old ho f v in
        steps_end new old cases c hn ho same ok cert s.0 t.0
        (record { new_size = e; old_size = f; new_system = s.1; old_system = t.1 })
    old_size e (Some (system.TooLarge what n)) f = inr (TooLarge (Some Old) what n, (λ z. cc), (e, f))
    old_size e (Some system.NoMemory) f = absurd (large _ _ _ _ f)

    new_size : (o : Option SystemFault) → size_fault new ≡ o → IsChecked new old cases c
    new_size None e = old_size e (size_fault old) refl
    new_size (Some (system.TooLarge what n)) e = inr (TooLarge (Some New) what n, (λ z. cc), e)
    new_size (Some system.NoMemory) e = absurd (large _ _ _ _ e)
