-- A check is refused for one reason, or accepts.
use Rattle.std.proofs.Common.{◌≡◌, ◌≢◌, refl, sym, ap, subst, inl, inr, ℕ, false, List, Option, Some, None}
use Rattle.dc_syntax.specs.declared.tree.Proc.{Proc}
use Rattle.dc_syntax.specs.declared.tree.Side.{Side}
use Rattle.dc_syntax.specs.declared.tree.Side.TheVariants.{New, Old}
use Rattle.dc_syntax.specs.declared.tree.Count.{Count}
use Rattle.dc_affine.specs.declared.atom.Atom.{Atom}
use Rattle.dc_system.specs.declared.edges.System.{System}
use Rattle.dc_system.specs.declared.edges.SystemFault.{SystemFault}
use Rattle.dc_system.specs.declared.edges.SystemFault.TheVariants as system
use Rattle.dc_system.specs.Systems.{size_fault}
use Rattle.dc_cert.specs.declared.certificate.Certificate.{Certificate}
use Rattle.dc_cert.specs.declared.certificate.Claim.{Claim}
use Rattle.dc_match.specs.declared.fault.MatchFault.{MatchFault}
use Rattle.dc_match.specs.declared.fault.MatchFault.TheVariants as main
use Rattle.dc_clauses.specs.declared.step.Step.{Step}
use Rattle.dc_clauses.specs.Steps.{Test, step, AllHold, first_failure}
use Rattle.dc_clauses.specs.Sides.{family_steps}
use Rattle.dc_check.specs.declared.fault.CheckFault.{CheckFault}
use Rattle.dc_check.specs.declared.fault.CheckFault.TheVariants.{Rejected, Past128, TooLarge, NoMemory}
use Rattle.dc_check.specs.Systems.{HasSystems}
use Rattle.dc_check.specs.Answers.{main_fault, Accepts, IsFirst, FailsAt, IsTooLarge, IsFault}
use Rattle.dc_session.proofs.Stops.{one_failure, accepts_or_fails, some_none, some_same, one_system, holds_none}

large_same : (w v : Count) (m n : ℕ) → ◌≡◌ {A = SystemFault} (system.TooLarge w m) (system.TooLarge v n) → (side : Option Side) → TooLarge side w m ≡ TooLarge side v n
large_same w v m n e side =
    let p : w ≡ v = cc in
    let q : m ≡ n = cc in
    λ i. TooLarge side (p i) (q i)

wide_same : (w v : Count) (m n : ℕ) → ◌≡◌ {A = MatchFault} (main.TooLarge w m) (main.TooLarge v n) → TooLarge None w m ≡ TooLarge None v n
wide_same w v m n e =
    let p : w ≡ v = cc in
    let q : m ≡ n = cc in
    λ i. TooLarge None (p i) (q i)

rejected_same : (c d m n : ℕ) → ◌≡◌ {A = Step} (step c m (Some false)) (step d n (Some false)) → Rejected c m ≡ Rejected d n
rejected_same c d m n e = ap (λ (s : Step). Rejected s.clause s.index) e

past_same : (c d m n : ℕ) → ◌≡◌ {A = Step} (step c m None) (step d n None) → Past128 c m ≡ Past128 d n
past_same c d m n e = ap (λ (s : Step). Past128 s.clause s.index) e

tests_apart : (c d m n : ℕ) → ◌≡◌ {A = Step} (step c m (Some false)) (step d n None) → ⊥
tests_apart c d m n e = let h : ◌≡◌ {A = Test} (Some false) None = ap (λ (s : Step). s.test) e in cc

module _ (new old : Proc) (cases : List (List Atom)) (c : Certificate) where
  -- the systems of two answers are the same
  new_same : (s t u v : System) → HasSystems new old c.version s t → HasSystems new old c.version u v → s ≡ u
  new_same s t u v h k = one_system c.version new s u h.new_system k.new_system

  old_same : (s t u v : System) → HasSystems new old c.version s t → HasSystems new old c.version u v → t ≡ v
  old_same s t u v h k = one_system c.version old t v h.old_system k.old_system

  moved : (P : System → System → Type 0) (s t u v : System) → HasSystems new old c.version s t → HasSystems new old c.version u v → P u v → P s t
  moved P s t u v h k p = subst (λ a. P a t) (sym (new_same s t u v h k)) (subst (P u) (sym (old_same s t u v h k)) p)

  -- a failing step comes before the limit of the main problem, or after it
  first_or_wide : (s t : System) (x : Step) (f : MatchFault) → IsFirst s t cases c x → AllHold (family_steps s t cases c) → main_fault s t cases c ≡ Some f → ⊥
  first_or_wide s t x f (inl h) a e = some_none x (first_failure (family_steps s t cases c)) h (holds_none (family_steps s t cases c) a)
  first_or_wide s t x f (inr (r, h)) a e = some_none f (main_fault s t cases c) e r.size

  fails_or_large : (x : Step) (side : Option Side) (w : Count) (n : ℕ) → FailsAt new old cases c x → IsTooLarge new old cases c side w n → ⊥
  fails_or_large x (Some New) w n h k = some_none _ (size_fault new) k h.systems.new_size
  fails_or_large x (Some Old) w n h k = some_none _ (size_fault old) k.1 h.systems.old_size
  fails_or_large x None w n h k =
      first_or_wide h.new_system h.old_system x (main.TooLarge w n) h.first
      (moved (λ s t. AllHold (family_steps s t cases c)) h.new_system h.old_system k.new_system k.old_system h.systems k.systems k.families)
      (moved (λ s t. main_fault s t cases c ≡ Some (main.TooLarge w n)) h.new_system h.old_system k.new_system k.old_system h.systems k.systems k.size)

  accepts_or_large : (a : Claim) (side : Option Side) (w : Count) (n : ℕ) → Accepts new old cases c a → IsTooLarge new old cases c side w n → ⊥
  accepts_or_large a (Some New) w n h k = some_none _ (size_fault new) k h.systems.new_size
  accepts_or_large a (Some Old) w n h k = some_none _ (size_fault old) k.1 h.systems.old_size
  accepts_or_large a None w n h k =
      some_none (main.TooLarge w n) (main_fault h.new_system h.old_system cases c)
      (moved (λ s t. main_fault s t cases c ≡ Some (main.TooLarge w n)) h.new_system h.old_system k.new_system k.old_system h.systems k.systems k.size)
      h.ready.size

  large_one : (side more : Option Side) (w v : Count) (m n : ℕ) → IsTooLarge new old cases c side w m → IsTooLarge new old cases c more v n → TooLarge side w m ≡ TooLarge more v n
  large_one (Some New) (Some New) w v m n h k = large_same w v m n (some_same _ _ (size_fault new) h k) (Some New)
  large_one (Some New) (Some Old) w v m n h k = absurd (some_none _ (size_fault new) h k.0)
  large_one (Some New) None w v m n h k = absurd (some_none _ (size_fault new) h k.systems.new_size)
  large_one (Some Old) (Some New) w v m n h k = absurd (some_none _ (size_fault new) k h.0)
  large_one (Some Old) (Some Old) w v m n h k = large_same w v m n (some_same _ _ (size_fault old) h.1 k.1) (Some Old)
  large_one (Some Old) None w v m n h k = absurd (some_none _ (size_fault old) h.1 k.systems.old_size)
  large_one None (Some New) w v m n h k = absurd (some_none _ (size_fault new) k h.systems.new_size)
  large_one None (Some Old) w v m n h k = absurd (some_none _ (size_fault old) k.1 h.systems.old_size)
  large_one None None w v m n h k =
      wide_same w v m n
      (some_same (main.TooLarge w m) (main.TooLarge v n) (main_fault h.new_system h.old_system cases c) h.size
      (moved (λ s t. main_fault s t cases c ≡ Some (main.TooLarge v n)) h.new_system h.old_system k.new_system k.old_system h.systems k.systems k.size))

  pub one_check_fault : (f g : CheckFault) → f ≢ NoMemory → g ≢ NoMemory → IsFault new old cases c f → IsFault new old cases c g → f ≡ g
  one_check_fault NoMemory g m n h k = absurd (m refl)
  one_check_fault (Rejected a i) NoMemory m n h k = absurd (n refl)
  one_check_fault (Rejected a i) (Rejected b j) m n h k = rejected_same a b i j (one_failure new old cases c (step a i (Some false)) (step b j (Some false)) h k)
  one_check_fault (Rejected a i) (Past128 b j) m n h k = absurd (tests_apart a b i j (one_failure new old cases c (step a i (Some false)) (step b j None) h k))
  one_check_fault (Rejected a i) (TooLarge s w l) m n h k = absurd (fails_or_large (step a i (Some false)) s w l h k)
  one_check_fault (Past128 a i) NoMemory m n h k = absurd (n refl)
  one_check_fault (Past128 a i) (Rejected b j) m n h k = absurd (tests_apart b a j i (one_failure new old cases c (step b j (Some false)) (step a i None) k h))
  one_check_fault (Past128 a i) (Past128 b j) m n h k = past_same a b i j (one_failure new old cases c (step a i None) (step b j None) h k)
  one_check_fault (Past128 a i) (TooLarge s w l) m n h k = absurd (fails_or_large (step a i None) s w l h k)
  one_check_fault (TooLarge s w l) NoMemory m n h k = absurd (n refl)
  one_check_fault (TooLarge s w l) (Rejected b j) m n h k = absurd (fails_or_large (step b j (Some false)) s w l k h)
  one_check_fault (TooLarge s w l) (Past128 b j) m n h k = absurd (fails_or_large (step b j None) s w l k h)
  one_check_fault (TooLarge s w l) (TooLarge t v o) m n h k = large_one s t w v l o h k

  pub accepts_or_faulty : (a : Claim) (f : CheckFault) → f ≢ NoMemory → Accepts new old cases c a → IsFault new old cases c f → ⊥
  accepts_or_faulty a NoMemory n h k = n refl
  accepts_or_faulty a (Rejected b i) n h k = accepts_or_fails new old cases c a (step b i (Some false)) h k
  accepts_or_faulty a (Past128 b i) n h k = accepts_or_fails new old cases c a (step b i None) h k
  accepts_or_faulty a (TooLarge s w l) n h k = accepts_or_large a s w l h k
