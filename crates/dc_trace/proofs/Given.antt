-- Answers with a test, put together.
use Rattle.std.specs.Prelude.{◌≡◌, Bool, true, false, ◌&&◌, Option, Some, None, refl}
use Rattle.std.proofs.Common.{sym, ◌∙◌, ap, ap₂}
use Rattle.std.proofs.Math.Bool.{and-false}
use Rattle.dc_trace.specs.Tests.{Gives}

pub and_true : (t : Bool) → (t && true) ≡ t
and_true true = refl
and_true false = refl

-- the same test and the same value, written otherwise
pub gives_same : {A : Type 0} (r : Option A) (T t : Bool) (V v : A) → T ≡ t → V ≡ v → Gives r t v → Gives r T V
gives_same None T t V v e q h = e ∙ h
gives_same (Some x) T t V v e q h = (e ∙ h.0, h.1 ∙ sym q)

pub gives_none : {A : Type 0} (r : Option A) (T : Bool) (V : A) → r ≡ None → T ≡ false → Gives r T V
gives_none None T V e q = q
gives_none (Some x) T V e q = cc

-- ---- of two parts and a test of one's own
pub two_made : {B : Type 0} (r : Option B) (T own ta tb : Bool) (V v : B) → T ≡ (own && (ta && tb)) → V ≡ v → ta ≡ true → tb ≡ true → Gives r own v → Gives r T V
two_made r T own ta tb V v e q h k g = gives_same r T own V v (e ∙ ap₂ (λ x y. own && (x && y)) h k ∙ and_true own) q g

pub two_left : {B : Type 0} (r : Option B) (T own ta tb : Bool) (V : B) → T ≡ (own && (ta && tb)) → r ≡ None → ta ≡ false → Gives r T V
two_left r T own ta tb V e n h = gives_none r T V n (e ∙ ap (λ x. own && (x && tb)) h ∙ and-false own)

pub two_right : {B : Type 0} (r : Option B) (T own ta tb : Bool) (V : B) → T ≡ (own && (ta && tb)) → r ≡ None → tb ≡ false → Gives r T V
two_right r T own ta tb V e n h = gives_none r T V n (e ∙ ap (λ x. own && (ta && x)) h ∙ ap (λ x. own && x) (and-false ta) ∙ and-false own)
