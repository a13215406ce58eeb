-- An analysis ends.
use Rattle.std.specs.Prelude.{◌≢◌, ◌⊎◌, ℕ}
use Rattle.std.proofs.Common.{refl, inl, inr}
use Rattle.dc_math.specs.Rational.{ℚ}
use Rattle.dc_lp.specs.Tables.{Table}
use Rattle.dc_lp.specs.Meanings.{Meaning, resting}
use Rattle.dc_cert.specs.declared.certificate.Certificate.{Certificate}
use Rattle.dc_check.specs.declared.fault.CheckFault.{CheckFault}
use Rattle.dc_check.specs.declared.fault.CheckFault.TheVariants as check
use Rattle.dc_check.specs.Answers.{IsFault}
use Rattle.dc_session.specs.declared.fault.PastAt.TheVariants.{Fold}
use Rattle.dc_session.specs.declared.fault.AnalyseFault.{AnalyseFault}
use Rattle.dc_session.specs.declared.fault.AnalyseFault.TheVariants.{Past128}
use Rattle.dc_session.specs.Session.{Input, Analysis}
use Rattle.dc_session.specs.Refusals.{IsThrough, IsRefusal}
use Rattle.dc_session.specs.Answers.{TellsCertificate}
use Rattle.dc_session.proofs.Stops.{through_or_refused}
use Rattle.dc_acceptance.proofs.Accepted.{accepted_are_told, faults_are_folds}
use Rattle.dc_acceptance.proofs.Certificates.{made_are_certificates}
use Rattle.dc_endings.specs.Laws.{IsChecked, EachMadeEnds, EachEnds}
use Rattle.dc_endings.proofs.Made.{each_is_made}
use Rattle.dc_endings.proofs.Checks.{each_is_checked}

-- told, or a sum that doesn't fit
abbrev EndsSo : Input → Table ℚ → Certificate → Type 0
EndsSo i t c = TellsCertificate i (resting t) c ⊎ ((clause : ℕ) × (index : ℕ) × IsRefusal i (Past128 (Fold clause index)))

pub each_made_ends : EachMadeEnds
each_made_ends i a t c h =
    let input = h.input in
    by (each_is_checked i.new i.old i.cases c input.new input.old input.params input.condition (made_are_certificates i a t c h))
  where
    of_fault : (f : CheckFault) → f ≢ check.NoMemory → IsFault i.new i.old i.cases c f → EndsSo i t c
    of_fault (check.Rejected clause index) n f = absurd (faults_are_folds i a t c (check.Rejected clause index) h f)
    of_fault (check.Past128 clause index) n f = inr (clause, index, faults_are_folds i a t c (check.Past128 clause index) h f)
    of_fault (check.TooLarge side what n) m f = absurd (faults_are_folds i a t c (check.TooLarge side what n) h f)
    of_fault check.NoMemory n f = absurd (n refl)

    by : IsChecked i.new i.old i.cases c → EndsSo i t c
    by (inl (k, x)) = inl (accepted_are_told i a t c k h x)
    by (inr (f, n, x)) = of_fault f n x

-- ---- from the problems on
abbrev Ends : Input → Type 0
Ends i = ((left : Meaning) × (c : Certificate) × TellsCertificate i left c) ⊎ ((f : AnalyseFault) × IsRefusal i f)

pub each_ends : EachEnds
each_ends i input = by (through_or_refused i input.new input.old)
  where
    of_made : (t : Table ℚ) (c : Certificate) → EndsSo i t c → Ends i
    of_made t c (inl h) = inl (resting t, c, h)
    of_made t c (inr (clause, index, h)) = inr (Past128 (Fold clause index), h)

    by : ((a : Analysis) × IsThrough i a) ⊎ ((f : AnalyseFault) × IsRefusal i f) → Ends i
    by (inl (a, h)) =
        let m = each_is_made i a input h in
        of_made m.0 m.1 (each_made_ends i a m.0 m.1 (record { input = input; through = h; made = m.2 }))
    by (inr r) = inr r
