-- What the checker answers of the certificate that is made.
use Rattle.std.proofs.Common.{refl, sym, subst, inl, inr}
use Rattle.dc_lp.specs.Meanings.{Meaning}
use Rattle.dc_cert.specs.declared.certificate.Certificate.{Certificate}
use Rattle.dc_cert.specs.declared.certificate.Claim.{Claim}
use Rattle.dc_cert.specs.Ranges.{IsCertificate}
use Rattle.dc_check.specs.declared.fault.CheckFault.{CheckFault}
use Rattle.dc_check.specs.declared.fault.CheckFault.TheVariants as check
use Rattle.dc_check.specs.Answers as checks
use Rattle.dc_check.specs.Answers.{Accepts}
use Rattle.dc_session.specs.declared.fault.AnalyseFault.{AnalyseFault}
use Rattle.dc_session.specs.Session.{Input}
use Rattle.dc_session.specs.Answers.{IsInput, IsFault, TellsCertificate}
use Rattle.dc_acceptance.specs.Laws.{Makes, IsFoldFault}
use Rattle.dc_acceptance.proofs.Accepted.{accepted_are_told, faults_are_folds}
use Rattle.dc_acceptance.proofs.Certificates.{made_are_certificates}
use Rattle.dc_engine.specs.Faults.{IsFold, IsFoldOf}
use Rattle.dc_engine.specs.Parts.{TellsMade}

module _ (i : Input) (input : IsInput i) (left : Meaning) (c : Certificate) (h : TellsMade i left c) where
  makes : Makes i h.analysis h.table c
  makes = record { input = input; through = h.through; made = h.made }

  pub is_certificate : IsCertificate c
  is_certificate = made_are_certificates i h.analysis h.table c makes

  pub accepted : (k : Claim) → Accepts i.new i.old i.cases c k → TellsCertificate i left c
  accepted k a = subst (λ m. TellsCertificate i m c) (sym h.rest) (accepted_are_told i h.analysis h.table c k makes a)

  folds : (f : CheckFault) → checks.IsFault i.new i.old i.cases c f → IsFoldFault i f
  folds f k = faults_are_folds i h.analysis h.table c f makes k

  pub is_fold : (f : CheckFault) → checks.IsFault i.new i.old i.cases c f → IsFold f
  is_fold (check.Rejected clause index) k = folds (check.Rejected clause index) k
  is_fold (check.Past128 clause index) k = tt
  is_fold (check.TooLarge side what n) k = folds (check.TooLarge side what n) k
  is_fold check.NoMemory k = tt

  pub fold_fault : (f : CheckFault) (g : AnalyseFault) → checks.IsFault i.new i.old i.cases c f → IsFoldOf f g → IsFault i g
  fold_fault (check.Rejected clause index) g k e = absurd e
  fold_fault (check.Past128 clause index) g k e = subst (IsFault i) (sym e) (inr (folds (check.Past128 clause index) k))
  fold_fault (check.TooLarge side what n) g k e = absurd e
  fold_fault check.NoMemory g k e = subst (IsFault i) (sym e) (inl refl)
