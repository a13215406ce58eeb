-- The vectors of the main problem, one after another: for what is read, the word of the one that is
-- due, and what is read with it.
use Rattle.std.specs.Prelude.{codes, ◌⊎◌}
use Rattle.std.proofs.Common.{inl, inr}
use Rattle.dc_cert.specs.declared.sparse.Sparse.{Sparse}
use Rattle.dc_cert.specs.declared.certificate.SideCert.{SideCert}
use Rattle.dc_cert.specs.declared.certificate.Body.TheVariants as B
use Rattle.dc_cert.specs.declared.certificate.Claim.{Claim}
use Rattle.dc_cert.specs.declared.certificate.Claim.TheVariants as C
use Rattle.dc_certtext.specs.declared.stage.Head.{Head}
use Rattle.dc_certtext.specs.declared.stage.Found.{Found}
use Rattle.dc_certtext.specs.declared.stage.Found.TheVariants as F
use Rattle.dc_certtext.specs.declared.stage.Stage.{Stage}
use Rattle.dc_certtext.specs.declared.stage.Stage.TheVariants.{Main, End}
use Rattle.dc_lines.specs.Bytes.{Bytes}
use Rattle.dc_cert.specs.declared.certificate.Body.{Body}
use Rattle.dc_cert.specs.declared.certificate.Certificate.{Certificate}

abbrev pub certificate : Head → SideCert → SideCert → Body → Certificate
certificate h n o b = record {
  version = h.version;
  body = b;
  degree = h.degree;
  products = h.products;
  when = h.when;
  new_side = n;
  old_side = o;
}

-- where no vector is read yet
abbrev pub nothing_found : Claim → Found
nothing_found (C.Threshold t) = F.Threshold t
nothing_found C.Nothing = F.Nothing
nothing_found C.Vacuous = F.Vacuous

-- the word of the vector that is due, and what is read with that vector: more, or all
abbrev pub vectors : Found → Bytes × (Sparse → Found ⊎ Body)
vectors (F.Threshold t) = (codes "unknown", λ s. inl (F.ThresholdUnknown t s))
vectors (F.ThresholdUnknown t u) = (codes "lambda", λ s. inl (F.ThresholdLambda t u s))
vectors (F.ThresholdLambda t u l) = (codes "dual", λ s. inr (B.Threshold t u l s))
vectors F.Nothing = (codes "dual", λ s. inr (B.Nothing s))
vectors F.Vacuous = (codes "unknown", λ s. inl (F.VacuousUnknown s))
vectors (F.VacuousUnknown u) = (codes "lambda", λ s. inl (F.VacuousLambda u s))
vectors (F.VacuousLambda u l) = (codes "ray unknown", λ s. inl (F.VacuousRay u l s))
vectors (F.VacuousRay u l r) = (codes "ray lambda", λ s. inr (B.Vacuous u l r s))

abbrev pub due : Found → Bytes
due f = (vectors f).0

abbrev pub stage_of : Head → SideCert → SideCert → Found ⊎ Body → Stage
stage_of h n o (inl f) = Main h n o f
stage_of h n o (inr b) = End (certificate h n o b)

abbrev pub with_vector : Head → SideCert → SideCert → Found → Sparse → Stage
with_vector h n o f s = stage_of h n o ((vectors f).1 s)
