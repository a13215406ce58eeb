-- What a certificate claims.
use Rattle.dc_cert.specs.declared.certificate.Body.{Body}
use Rattle.dc_cert.specs.declared.certificate.Body.TheVariants as B
use Rattle.dc_cert.specs.declared.certificate.Claim.{Claim}
use Rattle.dc_cert.specs.declared.certificate.Claim.TheVariants as C

abbrev pub claim_of : Body → Claim
claim_of (B.Threshold t u l d) = C.Threshold t
claim_of (B.Nothing d) = C.Nothing
claim_of (B.Vacuous u l r s) = C.Vacuous
