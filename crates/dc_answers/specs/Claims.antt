-- The claim of a certificate: its status, and what is printed where it is accepted.
use Rattle.std.specs.Prelude.{ℕ, ◌++◌, codes}
use Rattle.dc_lines.specs.Bytes.{Bytes}
use Rattle.dc_cert.specs.declared.certificate.Claim.{Claim}
use Rattle.dc_cert.specs.declared.certificate.Claim.TheVariants.{Threshold, Nothing, Vacuous}
use Rattle.dc_certtext.specs.Text.{claim_line}
use Rattle.dc_answers.specs.Statuses as status

-- the status of an analysis that shows it
abbrev pub claim_status : Claim → ℕ
claim_status (Threshold t) = status.threshold
claim_status Nothing = status.none
claim_status Vacuous = status.vacuous

-- what is printed where it is accepted
abbrev pub accepted_text : Claim → Bytes
accepted_text k = codes "accepted " ++ (claim_line k ++ codes "\n")
