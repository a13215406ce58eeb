-- The length of a text.
use Rattle.std.specs.Prelude.{◌≡◌, ℕ}
use Rattle.dc_cert.specs.declared.certificate.Certificate.{Certificate}
use Rattle.dc_cert.specs.Ranges.{IsCertificate}
use Rattle.dc_lines.specs.Bytes.{Bytes}
use Rattle.dc_certtext.specs.Text.{text_of}

-- the greatest number of bytes
abbrev pub limit : ℕ
limit = 16777216

-- the bytes are the text of this certificate, whose parts are in their ranges
pub record HasText (c : Certificate) (text : Bytes) : Type 0 where
  pub ranges : IsCertificate c
  pub whole : text_of c ≡ text
