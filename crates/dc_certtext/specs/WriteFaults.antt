-- What the refusals of `write_cert` say.
use Rattle.std.specs.Prelude.{◌≡◌, ◌<◌, length}
use Rattle.dc_cert.specs.declared.certificate.Certificate.{Certificate}
use Rattle.dc_certtext.specs.declared.write.WriteFault.{WriteFault}
use Rattle.dc_certtext.specs.declared.write.WriteFault.TheVariants.{TooLarge, NoMemory}
use Rattle.dc_certtext.specs.Limits.{limit}
use Rattle.dc_certtext.specs.Text.{text_of}

-- want of memory is free; the other names the length that the text would have, which passes the limit
abbrev pub IsWriteFault : Certificate → WriteFault → Type 0
IsWriteFault c (TooLarge count) = (limit < length (text_of c)) × (count ≡ length (text_of c))
IsWriteFault c NoMemory = Unit {0}
