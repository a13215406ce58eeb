-- What the refusals of `read_cert` say.
use Rattle.dc_certtext.specs.declared.from_text.ReadFault.{ReadFault}
use Rattle.dc_certtext.specs.declared.from_text.ReadFault.TheVariants.{BadText, NoMemory}
use Rattle.dc_lines.specs.Bytes.{Bytes}
use Rattle.dc_certtext.specs.Limits.{limit, HasText}
use Rattle.dc_lines.specs.Texts.{IsBadLine}

-- want of memory is free; the other names the line
abbrev pub IsReadFault : Bytes → ReadFault → Type 0
IsReadFault text (BadText line) = IsBadLine HasText limit text line
IsReadFault text NoMemory = Unit {0}
