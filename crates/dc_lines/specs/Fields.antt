-- Fields of a line: whole numbers, each with a space in front.
use Rattle.std.specs.Prelude.{◌<◌, ◌^◌, List, ℤ, unsigned_abs}
use Rattle.std.specs.List.{AllByRecursion}
use Rattle.std.specs.Fmt.{signed_decimal}
use Rattle.dc_lines.specs.Bytes.{Bytes, spaced}

-- of size at most 2^63 - 1
abbrev pub IsField : ℤ → Type 0
IsField z = unsigned_abs z < 2 ^ 63

abbrev pub AreFields : List ℤ → Type 0
AreFields zs = AllByRecursion IsField zs

abbrev pub fields_text : List ℤ → Bytes
fields_text zs = spaced signed_decimal zs
