-- The text of a trace.
use Rattle.std.specs.Prelude.{◌≡◌, ℕ, ℤ, List, [], ◌∷◌, ◌++◌, codes}
use Rattle.dc_lines.specs.Bytes.{Bytes, ended}
use Rattle.dc_lines.specs.Fields.{AreFields, fields_text}
use Rattle.dc_tracetext.specs.declared.trace.Trace.{Trace}

-- each number has a size of at most 2^63 - 1
pub record IsTrace (t : Trace) : Type 0 where
  pub input : AreFields t.input
  pub choices : AreFields t.choices

-- a word, and the numbers of a list, each with a space in front
abbrev pub list_line : Bytes → List ℤ → Bytes
list_line word zs = word ++ fields_text zs

abbrev pub IsListLine : Bytes → List ℤ → Bytes → Type 0
IsListLine word zs line = AreFields zs × (list_line word zs ≡ line)

abbrev pub lines_of : Trace → List Bytes
lines_of t =
    list_line (codes "input") t.input ∷ list_line (codes "choices") t.choices ∷ codes "end" ∷ []

abbrev pub text_of : Trace → Bytes
text_of t = ended (lines_of t)

-- the greatest number of bytes
abbrev pub limit : ℕ
limit = 1048576

-- the bytes are the text of this trace, whose numbers are in their range
pub record HasText (t : Trace) (text : Bytes) : Type 0 where
  pub sizes : IsTrace t
  pub whole : text_of t ≡ text
