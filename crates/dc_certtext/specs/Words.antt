-- How numbers, fractions and vectors are spelt.
use Rattle.std.specs.Prelude.{ℕ, eqb, cond, [], ◌∷◌, ◌++◌, unsigned_abs}
use Rattle.std.specs.Fmt.{decimal, signed_decimal}
use Rattle.dc_lines.specs.Bytes.{Bytes, spaced}
use Rattle.dc_frac.specs.declared.Frac.{Frac}
use Rattle.dc_affine.specs.declared.atom.Atom.{Atom}
use Rattle.dc_cert.specs.declared.sparse.Item.{Item}
use Rattle.dc_cert.specs.declared.sparse.Sparse.{Sparse}

-- `/` and the denominator, nothing where it is 1
abbrev pub den_text : ℕ → Bytes
den_text n = cond (eqb n 1) [] (47 ∷ decimal n)

-- a sign where it is negative, the numerator, and the denominator
abbrev pub frac_text : Frac → Bytes
frac_text f = signed_decimal f.num ++ den_text (unsigned_abs f.den)

-- `I:F`
abbrev pub item_text : Item → Bytes
item_text i = decimal i.index ++ 58 ∷ frac_text i.value

abbrev pub vector_text : Sparse → Bytes
vector_text s = spaced item_text s.items

abbrev pub atom_text : Atom → Bytes
atom_text a = spaced signed_decimal (a.c0 ∷ a.coefs)
