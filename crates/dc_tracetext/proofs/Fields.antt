-- Lists of fields: a list is fixed by its text, and it is decided whether a text is that of a list.
use Rattle.std.specs.Prelude.{◌≡◌, ℕ, ◌^◌, List, [], ◌∷◌, ◌++◌, length, ℤ, refl}
use Rattle.std.proofs.Common.{sym, ◌∙◌, ap, ap₂, subst, arith}
use Rattle.std.specs.Fmt.{signed_decimal}
use Rattle.dc_lines.specs.Bytes.{Bytes}
use Rattle.dc_lines.specs.Fields.{IsField, AreFields, fields_text}
use Rattle.dc_lines.proofs.Cutting.{cancel, spaced-starts}
use Rattle.dc_lines.proofs.Fields.{number_cut}
use Rattle.dc_lines.proofs.Decided.{Decided, decide_same, decide_whole, decide_behind, Chain, Spaced, decide_spaced, spaced_few}
use Rattle.dc_tracetext.specs.Text.{IsListLine}

pub fields_one : (xs ys : List ℤ) → AreFields xs → AreFields ys → fields_text xs ≡ fields_text ys → xs ≡ ys
fields_one [] [] h k e = refl
fields_one [] (y ∷ ys) h k e = cc
fields_one (x ∷ xs) [] h k e = cc
fields_one (x ∷ xs) (y ∷ ys) h k e =
    let p =
    number_cut x y (fields_text xs) (fields_text ys) (fields_text (y ∷ ys)) (let l = h.0 in omega arith) (let l = k.0 in omega arith) (spaced-starts signed_decimal xs) (spaced-starts signed_decimal ys) e refl in
    ap₂ ◌∷◌ p.0 (fields_one xs ys h.1 k.1 p.1)

pub line_one : (word : Bytes) (xs ys : List ℤ) (b : Bytes) → IsListLine word xs b → IsListLine word ys b → xs ≡ ys
line_one word xs ys b h k = fields_one xs ys h.0 k.0 (cancel word (fields_text xs) (fields_text ys) (subst (λ x. word ++ fields_text xs ≡ x) (sym k.1) h.1))

-- ---- whether a text is that of a list
abbrev Fits : ℕ → ℤ → Type 0
Fits low z = IsField z

abbrev none : ℤ → ℕ
none z = 0

to_chain : (xs : List ℤ) → AreFields xs → Chain signed_decimal Fits none 0 xs
to_chain [] h = tt
to_chain (x ∷ xs) h = (h.0, to_chain xs h.1)

from_chain : (xs : List ℤ) → Chain signed_decimal Fits none 0 xs → AreFields xs
from_chain [] h = tt
from_chain (x ∷ xs) h = (h.0, from_chain xs h.1)

pub decide_fields : (t : Bytes) → Decided ((xs : List ℤ) × AreFields xs × (fields_text xs ≡ t))
decide_fields t = decide_same found lost (decide_spaced signed_decimal Fits none (λ low Q d. decide_whole (2 ^ 63) Q d) (length t) 0 t)
  where
    found : Spaced signed_decimal Fits none (length t) 0 t → (xs : List ℤ) × AreFields xs × (fields_text xs ≡ t)
    found s = (s.list, from_chain s.list s.chain, s.is)

    lost : (xs : List ℤ) × AreFields xs × (fields_text xs ≡ t) → Spaced signed_decimal Fits none (length t) 0 t
    lost h = record { list = h.0; few = (let q = spaced_few signed_decimal Fits none h.0 in let e = ap length h.2 in omega arith); chain = to_chain h.0 h.1; is = h.2 }

pub decide_line : (word b : Bytes) → Decided ((xs : List ℤ) × IsListLine word xs b)
decide_line word b = decide_same (λ h. (h.0, (h.1, h.2))) (λ h. (h.0, h.1.0, h.1.1)) (decide_behind AreFields fields_text decide_fields word b)

pub no_list : (word line rest : Bytes) → line ≡ word ++ rest → ((zs : List ℤ) → AreFields zs → ¬ (fields_text zs ≡ rest)) → (zs : List ℤ) → ¬ IsListLine word zs line
no_list word line rest e n zs h = n zs h.0 (cancel word (fields_text zs) rest (h.1 ∙ e))
