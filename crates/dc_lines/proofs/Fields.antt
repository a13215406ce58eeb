-- Fields of a line: a space, and a whole number.
use Rattle.std.specs.Prelude.{◌≡◌, ℕ, ◌<◌, ◌≤◌, ◌^◌, ◌∷◌, ◌++◌, ℤ, unsigned_abs}
use Rattle.std.proofs.Common.{sym, ◌∙◌, ap, ap₂, subst, arith, inl}
use Rattle.std.specs.Fmt.{signed_decimal}
use Rattle.dc_lines.specs.Bytes.{Bytes}
use Rattle.dc_lines.specs.Cuts.{Starts, until, onward}
use Rattle.dc_lines.proofs.Cutting.{tail_of, until-append, cut_whole, onward-starts, same_cut}
use Rattle.dc_lines.proofs.Numerals.{whole_lacks, whole_one}

pub refuse_space : (f : Bytes) (t r : Bytes) → ((v : Bytes) → ¬ (t ≡ 32 ∷ v)) → ¬ (32 ∷ (f ++ r) ≡ t)
refuse_space f t r g e = g (f ++ r) (sym e)

pub piece_is : (f t v w r : Bytes) → t ≡ 32 ∷ v → w ≡ until 32 v → r ≡ onward 32 v → f ≡ w → 32 ∷ (f ++ r) ≡ t
piece_is f t v w r a b c d = ap (λ l. 32 ∷ l) (ap₂ ◌++◌ (d ∙ b) c ∙ cut_whole 32 v) ∙ sym a

pub piece-starts : (v r : Bytes) → r ≡ onward 32 v → Starts 32 r
piece-starts v r e = subst (Starts 32) (sym e) (onward-starts 32 v)

narrow_wide : (n : ℕ) → n < 2 ^ 63 → n < 2 ^ 127
narrow_wide n h = omega arith

-- two readings of a text are one
pub number_cut : (y z : ℤ) (r s t : Bytes) → unsigned_abs y < 2 ^ 127 → unsigned_abs z < 2 ^ 127 → Starts 32 r → Starts 32 s → 32 ∷ (signed_decimal y ++ r) ≡ t → 32 ∷ (signed_decimal z ++ s) ≡ t → (y ≡ z) × (r ≡ s)
number_cut y z r s t h k i j d e =
    let c = same_cut 32 (signed_decimal y) (signed_decimal z) r s (whole_lacks 32 y (inl (inl (omega arith))) h) (whole_lacks 32 z (inl (inl (omega arith))) k) i j
    (tail_of 32 (signed_decimal y ++ r) (signed_decimal z ++ s) (d ∙ sym e)) in
    (whole_one y z h k c.0, c.1)

word_is : (z : ℤ) (r t v w : Bytes) → unsigned_abs z < 2 ^ 127 → Starts 32 r → t ≡ 32 ∷ v → w ≡ until 32 v → 32 ∷ (signed_decimal z ++ r) ≡ t → signed_decimal z ≡ w
word_is z r t v w l s a b e =
    sym (until-append 32 (signed_decimal z) r (whole_lacks 32 z (inl (inl (omega arith))) l) s) ∙ ap (until 32) (tail_of 32 (signed_decimal z ++ r) v (e ∙ a)) ∙ sym b

pub refuse_number : (t v w : Bytes) → t ≡ 32 ∷ v → w ≡ until 32 v → ((z : ℤ) → unsigned_abs z < 2 ^ 127 → ¬ (signed_decimal z ≡ w)) → (z : ℤ) (r : Bytes) → unsigned_abs z < 2 ^ 63 → Starts 32 r
    → ¬ (32 ∷ (signed_decimal z ++ r) ≡ t)
refuse_number t v w a b g z r h s e = g z (narrow_wide (unsigned_abs z) h) (word_is z r t v w (narrow_wide (unsigned_abs z) h) s a b e)

pub refuse_wide : (t v w : Bytes) (y : ℤ) → t ≡ 32 ∷ v → w ≡ until 32 v → unsigned_abs y < 2 ^ 127 → signed_decimal y ≡ w → 9223372036854775807 < unsigned_abs y → (z : ℤ) (r : Bytes) → unsigned_abs z < 2 ^ 63 → Starts 32 r
    → ¬ (32 ∷ (signed_decimal z ++ r) ≡ t)
refuse_wide t v w y a b m d k z r h s e =
    let l = narrow_wide (unsigned_abs z) h in
    let p = ap unsigned_abs (whole_one z y l m (word_is z r t v w l s a b e ∙ sym d)) in
    omega arith

pub number_end : (t v w r : Bytes) (y z : ℤ) (n : ℕ) → z ≡ y → n ≡ unsigned_abs y → n ≤ 9223372036854775807 → t ≡ 32 ∷ v → w ≡ until 32 v → r ≡ onward 32 v → signed_decimal y ≡ w
    → (unsigned_abs z < 2 ^ 63) × Starts 32 r × (32 ∷ (signed_decimal z ++ r) ≡ t)
number_end t v w r y z n e f h a b c d = ((let q = ap unsigned_abs e in omega arith), piece-starts v r c, piece_is (signed_decimal z) t v w r a b c (ap signed_decimal e ∙ d))
