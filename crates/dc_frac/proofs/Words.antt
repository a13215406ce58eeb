-- Products of words are far from overflow.
use Rattle.std.specs.Prelude.{◌*◌, ◌^◌, ◌≤◌, ℤ, ◌*ℤ◌, unsigned_abs}
use Rattle.std.proofs.Common.{arith, mul-le-mul}
use Rattle.std.proofs.lemmas.Int.{ints, unsigned_abs-mul}
use Rattle.dc_frac.specs.Parts.{IsWord}

word_size : (a : ℤ) → IsWord a → unsigned_abs a ≤ 2 ^ 63
word_size a h = omega (arith, ints)

pub word_product : (a b : ℤ) → IsWord a → IsWord b → unsigned_abs (a *ℤ b) ≤ 2 ^ 126
word_product a b h k =
    let m : unsigned_abs a * unsigned_abs b ≤ 2 ^ 63 * 2 ^ 63 = mul-le-mul (word_size a h) (word_size b k) in
    rw (unsigned_abs-mul a b) (omega (arith, m))
