use Rattle.std.proofs.Common.{rules, ◌≡◌, ◌<◌, ◌^◌, pos, unsigned_abs, arith, SFits, ◌∙◌}
use Rattle.std.specs.Prelude.{int_div, int_rem, ◌*ℤ◌}
use Rattle.std.proofs.lemmas.Int.{ints, to_z-of_z}
use mir.Syntax.{w64, w128}
use Rattle.dc_math.specs.Rational.{of_ℤ}
use Rattle.dc_frac.specs.Value.{value}
use Rattle.dc_sparse.proofs.WordQuotients.{quotient_below, remainder_below, word_fits, word_nonzero, no_remainder, num_nonzero, exact_is, exact_fits}
use Rattle.dc_sparse.proofs.whole.quotient.Goals as goal

pub nonzero_rem-dividend : goal.nonzero_rem-dividend
nonzero_rem-dividend c =
    let f₁ : SFits w128 c.args.number.num = search rules in
    let f₂ : SFits w128 c.args.by.num = search rules in
    let h : unsigned_abs c.args.number.num < 2 ^ 63 = simp to_z-of_z at (c.is_word.ensures c.if-is_word.true) in
    let k : unsigned_abs c.args.by.num < 2 ^ 63 = simp to_z-of_z at (c.is_word-then-is_word.ensures c.if-is_word-2.true) in
    let g₁ : SFits w64 c.args.number.num = word_fits c.args.number.num h in
    let g₂ : SFits w64 c.args.by.num = word_fits c.args.by.num k in
    simp to_z-of_z (word_nonzero c.args.by.num (num_nonzero c.args.by c.requires) k, word_fits (int_div c.args.number.num c.args.by.num) (quotient_below (2 ^ 63) c.args.number.num c.args.by.num h))

pub nonzero_div-dividend : goal.nonzero_div-dividend
nonzero_div-dividend c =
    let f₁ : SFits w128 c.args.number.num = search rules in
    let f₂ : SFits w128 c.args.by.num = search rules in
    let h : unsigned_abs c.args.number.num < 2 ^ 63 = simp to_z-of_z at (c.is_word.ensures c.if-is_word.true) in
    let k : unsigned_abs c.args.by.num < 2 ^ 63 = simp to_z-of_z at (c.is_word-then-is_word.ensures c.if-is_word-2.true) in
    let g₁ : SFits w64 c.args.number.num = word_fits c.args.number.num h in
    let g₂ : SFits w64 c.args.by.num = word_fits c.args.by.num k in
    simp to_z-of_z (word_nonzero c.args.by.num (num_nonzero c.args.by c.requires) k, word_fits (int_div c.args.number.num c.args.by.num) (quotient_below (2 ^ 63) c.args.number.num c.args.by.num h))

pub returns-then-dividend-divisor-eq0 : goal.returns-then-dividend-divisor-eq0
returns-then-dividend-divisor-eq0 c =
    let a = c.args.number.num in
    let d = c.args.by.num in
    let f₁ : SFits w128 a = search rules in
    let f₂ : SFits w128 d = search rules in
    let f₃ : SFits w128 c.args.number.den = search rules in
    let f₄ : SFits w128 c.args.by.den = search rules in
    let h : unsigned_abs a < 2 ^ 63 = simp to_z-of_z at (c.is_word.ensures c.if-is_word.true) in
    let k : unsigned_abs d < 2 ^ 63 = simp to_z-of_z at (c.is_word-then-is_word.ensures c.if-is_word-2.true) in
    let g₁ : SFits w64 a = word_fits a h in
    let g₂ : SFits w64 d = word_fits d k in
    let one : c.args.number.den ≡ pos 1 = omega (arith, ints) in
    let single : c.args.by.den ≡ pos 1 = omega (arith, ints) in
    let l : unsigned_abs (int_div a d) < 2 ^ 63 = quotient_below (2 ^ 63) a d h in
    let g₃ : SFits w64 (int_div a d) = word_fits (int_div a d) l in
    let g₄ : SFits w64 (int_rem a d) = word_fits (int_rem a d) (remainder_below (2 ^ 63) a d (num_nonzero c.args.by c.requires) k) in
    let f₅ : SFits w128 (int_div a d) = omega (arith, ints) in
    let t = simp to_z-of_z at c.if-dividend-divisor-eq0.true in
    let r : int_rem a d ≡ pos 0 = omega (arith, ints) in
    let e : int_div a d *ℤ d ≡ a = no_remainder a d r in
    let v : value c.whole.result ≡ of_ℤ (int_div a d) = simp to_z-of_z at c.whole.ensures in
    (exact_fits c.args.number c.args.by one single c.requires (int_div a d) e (omega arith), v ∙ exact_is c.args.number c.args.by one single c.requires (int_div a d) e)
