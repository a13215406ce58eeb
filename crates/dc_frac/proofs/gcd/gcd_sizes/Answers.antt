use Rattle.std.proofs.Common.{arith, ◌≡◌, ℕ, subst, sym}
use Rattle.std.specs.Int.{IsGcd}
use Rattle.std.proofs.lemmas.Nat.Gcd.{IsGcd-from_zero, IsGcd-from_mod}
use Rattle.dc_math.specs.Gcd.{gcd, gcd_is, IsGcd-gcd}
use Rattle.dc_frac.proofs.gcd.gcd_sizes.Goals as goal

-- what `gcd` answers is the greatest common divisor
read : (r a b : ℕ) → r ≡ gcd a b → IsGcd a b r
read r a b e = subst (λ n. IsGcd a b n) (sym e) (gcd_is a b)

pub loop-y-preserved : goal.loop-y-preserved
loop-y-preserved c g h = c.loop-y.invariant g (IsGcd-from_mod _ _ g h)

pub returns-then-x-le-WORD : goal.returns-then-x-le-WORD
returns-then-x-le-WORD c = IsGcd-gcd _ _ _ (c.loop-y.invariant _ (read _ _ _ c.gcd_words.ensures))

pub returns-then-y-eq0 : goal.returns-then-y-eq0
returns-then-y-eq0 c = IsGcd-gcd _ _ _ (c.loop-y.invariant _ (IsGcd-from_zero _ _ (omega arith)))

pub returns-else-y-eq0 : goal.returns-else-y-eq0
returns-else-y-eq0 c = IsGcd-gcd _ _ _ (c.loop-y.invariant _ (IsGcd-from_mod _ _ _ (read _ _ _ c.gcd_words-else-y-eq0.ensures)))
