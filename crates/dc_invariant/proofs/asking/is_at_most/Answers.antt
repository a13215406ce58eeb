use Rattle.std.proofs.Common.{refl}
use Rattle.std.proofs.lemmas.Bool.{false≢true}
use Rattle.dc_math.specs.Rational.{<ℚ-≤ℚ, <ℚ-not}
use Rattle.dc_math.specs.Order.{≤ℚ_same}
use Rattle.dc_invariant.proofs.asking.is_at_most.Goals as goal

pub returns-in-Less : goal.returns-in-Less
returns-in-Less c = let h = rw c.whole-bound.ensures at c.in-Less.ensures in ((λ t. <ℚ-≤ℚ _ _ h), (λ t. refl))

pub returns-in-Equal : goal.returns-in-Equal
returns-in-Equal c = let h = rw c.whole-bound.ensures at c.in-Equal.ensures in ((λ t. ≤ℚ_same _ _ h), (λ t. refl))

pub returns-in-Greater : goal.returns-in-Greater
returns-in-Greater c = let h = rw c.whole-bound.ensures at c.in-Greater.ensures in ((λ t. absurd (false≢true t)), (λ t. absurd (<ℚ-not _ _ h t)))
