use Rattle.std.proofs.Common.{◌≡◌, map}
use Rattle.std.proofs.Common.{length}
use Rattle.dc_handelman.specs.Choices.{below}
use Rattle.dc_handelman.specs.Products.{product_at}
use Rattle.dc_handelman.proofs.choices.products.Given as goal

abbrev pub invariant-loop-size : goal.invariant-loop-size
invariant-loop-size l = l.list.items ≡ map (product_at l.places l.hyps) (below (length l.hyps) l.size)
