use Rattle.std.proofs.Common.{sym, subst, drop}
use Rattle.dc_math.specs.OrderedLists.{Ordered}
use Rattle.dc_poly.specs.Terms.{Before}
use Rattle.dc_coefficients.proofs.Insertions.{ordered-with_monos}
use Rattle.dc_coefficients.proofs.monos.add_terms.Goals as goal

pub add_mono-requires : goal.add_mono-requires
add_mono-requires c = subst (Ordered Before) (sym c.terms.invariant.so_far) (ordered-with_monos (drop c.terms.k c.args.terms.now) c.args.list.now.items c.requires)
