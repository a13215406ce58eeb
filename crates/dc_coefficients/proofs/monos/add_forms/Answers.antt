use Rattle.std.proofs.Common.{sym, subst, drop}
use Rattle.dc_math.specs.OrderedLists.{Ordered}
use Rattle.dc_poly.specs.Terms.{Before}
use Rattle.dc_coefficients.specs.Monomials.{all_terms}
use Rattle.dc_coefficients.proofs.Insertions.{ordered-with_all}
use Rattle.dc_coefficients.proofs.monos.add_forms.Goals as goal

pub add_terms-requires : goal.add_terms-requires
add_terms-requires c = subst (Ordered Before) (sym c.forms.invariant.so_far) (ordered-with_all (all_terms (drop c.forms.k c.args.forms.now)) c.args.list.now.items c.requires)
