use Rattle.std.proofs.Common.{sym, subst, arith}
use Rattle.dc_template.specs.Monomials.{AreMonomials}
use Rattle.dc_template.proofs.Listed.{are_monomials}
use Rattle.dc_template.proofs.Walks.{list_end}
use Rattle.dc_template.proofs.listing.monomials.Goals as goal

pub returns-clause-monomials : goal.returns-clause-monomials
returns-clause-monomials c =
    subst (AreMonomials c.args.vars c.args.degree) (sym (list_end c.args.vars c.args.degree c.loop-d.d _ c.loop-d.invariant (omega arith))) (are_monomials c.args.vars c.args.degree)
