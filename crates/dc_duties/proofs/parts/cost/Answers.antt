use Rattle.std.proofs.Common.{◌∙◌, ap, sym, subst}
use Rattle.dc_poly.specs.Terms.{Polynomial}
use Rattle.dc_claims.specs.Blocks.{IsPart}
use Rattle.dc_duties.specs.Lent.{cost_at}
use Rattle.dc_duties.proofs.Sides.{ok_so, ok_both, part_negated, form_part}
use Rattle.dc_duties.proofs.parts.cost.Goals as goal

pub returns-in-New-clause-terms : goal.returns-in-New-clause-terms
returns-in-New-clause-terms c = ok_so c.neg.result (λ p e. ap (λ (q : Polynomial). q.terms) e ∙ sym (ap (λ s. cost_at s c.args.edge.now) c.in-New.is)) c.neg.ensures.negation

pub returns-in-New-clause-part : goal.returns-in-New-clause-part
returns-in-New-clause-part c = ok_both c.neg.result (λ p e k. part_negated c.args.places 1 c.args.edge.now.cost p (form_part c.args.places c.args.edge.now.cost c.requires) e k) c.neg.ensures.negation c.neg.ensures.kind

pub returns-in-Old-clause-terms : goal.returns-in-Old-clause-terms
returns-in-Old-clause-terms c = ok_so c.copy.result (λ p e. ap (λ (q : Polynomial). q.terms) e ∙ sym (ap (λ s. cost_at s c.args.edge.now) c.in-Old.is)) c.copy.ensures.value

pub returns-in-Old-clause-part : goal.returns-in-Old-clause-part
returns-in-Old-clause-part c = ok_so c.copy.result (λ p e. subst (IsPart c.args.places 1) (sym e) (form_part c.args.places c.args.edge.now.cost c.requires)) c.copy.ensures.value
