use Rattle.std.proofs.Common.{◌∙◌, ap, ap₂, sym, subst}
use Rattle.dc_poly.specs.Sums.{plus, negated}
use Rattle.dc_claims.specs.Blocks.{IsPart}
use Rattle.dc_claims.specs.Parts.{part_along}
use Rattle.dc_duties.proofs.Sides.{ok_so, ok_both, part_at_places}
use Rattle.dc_duties.proofs.parts.along.Goals as goal

pub difference-requires-clause-left : goal.difference-requires-clause-left
difference-requires-clause-left c = part_at_places _ _ 1 c.in_ok-before.before (sym c.in_ok-before.ensures.part.places) c.in_ok-before.ensures.part

pub difference-requires-clause-right : goal.difference-requires-clause-right
difference-requires-clause-right c = part_at_places _ _ 1 c.in_ok-behind.behind (sym c.in_ok-before.ensures.part.places) c.in_ok-behind.ensures.part

pub returns-in-New-clause-terms : goal.returns-in-New-clause-terms
returns-in-New-clause-terms c = ok_so c.difference.result (λ p e. e ∙ ap₂ (λ x y. plus x (negated y)) c.in_ok-before.ensures.terms c.in_ok-behind.ensures.terms ∙ sym (ap (λ s. part_along s c.args.vars c.args.edge.now c.args.location c.args.mono.now) c.in-New.is)) c.difference.ensures.terms

pub returns-in-New-clause-part : goal.returns-in-New-clause-part
returns-in-New-clause-part c = ok_so c.difference.result (λ p h. part_at_places _ _ 2 p c.in_ok-before.ensures.part.places h) c.difference.ensures.part

pub difference-requires-in-Old-clause-left : goal.difference-requires-in-Old-clause-left
difference-requires-in-Old-clause-left c = part_at_places _ _ 1 c.in_ok-behind.behind (sym c.in_ok-behind.ensures.part.places) c.in_ok-behind.ensures.part

pub difference-requires-in-Old-clause-right : goal.difference-requires-in-Old-clause-right
difference-requires-in-Old-clause-right c = part_at_places _ _ 1 c.in_ok-before.before (sym c.in_ok-behind.ensures.part.places) c.in_ok-before.ensures.part

pub returns-clause-terms : goal.returns-clause-terms
returns-clause-terms c = ok_so c.difference-in-Old.result (λ p e. e ∙ ap₂ (λ x y. plus x (negated y)) c.in_ok-behind.ensures.terms c.in_ok-before.ensures.terms ∙ sym (ap (λ s. part_along s c.args.vars c.args.edge.now c.args.location c.args.mono.now) c.in-Old.is)) c.difference-in-Old.ensures.terms

pub returns-clause-part : goal.returns-clause-part
returns-clause-part c = ok_so c.difference-in-Old.result (λ p h. part_at_places _ _ 2 p c.in_ok-behind.ensures.part.places h) c.difference-in-Old.ensures.part
