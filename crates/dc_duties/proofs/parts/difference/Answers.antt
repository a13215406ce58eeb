use Rattle.std.proofs.Common.{◌∙◌, ap, sym}
use Rattle.dc_duties.proofs.Sides.{ok_so, ok_both, can_subtract, difference_part, difference_terms}
use Rattle.dc_duties.proofs.parts.difference.Goals as goal

pub add-requires : goal.add-requires
add-requires c = can_subtract c.args.left.now c.args.right.now c.in_ok-minus.minus c.requires.left c.requires.right c.in_ok-minus.ensures.negation

pub returns-clause-terms : goal.returns-clause-terms
returns-clause-terms c = ok_so c.add.result (λ p e. difference_terms c.args.left.now c.args.right.now c.in_ok-minus.minus p c.in_ok-minus.ensures.negation e) c.add.ensures.sum

pub returns-clause-part : goal.returns-clause-part
returns-clause-part c = ok_both c.add.result (λ p e k. difference_part c.args.left.now c.args.right.now c.in_ok-minus.minus p c.requires.left c.requires.right c.in_ok-minus.ensures.negation e k) c.add.ensures.sum c.add.ensures.kind
