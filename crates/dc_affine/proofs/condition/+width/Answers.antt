use Rattle.dc_affine.proofs.Widths.{width-And, width-Or}
use Rattle.dc_affine.proofs.condition.+width.Goals as goal

pub returns-in-And : goal.returns-in-And
returns-in-And t c =
    width-And c.args.c.now c.in-And.c c.in-And.d _ _ c.args.negated _ _ _ c.in-And.is c.get-in-And.ensures c.get-in-And-2.ensures c.width-left.ensures c.width-right.ensures c.widths.ensures

pub returns-in-Or : goal.returns-in-Or
returns-in-Or t c =
    width-Or c.args.c.now c.in-Or.c c.in-Or.d _ _ c.args.negated _ _ _ c.in-Or.is c.get-in-Or.ensures c.get-in-Or-2.ensures c.width-left-in-Or.ensures c.width-right-in-Or.ensures c.widths-in-Or.ensures
