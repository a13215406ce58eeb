use Rattle.dc_affine.proofs.CaseLaws.{made-And, made-Or, made-Cmp}
use Rattle.dc_affine.proofs.Fits.{coefs_within}
use Rattle.dc_affine.proofs.condition.+conjunctions.Goals as goal

pub comparison-requires-clause-fits : goal.comparison-requires-clause-fits
comparison-requires-clause-fits t c = coefs_within c.in_ok-gap-in-Cmp.gap.terms c.in_ok-gap-in-Cmp.ensures.kind.in_order c.in_ok-gap-in-Cmp.ensures.fits

pub returns-in_ok-comparison-in-Cmp-clause-cases : goal.returns-in_ok-comparison-in-Cmp-clause-cases
returns-in_ok-comparison-in-Cmp-clause-cases t c =
    made-Cmp c.args.places c.args.c.now c.in-Cmp.a c.in-Cmp.rel c.in-Cmp.b c.args.negated _ _ _ c.in-Cmp.is c.in_ok-gap-in-Cmp.ensures.form c.opposite_if.ensures c.in_ok-comparison-in-Cmp.ensures

pub returns-in_ok-combine-in-And-clause-cases : goal.returns-in_ok-combine-in-And-clause-cases
returns-in_ok-combine-in-And-clause-cases t c =
    made-And c.args.places c.args.c.now c.in-And.c c.in-And.d _ _ c.args.negated _ _ _ c.in-And.is c.get-in-And.ensures c.get-in-And-2.ensures c.in_ok-left-in-And.ensures.cases c.in_ok-right-in-And.ensures.cases c.in_ok-combine-in-And.ensures

pub returns-in_ok-combine-in-Or-clause-cases : goal.returns-in_ok-combine-in-Or-clause-cases
returns-in_ok-combine-in-Or-clause-cases t c =
    made-Or c.args.places c.args.c.now c.in-Or.c c.in-Or.d _ _ c.args.negated _ _ _ c.in-Or.is c.get-in-Or.ensures c.get-in-Or-2.ensures c.in_ok-left-in-Or.ensures.cases c.in_ok-right-in-Or.ensures.cases c.in_ok-combine-in-Or.ensures
