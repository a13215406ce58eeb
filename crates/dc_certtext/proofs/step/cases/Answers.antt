use Rattle.std.specs.Prelude.{codes}
use Rattle.std.proofs.Common.{inl, inr}
use Rattle.dc_certtext.proofs.Sized.{far_number}
use Rattle.dc_certtext.proofs.step.cases.Goals as goal

pub returns-then-n-lt1 : goal.returns-then-n-lt1
returns-then-n-lt1 c = far_number (codes "cases ") c.args.line.now c.in-Some.n 1 64 _ c.in-Some.ensures.0 c.in-Some.ensures.1 (inl c.if-n-lt1.true)

pub returns-then-n-gt-MOST_CASES : goal.returns-then-n-gt-MOST_CASES
returns-then-n-gt-MOST_CASES c = far_number (codes "cases ") c.args.line.now c.in-Some.n 1 64 _ c.in-Some.ensures.0 c.in-Some.ensures.1 (inr c.if-n-gt-MOST_CASES.true)
