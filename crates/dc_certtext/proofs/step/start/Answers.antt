use Rattle.std.proofs.Common.{refl, inl}
use Rattle.dc_certtext.proofs.step.start.Goals as goal

pub returns-in-Some : goal.returns-in-Some
returns-in-Some c = inl (refl, (c.in-Some.t, c.in-Some.ensures.0, c.in-Some.ensures.1, refl))
