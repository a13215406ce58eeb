use Rattle.dc_system.proofs.folding.only_into.Goals as goal
use Rattle.std.specs.Prelude.{eqb}
use Rattle.std.proofs.Common.{sym, ap, ◌∙◌}
use Rattle.std.proofs.lemmas.Bool.{eq-eqb}
use Rattle.dc_system.specs.declared.edges.Edge.{Edge}
use Rattle.dc_system.proofs.Onlies.{found_two}

pub returns-then-is_some : goal.returns-then-is_some
returns-then-is_some c = λ e q. found_two (λ (e : Edge). eqb e.to c.args.location) c.args.edges.now c.loop-k.k c.loop-k.found c.index-edges-k.result c.loop-k-test.true c.index-edges-k.is (ap (λ (e : Edge). eqb e.to c.args.location) c.index-edges-k.is ∙ eq-eqb _ _ c.if-edges-k.true) (sym c.if-is_some.ensures) c.loop-k.invariant e q
