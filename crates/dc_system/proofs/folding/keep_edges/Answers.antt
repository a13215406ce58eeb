use Rattle.dc_system.proofs.folding.keep_edges.Goals as goal
use Rattle.std.proofs.Common.{rules}
use Rattle.std.specs.Prelude.{not, eqb}
use Rattle.std.proofs.lemmas.Fn.{filter_same}
use Rattle.dc_system.specs.declared.edges.Edge.{Edge}

pub returns : goal.returns
returns c = filter_same _ (λ (e : Edge). not (eqb e.from c.args.location)) _ (λ x b f r. search rules) c.args.edges.now.items c.retain.new.self.items c.retain.ensures.filtered
