use Rattle.dc_system.proofs.folding.keep_others.Goals as goal
use Rattle.std.proofs.Common.{rules}
use Rattle.std.specs.Prelude.{not, eqb}
use Rattle.std.proofs.lemmas.Fn.{filter_same}

pub returns : goal.returns
returns c = filter_same _ (λ k. not (eqb k c.args.location)) _ (λ x b f r. search rules) c.args.left.now.items c.retain.new.self.items c.retain.ensures.filtered
