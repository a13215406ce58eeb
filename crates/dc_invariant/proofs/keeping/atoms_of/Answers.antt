use Rattle.std.proofs.Common.{◌∙◌}
use Rattle.dc_invariant.proofs.Keepings.{read_at}
use Rattle.dc_invariant.proofs.keeping.atoms_of.Goals as goal

pub returns : goal.returns
returns c = c.as_slice.ensures ∙ read_at c.args.t.now c.requires.lent c.args.location c.index-t-location.result c.requires.inside
