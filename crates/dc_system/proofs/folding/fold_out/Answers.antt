use Rattle.dc_system.proofs.folding.fold_out.Goals as goal
use Rattle.std.proofs.Common.{refl}
use Rattle.dc_system.proofs.Spotting.{folded_in_place}

pub returns-clause-edges : goal.returns-clause-edges
returns-clause-edges c = folded_in_place c.args.spot.location c.args.spot.index c.args.spot.edge c.args.spot.edge c.args.edges.now.items _ c.keep_edges.new.edges.items c.requires.index (c.requires.only c.args.spot.edge) refl c.keep_edges.ensures
