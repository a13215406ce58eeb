use Rattle.dc_system.proofs.folding.spot_at.Goals as goal
use Rattle.dc_system.proofs.Spotting.{two_at, edges_meet}

pub compose-requires-clause-meet : goal.compose-requires-clause-meet
compose-requires-clause-meet c = edges_meet c.args.location c.in-Some.index c.in-Some-only_out_of.leaving c.args.edges.now c.index-edges-index.result c.index-edges-leaving.result (two_at c.args.location _ _ c.args.edges.now _ _ c.in-Some.ensures c.in-Some-only_out_of.ensures c.index-edges-index.is c.index-edges-leaving.is)
