use Rattle.dc_system.proofs.folding.folded_system.Goals as goal
use Rattle.std.proofs.Common.{ap, ◌∙◌, length, arith}
use Rattle.dc_system.proofs.FoldSteps.{net_at, few_left}

pub fold_all-requires-clause-net : goal.fold_all-requires-clause-net
fold_all-requires-clause-net c = net_at c.args.s.now c.in_ok-left.left.items c.in_ok-edges.edges.items c.requires c.in_ok-left.ensures (c.in_ok-edges.ensures ∙ c.as_slice.ensures)

pub renumber-requires : goal.renumber-requires
renumber-requires c =
    let N = net_at c.args.s.now c.in_ok-left.left.items c.in_ok-edges.edges.items c.requires c.in_ok-left.ensures (c.in_ok-edges.ensures ∙ c.as_slice.ensures) in
    let a = few_left _ _ _ _ _ _ c.args.s.now.locs c.requires.few_vars N c.in_ok-fold_all.ensures.folding c.in_ok-left.ensures c.requires.few_locations in
    let b = ap length c.as_slice-2.ensures.value in
    omega arith
