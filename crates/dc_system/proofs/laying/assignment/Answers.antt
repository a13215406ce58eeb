use Rattle.std.proofs.Common.{◌+◌, arith, ap, length}
use Rattle.dc_system.proofs.Pushed.{length-variables}
use Rattle.dc_system.proofs.laying.assignment.Goals as goal

pub index_mut-requires : goal.index_mut-requires
index_mut-requires c =
    let l = length-variables (c.args.vars + 1) c.args.vars in
    let e = ap length c.in_ok-update.ensures in
    omega arith
