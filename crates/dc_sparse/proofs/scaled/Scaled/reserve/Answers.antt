use Rattle.std.proofs.Common.{ap, length, refl}
use Rattle.dc_sparse.proofs.Scaling.{scaled-same}
use Rattle.dc_sparse.proofs.HeldEntries.{held-kept}
use Rattle.dc_sparse.proofs.scaled.Scaled.reserve.Goals as goal

pub invariant_of-self : goal.invariant_of-self
invariant_of-self c =
    let s = c.args.self.now in
    record { scaled = scaled-same s.web.nodes.items s.dens.items (length s.web.row_heads.items) s.scaled c.reserve.new.self.nodes.items (length c.reserve.new.self.row_heads.items) (ap length c.reserve.ensures.rows) c.reserve.ensures.kept.entries }

pub returns-clause-entries : goal.returns-clause-entries
returns-clause-entries c i k = held-kept c.args.self.now _ i k refl (c.reserve.ensures.kept.entries i k)
