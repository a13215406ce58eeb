use Rattle.dc_invariant.proofs.Prunings.{pruning_lent}
use Rattle.dc_invariant.proofs.pruning.prune.Goals as goal

pub printed_each-requires : goal.printed_each-requires
printed_each-requires g c =
    record {
      lent =
          pruning_lent (record { side = c.args.side; system = c.args.s; candidates = c.args.c; at = c.as_slice.result; budget = c.args.budget }) c.args.f.now.at c.as_slice.ensures
          c.requires.system c.requires.kind c.requires.shape c.requires.honest;
    }
