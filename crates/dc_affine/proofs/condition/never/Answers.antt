use Rattle.dc_affine.proofs.CaseLaws.{never_atom}
use Rattle.dc_affine.proofs.condition.never.Goals as goal

pub returns : goal.returns
returns c = never_atom c.args.places _ _ _ c.in_ok-zero.ensures.constant c.in_ok-atom.ensures c.in_ok-atoms.ensures
