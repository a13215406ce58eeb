use Rattle.std.proofs.Common.{◌∙◌, ap₂}
use Rattle.dc_invariant.proofs.Faults.{if_ok}
use Rattle.dc_moves.specs.Cuts.{with_guard}
use Rattle.dc_invariant.proofs.Keepings.{is_within}
use Rattle.dc_invariant.proofs.keeping.edge_atoms.Goals as goal

pub atoms_of-requires-clause-inside : goal.atoms_of-requires-clause-inside
atoms_of-requires-clause-inside c = (is_within c.args.t.now c.requires.lent c.args.edge.now c.requires.edge).from

pub returns : goal.returns
returns c =
    if_ok _ _ (λ v e. e ∙ ap₂ (λ k xs. with_guard k xs c.args.edge.now) c.edge_places.ensures (c.in_ok-atoms.ensures ∙ c.atoms_of.ensures)) c.with_guard.result c.with_guard.ensures
