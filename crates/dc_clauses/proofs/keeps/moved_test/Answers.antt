use Rattle.std.proofs.Common.{sym, ◌∙◌, ap, Some, ◌∷◌, []}
use Rattle.dc_system.specs.After.{is_affine_after}
use Rattle.dc_clauses.proofs.Tests.{all_of-one}
use Rattle.dc_clauses.proofs.Moves.{moved_small, moved_constant_small, same_keep}
use Rattle.dc_clauses.proofs.keeps.moved_test.Goals as goal

pub keep_test-requires-clause-small : goal.keep_test-requires-clause-small
keep_test-requires-clause-small c k l = moved_small c.args.s.now.vars c.args.e.now c.args.atom.now c.as_slice.result.now k c.requires.edge c.requires.atom (c.as_slice.ensures ∙ c.in_ok-target.ensures.coefs)

pub keep_test-requires-clause-constant_small : goal.keep_test-requires-clause-constant_small
keep_test-requires-clause-constant_small c = moved_constant_small c.args.s.now.vars c.args.e.now c.args.atom.now c.in_ok-target.target.constant c.requires.edge c.requires.atom c.in_ok-target.ensures.constant

pub returns : goal.returns
returns c =
    same_keep _ _ _ _ _ _ _ _ (Some (is_affine_after c.args.e.now c.args.atom.now.coefs) ∷ []) c.args.keep.now c.keep_test.result c.edge_hyps-hyps.ensures c.edge_places-places.ensures c.in_ok-target.ensures.constant (c.as_slice.ensures ∙ c.in_ok-target.ensures.coefs)
    (c.keep_test.ensures (Some (is_affine_after c.args.e.now c.args.atom.now.coefs) ∷ []) (all_of-one _ ∙ ap Some (sym c.in_ok-target.ensures.affine)))
