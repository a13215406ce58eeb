use Rattle.std.proofs.Common.{refl, ◌∙◌, []}
use Rattle.dc_clauses.proofs.Moves.{small_at, same_keep}
use Rattle.dc_clauses.proofs.keeps.entry_test.Goals as goal

pub keep_test-requires-clause-small : goal.keep_test-requires-clause-small
keep_test-requires-clause-small c k l = small_at c.as_slice.result.now c.args.atom.now.coefs k c.requires.atom.coefs_within (c.as_slice.ensures ∙ c.in_ok-target.ensures.coefs) l

pub returns : goal.returns
returns c =
    same_keep _ _ _ _ _ _ _ _ [] c.args.keep.now c.keep_test.result c.alone.ensures refl c.in_ok-target.ensures.constant (c.as_slice.ensures ∙ c.in_ok-target.ensures.coefs) (c.keep_test.ensures [] refl)
