use Rattle.std.proofs.Common.{◌∙◌, ap, length}
use Rattle.dc_lp.specs.Problems.{whole_at}
use Rattle.dc_lp.specs.Folds.{folded}
use Rattle.dc_cert.specs.Vectors.{entry_of}
use Rattle.dc_mainlines.proofs.steps.right_sum.Goals as goal

pub returns : goal.returns
returns c =
    c.product.ensures
    ∙ ap (λ xs. folded (length xs) (whole_at xs) (entry_of c.as_slice.result.now)) c.deref.ensures.value
    ∙ ap (λ n. folded n (whole_at c.args.p.now.b.items) (entry_of c.as_slice.result.now)) c.requires.well_formed.right_sides
    ∙ ap (λ items. folded c.args.p.now.rows (whole_at c.args.p.now.b.items) (entry_of items)) c.as_slice.ensures
