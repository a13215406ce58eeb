use Rattle.std.proofs.Common.{SFits, ◌∙◌, ◌+◌, ap, List}
use Rattle.std.specs.Int.{w128}
use Rattle.std.proofs.lemmas.Int.{to_z-of_z}
use Rattle.dc_poly.specs.Terms.{Polynomial, polynomial}
use Rattle.dc_system.specs.After.{weighted}
use Rattle.dc_affine.proofs.Fits.{coef_128}
use Rattle.dc_system.proofs.RowSteps.{IsRead, row_whole, row_means}
use Rattle.dc_system.proofs.rows.row_after.Goals as goal

read : (c : goal.After-drop-sum-inside-2) → IsRead c.args.vars c.args.edge.now c.args.row.now c.in_ok-constant.field-0 c.from_vec.result c.degree.result c.in_ok-sum.sum
read c = record {
  sum = (c.in_ok-sum.ensures {u = tt}).sum ∙ ap (λ (vs : List Polynomial). polynomial (c.args.vars + 1) (weighted c.args.row.now vs)) c.as_slice.ensures;
  constant_of_sum = c.in_ok-constant.ensures;
  coefs_of_sum = c.from_vec.ensures ∙ c.in_ok-coefs.ensures;
  degree_of_sum = c.degree.ensures.degree;
}

pub returns-clause-row : goal.returns-clause-row
returns-clause-row c =
    let f : SFits w128 c.in_ok-constant.field-0 = coef_128 c.in_ok-sum.sum.terms _ c.in_ok-constant.field-0 (c.in_ok-sum.ensures {u = tt}).kind.light c.in_ok-constant.ensures in
    simp to_z-of_z (row_whole c.args.vars c.args.edge.now c.args.row.now c.in_ok-constant.field-0 c.from_vec.result c.degree.result c.in_ok-sum.sum (read c))

pub returns-clause-value : goal.returns-clause-value
returns-clause-value c =
    let f : SFits w128 c.in_ok-constant.field-0 = coef_128 c.in_ok-sum.sum.terms _ c.in_ok-constant.field-0 (c.in_ok-sum.ensures {u = tt}).kind.light c.in_ok-constant.ensures in
    simp to_z-of_z (row_means c.args.vars c.args.edge.now c.args.row.now c.in_ok-constant.field-0 c.from_vec.result c.degree.result c.in_ok-sum.sum (read c) c.requires.edge)
