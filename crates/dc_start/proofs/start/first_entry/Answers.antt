use Rattle.std.proofs.Common.{rules, arith, ◌≡◌, ◌<◌, length, sym, ◌∙◌, ap₂, subst, SFits}
use Rattle.std.proofs.lemmas.Int.{to_z-of_z}
use mir.Syntax.{w128}
use Rattle.dc_frac.specs.Fits.{IsSmall}
use Rattle.dc_lp.specs.Problems.{coefficient, whole_at, columns}
use Rattle.dc_lp.proofs.Folding.{coefficient_read, coefficient_small}
use Rattle.dc_start.specs.Starts.{signed}
use Rattle.dc_start.proofs.Loads.{entry-real, entry-right, whole-read}
use Rattle.dc_start.proofs.start.first_entry.Goals as goal

pub with_sign-requires : goal.with_sign-requires
with_sign-requires c =
    let l : c.args.col < columns c.args.p.now = search rules in
    let f : SFits w128 c.coefficient.result = search rules in
    let e = coefficient_read c.args.p.now.columns.items (λ v. v.items) c.index-then-col-n.result.now c.deref.result.now c.args.row c.args.col c.coefficient.result l c.index-then-col-n.ensures c.deref.ensures.value c.coefficient.ensures in
    simp to_z-of_z (subst IsSmall (sym e) (coefficient_small c.args.p.now c.args.row c.args.col c.requires.well_formed l))

pub returns-then-col-n : goal.returns-then-col-n
returns-then-col-n c =
    let l : c.args.col < columns c.args.p.now = search rules in
    let r : c.args.row < length c.args.p.now.b.items = omega (arith, c.requires.well_formed.right_sides) in
    let f : SFits w128 c.coefficient.result = search rules in
    let g : SFits w128 c.with_sign.result = search rules in
    let h : SFits w128 c.index.result.now = search rules in
    let e : c.coefficient.result ≡ coefficient c.args.p.now c.args.row c.args.col = coefficient_read c.args.p.now.columns.items (λ v. v.items) c.index-then-col-n.result.now c.deref.result.now c.args.row c.args.col c.coefficient.result l c.index-then-col-n.ensures c.deref.ensures.value c.coefficient.ensures in
    let b : c.index.result.now ≡ whole_at c.args.p.now.b.items c.args.row = whole-read c.args.p.now.b.items c.args.row c.index.result.now r c.index.ensures in
    let s = simp to_z-of_z at c.with_sign.ensures in
    simp to_z-of_z (s ∙ ap₂ signed b e ∙ entry-real c.args.p.now c.args.row c.args.col l)

pub returns-else-col-n-2 : goal.returns-else-col-n-2
returns-else-col-n-2 c =
    let r : c.args.row < length c.args.p.now.b.items = omega (arith, c.requires.well_formed.right_sides) in
    let g : SFits w128 c.with_sign-else-col-n-2.result = search rules in
    let h : SFits w128 c.index-else-col-n-2.result.now = search rules in
    let k : SFits w128 c.index-else-col-n-2-2.result.now = search rules in
    let a : c.index-else-col-n-2.result.now ≡ whole_at c.args.p.now.b.items c.args.row = whole-read c.args.p.now.b.items c.args.row c.index-else-col-n-2.result.now r c.index-else-col-n-2.ensures in
    let b : c.index-else-col-n-2-2.result.now ≡ whole_at c.args.p.now.b.items c.args.row = whole-read c.args.p.now.b.items c.args.row c.index-else-col-n-2-2.result.now r c.index-else-col-n-2-2.ensures in
    let s = simp to_z-of_z at c.with_sign-else-col-n-2.ensures in
    simp to_z-of_z (s ∙ ap₂ signed a b ∙ entry-right c.args.p.now c.args.row c.args.col (search rules) (search rules))
