use Rattle.std.proofs.Common.{rules, ◌≡◌, ◌<◌, ◌∙◌, true, false, None, SFits, length, set, arith, sym, ap}
use Rattle.std.proofs.lemmas.Int.{to_z-of_z}
use mir.Syntax.{w128}
use Rattle.dc_math.specs.Rational.{of_ℤ, ◌*ℚ◌}
use Rattle.dc_math.specs.Inverse.{◌/ℚ◌}
use Rattle.dc_frac.specs.Value.{value}
use Rattle.dc_frac.specs.Fits.{quotient_fits, product_fits}
use Rattle.dc_frac.proofs.SmallSizes.{products_fit, whole_within}
use Rattle.dc_sparse.specs.Entries.{entry_at}
use Rattle.dc_sparse.specs.Rows.{AreCombined}
use Rattle.dc_sparse.proofs.Scaling.{scaled-set, taller, scale-elsewhere}
use Rattle.dc_sparse.proofs.Wholes.{whole_small, den_nonzero, over_fits}
use Rattle.dc_sparse.proofs.HeldEntries.{held-zero, held-kept, whole_row}
use Rattle.dc_sparse.proofs.TurnSteps.{gaps-same}
use Rattle.dc_sparse.proofs.WholeSteps.{num_small, den_small, ratio_within, held_steps, by_fine, whole_step, whole_quotients}
use Rattle.dc_sparse.proofs.scaled.Scaled.reduce_whole.Goals as goal

pub unreachable-requires : goal.unreachable-requires
unreachable-requires c =
    let s = c.args.self.now in
    let w₁ = whole_row s c.args.row c.args.mine c.requires.mine in
    let w₂ = whole_row s c.args.pivot c.args.other c.requires.den in
    let t : quotient_fits (value c.args.number) (value c.args.other) ≡ true =
    ap (λ x. quotient_fits x (value c.args.other)) c.requires.number ∙ over_fits (entry_at s.web.nodes.items c.args.row c.args.col) (value c.args.other) (w₁.1 c.args.col) (den_nonzero (value c.args.other) w₂.0) w₂.0.small in
    let f : quotient_fits (value c.args.number) (value c.args.other) ≡ false = c.in_default.ensures in
    cc

pub unreachable-requires-in_default-mul : goal.unreachable-requires-in_default-mul
unreachable-requires-in_default-mul c =
    let s = c.args.self.now in
    let ratio = c.in-Some.ratio in
    let er : value ratio ≡ entry_at s.web.nodes.items c.args.row c.args.col /ℚ value c.args.other = c.in-Some.ensures.1 ∙ ap (λ x. x /ℚ value c.args.other) c.requires.number in
    let within = ratio_within s c.args.row c.args.pivot c.args.col c.args.mine c.args.other c.requires.mine c.requires.den ratio er in
    let f₂ : SFits w128 ratio.den = search rules in
    let w₁ = whole_row s c.args.row c.args.mine c.requires.mine in
    let ew : value c.whole.result ≡ of_ℤ ratio.den = (simp to_z-of_z at c.whole.ensures) in
    let t : product_fits (value c.args.mine) (value c.whole.result) ≡ true =
    ap (product_fits (value c.args.mine)) ew ∙ products_fit 41 41 (value c.args.mine) (of_ℤ ratio.den) (whole_small 41 (value c.args.mine) (omega arith) w₁.0.small) (whole_within 41 ratio.den (omega arith) (den_small ratio within)) (omega arith) in
    let f : product_fits (value c.args.mine) (value c.whole.result) ≡ false = c.in_default-mul.ensures in
    cc

pub combine_row-small-requires-clause-entry : goal.combine_row-small-requires-clause-entry
combine_row-small-requires-clause-entry c =
    let s = c.args.self.now in
    sym (held-zero s c.args.pivot c.args.col) ∙ c.requires.entry

pub combine_row-small-requires-clause-spare : goal.combine_row-small-requires-clause-spare
combine_row-small-requires-clause-spare c =
    let s = c.args.self.now in
    let g = gaps-same s s.web.nodes.items c.args.row c.args.pivot (length s.web.col_heads.items) (λ k. sym (held-zero s c.args.row k)) (λ k. sym (held-zero s c.args.pivot k)) in
    let q = c.requires.spare in
    omega arith

pub combine_row-small-requires-clause-times : goal.combine_row-small-requires-clause-times
combine_row-small-requires-clause-times c =
    let s = c.args.self.now in
    let ratio = c.in-Some.ratio in
    let er : value ratio ≡ entry_at s.web.nodes.items c.args.row c.args.col /ℚ value c.args.other = c.in-Some.ensures.1 ∙ ap (λ x. x /ℚ value c.args.other) c.requires.number in
    let within = ratio_within s c.args.row c.args.pivot c.args.col c.args.mine c.args.other c.requires.mine c.requires.den ratio er in
    let f₂ : SFits w128 ratio.den = search rules in
    simp to_z-of_z (record { positive = ratio.positive; small = den_small ratio within })

pub combine_row-small-requires-clause-factor : goal.combine_row-small-requires-clause-factor
combine_row-small-requires-clause-factor c =
    let s = c.args.self.now in
    let ratio = c.in-Some.ratio in
    let er : value ratio ≡ entry_at s.web.nodes.items c.args.row c.args.col /ℚ value c.args.other = c.in-Some.ensures.1 ∙ ap (λ x. x /ℚ value c.args.other) c.requires.number in
    let within = ratio_within s c.args.row c.args.pivot c.args.col c.args.mine c.args.other c.requires.mine c.requires.den ratio er in
    let f₁ : SFits w128 ratio.num = search rules in
    simp to_z-of_z (num_small ratio within)

pub combine_row-small-requires-clause-mine : goal.combine_row-small-requires-clause-mine
combine_row-small-requires-clause-mine c =
    let s = c.args.self.now in
    (whole_row s c.args.row c.args.mine c.requires.mine).1

pub combine_row-small-requires-clause-theirs : goal.combine_row-small-requires-clause-theirs
combine_row-small-requires-clause-theirs c =
    let s = c.args.self.now in
    (whole_row s c.args.pivot c.args.other c.requires.den).1

pub invariant_of-self : goal.invariant_of-self
invariant_of-self c =
    let s = c.args.self.now in
    let last = c.combine_row-small.new.self in
    let lt : c.args.row < length s.dens.items = (let l = s.scaled.long in omega arith) in
    let r = c.combine_row-small.ensures in
    record {
      scaled = taller last.nodes.items (set s.dens.items c.args.row None) (length s.web.row_heads.items) (length last.row_heads.items) r.height
          (scaled-set s.web.nodes.items s.dens.items (length s.web.row_heads.items) s.scaled last.nodes.items c.args.row None lt r.others.entries tt);
    }

pub settle-requires-clause-by : goal.settle-requires-clause-by
settle-requires-clause-by c =
    let s = c.args.self.now in
    let ratio = c.in-Some.ratio in
    let er : value ratio ≡ entry_at s.web.nodes.items c.args.row c.args.col /ℚ value c.args.other = c.in-Some.ensures.1 ∙ ap (λ x. x /ℚ value c.args.other) c.requires.number in
    let within = ratio_within s c.args.row c.args.pivot c.args.col c.args.mine c.args.other c.requires.mine c.requires.den ratio er in
    let f₂ : SFits w128 ratio.den = search rules in
    let ew : value c.whole.result ≡ of_ℤ ratio.den = (simp to_z-of_z at c.whole.ensures) in
    let by = c.in-Some-mul.by in
    let eb : value by ≡ value c.args.mine *ℚ of_ℤ ratio.den = c.in-Some-mul.ensures.1 ∙ ap (λ x. value c.args.mine *ℚ x) ew in
    by_fine s c.args.row c.args.pivot c.args.col c.args.mine c.args.other c.requires.mine c.requires.den ratio er by eb

pub settle-requires-clause-fit : goal.settle-requires-clause-fit
settle-requires-clause-fit c =
    let s = c.args.self.now in
    let ratio = c.in-Some.ratio in
    let er : value ratio ≡ entry_at s.web.nodes.items c.args.row c.args.col /ℚ value c.args.other = c.in-Some.ensures.1 ∙ ap (λ x. x /ℚ value c.args.other) c.requires.number in
    let within = ratio_within s c.args.row c.args.pivot c.args.col c.args.mine c.args.other c.requires.mine c.requires.den ratio er in
    let f₂ : SFits w128 ratio.den = search rules in
    let ew : value c.whole.result ≡ of_ℤ ratio.den = (simp to_z-of_z at c.whole.ensures) in
    let by = c.in-Some-mul.by in
    let eb : value by ≡ value c.args.mine *ℚ of_ℤ ratio.den = c.in-Some-mul.ensures.1 ∙ ap (λ x. value c.args.mine *ℚ x) ew in
    let last = c.combine_row-small.new.self in
    let r = c.combine_row-small.ensures in
    let f₁ : SFits w128 ratio.num = search rules in
    let combined : AreCombined s.web.nodes.items last.nodes.items c.args.row c.args.pivot c.args.col (of_ℤ ratio.den) (of_ℤ ratio.num) (length s.web.col_heads.items) = (simp to_z-of_z at r.combined) in
    whole_quotients s c.args.row c.args.pivot c.args.col c.args.mine c.args.other c.requires.mine c.requires.den ratio er by eb last r.width combined

pub returns-clause-fits : goal.returns-clause-fits
returns-clause-fits c =
    let s = c.args.self.now in
    let ratio = c.in-Some.ratio in
    let er : value ratio ≡ entry_at s.web.nodes.items c.args.row c.args.col /ℚ value c.args.other = c.in-Some.ensures.1 ∙ ap (λ x. x /ℚ value c.args.other) c.requires.number in
    held_steps s c.args.row c.args.pivot c.args.col c.args.mine c.args.other c.requires.mine c.requires.den ratio er (length s.web.col_heads.items)

pub returns-clause-reduced : goal.returns-clause-reduced
returns-clause-reduced c k lk =
    let s = c.args.self.now in
    let ratio = c.in-Some.ratio in
    let er : value ratio ≡ entry_at s.web.nodes.items c.args.row c.args.col /ℚ value c.args.other = c.in-Some.ensures.1 ∙ ap (λ x. x /ℚ value c.args.other) c.requires.number in
    let within = ratio_within s c.args.row c.args.pivot c.args.col c.args.mine c.args.other c.requires.mine c.requires.den ratio er in
    let f₂ : SFits w128 ratio.den = search rules in
    let ew : value c.whole.result ≡ of_ℤ ratio.den = (simp to_z-of_z at c.whole.ensures) in
    let by = c.in-Some-mul.by in
    let eb : value by ≡ value c.args.mine *ℚ of_ℤ ratio.den = c.in-Some-mul.ensures.1 ∙ ap (λ x. value c.args.mine *ℚ x) ew in
    let last = c.combine_row-small.new.self in
    let r = c.combine_row-small.ensures in
    let f₁ : SFits w128 ratio.num = search rules in
    let combined : AreCombined s.web.nodes.items last.nodes.items c.args.row c.args.pivot c.args.col (of_ℤ ratio.den) (of_ℤ ratio.num) (length s.web.col_heads.items) = (simp to_z-of_z at r.combined) in
    c.settle.ensures.here k ∙ whole_step s c.args.row c.args.pivot c.args.col c.args.mine c.args.other c.requires.mine c.requires.den ratio er by eb last r.width combined k lk

pub returns-clause-others : goal.returns-clause-others
returns-clause-others c =
    let s = c.args.self.now in
    let lt : c.args.row < length s.dens.items = (let l = s.scaled.long in omega arith) in
    let r = c.combine_row-small.ensures in
    let e = c.settle.ensures.others in
    record {
      entries = λ a b ne. e.entries a b ne ∙ held-kept s _ a b (scale-elsewhere s.dens.items c.args.row None a lt ne) (r.others.entries a b ne);
      stays = λ n a b ne h. e.cells.stays n a b (r.others.stays n a b ne h);
      stood = λ n a b ne h. r.others.stood n a b ne (e.cells.stood n a b h);
    }

pub returns-clause-spare : goal.returns-clause-spare
returns-clause-spare c =
    let s = c.args.self.now in
    let g = gaps-same s s.web.nodes.items c.args.row c.args.pivot (length s.web.col_heads.items) (λ k. sym (held-zero s c.args.row k)) (λ k. sym (held-zero s c.args.pivot k)) in
    let q₁ = c.combine_row-small.ensures.spare in
    let q₃ = c.settle.ensures.others.sizes.spare in
    omega arith
