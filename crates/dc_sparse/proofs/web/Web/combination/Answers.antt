use Rattle.std.proofs.Common.{◌≡◌, ◌∙◌, SFits, pos, ◌-ℤ◌, arith, sym, subst, ap}
use Rattle.std.proofs.lemmas.Int.{to_z-of_z}
use mir.Syntax.{w128}
use Rattle.dc_math.specs.Rational.{of_ℤ, ◌*ℚ◌}
use Rattle.dc_frac.specs.Value.{value}
use Rattle.dc_sparse.specs.Webs.{IsVacant}
use Rattle.dc_sparse.specs.Entries.{entry_at, StandsAt}
use Rattle.dc_sparse.specs.Scales.{IsWhole}
use Rattle.dc_sparse.proofs.SingleWrites.{item_live, item-read}
use Rattle.dc_sparse.proofs.Entries.{entry-node, entry-vacant}
use Rattle.dc_sparse.proofs.Multiples.{difference_small, small_fits, combined_value, taken_value}
use Rattle.dc_sparse.proofs.web.Web.combination.Goals as goal

pub index-requires : goal.index-requires
index-requires c =
    let w = c.args.self.now in
    let s : StandsAt w.nodes.items c.in-Some.node c.args.row c.args.at = rw c.in-Some.is at c.requires.found in
    let l = item_live w.nodes.items c.in-Some.node s.live in
    omega (arith, w.nodes.ok.0)

pub product-requires-clause-number : goal.product-requires-clause-number
product-requires-clause-number c =
    let w = c.args.self.now in
    let s : StandsAt w.nodes.items c.in-Some.node c.args.row c.args.at = rw c.in-Some.is at c.requires.found in
    let l = item_live w.nodes.items c.in-Some.node s.live in
    let e : value c.index.result.now.value ≡ entry_at w.nodes.items c.args.row c.args.at = item-read w.nodes.items c.in-Some.node c.index.result.now l c.index.ensures ∙ sym (entry-node w.nodes.items c.in-Some.node c.args.row c.args.at l w.woven.apart s) in
    subst (IsWhole 41) (sym e) c.requires.whole

pub returns-in-Some : goal.returns-in-Some
returns-in-Some c =
    let w = c.args.self.now in
    let s : StandsAt w.nodes.items c.in-Some.node c.args.row c.args.at = rw c.in-Some.is at c.requires.found in
    let l = item_live w.nodes.items c.in-Some.node s.live in
    let e : value c.index.result.now.value ≡ entry_at w.nodes.items c.args.row c.args.at = item-read w.nodes.items c.in-Some.node c.index.result.now l c.index.ensures ∙ sym (entry-node w.nodes.items c.in-Some.node c.args.row c.args.at l w.woven.apart s) in
    let ft : SFits w128 c.args.times = c.ranges.times in
    let ff : SFits w128 c.args.factor = c.ranges.factor in
    let q = c.product-taken.result in
    let lq = c.product-taken.ensures.small in
    let fq : SFits w128 q = small_fits q (omega arith) in
    let eq : of_ℤ q ≡ value c.args.by *ℚ of_ℤ c.args.factor = (simp to_z-of_z at c.product-taken.ensures.value) in
    let p = c.product.result in
    let lp = c.product.ensures.small in
    let fp : SFits w128 p = small_fits p (omega arith) in
    let fd : SFits w128 (p -ℤ q) = small_fits (p -ℤ q) (difference_small p q lp lq) in
    let ep : of_ℤ p ≡ value c.index.result.now.value *ℚ of_ℤ c.args.times = (simp to_z-of_z at c.product.ensures.value) in
    let v : value c.whole-in-Some.result ≡ of_ℤ (p -ℤ q) = (simp to_z-of_z at c.whole-in-Some.ensures) in
    v ∙ combined_value c.args.at c.args.col p q c.args.times c.args.factor (value c.args.by) (entry_at w.nodes.items c.args.row c.args.at) c.if-at-col.false (ep ∙ ap (λ x. x *ℚ of_ℤ c.args.times) e) eq

pub returns-in-None : goal.returns-in-None
returns-in-None c =
    let ft : SFits w128 c.args.times = c.ranges.times in
    let ff : SFits w128 c.args.factor = c.ranges.factor in
    let q = c.product-taken.result in
    let lq = c.product-taken.ensures.small in
    let fq : SFits w128 q = small_fits q (omega arith) in
    let eq : of_ℤ q ≡ value c.args.by *ℚ of_ℤ c.args.factor = (simp to_z-of_z at c.product-taken.ensures.value) in
    let w = c.args.self.now in
    let vacant : IsVacant w.nodes.items c.args.row c.args.at = rw c.in-None.is at c.requires.found in
    let fd : SFits w128 (pos 0 -ℤ q) = small_fits (pos 0 -ℤ q) (difference_small (pos 0) q (omega arith) lq) in
    let v : value c.whole-in-None.result ≡ of_ℤ (pos 0 -ℤ q) = (simp to_z-of_z at c.whole-in-None.ensures) in
    v ∙ taken_value c.args.at c.args.col q c.args.times c.args.factor (value c.args.by) (entry_at w.nodes.items c.args.row c.args.at) c.if-at-col.false (entry-vacant w.nodes.items c.args.row c.args.at vacant) eq
