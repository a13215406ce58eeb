use Rattle.std.proofs.Common.{◌≡◌, ◌∙◌, SFits, pos, arith, sym, subst, ap}
use Rattle.std.proofs.lemmas.Int.{ints, to_z-of_z}
use mir.Syntax.{w128}
use Rattle.dc_math.specs.Rational.{of_ℤ, ◌*ℚ◌}
use Rattle.dc_math.specs.Tests.{is_zero}
use Rattle.dc_frac.specs.Value.{value}
use Rattle.dc_sparse.specs.Nodes.{item, col_at}
use Rattle.dc_sparse.specs.Entries.{IsPut}
use Rattle.dc_sparse.specs.Scales.{IsWhole}
use Rattle.dc_sparse.proofs.SingleWrites.{item_live, item-read}
use Rattle.dc_sparse.proofs.Links.{col-read}
use Rattle.dc_sparse.proofs.Entries.{entry-node, item-live, put_same}
use Rattle.dc_sparse.proofs.Wholes.{is_zero-*ℚ, whole_nonzero}
use Rattle.dc_sparse.proofs.Multiples.{small_fits, once}
use Rattle.dc_sparse.proofs.web.Web.multiply.Goals as goal

pub returns-then-times-eq1-clause-entry : goal.returns-then-times-eq1-clause-entry
returns-then-times-eq1-clause-entry c le i k s =
    let w = c.args.self.now in
    let l = item_live w.nodes.items c.args.node c.requires.node in
    let ft : SFits w128 c.args.times = c.ranges.times in
    let one : c.args.times ≡ pos 1 = omega (arith, ints) in
    let same = once (item w.nodes.items c.args.node) c.args.times one in
    put_same w.nodes.items i k (item w.nodes.items c.args.node *ℚ of_ℤ c.args.times) (entry-node w.nodes.items c.args.node i k l w.woven.apart s ∙ sym same)

pub returns-then-times-eq1-clause-small : goal.returns-then-times-eq1-clause-small
returns-then-times-eq1-clause-small c t le =
    let w = c.args.self.now in
    let l = item_live w.nodes.items c.args.node c.requires.node in
    let ft : SFits w128 c.args.times = c.ranges.times in
    let one : c.args.times ≡ pos 1 = omega (arith, ints) in
    let same = once (item w.nodes.items c.args.node) c.args.times one in
    subst (IsWhole 41) (sym same) (c.requires.whole le)

pub index-requires : goal.index-requires
index-requires c =
    let w = c.args.self.now in
    let l = item_live w.nodes.items c.args.node c.requires.node in
    omega (arith, w.nodes.ok.0)

pub returns-then-col-done-clause-entry : goal.returns-then-col-done-clause-entry
returns-then-col-done-clause-entry c le i k s =
    let w = c.args.self.now in
    let l = item_live w.nodes.items c.args.node c.requires.node in
    let ek : c.col.result ≡ col_at w.nodes.items c.args.node = c.col.ensures ∙ col-read w.nodes.items c.args.node c.index.result.now l c.index.ensures in
    absurd (let t = c.if-col-done.true in omega arith)

pub returns-then-col-done-clause-small : goal.returns-then-col-done-clause-small
returns-then-col-done-clause-small c t le =
    let w = c.args.self.now in
    let l = item_live w.nodes.items c.args.node c.requires.node in
    let ek : c.col.result ≡ col_at w.nodes.items c.args.node = c.col.ensures ∙ col-read w.nodes.items c.args.node c.index.result.now l c.index.ensures in
    absurd (let t = c.if-col-done.true in omega arith)

pub index-requires-2 : goal.index-requires-2
index-requires-2 c =
    let w = c.args.self.now in
    let l = item_live w.nodes.items c.args.node c.requires.node in
    omega (arith, w.nodes.ok.0)

pub product-requires-clause-number : goal.product-requires-clause-number
product-requires-clause-number c =
    let w = c.args.self.now in
    let l = item_live w.nodes.items c.args.node c.requires.node in
    let ek : c.col.result ≡ col_at w.nodes.items c.args.node = c.col.ensures ∙ col-read w.nodes.items c.args.node c.index.result.now l c.index.ensures in
    let e : value c.index-2.result.now.value ≡ item w.nodes.items c.args.node = item-read w.nodes.items c.args.node c.index-2.result.now l c.index-2.ensures in
    subst (IsWhole 41) (sym e) (c.requires.whole (omega arith))

pub set-requires-clause-nonzero : goal.set-requires-clause-nonzero
set-requires-clause-nonzero c =
    let w = c.args.self.now in
    let l = item_live w.nodes.items c.args.node c.requires.node in
    let ek : c.col.result ≡ col_at w.nodes.items c.args.node = c.col.ensures ∙ col-read w.nodes.items c.args.node c.index.result.now l c.index.ensures in
    let e : value c.index-2.result.now.value ≡ item w.nodes.items c.args.node = item-read w.nodes.items c.args.node c.index-2.result.now l c.index-2.ensures in
    let ft : SFits w128 c.args.times = c.ranges.times in
    let fp : SFits w128 c.product.result = small_fits c.product.result (let p = c.product.ensures.small in omega arith) in
    let v : value c.whole-entry.result ≡ item w.nodes.items c.args.node *ℚ of_ℤ c.args.times = (let p : value c.whole-entry.result ≡ of_ℤ c.product.result = (simp to_z-of_z at c.whole-entry.ensures) in let q : of_ℤ c.product.result ≡ value c.index-2.result.now.value *ℚ of_ℤ c.args.times = (simp to_z-of_z at c.product.ensures.value) in p ∙ q ∙ ap (λ x. x *ℚ of_ℤ c.args.times) e) in
    ap is_zero v ∙ is_zero-*ℚ (item w.nodes.items c.args.node) (of_ℤ c.args.times) (whole_nonzero c.args.times c.requires.times.positive) ∙ item-live w.nodes.items c.args.node c.requires.node

pub returns-clause-done : goal.returns-clause-done
returns-clause-done c lt =
    let w = c.args.self.now in
    let l = item_live w.nodes.items c.args.node c.requires.node in
    let ek : c.col.result ≡ col_at w.nodes.items c.args.node = c.col.ensures ∙ col-read w.nodes.items c.args.node c.index.result.now l c.index.ensures in
    absurd (let t = c.if-col-done.false in omega arith)

pub returns-clause-entry : goal.returns-clause-entry
returns-clause-entry c le i k s =
    let w = c.args.self.now in
    let l = item_live w.nodes.items c.args.node c.requires.node in
    let ek : c.col.result ≡ col_at w.nodes.items c.args.node = c.col.ensures ∙ col-read w.nodes.items c.args.node c.index.result.now l c.index.ensures in
    let e : value c.index-2.result.now.value ≡ item w.nodes.items c.args.node = item-read w.nodes.items c.args.node c.index-2.result.now l c.index-2.ensures in
    let ft : SFits w128 c.args.times = c.ranges.times in
    let fp : SFits w128 c.product.result = small_fits c.product.result (let p = c.product.ensures.small in omega arith) in
    let v : value c.whole-entry.result ≡ item w.nodes.items c.args.node *ℚ of_ℤ c.args.times = (let p : value c.whole-entry.result ≡ of_ℤ c.product.result = (simp to_z-of_z at c.whole-entry.ensures) in let q : of_ℤ c.product.result ≡ value c.index-2.result.now.value *ℚ of_ℤ c.args.times = (simp to_z-of_z at c.product.ensures.value) in p ∙ q ∙ ap (λ x. x *ℚ of_ℤ c.args.times) e) in
    subst (λ x. IsPut w.nodes.items c.set.new.self.nodes.items i k x) v (c.set.ensures.entry i k s)

pub returns-clause-small : goal.returns-clause-small
returns-clause-small c t le =
    let w = c.args.self.now in
    let l = item_live w.nodes.items c.args.node c.requires.node in
    let ek : c.col.result ≡ col_at w.nodes.items c.args.node = c.col.ensures ∙ col-read w.nodes.items c.args.node c.index.result.now l c.index.ensures in
    let e : value c.index-2.result.now.value ≡ item w.nodes.items c.args.node = item-read w.nodes.items c.args.node c.index-2.result.now l c.index-2.ensures in
    let ft : SFits w128 c.args.times = c.ranges.times in
    let fp : SFits w128 c.product.result = small_fits c.product.result (let p = c.product.ensures.small in omega arith) in
    let v : value c.whole-entry.result ≡ item w.nodes.items c.args.node *ℚ of_ℤ c.args.times = (let p : value c.whole-entry.result ≡ of_ℤ c.product.result = (simp to_z-of_z at c.whole-entry.ensures) in let q : of_ℤ c.product.result ≡ value c.index-2.result.now.value *ℚ of_ℤ c.args.times = (simp to_z-of_z at c.product.ensures.value) in p ∙ q ∙ ap (λ x. x *ℚ of_ℤ c.args.times) e) in
    subst (IsWhole 41) v (c.stays_small.ensures.here t)
