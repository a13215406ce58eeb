use Rattle.std.proofs.Common.{◌≡◌, ◌∙◌, sym, ap, true, arith, rules, IsTrue, length, ◌*◌, ◌+◌, ◌<◌}
use Rattle.dc_math.specs.Rational.{ℚ}
use Rattle.dc_frac.specs.Value.{value}
use Rattle.dc_dense.specs.Flat.{item, divisions_fit, IsDivided}
use Rattle.dc_dense.proofs.Indices.{index_below}
use Rattle.dc_dense.proofs.Flats.{item-is, items_fit-divided, pivoted_item-divided}
use Rattle.dc_dense.proofs.pivot.pivot_items.Goals as goal

pub returns-then-divide-clause-fits : goal.returns-then-divide-clause-fits
returns-then-divide-clause-fits c =
    let a = c.args in
    let q : a.row * a.width + a.col < length a.items.now = (let e : a.row * a.width + a.col < a.height * a.width = index_below a.row a.col a.height a.width c.requires.row c.requires.column in omega arith) in
    let by : value c.index-items-row.result ≡ item a.items.now (a.row * a.width + a.col) = item-is a.items.now (a.row * a.width + a.col) c.index-items-row.result q c.index-items-row.is in
    let yes : IsTrue c.divide.result = search rules in
    let d : IsDivided a.items.now c.divide.new.items (a.row * a.width) a.width (item a.items.now (a.row * a.width + a.col)) = rw by at (c.divide.ensures.divided yes) in
    let fit : divisions_fit a.items.now (a.row * a.width) (item a.items.now (a.row * a.width + a.col)) a.width ≡ true = sym (ap (λ (z : ℚ). divisions_fit a.items.now (a.row * a.width) z a.width) by) ∙ sym c.divide.ensures.fits ∙ c.if-divide.true in
    c.reduce_rows.ensures.fits ∙ items_fit-divided a.items.now c.divide.new.items a.width a.height a.row a.col c.requires.row c.requires.column d c.divide.ensures.others fit

pub returns-then-divide-clause-pivoted : goal.returns-then-divide-clause-pivoted
returns-then-divide-clause-pivoted c yes' =
    let a = c.args in
    let q : a.row * a.width + a.col < length a.items.now = (let e : a.row * a.width + a.col < a.height * a.width = index_below a.row a.col a.height a.width c.requires.row c.requires.column in omega arith) in
    let by : value c.index-items-row.result ≡ item a.items.now (a.row * a.width + a.col) = item-is a.items.now (a.row * a.width + a.col) c.index-items-row.result q c.index-items-row.is in
    let yes : IsTrue c.divide.result = search rules in
    let d : IsDivided a.items.now c.divide.new.items (a.row * a.width) a.width (item a.items.now (a.row * a.width + a.col)) = rw by at (c.divide.ensures.divided yes) in
    record {
      long = search rules;
      each = λ i k li lk. c.reduce_rows.ensures.reduced yes' i li k lk
          ∙ pivoted_item-divided a.items.now c.divide.new.items a.width a.height a.row a.col c.requires.row c.requires.column d c.divide.ensures.others c.requires.nonzero i k li lk;
    }
