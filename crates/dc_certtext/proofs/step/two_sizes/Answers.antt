use Rattle.std.proofs.Common.{inl, inr}
use Rattle.dc_certtext.proofs.Sized.{no_degree, high_degree, no_products, far_products, sizes_are}
use Rattle.dc_certtext.proofs.step.two_sizes.Goals as goal

pub returns-in_default-natural : goal.returns-in_default-natural
returns-in_default-natural c = no_degree c.args.line.now c.in-Some.rest.now c.cut.result.0.now c.cut.result.1.now c.in-Some.ensures c.cut.ensures.front c.cut.ensures.rest c.in_default-natural.ensures

pub returns-then-degree-gt-MOST_DEGREE : goal.returns-then-degree-gt-MOST_DEGREE
returns-then-degree-gt-MOST_DEGREE c = high_degree c.args.line.now c.in-Some.rest.now c.cut.result.0.now c.cut.result.1.now c.in-Some-natural.degree c.in-Some.ensures c.cut.ensures.front c.cut.ensures.rest c.in-Some-natural.ensures.0 c.in-Some-natural.ensures.1 c.if-degree-gt-MOST_DEGREE.true

pub returns-in_default-number_behind : goal.returns-in_default-number_behind
returns-in_default-number_behind c = no_products c.args.line.now c.in-Some.rest.now c.cut.result.0.now c.cut.result.1.now c.in-Some.ensures c.cut.ensures.front c.cut.ensures.rest c.in_default-number_behind.ensures

pub returns-then-products-lt1 : goal.returns-then-products-lt1
returns-then-products-lt1 c = far_products c.args.line.now c.in-Some.rest.now c.cut.result.0.now c.cut.result.1.now c.in-Some-number_behind.products c.in-Some.ensures c.cut.ensures.front c.cut.ensures.rest c.in-Some-number_behind.ensures.0 c.in-Some-number_behind.ensures.1 (inl c.if-products-lt1.true)

pub returns-then-products-gt-MOST_FACTORS : goal.returns-then-products-gt-MOST_FACTORS
returns-then-products-gt-MOST_FACTORS c = far_products c.args.line.now c.in-Some.rest.now c.cut.result.0.now c.cut.result.1.now c.in-Some-number_behind.products c.in-Some.ensures c.cut.ensures.front c.cut.ensures.rest c.in-Some-number_behind.ensures.0 c.in-Some-number_behind.ensures.1 (inr c.if-products-gt-MOST_FACTORS.true)

pub returns : goal.returns
returns c =
    (c.if-degree-gt-MOST_DEGREE.false, c.if-products-lt1.false, c.if-products-gt-MOST_FACTORS.false, sizes_are c.args.line.now c.in-Some.rest.now c.cut.result.0.now c.cut.result.1.now c.in-Some-natural.degree c.in-Some-number_behind.products c.in-Some.ensures c.cut.ensures.front c.cut.ensures.rest c.in-Some-natural.ensures.1 c.in-Some-number_behind.ensures.1)
