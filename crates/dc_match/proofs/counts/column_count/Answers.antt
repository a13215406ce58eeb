use Rattle.std.proofs.Common.{◌∙◌, ap, arith, ◌+◌, ◌*◌, length, length-append, slice_index_or}
use Rattle.std.specs.Prelude.{sum_by}
use Rattle.std.proofs.lemmas.List.{take_all}
use Rattle.dc_syntax.specs.declared.tree.Side.TheVariants.{New, Old}
use Rattle.dc_claims.specs.Claims.{products_count}
use Rattle.dc_claims.specs.declared.duty.Duty.TheVariants.{Along}
use Rattle.dc_claims.specs.Parts.{unknowns_on, unknowns_of}
use Rattle.dc_duties.specs.Lent.{lent}
use Rattle.dc_match.proofs.Counting.{sum_there, product_count_small}
use Rattle.dc_match.proofs.counts.column_count.Goals as goal

pub loop-duty-init : goal.loop-duty-init
loop-duty-init c =
    let a = c.coefficient_count-new.ensures.count in
    let b = c.coefficient_count-old.ensures.count in
    let m = c.coefficient_count-new.ensures.small in
    let n = c.coefficient_count-old.ensures.small in
    let e = length-append (unknowns_on (lent c.args.programs.now) c.args.degree New) (unknowns_on (lent c.args.programs.now) c.args.degree Old) in
    record { sum = omega arith; small = omega arith }

pub duty_product_count-count-requires-clause-there : goal.duty_product_count-count-requires-clause-there
duty_product_count-count-requires-clause-there c = c.requires.there c.loop-duty.duty-index (Along New 0) c.loop-duty-test.true

pub overflow_add-count : goal.overflow_add-count
overflow_add-count c = let m = c.coefficient_count-new.ensures.small in omega arith

pub overflow_add-count-in-loop-duty : goal.overflow_add-count-in-loop-duty
overflow_add-count-in-loop-duty c =
    let o = slice_index_or c.args.duties.now c.loop-duty.duty-index (Along New 0) in
    let f = product_count_small c.args.programs.now c.requires.pair c.args.products o c.duty_product_count-count.result (c.requires.there c.loop-duty.duty-index (Along New 0) c.loop-duty-test.true) c.requires.few c.duty_product_count-count.ensures in
    let s = c.loop-duty.invariant.small in
    let t = c.loop-duty-test.true in
    let n = c.requires.not_many in
    omega arith

pub loop-duty-preserved : goal.loop-duty-preserved
loop-duty-preserved c =
    let o = slice_index_or c.args.duties.now c.loop-duty.duty-index (Along New 0) in
    let f = product_count_small c.args.programs.now c.requires.pair c.args.products o c.duty_product_count-count.result (c.requires.there c.loop-duty.duty-index (Along New 0) c.loop-duty-test.true) c.requires.few c.duty_product_count-count.ensures in
    let s = c.loop-duty.invariant.small in
    let t = c.loop-duty.invariant.sum in
    let a = c.duty_product_count-count.ensures in
    let e = sum_there (products_count (lent c.args.programs.now) c.args.products) c.args.duties.now c.loop-duty.duty-index (Along New 0) c.loop-duty-test.true in
    record { sum = omega arith; small = omega arith }

pub returns : goal.returns
returns c = c.loop-duty.invariant.sum ∙ ap (λ os. 2 * length (unknowns_of (lent c.args.programs.now) c.args.degree) + sum_by (products_count (lent c.args.programs.now) c.args.products) os) (take_all c.loop-duty.duty-index c.args.duties.now c.loop-duty-test.false)
