use Rattle.std.proofs.Common.{◌∙◌, ap, arith, length}
use Rattle.std.proofs.lemmas.List.{take_all}
use Rattle.dc_syntax.specs.declared.tree.Side.TheVariants.{New}
use Rattle.dc_claims.specs.declared.duty.Duty.TheVariants.{Along}
use Rattle.dc_duties.specs.Lent.{lent}
use Rattle.dc_table.specs.Tables.{equations_in}
use Rattle.dc_match.proofs.Counting.{equations_there}
use Rattle.dc_match.proofs.counts.equation_count.Goals as goal

pub block_of-requires-clause-there : goal.block_of-requires-clause-there
block_of-requires-clause-there c = c.requires.there c.loop-duty.duty-index (Along New 0) c.loop-duty-test.true

pub block_of-requires-clause-not_many : goal.block_of-requires-clause-not_many
block_of-requires-clause-not_many c = c.requires.few c.loop-duty.duty-index (Along New 0) c.loop-duty-test.true

pub loop-duty-preserved : goal.loop-duty-preserved
loop-duty-preserved c =
    let a = c.in-Some.ensures in
    let i = c.loop-duty.invariant in
    let m = ap length (c.as_slice.ensures.value ∙ c.in_ok-block.ensures.monos) in
    let e = equations_there (lent c.args.task.now.programs.now) c.args.task.now.degree c.args.task.now.products c.args.duties.now c.loop-duty.duty-index (Along New 0) c.loop-duty-test.true in
    omega arith

pub returns : goal.returns
returns c = c.loop-duty.invariant ∙ ap (λ os. length (equations_in (lent c.args.task.now.programs.now) c.args.task.now.degree c.args.task.now.products os)) (take_all c.loop-duty.duty-index c.args.duties.now c.loop-duty-test.false)
