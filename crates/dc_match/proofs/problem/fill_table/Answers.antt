use Rattle.std.proofs.Common.{◌∙◌, refl, ap, subst, arith, length, take, slice_index_or}
use Rattle.dc_syntax.specs.declared.tree.Side.TheVariants.{New}
use Rattle.dc_claims.specs.declared.duty.Duty.TheVariants.{Along}
use Rattle.dc_duties.specs.Lent.{lent}
use Rattle.dc_table.specs.Tables.{IsEmptyTable}
use Rattle.dc_table.proofs.Columns.{table_starts}
use Rattle.dc_table.proofs.Weights.{weighed_starts, weighed_more}
use Rattle.dc_match.proofs.Counting.{both_count}
use Rattle.dc_match.proofs.Filling.{sound, two_each, rows_more, filled_more, too_many_there, all_filled}
use Rattle.dc_match.proofs.problem.fill_table.Goals as goal

pub loop-duty-init : goal.loop-duty-init
loop-duty-init c =
    let e = c.in-Some.ensures in
    let b = both_count (lent c.args.task.now.programs.now) c.args.task.now.degree in
    let u = ap length (c.as_slice-unknowns.ensures.value ∙ c.requires.task.unknowns) in
    record {
      table = table_starts (lent c.args.task.now.programs.now) c.args.task.now.degree c.args.task.now.products c.in_ok-table.table (subst (λ n. IsEmptyTable n c.in_ok-table.table) (omega arith) c.in_ok-table.ensures);
      weighed = weighed_starts c.in-Some.columns c.in_ok-table.table c.in_ok-table.ensures;
      within = omega arith;
    }

pub block_of-requires-clause-there : goal.block_of-requires-clause-there
block_of-requires-clause-there c = c.requires.there c.loop-duty.duty-index (Along New 0) c.loop-duty-test.true

pub block_of-requires-clause-not_many : goal.block_of-requires-clause-not_many
block_of-requires-clause-not_many c = c.requires.few c.loop-duty.duty-index (Along New 0) c.loop-duty-test.true

pub add-requires-clause-sound : goal.add-requires-clause-sound
add-requires-clause-sound c = sound (lent c.args.task.now.programs.now) c.args.task.now.degree c.args.task.now.products (slice_index_or c.args.duties.now c.loop-duty.duty-index (Along New 0)) c.in_ok-block.block c.in_ok-block.ensures

pub add-requires-clause-two_each : goal.add-requires-clause-two_each
add-requires-clause-two_each c = two_each (lent c.args.task.now.programs.now) c.args.task.now.degree c.args.task.now.products (take c.loop-duty.duty-index c.args.duties.now) c.loop-duty.table (slice_index_or c.args.duties.now c.loop-duty.duty-index (Along New 0)) c.in_ok-block.block c.loop-duty.invariant.table c.in_ok-block.ensures

pub add-requires-clause-room : goal.add-requires-clause-room
add-requires-clause-room c =
    let f = c.if-rows-gt-EQUATIONS.false in
    let s = c.in-Some-checked_add.ensures.1 in
    let m = ap length c.as_slice.ensures.value in
    omega arith

pub loop-duty-preserved : goal.loop-duty-preserved
loop-duty-preserved c = record {
  table = filled_more (lent c.args.task.now.programs.now) c.args.task.now.degree c.args.task.now.products c.args.duties.now c.loop-duty.duty-index (slice_index_or c.args.duties.now c.loop-duty.duty-index (Along New 0)) c.loop-duty-test.true (Along New 0) refl c.loop-duty.table c.in_ok-block.block c.add.new.self c.loop-duty.invariant.table c.in_ok-block.ensures c.in_ok-add.ensures;
  weighed = weighed_more (lent c.args.task.now.programs.now) c.args.task.now.degree c.args.task.now.products c.loop-duty.duty-index (slice_index_or c.args.duties.now c.loop-duty.duty-index (Along New 0)) c.in_ok-block.block c.loop-duty.table c.add.new.self c.requires.task.few c.loop-duty.invariant.weighed c.in_ok-block.ensures c.in_ok-add.ensures;
  within =
      let f = c.if-rows-gt-EQUATIONS.false in
      let r = rows_more (lent c.args.task.now.programs.now) c.args.task.now.degree c.args.task.now.products c.args.duties.now c.loop-duty.duty-index (slice_index_or c.args.duties.now c.loop-duty.duty-index (Along New 0)) c.loop-duty-test.true (Along New 0) refl c.loop-duty.table c.in_ok-block.block (length c.as_slice.result.now) c.in-Some-checked_add.rows c.loop-duty.invariant.table c.in_ok-block.ensures (ap length c.as_slice.ensures.value) c.in-Some-checked_add.ensures.1 in
      omega arith;
}

pub returns-clause-ok : goal.returns-clause-ok
returns-clause-ok c = all_filled (lent c.args.task.now.programs.now) c.args.task.now.degree c.args.task.now.products c.args.duties.now c.loop-duty.table c.loop-duty.duty-index c.loop-duty.auto.duty-index-end c.loop-duty-test.false c.loop-duty.invariant.table c.loop-duty.invariant.weighed c.loop-duty.invariant.within

pub returns-then-rows-gt-EQUATIONS-clause-err : goal.returns-then-rows-gt-EQUATIONS-clause-err
returns-then-rows-gt-EQUATIONS-clause-err c =
    too_many_there (lent c.args.task.now.programs.now) c.args.task.now.degree c.args.task.now.products c.args.duties.now c.loop-duty.duty-index (slice_index_or c.args.duties.now c.loop-duty.duty-index (Along New 0)) c.loop-duty-test.true (Along New 0) refl c.in-Some-checked_add.rows c.too_many.result
    (rows_more (lent c.args.task.now.programs.now) c.args.task.now.degree c.args.task.now.products c.args.duties.now c.loop-duty.duty-index (slice_index_or c.args.duties.now c.loop-duty.duty-index (Along New 0)) c.loop-duty-test.true (Along New 0) refl c.loop-duty.table c.in_ok-block.block (length c.as_slice.result.now) c.in-Some-checked_add.rows c.loop-duty.invariant.table c.in_ok-block.ensures (ap length c.as_slice.ensures.value) c.in-Some-checked_add.ensures.1)
    c.if-rows-gt-EQUATIONS.true c.too_many.ensures
