use Rattle.std.proofs.Common.{◌+◌, ◌-◌, ◌*◌, ap, ◌∙◌, arith}
use Rattle.std.specs.String.{string_bytes}
use Rattle.dc_sample.specs.Sample.{number_at, cost_of, new_costs, old_costs}
use Rattle.dc_sample.proofs.Blocks.{onward, longer}
use Rattle.dc_sample.proofs.pair.sample_pair.Goals as goal

pub loop-block-preserved : goal.loop-block-preserved
loop-block-preserved c =
    let seed = c.args.seed in
    let k = c.loop-block._block in
    let i = c.loop-block.invariant in
    let first = onward seed (2 * k) (2 * k + 1) _ _ (omega arith) i.number c.advance-number.ensures.next in
    let second = onward seed (2 * k + 1) (2 * k + 2) _ _ (omega arith) first c.advance-number-in-loop-block.ensures.next in
    record {
      small = c.advance-number-in-loop-block.ensures.small;
      number = second ∙ ap (number_at seed) (omega arith);
      new = longer seed (2 * k + 1) (2 * (k + 1) + 1) (c.args.count - k) (c.args.count - (k + 1)) c.cost.result (string_bytes c.loop-block.new_text) (string_bytes c.put_block.new.out) (new_costs seed c.args.count)
          (omega arith) (omega (arith, c.loop-block-test.true)) (c.cost.ensures ∙ ap cost_of first) c.in_ok-put_block.ensures i.new;
      old = longer seed (2 * k + 2) (2 * (k + 1) + 2) (c.args.count - k) (c.args.count - (k + 1)) c.cost-in-loop-block.result (string_bytes c.loop-block.old_text) (string_bytes c.put_block-in-loop-block.new.out) (old_costs seed c.args.count)
          (omega arith) (omega (arith, c.loop-block-test.true)) (c.cost-in-loop-block.ensures ∙ ap cost_of second) c.in_ok-put_block-2.ensures i.old;
    }
