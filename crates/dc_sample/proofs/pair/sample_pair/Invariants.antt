use Rattle.std.proofs.Common.{◌≡◌, ◌≤◌, ◌+◌, ◌-◌, ◌*◌}
use Rattle.std.specs.String.{string_bytes}
use Rattle.dc_sample.specs.Sample.{number_at, new_costs, old_costs}
use Rattle.dc_sample.proofs.Blocks.{IsBegun}
use Rattle.dc_sample.proofs.pair.sample_pair.Given as goal

abbrev pub invariant-loop-block : goal.invariant-loop-block
invariant-loop-block l = record {
  small : l.number ≤ 2147483647;
  number : l.number ≡ number_at l.seed (2 * l._block);
  new : IsBegun l.seed (2 * l._block + 1) (l.count - l._block) (string_bytes l.new_text) (new_costs l.seed l.count);
  old : IsBegun l.seed (2 * l._block + 2) (l.count - l._block) (string_bytes l.old_text) (old_costs l.seed l.count);
}
