use Rattle.std.proofs.Common.{length, ◌-◌, ◌≡◌, ◌≤◌, take}
use Rattle.dc_host.specs.Outside.{appended}
use Rattle.dc_host.proofs.sink.put_all.Given as goal

abbrev pub invariant-loop-at : goal.invariant-loop-at
invariant-loop-at g l =
    record {
      within : l.at ≤ length l.bytes;
      taken : g.O.Sink.written l.sink ≡ appended (g.O.Sink.written l.initial.sink) (take l.at l.bytes);
      later : g.O.Sink.faults l.initial.sink ≤ g.O.Sink.faults l.sink;
    }

abbrev pub decreases-loop-at : goal.decreases-loop-at
decreases-loop-at g l = length l.bytes - l.at
