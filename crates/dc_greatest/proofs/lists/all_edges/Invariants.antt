use Rattle.std.specs.Prelude.{◌≡◌, ℕ, ◌<◌, true}
use Rattle.dc_worklist.specs.Listed.{is_listed}
use Rattle.dc_greatest.proofs.lists.all_edges.Given as goal

abbrev pub invariant-loop-k : goal.invariant-loop-k
invariant-loop-k l = (l.work.edges ≡ l.edges) × ((i : ℕ) → i < l.k → is_listed i l.work.numbers ≡ true)
