use Rattle.std.proofs.Common.{◌≡◌, ℕ, ◌<◌, length, take, slice_index_or, pos}
use Rattle.dc_math.specs.Rational.{of_ℤ}
use Rattle.dc_frac.specs.declared.Frac.{Frac}
use Rattle.dc_frac.specs.Value.{value}
use Rattle.dc_cert.specs.Vectors.{entry_of}
use Rattle.dc_cert.proofs.sparse.dense_of.Given as goal

abbrev pub invariant-loop-k : goal.invariant-loop-k
invariant-loop-k l = record { count : length l.list.items ≡ l._k; zero : (j : ℕ) (d : Frac) → j < l._k → value (slice_index_or l.list.items j d) ≡ of_ℤ (pos 0) }

abbrev pub invariant-loop-item : goal.invariant-loop-item
invariant-loop-item l = record { count : length l.list.items ≡ l.len; entries : (j : ℕ) (d : Frac) → j < l.len → value (slice_index_or l.list.items j d) ≡ entry_of (take l.item-index l.item-items) j }
