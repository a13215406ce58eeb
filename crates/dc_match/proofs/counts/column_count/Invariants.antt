use Rattle.std.proofs.Common.{◌≡◌, ◌≤◌, ◌+◌, ◌*◌, take, length}
use Rattle.std.specs.Prelude.{sum_by}
use Rattle.dc_claims.specs.Claims.{products_count}
use Rattle.dc_claims.specs.Parts.{unknowns_of}
use Rattle.dc_duties.specs.Lent.{lent}
use Rattle.dc_match.proofs.counts.column_count.Given as goal

abbrev pub invariant-loop-duty : goal.invariant-loop-duty
invariant-loop-duty l = record {
  sum : l.count ≡ 2 * length (unknowns_of (lent l.programs) l.degree) + sum_by (products_count (lent l.programs) l.products) (take l.duty-index l.duties);
  small : l.count ≤ 2 * (1 + 128 * 8192 + 128 * 8192) + l.duty-index * 8627738651;
}
