use Rattle.std.proofs.Common.{◌≡◌, ◌+◌, ◌*◌, ◌≤◌, drop}
use Rattle.dc_poly.specs.Terms.{degree}
use Rattle.dc_poly.proofs.monomial.Mono.degree.Given as goal

abbrev pub invariant-loop-e : goal.invariant-loop-e
invariant-loop-e l = record {
  so_far : l.total + degree (drop l.e-index l.e-items) ≡ degree l.e-items;
  small : l.total ≤ 255 * l.e-index;
}
