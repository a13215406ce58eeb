use Rattle.std.proofs.Common.{◌≡◌, ◌≤◌, length, drop}
use Rattle.dc_coefficients.specs.Monomials.{with_monos}
use Rattle.dc_coefficients.proofs.monos.add_terms.Given as goal

abbrev pub invariant-terms : goal.invariant-terms
invariant-terms l = record {
  inside : l.k ≤ length l.terms;
  so_far : l.list.items ≡ with_monos (drop l.k l.terms) l.initial.list.items;
}

abbrev pub decreases-terms : goal.decreases-terms
decreases-terms l = l.k
