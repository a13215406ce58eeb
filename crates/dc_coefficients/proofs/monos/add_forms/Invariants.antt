use Rattle.std.proofs.Common.{◌≡◌, ◌≤◌, length, drop}
use Rattle.dc_coefficients.specs.Monomials.{with_all, all_terms}
use Rattle.dc_coefficients.proofs.monos.add_forms.Given as goal

abbrev pub invariant-forms : goal.invariant-forms
invariant-forms l = record {
  inside : l.k ≤ length l.forms;
  so_far : l.list.items ≡ with_all (all_terms (drop l.k l.forms)) l.initial.list.items;
}

abbrev pub decreases-forms : goal.decreases-forms
decreases-forms l = l.k
