use Rattle.std.proofs.Common.{◌∙◌, pos, ap, sym, subst, refl, inl, inr}
use Rattle.std.proofs.lemmas.Bool.{cases_Bool}
use Rattle.dc_math.specs.Rational.{of_ℤ}
use Rattle.dc_math.specs.Inverse.{◌/ℚ◌}
use Rattle.dc_math.specs.Order.{one_nonzero}
use Rattle.dc_math.specs.Tests.{is_zero}
use Rattle.dc_sparse.specs.declared.scaled.Scaled.{Scaled}
use Rattle.dc_sparse.specs.Entries.{entry_at}
use Rattle.dc_sparse.specs.Held.{KeepsEntries}
use Rattle.dc_sparse.proofs.Wholes.{zero_test, by_one}
use Rattle.dc_sparse.proofs.HeldEntries.{held-none, others_same}
use Rattle.dc_sparse.proofs.scaled.Scaled.gather.Goals as goal

pub take-taken-requires-clause-by : goal.take-taken-requires-clause-by
take-taken-requires-clause-by c = ap is_zero c.whole.ensures ∙ zero_test (of_ℤ (pos 1)) one_nonzero

pub returns-in-Some : goal.returns-in-Some
returns-in-Some c =
    let s = c.args.self.now in
    elim (cases_Bool c.take-taken.result) [
      | inl e ↦
          (let t = c.take-taken.ensures.taken e in
          record {
            here = λ k. t.here k ∙ ap (λ x. entry_at s.web.nodes.items c.args.row k /ℚ x) c.whole.ensures ∙ by_one (entry_at s.web.nodes.items c.args.row k) ∙ sym (held-none s c.args.row k c.requires.den);
            others = t.others;
          })
      | inr e ↦ subst (λ (t : Scaled). KeepsEntries s t c.args.row) (sym (c.take-taken.ensures.refused e)) (record { here = λ k. refl; others = others_same s c.args.row })
    ]
