use Rattle.std.proofs.Common.{◌∙◌, ap, sym, ◌++◌, ◌∷◌, []}
use Rattle.std.proofs.Common.{Vec, Global}
use Rattle.std.proofs.lemmas.Bool.{false≢true}
use Rattle.dc_lp.specs.declared.Entry.{Entry}
use Rattle.dc_poly.specs.declared.monomial.Term.{Term}
use Rattle.dc_coefficients.proofs.Walks.{step_hits, step_misses, step_ended}
use Rattle.dc_coefficients.proofs.entries.push_entries.Goals as goal
use Rattle.dc_coefficients.proofs.entries.push_entries.Goals.{then-next-terms+then-is_same+in_ok-push, else-next-terms, else-next-terms-via-then-next-terms+else-is_same, else-next-terms-via-else-next-terms}

pub loop-i-preserved : goal.loop-i-preserved
loop-i-preserved c =
    elim c.if-next-terms.branch [
      | then-next-terms+then-is_same+in_ok-push w ↦ step_hits c.args.form.now.terms c.args.monos.now c.args.row c.loop-i.i c.loop-i.next c.args.column.now.items c.loop-i.column.items c.loop-i.invariant c.index-monos-i.result c.loop-i-test.true c.index-monos-i.is c.if-next-terms.next c.if-next-terms.column.items
          c.terms-terms.result.now c.terms-terms.ensures.terms w.if-next-terms.true w.index-terms-next.result w.index-terms-next-then-is_same.result w.index-terms-next.is w.index-terms-next-then-is_same.is (ap (λ (t : Term). t.mono) w.index-terms-next.is ∙ w.is_same.ensures.0 w.if-is_same.true) w.next-is (ap (λ (v : Vec Entry Global). v.items) w.column-is ∙ w.in_ok-push.ensures.items
          ∙ ap (λ (e : Entry). c.loop-i.column.items ++ e ∷ []) w.coefficient_entry.ensures)
      | else-next-terms w ↦ elim w.else-next-terms.branch [
        | else-next-terms-via-then-next-terms+else-is_same w' ↦ step_misses c.args.form.now.terms c.args.monos.now c.args.row c.loop-i.i c.loop-i.next c.args.column.now.items c.loop-i.column.items c.loop-i.invariant c.index-monos-i.result c.loop-i-test.true c.index-monos-i.is c.if-next-terms.next c.if-next-terms.column.items
            c.terms-terms.result.now c.terms-terms.ensures.terms w'.if-next-terms.true w'.index-terms-next.result w'.index-terms-next.is (λ e. false≢true (w'.if-is_same.ensures.1 (sym (ap (λ (t : Term). t.mono) w'.index-terms-next.is) ∙ e))) w.next-is (ap (λ (v : Vec Entry Global). v.items) w.column-is)
        | else-next-terms-via-else-next-terms w' ↦ step_ended c.args.form.now.terms c.args.monos.now c.args.row c.loop-i.i c.loop-i.next c.args.column.now.items c.loop-i.column.items c.loop-i.invariant c.index-monos-i.result c.loop-i-test.true c.index-monos-i.is c.if-next-terms.next c.if-next-terms.column.items
            c.terms-terms.result.now c.terms-terms.ensures.terms w'.if-next-terms.false w.next-is (ap (λ (v : Vec Entry Global). v.items) w.column-is)
      ]
    ]
