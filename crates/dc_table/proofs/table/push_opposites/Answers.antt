use Rattle.std.proofs.Common.{ap, sym, subst}
use Rattle.std.specs.List.{AllByRecursion}
use Rattle.dc_math.specs.Members.{Among}
use Rattle.dc_poly.specs.declared.monomial.Term.{Term}
use Rattle.dc_poly.specs.Terms.{Polynomial}
use Rattle.dc_table.specs.Tables.{AreListed}
use Rattle.dc_table.proofs.Extending.{listed_negated}
use Rattle.dc_table.proofs.table.push_opposites.Goals as goal

pub push_entries-requires-clause-listed : goal.push_entries-requires-clause-listed
push_entries-requires-clause-listed c =
    subst (AllByRecursion (λ (t : Term). Among t.mono c.args.monos.now)) (sym (ap (λ (q : Polynomial). q.terms) c.in_ok-minus.ensures.negation)) (listed_negated c.args.monos.now c.args.form.now.terms c.requires.listed)
