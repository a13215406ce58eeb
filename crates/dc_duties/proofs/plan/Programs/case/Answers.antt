use Rattle.std.proofs.Common.{◌∙◌, sym, subst, length, [], ◌≤◌}
use Rattle.std.proofs.lemmas.List.{get_or_default}
use Rattle.dc_duties.proofs.Sides.{few_case}
use Rattle.dc_duties.proofs.plan.Programs.case.Goals as goal

pub returns-clause-atoms : goal.returns-clause-atoms
returns-clause-atoms c = c.as_slice.ensures ∙ get_or_default c.args.self.now.cases.now c.args.number c.index-self-number.result [] c.requires.there

pub returns-clause-few : goal.returns-clause-few
returns-clause-few c =
    subst (λ gs. length gs ≤ 256) (sym (c.as_slice.ensures ∙ get_or_default c.args.self.now.cases.now c.args.number c.index-self-number.result [] c.requires.there))
    (few_case c.args.self.now c.requires.pair c.args.number)
