use Rattle.std.proofs.Common.{◌∙◌, ap, sym, subst, length, [], ◌<◌, ◌≤◌}
use Rattle.std.proofs.lemmas.List.{get_or_default}
use Rattle.dc_duties.proofs.Sides.{one_each, atoms_are, few_atoms}
use Rattle.dc_duties.proofs.plan.Programs.atoms.Goals as goal

pub bounds-plan-location : goal.bounds-plan-location
bounds-plan-location c = subst (λ n. c.args.location < n) (sym (one_each c.args.self.now c.requires.pair c.args.side c.plan-plan.result.now c.plan-plan.ensures)) c.requires.there

pub returns-clause-atoms : goal.returns-clause-atoms
returns-clause-atoms c =
    c.as_slice.ensures
    ∙ get_or_default c.plan-plan.result.now.families.now c.args.location c.index-plan-location.result []
    (subst (λ n. c.args.location < n) (sym (one_each c.args.self.now c.requires.pair c.args.side c.plan-plan.result.now c.plan-plan.ensures)) c.requires.there)
    ∙ atoms_are c.args.self.now c.args.side c.plan-plan.result.now c.args.location c.plan-plan.ensures

pub returns-clause-few : goal.returns-clause-few
returns-clause-few c =
    subst (λ gs. length gs ≤ 1024)
    (sym (c.as_slice.ensures
    ∙ get_or_default c.plan-plan.result.now.families.now c.args.location c.index-plan-location.result []
    (subst (λ n. c.args.location < n) (sym (one_each c.args.self.now c.requires.pair c.args.side c.plan-plan.result.now c.plan-plan.ensures)) c.requires.there)
    ∙ atoms_are c.args.self.now c.args.side c.plan-plan.result.now c.args.location c.plan-plan.ensures))
    (few_atoms c.args.self.now c.requires.pair c.args.side c.args.location)
