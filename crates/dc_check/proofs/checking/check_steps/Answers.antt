use Rattle.dc_check.proofs.Fitting.{condition_cases, is_fit}
use Rattle.dc_check.proofs.Checked.{family_fault, families_hold, width_fault, few_unknowns, room, claim_fault, claims_hold}
use Rattle.dc_check.proofs.checking.check_steps.Goals as goal

pub family_failure-requires-clause-cases : goal.family_failure-requires-clause-cases
family_failure-requires-clause-cases c = condition_cases c.args.new.now.params c.args.cases.now c.requires.condition.short c.requires.condition.atoms

pub returns-in-Some-clause-fault : goal.returns-in-Some-clause-fault
returns-in-Some-clause-fault c = family_fault c.args.new.now c.args.old.now c.args.cases.now c.args.c.now c.in-Some.step c.in_ok-families.families c.raise.result c.in-Some.is c.in_ok-families.ensures c.raise.ensures

pub main_problem_of-requires : goal.main_problem_of-requires
main_problem_of-requires c = record {
  fit = is_fit c.args.new.now c.args.old.now c.args.cases.now c.args.c.now c.requires.new c.requires.old c.requires.params c.requires.condition c.requires.certificate
      (families_hold c.args.new.now c.args.old.now c.args.cases.now c.args.c.now c.in_ok-families.families c.in_default.is c.in_ok-families.ensures);
}

pub returns-in-Err-clause-fault : goal.returns-in-Err-clause-fault
returns-in-Err-clause-fault c =
    width_fault c.args.new.now c.args.old.now c.args.cases.now c.args.c.now c.in-Err.fault
    (families_hold c.args.new.now c.args.old.now c.args.cases.now c.args.c.now c.in_ok-families.families c.in_default.is c.in_ok-families.ensures) c.in-Err.ensures.fault

pub unknown_count-unknowns-requires-clause-room : goal.unknown_count-unknowns-requires-clause-room
unknown_count-unknowns-requires-clause-room c = few_unknowns c.args.new.now c.args.old.now c.args.cases.now c.args.c.now c.in-Ok.found 0 c.in-Ok.ensures.problem c.in-Ok.ensures.within

pub main_failure-requires-clause-room : goal.main_failure-requires-clause-room
main_failure-requires-clause-room c =
    room c.args.new.now c.args.old.now c.args.cases.now c.args.c.now c.in-Ok.found c.unknown_count-unknowns.result c.in-Ok.ensures.problem c.in-Ok.ensures.within c.unknown_count-unknowns.ensures

pub returns-in-Some-claims-clause-fault : goal.returns-in-Some-claims-clause-fault
returns-in-Some-claims-clause-fault c =
    claim_fault c.args.new.now c.args.old.now c.args.cases.now c.args.c.now c.in-Ok.found c.unknown_count-unknowns.result c.in-Ok.ensures.problem c.in-Ok.ensures.within c.unknown_count-unknowns.ensures
    c.in_ok-claims.claims c.in_ok-claims.ensures (families_hold c.args.new.now c.args.old.now c.args.cases.now c.args.c.now c.in_ok-families.families c.in_default.is c.in_ok-families.ensures)
    c.in-Some-claims.step c.raise-in-Some-claims.result c.in-Some-claims.is c.raise-in-Some-claims.ensures

pub returns-clause-ready : goal.returns-clause-ready
returns-clause-ready c = record {
  families = families_hold c.args.new.now c.args.old.now c.args.cases.now c.args.c.now c.in_ok-families.families c.in_default.is c.in_ok-families.ensures;
  size = c.in-Ok.ensures.within;
}

pub returns-clause-claims : goal.returns-clause-claims
returns-clause-claims c =
    claims_hold c.args.new.now c.args.old.now c.args.cases.now c.args.c.now c.in-Ok.found c.unknown_count-unknowns.result c.in-Ok.ensures.problem c.in-Ok.ensures.within c.unknown_count-unknowns.ensures
    c.in_ok-claims.claims c.in_ok-claims.ensures c.in_default-claims.is
