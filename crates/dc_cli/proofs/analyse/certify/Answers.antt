use Rattle.dc_sparse.specs.Meanings.{cross_meaning}
use Rattle.dc_cli.proofs.Commands.{is_input, told, in_ranges, is_halted}
use Rattle.dc_cli.proofs.analyse.certify.Goals as goal

pub analyse_on-requires : goal.analyse_on-requires
analyse_on-requires c = record {
  input = is_input c.args.settings.now c.args.v.now.new c.args.v.now.old c.args.v.now.cases c.as_slice-cases.result.now c.as_slice-cases.ensures c.requires.read c.requires.settings;
}

pub returns-in-Ok-clause-ok : goal.returns-in-Ok-clause-ok
returns-in-Ok-clause-ok c =
    told c.args.settings.now c.args.v.now.new c.args.v.now.old c.args.v.now.cases c.as_slice-cases.result.now c.as_slice-cases.ensures
    (cross_meaning c.analyse_on.new.tableau) c.in-Ok.c c.in-Ok.ensures.certificate

pub returns-in-Ok-clause-ranges : goal.returns-in-Ok-clause-ranges
returns-in-Ok-clause-ranges c =
    in_ranges c.args.settings.now c.args.v.now.new c.args.v.now.old c.args.v.now.cases c.as_slice-cases.result.now c.as_slice-cases.ensures
    (cross_meaning c.analyse_on.new.tableau) c.in-Ok.c c.requires.read c.requires.settings c.in-Ok.ensures.certificate

pub returns-in-Err-clause-refused : goal.returns-in-Err-clause-refused
returns-in-Err-clause-refused c =
    is_halted c.args.settings.now c.args.v.now.new c.args.v.now.old c.args.v.now.cases c.as_slice-cases.result.now c.as_slice-cases.ensures
    c.in-Err.fault c.refusal_of.result c.refusal_of.ensures c.in-Err.ensures.fault
