use Rattle.std.proofs.Common.{subst, sym}
use Rattle.dc_program.specs.Programs.{IsCondition}
use Rattle.dc_answers.specs.Ends.{CertificateEnds}
use Rattle.dc_cli.proofs.Commands.{is_accepted, is_rejected, wants_memory}
use Rattle.dc_cli.proofs.check.judge.Goals as goal

pub check-requires : goal.check-requires
check-requires c = record {
  new = c.requires.read.new_program;
  old = c.requires.read.old_program;
  params = c.requires.read.params;
  condition = subst (IsCondition c.args.v.now.new.params) (sym c.as_slice.ensures) c.requires.read.condition;
  certificate = c.requires.ranges;
}

pub returns-in-Ok-clause-ok : goal.returns-in-Ok-clause-ok
returns-in-Ok-clause-ok c =
    is_accepted c.args.c.now c.args.v.now.new c.args.v.now.old c.args.v.now.cases c.as_slice.result.now c.as_slice.ensures
    c.in-Ok.claim c.acceptance_output.result c.in-Ok.ensures.claim c.acceptance_output.ensures.ok

pub returns-in-Ok-clause-refused : goal.returns-in-Ok-clause-refused
returns-in-Ok-clause-refused c =
    wants_memory (CertificateEnds c.args.c.now c.args.v.now.new c.args.v.now.old c.args.v.now.cases) c.acceptance_output.result c.acceptance_output.ensures.refused

pub returns-in-Err-clause-refused : goal.returns-in-Err-clause-refused
returns-in-Err-clause-refused c =
    is_rejected c.args.c.now c.args.v.now.new c.args.v.now.old c.args.v.now.cases c.as_slice.result.now c.as_slice.ensures
    c.in-Err.fault c.refusal_of.result c.refusal_of.ensures c.in-Err.ensures.fault
