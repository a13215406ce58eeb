use Rattle.dc_parse.specs.Answers.{SourceOutcome}
use Rattle.dc_answers.specs.Sources.{IsFaultIn}
use Rattle.dc_cli.proofs.Misreads.{faulty}
use Rattle.dc_cli.proofs.sources.program_in.Goals as goal

pub returns-in-Err-clause-refused : goal.returns-in-Err-clause-refused
returns-in-Err-clause-refused c =
    faulty c.args.at c.in-Err.fault c.refusal_of.result (IsFaultIn (SourceOutcome c.args.text.now) c.args.text.now)
    (λ n. record { stated = c.in-Err.ensures.fault; other = n }) c.refusal_of.ensures
