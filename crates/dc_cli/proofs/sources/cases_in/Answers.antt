use Rattle.std.proofs.Common.{ap, List, ℕ, Bor}
use Rattle.std.specs.Option.{option_map}
use Rattle.dc_cli.proofs.Misreads.{condition_misread}
use Rattle.dc_cli.proofs.sources.cases_in.Goals as goal

pub returns-in-Err-parse_when-clause-refused : goal.returns-in-Err-parse_when-clause-refused
returns-in-Err-parse_when-clause-refused c =
    condition_misread (option_map (λ z. z.now) c.args.when) c.as_bytes.result.now c.in-Some.text.now c.args.p.now c.in-Err-parse_when.fault c.refusal_of.result
    (ap (option_map (λ (z : Bor (List ℕ)). z.now)) c.in-Some.is) c.as_bytes.ensures.value c.in-Err-parse_when.ensures.fault c.refusal_of.ensures
