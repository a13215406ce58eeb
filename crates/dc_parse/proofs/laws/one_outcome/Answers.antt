use Rattle.dc_grammar.specs.Language.{source, cond}
use Rattle.dc_parse.specs.Judges.{judge_source, judge_condition}
use Rattle.dc_parse.proofs.Judged.{has_one_outcome}
use Rattle.dc_parse.proofs.laws.one_outcome.Goals as goal

pub returns : goal.returns
returns c = record {
  sources = has_one_outcome source (judge_source c.args.text.now) c.args.text.now;
  conditions = λ names. has_one_outcome cond (judge_condition names c.args.text.now) c.args.text.now;
}
