use Rattle.dc_parse.proofs.Said.{hold_where_true}
use Rattle.dc_parse.proofs.laws.cases_hold_where_the_condition_is_true.Goals as goal

pub returns : goal.returns
returns c = λ names cases o. hold_where_true names c.args.text.now cases o
