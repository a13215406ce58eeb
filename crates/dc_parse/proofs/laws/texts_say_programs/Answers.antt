use Rattle.dc_parse.proofs.Said.{source_is_program, condition_is}
use Rattle.dc_parse.proofs.laws.texts_say_programs.Goals as goal

pub returns-clause-programs : goal.returns-clause-programs
returns-clause-programs c = source_is_program c.args.text.now

pub returns-clause-conditions : goal.returns-clause-conditions
returns-clause-conditions c = λ names cases o. condition_is names c.args.text.now cases o
