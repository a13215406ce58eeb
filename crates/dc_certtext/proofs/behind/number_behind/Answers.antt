use Rattle.dc_certtext.proofs.Afterword.{no_number_behind}
use Rattle.dc_certtext.proofs.behind.number_behind.Goals as goal

pub returns-in_default-natural : goal.returns-in_default-natural
returns-in_default-natural c = no_number_behind c.args.word.now c.args.line.now c.in-Some.rest.now c.in-Some.ensures c.in_default-natural.ensures
