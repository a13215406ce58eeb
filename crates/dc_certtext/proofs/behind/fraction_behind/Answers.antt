use Rattle.dc_certtext.proofs.Afterword.{no_fraction_behind}
use Rattle.dc_certtext.proofs.behind.fraction_behind.Goals as goal

pub returns-in_default-fraction : goal.returns-in_default-fraction
returns-in_default-fraction c = no_fraction_behind c.args.word.now c.args.line.now c.in-Some.rest.now c.in-Some.ensures c.in_default-fraction.ensures
