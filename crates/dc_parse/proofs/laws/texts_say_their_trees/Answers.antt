use Rattle.std.proofs.Common.{sym}
use Rattle.dc_descent.specs.Sources.{parts_of}
use Rattle.dc_parse.specs.Outcomes.{tree}
use Rattle.dc_parse.proofs.Assembled.{judged_says}
use Rattle.dc_parse.proofs.laws.texts_say_their_trees.Goals as goal

pub returns : goal.returns
returns c ts a l t d s n f = tree l ts t a (d, s) (sym (judged_says c.args.text.now (parts_of a) n f))
