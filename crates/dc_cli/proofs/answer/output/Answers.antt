use Rattle.std.proofs.Common.{map}
use Rattle.std.specs.String.{string_bytes}
use Rattle.dc_sparse.specs.Meanings.{cross_meaning}
use Rattle.dc_words.specs.Reading.{reading_of}
use Rattle.dc_answers.specs.Outside.{visit_of}
use Rattle.dc_cli.proofs.Refused.{in_range}
use Rattle.dc_cli.proofs.Commands.{words_output, words_refused}
use Rattle.dc_cli.proofs.answer.output.Goals as goal

pub answer-requires : goal.answer-requires
answer-requires g c = in_range (map string_bytes c.args.words.now.items) (reading_of c.in-Ok.asked) c.in-Ok.ensures.reading

pub returns-in-Ok-clause-ok : goal.returns-in-Ok-clause-ok
returns-in-Ok-clause-ok g c =
    words_output (visit_of g.S.Store.files g.S.Store.faults g.S.Store.call c.args.store.now c.answer.new.store) (map string_bytes c.args.words.now.items)
    (reading_of c.in-Ok.asked) c.in-Ok.ensures.reading (cross_meaning c.answer.new.tableau) c.answer.result c.answer.ensures.ok

pub returns-in-Ok-clause-refused : goal.returns-in-Ok-clause-refused
returns-in-Ok-clause-refused g c =
    words_refused (visit_of g.S.Store.files g.S.Store.faults g.S.Store.call c.args.store.now c.answer.new.store) (map string_bytes c.args.words.now.items)
    (reading_of c.in-Ok.asked) c.in-Ok.ensures.reading c.answer.result c.answer.ensures.refused
