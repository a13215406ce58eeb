use Rattle.std.proofs.Common.{length, inr, refl}
use Rattle.dc_grammar.specs.Language as lang
use Rattle.dc_grammar.specs.Reading.{ok, fail}
use Rattle.dc_grammar.specs.Verdicts.{unclosed}
use Rattle.dc_descent.proofs.Rules.{no_longer, fails}
use Rattle.dc_descent.proofs.whole.read_source.Goals as goal

pub fault_at-requires-clause-few : goal.fault_at-requires-clause-few
fault_at-requires-clause-few c = no_longer c.in-Ok.ensures.1

pub fault_at-requires-in-Err-Syntax-clause-few : goal.fault_at-requires-in-Err-Syntax-clause-few
fault_at-requires-in-Err-Syntax-clause-few c = no_longer (fails c.in-Err-Syntax.ensures c.in-Err-Syntax.field-0-is)

pub returns-in-Some : goal.returns-in-Some
returns-in-Some c =
    let e : _ = c.in-Some.ensures lang.source (ok c.in-Ok.ensures.0 c.procedure.new.cursor.rest.now) c.in-Ok.ensures.1 refl in
    inr (e.0, e.1, e.2 (length c.args.text.now))

pub returns-in-None : goal.returns-in-None
returns-in-None c = (c.in-Ok.ensures.0, c.in-None.ensures lang.source (ok c.in-Ok.ensures.0 c.procedure.new.cursor.rest.now) c.in-Ok.ensures.1 refl, c.in-Ok.ensures.2)

pub returns-in-Some-fault_at : goal.returns-in-Some-fault_at
returns-in-Some-fault_at c =
    let e : _ = c.in-Some-fault_at.ensures lang.source (fail c.procedure.new.cursor.rest.now) (fails c.in-Err-Syntax.ensures c.in-Err-Syntax.field-0-is) refl in
    inr (e.0, e.1, e.2 (length c.args.text.now))

pub returns-in-None-fault_at : goal.returns-in-None-fault_at
returns-in-None-fault_at c = inr (unclosed, c.in-None-fault_at.ensures lang.source (fail c.procedure.new.cursor.rest.now) (fails c.in-Err-Syntax.ensures c.in-Err-Syntax.field-0-is) refl, refl)
