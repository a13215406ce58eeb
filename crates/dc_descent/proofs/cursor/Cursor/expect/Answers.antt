use Rattle.std.proofs.Common.{sym, ◌∙◌, []}
use Rattle.dc_grammar.specs.Readers.{language_reader}
use Rattle.dc_grammar.proofs.Alone.{some_one, takes_one, misses_one}
use Rattle.dc_descent.specs.Reads.{syntax}
use Rattle.dc_descent.proofs.cursor.Cursor.expect.Goals as goal

pub take-requires : goal.take-requires
take-requires c = some_one language_reader c.args.kind [] c.args.self.now.rest.now (sym c.sees.ensures ∙ c.if-sees.true)

pub returns-then-sees : goal.returns-then-sees
returns-then-sees c = takes_one language_reader c.args.kind [] c.args.self.now.rest.now c.take.result _ c.take.ensures (sym c.sees.ensures ∙ c.if-sees.true)

pub returns-else-sees : goal.returns-else-sees
returns-else-sees c = syntax (misses_one language_reader c.args.kind [] c.args.self.now.rest.now (sym c.sees.ensures ∙ c.if-sees.false))
