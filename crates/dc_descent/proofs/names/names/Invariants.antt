use Rattle.std.proofs.Common.{length, ◌++◌}
use Rattle.dc_tokens.specs.declared.token.TokenKind.TheVariants as k
use Rattle.dc_grammar.specs.Grammar.{tok, seq}
use Rattle.dc_grammar.specs.Readers.{language_reader}
use Rattle.dc_grammar.proofs.Alone.{Going}
use Rattle.dc_descent.specs.Sources.{more_names}
use Rattle.dc_descent.proofs.names.names.Given as goal

abbrev pub invariant-commas : goal.invariant-commas
invariant-commas l = Going language_reader (seq (tok k.Comma) (tok k.Name)) (λ t xs. xs ++ more_names t) l.initial.cursor.rest.now l.cursor.rest.now l.initial.found.items l.found.items

abbrev pub decreases-commas : goal.decreases-commas
decreases-commas l = length l.cursor.rest.now
