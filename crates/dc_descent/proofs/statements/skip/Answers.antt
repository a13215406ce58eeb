use Rattle.std.proofs.Common.{refl}
use Rattle.dc_tokens.specs.declared.token.TokenKind.TheVariants as k
use Rattle.dc_grammar.specs.Grammar.{tok, ◌▸◌, leaf, pair}
use Rattle.dc_grammar.specs.Reading.{seq-ok}
use Rattle.dc_descent.specs.Alternatives.{IsSkip}
use Rattle.dc_descent.proofs.Rules.{stop_here, stop_then, passed}
use Rattle.dc_descent.proofs.statements.skip.Goals as goal

pub returns-in_err-expect : goal.returns-in_err-expect
returns-in_err-expect c = passed (tok k.Skip ▸ tok k.Semi) (IsSkip) c.from_residual.result c.from_residual.ensures.1 (stop_here c.in_err-expect.ensures)

pub returns-in_err-expect-2 : goal.returns-in_err-expect-2
returns-in_err-expect-2 c = passed (tok k.Skip ▸ tok k.Semi) (IsSkip) c.from_residual-in_err-expect-2.result c.from_residual-in_err-expect-2.ensures.1 (stop_then c.in_ok-expect.ensures (c.in_err-expect-2.ensures))

pub returns : goal.returns
returns c = ((pair (leaf c.in_ok-expect.field-0) (leaf c.in_ok-expect-2.field-0)), (seq-ok c.in_ok-expect.ensures c.in_ok-expect-2.ensures), refl)
