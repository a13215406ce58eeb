use Rattle.std.proofs.Common.{sym, ◌∙◌}
use Rattle.dc_tokens.proofs.Fronts.{high_at, separator_at, bad_at}
use Rattle.dc_tokens.proofs.scan.front_piece.Goals as goal

pub returns-then-first-ge128 : goal.returns-then-first-ge128
returns-then-first-ge128 c = high_at c.args.at c.args.bytes.now c.requires.some c.if-first-ge128.true

pub returns-then-is_separator : goal.returns-then-is_separator
returns-then-is_separator c = separator_at c.args.at c.args.bytes.now c.requires.some (sym c.is_separator.ensures ∙ c.if-is_separator.true)

pub returns-in-None : goal.returns-in-None
returns-in-None c = bad_at c.args.at c.args.bytes.now c.requires.some c.if-first-ge128.false (sym c.is_separator.ensures ∙ c.if-is_separator.false) c.in_default.ensures c.in-None.ensures
