use Rattle.std.proofs.Common.{◌≡◌, ◌+◌, ◌≤◌}
use Rattle.dc_tokens.specs.Lines.{line_at, column_at}
use Rattle.dc_tokens.proofs.lines.line_col.Given as goal

abbrev pub invariant-loop-byte : goal.invariant-loop-byte
invariant-loop-byte l = record {
  few_lines : l.line ≤ l.byte-index + 1;
  few_columns : l.column ≤ l.byte-index + 1;
  line : l.line ≡ line_at l.bytes l.byte-index;
  column : l.column ≡ column_at l.bytes l.byte-index;
}
