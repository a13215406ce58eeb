use Rattle.std.proofs.Common.{◌≡◌, ◌++◌, map, drop}
use Rattle.std.specs.String.{string_bytes}
use Rattle.dc_syntax.specs.Text.{stmts_text}
use Rattle.dc_syntax.proofs.print.+statements.Given as goal

abbrev pub invariant-put_block-loop-statement : goal.invariant-put_block-loop-statement
invariant-put_block-loop-statement l = string_bytes l.out ++ stmts_text (map string_bytes l.names) (drop l.statement-index l.body) ≡ string_bytes l.initial.out ++ stmts_text (map string_bytes l.names) l.body
