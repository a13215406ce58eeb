use Rattle.std.proofs.Common.{rules, map}
use Rattle.std.specs.String.{string_bytes}
use Rattle.dc_syntax.proofs.Texts.{loop_text, onward}
use Rattle.dc_syntax.proofs.print.+statements.Goals as goal

-- src/print.rt:179:1
pub put_stmt-returns-in_ok-push_str-in-WhileAny : goal.put_stmt-returns-in_ok-push_str-in-WhileAny
put_stmt-returns-in_ok-push_str-in-WhileAny t c =
    onward c.put_block-in-WhileAny.result (λ h. loop_text (map string_bytes c.args.names.now) c.args.s.now c.in-WhileAny.a (string_bytes c.args.out.now) (string_bytes c.push_str-in-WhileAny.new.self) (string_bytes c.put_block-in-WhileAny.new.out) c.in-WhileAny.is c.in_ok-push_str-in-WhileAny.ensures.bytes (search rules)) c.put_block-in-WhileAny.ensures
