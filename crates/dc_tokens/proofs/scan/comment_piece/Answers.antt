use Rattle.std.proofs.Common.{arith}
use Rattle.dc_tokens.proofs.Fronts.{bad_comment_at, comment_at}
use Rattle.dc_tokens.proofs.scan.comment_piece.Goals as goal
use Rattle.dc_tokens.proofs.scan.comment_piece.Goals.{else-len-bytes-via-then-len-bytes+else-bytes-len-ne10, else-len-bytes-via-else-len-bytes}

pub returns-then-bytes-len-ne10 : goal.returns-then-bytes-len-ne10
returns-then-bytes-len-ne10 c = bad_comment_at c.args.at c.args.bytes.now c.args.len c.requires.front (omega arith) (c.requires.ends (omega arith)) c.if-bytes-len-ne10.true

pub returns-else-len-bytes : goal.returns-else-len-bytes
returns-else-len-bytes c = comment_at c.args.at c.args.bytes.now c.args.len c.requires.front (elim c.else-len-bytes.branch [
  | else-len-bytes-via-then-len-bytes+else-bytes-len-ne10 w ↦ λ l. w.if-bytes-len-ne10.false
  | else-len-bytes-via-else-len-bytes w ↦ λ l. absurd (omega arith)
])
