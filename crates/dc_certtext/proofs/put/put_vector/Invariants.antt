use Rattle.std.proofs.Common.{◌≡◌, ◌++◌, drop}
use Rattle.dc_certtext.specs.Words.{item_text}
use Rattle.dc_lines.specs.Bytes.{spaced}
use Rattle.dc_certtext.proofs.put.put_vector.Given as goal

-- what is written, with what is still to come, is the whole
abbrev pub invariant-loop-item : goal.invariant-loop-item
invariant-loop-item l = l.out.items ++ spaced item_text (drop l.item-index l.item-items) ≡ l.initial.out.items ++ spaced item_text l.item-items
