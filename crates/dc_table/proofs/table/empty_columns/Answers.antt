use Rattle.std.proofs.Common.{◌∙◌, ap, ap₂, sym, ◌++◌, ◌∷◌, [], List}
use Rattle.std.proofs.lemmas.List.{replicate_more}
use Rattle.dc_lp.specs.declared.Entry.{Entry}
use Rattle.dc_table.specs.Tables.{lists}
use Rattle.dc_table.proofs.Extending.{lists_++}
use Rattle.dc_table.proofs.table.empty_columns.Goals as goal

pub loop-column-preserved : goal.loop-column-preserved
loop-column-preserved c =
    ap lists c.in_ok-push.ensures.items ∙ lists_++ c.loop-column.columns.items (c.new.result ∷ []) ∙ ap₂ (λ (x : List (List Entry)) (y : List Entry). x ++ y ∷ []) c.loop-column.invariant c.new.ensures.items ∙ replicate_more c.loop-column._column []
