use Rattle.std.specs.Prelude.{codes, ◌∷◌, [], ◌++◌}
use Rattle.dc_certtext.specs.Text.{head_lines, side_lines, body_lines}
use Rattle.dc_lines.proofs.Lines.{joined₄, joined₅}
use Rattle.dc_certtext.proofs.write.put_text.Goals as goal

pub returns : goal.returns
returns c =
    joined₄ c.args.out.now.items c.head.new.out.items c.plain.new.out.items c.side.new.out.items c.plain-4.new.out.items (head_lines c.args.c.now) (codes "side new" ∷ []) (side_lines c.args.c.now.version c.args.c.now.new_side)
    (codes "side old" ∷ (side_lines c.args.c.now.version c.args.c.now.old_side ++ (codes "main" ∷ (body_lines c.args.c.now.body ++ (codes "end" ∷ []))))) c.in_ok-head.ensures c.in_ok-plain.ensures c.in_ok-side.ensures
    (joined₅ c.side.new.out.items c.plain-2.new.out.items c.side-2.new.out.items c.plain-3.new.out.items c.body.new.out.items c.plain-4.new.out.items (codes "side old" ∷ []) (side_lines c.args.c.now.version c.args.c.now.old_side)
    (codes "main" ∷ []) (body_lines c.args.c.now.body) (codes "end" ∷ []) c.in_ok-plain-2.ensures c.in_ok-side-2.ensures c.in_ok-plain-3.ensures c.in_ok-body.ensures c.in_ok-plain-4.ensures)
