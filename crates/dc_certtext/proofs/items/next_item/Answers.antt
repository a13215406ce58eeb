use Rattle.dc_certtext.proofs.Taken.{refuse_item}
use Rattle.dc_lines.proofs.Fields.{piece_is, piece-starts}
use Rattle.dc_certtext.proofs.items.next_item.Goals as goal

pub returns-in_default-item : goal.returns-in_default-item
returns-in_default-item c = refuse_item c.args.text.now c.in-Some.inside.now _ c.in-Some.ensures c.cut.ensures.front c.in_default-item.ensures

pub returns : goal.returns
returns c =
    (c.in-Some-item.ensures.0, piece-starts c.in-Some.inside.now _ c.cut.ensures.rest, piece_is _ c.args.text.now c.in-Some.inside.now _ _ c.in-Some.ensures c.cut.ensures.front c.cut.ensures.rest c.in-Some-item.ensures.1)
