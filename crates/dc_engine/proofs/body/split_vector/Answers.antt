use Rattle.std.proofs.Common.{◌*◌, ◌-◌, ◌∙◌, ap, length, take, drop}
use Rattle.dc_cert.specs.Vectors.{nonzero_from}
use Rattle.dc_engine.proofs.Bodies.{split_is, whole_rest}
use Rattle.dc_engine.proofs.body.split_vector.Goals as goal

pub returns : goal.returns
returns c =
    split_is c.args.count c.args.x.now c.in_ok-unknown.unknown.items (take (length c.args.x.now - c.args.count * 2) (drop (c.args.count * 2) c.args.x.now))
    c.in_ok-sparse_of.field-0 c.in_ok-sparse_of-2.field-0 c.requires.room c.in_ok-unknown.ensures (c.in_ok-sparse_of.ensures.items ∙ ap (nonzero_from 0) c.deref.ensures.value)
    (whole_rest (c.args.count * 2) c.args.x.now) c.in_ok-sparse_of-2.ensures.items
