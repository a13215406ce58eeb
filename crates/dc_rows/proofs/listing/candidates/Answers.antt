use Rattle.std.proofs.Common.{◌∙◌, arith, ap, length}
use Rattle.dc_rows.proofs.Wanted.{are_wanted}
use Rattle.dc_rows.proofs.listing.candidates.Goals as goal

pub returns-clause-kind : goal.returns-clause-kind
returns-clause-kind c =
    let e = c.in_ok-into_items.ensures in
    let f = c.from_vec.ensures in
    are_wanted c.args.s.now c.args.when.now c.args.pairs c.in_ok-into_items.field-0 c.from_vec.result c.requires.system c.requires.atoms (e ∙ c.in_ok-rows.ensures) (f ∙ c.in_ok-bounds.ensures)
    (omega (arith, ap length e, c.len.ensures)) (omega (arith, ap length f, c.len-2.ensures))
