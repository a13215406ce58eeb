use Rattle.std.proofs.Common.{◌∙◌, arith}
use Rattle.dc_handelman.proofs.Walks.{list_factors, list_product, list_end, list_kinds}
use Rattle.dc_handelman.proofs.choices.products.Goals as goal

pub extend-requires-clause-factors : goal.extend-requires-clause-factors
extend-requires-clause-factors c =
    list_factors c.args.places c.args.hyps.now c.as_slice.result.now c.in_ok-one.one c.requires.few_places c.requires.atoms (c.as_slice.ensures.value ∙ c.in_ok-factors.ensures) c.in_ok-one.ensures.constant

pub extend-requires-clause-product : goal.extend-requires-clause-product
extend-requires-clause-product c = list_product c.args.places _ c.in_ok-one.one c.requires.few_places c.in_ok-one.ensures.constant

pub returns-clause-list : goal.returns-clause-list
returns-clause-list c = list_end c.args.places c.args.hyps.now c.args.k c.loop-size.size c.loop-size.list.items (omega arith) c.loop-size.invariant

pub returns-clause-kinds : goal.returns-clause-kinds
returns-clause-kinds c =
    list_kinds c.args.places c.args.hyps.now c.args.k c.loop-size.list.items c.requires.few_places c.requires.low c.requires.atoms
    (list_end c.args.places c.args.hyps.now c.args.k c.loop-size.size c.loop-size.list.items (omega arith) c.loop-size.invariant)
