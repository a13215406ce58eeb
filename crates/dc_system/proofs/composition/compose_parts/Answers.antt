use Rattle.std.proofs.Common.{◌∙◌, sym, refl, arith}
use Rattle.dc_system.proofs.Composing.{some_edge}
use Rattle.dc_system.proofs.composition.compose_parts.Goals as goal

pub returns : goal.returns
returns c =
    let u = rw c.in-Some.is at c.in_ok-guard.ensures in
    let v = rw c.in-Some-2.is at c.in_ok-update.ensures in
    some_edge c.args.vars c.args.first.now c.args.second.now _ c.as_slice.result.now c.as_slice-values.result.now c.as_slice-3.result.now c.as_slice-2.result.now c.as_slice-own.result.now
    (sym c.if-both_choose.ensures) c.as_slice.ensures (sym c.if-not-all_flat.ensures) (omega arith) (c.as_slice-values.ensures.value ∙ c.in_ok-values.ensures) c.as_slice-2.ensures c.as_slice-own.ensures
    u.0 (c.from_vec.ensures ∙ u.1) c.as_slice-3.ensures v.0 (c.from_vec-2.ensures ∙ v.1) c.in_ok-cost.ensures (sym c.if-not-fits.ensures) refl refl c.one_chooses.ensures
