use Rattle.std.proofs.Common.{◌≡◌, ◌<◌, ◌∙◌, true, false, Some, None, length, arith, sym, ap}
use Rattle.dc_math.specs.Inverse.{◌/ℚ◌}
use Rattle.dc_frac.specs.Value.{value}
use Rattle.dc_frac.specs.Fits.{quotient_fits}
use Rattle.dc_sparse.specs.Entries.{entry_at}
use Rattle.dc_sparse.specs.Scales.{scale_at}
use Rattle.dc_sparse.proofs.Scaling.{scale-read}
use Rattle.dc_sparse.proofs.Wholes.{den_nonzero, over_fits}
use Rattle.dc_sparse.proofs.HeldEntries.{held-none, held-some, whole_row}
use Rattle.dc_sparse.proofs.scaled.Scaled.entry.Goals as goal

pub div-requires : goal.div-requires
div-requires c =
    let s = c.args.self.now in
    let lt : c.args.row < length s.dens.items = (let l = s.scaled.long in omega arith) in
    let e : scale_at s.dens.items c.args.row ≡ Some c.in-Some.den = scale-read s.dens.items c.args.row c.index.result.now lt c.index.ensures ∙ c.in-Some.is in
    den_nonzero (value c.in-Some.den) (whole_row s c.args.row c.in-Some.den e).0

pub unreachable-requires : goal.unreachable-requires
unreachable-requires c =
    let s = c.args.self.now in
    let lt : c.args.row < length s.dens.items = (let l = s.scaled.long in omega arith) in
    let e : scale_at s.dens.items c.args.row ≡ Some c.in-Some.den = scale-read s.dens.items c.args.row c.index.result.now lt c.index.ensures ∙ c.in-Some.is in
    let w = whole_row s c.args.row c.in-Some.den e in
    let t : quotient_fits (value c.entry-number.result) (value c.in-Some.den) ≡ true =
    ap (λ x. quotient_fits x (value c.in-Some.den)) c.entry-number.ensures ∙ over_fits (entry_at s.web.nodes.items c.args.row c.args.col) (value c.in-Some.den) (w.1 c.args.col) (den_nonzero (value c.in-Some.den) w.0) w.0.small in
    let f : quotient_fits (value c.entry-number.result) (value c.in-Some.den) ≡ false = c.in_default.ensures in
    cc

pub returns-in-Some-div : goal.returns-in-Some-div
returns-in-Some-div c =
    let s = c.args.self.now in
    let lt : c.args.row < length s.dens.items = (let l = s.scaled.long in omega arith) in
    let e : scale_at s.dens.items c.args.row ≡ Some c.in-Some.den = scale-read s.dens.items c.args.row c.index.result.now lt c.index.ensures ∙ c.in-Some.is in
    c.in-Some-div.ensures.1 ∙ ap (λ x. x /ℚ value c.in-Some.den) c.entry-number.ensures ∙ sym (held-some s c.args.row c.args.col c.in-Some.den e)

pub returns-in-None : goal.returns-in-None
returns-in-None c =
    let s = c.args.self.now in
    let lt : c.args.row < length s.dens.items = (let l = s.scaled.long in omega arith) in
    let e : scale_at s.dens.items c.args.row ≡ None = scale-read s.dens.items c.args.row c.index.result.now lt c.index.ensures ∙ c.in-None.is in
    c.entry-number.ensures ∙ sym (held-none s c.args.row c.args.col e)
