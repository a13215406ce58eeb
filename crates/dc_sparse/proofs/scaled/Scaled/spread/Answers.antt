use Rattle.std.proofs.Common.{◌≡◌, ◌<◌, ◌∙◌, Some, length, arith, sym}
use Rattle.dc_frac.specs.Value.{value}
use Rattle.dc_sparse.specs.Entries.{entry_at}
use Rattle.dc_sparse.specs.Scales.{scale_at}
use Rattle.dc_sparse.proofs.Scaling.{scale-read}
use Rattle.dc_sparse.proofs.Wholes.{den_nonzero, over_fits}
use Rattle.dc_sparse.proofs.HeldEntries.{held-some, whole_row}
use Rattle.dc_sparse.proofs.scaled.Scaled.spread.Goals as goal

pub split-requires-clause-by : goal.split-requires-clause-by
split-requires-clause-by c =
    let s = c.args.self.now in
    let lt : c.args.row < length s.dens.items = (let l = s.scaled.long in omega arith) in
    let e : scale_at s.dens.items c.args.row ≡ Some c.in-Some.den = scale-read s.dens.items c.args.row c.index.result.now lt c.index.ensures ∙ c.in-Some.is in
    den_nonzero (value c.in-Some.den) (whole_row s c.args.row c.in-Some.den e).0

pub split-requires-clause-fit : goal.split-requires-clause-fit
split-requires-clause-fit c k =
    let s = c.args.self.now in
    let lt : c.args.row < length s.dens.items = (let l = s.scaled.long in omega arith) in
    let e : scale_at s.dens.items c.args.row ≡ Some c.in-Some.den = scale-read s.dens.items c.args.row c.index.result.now lt c.index.ensures ∙ c.in-Some.is in
    let w = whole_row s c.args.row c.in-Some.den e in
    over_fits (entry_at s.web.nodes.items c.args.row k) (value c.in-Some.den) (w.1 k) (den_nonzero (value c.in-Some.den) w.0) w.0.small

pub returns-in-Some-clause-entries : goal.returns-in-Some-clause-entries
returns-in-Some-clause-entries c =
    let s = c.args.self.now in
    let lt : c.args.row < length s.dens.items = (let l = s.scaled.long in omega arith) in
    let e : scale_at s.dens.items c.args.row ≡ Some c.in-Some.den = scale-read s.dens.items c.args.row c.index.result.now lt c.index.ensures ∙ c.in-Some.is in
    record { here = λ k. c.split.ensures.taken.here k ∙ sym (held-some s c.args.row k c.in-Some.den e); others = c.split.ensures.taken.others }

pub returns-in_default-clause-den : goal.returns-in_default-clause-den
returns-in_default-clause-den c =
    let s = c.args.self.now in
    let lt : c.args.row < length s.dens.items = (let l = s.scaled.long in omega arith) in
    scale-read s.dens.items c.args.row c.index.result.now lt c.index.ensures ∙ c.in_default.is
