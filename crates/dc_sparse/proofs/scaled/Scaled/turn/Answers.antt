use Rattle.std.proofs.Common.{◌≡◌, ◌<◌, ◌∙◌, ℕ, true, Some, None, length, arith, sym, ap, refl}
use Rattle.dc_math.specs.Tests.{is_zero}
use Rattle.dc_frac.specs.Fits.{quotient_fits}
use Rattle.dc_frac.specs.Value.{value}
use Rattle.dc_sparse.specs.Entries.{entry_at}
use Rattle.dc_sparse.specs.Scales.{scale_at}
use Rattle.dc_sparse.proofs.Scaling.{scale-read, scaled-free, divisions_true}
use Rattle.dc_sparse.proofs.Wholes.{over_fits}
use Rattle.dc_sparse.proofs.HeldEntries.{held-none, whole_row, others_on}
use Rattle.dc_sparse.proofs.TurnSteps.{entry_nonzero, divisions-held, divided-held, others_kept}
use Rattle.dc_sparse.proofs.scaled.Scaled.turn.Goals as goal

pub lower-requires-clause-by : goal.lower-requires-clause-by
lower-requires-clause-by c = ap is_zero c.entry-by.ensures ∙ entry_nonzero c.args.self.now c.args.row c.args.col c.requires.entry

pub lower-requires-clause-fit : goal.lower-requires-clause-fit
lower-requires-clause-fit c =
    let s = c.args.self.now in
    let lt : c.args.row < length s.dens.items = (let l = s.scaled.long in omega arith) in
    let e : scale_at s.dens.items c.args.row ≡ Some _ = scale-read s.dens.items c.args.row c.index.result.now lt c.index.ensures ∙ c.in-Some.is in
    let w = whole_row s c.args.row _ e in
    let nz = entry_nonzero s c.args.row c.args.col c.requires.entry in
    let fit : (k : ℕ) → quotient_fits (entry_at s.web.nodes.items c.args.row k) (value c.entry-by.result) ≡ true = λ k. ap (quotient_fits (entry_at s.web.nodes.items c.args.row k)) c.entry-by.ensures ∙ over_fits (entry_at s.web.nodes.items c.args.row k) (entry_at s.web.nodes.items c.args.row c.args.col) (w.1 k) nz (w.1 c.args.col) in
    fit

pub divide_row-requires-clause-nonzero : goal.divide_row-requires-clause-nonzero
divide_row-requires-clause-nonzero c = ap is_zero c.entry-by.ensures ∙ entry_nonzero c.args.self.now c.args.row c.args.col c.requires.entry

pub invariant_of-self : goal.invariant_of-self
invariant_of-self c =
    let s = c.args.self.now in
    let lt : c.args.row < length s.dens.items = (let l = s.scaled.long in omega arith) in
    let e : scale_at s.dens.items c.args.row ≡ None = scale-read s.dens.items c.args.row c.index.result.now lt c.index.ensures ∙ c.in-None.is in
    let d = c.divide_row.ensures in
    let q = divisions-held s c.args.row c.args.col c.requires.entry (value c.entry-by.result) (length s.web.col_heads.items) c.entry-by.ensures in
    record { scaled = scaled-free s.web.nodes.items s.dens.items (length s.web.row_heads.items) s.scaled c.divide_row.new.self.nodes.items (length c.divide_row.new.self.row_heads.items) c.args.row d.height e d.others.entries }

pub returns-then-not-divide_row-clause-fits : goal.returns-then-not-divide_row-clause-fits
returns-then-not-divide_row-clause-fits c =
    let s = c.args.self.now in
    let lt : c.args.row < length s.dens.items = (let l = s.scaled.long in omega arith) in
    let e : scale_at s.dens.items c.args.row ≡ None = scale-read s.dens.items c.args.row c.index.result.now lt c.index.ensures ∙ c.in-None.is in
    let d = c.divide_row.ensures in
    let q = divisions-held s c.args.row c.args.col c.requires.entry (value c.entry-by.result) (length s.web.col_heads.items) c.entry-by.ensures in
    sym c.if-not-divide_row.true ∙ d.fits ∙ q

pub returns-then-not-divide_row-clause-others : goal.returns-then-not-divide_row-clause-others
returns-then-not-divide_row-clause-others c =
    let s = c.args.self.now in
    let lt : c.args.row < length s.dens.items = (let l = s.scaled.long in omega arith) in
    let e : scale_at s.dens.items c.args.row ≡ None = scale-read s.dens.items c.args.row c.index.result.now lt c.index.ensures ∙ c.in-None.is in
    let d = c.divide_row.ensures in
    let q = divisions-held s c.args.row c.args.col c.requires.entry (value c.entry-by.result) (length s.web.col_heads.items) c.entry-by.ensures in
    others_kept s _ c.args.row refl d.others d.cells (record { spare = d.spare; arena = d.arena; height = d.height; width = d.width })

pub gather-requires-clause-den : goal.gather-requires-clause-den
gather-requires-clause-den c =
    let s = c.args.self.now in
    let lt : c.args.row < length s.dens.items = (let l = s.scaled.long in omega arith) in
    let e : scale_at s.dens.items c.args.row ≡ None = scale-read s.dens.items c.args.row c.index.result.now lt c.index.ensures ∙ c.in-None.is in
    let d = c.divide_row.ensures in
    let q = divisions-held s c.args.row c.args.col c.requires.entry (value c.entry-by.result) (length s.web.col_heads.items) c.entry-by.ensures in
    e

pub returns-in-Some-clause-fits : goal.returns-in-Some-clause-fits
returns-in-Some-clause-fits c =
    let s = c.args.self.now in
    let lt : c.args.row < length s.dens.items = (let l = s.scaled.long in omega arith) in
    let e : scale_at s.dens.items c.args.row ≡ Some _ = scale-read s.dens.items c.args.row c.index.result.now lt c.index.ensures ∙ c.in-Some.is in
    let w = whole_row s c.args.row _ e in
    let nz = entry_nonzero s c.args.row c.args.col c.requires.entry in
    let fit : (k : ℕ) → quotient_fits (entry_at s.web.nodes.items c.args.row k) (value c.entry-by.result) ≡ true = λ k. ap (quotient_fits (entry_at s.web.nodes.items c.args.row k)) c.entry-by.ensures ∙ over_fits (entry_at s.web.nodes.items c.args.row k) (entry_at s.web.nodes.items c.args.row c.args.col) (w.1 k) nz (w.1 c.args.col) in
    sym (divisions_true s.web.nodes.items c.args.row (value c.entry-by.result) (length s.web.col_heads.items) fit)
    ∙ divisions-held s c.args.row c.args.col c.requires.entry (value c.entry-by.result) (length s.web.col_heads.items) c.entry-by.ensures

pub returns-in-Some-clause-divided : goal.returns-in-Some-clause-divided
returns-in-Some-clause-divided c _ k lk =
    let s = c.args.self.now in
    c.lower.ensures.here k ∙ divided-held s c.args.row c.args.col c.requires.entry (value c.entry-by.result) k c.entry-by.ensures

pub returns-else-not-divide_row-clause-fits : goal.returns-else-not-divide_row-clause-fits
returns-else-not-divide_row-clause-fits c =
    let s = c.args.self.now in
    let lt : c.args.row < length s.dens.items = (let l = s.scaled.long in omega arith) in
    let e : scale_at s.dens.items c.args.row ≡ None = scale-read s.dens.items c.args.row c.index.result.now lt c.index.ensures ∙ c.in-None.is in
    let d = c.divide_row.ensures in
    let q = divisions-held s c.args.row c.args.col c.requires.entry (value c.entry-by.result) (length s.web.col_heads.items) c.entry-by.ensures in
    sym c.if-not-divide_row.false ∙ d.fits ∙ q

pub returns-else-not-divide_row-clause-divided : goal.returns-else-not-divide_row-clause-divided
returns-else-not-divide_row-clause-divided c _ k lk =
    let s = c.args.self.now in
    let lt : c.args.row < length s.dens.items = (let l = s.scaled.long in omega arith) in
    let e : scale_at s.dens.items c.args.row ≡ None = scale-read s.dens.items c.args.row c.index.result.now lt c.index.ensures ∙ c.in-None.is in
    let d = c.divide_row.ensures in
    let q = divisions-held s c.args.row c.args.col c.requires.entry (value c.entry-by.result) (length s.web.col_heads.items) c.entry-by.ensures in
    c.gather.ensures.here k ∙ held-none _ c.args.row k e ∙ d.divided c.if-not-divide_row.false k lk
    ∙ divided-held s c.args.row c.args.col c.requires.entry (value c.entry-by.result) k c.entry-by.ensures

pub returns-else-not-divide_row-clause-others : goal.returns-else-not-divide_row-clause-others
returns-else-not-divide_row-clause-others c =
    let s = c.args.self.now in
    let lt : c.args.row < length s.dens.items = (let l = s.scaled.long in omega arith) in
    let e : scale_at s.dens.items c.args.row ≡ None = scale-read s.dens.items c.args.row c.index.result.now lt c.index.ensures ∙ c.in-None.is in
    let d = c.divide_row.ensures in
    let q = divisions-held s c.args.row c.args.col c.requires.entry (value c.entry-by.result) (length s.web.col_heads.items) c.entry-by.ensures in
    others_on s _ c.gather.new.self c.args.row (others_kept s _ c.args.row refl d.others d.cells (record { spare = d.spare; arena = d.arena; height = d.height; width = d.width })) c.gather.ensures.others
