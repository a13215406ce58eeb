use Rattle.std.proofs.Common.{◌≡◌, ◌≤◌, ◌∙◌, arith, sym, ap, true, false, refl, length, set, None}
use Rattle.dc_lp.specs.Meanings.{Meaning}
use Rattle.dc_lp.specs.Fill.{gaps}
use Rattle.dc_sparse.specs.Held.{table_of, held_at}
use Rattle.dc_sparse.specs.Pivots.{grid, ArePivoted}
use Rattle.dc_sparse.proofs.Fits.{fit_pivot}
use Rattle.dc_sparse.proofs.SameTables.{same_meaning}
use Rattle.dc_sparse.proofs.Tables.{zero-at, gaps-held, pivot_fits-grid, pivoted-grid, pivoted-meaning}
use Rattle.dc_sparse.proofs.cross.CrossTableau.pivot.Goals as goal

pub pivot-requires-clause-row : goal.pivot-requires-clause-row
pivot-requires-clause-row c =
    let d = c.args.self.now in
    let loaded : d.loaded ≡ true = ap (λ (m : Meaning). m.loaded) c.requires.ready in
    let f = fit_pivot d c.args.row c.args.col loaded c.requires.cell in
    f.inside

pub pivot-requires-clause-col : goal.pivot-requires-clause-col
pivot-requires-clause-col c =
    let d = c.args.self.now in
    let loaded : d.loaded ≡ true = ap (λ (m : Meaning). m.loaded) c.requires.ready in
    let f = fit_pivot d c.args.row c.args.col loaded c.requires.cell in
    f.column

pub pivot-requires-clause-entry : goal.pivot-requires-clause-entry
pivot-requires-clause-entry c =
    let d = c.args.self.now in
    let loaded : d.loaded ≡ true = ap (λ (m : Meaning). m.loaded) c.requires.ready in
    let f = fit_pivot d c.args.row c.args.col loaded c.requires.cell in
    sym (zero-at d.columns (length d.held.web.row_heads.items) (length d.held.web.col_heads.items) d.basis.items (held_at d.held) f.tall f.wide c.args.row c.args.col f.inside f.column c.args.row c.args.col f.inside f.column) ∙ c.requires.cell.nonzero

pub pivot-requires-clause-spare : goal.pivot-requires-clause-spare
pivot-requires-clause-spare c =
    let d = c.args.self.now in
    let loaded : d.loaded ≡ true = ap (λ (m : Meaning). m.loaded) c.requires.ready in
    let f = fit_pivot d c.args.row c.args.col loaded c.requires.cell in
    let g = gaps-held d.columns (length d.held.web.row_heads.items) (length d.held.web.col_heads.items) d.basis.items (held_at d.held) f.tall f.wide c.args.row c.args.col f.inside f.column in
    let r : gaps (table_of d.columns d.basis.items d.held) c.args.row c.args.col ≤ d.held.web.spare = d.room c.args.row c.args.col (ap (λ (m : Meaning). m.ready) c.requires.ready) in
    omega arith

pub returns-then-pivot-clause-ok : goal.returns-then-pivot-clause-ok
returns-then-pivot-clause-ok c =
    let d = c.args.self.now in
    let loaded : d.loaded ≡ true = ap (λ (m : Meaning). m.loaded) c.requires.ready in
    let f = fit_pivot d c.args.row c.args.col loaded c.requires.cell in
    let whole : d.broken ≡ false = ap (λ (m : Meaning). m.broken) c.requires.ready in
    let new = c.pivot.new.self in
    let p : ArePivoted (held_at d.held) (held_at new) (length d.held.web.col_heads.items) (length d.held.web.row_heads.items) c.args.row c.args.col = c.pivot.ensures.pivoted c.if-pivot.true in
    same_meaning d.loaded d.broken None d.columns _ _ (set d.basis.items c.args.row c.args.col) (ap (λ z. grid z (length new.web.col_heads.items) (held_at new)) c.pivot.ensures.height ∙ ap (λ z. grid (length d.held.web.row_heads.items) z (held_at new)) c.pivot.ensures.width)
    ∙ pivoted-meaning d.loaded d.broken d.columns (length d.held.web.row_heads.items) (length d.held.web.col_heads.items) d.basis.items (held_at d.held) (held_at new) c.args.row c.args.col loaded whole
    (pivoted-grid d.columns (length d.held.web.row_heads.items) (length d.held.web.col_heads.items) d.basis.items (held_at d.held) f.tall f.wide c.args.row c.args.col f.inside f.column (held_at new) p)

pub returns-then-pivot-clause-fits : goal.returns-then-pivot-clause-fits
returns-then-pivot-clause-fits c =
    let d = c.args.self.now in
    let loaded : d.loaded ≡ true = ap (λ (m : Meaning). m.loaded) c.requires.ready in
    let f = fit_pivot d c.args.row c.args.col loaded c.requires.cell in
    (λ _. pivot_fits-grid d.columns (length d.held.web.row_heads.items) (length d.held.web.col_heads.items) d.basis.items (held_at d.held) f.tall f.wide c.args.row c.args.col f.inside f.column ∙ sym c.pivot.ensures.fits ∙ c.if-pivot.true, λ _. refl)

pub returns-else-pivot-clause-fits : goal.returns-else-pivot-clause-fits
returns-else-pivot-clause-fits c =
    let d = c.args.self.now in
    let loaded : d.loaded ≡ true = ap (λ (m : Meaning). m.loaded) c.requires.ready in
    let f = fit_pivot d c.args.row c.args.col loaded c.requires.cell in
    let g = pivot_fits-grid d.columns (length d.held.web.row_heads.items) (length d.held.web.col_heads.items) d.basis.items (held_at d.held) f.tall f.wide c.args.row c.args.col f.inside f.column ∙ sym c.pivot.ensures.fits ∙ c.if-pivot.false in
    (λ h. absurd (let r : ⊥ = cc in r), λ h. (let x : true ≡ false = sym h ∙ g in absurd (let r : ⊥ = cc in r)))
