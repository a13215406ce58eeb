use Rattle.std.proofs.Common.{◌≡◌, ◌∙◌, sym, ap, true, false, arith, rules, refl, IsTrue, ℕ, length, vec_len, ◌+◌, ◌*◌, ◌<◌}
use Rattle.dc_math.specs.Tests.{is_zero}
use Rattle.dc_lp.specs.Meanings.{Meaning, pivot_fits, IsPivotCell}
use Rattle.dc_dense.specs.Shape.{IsShaped}
use Rattle.dc_dense.specs.Meanings.{dense_meaning}
use Rattle.dc_dense.specs.declared.dense.Dense.{Dense}
use Rattle.dc_dense.specs.Flat.{item, flat, items_fit, ArePivoted}
use Rattle.dc_dense.proofs.Links.{zero-at, pivot_fits-flat, pivoted-meaning, pivoted-flat, refilled}
use Rattle.dc_dense.proofs.dense.DenseTableau.pivot.Goals as goal

-- the sizes of a loaded tableau, and a pivot's cell in it
record IsFit (d : Dense) (row col : ℕ) : Type 0 where
  tall : d.rows + 2 ≡ length d.basis.items + 2
  wide : d.width ≡ d.columns + length d.basis.items + 1
  inside : row < d.rows + 2
  column : col < d.width

fit : (d : Dense) (row col : ℕ) → d.loaded ≡ true → IsPivotCell (dense_meaning d).table row col → IsFit d row col
fit d row col loaded h =
    let s : IsShaped d.rows d.columns d.width (vec_len d.basis) (vec_len d.items) = d.shape loaded in
    let r : row < length d.basis.items = h.row in
    let c : col < d.columns + length d.basis.items + 1 = h.column in
    record { tall = omega (arith, d.basis.ok.0); wide = omega (arith, d.basis.ok.0); inside = omega (arith, d.basis.ok.0); column = omega (arith, d.basis.ok.0) }

nonzero : (d : Dense) (row col : ℕ) → d.loaded ≡ true → IsPivotCell (dense_meaning d).table row col → is_zero (item d.items.items (row * d.width + col)) ≡ false
nonzero d row col loaded h =
    let f = fit d row col loaded h in
    sym (zero-at d.columns (d.rows + 2) d.width d.basis.items d.items.items f.tall f.wide row col f.inside f.column row col f.inside f.column) ∙ h.nonzero

pub pivot_items-requires-clause-nonzero : goal.pivot_items-requires-clause-nonzero
pivot_items-requires-clause-nonzero c =
    rw c.deref_mut.ensures.value (nonzero c.args.self.now c.args.row c.args.col (ap (λ (m : Meaning). m.loaded) c.requires.ready) c.requires.cell)

pub returns-then-pivot_items-clause-ok : goal.returns-then-pivot_items-clause-ok
returns-then-pivot_items-clause-ok c =
    let d = c.args.self.now in
    let loaded : d.loaded ≡ true = ap (λ (m : Meaning). m.loaded) c.requires.ready in
    let whole : d.broken ≡ false = ap (λ (m : Meaning). m.broken) c.requires.ready in
    let f = fit d c.args.row c.args.col loaded c.requires.cell in
    let yes : IsTrue c.pivot_items.result = search rules in
    let p : ArePivoted d.items.items c.pivot_items.new.items d.width (d.rows + 2) c.args.row c.args.col = rw c.deref_mut.ensures.value at (c.pivot_items.ensures.pivoted yes) in
    pivoted-meaning d.loaded d.broken d.columns (d.rows + 2) d.width d.basis.items d.items.items _ c.args.row c.args.col loaded whole
    (ap (flat (d.rows + 2) d.width) (refilled d.items.len c.pivot_items.new.items d.items.items (p.long ∙ sym d.items.ok.0) (sym d.items.ok.0))
    ∙ pivoted-flat d.columns (d.rows + 2) d.width d.basis.items d.items.items f.tall f.wide c.args.row c.args.col f.inside f.column c.pivot_items.new.items p)

-- whether the pivot fits is what the code tests
fits_is : (d : Dense) (row col : ℕ) → d.loaded ≡ true → IsPivotCell (dense_meaning d).table row col → pivot_fits (dense_meaning d).table row col ≡ items_fit d.items.items d.width (d.rows + 2) row col
fits_is d row col loaded h =
    let f = fit d row col loaded h in
    pivot_fits-flat d.columns (d.rows + 2) d.width d.basis.items d.items.items f.tall f.wide row col f.inside f.column

pub returns-then-pivot_items-clause-fits : goal.returns-then-pivot_items-clause-fits
returns-then-pivot_items-clause-fits c =
    let d = c.args.self.now in
    let e : c.pivot_items.result ≡ items_fit d.items.items d.width (d.rows + 2) c.args.row c.args.col = rw c.deref_mut.ensures.value at c.pivot_items.ensures.fits in
    (λ _. fits_is d c.args.row c.args.col (ap (λ (m : Meaning). m.loaded) c.requires.ready) c.requires.cell ∙ sym e ∙ c.if-pivot_items.true, λ _. refl)

pub returns-else-pivot_items-clause-fits : goal.returns-else-pivot_items-clause-fits
returns-else-pivot_items-clause-fits c =
    let d = c.args.self.now in
    let e : c.pivot_items.result ≡ items_fit d.items.items d.width (d.rows + 2) c.args.row c.args.col = rw c.deref_mut.ensures.value at c.pivot_items.ensures.fits in
    let f : pivot_fits (dense_meaning d).table c.args.row c.args.col ≡ false = fits_is d c.args.row c.args.col (ap (λ (m : Meaning). m.loaded) c.requires.ready) c.requires.cell ∙ sym e ∙ c.if-pivot_items.false in
    (λ h. absurd (cc), λ h. (let x : true ≡ false = sym h ∙ f in absurd (cc)))
