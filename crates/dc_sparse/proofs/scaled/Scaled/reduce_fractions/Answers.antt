use Rattle.std.proofs.Common.{◌≡◌, ◌≢◌, ◌≤◌, ◌+◌, ◌∙◌, ℕ, None, length, arith, sym, subst, ap, ap₂, refl}
use Rattle.dc_math.specs.Rational.{◌*ℚ◌}
use Rattle.dc_frac.specs.Value.{value}
use Rattle.dc_sparse.specs.Entries.{entry_at}
use Rattle.dc_sparse.specs.Rows.{reductions_fit, row_gaps, steps_fit}
use Rattle.dc_sparse.specs.Scales.{scale_at}
use Rattle.dc_sparse.specs.Held.{held_at}
use Rattle.dc_sparse.proofs.HeldEntries.{all_entries, held-none, held-kept}
use Rattle.dc_sparse.proofs.TurnSteps.{pivot_zero, fractions_gaps, fractions_fit, fractions_after}
use Rattle.dc_sparse.proofs.scaled.Scaled.reduce_fractions.Goals as goal

pub reduce_row-requires-clause-entry : goal.reduce_row-requires-clause-entry
reduce_row-requires-clause-entry c =
    let s = c.args.self.now in
    let t = c.factor-factor.new.self in
    let e₁ = c.spread.ensures.entries in
    let e₂ = c.factor-factor.ensures.entries in
    let same : (a b : ℕ) → held_at t a b ≡ held_at s a b = λ a b. all_entries c.spread.new.self t c.args.pivot e₂ a b ∙ all_entries s c.spread.new.self c.args.row e₁ a b in
    let apart : c.args.row ≢ c.args.pivot = λ z. c.requires.other (sym z) in
    let one : scale_at t.dens.items c.args.row ≡ None = e₂.others.scales c.args.row apart ∙ c.spread.ensures.den in
    let wide : length t.web.col_heads.items ≡ length s.web.col_heads.items = e₂.others.sizes.width ∙ e₁.others.sizes.width in
    let product : (k : ℕ) → value c.factor-factor.result *ℚ entry_at t.web.nodes.items c.args.pivot k ≡ held_at s c.args.row c.args.col *ℚ held_at s c.args.pivot k =
    λ k. c.factor-factor.ensures.factor k ∙ ap₂ ◌*ℚ◌ (all_entries s c.spread.new.self c.args.row e₁ c.args.row c.args.col) (all_entries s c.spread.new.self c.args.row e₁ c.args.pivot k) in
    pivot_zero s t c.args.row c.args.pivot c.args.col same one (value c.factor-factor.result) product c.args.col ∙ c.requires.entry

pub reduce_row-requires-clause-spare : goal.reduce_row-requires-clause-spare
reduce_row-requires-clause-spare c =
    let s = c.args.self.now in
    let t = c.factor-factor.new.self in
    let e₁ = c.spread.ensures.entries in
    let e₂ = c.factor-factor.ensures.entries in
    let same : (a b : ℕ) → held_at t a b ≡ held_at s a b = λ a b. all_entries c.spread.new.self t c.args.pivot e₂ a b ∙ all_entries s c.spread.new.self c.args.row e₁ a b in
    let apart : c.args.row ≢ c.args.pivot = λ z. c.requires.other (sym z) in
    let one : scale_at t.dens.items c.args.row ≡ None = e₂.others.scales c.args.row apart ∙ c.spread.ensures.den in
    let wide : length t.web.col_heads.items ≡ length s.web.col_heads.items = e₂.others.sizes.width ∙ e₁.others.sizes.width in
    let product : (k : ℕ) → value c.factor-factor.result *ℚ entry_at t.web.nodes.items c.args.pivot k ≡ held_at s c.args.row c.args.col *ℚ held_at s c.args.pivot k =
    λ k. c.factor-factor.ensures.factor k ∙ ap₂ ◌*ℚ◌ (all_entries s c.spread.new.self c.args.row e₁ c.args.row c.args.col) (all_entries s c.spread.new.self c.args.row e₁ c.args.pivot k) in
    let g = fractions_gaps s t c.args.row c.args.pivot c.args.col same one (value c.factor-factor.result) product (length s.web.col_heads.items) in
    let r = c.requires.spare in
    let q₁ = e₁.others.sizes.spare in
    let q₂ = e₂.others.sizes.spare in
    subst (λ z. row_gaps t.web.nodes.items c.args.row c.args.pivot z ≤ t.web.spare) (sym wide) (omega arith)

pub returns-then-not-reduce_row-clause-fits : goal.returns-then-not-reduce_row-clause-fits
returns-then-not-reduce_row-clause-fits c =
    let s = c.args.self.now in
    let t = c.factor-factor.new.self in
    let e₁ = c.spread.ensures.entries in
    let e₂ = c.factor-factor.ensures.entries in
    let same : (a b : ℕ) → held_at t a b ≡ held_at s a b = λ a b. all_entries c.spread.new.self t c.args.pivot e₂ a b ∙ all_entries s c.spread.new.self c.args.row e₁ a b in
    let apart : c.args.row ≢ c.args.pivot = λ z. c.requires.other (sym z) in
    let one : scale_at t.dens.items c.args.row ≡ None = e₂.others.scales c.args.row apart ∙ c.spread.ensures.den in
    let wide : length t.web.col_heads.items ≡ length s.web.col_heads.items = e₂.others.sizes.width ∙ e₁.others.sizes.width in
    let product : (k : ℕ) → value c.factor-factor.result *ℚ entry_at t.web.nodes.items c.args.pivot k ≡ held_at s c.args.row c.args.col *ℚ held_at s c.args.pivot k =
    λ k. c.factor-factor.ensures.factor k ∙ ap₂ ◌*ℚ◌ (all_entries s c.spread.new.self c.args.row e₁ c.args.row c.args.col) (all_entries s c.spread.new.self c.args.row e₁ c.args.pivot k) in
    let fit : c.reduce_row.result ≡ steps_fit (held_at s) (length s.web.col_heads.items) c.args.pivot c.args.col c.args.row =
    c.reduce_row.ensures.fits ∙ ap (λ z. reductions_fit t.web.nodes.items c.args.row c.args.pivot c.args.col (value c.factor-factor.result) z) wide
    ∙ fractions_fit s t c.args.row c.args.pivot c.args.col same one (value c.factor-factor.result) product (length s.web.col_heads.items) in
    sym c.if-not-reduce_row.true ∙ fit

pub returns-then-not-reduce_row-clause-others : goal.returns-then-not-reduce_row-clause-others
returns-then-not-reduce_row-clause-others c =
    let s = c.args.self.now in
    let t = c.factor-factor.new.self in
    let e₁ = c.spread.ensures.entries in
    let e₂ = c.factor-factor.ensures.entries in
    let same : (a b : ℕ) → held_at t a b ≡ held_at s a b = λ a b. all_entries c.spread.new.self t c.args.pivot e₂ a b ∙ all_entries s c.spread.new.self c.args.row e₁ a b in
    let apart : c.args.row ≢ c.args.pivot = λ z. c.requires.other (sym z) in
    let one : scale_at t.dens.items c.args.row ≡ None = e₂.others.scales c.args.row apart ∙ c.spread.ensures.den in
    let wide : length t.web.col_heads.items ≡ length s.web.col_heads.items = e₂.others.sizes.width ∙ e₁.others.sizes.width in
    let product : (k : ℕ) → value c.factor-factor.result *ℚ entry_at t.web.nodes.items c.args.pivot k ≡ held_at s c.args.row c.args.col *ℚ held_at s c.args.pivot k =
    λ k. c.factor-factor.ensures.factor k ∙ ap₂ ◌*ℚ◌ (all_entries s c.spread.new.self c.args.row e₁ c.args.row c.args.col) (all_entries s c.spread.new.self c.args.row e₁ c.args.pivot k) in
    let k = c.reduce_row.ensures.others in
    record {
      entries = λ a b ne. held-kept t _ a b refl (k.entries a b ne) ∙ same a b;
      stays = λ n a b ne h. k.stays n a b ne (e₂.others.cells.stays n a b (e₁.others.cells.stays n a b h));
      stood = λ n a b ne h. e₁.others.cells.stood n a b (e₂.others.cells.stood n a b (k.stood n a b ne h));
    }

pub returns-clause-fits : goal.returns-clause-fits
returns-clause-fits c =
    let s = c.args.self.now in
    let t = c.factor-factor.new.self in
    let e₁ = c.spread.ensures.entries in
    let e₂ = c.factor-factor.ensures.entries in
    let same : (a b : ℕ) → held_at t a b ≡ held_at s a b = λ a b. all_entries c.spread.new.self t c.args.pivot e₂ a b ∙ all_entries s c.spread.new.self c.args.row e₁ a b in
    let apart : c.args.row ≢ c.args.pivot = λ z. c.requires.other (sym z) in
    let one : scale_at t.dens.items c.args.row ≡ None = e₂.others.scales c.args.row apart ∙ c.spread.ensures.den in
    let wide : length t.web.col_heads.items ≡ length s.web.col_heads.items = e₂.others.sizes.width ∙ e₁.others.sizes.width in
    let product : (k : ℕ) → value c.factor-factor.result *ℚ entry_at t.web.nodes.items c.args.pivot k ≡ held_at s c.args.row c.args.col *ℚ held_at s c.args.pivot k =
    λ k. c.factor-factor.ensures.factor k ∙ ap₂ ◌*ℚ◌ (all_entries s c.spread.new.self c.args.row e₁ c.args.row c.args.col) (all_entries s c.spread.new.self c.args.row e₁ c.args.pivot k) in
    let fit : c.reduce_row.result ≡ steps_fit (held_at s) (length s.web.col_heads.items) c.args.pivot c.args.col c.args.row =
    c.reduce_row.ensures.fits ∙ ap (λ z. reductions_fit t.web.nodes.items c.args.row c.args.pivot c.args.col (value c.factor-factor.result) z) wide
    ∙ fractions_fit s t c.args.row c.args.pivot c.args.col same one (value c.factor-factor.result) product (length s.web.col_heads.items) in
    sym c.if-not-reduce_row.false ∙ fit

pub returns-clause-reduced : goal.returns-clause-reduced
returns-clause-reduced c _ k lk =
    let s = c.args.self.now in
    let t = c.factor-factor.new.self in
    let e₁ = c.spread.ensures.entries in
    let e₂ = c.factor-factor.ensures.entries in
    let same : (a b : ℕ) → held_at t a b ≡ held_at s a b = λ a b. all_entries c.spread.new.self t c.args.pivot e₂ a b ∙ all_entries s c.spread.new.self c.args.row e₁ a b in
    let apart : c.args.row ≢ c.args.pivot = λ z. c.requires.other (sym z) in
    let one : scale_at t.dens.items c.args.row ≡ None = e₂.others.scales c.args.row apart ∙ c.spread.ensures.den in
    let wide : length t.web.col_heads.items ≡ length s.web.col_heads.items = e₂.others.sizes.width ∙ e₁.others.sizes.width in
    let product : (k : ℕ) → value c.factor-factor.result *ℚ entry_at t.web.nodes.items c.args.pivot k ≡ held_at s c.args.row c.args.col *ℚ held_at s c.args.pivot k =
    λ k. c.factor-factor.ensures.factor k ∙ ap₂ ◌*ℚ◌ (all_entries s c.spread.new.self c.args.row e₁ c.args.row c.args.col) (all_entries s c.spread.new.self c.args.row e₁ c.args.pivot k) in
    c.gather.ensures.here k ∙ held-none _ c.args.row k one ∙ c.reduce_row.ensures.reduced c.if-not-reduce_row.false k (omega arith)
    ∙ fractions_after s t c.args.row c.args.pivot c.args.col same one (value c.factor-factor.result) product k

pub returns-clause-others : goal.returns-clause-others
returns-clause-others c =
    let s = c.args.self.now in
    let t = c.factor-factor.new.self in
    let e₁ = c.spread.ensures.entries in
    let e₂ = c.factor-factor.ensures.entries in
    let same : (a b : ℕ) → held_at t a b ≡ held_at s a b = λ a b. all_entries c.spread.new.self t c.args.pivot e₂ a b ∙ all_entries s c.spread.new.self c.args.row e₁ a b in
    let apart : c.args.row ≢ c.args.pivot = λ z. c.requires.other (sym z) in
    let one : scale_at t.dens.items c.args.row ≡ None = e₂.others.scales c.args.row apart ∙ c.spread.ensures.den in
    let wide : length t.web.col_heads.items ≡ length s.web.col_heads.items = e₂.others.sizes.width ∙ e₁.others.sizes.width in
    let product : (k : ℕ) → value c.factor-factor.result *ℚ entry_at t.web.nodes.items c.args.pivot k ≡ held_at s c.args.row c.args.col *ℚ held_at s c.args.pivot k =
    λ k. c.factor-factor.ensures.factor k ∙ ap₂ ◌*ℚ◌ (all_entries s c.spread.new.self c.args.row e₁ c.args.row c.args.col) (all_entries s c.spread.new.self c.args.row e₁ c.args.pivot k) in
    let k = c.reduce_row.ensures.others in
    let p = c.gather.ensures.others.cells in
    record {
      entries = λ a b ne. c.gather.ensures.others.entries a b ne ∙ held-kept t _ a b refl (k.entries a b ne) ∙ same a b;
      stays = λ n a b ne h. p.stays n a b (k.stays n a b ne (e₂.others.cells.stays n a b (e₁.others.cells.stays n a b h)));
      stood = λ n a b ne h. e₁.others.cells.stood n a b (e₂.others.cells.stood n a b (k.stood n a b ne (p.stood n a b h)));
    }

pub returns-clause-spare : goal.returns-clause-spare
returns-clause-spare c _ =
    let s = c.args.self.now in
    let t = c.factor-factor.new.self in
    let e₁ = c.spread.ensures.entries in
    let e₂ = c.factor-factor.ensures.entries in
    let same : (a b : ℕ) → held_at t a b ≡ held_at s a b = λ a b. all_entries c.spread.new.self t c.args.pivot e₂ a b ∙ all_entries s c.spread.new.self c.args.row e₁ a b in
    let apart : c.args.row ≢ c.args.pivot = λ z. c.requires.other (sym z) in
    let one : scale_at t.dens.items c.args.row ≡ None = e₂.others.scales c.args.row apart ∙ c.spread.ensures.den in
    let wide : length t.web.col_heads.items ≡ length s.web.col_heads.items = e₂.others.sizes.width ∙ e₁.others.sizes.width in
    let product : (k : ℕ) → value c.factor-factor.result *ℚ entry_at t.web.nodes.items c.args.pivot k ≡ held_at s c.args.row c.args.col *ℚ held_at s c.args.pivot k =
    λ k. c.factor-factor.ensures.factor k ∙ ap₂ ◌*ℚ◌ (all_entries s c.spread.new.self c.args.row e₁ c.args.row c.args.col) (all_entries s c.spread.new.self c.args.row e₁ c.args.pivot k) in
    let g = fractions_gaps s t c.args.row c.args.pivot c.args.col same one (value c.factor-factor.result) product (length s.web.col_heads.items) in
    let r = subst (λ z. t.web.spare ≤ c.reduce_row.new.self.spare + row_gaps t.web.nodes.items c.args.row c.args.pivot z) wide (c.reduce_row.ensures.spare c.if-not-reduce_row.false) in
    let q₁ = e₁.others.sizes.spare in
    let q₂ = e₂.others.sizes.spare in
    let q₃ = c.gather.ensures.others.sizes.spare in
    omega arith
