use Rattle.std.proofs.Common.{◌≡◌, ◌≤◌, ◌<◌, ◌∙◌, ℕ, true, false, length, arith, sym, subst, ap}
use Rattle.dc_math.specs.Inverse.{◌/ℚ◌}
use Rattle.dc_sparse.specs.Rows.{gaps_in_rows, rows_fit, RowsAreReduced}
use Rattle.dc_sparse.specs.Pivots.{quotients_fit}
use Rattle.dc_sparse.specs.Held.{held_at}
use Rattle.dc_sparse.proofs.PivotSteps.{mid_nonzero, mid_gaps, fit-divided, pivoted-divided, fit-undivided}
use Rattle.dc_sparse.proofs.scaled.Scaled.pivot.Goals as goal

pub reduce_rows-requires-clause-entry : goal.reduce_rows-requires-clause-entry
reduce_rows-requires-clause-entry c =
    let s = c.args.self.now in
    let mid = c.turn.new.self in
    let k = c.turn.ensures.others in
    let wide : length mid.web.col_heads.items ≡ length s.web.col_heads.items = k.sizes.width in
    let tall : length mid.web.row_heads.items ≡ length s.web.row_heads.items = k.sizes.height in
    let fit : quotients_fit (held_at s) (length s.web.col_heads.items) c.args.row c.args.col ≡ true = sym c.turn.ensures.fits ∙ c.if-turn.true in
    let divided : (k : ℕ) → k < length s.web.col_heads.items → held_at mid c.args.row k ≡ held_at s c.args.row k /ℚ held_at s c.args.row c.args.col = c.turn.ensures.divided c.if-turn.true in
    mid_nonzero (held_at s) (held_at mid) (length s.web.col_heads.items) (length s.web.row_heads.items) c.args.row c.args.col c.requires.col c.requires.entry divided k.entries

pub reduce_rows-requires-clause-spare : goal.reduce_rows-requires-clause-spare
reduce_rows-requires-clause-spare c =
    let s = c.args.self.now in
    let mid = c.turn.new.self in
    let k = c.turn.ensures.others in
    let wide : length mid.web.col_heads.items ≡ length s.web.col_heads.items = k.sizes.width in
    let tall : length mid.web.row_heads.items ≡ length s.web.row_heads.items = k.sizes.height in
    let fit : quotients_fit (held_at s) (length s.web.col_heads.items) c.args.row c.args.col ≡ true = sym c.turn.ensures.fits ∙ c.if-turn.true in
    let divided : (k : ℕ) → k < length s.web.col_heads.items → held_at mid c.args.row k ≡ held_at s c.args.row k /ℚ held_at s c.args.row c.args.col = c.turn.ensures.divided c.if-turn.true in
    let g = mid_gaps (held_at s) (held_at mid) (length s.web.col_heads.items) (length s.web.row_heads.items) c.args.row c.args.col c.requires.col c.requires.entry divided k.entries in
    let r = c.requires.spare in
    let e = k.sizes.spare in
    subst (λ z. gaps_in_rows (held_at mid) z c.args.row c.args.col (length mid.web.row_heads.items) ≤ mid.web.spare) (sym wide)
    (subst (λ z. gaps_in_rows (held_at mid) (length s.web.col_heads.items) c.args.row c.args.col z ≤ mid.web.spare) (sym tall) (omega arith))

pub returns-then-turn-clause-fits : goal.returns-then-turn-clause-fits
returns-then-turn-clause-fits c =
    let s = c.args.self.now in
    let mid = c.turn.new.self in
    let k = c.turn.ensures.others in
    let wide : length mid.web.col_heads.items ≡ length s.web.col_heads.items = k.sizes.width in
    let tall : length mid.web.row_heads.items ≡ length s.web.row_heads.items = k.sizes.height in
    let fit : quotients_fit (held_at s) (length s.web.col_heads.items) c.args.row c.args.col ≡ true = sym c.turn.ensures.fits ∙ c.if-turn.true in
    let divided : (k : ℕ) → k < length s.web.col_heads.items → held_at mid c.args.row k ≡ held_at s c.args.row k /ℚ held_at s c.args.row c.args.col = c.turn.ensures.divided c.if-turn.true in
    c.reduce_rows.ensures.fits
    ∙ ap (λ z. rows_fit (held_at mid) z c.args.row c.args.col (length mid.web.row_heads.items)) wide
    ∙ ap (λ z. rows_fit (held_at mid) (length s.web.col_heads.items) c.args.row c.args.col z) tall
    ∙ fit-divided (held_at s) (held_at mid) (length s.web.col_heads.items) (length s.web.row_heads.items) c.args.row c.args.col c.requires.col c.requires.entry divided k.entries fit

pub returns-then-turn-clause-pivoted : goal.returns-then-turn-clause-pivoted
returns-then-turn-clause-pivoted c holds =
    let s = c.args.self.now in
    let mid = c.turn.new.self in
    let k = c.turn.ensures.others in
    let wide : length mid.web.col_heads.items ≡ length s.web.col_heads.items = k.sizes.width in
    let tall : length mid.web.row_heads.items ≡ length s.web.row_heads.items = k.sizes.height in
    let fit : quotients_fit (held_at s) (length s.web.col_heads.items) c.args.row c.args.col ≡ true = sym c.turn.ensures.fits ∙ c.if-turn.true in
    let divided : (k : ℕ) → k < length s.web.col_heads.items → held_at mid c.args.row k ≡ held_at s c.args.row k /ℚ held_at s c.args.row c.args.col = c.turn.ensures.divided c.if-turn.true in
    let new = c.reduce_rows.new.self in
    let r : RowsAreReduced (held_at mid) (held_at new) (length s.web.col_heads.items) c.args.row c.args.col (length s.web.row_heads.items) =
    subst (λ z. RowsAreReduced (held_at mid) (held_at new) z c.args.row c.args.col (length s.web.row_heads.items)) wide
    (subst (λ z. RowsAreReduced (held_at mid) (held_at new) (length mid.web.col_heads.items) c.args.row c.args.col z) tall (c.reduce_rows.ensures.reduced holds)) in
    pivoted-divided (held_at s) (held_at mid) (length s.web.col_heads.items) (length s.web.row_heads.items) c.args.row c.args.col c.requires.col c.requires.entry divided k.entries (held_at new) r

pub returns-then-turn-clause-arena : goal.returns-then-turn-clause-arena
returns-then-turn-clause-arena c = c.reduce_rows.ensures.arena ∙ c.turn.ensures.others.sizes.arena

pub returns-then-turn-clause-height : goal.returns-then-turn-clause-height
returns-then-turn-clause-height c = c.reduce_rows.ensures.height ∙ c.turn.ensures.others.sizes.height

pub returns-then-turn-clause-width : goal.returns-then-turn-clause-width
returns-then-turn-clause-width c = c.reduce_rows.ensures.width ∙ c.turn.ensures.others.sizes.width

pub returns-else-turn-clause-fits : goal.returns-else-turn-clause-fits
returns-else-turn-clause-fits c =
    let s = c.args.self.now in
    let fit : quotients_fit (held_at s) (length s.web.col_heads.items) c.args.row c.args.col ≡ false = sym c.turn.ensures.fits ∙ c.if-turn.false in
    c.if-turn.false ∙ sym (fit-undivided (held_at s) (length s.web.col_heads.items) (length s.web.row_heads.items) c.args.row c.args.col fit)
