-- What an arena that only grows keeps of the table.
use Rattle.std.proofs.Common.{◌≡◌, ◌∙◌, ℕ, List, Bool, Option, Some, true, false, ap}
use Rattle.std.proofs.lemmas.Option.{same_Some}
use Rattle.dc_math.specs.Rational.{ℚ}
use Rattle.dc_lp.specs.Tables.{Table}
use Rattle.dc_lp.specs.Meanings.{Meaning, ready_at}
use Rattle.dc_lp.specs.Fill.{gaps}
use Rattle.dc_sparse.specs.Pivots.{grid}
use Rattle.dc_sparse.proofs.Tables.{grid-same}

pub same_gaps : (real : ℕ) (rows rows' : List (List ℚ)) (basis : List ℕ) (r j : ℕ) → rows' ≡ rows
    → gaps (record { real = real; rows = rows'; basis = basis }) r j ≡ gaps (record { real = real; rows = rows; basis = basis }) r j
same_gaps real rows rows' basis r j e = ap (λ (rs : List (List ℚ)). let t : Table ℚ = record { real = real; rows = rs; basis = basis } in gaps t r j) e

-- the same table in other sizes that are equal
pub keeps_grid : (e f : ℕ → ℕ → ℚ) (h h' w w' : ℕ) → h' ≡ h → w' ≡ w → ((i k : ℕ) → f i k ≡ e i k) → grid h' w' f ≡ grid h w e
keeps_grid e f h h' w w' eh ew k = ap (λ z. grid z w' f) eh ∙ ap (λ z. grid h z f) ew ∙ grid-same h w e f (λ i j li lj. k i j)

pub same_meaning : (loaded broken : Bool) (ready : Option (ℕ × ℕ)) (real : ℕ) (rows rows' : List (List ℚ)) (basis : List ℕ) → rows' ≡ rows
    → ◌≡◌ {A = Meaning} (record { loaded = loaded; broken = broken; ready = ready; table = record { real = real; rows = rows'; basis = basis } }) (record { loaded = loaded; broken = broken; ready = ready; table = record { real = real; rows = rows; basis = basis } })
same_meaning loaded broken ready real rows rows' basis e = ap (λ (rs : List (List ℚ)). let m : Meaning = record { loaded = loaded; broken = broken; ready = ready; table = record { real = real; rows = rs; basis = basis } } in m) e

pub ready_meaning : (loaded broken : Bool) (r j real : ℕ) (rows rows' : List (List ℚ)) (basis : List ℕ) → loaded ≡ true → broken ≡ false → rows' ≡ rows
    → ◌≡◌ {A = Meaning} (record { loaded = loaded; broken = broken; ready = Some (r, j); table = record { real = real; rows = rows'; basis = basis } }) (ready_at (record { real = real; rows = rows; basis = basis }) r j)
ready_meaning loaded broken r j real rows rows' basis l b e =
    let M : Bool → Bool → List (List ℚ) → Meaning = λ x y rs. record { loaded = x; broken = y; ready = Some (r, j); table = record { real = real; rows = rs; basis = basis } } in
    ap (λ x. M x broken rows') l ∙ ap (λ y. M true y rows') b ∙ ap (M true false) e

pub pair_left : (a b r j : ℕ) → ◌≡◌ {A = Option (ℕ × ℕ)} (Some (a, b)) (Some (r, j)) → a ≡ r
pair_left a b r j e = ap (λ (p : ℕ × ℕ). p.0) (same_Some (a, b) (r, j) e)

pub pair_right : (a b r j : ℕ) → ◌≡◌ {A = Option (ℕ × ℕ)} (Some (a, b)) (Some (r, j)) → b ≡ j
pair_right a b r j e = ap (λ (p : ℕ × ℕ). p.1) (same_Some (a, b) (r, j) e)
