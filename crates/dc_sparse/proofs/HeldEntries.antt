-- The entries of a scaled web.
use Rattle.std.proofs.Common.{◌≡◌, ◌≢◌, ℕ, ◌<◌, ◌==◌, inl, inr, length, set, Option, Some, None, refl, sym, ◌∙◌, ap, arith}
use Rattle.std.proofs.lemmas.Bool.{cases_Bool, eqb-true, eqb-false}
use Rattle.dc_math.specs.Rational.{ℚ}
use Rattle.dc_math.specs.Inverse.{◌/ℚ◌}
use Rattle.dc_math.specs.Tests.{is_zero, is_negative}
use Rattle.dc_frac.specs.declared.Frac.{Frac}
use Rattle.dc_frac.specs.Value.{value}
use Rattle.dc_frac.specs.Fits.{IsWithin}
use Rattle.dc_sparse.specs.declared.web.Web.{Web}
use Rattle.dc_sparse.specs.declared.scaled.Scaled.{Scaled}
use Rattle.dc_sparse.specs.Entries.{entry_at, KeepsCells}
use Rattle.dc_sparse.specs.Rows.{KeepsRows}
use Rattle.dc_sparse.specs.Scales.{IsWhole, IsDen, scale_at, den_of, scaled_at}
use Rattle.dc_sparse.specs.Held.{height_of, held_at, KeepsSizes, KeepsOthers, TakesOver, KeepsEntries}
use Rattle.dc_sparse.proofs.Scaling.{scaled-zero, scaled-negative, scaled-none, scaled-some, scaled-kept, row_scaled, row_within, scale-here, scale-elsewhere}

module _ (s : Scaled) (i k : ℕ) where
  pub held-zero : is_zero (held_at s i k) ≡ is_zero (entry_at s.web.nodes.items i k)
  unfolding held_at
  held-zero = scaled-zero s.web.nodes.items s.dens.items (length s.web.row_heads.items) s.scaled i k

  pub held-negative : is_negative (held_at s i k) ≡ is_negative (entry_at s.web.nodes.items i k)
  unfolding held_at
  held-negative = scaled-negative s.web.nodes.items s.dens.items (length s.web.row_heads.items) s.scaled i k

  pub held-none : scale_at s.dens.items i ≡ None → held_at s i k ≡ entry_at s.web.nodes.items i k
  unfolding held_at
  held-none e = scaled-none s.web.nodes.items s.dens.items i k e

  pub held-some : (d : Frac) → scale_at s.dens.items i ≡ Some d → held_at s i k ≡ entry_at s.web.nodes.items i k /ℚ value d
  unfolding held_at
  held-some d e = scaled-some s.web.nodes.items s.dens.items i k d e

  pub held-within : (d : Frac) → scale_at s.dens.items i ≡ Some d → IsWithin 41 (held_at s i k)
  unfolding held_at
  held-within d e = row_within s.web.nodes.items s.dens.items (length s.web.row_heads.items) s.scaled i d e k

pub whole_row : (s : Scaled) (i : ℕ) (d : Frac) → scale_at s.dens.items i ≡ Some d → IsDen (value d) × ((k : ℕ) → IsWhole 41 (entry_at s.web.nodes.items i k))
whole_row s i d e = row_scaled s.web.nodes.items s.dens.items (length s.web.row_heads.items) s.scaled i d e

pub held-kept : (s t : Scaled) (i k : ℕ) → scale_at t.dens.items i ≡ scale_at s.dens.items i → entry_at t.web.nodes.items i k ≡ entry_at s.web.nodes.items i k → held_at t i k ≡ held_at s i k
unfolding held_at
held-kept s t i k e f = scaled-kept s.web.nodes.items t.web.nodes.items s.dens.items t.dens.items i k e f

-- row i is written anew with a denominator
module _ (s t : Scaled) (i : ℕ) (o : Option Frac) (lt : i < height_of s.web) (dens : t.dens.items ≡ set s.dens.items i o) (rows : KeepsRows s.web.nodes.items t.web.nodes.items i) where
  inside : i < length s.dens.items
  inside = (let l = s.scaled.long in omega arith)

  new_scale : scale_at t.dens.items i ≡ o
  new_scale = ap (λ ds. scale_at ds i) dens ∙ scale-here s.dens.items i o inside

  old_scale : (a : ℕ) → a ≢ i → scale_at t.dens.items a ≡ scale_at s.dens.items a
  old_scale a ne = ap (λ ds. scale_at ds a) dens ∙ scale-elsewhere s.dens.items i o a inside ne

  pub rewritten : KeepsCells s.web.nodes.items t.web.nodes.items → KeepsSizes s.web t.web → KeepsOthers s t i
  rewritten cells sizes = record {
    entries = λ a b ne. held-kept s t a b (old_scale a ne) (rows.entries a b ne);
    scales = old_scale;
    cells = cells;
    sizes = sizes;
  }

  pub taken_over : (by : ℚ) → ((k : ℕ) → entry_at t.web.nodes.items i k /ℚ den_of o ≡ entry_at s.web.nodes.items i k /ℚ by) → KeepsCells s.web.nodes.items t.web.nodes.items → KeepsSizes s.web t.web → TakesOver s t i by
  unfolding held_at scaled_at
  taken_over by e cells sizes = record {
    here = λ k. ap (λ (p : Option Frac). entry_at t.web.nodes.items i k /ℚ den_of p) new_scale ∙ e k;
    others = rewritten cells sizes;
  }

pub same_sizes : (w : Web) → KeepsSizes w w
same_sizes w = record { spare = refl; arena = refl; height = refl; width = refl }

pub sizes_on : (u v w : Web) → KeepsSizes u v → KeepsSizes v w → KeepsSizes u w
sizes_on u v w h k = record { spare = k.spare ∙ h.spare; arena = k.arena ∙ h.arena; height = k.height ∙ h.height; width = k.width ∙ h.width }

pub others_same : (s : Scaled) (i : ℕ) → KeepsOthers s s i
others_same s i = record {
  entries = λ a b ne. refl;
  scales = λ a ne. refl;
  cells = record { stays = λ n a b h. h; stood = λ n a b h. h };
  sizes = same_sizes s.web;
}

pub others_on : (s t u : Scaled) (i : ℕ) → KeepsOthers s t i → KeepsOthers t u i → KeepsOthers s u i
others_on s t u i h k = record {
  entries = λ a b ne. k.entries a b ne ∙ h.entries a b ne;
  scales = λ a ne. k.scales a ne ∙ h.scales a ne;
  cells = record { stays = λ n a b p. k.cells.stays n a b (h.cells.stays n a b p); stood = λ n a b p. h.cells.stood n a b (k.cells.stood n a b p) };
  sizes = sizes_on s.web t.web u.web h.sizes k.sizes;
}

-- all entries, row i's too
pub all_entries : (s t : Scaled) (i : ℕ) → KeepsEntries s t i → (a b : ℕ) → held_at t a b ≡ held_at s a b
all_entries s t i h a b = elim (cases_Bool (a == i)) [
  | inl q ↦ (let same : a ≡ i = eqb-true a i q in ap (λ x. held_at t x b) same ∙ h.here b ∙ ap (λ x. held_at s x b) (sym same))
  | inr q ↦ h.others.entries a b (eqb-false a i q)
]
