-- The list of a location, row by row.
use Rattle.std.specs.Prelude.{◌≡◌, ℕ, zero, suc, ◌+◌, ◌<◌, List, [], ◌∷◌, ◌++◌, take, length, slice_index_or, Option, None}
use Rattle.std.proofs.Common.{sym, ◌∙◌, ap, arith, append_assoc, append-nil, add-one}
use Rattle.dc_affine.specs.declared.atom.Atom.{Atom}
use Rattle.dc_rows.specs.declared.kinds.Candidates.{Candidates}
use Rattle.dc_rows.specs.Rows.{Row}
use Rattle.dc_greatest.specs.Kept.{with_least, least_rows}

module _ (c : Candidates) where
  next : (rows : List Row) (least : List (Option ℕ)) (k : ℕ) → k < length rows → length least ≡ length rows
      → least_rows c (take (suc k) rows) (take (suc k) least) ≡ least_rows c (take k rows) (take k least) ++ with_least c (slice_index_or rows k []) (slice_index_or least k None)
  next [] least k h e = absurd (omega arith)
  next (r ∷ rows) [] k h e = absurd (omega arith)
  next (r ∷ rows) (o ∷ least) zero h e = append-nil (with_least c r o)
  next (r ∷ rows) (o ∷ least) (suc k) h e =
      ap (λ xs. with_least c r o ++ xs) (next rows least k (omega arith) (omega arith)) ∙ sym (append_assoc (with_least c r o) (least_rows c (take k rows) (take k least)) _)

  pub least_more : (rows : List Row) (least : List (Option ℕ)) (k : ℕ) (xs ys : List Atom) → k < length rows → length least ≡ length rows → xs ≡ least_rows c (take k rows) (take k least)
      → ys ≡ xs ++ with_least c (slice_index_or rows k []) (slice_index_or least k None) → ys ≡ least_rows c (take (k + 1) rows) (take (k + 1) least)
  least_more rows least k xs ys h e x y =
      y ∙ ap (λ zs. zs ++ with_least c (slice_index_or rows k []) (slice_index_or least k None)) x ∙ sym (next rows least k h e)
      ∙ ap (λ j. least_rows c (take j rows) (take j least)) (sym (add-one k))
