-- A row that a location does not have before a round it does not have in it.
use Rattle.std.specs.Prelude.{◌≡◌, ℕ, ◌<◌, List, length, slice_index_or, Option, Some, None}
use Rattle.std.proofs.Common.{refl, sym, ◌∙◌, ap, subst, inl, inr, arith}
use Rattle.std.proofs.lemmas.Bool.{cases_lt}
use Rattle.std.proofs.lemmas.List.{get_or_past, get_or_default}
use Rattle.dc_rows.specs.declared.kinds.Candidates.{Candidates}
use Rattle.dc_rows.specs.Candidate.{AreCandidates}
use Rattle.dc_families.specs.Rounds.{IsWithin}
use Rattle.dc_greatest.specs.declared.family.LocFamily.{LocFamily}
use Rattle.dc_greatest.specs.Kept.{stands_for, IsFrom, IsBelow, IsShaped}
use Rattle.dc_greatest.specs.Bounds.{HasNoMore}
use Rattle.dc_greatest.proofs.Shapes.{nowhere}
use Rattle.dc_greatest.proofs.Bridges.{bound_there}

module _ (n locs : ℕ) (c : Candidates) (kind : AreCandidates n c) (at fs : List LocFamily) (a : IsShaped locs c at) (b : IsShaped locs c fs) (w : IsWithin (stands_for n c fs) (stands_for n c at)) (l : ℕ) (inside : l < locs) where
  there_at : l < length at
  there_at = let e = a.one_each in omega arith

  there_fs : l < length fs
  there_fs = let e = b.one_each in omega arith

  plain : HasNoMore (slice_index_or at l nowhere) (slice_index_or fs l nowhere)
  plain r e = elim (cases_lt r (length c.rows)) [
    | inl i ↦ by (slice_index_or (slice_index_or fs l nowhere).least r None) refl i
    | inr i ↦ get_or_past (slice_index_or fs l nowhere).least r None (let q = b.rows l nowhere inside in omega arith)
  ]
    where
      by : (o : Option ℕ) → slice_index_or (slice_index_or fs l nowhere).least r None ≡ o → r < length c.rows → slice_index_or (slice_index_or fs l nowhere).least r None ≡ None
      by None q i = q
      by (Some m) q i =
          let j : m < length c.bounds = subst (IsBelow (length c.bounds)) q (b.bounds l r nowhere inside i) in
          let x = (bound_there n c kind fs l there_fs r m i j).1 (subst (λ o. IsFrom o m) (sym q) (omega arith)) in
          let y = (bound_there n c kind at l there_at r m i j).0 (w l _ x) in
          absurd (subst (λ o. IsFrom o m) e y)

  pub no_more : (d : LocFamily) → d ≡ slice_index_or fs l d → HasNoMore (slice_index_or at l d) d
  no_more d e r q =
      let x = get_or_default at l nowhere d there_at in
      let y = get_or_default fs l nowhere d there_fs ∙ sym e in
      sym (ap (λ (f : LocFamily). slice_index_or f.least r None) y) ∙ plain r (ap (λ (f : LocFamily). slice_index_or f.least r None) x ∙ q)
