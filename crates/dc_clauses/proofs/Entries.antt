-- The lists of the entry, from a number on.
use Rattle.std.specs.Prelude.{◌≡◌, ℕ, zero, suc, ◌+◌, ◌<◌, ◌&&◌, Bool, true, false, List, [], ◌∷◌, drop, length, slice_get}
use Rattle.std.proofs.Common.{refl, sym, ◌∙◌, ap₂, arith, get_or, drop-cons, add-one}
use Rattle.std.proofs.lemmas.List.{drop-drop}
use Rattle.dc_affine.specs.declared.atom.Atom.{Atom}
use Rattle.dc_cert.specs.declared.sparse.Sparse.{Sparse}
use Rattle.dc_cert.specs.declared.certificate.Liveness.{Liveness}
use Rattle.dc_clauses.specs.Sides.{has_keeps, case_range, entry_fits}

first_dropped : {A : Type 0} (k : ℕ) (xs : List A) → slice_get (drop k xs) 0 ≡ slice_get xs k
first_dropped zero xs = refl
first_dropped (suc k) [] = refl
first_dropped (suc k) (x ∷ xs) = first_dropped k xs

module _ (atoms : List Atom) (cases : List (List Atom)) (when : List Liveness) (keeps : List (List Sparse)) (k : ℕ) (w : Liveness) (ks : List Sparse)
    (l : k < length when) (g : length keeps ≡ length when) (e : w ≡ get_or when k w) (q : ks ≡ get_or keeps k ks) where
  one_case : entry_fits atoms (drop k cases) (drop k when) (drop k keeps)
      ≡ has_keeps w atoms ks && (case_range (slice_get cases k) ks && entry_fits atoms (drop (k + 1) cases) (drop (k + 1) when) (drop (k + 1) keeps))
  one_case =
      ap₂ (entry_fits atoms (drop k cases)) (drop-cons when k w l ∙ ap₂ (λ a i. a ∷ drop i when) (sym e) (sym (add-one k))) (drop-cons keeps k ks (omega arith) ∙ ap₂ (λ a i. a ∷ drop i keeps) (sym q) (sym (add-one k)))
      ∙ ap₂ (λ o cs. has_keeps w atoms ks && (case_range o ks && entry_fits atoms cs (drop (k + 1) when) (drop (k + 1) keeps))) (first_dropped k cases) (drop-drop 1 k cases)

  pub case_more : true ≡ (has_keeps w atoms ks && case_range (slice_get cases k) ks) → entry_fits atoms (drop k cases) (drop k when) (drop k keeps) ≡ entry_fits atoms cases when keeps
      → entry_fits atoms (drop (k + 1) cases) (drop (k + 1) when) (drop (k + 1) keeps) ≡ entry_fits atoms cases when keeps
  case_more t h = by (has_keeps w atoms ks) (case_range (slice_get cases k) ks) t _ (sym one_case ∙ h)
    where
      by : (a b : Bool) → true ≡ (a && b) → (d : Bool) {r : Bool} → (a && (b && d)) ≡ r → d ≡ r
      by true true t d h = h
      by true false t d h = absurd cc
      by false b t d h = absurd cc

  pub case_bars : false ≡ (has_keeps w atoms ks && case_range (slice_get cases k) ks) → entry_fits atoms (drop k cases) (drop k when) (drop k keeps) ≡ entry_fits atoms cases when keeps
      → false ≡ entry_fits atoms cases when keeps
  case_bars t h = by (has_keeps w atoms ks) (case_range (slice_get cases k) ks) t _ (sym one_case ∙ h)
    where
      by : (a b : Bool) → false ≡ (a && b) → (d : Bool) {r : Bool} → (a && (b && d)) ≡ r → false ≡ r
      by true true t d h = absurd cc
      by true false t d h = h
      by false b t d h = h
