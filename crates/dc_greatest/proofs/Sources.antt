-- What the code reads at a location.
use Rattle.std.specs.Prelude.{◌≡◌, ℕ, ◌<◌, Bool, true, false, cond, is_some, List, [], ◌∷◌, length, slice_index_or, Option, Some, None}
use Rattle.std.specs.Option.{option_map}
use Rattle.std.proofs.Common.{refl, sym, ◌∙◌, ap, subst, arith}
use Rattle.std.proofs.lemmas.List.{get_or_default}
use Rattle.dc_rows.specs.declared.kinds.Candidates.{Candidates}
use Rattle.dc_rows.specs.Candidate.{bound_at, AreCandidates}
use Rattle.dc_families.specs.Graphs.{Graph}
use Rattle.dc_families.specs.Families.{never, least_in, atoms_at}
use Rattle.dc_families.proofs.Lists.{differ}
use Rattle.dc_greatest.specs.declared.family.LocFamily.{LocFamily}
use Rattle.dc_greatest.specs.Kept.{stands_for, least_rows, list_in, IsFit, IsShaped}
use Rattle.dc_greatest.proofs.Shapes.{nowhere}
use Rattle.dc_greatest.proofs.Bridges.{never_there, least_is_number, lists_are_least}

module _ (s : Graph) (c : Candidates) (fs : List LocFamily) (kind : AreCandidates s.vars c) (shape : IsShaped s.locs c fs) (l : ℕ) (inside : l < s.locs) (d : LocFamily) (is : d ≡ slice_index_or fs l d) where
  there : l < length fs
  there = let e = shape.one_each in omega arith

  same : slice_index_or fs l nowhere ≡ d
  same = get_or_default fs l nowhere d there ∙ sym is

  pub source_fit : IsFit c d
  source_fit = subst (IsFit c) (sym is) (record { rows = shape.rows l d inside; bounds = λ r o. shape.bounds l r d inside o })

  pub source_never : d.dead ≡ true → stands_for s.vars c fs l (never s.vars) ≡ true
  source_never e = (never_there s.vars c kind fs l there).1 (ap (λ (f : LocFamily). f.dead) same ∙ e)

  pub source_alive : d.dead ≡ false → stands_for s.vars c fs l (never s.vars) ≡ false
  source_alive e = by (stands_for s.vars c fs l (never s.vars)) refl
    where
      by : (b : Bool) → stands_for s.vars c fs l (never s.vars) ≡ b → stands_for s.vars c fs l (never s.vars) ≡ false
      by true t = differ (sym ((never_there s.vars c kind fs l there).0 t) ∙ ap (λ (f : LocFamily). f.dead) same ∙ e)
      by false t = t

  pub source_list : d.dead ≡ false → least_rows c c.rows d.least ≡ atoms_at s.vars c (stands_for s.vars c fs) l
  source_list e = sym (lists_are_least s c fs l d kind shape inside ∙ ap (list_in s.vars c) (sym is) ∙ ap (λ b. cond b (never s.vars ∷ []) (least_rows c c.rows d.least)) e)

  mapped : (o : Option ℕ) → is_some (option_map (bound_at c) o) ≡ is_some o
  mapped None = refl
  mapped (Some k) = refl

  pub source_kept : (r : ℕ) → r < length c.rows → is_some (least_in c (stands_for s.vars c fs) l r) ≡ is_some (slice_index_or d.least r None)
  source_kept r h =
      ap is_some (least_is_number s.vars s.locs c fs kind shape l inside r h) ∙ mapped (slice_index_or (slice_index_or fs l nowhere).least r None)
      ∙ ap (λ (f : LocFamily). is_some (slice_index_or f.least r None)) same

pub none_of : {A : Type 0} (o : Option A) → is_some o ≡ false → o ≡ None
none_of None e = refl
none_of (Some x) e = differ e
