-- Numbers and atoms: rows differ and bounds rise, so a row's bound by its numbers is one atom, and the least bounds tell what a family has.
use Rattle.std.specs.Prelude.{◌≡◌, ◌↔◌, ℕ, zero, suc, ◌+◌, ◌<◌, ◌≤◌, Bool, true, false, cond, not, is_some, List, [], ◌∷◌, map, filter, find, length, replicate, slice_index_or, ℤ, pos, ◌≤ℤ◌, ◌<ℤ◌, Option, Some, None}
use Rattle.std.specs.List.{range_with_len, list_all}
use Rattle.std.specs.Ordering.{int_eq}
use Rattle.std.specs.Option.{option_map}
use Rattle.std.proofs.Common.{refl, sym, ◌∙◌, ap, ap₂, subst, inl, inr, arith}
use Rattle.std.proofs.lemmas.Bool.{cases_lt}
use Rattle.std.proofs.lemmas.Int.{ints}
use Rattle.std.specs.Cmp.{both_ways}
use Rattle.dc_math.specs.Members.{Among, head, each_at, among_at, at_among}
use Rattle.dc_affine.specs.declared.atom.Atom.{Atom}
use Rattle.dc_rows.specs.declared.kinds.Candidates.{Candidates}
use Rattle.dc_rows.specs.Rows.{Row, is_nonzero}
use Rattle.dc_rows.specs.Candidate.{row_at, bound_at, IsRow, AreCandidates}
use Rattle.dc_families.specs.Families.{Family, never, bounded, candidate_atoms, least_in, kept_rows, or_zero, least_atom, atoms_at}
use Rattle.dc_families.specs.Graphs.{Graph}
use Rattle.dc_families.specs.Rounds.{IsWithin, HasCandidates}
use Rattle.dc_families.specs.Laws.{IsUpward}
use Rattle.dc_families.proofs.Lists.{differ, same_lists}
use Rattle.dc_families.proofs.Tests.{bounded_candidate, in_everything}
use Rattle.dc_greatest.specs.declared.family.LocFamily.{LocFamily}
use Rattle.dc_greatest.specs.Kept.{stands_for, least_rows, list_in, IsFrom, IsBelow, IsShaped}
use Rattle.dc_greatest.proofs.Shapes.{nowhere, atom_of, IsKept, kept_never, kept_bound, stands_is, is_stands}
use Rattle.dc_greatest.specs.Laws.{ShapesAreFamilies, OneShape, ListsAreLeast}

-- ---- false is no row
no_zeros : (n : ℕ) → list_all (λ c. int_eq c (pos 0)) (replicate n (pos 0)) ≡ true
no_zeros zero = refl
no_zeros (suc n) = no_zeros n

same_coefs : (a b : Atom) → a ≡ b → a.coefs ≡ b.coefs
same_coefs a b e = ap (λ (x : Atom). x.coefs) e

same_constant : (a b : Atom) → a ≡ b → a.c0 ≡ b.c0
same_constant a b e = ap (λ (x : Atom). x.c0) e

module _ (n : ℕ) (c : Candidates) (kind : AreCandidates n c) where
  never_row : (r k : ℕ) → r < length c.rows → ¬ (never n ≡ atom_of c c.rows r k)
  never_row r k h e =
      let s = same_coefs (never n) (atom_of c c.rows r k) e in
      let z = (each_at (IsRow n) c.rows r [] kind.rows h).some in
      differ (sym (subst (λ row. is_nonzero row ≡ true) (sym s) z) ∙ ap not (no_zeros n))

  one_row : (r i : ℕ) → r < length c.rows → i < length c.rows → row_at c r ≡ row_at c i → r ≡ i
  one_row r i h l e = elim (cases_lt r i) [
    | inl m ↦ absurd (kind.different r i m l e)
    | inr m ↦ elim (cases_lt i r) [ inl k ↦ absurd (kind.different i r k h (sym e)) | inr k ↦ omega arith ]
  ]

  not_below : (x y : ℤ) → x ≡ y → x <ℤ y → ⊥
  not_below x y e h = omega (arith, ints)

  one_bound : (k i : ℕ) → k < length c.bounds → i < length c.bounds → bound_at c k ≡ bound_at c i → k ≡ i
  one_bound k i h l e = elim (cases_lt k i) [
    | inl m ↦ absurd (not_below _ _ e (kind.rising k i m l))
    | inr m ↦ elim (cases_lt i k) [ inl j ↦ absurd (not_below _ _ (sym e) (kind.rising i k j h)) | inr j ↦ omega arith ]
  ]

  -- ---- what a location has, by numbers
  module _ (fs : List LocFamily) (l : ℕ) (inside : l < length fs) where
    abbrev here : LocFamily
    here = slice_index_or fs l nowhere

    pub never_there : stands_for n c fs l (never n) ≡ true ↔ (here.dead ≡ true)
    never_there = ((λ t. by (stands_is n c fs l (never n) t).1), (λ t. is_stands n c fs l (never n) inside (kept_never t refl)))
      where
        by : IsKept n c here (never n) → here.dead ≡ true
        by (kept_never e q) = e
        by (kept_bound r k h j f q) = absurd (never_row r k h q)

    pub bound_there : (r k : ℕ) → r < length c.rows → k < length c.bounds → stands_for n c fs l (bounded (row_at c r) (bound_at c k)) ≡ true ↔ IsFrom (slice_index_or here.least r None) k
    bound_there r k h j = (
      (λ t. by (stands_is n c fs l (atom_of c c.rows r k) t).1),
      (λ f. is_stands n c fs l (atom_of c c.rows r k) inside (kept_bound r k h j f refl)),
    )
      where
        by : IsKept n c here (atom_of c c.rows r k) → IsFrom (slice_index_or here.least r None) k
        by (kept_never e q) = absurd (never_row r k h (sym q))
        by (kept_bound i m a b f q) =
            let s = one_row i r a h (sym (same_coefs _ _ q)) in
            let t = one_bound m k b j (sym (same_constant _ _ q)) in
            subst (λ x. IsFrom (slice_index_or here.least r None) x) t (subst (λ x. IsFrom (slice_index_or here.least x None) m) s f)

-- ---- what the code keeps is a family of candidates whose rows go up
from_up : (o : Option ℕ) (i k : ℕ) → i ≤ k → IsFrom o i → IsFrom o k
from_up None i k h f = f
from_up (Some m) i k h f = omega arith

back_order : (n : ℕ) (c : Candidates) → AreCandidates n c → (i k : ℕ) → i < length c.bounds → bound_at c i ≤ℤ bound_at c k → k < length c.bounds → i ≤ k
back_order n c kind i k h e l = elim (cases_lt k i) [
  | inl m ↦ absurd (not_both (bound_at c i) (bound_at c k) e (kind.rising k i m h))
  | inr m ↦ m
]
  where
    not_both : (x y : ℤ) → x ≤ℤ y → y <ℤ x → ⊥
    not_both x y h k = omega (arith, ints)

module _ (s : Graph) (c : Candidates) (fs : List LocFamily) (kind : AreCandidates s.vars c) (shape : IsShaped s.locs c fs) where
  candidates : HasCandidates s c (stands_for s.vars c fs)
  candidates l a t =
      let k = stands_is s.vars c fs l a t in
      in_everything s c l a (let q = shape.one_each in let h = k.0 in omega arith) (by k.1)
    where
      by : IsKept s.vars c (slice_index_or fs l nowhere) a → Among a (candidate_atoms s.vars c)
      by (kept_never e q) = subst (λ x. Among x (candidate_atoms s.vars c)) (sym q) head
      by (kept_bound r k h j f q) = subst (λ x. Among x (candidate_atoms s.vars c)) (sym q) (bounded_candidate s.vars c (row_at c r) (bound_at c k) (at_among [] c.rows r h) (at_among (pos 0) c.bounds k j))

  upward : IsUpward c (stands_for s.vars c fs)
  upward l r b d m i j h t =
      let x = among_at r [] c.rows m in
      let y = among_at b (pos 0) c.bounds i in
      let z = among_at d (pos 0) c.bounds j in
      let i' = (stands_is s.vars c fs l (bounded r b) t).0 in
      let q = sym (ap₂ bounded x.2 y.2) in
      let t' : stands_for s.vars c fs l (atom_of c c.rows x.0 y.0) ≡ true = subst (λ a. stands_for s.vars c fs l a ≡ true) q t in
      let f = (bound_there s.vars c kind fs l i' x.0 y.0 x.1 y.1).0 t' in
      let o = back_order s.vars c kind y.0 z.0 y.1 (subst (λ v. bound_at c y.0 ≤ℤ v) (sym z.2) (subst (λ v. v ≤ℤ d) (sym y.2) h)) z.1 in
      let g = (bound_there s.vars c kind fs l i' x.0 z.0 x.1 z.1).1 (from_up _ y.0 z.0 o f) in
      subst (λ a. stands_for s.vars c fs l a ≡ true) (ap₂ bounded x.2 z.2) g

pub shapes_are_families : ShapesAreFamilies
shapes_are_families s c fs kind shape = (candidates s c fs kind shape, upward s c fs kind shape)

-- ---- the first bound that passes, by numbers
find_number : (p : ℤ → Bool) (bs : List ℤ) (o : Option ℕ) → ((k : ℕ) → k < length bs → p (slice_index_or bs k (pos 0)) ≡ true ↔ IsFrom o k) → IsBelow (length bs) o
    → find p bs ≡ option_map (λ k. slice_index_or bs k (pos 0)) o
find_number p [] None h w = refl
find_number p [] (Some k) h w = absurd (omega arith)
find_number p (b ∷ bs) None h w = by (p b) refl (find_number p bs None (λ k l. h (suc k) (omega arith)) tt)
  where
    by : (v : Bool) → p b ≡ v → find p bs ≡ None → cond v (Some b) (find p bs) ≡ None
    by true e f = absurd ((h 0 (omega arith)).0 e)
    by false e f = f
find_number p (b ∷ bs) (Some zero) h w = rw ((h 0 (omega arith)).1 (omega arith)) refl
find_number p (b ∷ bs) (Some (suc i)) h w =
    by (p b) refl (find_number p bs (Some i) (λ k l. let g = h (suc k) (omega arith) in ((λ t. let q = g.0 t in omega arith), (λ q. g.1 (omega arith)))) (omega arith))
  where
    by : (v : Bool) → p b ≡ v → find p bs ≡ Some (slice_index_or bs i (pos 0)) → cond v (Some b) (find p bs) ≡ Some (slice_index_or bs i (pos 0))
    by true e f = absurd (let q = (h 0 (omega arith)).0 e in omega arith)
    by false e f = f

module _ (n locs : ℕ) (c : Candidates) (fs : List LocFamily) (kind : AreCandidates n c) (shape : IsShaped locs c fs) (l : ℕ) (inside : l < locs) where
  abbrev J : Family
  J = stands_for n c fs

  abbrev f : LocFamily
  f = slice_index_or fs l nowhere

  there : l < length fs
  there = let e = shape.one_each in omega arith

  pub least_is_number : (r : ℕ) → r < length c.rows → least_in c J l r ≡ option_map (bound_at c) (slice_index_or f.least r None)
  least_is_number r h = find_number (λ b. J l (bounded (row_at c r) b)) c.bounds (slice_index_or f.least r None) (λ k j. bound_there n c kind fs l there r k h j) (shape.bounds l r nowhere inside h)

  -- the rows from a number on
  rows_from_number : (a : ℕ) (rows : List Row) (least : List (Option ℕ)) → length least ≡ length rows
      → ((i : ℕ) → i < length rows → (row_at c (a + i) ≡ slice_index_or rows i []) × (least_in c J l (a + i) ≡ option_map (bound_at c) (slice_index_or least i None)))
      → map (least_atom c J l) (filter (λ r. is_some (least_in c J l r)) (range_with_len a (length rows))) ≡ least_rows c rows least
  rows_from_number a [] least e h = refl
  rows_from_number a (row ∷ rows) [] e h = absurd (omega arith)
  rows_from_number a (row ∷ rows) (o ∷ least) e h =
      let rest = rows_from_number (a + 1) rows least (omega arith) (λ i k.
      let g = h (suc i) (omega arith) in
      let s : a + suc i ≡ a + 1 + i = omega arith in
      subst (λ j. (row_at c j ≡ slice_index_or rows i []) × (least_in c J l j ≡ option_map (bound_at c) (slice_index_or least i None))) s g) in
      let g = h 0 (omega arith) in
      let z : a + 0 ≡ a = omega arith in
      by o (subst (λ j. row_at c j ≡ row) z g.0) (subst (λ j. least_in c J l j ≡ option_map (bound_at c) o) z g.1) rest
    where
      rest_rows : List ℕ
      rest_rows = filter (λ r. is_some (least_in c J l r)) (range_with_len (a + 1) (length rows))

      by : (o : Option ℕ) → row_at c a ≡ row → least_in c J l a ≡ option_map (bound_at c) o → map (least_atom c J l) (filter (λ r. is_some (least_in c J l r)) (range_with_len (a + 1) (length rows))) ≡ least_rows c rows least
          → map (least_atom c J l) (cond (is_some (least_in c J l a)) (a ∷ filter (λ r. is_some (least_in c J l r)) (range_with_len (a + 1) (length rows))) (filter (λ r. is_some (least_in c J l r)) (range_with_len (a + 1) (length rows)))) ≡ least_rows c (row ∷ rows) (o ∷ least)
      by None q g rest = ap (λ v. map (least_atom c J l) (cond (is_some v) (a ∷ filter (λ r. is_some (least_in c J l r)) (range_with_len (a + 1) (length rows))) (filter (λ r. is_some (least_in c J l r)) (range_with_len (a + 1) (length rows))))) g ∙ rest
      by (Some k) q g rest =
          ap (λ v. map (least_atom c J l) (cond (is_some v) (a ∷ filter (λ r. is_some (least_in c J l r)) (range_with_len (a + 1) (length rows))) (filter (λ r. is_some (least_in c J l r)) (range_with_len (a + 1) (length rows))))) g
          ∙ ap₂ ◌∷◌ (ap₂ (λ x y. bounded x (or_zero y)) q g) rest

  list_is : atoms_at n c J l ≡ list_in n c f
  list_is = by (J l (never n)) f.dead (never_there n c kind fs l there)
      (rows_from_number 0 c.rows f.least (shape.rows l nowhere inside) (λ i k. let z : 0 + i ≡ i = omega arith in subst (λ j. (row_at c j ≡ row_at c i) × (least_in c J l j ≡ option_map (bound_at c) (slice_index_or f.least i None))) (sym z) (refl, least_is_number i k)))
    where
      by : (v w : Bool) → (v ≡ true) ↔ (w ≡ true) → map (least_atom c J l) (kept_rows c J l) ≡ least_rows c c.rows f.least
          → cond v (never n ∷ []) (map (least_atom c J l) (kept_rows c J l)) ≡ cond w (never n ∷ []) (least_rows c c.rows f.least)
      by true true h e = refl
      by true false h e = differ (sym (h.0 refl))
      by false true h e = differ (sym (h.1 refl))
      by false false h e = e

same_slice : {A : Type 0} (xs : List A) (i : ℕ) (a b : A) → i < length xs → slice_index_or xs i a ≡ slice_index_or xs i b
same_slice [] i a b h = absurd (omega arith)
same_slice (x ∷ xs) zero a b h = refl
same_slice (x ∷ xs) (suc i) a b h = same_slice xs i a b (omega arith)

pub lists_are_least : ListsAreLeast
lists_are_least s c fs l d kind shape inside =
    list_is s.vars s.locs c fs kind shape l inside ∙ ap (list_in s.vars c) (same_slice fs l nowhere d (there s.vars s.locs c fs kind shape l inside))

-- ---- one form for each family
same_option : (n : ℕ) (o p : Option ℕ) → IsBelow n o → IsBelow n p → ((k : ℕ) → k < n → IsFrom o k ↔ IsFrom p k) → o ≡ p
same_option n None None a b h = refl
same_option n None (Some k) a b h = absurd ((h k b).1 (omega arith))
same_option n (Some i) None a b h = absurd ((h i a).0 (omega arith))
same_option n (Some i) (Some k) a b h = let x = (h i a).0 (omega arith) in let y = (h k b).1 (omega arith) in let e : i ≡ k = omega arith in ap Some e

module _ (n locs : ℕ) (c : Candidates) (fs gs : List LocFamily) (kind : AreCandidates n c) (a : IsShaped locs c fs) (b : IsShaped locs c gs)
    (h : IsWithin (stands_for n c fs) (stands_for n c gs)) (k : IsWithin (stands_for n c gs) (stands_for n c fs)) where
  same_at : (l : ℕ) → l < locs → slice_index_or fs l nowhere ≡ slice_index_or gs l nowhere
  same_at l i =
      let x : l < length fs = let e = a.one_each in omega arith in
      let y : l < length gs = let e = b.one_each in omega arith in
      let u = never_there n c kind fs l x in
      let v = never_there n c kind gs l y in
      ap₂ (λ (d : Bool) (os : List (Option ℕ)). record { dead = d; least = os })
      (both_ways _ _ (λ t. v.0 (h l (never n) (u.1 t))) (λ t. u.0 (k l (never n) (v.1 t))))
      (same_lists None _ _ (a.rows l nowhere i ∙ sym (b.rows l nowhere i)) (λ r m.
      let q : r < length c.rows = let e = a.rows l nowhere i in omega arith in
      same_option (length c.bounds) _ _ (a.bounds l r nowhere i q) (b.bounds l r nowhere i q) (λ m j.
      let f = bound_there n c kind fs l x r m q j in
      let g = bound_there n c kind gs l y r m q j in
      ((λ t. g.0 (h l _ (f.1 t))), (λ t. f.0 (k l _ (g.1 t)))))))

  pub one_shape : fs ≡ gs
  one_shape = same_lists nowhere fs gs (a.one_each ∙ sym b.one_each) (λ l i. same_at l (let e = a.one_each in omega arith))

pub one_shape_each : OneShape
one_shape_each s c fs gs kind a b e =
    one_shape s.vars s.locs c fs gs kind a b (λ l x t. subst (λ J. J l x ≡ true) e t) (λ l x t. subst (λ J. J l x ≡ true) (sym e) t)
