-- A family as the code keeps it: of each row the least bound says all, and nothing is lost.
use Rattle.std.specs.Prelude.{◌≡◌, ℕ, zero, suc, ◌<◌, ◌≤◌, Bool, true, false, cond, List, [], ◌∷◌, ◌++◌, map, drop, length, slice_index_or, ℤ, pos, ◌≤ℤ◌, ◌<ℤ◌, Option, Some, None}
use Rattle.std.specs.List.{range_with_len}
use Rattle.std.specs.Option.{option_map}
use Rattle.std.proofs.Common.{refl, sym, ◌∙◌, ap, ap₂, subst, inl, inr, arith}
use Rattle.std.proofs.lemmas.Bool.{cases_lt}
use Rattle.std.proofs.lemmas.Int.{ints}
use Rattle.std.proofs.lemmas.List.FromFn.{length-map-range_with_len, get_or-map-range_with_len}
use Rattle.std.proofs.lemmas.List.{length-map}
use Rattle.dc_math.specs.Members.{Among, head, among_cons, among-left, among-right, among-++, among_map, mapped_among, among_at, at_among}
use Rattle.dc_affine.specs.declared.atom.Atom.{Atom}
use Rattle.dc_rows.specs.declared.kinds.Candidates.{Candidates}
use Rattle.dc_rows.specs.Rows.{Row}
use Rattle.dc_rows.specs.Candidate.{row_at, bound_at, AreCandidates}
use Rattle.dc_families.specs.Families.{Family, never, bounded, has_atom}
use Rattle.dc_families.specs.Rounds.{IsWithin, HasCandidates}
use Rattle.dc_families.specs.Laws.{IsUpward}
use Rattle.dc_families.specs.Graphs.{Graph}
use Rattle.dc_families.proofs.Lists.{differ}
use Rattle.dc_families.proofs.Tests.{has_among, among_has, IsOne, is_never, is_bounded, candidate_is, everything_is}
use Rattle.dc_families.proofs.Greatest.{same_family}
use Rattle.dc_greatest.specs.declared.family.LocFamily.{LocFamily}
use Rattle.dc_greatest.specs.Kept.{bounds_from, rows_from, atoms_in, stands_for, IsFrom, IsBelow, IsShaped}
use Rattle.dc_greatest.specs.Laws.{FamiliesHaveShapes}

abbrev pub nowhere : LocFamily
nowhere = record { dead = false; least = [] }

-- ---- what stands in the lists
among_drop : {A : Type 0} (d : A) (xs : List A) (i k : ℕ) → i ≤ k → k < length xs → Among (slice_index_or xs k d) (drop i xs)
among_drop d [] i k h l = absurd (omega arith)
among_drop d (x ∷ xs) zero k h l = at_among d (x ∷ xs) k l
among_drop d (x ∷ xs) (suc i) zero h l = absurd (omega arith)
among_drop d (x ∷ xs) (suc i) (suc k) h l = among_drop d xs i k (omega arith) (omega arith)

among_drop_back : {A : Type 0} (x d : A) (xs : List A) (i : ℕ) → Among x (drop i xs) → (k : ℕ) × (i ≤ k) × (k < length xs) × (slice_index_or xs k d ≡ x)
among_drop_back x d [] zero m = elim m [ ]
among_drop_back x d [] (suc i) m = elim m [ ]
among_drop_back x d (y ∷ xs) zero m = let r = among_at x d (y ∷ xs) m in (r.0, omega arith, r.1, r.2)
among_drop_back x d (y ∷ xs) (suc i) m = let r = among_drop_back x d xs i m in let a = r.1 in let b = r.2 in (suc r.0, omega arith, omega arith, r.3)

-- the atom of a row and a bound by their numbers
abbrev pub atom_of : Candidates → List Row → ℕ → ℕ → Atom
atom_of c rows r k = bounded (slice_index_or rows r []) (bound_at c k)

module _ (c : Candidates) where
  pub bounds_there : (r : Row) (o : Option ℕ) (k : ℕ) → IsFrom o k → k < length c.bounds → Among (bounded r (bound_at c k)) (bounds_from c r o)
  bounds_there r None k f l = absurd f
  bounds_there r (Some i) k f l = among_map (bounded r) (among_drop (pos 0) c.bounds i k f l)

  bounds_are : (r : Row) (o : Option ℕ) (a : Atom) → Among a (bounds_from c r o) → (k : ℕ) × IsFrom o k × (k < length c.bounds) × (a ≡ bounded r (bound_at c k))
  bounds_are r None a m = elim m [ ]
  bounds_are r (Some i) a m =
      let f = mapped_among (bounded r) (drop i c.bounds) m in
      let g = among_drop_back f.of (pos 0) c.bounds i f.among in
      (g.0, g.1, g.2, f.is ∙ ap (bounded r) (sym g.3))

  pub rows_there : (rows : List Row) (least : List (Option ℕ)) (r k : ℕ) → r < length rows → IsFrom (slice_index_or least r None) k → k < length c.bounds → Among (atom_of c rows r k) (rows_from c rows least)
  rows_there [] least r k h f l = absurd (omega arith)
  rows_there (row ∷ rows) [] r k h f l = absurd f
  rows_there (row ∷ rows) (o ∷ least) zero k h f l = among-left _ (bounds_there row o k f l)
  rows_there (row ∷ rows) (o ∷ least) (suc r) k h f l = among-right (bounds_from c row o) (rows_there rows least r k (omega arith) f l)

  pub rows_are : (rows : List Row) (least : List (Option ℕ)) (a : Atom) → Among a (rows_from c rows least)
      → (r : ℕ) × (k : ℕ) × (r < length rows) × IsFrom (slice_index_or least r None) k × (k < length c.bounds) × (a ≡ atom_of c rows r k)
  rows_are [] least a m = elim m [ ]
  rows_are (row ∷ rows) [] a m = elim m [ ]
  rows_are (row ∷ rows) (o ∷ least) a m = elim (among-++ (bounds_from c row o) m) [
    | inl i ↦ let f = bounds_are row o a i in (0, f.0, omega arith, f.1, f.2, f.3)
    | inr i ↦ let f = rows_are rows least a i in let h = f.2 in (suc f.0, f.1, omega arith, f.3, f.4, f.5)
  ]

-- an atom of a location: false, or a row with a bound from its least on
pub data IsKept (n : ℕ) (c : Candidates) (f : LocFamily) (a : Atom) : Type 0 where
  kept_never : f.dead ≡ true → a ≡ never n → IsKept n c f a
  kept_bound : (r k : ℕ) → r < length c.rows → k < length c.bounds → IsFrom (slice_index_or f.least r None) k → a ≡ atom_of c c.rows r k → IsKept n c f a

module _ (n : ℕ) (c : Candidates) where
  pub kept_atom : (f : LocFamily) (a : Atom) → Among a (atoms_in n c f) → IsKept n c f a
  kept_atom f a m = by f.dead refl m
    where
      rows : Among a (rows_from c c.rows f.least) → IsKept n c f a
      rows m = let g = rows_are c c.rows f.least a m in kept_bound g.0 g.1 g.2 g.4 g.3 g.5

      by : (b : Bool) → f.dead ≡ b → Among a (cond b (never n ∷ []) [] ++ rows_from c c.rows f.least) → IsKept n c f a
      by true e m = elim (among_cons m) [ inl s ↦ kept_never e s | inr i ↦ rows i ]
      by false e m = rows m

  pub atom_kept : (f : LocFamily) (a : Atom) → IsKept n c f a → Among a (atoms_in n c f)
  atom_kept f a (kept_never e s) = subst (λ x. Among x (atoms_in n c f)) (sym s) (by f.dead e)
    where
      by : (b : Bool) → b ≡ true → Among (never n) (cond b (never n ∷ []) [] ++ rows_from c c.rows f.least)
      by true e = head
      by false e = differ (sym e)
  atom_kept f a (kept_bound r k h l i s) = subst (λ x. Among x (atoms_in n c f)) (sym s) (among-right (cond f.dead (never n ∷ []) []) (rows_there c c.rows f.least r k h i l))

  -- ---- all locations
  at_map : (fs : List LocFamily) (l : ℕ) → l < length fs → slice_index_or (map (atoms_in n c) fs) l [] ≡ atoms_in n c (slice_index_or fs l nowhere)
  at_map [] l h = absurd (omega arith)
  at_map (f ∷ fs) zero h = refl
  at_map (f ∷ fs) (suc l) h = at_map fs l (omega arith)

  past_map : (fs : List LocFamily) (l : ℕ) → length fs ≤ l → slice_index_or (map (atoms_in n c) fs) l [] ≡ []
  past_map [] l h = refl
  past_map (f ∷ fs) zero h = absurd (omega arith)
  past_map (f ∷ fs) (suc l) h = past_map fs l (omega arith)

  pub stands_is : (fs : List LocFamily) (l : ℕ) (a : Atom) → stands_for n c fs l a ≡ true → (l < length fs) × IsKept n c (slice_index_or fs l nowhere) a
  stands_is fs l a t = elim (cases_lt l (length fs)) [
    | inl h ↦ (h, kept_atom _ a (has_among _ a (subst (λ xs. has_atom xs a ≡ true) (at_map fs l h) t)))
    | inr h ↦ differ (sym (subst (λ xs. has_atom xs a ≡ true) (past_map fs l h) t))
  ]

  pub is_stands : (fs : List LocFamily) (l : ℕ) (a : Atom) → l < length fs → IsKept n c (slice_index_or fs l nowhere) a → stands_for n c fs l a ≡ true
  is_stands fs l a h k = subst (λ xs. has_atom xs a ≡ true) (sym (at_map fs l h)) (among_has a _ (atom_kept _ a k))

-- ---- the number of the first bound that passes
abbrev number_of : (ℤ → Bool) → List ℤ → Option ℕ
number_of p [] = None
number_of p (b ∷ bs) = cond (p b) (Some 0) (option_map suc (number_of p bs))

number_below : (p : ℤ → Bool) (bs : List ℤ) → IsBelow (length bs) (number_of p bs)
number_below p [] = tt
number_below p (b ∷ bs) = by (p b) (number_of p bs) (number_below p bs)
  where
    by : (v : Bool) (o : Option ℕ) → IsBelow (length bs) o → IsBelow (suc (length bs)) (cond v (Some 0) (option_map suc o))
    by true o h = omega arith
    by false None h = tt
    by false (Some k) h = omega arith

passes_from : (p : ℤ → Bool) (bs : List ℤ) (k : ℕ) → k < length bs → p (slice_index_or bs k (pos 0)) ≡ true → IsFrom (number_of p bs) k
passes_from p [] k h t = absurd (omega arith)
passes_from p (b ∷ bs) zero h t = by (p b) t
  where
    by : (v : Bool) → v ≡ true → IsFrom (cond v (Some 0) (option_map suc (number_of p bs))) 0
    by true e = omega arith
    by false e = differ (sym e)
passes_from p (b ∷ bs) (suc k) h t = by (p b) (number_of p bs) (passes_from p bs k (omega arith) t)
  where
    by : (v : Bool) (o : Option ℕ) → IsFrom o k → IsFrom (cond v (Some 0) (option_map suc o)) (suc k)
    by true o f = omega arith
    by false None f = absurd f
    by false (Some i) f = omega arith

from_passes : (p : ℤ → Bool) (bs : List ℤ) (k : ℕ) → ((i : ℕ) → i ≤ k → p (slice_index_or bs i (pos 0)) ≡ true → p (slice_index_or bs k (pos 0)) ≡ true)
    → IsFrom (number_of p bs) k → p (slice_index_or bs k (pos 0)) ≡ true
from_passes p [] k up f = absurd f
from_passes p (b ∷ bs) zero up f = by (p b) refl (number_of p bs) f
  where
    by : (v : Bool) → p b ≡ v → (o : Option ℕ) → IsFrom (cond v (Some 0) (option_map suc o)) 0 → p b ≡ true
    by true e o f = e
    by false e None f = absurd f
    by false e (Some i) f = absurd (omega arith)
from_passes p (b ∷ bs) (suc k) up f = by (p b) refl (number_of p bs) (from_passes p bs k (λ i h t. up (suc i) (omega arith) t)) f
  where
    by : (v : Bool) → p b ≡ v → (o : Option ℕ) → (IsFrom o k → p (slice_index_or bs k (pos 0)) ≡ true) → IsFrom (cond v (Some 0) (option_map suc o)) (suc k) → p (slice_index_or bs k (pos 0)) ≡ true
    by true e o g f = up 0 (omega arith) e
    by false e None g f = absurd f
    by false e (Some i) g f = g (omega arith)

-- ---- the form of a family
pub rises : (n : ℕ) (c : Candidates) → AreCandidates n c → (i k : ℕ) → i ≤ k → k < length c.bounds → bound_at c i ≤ℤ bound_at c k
rises n c kind i k h l = elim (cases_lt i k) [
  | inl m ↦ below (bound_at c i) (bound_at c k) (kind.rising i k m l)
  | inr m ↦ let e : i ≡ k = omega arith in subst (λ j. bound_at c i ≤ℤ bound_at c j) e (same (bound_at c i))
]
  where
    below : (x y : ℤ) → x <ℤ y → x ≤ℤ y
    below x y h = omega (arith, ints)

    same : (x : ℤ) → x ≤ℤ x
    same x = omega (arith, ints)

slice_map : {A B : Type 0} (f : A → B) (xs : List A) (i : ℕ) (a : A) (b : B) → i < length xs → slice_index_or (map f xs) i b ≡ f (slice_index_or xs i a)
slice_map f [] i a b h = absurd (omega arith)
slice_map f (x ∷ xs) zero a b h = refl
slice_map f (x ∷ xs) (suc i) a b h = slice_map f xs i a b (omega arith)

module _ (s : Graph) (c : Candidates) (J : Family) (kind : AreCandidates s.vars c) (w : HasCandidates s c J) (u : IsUpward c J) where
  abbrev least_of : ℕ → Row → Option ℕ
  least_of l r = number_of (λ b. J l (bounded r b)) c.bounds

  abbrev form_at : ℕ → LocFamily
  form_at l = record { dead = J l (never s.vars); least = map (least_of l) c.rows }

  abbrev form : List LocFamily
  form = map form_at (range_with_len 0 s.locs)

  long_form : length form ≡ s.locs
  long_form = length-map-range_with_len form_at 0 s.locs

  at_form : (l : ℕ) (d : LocFamily) → l < s.locs → slice_index_or form l d ≡ form_at l
  at_form l d h = get_or-map-range_with_len form_at 0 s.locs l l d h (omega arith)

  at_least : (l r : ℕ) → r < length c.rows → slice_index_or (form_at l).least r None ≡ least_of l (row_at c r)
  at_least l r h = slice_map (least_of l) c.rows r [] None h

  shaped : IsShaped s.locs c form
  shaped = record {
    one_each = long_form;
    rows = λ l d h. ap (λ (f : LocFamily). length f.least) (at_form l d h) ∙ length-map c.rows (least_of l);
    bounds = λ l r d h i. subst (IsBelow (length c.bounds)) (sym (ap (λ (f : LocFamily). slice_index_or f.least r None) (at_form l d h) ∙ at_least l r i)) (number_below _ c.bounds);
  }

  up_number : (l r i k : ℕ) → r < length c.rows → k < length c.bounds → i ≤ k → J l (bounded (row_at c r) (bound_at c i)) ≡ true → J l (bounded (row_at c r) (bound_at c k)) ≡ true
  up_number l r i k h j m t = u l (row_at c r) (bound_at c i) (bound_at c k) (at_among [] c.rows r h) (at_among (pos 0) c.bounds i (omega arith)) (at_among (pos 0) c.bounds k j) (rises s.vars c kind i k m j) t

  there : IsWithin (stands_for s.vars c form) J
  there l a t =
      let k = stands_is s.vars c form l a t in
      let h : l < s.locs = let e = long_form in let q = k.0 in omega arith in
      by h (subst (λ f. IsKept s.vars c f a) (at_form l nowhere h) k.1)
    where
      by : l < s.locs → IsKept s.vars c (form_at l) a → J l a ≡ true
      by h (kept_never e q) = ap (J l) q ∙ e
      by h (kept_bound r k i j f q) = ap (J l) q ∙ from_passes (λ b. J l (bounded (row_at c r) b)) c.bounds k (λ m o t. up_number l r m k i j o t) (subst (λ o. IsFrom o k) (at_least l r i) f)

  back : IsWithin J (stands_for s.vars c form)
  back l a t =
      let e = everything_is s c l a (w l a t) in
      is_stands s.vars c form l a (let q = long_form in let h = e.0 in omega arith) (subst (λ f. IsKept s.vars c f a) (sym (at_form l nowhere e.0)) (by (candidate_is s.vars c a e.1)))
    where
      by : IsOne s.vars c a → IsKept s.vars c (form_at l) a
      by (is_never q) = kept_never (sym (ap (J l) q) ∙ t) q
      by (is_bounded row b m k q) =
          let f = among_at row [] c.rows m in
          let g = among_at b (pos 0) c.bounds k in
          let q' : a ≡ atom_of c c.rows f.0 g.0 = q ∙ sym (ap₂ bounded f.2 g.2) in
          kept_bound f.0 g.0 f.1 g.1 (subst (λ o. IsFrom o g.0) (sym (at_least l f.0 f.1)) (passes_from (λ b. J l (bounded (row_at c f.0) b)) c.bounds g.0 g.1 (sym (ap (J l) q') ∙ t))) q'

pub families_have_shapes : FamiliesHaveShapes
families_have_shapes s c J kind w u = (form s c J kind w u, shaped s c J kind w u, same_family _ _ (there s c J kind w u) (back s c J kind w u))
