-- Equal atoms by tests, and the candidates of a location.
use Rattle.std.specs.Prelude.{◌≡◌, ℕ, ◌<◌, Bool, true, false, ◌||◌, List, [], ◌∷◌, map, ℤ}
use Rattle.std.proofs.Common.{refl, sym, ap₂, subst, inl, inr, ◌⊎◌}
use Rattle.std.proofs.lemmas.Bool.{and_parts, and_from, ltb-true, lt-ltb}
use Rattle.std.proofs.lemmas.Bool.Decides.{Decides-int_eq}
use Rattle.dc_math.specs.Members.{Among, head, tail, among_cons, among_map, mapped_among, among_flat, among_flat_back}
use Rattle.dc_affine.specs.declared.atom.Atom.{Atom}
use Rattle.dc_rows.specs.declared.kinds.Candidates.{Candidates}
use Rattle.dc_rows.specs.Rows.{Row, same_row}
use Rattle.dc_rows.proofs.Same.{same-self}
use Rattle.dc_families.specs.Families.{never, bounded, candidate_atoms, same_atom, has_atom, everything}
use Rattle.dc_families.specs.Graphs.{Graph}
use Rattle.dc_families.proofs.Lists.{differ}

same_row_is : (xs ys : Row) → same_row xs ys ≡ true → xs ≡ ys
same_row_is [] [] e = refl
same_row_is [] (y ∷ ys) e = differ (sym e)
same_row_is (x ∷ xs) [] e = differ (sym e)
same_row_is (x ∷ xs) (y ∷ ys) e = let h = and_parts _ _ e in ap₂ ◌∷◌ ((Decides-int_eq x y).0 h.0) (same_row_is xs ys h.1)

pub same_atom_is : (a b : Atom) → same_atom a b ≡ true → a ≡ b
same_atom_is a b e = let h = and_parts _ _ e in ap₂ (λ c cs. record { c0 = c; coefs = cs }) ((Decides-int_eq a.c0 b.c0).0 h.0) (same_row_is a.coefs b.coefs h.1)

pub same_atom_self : (a : Atom) → same_atom a a ≡ true
same_atom_self a = and_from _ _ ((Decides-int_eq a.c0 a.c0).1 refl) (same-self a.coefs)

pub either : (x y : Bool) → (x || y) ≡ true → (x ≡ true) ⊎ (y ≡ true)
either true y e = inl refl
either false y e = inr e

pub has_among : (atoms : List Atom) (a : Atom) → has_atom atoms a ≡ true → Among a atoms
has_among [] a e = differ (sym e)
has_among (b ∷ atoms) a e = elim (either _ _ e) [
  | inl h ↦ subst (λ x. Among a (x ∷ atoms)) (same_atom_is a b h) head
  | inr h ↦ tail (has_among atoms a h)
]

pub among_has : (a : Atom) (atoms : List Atom) → Among a atoms → has_atom atoms a ≡ true
among_has a [] m = elim m [ ]
among_has a (b ∷ atoms) head = rw (same_atom_self a) refl
among_has a (b ∷ atoms) (tail m) = by (same_atom a b) (among_has a atoms m)
  where
    by : (x : Bool) → has_atom atoms a ≡ true → (x || has_atom atoms a) ≡ true
    by true h = refl
    by false h = h

-- ---- candidates
-- false, or a row with a bound
pub data IsOne (n : ℕ) (c : Candidates) (a : Atom) : Type 0 where
  is_never : a ≡ never n → IsOne n c a
  is_bounded : (r : Row) (b : ℤ) → Among r c.rows → Among b c.bounds → a ≡ bounded r b → IsOne n c a

pub candidate_is : (n : ℕ) (c : Candidates) (a : Atom) → Among a (candidate_atoms n c) → IsOne n c a
candidate_is n c a m = elim (among_cons m) [
  | inl e ↦ is_never e
  | inr k ↦ let f = among_flat_back (λ r. map (bounded r) c.bounds) a c.rows k in let g = mapped_among (bounded f.0) c.bounds f.2 in is_bounded f.0 g.of f.1 g.among g.is
]

pub bounded_candidate : (n : ℕ) (c : Candidates) (r : Row) (b : ℤ) → Among r c.rows → Among b c.bounds → Among (bounded r b) (candidate_atoms n c)
bounded_candidate n c r b m k = tail (among_flat (λ r. map (bounded r) c.bounds) r (bounded r b) c.rows m (among_map (bounded r) k))

pub in_everything : (s : Graph) (c : Candidates) (l : ℕ) (a : Atom) → l < s.locs → Among a (candidate_atoms s.vars c) → everything s c l a ≡ true
in_everything s c l a h m = and_from _ _ (lt-ltb l s.locs h) (among_has a _ m)

pub everything_is : (s : Graph) (c : Candidates) (l : ℕ) (a : Atom) → everything s c l a ≡ true → (l < s.locs) × Among a (candidate_atoms s.vars c)
everything_is s c l a e = let h = and_parts _ _ e in (ltb-true l s.locs h.0, has_among _ a h.1)
