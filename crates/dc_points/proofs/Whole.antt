-- Points of whole numbers, and the whole numbers from which a form is entailed.
use Rattle.std.specs.Prelude.{◌≡◌, true, List, [], ◌∷◌, ℤ, pos, negsuc, ◌+ℤ◌, ◌*ℤ◌, ◌≤ℤ◌, int_le, ℕ}
use Rattle.std.proofs.Common.{refl, sym, ◌∙◌, ap, subst, arith}
use Rattle.std.proofs.lemmas.Bool.{false≢true, le-leb, and_parts, and_from}
use Rattle.std.proofs.lemmas.Int.{ints}
use Rattle.std.specs.List.{AllByRecursion}
use Rattle.dc_math.specs.WholeVectors.{dot_ℤ}
use Rattle.dc_math.specs.Rational.{ℚ, ◌+ℚ◌, ◌*ℚ◌, of_ℤ, of_ℤ-+ℤ, of_ℤ-*ℤ, NonNegative}
use Rattle.dc_math.specs.RationalRing.{ring, reads, same_form}
use Rattle.dc_math.specs.Signs.{of_ℤ-≤, of_ℤ-≤_back}
use Rattle.dc_affine.specs.declared.atom.Atom.{Atom}
use Rattle.dc_affine.specs.Atoms.{atom_value, holds_at, all_hold, IsAtom}
use Rattle.dc_points.specs.Points.{left_at, MeetsAt, MeetsAll, whole_point, AreOver}
use Rattle.dc_points.specs.Laws.{AtomsAreForms, WholePointsMeet}

-- ---- a point of whole numbers
pub test_true : (v : ℤ) → int_le (pos 0) v ≡ true → pos 0 ≤ℤ v
test_true (pos n) h = omega (arith, ints)
test_true (negsuc n) h = absurd (false≢true h)

true_test : (v : ℤ) → pos 0 ≤ℤ v → int_le (pos 0) v ≡ true
true_test (pos n) h = le-leb 0 n (omega arith)
true_test (negsuc n) h = absurd (omega (arith, ints))

-- the left side there is the atom's value
pub left_at-whole : (a : Atom) (x : List ℤ) → left_at a (whole_point x) ≡ atom_value a x
left_at-whole a x = plain a.c0 (dot_ℤ a.coefs x)
  where
    plain : (c d : ℤ) → c *ℤ pos 1 +ℤ d ≡ c +ℤ d
    plain c d = omega (arith, ints)

pub meets-holds_at : (a : Atom) (x : List ℤ) → MeetsAt (whole_point x) a → holds_at a x ≡ true
meets-holds_at a x m = true_test (atom_value a x) (subst (λ v. pos 0 ≤ℤ v) (left_at-whole a x) m)

pub holds_at-meets : (a : Atom) (x : List ℤ) → holds_at a x ≡ true → MeetsAt (whole_point x) a
holds_at-meets a x h = subst (λ v. pos 0 ≤ℤ v) (sym (left_at-whole a x)) (test_true (atom_value a x) h)

pub whole_points_meet : WholePointsMeet
whole_points_meet hyps x = (forth hyps, back hyps)
  where
    forth : (hs : List Atom) → MeetsAll (whole_point x) hs → all_hold hs x ≡ true
    forth [] m = refl
    forth (a ∷ hs) m = and_from (holds_at a x) (all_hold hs x) (meets-holds_at a x m.0) (forth hs m.1)

    back : (hs : List Atom) → all_hold hs x ≡ true → MeetsAll (whole_point x) hs
    back [] h = tt
    back (a ∷ hs) h = (let p = and_parts (holds_at a x) (all_hold hs x) h in (holds_at-meets a x p.0, back hs p.1))

-- ---- atoms within their sizes over n places have at most n coefficients
pub over_atoms : (n : ℕ) (atoms : List Atom) → AllByRecursion (IsAtom n) atoms → AreOver n atoms
over_atoms n [] h = tt
over_atoms n (a ∷ atoms) h = (h.0.few, over_atoms n atoms h.1)

-- ---- from a whole number on
rational_left : (w d x : ℤ) → of_ℤ (w *ℤ d +ℤ x) ≡ of_ℤ x +ℚ of_ℤ w *ℚ of_ℤ d
rational_left w d x = of_ℤ-+ℤ (w *ℤ d) x ∙ ap (λ y. y +ℚ of_ℤ x) (of_ℤ-*ℤ w d) ∙ turn (of_ℤ w *ℚ of_ℤ d) (of_ℤ x)
  where
    turn : (a b : ℚ) → a +ℚ b ≡ b +ℚ a
    turn a b = ring (a ∷ b ∷ []) (λ ρ p q. simp (p, q, reads) (same_form _ _ _ refl))

pub atoms_are_forms : AtomsAreForms
atoms_are_forms hyps form w = (
  (λ h p m. subst NonNegative (rational_left w p.denominator (dot_ℤ form p.numbers)) (of_ℤ-≤ (pos 0) _ (h p m))),
  (λ h p m. of_ℤ-≤_back (pos 0) (w *ℤ p.denominator +ℤ dot_ℤ form p.numbers) (subst NonNegative (sym (rational_left w p.denominator (dot_ℤ form p.numbers))) (h p m))),
)
