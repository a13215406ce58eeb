-- Points as vectors of rational numbers by index, and back: each point has such a vector, each vector has such a point, and an atom holds
-- at the one exactly where it does at the other.
use Rattle.std.specs.Prelude.{◌≡◌, ℕ, zero, suc, ◌<◌, ◌≤◌, List, [], ◌∷◌, map, length, ℤ, pos, ◌*ℤ◌, slice_index_or}
use Rattle.std.proofs.Common.{refl, sym, ◌∙◌, ap, ap₂, subst, arith}
use Rattle.std.proofs.lemmas.Int.{ints}
use lib.IntN.{zero-*ℤ}
use Rattle.dc_math.specs.WholeVectors.{dot_ℤ}
use Rattle.dc_math.specs.Rational.{ℚ, Fraction, ratio, ◌≤ℚ◌, ◌+ℚ◌, ◌*ℚ◌, of_ℤ, of_ℤ-+ℤ, of_ℤ-*ℤ, *ℚ_comm, *ℚ_assoc, zero-*ℚ, <ℚ-≤ℚ, product_positive, NonNegative, NonNegative-*ℚ, *ℚ-zero}
use Rattle.dc_math.specs.RationalRing.{ring, reads, read_nat, same_form, linear₁}
use Rattle.dc_math.specs.Inverse.{inverse, *ℚ-inverse}
use Rattle.dc_math.specs.Signs.{of_ℤ-≤, of_ℤ-≤_back}
use Rattle.dc_math.specs.Order.{Positive, Positive_nonzero, of_ℤ-<, ≤ℚ-*ℚ_cancel, ratio-*ℚ-den}
use Rattle.dc_math.specs.Lowest.{lowest, ratio-lowest}
use Rattle.dc_math.specs.Sums.{sum_ℚ, sum_ℚ_first, sum_ℚ_same, sum_ℚ_zero, sum_ℚ-*ℚ}
use Rattle.dc_affine.specs.declared.atom.Atom.{Atom}
use Rattle.dc_points.specs.Points.{Point, left_at, MeetsAt, MeetsAll, AreOver}
use Rattle.dc_points.specs.Stated.{atom_number, coefficient_of}

-- the left side of an atom at a vector with n coordinates
abbrev pub left_of : ℕ → Atom → (ℕ → ℚ) → ℚ
left_of n a z = of_ℤ a.c0 +ℚ sum_ℚ n (λ i. z i *ℚ of_ℤ (coefficient_of a i))

-- each atom holds at the vector
abbrev pub HoldAt : ℕ → List Atom → (ℕ → ℚ) → Type 0
HoldAt n hyps z = (j : ℕ) → j < length hyps → NonNegative (left_of n (atom_number hyps j) z)

-- the point's coordinates are those of the vector
abbrev pub IsPlaced : ℕ → (ℕ → ℚ) → Point → Type 0
IsPlaced n z p = (k : ℕ) → k < n → of_ℤ (slice_index_or p.numbers k (pos 0)) ≡ z k *ℚ of_ℤ p.denominator

-- ---- an atom's left side
pub dot-by_places : (n : ℕ) (cs xs : List ℤ) → length cs ≤ n → of_ℤ (dot_ℤ cs xs) ≡ sum_ℚ n (λ i. of_ℤ (slice_index_or xs i (pos 0)) *ℚ of_ℤ (slice_index_or cs i (pos 0)))
dot-by_places n [] xs h = sym (sum_ℚ_zero n (λ i. of_ℤ (slice_index_or xs i (pos 0)) *ℚ of_ℤ (pos 0)) (λ i l. *ℚ-zero (of_ℤ (slice_index_or xs i (pos 0)))))
dot-by_places zero (c ∷ cs) xs h = absurd (omega arith)
dot-by_places (suc n) (c ∷ cs) [] h = sym (sum_ℚ_zero (suc n) (λ i. of_ℤ (pos 0) *ℚ of_ℤ (slice_index_or (c ∷ cs) i (pos 0))) (λ i l. zero-*ℚ (of_ℤ (slice_index_or (c ∷ cs) i (pos 0)))))
dot-by_places (suc n) (c ∷ cs) (x ∷ xs) h =
    of_ℤ-+ℤ (c *ℤ x) (dot_ℤ cs xs)
    ∙ ap₂ ◌+ℚ◌ (of_ℤ-*ℤ c x ∙ *ℚ_comm (of_ℤ c) (of_ℤ x)) (dot-by_places n cs xs (omega arith))
    ∙ sym (sum_ℚ_first n (λ i. of_ℤ (slice_index_or (x ∷ xs) i (pos 0)) *ℚ of_ℤ (slice_index_or (c ∷ cs) i (pos 0))))

denominator_positive : (p : Point) → Positive (of_ℤ p.denominator)
denominator_positive p = (let h = p.positive in of_ℤ-< (pos 0) p.denominator (omega (arith, ints)))

-- a linear form over n places
pub form-placed : (n : ℕ) (cs : List ℤ) (z : ℕ → ℚ) (p : Point) → length cs ≤ n → IsPlaced n z p
    → of_ℤ (dot_ℤ cs p.numbers) ≡ sum_ℚ n (λ i. z i *ℚ of_ℤ (slice_index_or cs i (pos 0))) *ℚ of_ℤ p.denominator
form-placed n cs z p h e =
    dot-by_places n cs p.numbers h
    ∙ sum_ℚ_same n (λ i. of_ℤ (slice_index_or p.numbers i (pos 0)) *ℚ c i) (λ i. (z i *ℚ c i) *ℚ d) (λ i l. ap (λ x. x *ℚ c i) (e i l) ∙ exchange (z i) d (c i))
    ∙ sum_ℚ-*ℚ n (λ i. z i *ℚ c i) d
  where
    d : ℚ
    d = of_ℤ p.denominator

    c : ℕ → ℚ
    c i = of_ℤ (slice_index_or cs i (pos 0))

    exchange : (x d c : ℚ) → (x *ℚ d) *ℚ c ≡ (x *ℚ c) *ℚ d
    exchange x d c = ring (x ∷ d ∷ c ∷ []) (λ ρ p q r. simp (p, q, r, reads) (same_form _ _ _ refl))

pub left-placed : (n : ℕ) (a : Atom) (z : ℕ → ℚ) (p : Point) → length a.coefs ≤ n → IsPlaced n z p → of_ℤ (left_at a p) ≡ left_of n a z *ℚ of_ℤ p.denominator
left-placed n a z p h e =
    of_ℤ-+ℤ (a.c0 *ℤ p.denominator) (dot_ℤ a.coefs p.numbers)
    ∙ ap₂ ◌+ℚ◌ (of_ℤ-*ℤ a.c0 p.denominator) (form-placed n a.coefs z p h e)
    ∙ together (of_ℤ a.c0) (of_ℤ p.denominator) (sum_ℚ n (λ i. z i *ℚ of_ℤ (coefficient_of a i)))
  where
    together : (c d s : ℚ) → c *ℚ d +ℚ s *ℚ d ≡ (c +ℚ s) *ℚ d
    together c d s = ring (c ∷ d ∷ s ∷ []) (λ ρ p q r. simp (p, q, r, reads) (same_form _ _ _ refl))

-- a number is not negative exactly where it is not so times the denominator
pub scaled_up : (x : ℚ) (p : Point) → NonNegative x → NonNegative (x *ℚ of_ℤ p.denominator)
scaled_up x p h = NonNegative-*ℚ x (of_ℤ p.denominator) h (<ℚ-≤ℚ _ _ (denominator_positive p))

pub scaled_down : (x : ℚ) (p : Point) → NonNegative (x *ℚ of_ℤ p.denominator) → NonNegative x
scaled_down x p h = ≤ℚ-*ℚ_cancel (of_ℤ (pos 0)) x (of_ℤ p.denominator) (subst (λ y. y ≤ℚ (x *ℚ of_ℤ p.denominator)) (sym (zero-*ℚ (of_ℤ p.denominator))) h) (denominator_positive p)

module _ (n : ℕ) (z : ℕ → ℚ) (p : Point) (e : IsPlaced n z p) where
  pub meets-holds : (a : Atom) → length a.coefs ≤ n → MeetsAt p a → NonNegative (left_of n a z)
  meets-holds a h m = scaled_down (left_of n a z) p (subst NonNegative (left-placed n a z p h e) (of_ℤ-≤ (pos 0) (left_at a p) m))

  pub holds-meets : (a : Atom) → length a.coefs ≤ n → NonNegative (left_of n a z) → MeetsAt p a
  holds-meets a h m = of_ℤ-≤_back (pos 0) (left_at a p) (subst NonNegative (sym (left-placed n a z p h e)) (scaled_up (left_of n a z) p m))

  pub all_meet-hold : (hyps : List Atom) → AreOver n hyps → MeetsAll p hyps → HoldAt n hyps z
  all_meet-hold [] o m j l = absurd (omega arith)
  all_meet-hold (a ∷ hyps) o m zero l = meets-holds a o.0 m.0
  all_meet-hold (a ∷ hyps) o m (suc j) l = all_meet-hold hyps o.1 m.1 j (omega arith)

  pub all_hold-meet : (hyps : List Atom) → AreOver n hyps → HoldAt n hyps z → MeetsAll p hyps
  all_hold-meet [] o h = tt
  all_hold-meet (a ∷ hyps) o h = (holds-meets a o.0 (h 0 (omega arith)), all_hold-meet hyps o.1 (λ j l. h (suc j) (omega arith)))

-- ---- the vector of a point
pub vector_of : Point → ℕ → ℚ
vector_of p k = of_ℤ (slice_index_or p.numbers k (pos 0)) *ℚ inverse (of_ℤ p.denominator)

pub vector-placed : (n : ℕ) (p : Point) → IsPlaced n (vector_of p) p
unfolding vector_of
vector-placed n p k l = back (of_ℤ (slice_index_or p.numbers k (pos 0))) (of_ℤ p.denominator) (inverse (of_ℤ p.denominator)) (*ℚ-inverse (of_ℤ p.denominator) (Positive_nonzero _ (denominator_positive p)))
  where
    back : (x d i : ℚ) → d *ℚ i ≡ of_ℤ (pos 1) → x ≡ (x *ℚ i) *ℚ d
    back x d i e = sym (linear₁ x _ _ _ _ e (ring (x ∷ d ∷ i ∷ []) (λ ρ p q r. simp (p, q, r, read_nat ρ, reads) (same_form _ _ _ refl))))

-- ---- the point of a vector: its coordinates over one denominator
pub record HasPoint (n : ℕ) (z : ℕ → ℚ) : Type 0 where
  pub point : Point
  pub placed : IsPlaced n z point

-- the point with one coordinate more, before the others
abbrev extended : Fraction → Point → Point
extended f p = record {
  numbers = (f.num *ℤ p.denominator) ∷ map (λ x. x *ℤ f.den) p.numbers;
  denominator = f.den *ℤ p.denominator;
  positive = product_positive f.den p.denominator f.den_positive p.positive;
}

place-map : (xs : List ℤ) (d : ℤ) (k : ℕ) → slice_index_or (map (λ x. x *ℤ d) xs) k (pos 0) ≡ slice_index_or xs k (pos 0) *ℤ d
place-map [] d k = sym (zero-*ℤ d)
place-map (x ∷ xs) d zero = refl
place-map (x ∷ xs) d (suc k) = place-map xs d k

extended-placed : (n : ℕ) (z : ℕ → ℚ) (f : Fraction) (p : Point) → ratio f ≡ z 0 → IsPlaced n (λ k. z (suc k)) p → IsPlaced (suc n) z (extended f p)
extended-placed n z f p e h zero l =
    of_ℤ-*ℤ f.num p.denominator
    ∙ ap (λ x. x *ℚ of_ℤ p.denominator) (sym (ratio-*ℚ-den f) ∙ ap (λ x. x *ℚ of_ℤ f.den) e)
    ∙ *ℚ_assoc (z 0) (of_ℤ f.den) (of_ℤ p.denominator)
    ∙ ap (λ x. z 0 *ℚ x) (sym (of_ℤ-*ℤ f.den p.denominator))
extended-placed n z f p e h (suc k) l =
    ap of_ℤ (place-map p.numbers f.den k)
    ∙ of_ℤ-*ℤ (slice_index_or p.numbers k (pos 0)) f.den
    ∙ ap (λ x. x *ℚ of_ℤ f.den) (h k (omega arith))
    ∙ around (z (suc k)) (of_ℤ p.denominator) (of_ℤ f.den)
    ∙ ap (λ x. z (suc k) *ℚ x) (sym (of_ℤ-*ℤ f.den p.denominator))
  where
    around : (x d e : ℚ) → (x *ℚ d) *ℚ e ≡ x *ℚ (e *ℚ d)
    around x d e = ring (x ∷ d ∷ e ∷ []) (λ ρ p q r. simp (p, q, r, reads) (same_form _ _ _ refl))

pub has_point : (n : ℕ) (z : ℕ → ℚ) → HasPoint n z
has_point zero z = record { point = record { numbers = []; denominator = pos 1; positive = omega (arith, ints) }; placed = λ k l. absurd (omega arith) }
has_point (suc n) z = (let r = has_point n (λ k. z (suc k)) in record { point = extended (lowest (z 0)) r.point; placed = extended-placed n z (lowest (z 0)) r.point (ratio-lowest (z 0)) r.placed })
