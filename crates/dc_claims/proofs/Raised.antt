-- A threshold above a certified one is certified: the multipliers of the empty product at the entry are raised.
use Rattle.std.specs.Prelude.{◌≡◌, ℕ, zero, suc, ◌+◌, ◌≤◌, ◌<◌, List, [], ◌∷◌, ◌++◌, map, length, ℤ, pos}
use Rattle.std.specs.List.{range_with_len}
use Rattle.std.proofs.Common.{refl, sym, ◌∙◌, ap, ap₂, subst, arith}
use Rattle.dc_math.specs.Rational.{ℚ, ◌+ℚ◌, ◌-ℚ◌, ◌*ℚ◌, of_ℤ, ◌≤ℚ◌, ≤ℚ-sub, NonNegative, NonNegative-+ℚ}
use Rattle.dc_math.specs.RationalRing.{ring, reads, read_nat, same_form}
use Rattle.dc_math.specs.Vectors.{dot}
use Rattle.dc_lp.specs.Tables.{made}
use Rattle.dc_handelman.specs.Choices.{Choice, of_size, choices_of}
use Rattle.dc_handelman.specs.Products.{choice_value}
use Rattle.dc_syntax.specs.declared.tree.Side.TheVariants.{New, Old}
use Rattle.dc_claims.specs.Duties.{Pair, atoms_of, IsOwed}
use Rattle.dc_claims.specs.declared.duty.Duty.{Duty}
use Rattle.dc_claims.specs.declared.duty.Duty.TheVariants.{Along, AtExit, AtEntry}
use Rattle.dc_claims.specs.Claims.{Potential, Multipliers, potential_value, left_value, products_count, IsMet, Certifies}
use Rattle.dc_claims.specs.Laws.{HigherAreCertified}

-- the first choice is the empty one
first_choice : (n k : ℕ) → (rest : List Choice) × (choices_of n k ≡ [] ∷ rest)
first_choice zero zero = ([], refl)
first_choice (suc n) zero = ([], refl)
first_choice n (suc k) = let r = first_choice n k in (r.0 ++ of_size n 0 (suc k), ap (λ cs. cs ++ of_size n 0 (suc k)) r.1)

-- the first of some numbers is raised
abbrev with_first : ℚ → (ℕ → ℚ) → ℕ → ℚ
with_first s f zero = f zero +ℚ s
with_first s f (suc i) = f (suc i)

from_one : (s : ℚ) (f : ℕ → ℚ) (a n : ℕ) → 1 ≤ a → map (with_first s f) (range_with_len a n) ≡ map f (range_with_len a n)
from_one s f a zero h = refl
from_one s f a (suc n) h = ap₂ ◌∷◌ (one a h) (from_one s f (a + 1) n (omega arith))
  where
    one : (a : ℕ) → 1 ≤ a → with_first s f a ≡ f a
    one zero h = absurd (omega arith)
    one (suc a) h = refl

raised_dot : (s : ℚ) (f : ℕ → ℚ) (g : Choice → ℚ) (cs rest : List Choice) → cs ≡ [] ∷ rest → g [] ≡ of_ℤ (pos 1) → dot (made (length cs) (with_first s f)) (map g cs) ≡ dot (made (length cs) f) (map g cs) +ℚ s
raised_dot s f g cs rest e h = subst (λ cs. dot (made (length cs) (with_first s f)) (map g cs) ≡ dot (made (length cs) f) (map g cs) +ℚ s) (sym e)
    (ap (λ fs. (f 0 +ℚ s) *ℚ g [] +ℚ dot fs (map g rest)) (from_one s f 1 (length rest) (omega arith)) ∙ shape (f 0) s (g []) (dot (map f (range_with_len 1 (length rest))) (map g rest)) h)
  where
    shape : (a s y r : ℚ) → y ≡ of_ℤ (pos 1) → (a +ℚ s) *ℚ y +ℚ r ≡ (a *ℚ y +ℚ r) +ℚ s
    shape a s y r e = rw e (ring (a ∷ s ∷ r ∷ []) (λ ρ i j k. simp (i, j, k, read_nat ρ, reads) (same_form _ _ _ refl)))

raised : ℚ → Multipliers → Multipliers
raised s multipliers (Along side n) = multipliers (Along side n)
raised s multipliers (AtExit side) = multipliers (AtExit side)
raised s multipliers (AtEntry n) = with_first s (multipliers (AtEntry n))

module _ (p : Pair) (d k : ℕ) (t u : ℚ) (φ χ : Potential) (multipliers : Multipliers) (c : Certifies p d k t φ χ multipliers) (above : t ≤ℚ u) where
  entry_left : (n : ℕ) (x : List ℤ) → left_value p d u φ χ (AtEntry n) x ≡ left_value p d t φ χ (AtEntry n) x +ℚ (u -ℚ t)
  entry_left n x = shape u t (potential_value p d New φ 0 x) (potential_value p d Old χ 0 x)
    where
      shape : (u t a b : ℚ) → (u -ℚ a) +ℚ b ≡ ((t -ℚ a) +ℚ b) +ℚ (u -ℚ t)
      shape u t a b = ring (u ∷ t ∷ a ∷ b ∷ []) (λ ρ i j k l. simp (i, j, k, l, reads) (same_form _ _ _ refl))

  first_sign : (f : ℕ → ℚ) (n : ℕ) → ((i : ℕ) → i < n → NonNegative (f i)) → (i : ℕ) → i < n → NonNegative (with_first (u -ℚ t) f i)
  first_sign f n h zero l = NonNegative-+ℚ (f 0) (u -ℚ t) (h 0 l) (≤ℚ-sub t u above)
  first_sign f n h (suc i) l = h (suc i) l

  meets : (o : Duty) → IsOwed p o → IsMet p d k u φ χ (raised (u -ℚ t) multipliers) o
  unfolding raised
  meets (Along New n) w = let m = c.meets (Along New n) w in record { signs = m.signs; identity = m.identity }
  meets (Along Old n) w = let m = c.meets (Along Old n) w in record { signs = m.signs; identity = m.identity }
  meets (AtExit New) w = let m = c.meets (AtExit New) w in record { signs = m.signs; identity = m.identity }
  meets (AtExit Old) w = let m = c.meets (AtExit Old) w in record { signs = m.signs; identity = m.identity }
  meets (AtEntry n) w =
      let m = c.meets (AtEntry n) w in
      let e = first_choice (length (atoms_of p (AtEntry n))) k in
      record {
        signs = first_sign (multipliers (AtEntry n)) (products_count p k (AtEntry n)) m.signs;
        identity = λ x l. entry_left n x ∙ ap (λ z. z +ℚ (u -ℚ t)) (m.identity x l)
            ∙ sym (raised_dot (u -ℚ t) (multipliers (AtEntry n)) (λ c. of_ℤ (choice_value (atoms_of p (AtEntry n)) c x)) (choices_of (length (atoms_of p (AtEntry n))) k) e.0 e.1 refl);
      }

pub higher_are_certified : HigherAreCertified
higher_are_certified p d k t u c h = (c.0, c.1, raised (u -ℚ t) c.2, record { meets = meets p d k t u c.0 c.1 c.2 c.3 h })
