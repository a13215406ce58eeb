-- A polynomial in one variable with n coefficients that is 0 at n points in a row has only zero coefficients.
use Rattle.std.specs.Prelude.{◌≡◌, ℕ, zero, suc, ◌+◌, ◌-◌, ◌≤◌, ◌<◌, List, [], ◌∷◌, length, ℤ, pos, ◌+ℤ◌, ◌*ℤ◌, ◌≤ℤ◌, ◌<ℤ◌, refl}
use Rattle.std.proofs.Common.{ap, arith}
use Rattle.std.proofs.lemmas.Int.{ints}
use Rattle.dc_math.specs.Integers.{≤ℤ-*ℤ_cancel, +ℤ-*ℤ}
use Rattle.dc_math.specs.WholeRing.{ring, reads, read_nat, same_form, linear₁}

abbrev pub one_value : List ℤ → ℤ → ℤ
one_value [] x = pos 0
one_value (c ∷ cs) x = c +ℤ x *ℤ one_value cs x

abbrev pub Zeros : List ℤ → Type 0
Zeros [] = Unit {0}
Zeros (c ∷ cs) = (c ≡ pos 0) × Zeros cs

-- the quotient by x - a
abbrev quotient : ℤ → ℤ → List ℤ → List ℤ
quotient a c [] = []
quotient a c (d ∷ ds) = one_value (d ∷ ds) a ∷ quotient a d ds

quotient_length : (a c : ℤ) (cs : List ℤ) → length (quotient a c cs) ≡ length cs
quotient_length a c [] = refl
quotient_length a c (d ∷ ds) = ap suc (quotient_length a d ds)

-- p(x) - p(a) is (x - a) times the quotient
divides : (a x c : ℤ) (cs : List ℤ) → one_value (c ∷ cs) x +ℤ a *ℤ one_value (quotient a c cs) x ≡ one_value (c ∷ cs) a +ℤ x *ℤ one_value (quotient a c cs) x
divides a x c [] = ring (a ∷ x ∷ c ∷ []) (λ ρ p q r. simp (p, q, r, read_nat ρ, reads) (same_form _ _ _ refl))
divides a x c (d ∷ ds) = step (one_value (d ∷ ds) x) (one_value (d ∷ ds) a) (one_value (quotient a d ds) x) (divides a x d ds)
  where
    step : (v w q : ℤ) → v +ℤ a *ℤ q ≡ w +ℤ x *ℤ q → (c +ℤ x *ℤ v) +ℤ a *ℤ (w +ℤ x *ℤ q) ≡ (c +ℤ a *ℤ w) +ℤ x *ℤ (w +ℤ x *ℤ q)
    step v w q h = linear₁ x _ _ _ _ h (ring (a ∷ x ∷ c ∷ v ∷ w ∷ q ∷ []) (λ ρ i j k l m n. simp (i, j, k, l, m, n, reads) (same_form _ _ _ refl)))

no_factor : (n : ℕ) (y : ℤ) → y *ℤ pos (suc n) ≡ pos 0 → y ≡ pos 0
no_factor n y h =
    let p : pos 0 <ℤ pos (suc n) = omega (arith, ints) in
    let u : y ≤ℤ pos 0 = ≤ℤ-*ℤ_cancel y (pos 0) (pos (suc n)) p (omega (arith, ints)) in
    let v : pos 0 ≤ℤ y = ≤ℤ-*ℤ_cancel (pos 0) y (pos (suc n)) p (omega (arith, ints)) in
    omega (arith, ints)

zeros_value : (cs : List ℤ) (x : ℤ) → Zeros cs → one_value cs x ≡ pos 0
zeros_value [] x h = refl
zeros_value (c ∷ cs) x h = rw (h.0, zeros_value cs x h.1) (ring (x ∷ []) (λ ρ p. simp (p, read_nat ρ, reads) (same_form _ _ _ refl)))

zeros_back : (a c : ℤ) (cs : List ℤ) → Zeros (quotient a c cs) → Zeros cs
zeros_back a c [] h = tt
zeros_back a c (d ∷ ds) h =
    let z : Zeros ds = zeros_back a d ds h.1 in
    (last (one_value ds a) (zeros_value ds a z) h.0, z)
  where
    last : (v : ℤ) → v ≡ pos 0 → d +ℤ a *ℤ v ≡ pos 0 → d ≡ pos 0
    last v e h = linear₁ (pos 1) _ _ _ _ h (rw e (ring (a ∷ d ∷ []) (λ ρ p q. simp (p, q, read_nat ρ, reads) (same_form _ _ _ refl))))

first_zero : (a c : ℤ) (cs : List ℤ) → Zeros cs → one_value (c ∷ cs) a ≡ pos 0 → c ≡ pos 0
first_zero a c cs z h = last (one_value cs a) (zeros_value cs a z) h
  where
    last : (v : ℤ) → v ≡ pos 0 → c +ℤ a *ℤ v ≡ pos 0 → c ≡ pos 0
    last v e h = linear₁ (pos 1) _ _ _ _ h (rw e (ring (a ∷ c ∷ []) (λ ρ p q. simp (p, q, read_nat ρ, reads) (same_form _ _ _ refl))))

root_step : (a x i : ℕ) (p q v : ℤ) → x ≡ a + suc i → p ≡ pos 0 → v ≡ pos 0 → p +ℤ pos a *ℤ q ≡ v +ℤ pos x *ℤ q → q ≡ pos 0
root_step a x i p q v d e f h =
    let g : pos (a + suc i) *ℤ q ≡ pos a *ℤ q +ℤ pos (suc i) *ℤ q = +ℤ-*ℤ (pos a) (pos (suc i)) q in
    let k : pos x *ℤ q ≡ pos (a + suc i) *ℤ q = ap (λ (y : ℕ). pos y *ℤ q) d in
    no_factor i q (omega (arith, ints))

pub one_law : (n a : ℕ) (cs : List ℤ) → length cs ≤ n → ((x : ℕ) → a ≤ x → x < a + n → one_value cs (pos x) ≡ pos 0) → Zeros cs
one_law n a [] le h = tt
one_law zero a (c ∷ cs) le h = absurd (omega arith)
one_law (suc n) a (c ∷ cs) le h =
    let at_a : one_value (c ∷ cs) (pos a) ≡ pos 0 = h a (omega arith) (omega arith) in
    let zq : Zeros (quotient (pos a) c cs) =
    one_law n (a + 1) (quotient (pos a) c cs) (let e = quotient_length (pos a) c cs in omega arith) (λ x g k. other x g (h x (omega arith) (omega arith)) at_a) in
    let z : Zeros cs = zeros_back (pos a) c cs zq in
    (first_zero (pos a) c cs z at_a, z)
  where
    other : (x : ℕ) → a + 1 ≤ x → one_value (c ∷ cs) (pos x) ≡ pos 0 → one_value (c ∷ cs) (pos a) ≡ pos 0 → one_value (quotient (pos a) c cs) (pos x) ≡ pos 0
    other x g e f = root_step a x (x - (a + 1)) _ _ _ (omega arith) e f (divides (pos a) (pos x) c cs)
