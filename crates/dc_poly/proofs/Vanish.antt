-- A polynomial in n variables of degree at most d in each that is 0 on the grid has only zero coefficients.
use Rattle.std.specs.Prelude.{◌≡◌, ◌⊎◌, ℕ, zero, suc, ◌+◌, ◌≤◌, ◌<◌, Bool, true, false, cond, ◌&&◌, eqb, List, [], ◌∷◌, length, ℤ, pos, ◌+ℤ◌, ◌*ℤ◌, refl}
use Rattle.std.proofs.Common.{sym, ◌∙◌, ap, ap₂, subst, arith, inl, inr}
use Rattle.std.proofs.lemmas.Bool.{cases_lt, eq-eqb, and_parts, ne_eqb}
use Rattle.std.proofs.lemmas.Int.{ints}
use Rattle.dc_math.specs.WholeRing.{ring, reads, read_nat, same_form}
use Rattle.dc_poly.proofs.One.{one_value, Zeros, one_law}
use Rattle.dc_poly.specs.Terms.{Exponents, TermList, term, power, mono_value, value, same_mono, coef}
use Rattle.dc_poly.specs.Grid.{Bounded, Over, Grid, whole}

-- the terms with the exponent j at the first place, without it
abbrev part_term : ℕ → Exponents → ℤ → TermList → TermList
part_term j [] c p = p
part_term j (e ∷ m) c p = cond (eqb e j) (term m c ∷ p) p

abbrev part : ℕ → TermList → TermList
part j [] = []
part j (t ∷ p) = part_term j t.mono t.coef (part j p)

-- n values of a function, from j on
abbrev row : (ℕ → ℤ) → ℕ → ℕ → List ℤ
row f j zero = []
row f j (suc n) = f j ∷ row f (suc j) n

row_length : (f : ℕ → ℤ) (j n : ℕ) → length (row f j n) ≡ n
row_length f j zero = refl
row_length f j (suc n) = ap suc (row_length f (suc j) n)

spread : (x a b c d : ℤ) → (a +ℤ b) +ℤ x *ℤ (c +ℤ d) ≡ (a +ℤ x *ℤ c) +ℤ (b +ℤ x *ℤ d)
spread x a b c d = ring (x ∷ a ∷ b ∷ c ∷ d ∷ []) (λ ρ i j k l m. simp (i, j, k, l, m, reads) (same_form _ _ _ refl))

row-add : (f g : ℕ → ℤ) (j n : ℕ) (x : ℤ) → one_value (row (λ i. f i +ℤ g i) j n) x ≡ one_value (row f j n) x +ℤ one_value (row g j n) x
row-add f g j zero x = refl
row-add f g j (suc n) x = rw (row-add f g (suc j) n x) (spread x (f j) (g j) (one_value (row f (suc j) n) x) (one_value (row g (suc j) n) x))

row-same : (f g : ℕ → ℤ) (j n : ℕ) (x : ℤ) → ((i : ℕ) → f i ≡ g i) → one_value (row f j n) x ≡ one_value (row g j n) x
row-same f g j zero x h = refl
row-same f g j (suc n) x h = ap₂ (λ a b. a +ℤ x *ℤ b) (h j) (row-same f g (suc j) n x h)

row-zero : (j n : ℕ) (x : ℤ) → one_value (row (λ i. pos 0) j n) x ≡ pos 0
row-zero j zero x = refl
row-zero j (suc n) x = rw (row-zero (suc j) n x) (ring (x ∷ []) (λ ρ a. simp (a, read_nat ρ, reads) (same_form _ _ _ refl)))

-- v at one place
abbrev only : ℕ → ℤ → ℕ → ℤ
only e v i = cond (eqb e i) v (pos 0)

eqb_other : (e i : ℕ) → e < i → eqb e i ≡ false
eqb_other e i h = ne_eqb e i (λ q. omega arith)

eqb_less : (e i : ℕ) → i < e → eqb e i ≡ false
eqb_less e i h = ne_eqb e i (λ q. omega arith)

only_past : (e j n : ℕ) (v x : ℤ) → e < j → one_value (row (only e v) j n) x ≡ pos 0
only_past e j zero v x h = refl
only_past e j (suc n) v x h =
    rw (eqb_other e j h, only_past e (suc j) n v x (omega arith)) (ring (x ∷ []) (λ ρ a. simp (a, read_nat ρ, reads) (same_form _ _ _ refl)))

only_value : (e j d n : ℕ) (v x : ℤ) → e ≡ j + d → d < n → one_value (row (only e v) j n) x ≡ v *ℤ power x d
only_value e j d zero v x q h = absurd (omega arith)
only_value e j zero (suc n) v x q h =
    let s : e ≡ j = omega arith in
    rw (only_past e (suc j) n v x (omega arith)) (subst (λ y. cond (eqb e y) v (pos 0) +ℤ x *ℤ pos 0 ≡ v *ℤ pos 1) s (rw (eq-eqb e e refl) (ring (v ∷ x ∷ []) (λ ρ a b. simp (a, b, read_nat ρ, reads) (same_form _ _ _ refl)))))
only_value e j (suc d) (suc n) v x q h =
    rw (eqb_less e j (omega arith), only_value e (suc j) d n v x (omega arith) (omega arith))
    (raise v x (power x d))
  where
    raise : (v x y : ℤ) → pos 0 +ℤ x *ℤ (v *ℤ y) ≡ v *ℤ (x *ℤ y)
    raise v x y = ring (v ∷ x ∷ y ∷ []) (λ ρ a b c. simp (a, b, c, read_nat ρ, reads) (same_form _ _ _ refl))

-- the value by powers of the first variable
abbrev at_power : TermList → List ℤ → ℕ → ℤ
at_power p xs j = value (part j p) xs

at_power-term : (e : ℕ) (m : Exponents) (c : ℤ) (p : TermList) (xs : List ℤ) (j : ℕ) → value (part_term j (e ∷ m) c (part j p)) xs ≡ only e (c *ℤ mono_value m xs) j +ℤ at_power p xs j
at_power-term e m c p xs j = by (eqb e j)
  where
    by : (b : Bool) → value (cond b (term m c ∷ part j p) (part j p)) xs ≡ cond b (c *ℤ mono_value m xs) (pos 0) +ℤ at_power p xs j
    by true = refl
    by false = omega (arith, ints)

collected_term : (n d : ℕ) (m : Exponents) (c : ℤ) (p : TermList) (x : ℤ) (xs : List ℤ) → length m ≡ suc n → Bounded d m
    → value p (x ∷ xs) ≡ one_value (row (at_power p xs) 0 (suc d)) x
    → c *ℤ mono_value m (x ∷ xs) +ℤ value p (x ∷ xs) ≡ one_value (row (at_power (term m c ∷ p) xs) 0 (suc d)) x
collected_term n d [] c p x xs l b h = absurd (omega arith)
collected_term n d (e ∷ m) c p x xs l b h =
    let le : e ≤ d = b.0 in
    let r : one_value (row (at_power (term (e ∷ m) c ∷ p) xs) 0 (suc d)) x ≡ one_value (row (λ j. only e (c *ℤ mono_value m xs) j +ℤ at_power p xs j) 0 (suc d)) x =
    row-same _ _ 0 (suc d) x (at_power-term e m c p xs) in
    let s : one_value (row (λ j. only e (c *ℤ mono_value m xs) j +ℤ at_power p xs j) 0 (suc d)) x ≡ one_value (row (only e (c *ℤ mono_value m xs)) 0 (suc d)) x +ℤ one_value (row (at_power p xs) 0 (suc d)) x =
    row-add (only e (c *ℤ mono_value m xs)) (at_power p xs) 0 (suc d) x in
    let u : one_value (row (only e (c *ℤ mono_value m xs)) 0 (suc d)) x ≡ (c *ℤ mono_value m xs) *ℤ power x e =
    only_value e 0 e (suc d) (c *ℤ mono_value m xs) x (omega arith) (omega arith) in
    ap₂ ◌+ℤ◌ (turn c (power x e) (mono_value m xs) ∙ sym u) h ∙ sym s ∙ sym r
  where
    turn : (c y z : ℤ) → c *ℤ (y *ℤ z) ≡ (c *ℤ z) *ℤ y
    turn c y z = ring (c ∷ y ∷ z ∷ []) (λ ρ p q r. simp (p, q, r, reads) (same_form _ _ _ refl))

collected : (n d : ℕ) (p : TermList) (x : ℤ) (xs : List ℤ) → Over (suc n) d p → value p (x ∷ xs) ≡ one_value (row (at_power p xs) 0 (suc d)) x
collected n d [] x xs o = sym (row-zero 0 (suc d) x)
collected n d (t ∷ p) x xs o = collected_term n d t.mono t.coef p x xs o.0.0 o.0.1 (collected n d p x xs o.1)

-- the parts are over one variable less
part_over : (n d j : ℕ) (p : TermList) → Over (suc n) d p → Over n d (part j p)
part_over n d j [] o = tt
part_over n d j (t ∷ p) o = by t.mono o.0.0 o.0.1 (part_over n d j p o.1)
  where
    by : (m : Exponents) → length m ≡ suc n → Bounded d m → Over n d (part j p) → Over n d (part_term j m t.coef (part j p))
    by [] l b h = h
    by (e ∷ m) l b h = pick (eqb e j)
      where
        pick : (v : Bool) → Over n d (cond v (term m t.coef ∷ part j p) (part j p))
        pick true = ((omega arith, b.1), h)
        pick false = h

-- their coefficients
part_coef : (n d j : ℕ) (k : Exponents) (p : TermList) → Over (suc n) d p → coef p (j ∷ k) ≡ coef (part j p) k
part_coef n d j k [] o = refl
part_coef n d j k (t ∷ p) o = by t.mono o.0.0 (part_coef n d j k p o.1)
  where
    by : (m : Exponents) → length m ≡ suc n → coef p (j ∷ k) ≡ coef (part j p) k → cond (same_mono m (j ∷ k)) t.coef (pos 0) +ℤ coef p (j ∷ k) ≡ coef (part_term j m t.coef (part j p)) k
    by [] l h = absurd (omega arith)
    by (e ∷ m) l h = pick (eqb e j)
      where
        pick : (v : Bool) → cond (v && same_mono m k) t.coef (pos 0) +ℤ coef p (j ∷ k) ≡ coef (cond v (term m t.coef ∷ part j p) (part j p)) k
        pick true = ap (λ x. cond (same_mono m k) t.coef (pos 0) +ℤ x) h
        pick false = (let q = h in omega (arith, ints))

-- a row of zeros is zero at each place
row_at : (f : ℕ → ℤ) (j n i : ℕ) → Zeros (row f j n) → i < n → f (j + i) ≡ pos 0
row_at f j zero i z h = absurd (omega arith)
row_at f j (suc n) zero z h = rw add_zero' z.0
  where
    add_zero' : j + 0 ≡ j
    add_zero' = omega arith
row_at f j (suc n) (suc i) z h = ap f (omega arith) ∙ row_at f (suc j) n i z.1 (omega arith)

same_length : (m k : Exponents) → same_mono m k ≡ true → length m ≡ length k
same_length [] [] h = refl
same_length [] (f ∷ k) h = cc
same_length (e ∷ m) [] h = cc
same_length (e ∷ m) (f ∷ k) h = ap suc (same_length m k (and_parts (eqb e f) (same_mono m k) h).1)

-- no term has a length other than n, or an exponent above d
no_length : (n d : ℕ) (k : Exponents) (p : TermList) → Over n d p → ¬ (length k ≡ n) → coef p k ≡ pos 0
no_length n d k [] o h = refl
no_length n d k (t ∷ p) o h = by (no_length n d k p o.1 h) (same_mono t.mono k) refl
  where
    by : coef p k ≡ pos 0 → (b : Bool) → same_mono t.mono k ≡ b → cond b t.coef (pos 0) +ℤ coef p k ≡ pos 0
    by i true q = let l = o.0.0 in absurd (h (sym (same_length t.mono k q) ∙ l))
    by i false q = omega (arith, ints)

no_exponent : (n d j : ℕ) (p : TermList) → Over (suc n) d p → d < j → part j p ≡ []
no_exponent n d j [] o h = refl
no_exponent n d j (t ∷ p) o h = by t.mono o.0.0 o.0.1 (no_exponent n d j p o.1 h)
  where
    by : (m : Exponents) → length m ≡ suc n → Bounded d m → part j p ≡ [] → part_term j m t.coef (part j p) ≡ []
    by [] l b i = i
    by (e ∷ m) l b i = let le : e ≤ d = b.0 in rw (eqb_other e j (omega arith)) i

no_places : (d : ℕ) (p : TermList) → Over 0 d p → value p [] ≡ coef p []
no_places d [] o = refl
no_places d (t ∷ p) o = by t.mono o.0.0 (no_places d p o.1)
  where
    by : (m : Exponents) → length m ≡ 0 → value p [] ≡ coef p [] → t.coef *ℤ mono_value m [] +ℤ value p [] ≡ cond (same_mono m []) t.coef (pos 0) +ℤ coef p []
    by [] l h = (let q = h in omega (arith, ints))
    by (e ∷ m) l h = absurd (omega arith)

pub vanishing : (n d : ℕ) (p : TermList) → Over n d p → ((xs : List ℕ) → Grid n d xs → value p (whole xs) ≡ pos 0) → (m : Exponents) → coef p m ≡ pos 0
vanishing zero d p o v [] = sym (no_places d p o) ∙ v [] (refl, tt)
vanishing zero d p o v (e ∷ m) = no_length 0 d (e ∷ m) p o (λ h. omega arith)
vanishing (suc n) d p o v [] = no_length (suc n) d [] p o (λ h. omega arith)
vanishing (suc n) d p o v (j ∷ m) =
    part_coef n d j m p o ∙ vanishing n d (part j p) (part_over n d j p o) (λ xs g. each (cases_lt d j) xs g) m
  where
    zeros : (xs : List ℕ) → Grid n d xs → Zeros (row (at_power p (whole xs)) 0 (suc d))
    zeros xs g =
        one_law (suc d) 0 (row (at_power p (whole xs)) 0 (suc d)) (let l = row_length (at_power p (whole xs)) 0 (suc d) in omega arith)
        (λ x a b. sym (collected n d p (pos x) (whole xs) o) ∙ v (x ∷ xs) (ap suc g.0, (omega arith, g.1)))

    each : (d < j) ⊎ (j ≤ d) → (xs : List ℕ) → Grid n d xs → value (part j p) (whole xs) ≡ pos 0
    each (inr h) xs g = ap (at_power p (whole xs)) zero-plus ∙ row_at (at_power p (whole xs)) 0 (suc d) j (zeros xs g) (omega arith)
      where
        zero-plus : j ≡ 0 + j
        zero-plus = omega arith
    each (inl h) xs g = ap (λ q. value q (whole xs)) (no_exponent n d j p o h)
