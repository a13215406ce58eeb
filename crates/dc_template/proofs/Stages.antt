-- A column under way: after some factors of one power, and after some places.
use Rattle.std.specs.Prelude.{◌≡◌, ℕ, zero, suc, ◌+◌, ◌*◌, ◌^◌, ◌≤◌, ◌<◌, List, [], ◌∷◌, length, ℤ, pos, ◌*ℤ◌, refl}
use Rattle.std.proofs.Common.{sym, ◌∙◌, ap, ap₂, subst, arith, get_or, drop}
use Rattle.std.proofs.Math.Nat.{pow-zero, pow-succ'}
use Rattle.std.proofs.lemmas.List.{drop_more, drop_all}
use Rattle.dc_math.specs.WholeRing.{ring, reads, read_nat, same_form}
use Rattle.dc_math.specs.Integers.{*ℤ-one}
use Rattle.dc_poly.specs.Terms.{Exponents, degree, degree_of, weight, largest, power, mono_value, value, Polynomial, IsPolynomial}
use Rattle.dc_poly.specs.Sums.{constant, product_of, values}
use Rattle.dc_poly.specs.Conditions.{CanMul, HavePlaces}
use Rattle.dc_poly.proofs.Sizes.{mul_both, power_more, weight-times, weight-constant, power-+}
use Rattle.dc_poly.proofs.Degrees.{degree-times, degree-constant}
use Rattle.dc_poly.specs.NormalForm.{IsNormalForm, normal_weight}
use Rattle.dc_template.specs.Columns.{column_places}
use Rattle.dc_poly.proofs.FewTerms.{normal_light}

-- ---- after i factors u to the column c
pub record Stage (c u : Polynomial) (i : ℕ) (p : Polynomial) : Type 0 where
  pub places : p.places ≡ c.places
  pub kind : IsPolynomial p
  pub low : degree_of p.terms ≤ degree_of c.terms + 2 * i
  pub light : weight p.terms ≤ weight c.terms * normal_weight ^ i
  pub exact : (xs : List ℤ) → value p.terms xs ≡ power (value u.terms xs) i *ℤ value c.terms xs

pub stage_start : (c u : Polynomial) → IsPolynomial c → Stage c u 0 c
stage_start c u h = record {
  places = refl;
  kind = h;
  low = omega arith;
  light = rw pow-zero (omega arith);
  exact = (λ xs. ring (value c.terms xs ∷ []) (λ ρ a. simp (a, read_nat ρ, reads) (same_form _ _ _ refl)));
}

one_more : (c i p u : ℕ) → p ≤ c * normal_weight ^ i → u ≤ normal_weight → p * u ≤ c * normal_weight ^ suc i
one_more c i p u h k = rw (pow-succ' normal_weight i) (turn c (normal_weight ^ i) normal_weight p u h k)
  where
    turn : (c w n p u : ℕ) → p ≤ c * w → u ≤ n → p * u ≤ c * (n * w)
    turn c w n p u h k = let a = mul_both p (c * w) u n h k in omega arith

pub stage_can : (c u : Polynomial) (e i : ℕ) (p : Polynomial) → IsPolynomial u → IsNormalForm u.terms → u.places ≡ c.places → degree_of c.terms + 2 * e ≤ 12 → weight c.terms * normal_weight ^ e ≤ largest → i < e
    → Stage c u i p → CanMul p u
stage_can c u e i p h k q low light l s = record {
  same_places = q ∙ sym s.places;
  low = (let a = degree-times p.terms u.terms in let b = k.low in let d = s.low in omega arith);
  light =
      (let a = one_more (weight c.terms) i (weight p.terms) (weight u.terms) s.light (normal_light u.places u.terms h.few h.in_order h.padded k) in
      let b = power_more normal_weight (suc i) e (omega arith) (omega arith) in
      let d = mul_both (weight c.terms) (weight c.terms) (normal_weight ^ suc i) (normal_weight ^ e) (omega arith) b in
      omega arith);
}

pub stage_next : (c u : Polynomial) (i : ℕ) (p q : Polynomial) → IsPolynomial u → IsNormalForm u.terms → q ≡ product_of p u → ((xs : List ℤ) → value q.terms xs ≡ value p.terms xs *ℤ value u.terms xs) → IsPolynomial q
    → Stage c u i p → Stage c u (i + 1) q
stage_next c u i p q h k e v g s = record {
  places = ap (λ (r : Polynomial). r.places) e ∙ s.places;
  kind = g;
  low = (let a = degree-times p.terms u.terms in let b = k.low in let d = s.low in let f = ap (λ (r : Polynomial). degree_of r.terms) e in omega arith);
  light =
      subst (λ j. weight q.terms ≤ weight c.terms * normal_weight ^ j) (let j : suc i ≡ i + 1 = omega arith in j)
      (let a = one_more (weight c.terms) i (weight p.terms) (weight u.terms) s.light (normal_light u.places u.terms h.few h.in_order h.padded k) in
      let b = weight-times p.terms u.terms in let f = ap (λ (r : Polynomial). weight r.terms) e in omega arith);
  exact = (λ xs. v xs ∙ turn (value p.terms xs) (value u.terms xs) (power (value u.terms xs) i) (value c.terms xs) (s.exact xs)
      ∙ ap (λ j. power (value u.terms xs) j *ℤ value c.terms xs) (let j : suc i ≡ i + 1 = omega arith in j));
}
  where
    turn : (x y w z : ℤ) → x ≡ w *ℤ z → x *ℤ y ≡ (y *ℤ w) *ℤ z
    turn x y w z f = rw f (ring (y ∷ w ∷ z ∷ []) (λ ρ a b d. simp (a, b, d, reads) (same_form _ _ _ refl)))

-- ---- after the first k places
pub record Column (us : List Polynomial) (m : Exponents) (k : ℕ) (p : Polynomial) : Type 0 where
  pub places : p.places ≡ column_places us
  pub kind : IsPolynomial p
  pub low : degree_of p.terms + 2 * degree (drop k m) ≤ 2 * degree m
  pub light : weight p.terms * normal_weight ^ degree (drop k m) ≤ normal_weight ^ degree m
  pub exact : (xs : List ℤ) → value p.terms xs *ℤ mono_value (drop k m) (drop k (values us xs)) ≡ mono_value m (values us xs)

pub column_start : (us : List Polynomial) (m : Exponents) (n : ℕ) (p : Polynomial) → n ≡ column_places us → p ≡ constant (pos 1) n → ((xs : List ℤ) → value p.terms xs ≡ pos 1) → IsPolynomial p → Column us m 0 p
column_start us m n p e f v g = record {
  places = ap (λ (r : Polynomial). r.places) f ∙ e;
  kind = g;
  low = (let a = degree-constant (pos 1) n in let b = ap (λ (r : Polynomial). degree_of r.terms) f in omega arith);
  light = (let a = weight-constant (pos 1) n in let b = ap (λ (r : Polynomial). weight r.terms) f in let d : weight p.terms ≡ 1 = omega arith in rw d (omega arith));
  exact = (λ xs. ap (λ y. y *ℤ mono_value m (values us xs)) (v xs) ∙ ring (mono_value m (values us xs) ∷ []) (λ ρ a. simp (a, read_nat ρ, reads) (same_form _ _ _ refl)));
}

-- the rest of a monomial, and of the values
split : (k e : ℕ) (m : Exponents) → k < length m → e ≡ get_or m k 0 → drop k m ≡ e ∷ drop (k + 1) m
split k e m h q = drop_more m k 0 h ∙ ap (λ x. x ∷ drop (k + 1) m) (sym q)

split_values : (k : ℕ) (u : Polynomial) (us : List Polynomial) (xs : List ℤ) → k < length us → u ≡ get_or us k u → drop k (values us xs) ≡ value u.terms xs ∷ drop (k + 1) (values us xs)
split_values k u [] xs h q = absurd (omega arith)
split_values zero u (w ∷ us) xs h q = ap (λ (r : Polynomial). value r.terms xs ∷ values us xs) (sym q)
split_values (suc k) u (w ∷ us) xs h q = split_values k u us xs (omega arith) q ∙ ap (λ j. value u.terms xs ∷ drop j (value w.terms xs ∷ values us xs)) (let j : suc (k + 1) ≡ suc k + 1 = omega arith in j)

weight_split : (k e : ℕ) (m : Exponents) → k < length m → e ≡ get_or m k 0 → normal_weight ^ degree (drop k m) ≡ normal_weight ^ e * normal_weight ^ degree (drop (k + 1) m)
weight_split k e m h q = ap (λ l. normal_weight ^ degree l) (split k e m h q) ∙ power-+ normal_weight e (degree (drop (k + 1) m))

-- what the power requires
pub column_low : (us : List Polynomial) (m : Exponents) (k e : ℕ) (p : Polynomial) → degree m ≤ 3 → k < length m → e ≡ get_or m k 0 → Column us m k p → degree_of p.terms + 2 * e ≤ 12
column_low us m k e p d h q s = let a = ap degree (split k e m h q) in let b = s.low in omega arith

pub column_light : (us : List Polynomial) (m : Exponents) (k e : ℕ) (p : Polynomial) → degree m ≤ 3 → k < length m → e ≡ get_or m k 0 → Column us m k p → weight p.terms * normal_weight ^ e ≤ largest
column_light us m k e p d h q s =
    let b = power_more normal_weight 0 (degree (drop (k + 1) m)) (omega arith) (omega arith) in
    let f = pow-zero normal_weight in
    let g = power_more normal_weight (degree m) 3 (omega arith) d in
    let n : normal_weight ^ 3 ≤ largest = omega arith in
    cut (weight p.terms) (normal_weight ^ e) (normal_weight ^ degree (drop (k + 1) m)) (normal_weight ^ degree m) largest
    (subst (λ y. weight p.terms * y ≤ normal_weight ^ degree m) (weight_split k e m h q) s.light) (omega arith) (omega arith)
  where
    cut : (w x y z l : ℕ) → w * (x * y) ≤ z → 1 ≤ y → z ≤ l → w * x ≤ l
    cut w x y z l h k g = let a : (w * x) * 1 ≤ (w * x) * y = mul_both (w * x) (w * x) 1 y (omega arith) k in omega arith

pub column_next : (us : List Polynomial) (m : Exponents) (k e : ℕ) (u p q : Polynomial) → length us ≡ length m → k < length m → e ≡ get_or m k 0 → u ≡ get_or us k u
    → q.places ≡ p.places → IsPolynomial q → degree_of q.terms ≤ degree_of p.terms + 2 * e → weight q.terms ≤ weight p.terms * normal_weight ^ e
    → ((xs : List ℤ) → value q.terms xs ≡ power (value u.terms xs) e *ℤ value p.terms xs) → Column us m k p → Column us m (k + 1) q
column_next us m k e u p q same h g i a b c d v s = record {
  places = a ∙ s.places;
  kind = b;
  low = (let x = ap degree (split k e m h g) in let y = s.low in omega arith);
  light =
      (let o = subst (λ y. weight p.terms * y ≤ normal_weight ^ degree m) (weight_split k e m h g) s.light in
      let l = mul_both (weight q.terms) (weight p.terms * normal_weight ^ e) (normal_weight ^ degree (drop (k + 1) m)) (normal_weight ^ degree (drop (k + 1) m)) d (omega arith) in
      omega arith);
  exact = (λ xs. turn (value q.terms xs) (value p.terms xs) (power (value u.terms xs) e) (mono_value (drop (k + 1) m) (drop (k + 1) (values us xs))) (v xs)
      ∙ ap (λ y. value p.terms xs *ℤ y) (sym (ap₂ mono_value (split k e m h g) (split_values k u us xs (omega arith) i)))
      ∙ s.exact xs);
}
  where
    turn : (q p w r : ℤ) → q ≡ w *ℤ p → q *ℤ r ≡ p *ℤ (w *ℤ r)
    turn q p w r f = rw f (ring (p ∷ w ∷ r ∷ []) (λ ρ x y z. simp (x, y, z, reads) (same_form _ _ _ refl)))

pub have_places : (n k : ℕ) (us : List Polynomial) (u : Polynomial) → HavePlaces n us → k < length us → u ≡ get_or us k u → u.places ≡ n
have_places n k [] u h l q = absurd (omega arith)
have_places n zero (w ∷ us) u h l q = ap (λ (r : Polynomial). r.places) q ∙ h.0
have_places n (suc k) (w ∷ us) u h l q = have_places n k us u h.1 (omega arith) q

-- ---- at the end
none_left : (k : ℕ) (m : Exponents) → length m ≤ k → drop k m ≡ []
none_left k m h = drop_all k m h

pub column_value : (us : List Polynomial) (m : Exponents) (k : ℕ) (p : Polynomial) → length m ≤ k → Column us m k p → (xs : List ℤ) → value p.terms xs ≡ mono_value m (values us xs)
column_value us m k p h s xs =
    sym (*ℤ-one (value p.terms xs)) ∙ ap (λ l. value p.terms xs *ℤ mono_value l (drop k (values us xs))) (sym (none_left k m h)) ∙ s.exact xs

pub column_degree : (us : List Polynomial) (m : Exponents) (k : ℕ) (p : Polynomial) → length m ≤ k → Column us m k p → degree_of p.terms ≤ 2 * degree m
column_degree us m k p h s = let a = s.low in omega arith

pub column_weight : (us : List Polynomial) (m : Exponents) (k : ℕ) (p : Polynomial) → length m ≤ k → Column us m k p → weight p.terms ≤ normal_weight ^ degree m
column_weight us m k p h s =
    let a = subst (λ l. weight p.terms * normal_weight ^ degree l ≤ normal_weight ^ degree m) (none_left k m h) s.light in
    let b = pow-zero normal_weight in
    let d = mul_both (weight p.terms) (weight p.terms) 1 (normal_weight ^ 0) (omega arith) (omega arith) in
    omega arith
