-- The sum of two reduced fractions by the common divisor of their denominators is reduced, and is their sum.
use Rattle.std.specs.Prelude.{◌≡◌, ℕ, ◌*◌, ◌/◌, ◌<◌, ◌≤◌, ℤ, pos, ◌+ℤ◌, ◌*ℤ◌, ◌≤ℤ◌, unsigned_abs, int_div, [], ◌∷◌}
use Rattle.std.proofs.Common.{mul_assoc, mul_comm, refl, sym, ◌∙◌, ap, ap₂, subst}
use Rattle.std.proofs.lemmas.Int.{unsigned_abs-mul}
use Rattle.std.proofs.Math.Nat.{div-mul_cancel, dvd-mul_right, dvd_trans, mul-div_cancel}
use Prim.Native.Nat.{◌∣◌}
use Rattle.dc_math.specs.Rational.{product_positive}
use Rattle.dc_math.specs.Gcd.{gcd, gcd_is, gcd_positive, Coprime, Coprime-gcd, gcd-Coprime, Coprime-swap, Coprime-*, Coprime_of_dvd, Coprime_parts, Coprime-sum}
use Rattle.dc_math.specs.Quotients.{gcd_ℤ, exact_quotient, quotient_size, size_of_product, positive_factor}
use Rattle.dc_math.specs.WholeRing.{ring, reads, same_form}
use Rattle.dc_math.specs.Integers.{size_positive}
use Rattle.dc_frac.specs.Fits.{sum_total, sum_den}

-- b = b'g, d = d'g = d''e, w = a d' + c b' = ne
pub sum_equal : (a b c d b' d' d'' g n e w : ℤ) → b' *ℤ g ≡ b → d' *ℤ g ≡ d → d'' *ℤ e ≡ d → n *ℤ e ≡ a *ℤ d' +ℤ c *ℤ b'
    → n *ℤ (b *ℤ d) ≡ (a *ℤ d +ℤ c *ℤ b) *ℤ (b' *ℤ d'')
sum_equal a b c d b' d' d'' g n e w eb ed ed' en =
    ap₂ (λ x y. n *ℤ (x *ℤ y)) (sym eb) (sym ed')
    ∙ ring (n ∷ b' ∷ g ∷ d'' ∷ e ∷ []) (λ ρ p q r s t. simp (p, q, r, s, t, reads) (same_form _ _ _ refl))
    ∙ ap (λ x. x *ℤ (g *ℤ b' *ℤ d'')) en
    ∙ ring (a ∷ b' ∷ c ∷ d' ∷ g ∷ d'' ∷ []) (λ ρ p q r s t u. simp (p, q, r, s, t, u, reads) (same_form _ _ _ refl))
    ∙ ap₂ (λ x y. (a *ℤ y +ℤ c *ℤ x) *ℤ (b' *ℤ d'')) eb ed

cancel_right : (x y e : ℕ) → 0 < e → x * e ≡ y * e → x ≡ y
cancel_right x y e h p = sym (mul-div_cancel x h) ∙ ap (λ n. n / e) p ∙ mul-div_cancel y h

-- what the code computes, of the parts of two reduced fractions
pub record SumParts (a b c d n f : ℤ) : Type 0 where
  pub positive : pos 1 ≤ℤ f
  pub reduced : gcd (unsigned_abs n) (unsigned_abs f) ≡ 1
  pub size : unsigned_abs n ≤ unsigned_abs (sum_total a b c d (gcd_ℤ b d))
  pub equal : n *ℤ (b *ℤ d) ≡ (a *ℤ d +ℤ c *ℤ b) *ℤ f

module _ (a b c d : ℤ) (pb : pos 1 ≤ℤ b) (pd : pos 1 ≤ℤ d) (ab : gcd (unsigned_abs a) (unsigned_abs b) ≡ 1) (cd : gcd (unsigned_abs c) (unsigned_abs d) ≡ 1) where
  pub sum_parts : SumParts a b c d (int_div (sum_total a b c d (gcd_ℤ b d)) (gcd_ℤ (sum_total a b c d (gcd_ℤ b d)) (gcd_ℤ b d))) (sum_den a b c d (gcd_ℤ b d))
  sum_parts =
      let g = gcd (unsigned_abs b) (unsigned_abs d) in
      let w = sum_total a b c d (gcd_ℤ b d) in
      let e = gcd (unsigned_abs w) g in
      let some_g : 0 < g = gcd_positive (unsigned_abs b) (unsigned_abs d) (size_positive d pd) in
      let some_e : 0 < e = gcd_positive (unsigned_abs w) g some_g in
      let b' = int_div b (pos g) in
      let d' = int_div d (pos g) in
      let d'' = int_div d (pos e) in
      let n = int_div w (pos e) in
      let e-g : e ∣ g = (gcd_is (unsigned_abs w) g).1 in
      let eb : b' *ℤ pos g ≡ b = exact_quotient b g (gcd_is (unsigned_abs b) (unsigned_abs d)).0 in
      let ed : d' *ℤ pos g ≡ d = exact_quotient d g (gcd_is (unsigned_abs b) (unsigned_abs d)).1 in
      let ed' : d'' *ℤ pos e ≡ d = exact_quotient d e (dvd_trans e e-g (gcd_is (unsigned_abs b) (unsigned_abs d)).1) in
      let en : n *ℤ pos e ≡ w = exact_quotient w e (gcd_is (unsigned_abs w) g).0 in
      let g' = g / e in
      let eg : g' * e ≡ g = div-mul_cancel e e-g in
      -- d'' is d' times g'
      let ed'' : unsigned_abs d'' ≡ unsigned_abs d' * g' = cancel_right (unsigned_abs d'') (unsigned_abs d' * g') e some_e
      (sym (size_of_product d'' (pos e) d ed') ∙ size_of_product d' (pos g) d ed ∙ ap (λ x. unsigned_abs d' * x) (sym eg) ∙ sym (mul_assoc (unsigned_abs d') g' e)) in
      let p' = positive_factor b' g b eb pb in
      let q' = positive_factor d'' e d ed' pd in
      let b'd' : Coprime (unsigned_abs b') (unsigned_abs d') = Coprime_parts (unsigned_abs b) (unsigned_abs d) _ _ some_g (size_of_product b' (pos g) b eb ∙ mul_comm _ _) (size_of_product d' (pos g) d ed ∙ mul_comm _ _) in
      let ab' : Coprime (unsigned_abs a) (unsigned_abs b') = Coprime-swap _ _ (Coprime_of_dvd _ _ _ (subst (λ x. unsigned_abs b' ∣ x) (sym (size_of_product b' (pos g) b eb)) (dvd-mul_right _ _)) (Coprime-swap _ _ (gcd-Coprime _ _ ab))) in
      let cd' : Coprime (unsigned_abs c) (unsigned_abs d') = Coprime-swap _ _ (Coprime_of_dvd _ _ _ (subst (λ x. unsigned_abs d' ∣ x) (sym (size_of_product d' (pos g) d ed)) (dvd-mul_right _ _)) (Coprime-swap _ _ (gcd-Coprime _ _ cd))) in
      let whole = Coprime-sum a b' c d' g ab' cd' b'd' in
      let n-w : unsigned_abs n ∣ unsigned_abs w = subst (λ x. unsigned_abs n ∣ x) (sym (size_of_product n (pos e) w en)) (dvd-mul_right _ _) in
      let part : Coprime (unsigned_abs n) (unsigned_abs b' * unsigned_abs d') = Coprime_of_dvd _ _ _ n-w (Coprime-swap _ _ whole) in
      let rest : Coprime (unsigned_abs n) g' = Coprime_parts (unsigned_abs w) g _ _ some_e (size_of_product n (pos e) w en ∙ mul_comm _ _) (sym eg ∙ mul_comm _ _) in
      let all : Coprime (unsigned_abs b' * unsigned_abs d' * g') (unsigned_abs n) = Coprime-* _ _ _ (Coprime-swap _ _ part) (Coprime-swap _ _ rest) in
      let size : unsigned_abs (b' *ℤ d'') ≡ unsigned_abs b' * unsigned_abs d' * g' = unsigned_abs-mul b' d'' ∙ ap (λ x. unsigned_abs b' * x) ed'' ∙ sym (mul_assoc _ _ _) in
      record {
        positive = product_positive b' d'' p' q';
        reduced = Coprime-gcd _ _ (λ k x y. all k (subst (λ z. k ∣ z) size y) x);
        size = quotient_size w e;
        equal = sum_equal a b c d b' d' d'' (pos g) n (pos e) w eb ed ed' en;
      }
