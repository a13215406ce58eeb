-- The product of two reduced fractions, each numerator divided by its common divisor with the other's denominator, is reduced.
use Rattle.std.specs.Prelude.{◌≡◌, ℕ, ◌*◌, ◌<◌, ℤ, pos, ◌*ℤ◌, ◌≤ℤ◌, unsigned_abs, int_div, [], ◌∷◌}
use Rattle.std.proofs.Common.{mul_comm, refl, sym, ◌∙◌, ap₂, subst, subst₂}
use Rattle.std.proofs.lemmas.Int.{unsigned_abs-mul}
use Rattle.std.proofs.Math.Nat.{dvd-mul_right, dvd_trans}
use Prim.Native.Nat.{◌∣◌}
use Rattle.dc_math.specs.Rational.{product_positive}
use Rattle.dc_math.specs.Gcd.{gcd, gcd_is, gcd_positive, Coprime, Coprime-gcd, gcd-Coprime, Coprime-swap, Coprime-*, Coprime_parts}
use Rattle.dc_math.specs.Quotients.{exact_quotient, size_of_product, positive_factor}
use Rattle.dc_math.specs.WholeRing.{ring, reads, same_form}
use Rattle.dc_math.specs.Integers.{size_positive}
use Rattle.dc_frac.specs.Parts.{product_num, product_den}

pub record ProductParts (a b c d : ℤ) : Type 0 where
  pub positive : pos 1 ≤ℤ product_den a b c d
  pub reduced : gcd (unsigned_abs (product_num a b c d)) (unsigned_abs (product_den a b c d)) ≡ 1
  pub equal : product_num a b c d *ℤ (b *ℤ d) ≡ (a *ℤ c) *ℤ product_den a b c d

-- what two numbers without a common divisor are divided to has none
divisors_apart : (m n a b : ℕ) → m ∣ a → n ∣ b → Coprime a b → Coprime m n
divisors_apart m n a b p q h d x y = h d (dvd_trans d x p) (dvd_trans d y q)

part_divides : (q : ℤ) (k : ℕ) (x : ℤ) → q *ℤ pos k ≡ x → unsigned_abs q ∣ unsigned_abs x
part_divides q k x e = subst (λ n. unsigned_abs q ∣ n) (sym (size_of_product q (pos k) x e)) (dvd-mul_right _ _)

product_equal : (a b c d a' b' c' d' g h : ℤ) → a' *ℤ g ≡ a → d' *ℤ g ≡ d → c' *ℤ h ≡ c → b' *ℤ h ≡ b → (a' *ℤ c') *ℤ (b *ℤ d) ≡ (a *ℤ c) *ℤ (b' *ℤ d')
product_equal a b c d a' b' c' d' g h ea ed ec eb =
    ap₂ (λ x y. (a' *ℤ c') *ℤ (x *ℤ y)) (sym eb) (sym ed)
    ∙ ring (a' ∷ b' ∷ c' ∷ d' ∷ g ∷ h ∷ []) (λ ρ p q r s t u. simp (p, q, r, s, t, u, reads) (same_form _ _ _ refl))
    ∙ ap₂ (λ x y. (x *ℤ y) *ℤ (b' *ℤ d')) ea ec

module _ (a b c d : ℤ) (pb : pos 1 ≤ℤ b) (pd : pos 1 ≤ℤ d) (ab : gcd (unsigned_abs a) (unsigned_abs b) ≡ 1) (cd : gcd (unsigned_abs c) (unsigned_abs d) ≡ 1) where
  pub product_parts : ProductParts a b c d
  product_parts =
      let g = gcd (unsigned_abs a) (unsigned_abs d) in
      let h = gcd (unsigned_abs c) (unsigned_abs b) in
      let some_g : 0 < g = gcd_positive (unsigned_abs a) (unsigned_abs d) (size_positive d pd) in
      let some_h : 0 < h = gcd_positive (unsigned_abs c) (unsigned_abs b) (size_positive b pb) in
      let a' = int_div a (pos g) in
      let d' = int_div d (pos g) in
      let c' = int_div c (pos h) in
      let b' = int_div b (pos h) in
      let ea : a' *ℤ pos g ≡ a = exact_quotient a g (gcd_is (unsigned_abs a) (unsigned_abs d)).0 in
      let ed : d' *ℤ pos g ≡ d = exact_quotient d g (gcd_is (unsigned_abs a) (unsigned_abs d)).1 in
      let ec : c' *ℤ pos h ≡ c = exact_quotient c h (gcd_is (unsigned_abs c) (unsigned_abs b)).0 in
      let eb : b' *ℤ pos h ≡ b = exact_quotient b h (gcd_is (unsigned_abs c) (unsigned_abs b)).1 in
      let a'd' : Coprime (unsigned_abs a') (unsigned_abs d') = Coprime_parts (unsigned_abs a) (unsigned_abs d) _ _ some_g (size_of_product a' (pos g) a ea ∙ mul_comm _ _) (size_of_product d' (pos g) d ed ∙ mul_comm _ _) in
      let c'b' : Coprime (unsigned_abs c') (unsigned_abs b') = Coprime_parts (unsigned_abs c) (unsigned_abs b) _ _ some_h (size_of_product c' (pos h) c ec ∙ mul_comm _ _) (size_of_product b' (pos h) b eb ∙ mul_comm _ _) in
      let a'b' : Coprime (unsigned_abs a') (unsigned_abs b') = divisors_apart _ _ _ _ (part_divides a' g a ea) (part_divides b' h b eb) (gcd-Coprime _ _ ab) in
      let c'd' : Coprime (unsigned_abs c') (unsigned_abs d') = divisors_apart _ _ _ _ (part_divides c' h c ec) (part_divides d' g d ed) (gcd-Coprime _ _ cd) in
      let left : Coprime (unsigned_abs b' * unsigned_abs d') (unsigned_abs a') = Coprime-* _ _ _ (Coprime-swap _ _ a'b') (Coprime-swap _ _ a'd') in
      let right : Coprime (unsigned_abs b' * unsigned_abs d') (unsigned_abs c') = Coprime-* _ _ _ (Coprime-swap _ _ c'b') (Coprime-swap _ _ c'd') in
      let all : Coprime (unsigned_abs a' * unsigned_abs c') (unsigned_abs b' * unsigned_abs d') = Coprime-* _ _ _ (Coprime-swap _ _ left) (Coprime-swap _ _ right) in
      record {
        positive = product_positive b' d' (positive_factor b' h b eb pb) (positive_factor d' g d ed pd);
        reduced = Coprime-gcd _ _ (subst₂ (λ m n. Coprime m n) (sym (unsigned_abs-mul a' c')) (sym (unsigned_abs-mul b' d')) all);
        equal = product_equal a b c d a' b' c' d' (pos g) (pos h) ea ed ec eb;
      }
