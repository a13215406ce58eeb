-- Constant potentials, at each location its price, certify the difference of what the systems cost.
use Rattle.std.specs.Prelude.{◌≡◌, ℕ, zero, suc, ◌+◌, ◌≤◌, List, [], ◌∷◌, ◌++◌, map, length, ℤ, pos, ◌-ℤ◌, neg_ℤ}
use Rattle.std.specs.List.{range_with_len}
use Rattle.std.proofs.Common.{refl, sym, ap, ◌∙◌, subst, arith}
use Rattle.dc_math.specs.Members.{at_among}
use Rattle.dc_math.specs.Rational.{ℚ, ◌+ℚ◌, ◌-ℚ◌, ◌*ℚ◌, of_ℤ, of_ℤ-+ℤ}
use Rattle.dc_math.specs.RationalRing.{ring, reads, read_nat, same_form}
use Rattle.dc_math.specs.Order.{of_ℤ-neg_ℤ}
use Rattle.dc_math.specs.Signs.{zero_non_negative}
use Rattle.dc_math.specs.Vectors.{dot}
use Rattle.dc_lp.specs.Tables.{made}
use Rattle.dc_syntax.specs.declared.tree.Side.TheVariants.{New, Old}
use Rattle.dc_poly.specs.Terms.{Exponents, mono_value}
use Rattle.dc_poly.specs.Sums.{zeros, values}
use Rattle.dc_poly.specs.Monomials.{of_degree, monomials_of}
use Rattle.dc_poly.proofs.Values.{zeros_value}
use Rattle.dc_template.specs.Templates.{mono_values}
use Rattle.dc_template.proofs.Walks.{degree_zero}
use Rattle.dc_claims.specs.declared.duty.Duty.{Duty}
use Rattle.dc_claims.specs.declared.duty.Duty.TheVariants.{Along, AtExit, AtEntry}
use Rattle.dc_claims.specs.Duties.{Pair, no_edge, edge_at, exit_of, IsOwed}
use Rattle.dc_claims.specs.Claims.{Potential, Multipliers, potential_value, left_value, product_values, products_count, IsMet, IsCertified}
use Rattle.dc_plain.proofs.Prices.{IsPaid}

-- ---- the first monomial is 1

first_monomial : (n d : ℕ) → (rest : List Exponents) × (monomials_of n d ≡ zeros n ∷ rest)
first_monomial n zero = ([], degree_zero n)
first_monomial n (suc d) =
    let r = first_monomial n d in
    (r.0 ++ of_degree n (suc d), ap (λ ms. ms ++ of_degree n (suc d)) r.1)

-- ---- constant potentials
level : (ℕ → ℤ) → Potential
level v l zero = of_ℤ (v l)
level v l (suc i) = of_ℤ (pos 0)

dot_zero : (f : ℕ → ℚ) (a n : ℕ) → ((i : ℕ) → a ≤ i → f i ≡ of_ℤ (pos 0)) → (ys : List ℚ) → dot (map f (range_with_len a n)) ys ≡ of_ℤ (pos 0)
dot_zero f a zero h ys = refl
dot_zero f a (suc n) h [] = refl
dot_zero f a (suc n) h (y ∷ ys) = shape (f a) y _ (h a (omega arith)) (dot_zero f (a + 1) n (λ i l. h i (omega arith)) ys)
  where
    shape : (x y z : ℚ) → x ≡ of_ℤ (pos 0) → z ≡ of_ℤ (pos 0) → (x *ℚ y) +ℚ z ≡ of_ℤ (pos 0)
    shape x y z e g = rw (e, g) (ring (y ∷ []) (λ ρ i. simp (i, read_nat ρ, reads) (same_form _ _ _ refl)))

higher_level : (v : ℕ → ℤ) (l i : ℕ) → 1 ≤ i → level v l i ≡ of_ℤ (pos 0)
unfolding level
higher_level v l zero h = absurd (omega arith)
higher_level v l (suc i) h = refl

level_value : (v : ℕ → ℤ) (n d l : ℕ) (x : List ℤ) → dot (made (length (monomials_of n d)) (level v l)) (mono_values (monomials_of n d) x) ≡ of_ℤ (v l)
unfolding level
level_value v n d l x =
    let m = first_monomial n d in
    subst (λ ms. dot (made (length ms) (level v l)) (mono_values ms x) ≡ of_ℤ (v l)) (sym m.1)
    (shape (of_ℤ (v l)) (of_ℤ (mono_value (zeros n) x)) _ (ap of_ℤ (zeros_value n x)) (dot_zero (level v l) 1 (length m.0) (higher_level v l) (mono_values m.0 x)))
  where
    shape : (a y z : ℚ) → y ≡ of_ℤ (pos 1) → z ≡ of_ℤ (pos 0) → (a *ℚ y) +ℚ z ≡ a
    shape a y z e g = rw (e, g) (ring (a ∷ []) (λ ρ i. simp (i, read_nat ρ, reads) (same_form _ _ _ refl)))

-- ---- rational numbers
pub of_minus : (c e : ℤ) → of_ℤ (c -ℤ e) ≡ of_ℤ c -ℚ of_ℤ e
of_minus c e = of_ℤ-+ℤ c (neg_ℤ e) ∙ ap (λ z. of_ℤ c +ℚ z) (of_ℤ-neg_ℤ e)

new_none : (a b f g c : ℚ) → f ≡ a → g ≡ b → c ≡ a -ℚ b → (f -ℚ g) -ℚ c ≡ of_ℤ (pos 0)
new_none a b f g c d e h = rw (d, e, h) (ring (a ∷ b ∷ []) (λ ρ i j. simp (i, j, read_nat ρ, reads) (same_form _ _ _ refl)))

old_none : (a b f g c : ℚ) → f ≡ a → g ≡ b → c ≡ a -ℚ b → c -ℚ (f -ℚ g) ≡ of_ℤ (pos 0)
old_none a b f g c d e h = rw (d, e, h) (ring (a ∷ b ∷ []) (λ ρ i j. simp (i, j, read_nat ρ, reads) (same_form _ _ _ refl)))

exit_none : (f : ℚ) → f ≡ of_ℤ (pos 0) → of_ℤ (pos 0) -ℚ f ≡ of_ℤ (pos 0)
exit_none f e = rw e (ring [] (λ ρ. simp (read_nat ρ, reads) (same_form _ _ _ refl)))

entry_none : (a b f g t : ℚ) → f ≡ a → g ≡ b → t ≡ a -ℚ b → (t -ℚ f) +ℚ g ≡ of_ℤ (pos 0)
entry_none a b f g t d e h = rw (d, e, h) (ring (a ∷ b ∷ []) (λ ρ i j. simp (i, j, read_nat ρ, reads) (same_form _ _ _ refl)))

-- ---- each duty is met by no products
module _ (p : Pair) (d k : ℕ) (a b : ℤ) (new : IsPaid p.new a) (old : IsPaid p.old b) where
  abbrev threshold : ℚ
  threshold = of_ℤ (a -ℤ b)

  abbrev φ : Potential
  φ = level new.price

  abbrev χ : Potential
  χ = level old.price

  none : Multipliers
  none o i = of_ℤ (pos 0)

  new_is : (l : ℕ) (x : List ℤ) → potential_value p d New φ l x ≡ of_ℤ (new.price l)
  new_is l x = level_value new.price p.new.vars d l x

  old_is : (l : ℕ) (x : List ℤ) → potential_value p d Old χ l x ≡ of_ℤ (old.price l)
  old_is l x = level_value old.price p.old.vars d l x

  met : (o : Duty) → ((x : List ℤ) → left_value p d threshold φ χ o x ≡ of_ℤ (pos 0)) → IsMet p d k threshold φ χ none o
  unfolding none
  met o h = record {
    signs = λ i l. zero_non_negative;
    identity = λ x l. h x ∙ sym (dot_zero (none o) 0 (products_count p k o) (λ i l. refl) (product_values p k o x));
  }

  meets : (o : Duty) → IsOwed p o → IsMet p d k threshold φ χ none o
  meets (Along New n) w = met (Along New n) (λ x.
      let e = edge_at p.new n in
      new_none (of_ℤ (new.price e.from)) (of_ℤ (new.price e.to)) _ _ _ (new_is e.from x) (new_is e.to (values e.update x))
      (ap of_ℤ (new.edges e (at_among no_edge p.new.edges n w.there) x) ∙ of_minus (new.price e.from) (new.price e.to)))
  meets (Along Old n) w = met (Along Old n) (λ x.
      let e = edge_at p.old n in
      old_none (of_ℤ (old.price e.from)) (of_ℤ (old.price e.to)) _ _ _ (old_is e.from x) (old_is e.to (values e.update x))
      (ap of_ℤ (old.edges e (at_among no_edge p.old.edges n w.there) x) ∙ of_minus (old.price e.from) (old.price e.to)))
  meets (AtExit New) w = met (AtExit New) (λ x. new_is (exit_of p.new) x ∙ ap of_ℤ new.exit)
  meets (AtExit Old) w = met (AtExit Old) (λ x. exit_none _ (old_is (exit_of p.old) x ∙ ap of_ℤ old.exit))
  meets (AtEntry n) w = met (AtEntry n) (λ x.
      entry_none (of_ℤ a) (of_ℤ b) _ _ _ (new_is 0 x ∙ ap of_ℤ new.entry) (old_is 0 x ∙ ap of_ℤ old.entry) (of_minus a b))

  pub paid_certified : IsCertified p d k threshold
  paid_certified = (φ, χ, none, record { meets = meets })
