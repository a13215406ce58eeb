-- The whole numbers as a ring for `ring`, and its one-line form.
use Rattle.std.specs.Prelude.{◌≡◌, ℕ, suc, ℤ, pos, negsuc, neg_ℤ, ◌+ℤ◌, ◌*ℤ◌, List}
use Rattle.std.proofs.Common.{refl, arith, ap}
use Rattle.std.proofs.lemmas.Int.{ints}
use lib.IntN.{*ℤ_comm, +ℤ_comm, +ℤ_assoc, zero-*ℤ, +ℤ_idl}
use Rattle.dc_math.specs.Integers.{*ℤ_assoc, *ℤ-+ℤ, one-*ℤ, neg_ℤ_is}
use Rattle.dc_math.specs.Ring.{Ring, Expr, var, nat, ◌⊕◌, ◌⊗◌, ⊖◌, normal, value, same_normal, Named, by_names}

abbrev pub whole : Ring ℤ
whole = record {
  of_int = λ z. z;
  ◌⊹◌ = ◌+ℤ◌;
  ◌∗◌ = ◌*ℤ◌;
  neg = neg_ℤ;
  add_assoc = +ℤ_assoc;
  add_comm = +ℤ_comm;
  zero-add = +ℤ_idl;
  mul_assoc = *ℤ_assoc;
  mul_comm = *ℤ_comm;
  one-mul = one-*ℤ;
  zero-mul = zero-*ℤ;
  mul-add = *ℤ-+ℤ;
  neg_is = neg_ℤ_is;
  of_int-add = λ m n. refl;
  of_int-mul = λ m n. refl;
}

-- the value of an expression, which nothing opens outside of this file
pub value_ℤ : List ℤ → Expr → ℤ
value_ℤ ρ e = value whole ρ e

pub read_add : (ρ : List ℤ) (e f : Expr) → value_ℤ ρ e +ℤ value_ℤ ρ f ≡ value_ℤ ρ (e ⊕ f)
unfolding value_ℤ
read_add ρ e f = refl

pub read_mul : (ρ : List ℤ) (e f : Expr) → value_ℤ ρ e *ℤ value_ℤ ρ f ≡ value_ℤ ρ (e ⊗ f)
unfolding value_ℤ
read_mul ρ e f = refl

pub read_neg : (ρ : List ℤ) (e : Expr) → neg_ℤ (value_ℤ ρ e) ≡ value_ℤ ρ (⊖ e)
unfolding value_ℤ
read_neg ρ e = refl

pub read_nat : (ρ : List ℤ) (n : ℕ) → pos n ≡ value_ℤ ρ (nat n)
unfolding value_ℤ
read_nat ρ n = refl

pub read_minus : (ρ : List ℤ) (n : ℕ) → negsuc n ≡ value_ℤ ρ (⊖ nat (suc n))
unfolding value_ℤ
read_minus ρ n = refl

-- sums, products and negations of expressions; where there are numerals `read_nat ρ` and `read_minus ρ` are listed beside it
pub ruleset reads = (read_add, read_mul, read_neg)

-- `ring (a ∷ b ∷ []) (λ ρ p q. simp (p, q, reads) (same_form _ _ _ refl))`
pub ring : {P : Type 0} (ρ : List ℤ) → ((ρ' : List ℤ) → Named (λ i. value_ℤ ρ' (var i)) 0 ρ P) → P
unfolding value_ℤ
ring ρ k = by_names whole ρ (k ρ)

pub same_form : (ρ : List ℤ) (e f : Expr) → normal e ≡ normal f → value_ℤ ρ e ≡ value_ℤ ρ f
unfolding value_ℤ
same_form ρ e f h = same_normal whole ρ e f h

-- an equation from another: l - r is c times a - b
pub linear₁ : (c l r a b : ℤ) → a ≡ b → l +ℤ b *ℤ c ≡ r +ℤ a *ℤ c → l ≡ r
linear₁ c l r a b h e =
    let k = ap (λ (x : ℤ). x *ℤ c) h in
    omega (arith, ints)

pub linear₂ : (c l r a b c' a' b' : ℤ) → a ≡ b → a' ≡ b' → l +ℤ (b *ℤ c +ℤ b' *ℤ c') ≡ r +ℤ (a *ℤ c +ℤ a' *ℤ c') → l ≡ r
linear₂ c l r a b c' a' b' h h' e =
    let k = ap (λ (x : ℤ). x *ℤ c) h in
    let k' = ap (λ (x : ℤ). x *ℤ c') h' in
    omega (arith, ints)

-- the expressions written out: where a numeral stands left of a variable, `simp` doesn't see the product
pub by_form : (ρ : List ℤ) (e f : Expr) → normal e ≡ normal f → value whole ρ e ≡ value whole ρ f
by_form ρ e f h = same_normal whole ρ e f h
