-- Equations of a commutative ring by normal forms: both sides are written as expressions, which are computed to sums of products.
use Rattle.std.specs.Prelude.{◌≡◌, ℕ, zero, suc, ◌+◌, ℤ, pos, negsuc, ◌+ℤ◌, ◌*ℤ◌, List, [], ◌∷◌, leb, eqb, T}
use Rattle.std.specs.Prelude.{Bool, true, false}
use Rattle.std.proofs.Common.{refl, sym, ◌∙◌, ap, ap₂, arith, eqb→eq, subst}

-- a commutative ring, with the whole numbers in it
pub record Ring (R : Type 0) : Type 0 where
  infixl 6 ◌⊹◌
  infixl 7 ◌∗◌
  pub of_int : ℤ → R
  pub ◌⊹◌ : R → R → R
  pub ◌∗◌ : R → R → R
  pub neg : R → R
  pub add_assoc : (a b c : R) → (a ⊹ b) ⊹ c ≡ a ⊹ (b ⊹ c)
  pub add_comm : (a b : R) → a ⊹ b ≡ b ⊹ a
  pub zero-add : (a : R) → of_int (pos 0) ⊹ a ≡ a
  pub mul_assoc : (a b c : R) → (a ∗ b) ∗ c ≡ a ∗ (b ∗ c)
  pub mul_comm : (a b : R) → a ∗ b ≡ b ∗ a
  pub one-mul : (a : R) → of_int (pos 1) ∗ a ≡ a
  pub zero-mul : (a : R) → of_int (pos 0) ∗ a ≡ of_int (pos 0)
  pub mul-add : (a b c : R) → a ∗ (b ⊹ c) ≡ a ∗ b ⊹ a ∗ c
  pub neg_is : (a : R) → neg a ≡ of_int (negsuc 0) ∗ a
  pub of_int-add : (m n : ℤ) → of_int (m +ℤ n) ≡ of_int m ⊹ of_int n
  pub of_int-mul : (m n : ℤ) → of_int (m *ℤ n) ≡ of_int m ∗ of_int n

infixl 6 ◌⊕◌ ◌⊝◌
infixl 7 ◌⊗◌
infixl 8 ⊖◌
pub data Expr : Type 0 where
  var : ℕ → Expr
  nat : ℕ → Expr
  ◌⊕◌ : Expr → Expr → Expr
  ◌⊗◌ : Expr → Expr → Expr
  ⊖◌ : Expr → Expr
  ◌⊝◌ : Expr → Expr → Expr

-- a term: a coefficient, and the variables of a product in rising order
pub record Term : Type 0 where
  pub coef : ℤ
  pub vars : List ℕ

-- ---- normal forms
abbrev pub with_var : ℕ → List ℕ → List ℕ
with_var v [] = v ∷ []
with_var v (w ∷ m) = elim (leb v w) [ true ↦ v ∷ w ∷ m | false ↦ w ∷ with_var v m ]

abbrev pub times : List ℕ → List ℕ → List ℕ
times [] k = k
times (v ∷ m) k = with_var v (times m k)

pub data Compared : Type 0 where
  before : Compared
  same : Compared
  after : Compared

abbrev pub compare_vars : List ℕ → List ℕ → Compared
compare_vars [] [] = same
compare_vars [] (w ∷ k) = before
compare_vars (v ∷ m) [] = after
compare_vars (v ∷ m) (w ∷ k) = elim (eqb v w) [ true ↦ compare_vars m k | false ↦ elim (leb v w) [ true ↦ before | false ↦ after ] ]

abbrev pub with_coef : ℤ → List ℕ → List Term → List Term
with_coef (pos zero) m p = p
with_coef (pos (suc n)) m p = record { coef = pos (suc n); vars = m } ∷ p
with_coef (negsuc n) m p = record { coef = negsuc n; vars = m } ∷ p

abbrev pub with_term : ℤ → List ℕ → List Term → List Term
with_term c m [] = with_coef c m []
with_term c m (t ∷ p) = elim (compare_vars m t.vars) [ before ↦ with_coef c m (t ∷ p) | same ↦ with_coef (c +ℤ t.coef) t.vars p | after ↦ t ∷ with_term c m p ]

abbrev pub plus : List Term → List Term → List Term
plus [] q = q
plus (t ∷ p) q = with_term t.coef t.vars (plus p q)

abbrev pub scaled : ℤ → List ℕ → List Term → List Term
scaled c m [] = []
scaled c m (t ∷ p) = with_term (c *ℤ t.coef) (times m t.vars) (scaled c m p)

abbrev pub product : List Term → List Term → List Term
product [] q = []
product (t ∷ p) q = plus (scaled t.coef t.vars q) (product p q)

abbrev pub normal : Expr → List Term
normal (var v) = record { coef = pos 1; vars = v ∷ [] } ∷ []
normal (nat n) = with_coef (pos n) [] []
normal (e ⊕ f) = plus (normal e) (normal f)
normal (e ⊗ f) = product (normal e) (normal f)
normal (⊖ e) = scaled (negsuc 0) [] (normal e)
normal (e ⊝ f) = plus (normal e) (scaled (negsuc 0) [] (normal f))

same_vars : (m k : List ℕ) → compare_vars m k ≡ same → m ≡ k
same_vars [] [] e = refl
same_vars [] (w ∷ k) e = cc
same_vars (v ∷ m) [] e = cc
same_vars (v ∷ m) (w ∷ k) e = by (same_vars m k) (eqb v w) refl e
  where
    by : (compare_vars m k ≡ same → m ≡ k) → (b : Bool) → eqb v w ≡ b → elim b [ true ↦ compare_vars m k | false ↦ elim (leb v w) [ true ↦ before | false ↦ after ] ] ≡ same → v ∷ m ≡ w ∷ k
    by r true q h = ap₂ ◌∷◌ (eqb→eq v w (subst T (sym q) tt)) (r h)
    by r false q h = no (leb v w) h
      where
        no : (b : Bool) → elim b [ true ↦ before | false ↦ after ] ≡ same → v ∷ m ≡ w ∷ k
        no true h = cc
        no false h = cc

module _ {R : Type 0} (𝓡 : Ring R) where
  infixl 6 ◌⊹◌
  infixl 7 ◌∗◌
  open 𝓡 use {of_int, ◌⊹◌, ◌∗◌, neg, add_assoc, add_comm, zero-add, mul_assoc, mul_comm, one-mul, zero-mul, mul-add, neg_is, of_int-add, of_int-mul}

  abbrev pub at : List R → ℕ → R
  at [] n = of_int (pos 0)
  at (x ∷ ρ) zero = x
  at (x ∷ ρ) (suc n) = at ρ n

  abbrev pub value : List R → Expr → R
  value ρ (var v) = at ρ v
  value ρ (nat n) = of_int (pos n)
  value ρ (e ⊕ f) = value ρ e ⊹ value ρ f
  value ρ (e ⊗ f) = value ρ e ∗ value ρ f
  value ρ (⊖ e) = neg (value ρ e)
  value ρ (e ⊝ f) = value ρ e ⊹ neg (value ρ f)

  of_vars : List R → List ℕ → R
  of_vars ρ [] = of_int (pos 1)
  of_vars ρ (v ∷ m) = at ρ v ∗ of_vars ρ m

  of_terms : List R → List Term → R
  of_terms ρ [] = of_int (pos 0)
  of_terms ρ (t ∷ p) = of_int t.coef ∗ of_vars ρ t.vars ⊹ of_terms ρ p

  -- ---- laws
  add-zero : (a : R) → a ⊹ of_int (pos 0) ≡ a
  add-zero a = add_comm a (of_int (pos 0)) ∙ zero-add a

  add_left_comm : (a b c : R) → a ⊹ (b ⊹ c) ≡ b ⊹ (a ⊹ c)
  add_left_comm a b c = sym (add_assoc a b c) ∙ ap (λ x. x ⊹ c) (add_comm a b) ∙ add_assoc b a c

  mul_left_comm : (a b c : R) → a ∗ (b ∗ c) ≡ b ∗ (a ∗ c)
  mul_left_comm a b c = sym (mul_assoc a b c) ∙ ap (λ x. x ∗ c) (mul_comm a b) ∙ mul_assoc b a c

  add-mul : (a b c : R) → (a ⊹ b) ∗ c ≡ a ∗ c ⊹ b ∗ c
  add-mul a b c = mul_comm (a ⊹ b) c ∙ mul-add c a b ∙ ap₂ ◌⊹◌ (mul_comm c a) (mul_comm c b)

  with_var-value : (ρ : List R) (v : ℕ) (m : List ℕ) → of_vars ρ (with_var v m) ≡ at ρ v ∗ of_vars ρ m
  unfolding of_vars
  with_var-value ρ v [] = refl
  with_var-value ρ v (w ∷ m) =
      elim (leb v w) as (λ b. of_vars ρ (elim b [ true ↦ v ∷ w ∷ m | false ↦ w ∷ with_var v m ]) ≡ at ρ v ∗ (at ρ w ∗ of_vars ρ m)) [
        | true ↦ refl
        | false ↦ ap (λ x. at ρ w ∗ x) (with_var-value ρ v m) ∙ mul_left_comm (at ρ w) (at ρ v) (of_vars ρ m)
      ]

  times-value : (ρ : List R) (m k : List ℕ) → of_vars ρ (times m k) ≡ of_vars ρ m ∗ of_vars ρ k
  unfolding of_vars
  times-value ρ [] k = sym (one-mul (of_vars ρ k))
  times-value ρ (v ∷ m) k = with_var-value ρ v (times m k) ∙ ap (λ x. at ρ v ∗ x) (times-value ρ m k) ∙ sym (mul_assoc (at ρ v) (of_vars ρ m) (of_vars ρ k))

  with_coef-value : (ρ : List R) (c : ℤ) (m : List ℕ) (p : List Term) → of_terms ρ (with_coef c m p) ≡ of_int c ∗ of_vars ρ m ⊹ of_terms ρ p
  unfolding of_terms
  with_coef-value ρ (pos zero) m p = sym (zero-add (of_terms ρ p)) ∙ ap (λ x. x ⊹ of_terms ρ p) (sym (zero-mul (of_vars ρ m)))
  with_coef-value ρ (pos (suc n)) m p = refl
  with_coef-value ρ (negsuc n) m p = refl

  with_term-value : (ρ : List R) (c : ℤ) (m : List ℕ) (p : List Term) → of_terms ρ (with_term c m p) ≡ of_int c ∗ of_vars ρ m ⊹ of_terms ρ p
  unfolding of_terms
  with_term-value ρ c m [] = with_coef-value ρ c m []
  with_term-value ρ c m (t ∷ p) = by (with_term-value ρ c m p) (compare_vars m t.vars) refl
    where
      by : of_terms ρ (with_term c m p) ≡ of_int c ∗ of_vars ρ m ⊹ of_terms ρ p → (o : Compared) → compare_vars m t.vars ≡ o → of_terms ρ (elim o [ before ↦ with_coef c m (t ∷ p) | same ↦ with_coef (c +ℤ t.coef) t.vars p | after ↦ t ∷ with_term c m p ]) ≡ of_int c ∗ of_vars ρ m ⊹ (of_int t.coef ∗ of_vars ρ t.vars ⊹ of_terms ρ p)
      by r before e = with_coef-value ρ c m (t ∷ p)
      by r same e =
          with_coef-value ρ (c +ℤ t.coef) t.vars p
          ∙ ap (λ x. x ⊹ of_terms ρ p) (ap (λ x. x ∗ of_vars ρ t.vars) (of_int-add c t.coef) ∙ add-mul (of_int c) (of_int t.coef) (of_vars ρ t.vars))
          ∙ add_assoc _ _ _
          ∙ ap (λ (k : List ℕ). of_int c ∗ of_vars ρ k ⊹ (of_int t.coef ∗ of_vars ρ t.vars ⊹ of_terms ρ p)) (sym (same_vars m t.vars e))
      by r after e = ap (λ x. of_int t.coef ∗ of_vars ρ t.vars ⊹ x) r ∙ add_left_comm _ _ _

  plus-value : (ρ : List R) (p q : List Term) → of_terms ρ (plus p q) ≡ of_terms ρ p ⊹ of_terms ρ q
  unfolding of_terms
  plus-value ρ [] q = sym (zero-add (of_terms ρ q))
  plus-value ρ (t ∷ p) q = with_term-value ρ t.coef t.vars (plus p q) ∙ ap (λ x. of_int t.coef ∗ of_vars ρ t.vars ⊹ x) (plus-value ρ p q) ∙ sym (add_assoc _ _ _)

  mul-zero : (a : R) → a ∗ of_int (pos 0) ≡ of_int (pos 0)
  mul-zero a = mul_comm a (of_int (pos 0)) ∙ zero-mul a

  four : (a b c d : R) → (a ∗ b) ∗ (c ∗ d) ≡ (a ∗ c) ∗ (b ∗ d)
  four a b c d = mul_assoc a b (c ∗ d) ∙ ap (λ x. a ∗ x) (mul_left_comm b c d) ∙ sym (mul_assoc a c (b ∗ d))

  scaled-value : (ρ : List R) (c : ℤ) (m : List ℕ) (p : List Term) → of_terms ρ (scaled c m p) ≡ (of_int c ∗ of_vars ρ m) ∗ of_terms ρ p
  unfolding of_terms
  scaled-value ρ c m [] = sym (mul-zero _)
  scaled-value ρ c m (t ∷ p) =
      with_term-value ρ (c *ℤ t.coef) (times m t.vars) (scaled c m p)
      ∙ ap₂ ◌⊹◌ (ap₂ ◌∗◌ (of_int-mul c t.coef) (times-value ρ m t.vars) ∙ four _ _ _ _) (scaled-value ρ c m p)
      ∙ sym (mul-add _ _ _)

  product-value : (ρ : List R) (p q : List Term) → of_terms ρ (product p q) ≡ of_terms ρ p ∗ of_terms ρ q
  unfolding of_terms
  product-value ρ [] q = sym (zero-mul _)
  product-value ρ (t ∷ p) q = plus-value ρ (scaled t.coef t.vars q) (product p q) ∙ ap₂ ◌⊹◌ (scaled-value ρ t.coef t.vars q) (product-value ρ p q) ∙ sym (add-mul _ _ _)

  mul-one : (a : R) → a ∗ of_int (pos 1) ≡ a
  mul-one a = mul_comm a (of_int (pos 1)) ∙ one-mul a

  negated : (ρ : List R) (p : List Term) → of_terms ρ (scaled (negsuc 0) [] p) ≡ neg (of_terms ρ p)
  unfolding of_vars
  negated ρ p = scaled-value ρ (negsuc 0) [] p ∙ ap (λ x. x ∗ of_terms ρ p) (mul-one _) ∙ sym (neg_is _)

  normal-value : (ρ : List R) (e : Expr) → of_terms ρ (normal e) ≡ value ρ e
  unfolding of_terms of_vars
  normal-value ρ (var v) = add-zero _ ∙ one-mul _ ∙ mul-one _
  normal-value ρ (nat n) = with_coef-value ρ (pos n) [] [] ∙ add-zero _ ∙ mul-one _
  normal-value ρ (e ⊕ f) = plus-value ρ (normal e) (normal f) ∙ ap₂ ◌⊹◌ (normal-value ρ e) (normal-value ρ f)
  normal-value ρ (e ⊗ f) = product-value ρ (normal e) (normal f) ∙ ap₂ ◌∗◌ (normal-value ρ e) (normal-value ρ f)
  normal-value ρ (⊖ e) = negated ρ (normal e) ∙ ap neg (normal-value ρ e)
  normal-value ρ (e ⊝ f) = plus-value ρ (normal e) (scaled (negsuc 0) [] (normal f)) ∙ ap₂ ◌⊹◌ (normal-value ρ e) (negated ρ (normal f) ∙ ap neg (normal-value ρ f))

  -- both sides have one normal form
  pub same_normal : (ρ : List R) (e f : Expr) → normal e ≡ normal f → value ρ e ≡ value ρ f
  same_normal ρ e f h = sym (normal-value ρ e) ∙ ap (of_terms ρ) h ∙ normal-value ρ f

-- ---- the same, with the expressions found by `simp`
-- each x of a list is named by an equation: it is what `f` says of its index
abbrev pub Named : {R : Type 0} → (ℕ → R) → ℕ → List R → Type 0 → Type 0
Named f i [] P = P
Named f i (x ∷ xs) P = x ≡ f i → Named f (suc i) xs P

module _ {R : Type 0} (𝓡 : Ring R) where
  named : {P : Type 0} (f : ℕ → R) (i : ℕ) (xs : List R) → ((j : ℕ) → at 𝓡 xs j ≡ f (i + j)) → Named f i xs P → P
  named f i [] e k = k
  named f i (x ∷ xs) e k = named f (suc i) xs (λ j. e (suc j) ∙ ap f (omega arith)) (k (e 0 ∙ ap f (omega arith)))

  pub by_names : {P : Type 0} (ρ : List R) → Named (λ i. at 𝓡 ρ i) 0 ρ P → P
  by_names ρ k = named (at 𝓡 ρ) 0 ρ (λ j. ap (at 𝓡 ρ) (omega arith)) k
