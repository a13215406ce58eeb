-- Laws of sums by index, in any ordered field.
use Rattle.std.proofs.Common.{◌≡◌, ◌≢◌, ℕ, zero, suc, ◌<◌, ◌≤◌, inl, inr, ◌==◌, Bool, true, false, cond, refl, sym, ◌∙◌, ap, arith, eq-eqb}
use Rattle.std.proofs.lemmas.Bool.{ne_eqb, cases_Bool, eqb-true, eqb-false}
use Rattle.dc_math.specs.Field.{Field, sum_to, minus}

module _ (Q : Type 0) (F : Field Q) where
  pub zero_add : (x : Q) → F.add F.zero_q x ≡ x
  zero_add x = F.add_comm F.zero_q x ∙ F.add_zero x

  -- (a + b) + (c + d) = (a + c) + (b + d)
  pub add_swap : (a b c d : Q) → F.add (F.add a b) (F.add c d) ≡ F.add (F.add a c) (F.add b d)
  add_swap a b c d =
      F.add_assoc a b (F.add c d) ∙ ap (F.add a) (sym (F.add_assoc b c d) ∙ ap (λ x. F.add x d) (F.add_comm b c) ∙ F.add_assoc c b d) ∙ sym (F.add_assoc a c (F.add b d))

  -- what is added to both sides can be left out
  pub cancel : (x y z : Q) → F.add x z ≡ F.add y z → x ≡ y
  cancel x y z e =
      sym (F.add_zero x) ∙ ap (F.add x) (sym (F.add_neg z)) ∙ sym (F.add_assoc x z (F.neg z)) ∙ ap (λ w. F.add w (F.neg z)) e
      ∙ F.add_assoc y z (F.neg z) ∙ ap (F.add y) (F.add_neg z) ∙ F.add_zero y

  pub mul_zero : (x : Q) → F.mul x F.zero_q ≡ F.zero_q
  mul_zero x = cancel (F.mul x F.zero_q) F.zero_q (F.mul x F.zero_q)
      (sym (F.mul_add x F.zero_q F.zero_q) ∙ ap (F.mul x) (F.add_zero F.zero_q) ∙ sym (zero_add (F.mul x F.zero_q)))

  pub add_mul : (x y z : Q) → F.mul (F.add x y) z ≡ F.add (F.mul x z) (F.mul y z)
  add_mul x y z = F.mul_comm (F.add x y) z ∙ F.mul_add z x y ∙ ap (F.add (F.mul z x)) (F.mul_comm z y) ∙ ap (λ w. F.add w (F.mul y z)) (F.mul_comm z x)

  -- y * (x / y) = x
  pub inverse-back : (x y : Q) → y ≢ F.zero_q → F.mul y (F.mul x (F.inverse y)) ≡ x
  inverse-back x y h =
      ap (F.mul y) (F.mul_comm x (F.inverse y)) ∙ sym (F.mul_assoc y (F.inverse y) x) ∙ ap (λ w. F.mul w x) (F.mul_inverse y h) ∙ F.mul_comm F.one x ∙ F.mul_one x

  pub neg_zero : F.neg F.zero_q ≡ F.zero_q
  neg_zero = sym (zero_add (F.neg F.zero_q)) ∙ F.add_neg F.zero_q

  pub neg_back : (x : Q) → F.add (F.neg x) x ≡ F.zero_q
  neg_back x = F.add_comm (F.neg x) x ∙ F.add_neg x

  pub neg_add : (x y : Q) → F.neg (F.add x y) ≡ F.add (F.neg x) (F.neg y)
  neg_add x y = cancel (F.neg (F.add x y)) (F.add (F.neg x) (F.neg y)) (F.add x y)
      (neg_back (F.add x y) ∙ sym (add_swap (F.neg x) (F.neg y) x y ∙ ap (λ w. F.add w (F.add (F.neg y) y)) (neg_back x) ∙ ap (F.add F.zero_q) (neg_back y) ∙ F.add_zero F.zero_q))

  pub sum-same : (n : ℕ) (f g : ℕ → Q) → ((i : ℕ) → i < n → f i ≡ g i) → sum_to Q F n f ≡ sum_to Q F n g
  unfolding sum_to
  sum-same zero f g h = refl
  sum-same (suc n) f g h = ap (λ w. F.add w (f n)) (sum-same n f g (λ i l. h i (omega arith))) ∙ ap (F.add (sum_to Q F n g)) (h n (omega arith))

  pub sum-add : (n : ℕ) (f g : ℕ → Q) → sum_to Q F n (λ i. F.add (f i) (g i)) ≡ F.add (sum_to Q F n f) (sum_to Q F n g)
  unfolding sum_to
  sum-add zero f g = sym (F.add_zero F.zero_q)
  sum-add (suc n) f g = ap (λ w. F.add w (F.add (f n) (g n))) (sum-add n f g) ∙ add_swap (sum_to Q F n f) (sum_to Q F n g) (f n) (g n)

  pub sum-mul : (n : ℕ) (f : ℕ → Q) (c : Q) → sum_to Q F n (λ i. F.mul (f i) c) ≡ F.mul (sum_to Q F n f) c
  unfolding sum_to
  sum-mul zero f c = sym (F.mul_comm F.zero_q c ∙ mul_zero c)
  sum-mul (suc n) f c = ap (λ w. F.add w (F.mul (f n) c)) (sum-mul n f c) ∙ sym (add_mul (sum_to Q F n f) (f n) c)

  pub sum-none : (n : ℕ) → sum_to Q F n (λ i. F.zero_q) ≡ F.zero_q
  unfolding sum_to
  sum-none zero = refl
  sum-none (suc n) = F.add_zero (sum_to Q F n (λ i. F.zero_q)) ∙ sum-none n

  pub sum-swap : (m n : ℕ) (f : ℕ → ℕ → Q) → sum_to Q F m (λ i. sum_to Q F n (f i)) ≡ sum_to Q F n (λ k. sum_to Q F m (λ i. f i k))
  unfolding sum_to
  sum-swap zero n f = sym (sum-none n)
  sum-swap (suc m) n f = ap (λ w. F.add w (sum_to Q F n (f m))) (sum-swap m n f) ∙ sym (sum-add n (λ k. sum_to Q F m (λ i. f i k)) (f m))

  -- the sum without index r
  unfoldable pub sum_but : ℕ → ℕ → (ℕ → Q) → Q
  sum_but r n f = sum_to Q F n (λ i. cond (i == r) F.zero_q (f i))

  sum_but-skip : (r n : ℕ) (f : ℕ → Q) → n ≡ r → sum_but r (suc n) f ≡ F.add (sum_but r n f) F.zero_q
  unfolding sum_to sum_but
  sum_but-skip r n f e = ap (λ b. F.add (sum_to Q F n (λ i. cond (i == r) F.zero_q (f i))) (cond b F.zero_q (f n))) (eq-eqb n r e)

  sum_but-more : (r n : ℕ) (f : ℕ → Q) → n ≢ r → sum_but r (suc n) f ≡ F.add (sum_but r n f) (f n)
  unfolding sum_to sum_but
  sum_but-more r n f e = ap (λ b. F.add (sum_to Q F n (λ i. cond (i == r) F.zero_q (f i))) (cond b F.zero_q (f n))) (ne_eqb n r e)

  sum_but-none : (r n : ℕ) (f : ℕ → Q) → n ≤ r → sum_but r n f ≡ sum_to Q F n f
  unfolding sum_but
  sum_but-none r n f le = sum-same n (λ i. cond (i == r) F.zero_q (f i)) f (λ i l. (let ne : i ≢ r = omega arith in ap (λ b. cond b F.zero_q (f i)) (ne_eqb i r ne)))

  pub sum-split : (n r : ℕ) (f : ℕ → Q) → r < n → sum_to Q F n f ≡ F.add (f r) (sum_but r n f)
  unfolding sum_to
  sum-split zero r f lt = absurd (omega arith)
  sum-split (suc n) r f lt =
      elim (cases_Bool (n == r)) [
        | inl b ↦ (let same : n ≡ r = eqb-true n r b in
            F.add_comm (sum_to Q F n f) (f n) ∙ ap (λ i. F.add (f i) (sum_to Q F n f)) same
            ∙ ap (F.add (f r)) (sym (sum_but-none r n f (omega arith)) ∙ sym (F.add_zero (sum_but r n f)) ∙ sym (sum_but-skip r n f same)))
        | inr b ↦ (let ne : n ≢ r = eqb-false n r b in
            ap (λ w. F.add w (f n)) (sum-split n r f (omega arith)) ∙ F.add_assoc (f r) (sum_but r n f) (f n) ∙ ap (F.add (f r)) (sym (sum_but-more r n f ne)))
      ]

  pub sum_but-same : (r n : ℕ) (f g : ℕ → Q) → ((i : ℕ) → i < n → i ≢ r → f i ≡ g i) → sum_but r n f ≡ sum_but r n g
  unfolding sum_but
  sum_but-same r n f g h = sum-same n (λ i. cond (i == r) F.zero_q (f i)) (λ i. cond (i == r) F.zero_q (g i)) (λ i l.
      elim (cases_Bool (i == r)) as (λ x. cond (i == r) F.zero_q (f i) ≡ cond (i == r) F.zero_q (g i)) [
        | inl b ↦ ap (λ c. cond c F.zero_q (f i)) b ∙ sym (ap (λ c. cond c F.zero_q (g i)) b)
        | inr b ↦ ap (λ c. cond c F.zero_q (f i)) b ∙ h i l (eqb-false i r b) ∙ sym (ap (λ c. cond c F.zero_q (g i)) b)
      ])

  -- (x - y) + y = x
  pub minus-back : (x y : Q) → F.add (minus Q F x y) y ≡ x
  minus-back x y = F.add_assoc x (F.neg y) y ∙ ap (F.add x) (F.add_comm (F.neg y) y ∙ F.add_neg y) ∙ F.add_zero x

  -- x * (-y) = -(x * y)
  pub mul_neg : (x y : Q) → F.mul x (F.neg y) ≡ F.neg (F.mul x y)
  mul_neg x y = cancel (F.mul x (F.neg y)) (F.neg (F.mul x y)) (F.mul x y)
      (sym (F.mul_add x (F.neg y) y) ∙ ap (F.mul x) (F.add_comm (F.neg y) y ∙ F.add_neg y) ∙ mul_zero x ∙ sym (F.add_comm (F.neg (F.mul x y)) (F.mul x y) ∙ F.add_neg (F.mul x y)))

  pub mul_minus : (g t u n : Q) → F.mul g (minus Q F t (F.mul u n)) ≡ minus Q F (F.mul g t) (F.mul (F.mul g u) n)
  mul_minus g t u n = F.mul_add g t (F.neg (F.mul u n)) ∙ ap (F.add (F.mul g t)) (mul_neg g (F.mul u n) ∙ ap F.neg (sym (F.mul_assoc g u n)))

  at_index : (x : Bool) (a b c : Q) → F.add (cond x F.zero_q (minus Q F a (F.mul b c))) (F.mul (cond x F.zero_q b) c) ≡ cond x F.zero_q a
  at_index true a b c = ap (F.add F.zero_q) (F.mul_comm F.zero_q c ∙ mul_zero c) ∙ F.add_zero F.zero_q
  at_index false a b c = minus-back a (F.mul b c)

  -- the sum without r of differences a i - b i * c
  pub sum_but-less : (r n : ℕ) (a b : ℕ → Q) (c : Q) → F.add (sum_but r n (λ i. minus Q F (a i) (F.mul (b i) c))) (F.mul (sum_but r n b) c) ≡ sum_but r n a
  unfolding sum_but
  sum_but-less r n a b c =
      ap (F.add (sum_to Q F n (λ i. cond (i == r) F.zero_q (minus Q F (a i) (F.mul (b i) c))))) (sym (sum-mul n (λ i. cond (i == r) F.zero_q (b i)) c))
      ∙ sym (sum-add n (λ i. cond (i == r) F.zero_q (minus Q F (a i) (F.mul (b i) c))) (λ i. F.mul (cond (i == r) F.zero_q (b i)) c))
      ∙ sum-same n (λ i. F.add (cond (i == r) F.zero_q (minus Q F (a i) (F.mul (b i) c))) (F.mul (cond (i == r) F.zero_q (b i)) c)) (λ i. cond (i == r) F.zero_q (a i))
      (λ i l. at_index (i == r) (a i) (b i) c)

  -- one pivot keeps a combination: g r * t r + rest becomes g' * t' r + rest'
  pub combination-kept : (n r : ℕ) (g t u : ℕ → Q) (gj new : Q) → r < n
      → gj ≡ sum_to Q F n (λ i. F.mul (g i) (u i))
      → F.mul (u r) new ≡ t r
      → F.add (F.mul gj new) (sum_but r n (λ i. F.mul (g i) (minus Q F (t i) (F.mul (u i) new)))) ≡ sum_to Q F n (λ i. F.mul (g i) (t i))
  combination-kept n r g t u gj new lt e f =
      let gu : ℕ → Q = λ i. F.mul (g i) (u i) in
      let gt : ℕ → Q = λ i. F.mul (g i) (t i) in
      let rest : Q = sum_but r n (λ i. F.mul (g i) (minus Q F (t i) (F.mul (u i) new))) in
      let rest' : Q = sum_but r n (λ i. minus Q F (gt i) (F.mul (gu i) new)) in
      ap (λ x. F.add (F.mul x new) rest) (e ∙ sum-split n r gu lt)
      ∙ ap (λ x. F.add x rest) (add_mul (gu r) (sum_but r n gu) new)
      ∙ F.add_assoc (F.mul (gu r) new) (F.mul (sum_but r n gu) new) rest
      ∙ ap (λ x. F.add x (F.add (F.mul (sum_but r n gu) new) rest)) (F.mul_assoc (g r) (u r) new ∙ ap (F.mul (g r)) f)
      ∙ ap (F.add (gt r)) (F.add_comm (F.mul (sum_but r n gu) new) rest
      ∙ ap (λ x. F.add x (F.mul (sum_but r n gu) new)) (sum_but-same r n (λ i. F.mul (g i) (minus Q F (t i) (F.mul (u i) new))) (λ i. minus Q F (gt i) (F.mul (gu i) new)) (λ i l ne. mul_minus (g i) (t i) (u i) new))
      ∙ sum_but-less r n gt gu new)
      ∙ sym (sum-split n r gt lt)
