-- Inside one phase no set of basic columns comes back.
use Rattle.std.proofs.Common.{◌≡◌, ◌≢◌, ℕ, zero, suc, ◌+◌, ◌<◌, ◌≤◌, ◌⊎◌, inl, inr, true, false, cond, refl, sym, ◌∙◌, ap, subst, arith, eq-eqb}
use Rattle.std.proofs.lemmas.Bool.{ne_eqb, cases_Bool, cases_eq, cases_lt, both_ways}
use Rattle.dc_math.specs.Field.{Field, sum_to, minus, nonneg}
use Rattle.dc_pivots.proofs.Segment.{Has, ratio, IsStep}
use Rattle.dc_pivots.proofs.Rows.{Rows, pivot_at, basis_at}
use Rattle.dc_pivots.proofs.Ties.{IsTied, IsPriced, pivot-row, pivot-other, basis-row, basis-other, direction_costs, bland}
use Rattle.dc_math.specs.FieldOrder.{neg_mul, nonneg_zero, above-nonzero, below-nonzero, below-times_above, zero-times, times-zero, zero-product, factor-above, inverse-nonneg, factor-zero, quotient-zero, minus_nothing, minus_chain, minus-flip, minus_less, neg-zero, sum-zero, sum-unit}

-- which columns are basic is decided
pub has : (b : ℕ → ℕ) (k p : ℕ) → Has b k p ⊎ (Has b k p → ⊥)
has b zero p = inr (λ h. absurd (let l : h.0 < 0 = h.1 in omega arith))
has b (suc k) p = elim (has b k p) [
  | inl h ↦ inl (h.0, (let l : h.0 < k = h.1 in omega arith), h.2)
  | inr is_out ↦ elim (cases_eq (b k) p) [
    | inl e ↦ inl (k, omega arith, e)
    | inr ne ↦ inr (λ h. elim (cases_eq h.0 k) [
      | inl same ↦ ne (ap b (sym same) ∙ h.2)
      | inr other ↦ is_out (h.0, (let l : h.0 < suc k = h.1 in omega arith), h.2)
    ])
  ]
]

-- the largest of f 0 to f (k - 1)
pub top : (f : ℕ → ℕ) (k : ℕ) → 0 < k → (e : ℕ) × (e < k) × ((x : ℕ) → x < k → f x ≤ f e)
top f zero lt = absurd (omega arith)
top f (suc zero) lt = (0, omega arith, λ x l. (let same : x ≡ 0 = omega arith in subst (λ y. f y ≤ f 0) (sym same) (omega arith)))
top f (suc (suc k)) lt =
    let h : (e : ℕ) × (e < suc k) × ((x : ℕ) → x < suc k → f x ≤ f e) = top f (suc k) (omega arith) in
    let e : ℕ = h.0 in
    let below : e < suc k = h.1 in
    elim (cases_lt (f e) (f (suc k))) [
      | inl up ↦ (
        suc k,
        omega arith,
        λ x l. elim (cases_eq x (suc k)) [
          | inl same ↦ subst (λ y. f y ≤ f (suc k)) (sym same) (omega arith)
          | inr ne ↦ (let le : f x ≤ f e = h.2 x (omega arith) in omega arith)
        ],
      )
      | inr down ↦ (
        e,
        omega arith,
        λ x l. elim (cases_eq x (suc k)) [
          | inl same ↦ subst (λ y. f y ≤ f e) (sym same) down
          | inr ne ↦ h.2 x (omega arith)
        ],
      )
    ]

module _ (Q : Type 0) (F : Field Q) (m n : ℕ) where
  -- N pivots, one after another
  pub record IsSegment (s : Rows Q F m n) (d : ℕ → Q) (N : ℕ) (T : ℕ → Rows Q F m n) (B : ℕ → ℕ → ℕ) (Z : ℕ → ℕ → Q) (R J : ℕ → ℕ) : Type 0 where
    pub step : (x : ℕ) → x < N → IsStep Q F m n (T x) (B x) (Z x) (R x) (J x)
    pub tied : (x : ℕ) → x ≤ N → IsTied Q F m n s (T x) (B x)
    pub priced : (x : ℕ) → x ≤ N → (w : ℕ → Q) × IsPriced Q F m n s (T x) (B x) d (Z x) w
    pub feasible : (x i : ℕ) → x ≤ N → i < m → nonneg Q F (T x i (n + m)) ≡ true
    pub table : (x i k : ℕ) → x < N → T (suc x) i k ≡ pivot_at Q F m n (T x) (R x) (J x) i k
    pub basis : (x i : ℕ) → x < N → B (suc x) i ≡ basis_at Q F m n (B x) (R x) (J x) i
    pub costs : (x : ℕ) → x < N → Z (suc x) (n + m) ≡ minus Q F (Z x (n + m)) (F.mul (Z x (J x)) (ratio Q F m n (T x) (J x) (R x)))

  -- a basic column costs nothing
  pub basic-costs : (s t : Rows Q F m n) (b : ℕ → ℕ) (d z w : ℕ → Q) (h : ℕ) → h < m → IsTied Q F m n s t b → IsPriced Q F m n s t b d z w → z (b h) ≡ F.zero_q
  basic-costs s t b d z w h lt p o =
      let total : Q = sum_to Q F m (λ i. F.mul (d (b i)) (t i (b h))) in
      let one : total ≡ d (b h) = sum-unit Q F m h (λ i. d (b i)) (λ i. t i (b h)) lt (λ i l. p.units i h l lt) in
      let e : F.add (z (b h)) total ≡ d (b h) = o.prices (b h) in
      cancel-own (z (b h)) total (e ∙ sym one)
    where
      cancel-own : (x y : Q) → F.add x y ≡ y → x ≡ F.zero_q
      cancel-own x y e = sym (F.add_zero x) ∙ ap (F.add x) (sym (F.add_neg y)) ∙ sym (F.add_assoc x y (F.neg y)) ∙ ap (λ w. F.add w (F.neg y)) e ∙ F.add_neg y

  pub different : (s t : Rows Q F m n) (b : ℕ → ℕ) (i h : ℕ) → i < m → h < m → IsTied Q F m n s t b → b i ≡ b h → i ≡ h
  different s t b i h li lh p e = elim (cases_eq i h) [
    | inl same ↦ same
    | inr ne ↦ absurd (F.nontrivial (sym (p.units i i li li ∙ ap (λ x. cond x F.one F.zero_q) (eq-eqb i i refl)) ∙ ap (t i) e ∙ p.units i h li lh ∙ ap (λ x. cond x F.one F.zero_q) (ne_eqb i h ne)))
  ]

  -- the cost row is fixed by the set of basic columns
  pub costs-fixed : (s t u : Rows Q F m n) (b a : ℕ → ℕ) (d z w y v : ℕ → Q) (k : ℕ) → IsTied Q F m n s t b → IsTied Q F m n s u a
      → IsPriced Q F m n s t b d z w → IsPriced Q F m n s u a d y v → ((p : ℕ) → Has b m p → Has a m p) → z k ≡ y k
  costs-fixed s t u b a d z w y v k p q o x same =
      let total : Q = sum_to Q F m (λ i. F.mul (y (b i)) (t i k)) in
      let none : total ≡ F.zero_q = sum-zero Q F m (λ i. F.mul (y (b i)) (t i k)) (λ i l.
      (let h : Has a m (b i) = same (b i) (i, l, refl) in zero-times Q F (y (b i)) (t i k) (ap y (sym h.2) ∙ basic-costs s u a d y v h.0 h.1 q x))) in
      sym (F.add_zero (z k)) ∙ ap (F.add (z k)) (sym none) ∙ direction_costs Q F m n s t u b a d z w y v k p o x

  module _ (s : Rows Q F m n) (d : ℕ → Q) (N : ℕ) (T : ℕ → Rows Q F m n) (B : ℕ → ℕ → ℕ) (Z : ℕ → ℕ → Q) (R J : ℕ → ℕ) (g : IsSegment s d N T B Z R J) where
    nonzero : (x : ℕ) → x < N → T x (R x) (J x) ≢ F.zero_q
    nonzero x l = above-nonzero Q F (T x (R x) (J x)) ((g.step x l).positive)

    basis-here : (x : ℕ) → x < N → B (suc x) (R x) ≡ J x
    basis-here x l = g.basis x (R x) l ∙ basis-row Q F m n s (T x) (B x) (R x) (J x) ((g.step x l).row) (nonzero x l)

    basis-there : (x i : ℕ) → x < N → i ≢ R x → B (suc x) i ≡ B x i
    basis-there x i l ne = g.basis x i l ∙ basis-other Q F m n s (T x) (B x) (R x) (J x) ((g.step x l).row) (nonzero x l) i ne

    enters : (y x p : ℕ) → y ≤ N → x ≤ y → (Has (B x) m p → ⊥) → Has (B y) m p → (v : ℕ) × (v < N) × (J v ≡ p)
    enters zero x p ly le is_out h = (let same : x ≡ 0 = omega arith in absurd (is_out (subst (λ k. Has (B k) m p) (sym same) h)))
    enters (suc y) x p ly le is_out h = elim (cases_eq x (suc y)) [
      | inl same ↦ absurd (is_out (subst (λ k. Has (B k) m p) (sym same) h))
      | inr ne ↦ elim (has (B y) m p) [
        | inl before ↦ enters y x p (omega arith) (omega arith) is_out before
        | inr new ↦ elim (cases_eq h.0 (R y)) [
          | inl here ↦ (y, omega arith, sym (basis-here y (omega arith)) ∙ ap (B (suc y)) (sym here) ∙ h.2)
          | inr there ↦ absurd (new (h.0, h.1, sym (basis-there y h.0 (omega arith) there) ∙ h.2))
        ]
      ]
    ]

    leaves : (y x p : ℕ) → y ≤ N → x ≤ y → Has (B x) m p → (Has (B y) m p → ⊥) → (v : ℕ) × (v < N) × (B v (R v) ≡ p)
    leaves zero x p ly le h is_out = (let same : x ≡ 0 = omega arith in absurd (is_out (subst (λ k. Has (B k) m p) same h)))
    leaves (suc y) x p ly le h is_out = elim (cases_eq x (suc y)) [
      | inl same ↦ absurd (is_out (subst (λ k. Has (B k) m p) same h))
      | inr ne ↦ elim (has (B y) m p) [
        | inl still ↦ elim (cases_eq still.0 (R y)) [
          | inl here ↦ (y, omega arith, ap (B y) (sym here) ∙ still.2)
          | inr there ↦ absurd (is_out (still.0, still.1, basis-there y still.0 (omega arith) there ∙ still.2))
        ]
        | inr gone ↦ leaves y x p (omega arith) (omega arith) h gone
      ]
    ]

    moved : (y x i : ℕ) → y ≤ N → x ≤ y → B x i ≢ B y i → (v : ℕ) × (v < N) × (R v ≡ i)
    moved zero x i ly le ne = (let same : x ≡ 0 = omega arith in absurd (ne (ap (λ k. B k i) same)))
    moved (suc y) x i ly le ne = elim (cases_eq x (suc y)) [
      | inl same ↦ absurd (ne (ap (λ k. B k i) same))
      | inr other ↦ elim (cases_eq i (R y)) [
        | inl here ↦ (y, omega arith, sym here)
        | inr there ↦ moved y x i (omega arith) (omega arith) (λ e. ne (e ∙ sym (basis-there y i (omega arith) there)))
      ]
    ]

    -- the quotient of the leaving row is at least 0
    quotient-nonneg : (x : ℕ) → x < N → nonneg Q F (ratio Q F m n (T x) (J x) (R x)) ≡ true
    quotient-nonneg x l = F.nonneg_mul (T x (R x) (n + m)) (F.inverse (T x (R x) (J x))) (g.feasible x (R x) (omega arith) ((g.step x l).row)) (inverse-nonneg Q F (T x (R x) (J x)) ((g.step x l).positive))

    -- what the value of the cost row rises by
    rise : (x : ℕ) → x < N → minus Q F (Z (suc x) (n + m)) (Z x (n + m)) ≡ F.neg (F.mul (Z x (J x)) (ratio Q F m n (T x) (J x) (R x)))
    rise x l = ap (λ w. minus Q F w (Z x (n + m))) (g.costs x l) ∙ minus_less Q F (Z x (n + m)) (F.mul (Z x (J x)) (ratio Q F m n (T x) (J x) (R x)))

    rises : (x : ℕ) → x < N → nonneg Q F (minus Q F (Z (suc x) (n + m)) (Z x (n + m))) ≡ true
    rises x l = ap (nonneg Q F) (rise x l ∙ sym (neg_mul Q F (Z x (J x)) (ratio Q F m n (T x) (J x) (R x)))) ∙ F.nonneg_mul (F.neg (Z x (J x))) (ratio Q F m n (T x) (J x) (R x)) (F.nonneg_neg (Z x (J x)) ((g.step x l).negative)) (quotient-nonneg x l)

    grows : (y x : ℕ) → y ≤ N → x ≤ y → nonneg Q F (minus Q F (Z y (n + m)) (Z x (n + m))) ≡ true
    grows zero x ly le = (let same : x ≡ 0 = omega arith in ap (λ k. nonneg Q F (minus Q F (Z 0 (n + m)) (Z k (n + m)))) same ∙ ap (nonneg Q F) (F.add_neg (Z 0 (n + m))) ∙ nonneg_zero Q F)
    grows (suc y) x ly le = elim (cases_eq x (suc y)) [
      | inl same ↦ ap (λ k. nonneg Q F (minus Q F (Z (suc y) (n + m)) (Z k (n + m)))) same ∙ ap (nonneg Q F) (F.add_neg (Z (suc y) (n + m))) ∙ nonneg_zero Q F
      | inr ne ↦ ap (nonneg Q F) (sym (minus_chain Q F (Z (suc y) (n + m)) (Z y (n + m)) (Z x (n + m)))) ∙ F.nonneg_add (minus Q F (Z (suc y) (n + m)) (Z y (n + m))) (minus Q F (Z y (n + m)) (Z x (n + m))) (rises y (omega arith)) (grows y x (omega arith) (omega arith))
    ]

    module _ (still : Z 0 (n + m) ≡ Z N (n + m)) where
      flat : (x : ℕ) → x < N → minus Q F (Z (suc x) (n + m)) (Z x (n + m)) ≡ F.zero_q
      flat x l =
          let v : ℕ → Q = λ k. Z k (n + m) in
          let back : nonneg Q F (minus Q F (v x) (v (suc x))) ≡ true =
          ap (nonneg Q F) (sym (minus_chain Q F (v x) (v 0) (v (suc x)))) ∙ F.nonneg_add (minus Q F (v x) (v 0)) (minus Q F (v 0) (v (suc x))) (grows x 0 (omega arith) (omega arith)) (ap (λ w. nonneg Q F (minus Q F w (v (suc x)))) still ∙ grows N (suc x) (omega arith) (omega arith)) in
          F.nonneg_both (minus Q F (v (suc x)) (v x)) (rises x l) (ap (nonneg Q F) (minus-flip Q F (v (suc x)) (v x)) ∙ back)

      ratio-none : (x : ℕ) → x < N → ratio Q F m n (T x) (J x) (R x) ≡ F.zero_q
      ratio-none x l = factor-zero Q F (Z x (J x)) (ratio Q F m n (T x) (J x) (R x)) (below-nonzero Q F (Z x (J x)) ((g.step x l).negative))
          (neg-zero Q F (F.mul (Z x (J x)) (ratio Q F m n (T x) (J x) (R x))) (sym (rise x l) ∙ flat x l))

      degenerate : (x : ℕ) → x < N → T x (R x) (n + m) ≡ F.zero_q
      degenerate x l = quotient-zero Q F (T x (R x) (n + m)) (T x (R x) (J x)) (nonzero x l) (ratio-none x l)

      right-stays : (x i : ℕ) → x < N → T (suc x) i (n + m) ≡ T x i (n + m)
      right-stays x i l = g.table x i (n + m) l ∙ elim (cases_eq i (R x)) [
        | inl here ↦ ap (λ h. pivot_at Q F m n (T x) (R x) (J x) h (n + m)) here ∙ pivot-row Q F m n s (T x) (B x) (R x) (J x) ((g.step x l).row) (nonzero x l) (n + m)
            ∙ ratio-none x l ∙ sym (degenerate x l) ∙ ap (λ h. T x h (n + m)) (sym here)
        | inr there ↦ pivot-other Q F m n s (T x) (B x) (R x) (J x) ((g.step x l).row) (nonzero x l) i (n + m) there
            ∙ minus_nothing Q F (T x i (n + m)) (F.mul (T x i (J x)) (ratio Q F m n (T x) (J x) (R x))) (times-zero Q F (T x i (J x)) (ratio Q F m n (T x) (J x) (R x)) (ratio-none x l))
      ]

      right-first : (x i : ℕ) → x ≤ N → T x i (n + m) ≡ T 0 i (n + m)
      right-first zero i l = refl
      right-first (suc x) i l = right-stays x i (omega arith) ∙ right-first x i (omega arith)

      -- a row in which a pivot is made has 0 on the right, all the time
      zero-right : (x i v : ℕ) → x ≤ N → v < N → R v ≡ i → T x i (n + m) ≡ F.zero_q
      zero-right x i v lx lv e = right-first x i lx ∙ sym (right-first v i (omega arith)) ∙ ap (λ h. T v h (n + m)) (sym e) ∙ degenerate v lv

    module _ (forth : (p : ℕ) → Has (B 0) m p → Has (B N) m p) (back : (p : ℕ) → Has (B N) m p → Has (B 0) m p) where
      still : Z 0 (n + m) ≡ Z N (n + m)
      still = costs-fixed s (T 0) (T N) (B 0) (B N) d (Z 0) ((g.priced 0 (omega arith)).0) (Z N) ((g.priced N (omega arith)).0) (n + m) (g.tied 0 (omega arith)) (g.tied N (omega arith)) ((g.priced 0 (omega arith)).1) ((g.priced N (omega arith)).1) forth

      -- what is basic once and not basic once enters, and leaves
      comes : (u v p : ℕ) → u ≤ N → v ≤ N → Has (B u) m p → (Has (B v) m p → ⊥) → (x : ℕ) × (x < N) × (J x ≡ p)
      comes u v p lu lv is_in is_out = elim (has (B N) m p) [
        | inl last ↦ enters N v p (omega arith) lv is_out last
        | inr gone ↦ enters u 0 p lu (omega arith) (λ h. gone (forth p h)) is_in
      ]

      goes : (u v p : ℕ) → u ≤ N → v ≤ N → Has (B u) m p → (Has (B v) m p → ⊥) → (x : ℕ) × (x < N) × (B x (R x) ≡ p)
      goes u v p lu lv is_in is_out = elim (has (B 0) m p) [
        | inl first ↦ leaves v 0 p lv (omega arith) first is_out
        | inr gone ↦ leaves N u p (omega arith) lu is_in (λ h. gone (back p h))
      ]

      entering-new : (x : ℕ) → x < N → Has (B x) m (J x) → ⊥
      entering-new x l h = below-nonzero Q F (Z x (J x)) ((g.step x l).negative)
          (ap (Z x) (sym h.2) ∙ basic-costs s (T x) (B x) d (Z x) ((g.priced x (omega arith)).0) h.0 h.1 (g.tied x (omega arith)) ((g.priced x (omega arith)).1))

      moved-between : (x y i : ℕ) → x ≤ N → y ≤ N → B x i ≢ B y i → (v : ℕ) × (v < N) × (R v ≡ i)
      moved-between x y i lx ly ne = elim (cases_lt x y) [
        | inl l ↦ moved y x i ly (omega arith) ne
        | inr le ↦ moved x y i lx le (λ e. ne (sym e))
      ]

      -- e: where the greatest column q enters; l: where it leaves
      module _ (e l : ℕ) (le : e < N) (ll : l < N) (most : (x : ℕ) → x < N → J x ≤ J e) (out : B l (R l) ≡ J e) where
        lower : J l < J e
        lower = (let ne : J l ≢ J e = (λ f. entering-new l ll (R l, (g.step l ll).row, out ∙ sym f)) in let low : J l ≤ J e = most l ll in omega arith)

        -- a row that would have left instead
        other : (i : ℕ) → i < m → i ≢ R l → nonneg Q F (F.neg (F.mul (Z e (B l i)) (T l i (J l)))) ≡ false → ⊥
        other i li ne f =
            let p : ℕ = B l i in
            let new : Has (B e) m p → ⊥ = λ h. both_ways (nonneg Q F (F.neg (F.mul (Z e (B l i)) (T l i (J l))))) f
            (zero-product Q F (Z e p) (T l i (J l)) (ap (Z e) (sym h.2) ∙ basic-costs s (T e) (B e) d (Z e) ((g.priced e (omega arith)).0) h.0 h.1 (g.tied e (omega arith)) ((g.priced e (omega arith)).1))) in
            let c : (x : ℕ) × (x < N) × (J x ≡ p) = comes l e p (omega arith) (omega arith) (i, li, refl) new in
            let low : J c.0 ≤ J e = most c.0 c.1 in
            let is : J c.0 ≡ p = c.2 in
            let not_q : p ≢ J e = λ h. ne (different s (T l) (B l) i (R l) li ((g.step l ll).row) (g.tied l (omega arith)) (h ∙ sym out)) in
            let less : p < J e = omega arith in
            let up : nonneg Q F (F.neg (T l i (J l))) ≡ false = factor-above Q F (Z e p) (T l i (J l)) ((g.step e le).least p less) f in
            let v : (v : ℕ) × (v < N) × (R v ≡ i) = moved-between e l i (omega arith) (omega arith) (λ h. new (i, li, h)) in
            let none : T l i (n + m) ≡ F.zero_q = zero-right still l i v.0 (omega arith) v.1 v.2 in
            let ratio_i : ratio Q F m n (T l) (J l) i ≡ F.zero_q = zero-times Q F (T l i (n + m)) (F.inverse (T l i (J l))) none in
            let tie : nonneg Q F (minus Q F (ratio Q F m n (T l) (J l) (R l)) (ratio Q F m n (T l) (J l) i)) ≡ true =
            ap (nonneg Q F) (minus_nothing Q F (ratio Q F m n (T l) (J l) (R l)) (ratio Q F m n (T l) (J l) i) ratio_i) ∙ quotient-nonneg l ll in
            let under : B l (R l) ≤ B l i = (g.step l ll).tie i li up tie in
            let is_q : B l (R l) ≡ J e = out in
            absurd (omega arith)

        signs : (i : ℕ) → i < m → nonneg Q F (F.neg (F.mul (Z e (B l i)) (T l i (J l)))) ≡ true
        signs i li = elim (cases_Bool (nonneg Q F (F.neg (F.mul (Z e (B l i)) (T l i (J l)))))) [
          | inl is_in ↦ is_in
          | inr is_out ↦ elim (cases_eq i (R l)) [
            | inl same ↦ ap (λ h. nonneg Q F (F.neg (F.mul (Z e (B l h)) (T l h (J l))))) same ∙ ap (λ h. nonneg Q F (F.neg (F.mul (Z e h) (T l (R l) (J l))))) out
                ∙ below-times_above Q F (Z e (J e)) (T l (R l) (J l)) ((g.step e le).negative) ((g.step l ll).positive)
            | inr ne ↦ absurd (other i li ne is_out)
          ]
        ]

        excluded : ⊥
        excluded = bland Q F m n s (T l) (T e) (B l) (B e) d (Z l) ((g.priced l (omega arith)).0) (Z e) ((g.priced e (omega arith)).0) (J l)
            (g.tied l (omega arith)) ((g.priced l (omega arith)).1) ((g.priced e (omega arith)).1) signs ((g.step e le).least (J l) lower) ((g.step l ll).negative)

      pub no_cycle : 0 < N → ⊥
      no_cycle some =
          let t : (e : ℕ) × (e < N) × ((x : ℕ) → x < N → J x ≤ J e) = top J N some in
          let e : ℕ = t.0 in
          let le : e < N = t.1 in
          let l : (x : ℕ) × (x < N) × (B x (R x) ≡ J e) = goes (suc e) e (J e) (omega arith) (omega arith) (R e, (g.step e le).row, basis-here e le) (entering-new e le) in
          excluded e l.0 le l.1 t.2 l.2
