-- What ties each tableau of a run to the first one.
use Rattle.std.proofs.Common.{◌≡◌, ◌≢◌, ℕ, zero, suc, ◌+◌, ◌<◌, inl, inr, ◌==◌, true, false, cond, refl, sym, ◌∙◌, ap, arith, eq-eqb}
use Rattle.std.proofs.lemmas.Bool.{ne_eqb, cases_Bool, eqb-true, eqb-false}
use Rattle.dc_math.specs.Field.{Field, sum_to, minus, nonneg}
use Rattle.dc_pivots.proofs.Rows.{Rows, pivot_at, basis_at}
use Rattle.dc_math.specs.FieldSums.{mul_zero, neg_zero, neg_add, add_mul, cancel, inverse-back, minus-back, sum-same, sum-add, sum-mul, sum-swap, sum_but, sum-split, sum_but-same, combination-kept}

module _ (Q : Type 0) (F : Field Q) (m n : ℕ) where
  -- s are the starting rows, t the rows now, b the basis now
  pub record IsTied (s t : Rows Q F m n) (b : ℕ → ℕ) : Type 0 where
    -- each row is the combination of the starting rows with its artificial entries as factors
    pub combines : (i k : ℕ) → i < m → t i k ≡ sum_to Q F m (λ l. F.mul (t i (n + l)) (s l k))
    -- each starting row is the combination of the rows with its entries in the basic columns as factors
    pub restores : (l k : ℕ) → l < m → s l k ≡ sum_to Q F m (λ i. F.mul (s l (b i)) (t i k))
    -- the basic columns are unit vectors
    pub units : (i h : ℕ) → i < m → h < m → t i (b h) ≡ cond (i == h) F.one F.zero_q

  -- z are the costs d less those of the basic columns; w are the factors by which the starting rows were added.
  -- For the last row d are the costs; for phase one d is 1 in artificial columns, and z is the row with 1 added there.
  pub record IsPriced (s t : Rows Q F m n) (b : ℕ → ℕ) (d z w : ℕ → Q) : Type 0 where
    pub combines : (k : ℕ) → z k ≡ F.add (d k) (sum_to Q F m (λ l. F.mul (w l) (s l k)))
    pub prices : (k : ℕ) → F.add (z k) (sum_to Q F m (λ i. F.mul (d (b i)) (t i k))) ≡ d k

  module _ (s t : Rows Q F m n) (b : ℕ → ℕ) (r j : ℕ) (lt : r < m) (nz : t r j ≢ F.zero_q) where
    pub pivot-row : (k : ℕ) → pivot_at Q F m n t r j r k ≡ F.mul (t r k) (F.inverse (t r j))
    unfolding pivot_at
    pivot-row k = ap (λ x. cond x (F.mul (t r k) (F.inverse (t r j))) (minus Q F (t r k) (F.mul (t r j) (F.mul (t r k) (F.inverse (t r j)))))) (eq-eqb r r refl)

    pub pivot-other : (i k : ℕ) → i ≢ r → pivot_at Q F m n t r j i k ≡ minus Q F (t i k) (F.mul (t i j) (F.mul (t r k) (F.inverse (t r j))))
    unfolding pivot_at
    pivot-other i k ne = ap (λ x. cond x (F.mul (t r k) (F.inverse (t r j))) (minus Q F (t i k) (F.mul (t i j) (F.mul (t r k) (F.inverse (t r j)))))) (ne_eqb i r ne)

    pub basis-row : basis_at Q F m n b r j r ≡ j
    unfolding basis_at
    basis-row = ap (λ x. cond x j (b r)) (eq-eqb r r refl)

    pub basis-other : (i : ℕ) → i ≢ r → basis_at Q F m n b r j i ≡ b i
    unfolding basis_at
    basis-other i ne = ap (λ x. cond x j (b i)) (ne_eqb i r ne)

    -- any combination that restored something still does
    pub restores-kept : (g : ℕ → Q) (k : ℕ) → g j ≡ sum_to Q F m (λ i. F.mul (g (b i)) (t i j))
        → sum_to Q F m (λ i. F.mul (g (basis_at Q F m n b r j i)) (pivot_at Q F m n t r j i k)) ≡ sum_to Q F m (λ i. F.mul (g (b i)) (t i k))
    restores-kept g k e =
        let new : Q = F.mul (t r k) (F.inverse (t r j)) in
        let f : ℕ → Q = λ i. F.mul (g (basis_at Q F m n b r j i)) (pivot_at Q F m n t r j i k) in
        sum-split Q F m r f lt
        ∙ ap (λ x. F.add x (sum_but Q F r m f)) (ap (λ x. F.mul (g x) (pivot_at Q F m n t r j r k)) basis-row ∙ ap (F.mul (g j)) (pivot-row k))
        ∙ ap (F.add (F.mul (g j) new)) (sum_but-same Q F r m f (λ i. F.mul (g (b i)) (minus Q F (t i k) (F.mul (t i j) new)))
        (λ i l ne. ap (λ x. F.mul (g x) (pivot_at Q F m n t r j i k)) (basis-other i ne) ∙ ap (F.mul (g (b i))) (pivot-other i k ne)))
        ∙ combination-kept Q F m r (λ i. g (b i)) (λ i. t i k) (λ i. t i j) (g j) new lt e (inverse-back Q F (t r k) (t r j) nz)

    -- a combination of the starting rows, divided or lessened, is one
    scaled : (w : ℕ → Q) (c : Q) (k : ℕ) → F.mul (sum_to Q F m (λ l. F.mul (w l) (s l k))) c ≡ sum_to Q F m (λ l. F.mul (F.mul (w l) c) (s l k))
    scaled w c k = sym (sum-mul Q F m (λ l. F.mul (w l) (s l k)) c)
        ∙ sum-same Q F m (λ l. F.mul (F.mul (w l) (s l k)) c) (λ l. F.mul (F.mul (w l) c) (s l k))
        (λ l ll. F.mul_assoc (w l) (s l k) c ∙ ap (F.mul (w l)) (F.mul_comm (s l k) c) ∙ sym (F.mul_assoc (w l) c (s l k)))

    lessened : (w v : ℕ → Q) (c : Q) (k : ℕ) → minus Q F (sum_to Q F m (λ l. F.mul (w l) (s l k))) (F.mul c (sum_to Q F m (λ l. F.mul (v l) (s l k)))) ≡ sum_to Q F m (λ l. F.mul (minus Q F (w l) (F.mul c (v l))) (s l k))
    lessened w v c k =
        cancel Q F (minus Q F (sum_to Q F m (λ l. F.mul (w l) (s l k))) (F.mul c (sum_to Q F m (λ l. F.mul (v l) (s l k))))) (sum_to Q F m (λ l. F.mul (minus Q F (w l) (F.mul c (v l))) (s l k))) (F.mul c (sum_to Q F m (λ l. F.mul (v l) (s l k))))
        (minus-back Q F (sum_to Q F m (λ l. F.mul (w l) (s l k))) (F.mul c (sum_to Q F m (λ l. F.mul (v l) (s l k))))
        ∙ sum-same Q F m (λ l. F.mul (w l) (s l k)) (λ l. F.add (F.mul (minus Q F (w l) (F.mul c (v l))) (s l k)) (F.mul (F.mul (v l) (s l k)) c))
        (λ l ll. ap (λ x. F.mul x (s l k)) (sym (minus-back Q F (w l) (F.mul c (v l)))) ∙ add_mul Q F (minus Q F (w l) (F.mul c (v l))) (F.mul c (v l)) (s l k)
        ∙ ap (F.add (F.mul (minus Q F (w l) (F.mul c (v l))) (s l k))) (F.mul_assoc c (v l) (s l k) ∙ F.mul_comm c (F.mul (v l) (s l k))))
        ∙ sum-add Q F m (λ l. F.mul (minus Q F (w l) (F.mul c (v l))) (s l k)) (λ l. F.mul (F.mul (v l) (s l k)) c)
        ∙ ap (F.add (sum_to Q F m (λ l. F.mul (minus Q F (w l) (F.mul c (v l))) (s l k)))) (sum-mul Q F m (λ l. F.mul (v l) (s l k)) c ∙ F.mul_comm (sum_to Q F m (λ l. F.mul (v l) (s l k))) c))

    new_combines : IsTied s t b → (k : ℕ) → F.mul (t r k) (F.inverse (t r j)) ≡ sum_to Q F m (λ l. F.mul (F.mul (t r (n + l)) (F.inverse (t r j))) (s l k))
    new_combines h k = ap (λ x. F.mul x (F.inverse (t r j))) (h.combines r k lt) ∙ scaled (λ l. t r (n + l)) (F.inverse (t r j)) k

    combines-kept : IsTied s t b → (i k : ℕ) → i < m → pivot_at Q F m n t r j i k ≡ sum_to Q F m (λ l. F.mul (pivot_at Q F m n t r j i (n + l)) (s l k))
    combines-kept h i k li = elim (cases_Bool (i == r)) [
      | inl e ↦ (let same : i ≡ r = eqb-true i r e in
          ap (λ x. pivot_at Q F m n t r j x k) same ∙ pivot-row k ∙ new_combines h k
          ∙ sum-same Q F m (λ l. F.mul (F.mul (t r (n + l)) (F.inverse (t r j))) (s l k)) (λ l. F.mul (pivot_at Q F m n t r j i (n + l)) (s l k))
          (λ l ll. ap (λ x. F.mul x (s l k)) (sym (pivot-row (n + l)) ∙ ap (λ x. pivot_at Q F m n t r j x (n + l)) (sym same))))
      | inr e ↦ (let ne : i ≢ r = eqb-false i r e in
          pivot-other i k ne ∙ ap (λ x. minus Q F x (F.mul (t i j) (F.mul (t r k) (F.inverse (t r j))))) (h.combines i k li)
          ∙ ap (λ x. minus Q F (sum_to Q F m (λ l. F.mul (t i (n + l)) (s l k))) (F.mul (t i j) x)) (new_combines h k)
          ∙ lessened (λ l. t i (n + l)) (λ l. F.mul (t r (n + l)) (F.inverse (t r j))) (t i j) k
          ∙ sum-same Q F m (λ l. F.mul (minus Q F (t i (n + l)) (F.mul (t i j) (F.mul (t r (n + l)) (F.inverse (t r j))))) (s l k)) (λ l. F.mul (pivot_at Q F m n t r j i (n + l)) (s l k))
          (λ l ll. ap (λ x. F.mul x (s l k)) (sym (pivot-other i (n + l) ne))))
    ]

    pub zero_times : (x : Q) → F.mul F.zero_q x ≡ F.zero_q
    zero_times x = F.mul_comm F.zero_q x ∙ mul_zero Q F x

    pub minus_zero : (x : Q) → minus Q F x F.zero_q ≡ x
    minus_zero x = ap (F.add x) (neg_zero Q F) ∙ F.add_zero x

    units-new : (i : ℕ) → i < m → pivot_at Q F m n t r j i j ≡ cond (i == r) F.one F.zero_q
    units-new i li = elim (cases_Bool (i == r)) [
      | inl e ↦ (let same : i ≡ r = eqb-true i r e in
          ap (λ x. pivot_at Q F m n t r j x j) same ∙ pivot-row j ∙ F.mul_inverse (t r j) nz ∙ sym (ap (λ x. cond x F.one F.zero_q) e))
      | inr e ↦ (let ne : i ≢ r = eqb-false i r e in
          pivot-other i j ne ∙ ap (λ x. minus Q F (t i j) (F.mul (t i j) x)) (F.mul_inverse (t r j) nz) ∙ ap (minus Q F (t i j)) (F.mul_one (t i j)) ∙ F.add_neg (t i j)
          ∙ sym (ap (λ x. cond x F.one F.zero_q) e))
    ]

    units-old : IsTied s t b → (i h : ℕ) → i < m → h < m → h ≢ r → pivot_at Q F m n t r j i (b h) ≡ cond (i == h) F.one F.zero_q
    units-old p i h li lh nh =
        let rh : r ≢ h = λ e. nh (sym e) in
        let none : F.mul (t r (b h)) (F.inverse (t r j)) ≡ F.zero_q = ap (λ x. F.mul x (F.inverse (t r j))) (p.units r h lt lh ∙ ap (λ x. cond x F.one F.zero_q) (ne_eqb r h rh)) ∙ zero_times (F.inverse (t r j)) in
        elim (cases_Bool (i == r)) [
          | inl e ↦ (let same : i ≡ r = eqb-true i r e in
              ap (λ x. pivot_at Q F m n t r j x (b h)) same ∙ pivot-row (b h) ∙ none ∙ sym (ap (λ x. cond (x == h) F.one F.zero_q) same ∙ ap (λ x. cond x F.one F.zero_q) (ne_eqb r h rh)))
          | inr e ↦ (let ne : i ≢ r = eqb-false i r e in
              pivot-other i (b h) ne ∙ ap (λ x. minus Q F (t i (b h)) (F.mul (t i j) x)) none ∙ ap (minus Q F (t i (b h))) (mul_zero Q F (t i j)) ∙ minus_zero (t i (b h)) ∙ p.units i h li lh)
        ]

    units-kept : IsTied s t b → (i h : ℕ) → i < m → h < m → pivot_at Q F m n t r j i (basis_at Q F m n b r j h) ≡ cond (i == h) F.one F.zero_q
    units-kept p i h li lh = elim (cases_Bool (h == r)) [
      | inl e ↦ (let same : h ≡ r = eqb-true h r e in
          ap (λ x. pivot_at Q F m n t r j i (basis_at Q F m n b r j x)) same ∙ ap (pivot_at Q F m n t r j i) basis-row ∙ units-new i li ∙ ap (λ x. cond (i == x) F.one F.zero_q) (sym same))
      | inr e ↦ (let ne : h ≢ r = eqb-false h r e in ap (pivot_at Q F m n t r j i) (basis-other h ne) ∙ units-old p i h li lh ne)
    ]

    pub IsTied-pivot : IsTied s t b → IsTied s (pivot_at Q F m n t r j) (basis_at Q F m n b r j)
    IsTied-pivot h = record {
      combines = combines-kept h;
      restores = λ l k ll. h.restores l k ll ∙ sym (restores-kept (λ x. s l x) k (h.restores l j ll));
      units = λ i h' li lh. units-kept h i h' li lh;
    }

    prices-kept : (d z : ℕ → Q) (k : ℕ) → F.add (z j) (sum_to Q F m (λ i. F.mul (d (b i)) (t i j))) ≡ d j → F.add (z k) (sum_to Q F m (λ i. F.mul (d (b i)) (t i k))) ≡ d k
        → F.add (minus Q F (z k) (F.mul (z j) (F.mul (t r k) (F.inverse (t r j))))) (sum_to Q F m (λ i. F.mul (d (basis_at Q F m n b r j i)) (pivot_at Q F m n t r j i k))) ≡ d k
    prices-kept d z k ej ek =
        let new : Q = F.mul (t r k) (F.inverse (t r j)) in
        let gj : Q = sum_to Q F m (λ i. F.mul (d (b i)) (t i j)) in
        let whole : Q = sum_to Q F m (λ i. F.mul (d (b i)) (t i k)) in
        let f : ℕ → Q = λ i. F.mul (d (basis_at Q F m n b r j i)) (pivot_at Q F m n t r j i k) in
        let rest : Q = sum_but Q F r m (λ i. F.mul (d (b i)) (minus Q F (t i k) (F.mul (t i j) new))) in
        let zn : Q = F.mul (z j) new in
        -- the new sum is z j * new more than the old one
        let more : sum_to Q F m f ≡ F.add zn whole =
        sum-split Q F m r f lt
        ∙ ap (λ x. F.add x (sum_but Q F r m f)) (ap (λ x. F.mul (d x) (pivot_at Q F m n t r j r k)) basis-row ∙ ap (F.mul (d j)) (pivot-row k) ∙ ap (λ x. F.mul x new) (sym ej) ∙ add_mul Q F (z j) gj new)
        ∙ ap (F.add (F.add zn (F.mul gj new))) (sum_but-same Q F r m f (λ i. F.mul (d (b i)) (minus Q F (t i k) (F.mul (t i j) new)))
        (λ i l ne. ap (λ x. F.mul (d x) (pivot_at Q F m n t r j i k)) (basis-other i ne) ∙ ap (F.mul (d (b i))) (pivot-other i k ne)))
        ∙ F.add_assoc zn (F.mul gj new) rest
        ∙ ap (F.add zn) (combination-kept Q F m r (λ i. d (b i)) (λ i. t i k) (λ i. t i j) gj new lt refl (inverse-back Q F (t r k) (t r j) nz)) in
        ap (F.add (minus Q F (z k) zn)) more
        ∙ sym (F.add_assoc (minus Q F (z k) zn) zn whole)
        ∙ ap (λ x. F.add x whole) (minus-back Q F (z k) zn)
        ∙ ek

    -- row z is pivoted too
    pub IsPriced-pivot : (d z w : ℕ → Q) → IsTied s t b → IsPriced s t b d z w
        → IsPriced s (pivot_at Q F m n t r j) (basis_at Q F m n b r j) d (λ k. minus Q F (z k) (F.mul (z j) (F.mul (t r k) (F.inverse (t r j))))) (λ l. minus Q F (w l) (F.mul (z j) (F.mul (t r (n + l)) (F.inverse (t r j)))))
    IsPriced-pivot d z w h p = record {
      combines = λ k.
          ap (λ x. minus Q F x (F.mul (z j) (F.mul (t r k) (F.inverse (t r j))))) (p.combines k)
          ∙ F.add_assoc (d k) (sum_to Q F m (λ l. F.mul (w l) (s l k))) (F.neg (F.mul (z j) (F.mul (t r k) (F.inverse (t r j)))))
          ∙ ap (F.add (d k)) (ap (λ x. minus Q F (sum_to Q F m (λ l. F.mul (w l) (s l k))) (F.mul (z j) x)) (new_combines h k)
          ∙ lessened w (λ l. F.mul (t r (n + l)) (F.inverse (t r j))) (z j) k);
      prices = λ k. prices-kept d z k (p.prices j) (p.prices k);
    }

  -- factors of the starting rows, taken over the basic columns and the rows, come back
  factors-back : (s t : Rows Q F m n) (b : ℕ → ℕ) (w : ℕ → Q) (k : ℕ) → IsTied s t b
      → sum_to Q F m (λ i. F.mul (sum_to Q F m (λ l. F.mul (w l) (s l (b i)))) (t i k)) ≡ sum_to Q F m (λ l. F.mul (w l) (s l k))
  factors-back s t b w k h =
      sum-same Q F m (λ i. F.mul (sum_to Q F m (λ l. F.mul (w l) (s l (b i)))) (t i k)) (λ i. sum_to Q F m (λ l. F.mul (F.mul (w l) (s l (b i))) (t i k)))
      (λ i l. sym (sum-mul Q F m (λ l. F.mul (w l) (s l (b i))) (t i k)))
      ∙ sum-swap Q F m m (λ i l. F.mul (F.mul (w l) (s l (b i))) (t i k))
      ∙ sum-same Q F m (λ l. sum_to Q F m (λ i. F.mul (F.mul (w l) (s l (b i))) (t i k))) (λ l. F.mul (w l) (s l k))
      (λ l ll. sum-same Q F m (λ i. F.mul (F.mul (w l) (s l (b i))) (t i k)) (λ i. F.mul (F.mul (s l (b i)) (t i k)) (w l))
      (λ i li. F.mul_assoc (w l) (s l (b i)) (t i k) ∙ F.mul_comm (w l) (F.mul (s l (b i)) (t i k)))
      ∙ sum-mul Q F m (λ i. F.mul (s l (b i)) (t i k)) (w l) ∙ F.mul_comm (sum_to Q F m (λ i. F.mul (s l (b i)) (t i k))) (w l) ∙ ap (F.mul (w l)) (sym (h.restores l k ll)))

  -- The heart of Bland's argument: the costs z of one tableau, by the costs y of any other of the run along the direction of column k.
  pub direction_costs : (s t u : Rows Q F m n) (b a : ℕ → ℕ) (d z w y v : ℕ → Q) (k : ℕ) → IsTied s t b → IsPriced s t b d z w → IsPriced s u a d y v
      → F.add (z k) (sum_to Q F m (λ i. F.mul (y (b i)) (t i k))) ≡ y k
  direction_costs s t u b a d z w y v k p q x =
      let costs : ℕ → Q = λ i. F.mul (d (b i)) (t i k) in
      let parts : ℕ → Q = λ i. F.mul (sum_to Q F m (λ l. F.mul (v l) (s l (b i)))) (t i k) in
      let back : Q = sum_to Q F m (λ l. F.mul (v l) (s l k)) in
      ap (F.add (z k)) (
      sum-same Q F m (λ i. F.mul (y (b i)) (t i k)) (λ i. F.add (costs i) (parts i))
      (λ i l. ap (λ e. F.mul e (t i k)) (x.combines (b i)) ∙ add_mul Q F (d (b i)) (sum_to Q F m (λ l. F.mul (v l) (s l (b i)))) (t i k))
      ∙ sum-add Q F m costs parts
      ∙ ap (F.add (sum_to Q F m costs)) (factors-back s t b v k p))
      ∙ sym (F.add_assoc (z k) (sum_to Q F m costs) back)
      ∙ ap (λ e. F.add e back) (q.prices k)
      ∙ sym (x.combines k)

  pub no_more : (k : ℕ) (f : ℕ → Q) → ((i : ℕ) → i < k → nonneg Q F (F.neg (f i)) ≡ true) → nonneg Q F (F.neg (sum_to Q F k f)) ≡ true
  unfolding sum_to
  no_more zero f h = elim (cases_Bool (nonneg Q F F.zero_q)) [ inl e ↦ ap (nonneg Q F) (neg_zero Q F) ∙ e | inr e ↦ F.nonneg_neg F.zero_q e ]
  no_more (suc k) f h = ap (nonneg Q F) (neg_add Q F (sum_to Q F k f) (f k)) ∙ F.nonneg_add (F.neg (sum_to Q F k f)) (F.neg (f k)) (no_more k f (λ i l. h i (omega arith))) (h k (omega arith))

  -- Where each basic column's cost at u and its entry in the entering column q have opposite signs or a zero, the costs of q can't be negative at t and not at u.
  pub bland : (s t u : Rows Q F m n) (b a : ℕ → ℕ) (d z w y v : ℕ → Q) (q : ℕ) → IsTied s t b → IsPriced s t b d z w → IsPriced s u a d y v
      → ((i : ℕ) → i < m → nonneg Q F (F.neg (F.mul (y (b i)) (t i q))) ≡ true) → nonneg Q F (y q) ≡ true → nonneg Q F (z q) ≡ false → ⊥
  bland s t u b a d z w y v q p x o signs up down =
      let f : ℕ → Q = λ i. F.mul (y (b i)) (t i q) in
      let total : Q = sum_to Q F m f in
      let e : F.add (z q) total ≡ y q = direction_costs s t u b a d z w y v q p x o in
      -- z q = y q - total is at least 0
      let z-nonneg : nonneg Q F (F.add (y q) (F.neg total)) ≡ true = F.nonneg_add (y q) (F.neg total) up (no_more m f signs) in
      let same : F.add (y q) (F.neg total) ≡ z q = ap (λ c. F.add c (F.neg total)) (sym e) ∙ F.add_assoc (z q) total (F.neg total) ∙ ap (F.add (z q)) (F.add_neg total) ∙ F.add_zero (z q) in
      let yes : nonneg Q F (z q) ≡ true = ap (nonneg Q F) (sym same) ∙ z-nonneg in
      absurd (cc)

  -- what the run keeps, besides: right sides are at least 0, and basic columns are different
  pub record IsFeasible (t : Rows Q F m n) (b : ℕ → ℕ) : Type 0 where
    pub feasible : (i : ℕ) → i < m → nonneg Q F (t i (n + m)) ≡ true
    pub different : (i h : ℕ) → i < m → h < m → b i ≡ b h → i ≡ h
    pub in_range : (i : ℕ) → i < m → b i < n + m
