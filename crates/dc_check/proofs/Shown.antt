-- What the lines of a certificate show, over points.
use Rattle.std.specs.Prelude.{◌≡◌, ℕ, zero, suc, ◌+◌, ◌<◌, ◌≤◌, Bool, true, false, cond, eqb, ltb, List, [], ◌∷◌, ◌++◌, map, length, ℤ, pos, negsuc, Option, Some, None}
use Rattle.std.specs.List.{range_with_len}
use Rattle.std.proofs.Common.{refl, sym, ◌∙◌, ap, subst, arith, add-one}
use Rattle.std.proofs.lemmas.Bool.{eq-eqb, ne_eqb, lt-ltb, eqb-true, eqb-false}
use Rattle.dc_math.specs.Rational.{ℚ, of_ℤ, le_ℚ, ◌≤ℚ◌, ◌*ℚ◌, *ℚ_comm, NonNegative, <ℚ-≤ℚ, ≤ℚ_refl}
use Rattle.dc_math.specs.Tests.{eq_ℚ, is_negative, is_positive, eq_ℚ_true, le_ℚ_true, lt_ℚ_true}
use Rattle.dc_math.specs.Sums.{sum_ℚ, sum_ℚ_same}
use Rattle.dc_frac.specs.Value.{value}
use Rattle.dc_affine.specs.declared.atom.Atom.{Atom}
use Rattle.dc_lp.specs.Linear.{Linear, combined}
use Rattle.dc_lp.specs.Folds.{folded}
use Rattle.dc_lp.proofs.FoldSums.{folded-sum}
use Rattle.dc_cert.specs.declared.sparse.Item.{Item}
use Rattle.dc_cert.specs.declared.sparse.Sparse.{Sparse}
use Rattle.dc_cert.specs.Vectors.{entry_after}
use Rattle.dc_points.specs.Stated.{rational, atom_number, coefficient_of, empty_problem}
use Rattle.dc_points.specs.Shown.{ShowsAtom, ShowsDead, ShowsLive}
use Rattle.dc_clauses.specs.Steps.{Test, is_true, all_of}
use Rattle.dc_clauses.specs.Lines.{at, signs, part, part_sum, column_sum, is, is_at_most, coefficient_parts, dead_parts, live_parts, keep_parts}

-- ---- tests that are true
pub all_of-both : (ts us : List Test) → all_of (ts ++ us) ≡ Some true → (all_of ts ≡ Some true) × (all_of us ≡ Some true)
all_of-both [] us e = (refl, e)
all_of-both (t ∷ ts) us e = by t e (λ f. all_of-both ts us f)
  where
    by : (t : Test) → cond (is_true t) (all_of (ts ++ us)) t ≡ Some true → (all_of (ts ++ us) ≡ Some true → (all_of ts ≡ Some true) × (all_of us ≡ Some true)) → (cond (is_true t) (all_of ts) t ≡ Some true) × (all_of us ≡ Some true)
    by (Some true) e r = r e
    by (Some false) e r = absurd cc
    by None e r = absurd cc

pub one_true : (t : Test) (ts : List Test) → all_of (t ∷ ts) ≡ Some true → (t ≡ Some true) × (all_of ts ≡ Some true)
one_true (Some true) ts e = (refl, e)
one_true (Some false) ts e = absurd cc
one_true None ts e = absurd cc

each_from : (f : ℕ → Test) (k m : ℕ) → all_of (map f (range_with_len k m)) ≡ Some true → (i : ℕ) → k ≤ i → i < k + m → f i ≡ Some true
each_from f k zero e i l g = absurd (omega arith)
each_from f k (suc m) e i l g = (let b = one_true (f k) (map f (range_with_len (k + 1) m)) e in by (eqb k i) refl b.0 (λ d. each_from f (k + 1) m b.1 i d (omega arith)))
  where
    by : (b : Bool) → eqb k i ≡ b → f k ≡ Some true → (k + 1 ≤ i → f i ≡ Some true) → f i ≡ Some true
    by true q h r = ap f (sym (eqb-true k i q)) ∙ h
    by false q h r = r (let d = eqb-false k i q in omega (arith, d))

pub each_true : (f : ℕ → Test) (n : ℕ) → all_of (map f (range_with_len 0 n)) ≡ Some true → (i : ℕ) → i < n → f i ≡ Some true
each_true f n e i l = each_from f 0 n e i (omega arith) (omega arith)

-- ---- sums that are what they should be
is-sum : (n : ℕ) (a : ℕ → ℤ) (x : ℕ → ℚ) (c : ℤ) → is (folded n a x) c ≡ Some true → sum_ℚ n (λ k. of_ℤ (a k) *ℚ x k) ≡ of_ℤ c
is-sum n a x c e = by (folded n a x) refl e
  where
    by : (o : Option ℚ) → folded n a x ≡ o → is o c ≡ Some true → sum_ℚ n (λ k. of_ℤ (a k) *ℚ x k) ≡ of_ℤ c
    by (Some s) q h = sym (folded-sum n a x s q) ∙ eq_ℚ_true s (of_ℤ c) (let g : Some (eq_ℚ s (of_ℤ c)) ≡ Some true = h in cc)
    by None q h = absurd cc

is-at_most : (n : ℕ) (a : ℕ → ℤ) (x : ℕ → ℚ) (c : ℤ) → is_at_most (folded n a x) c ≡ Some true → sum_ℚ n (λ k. of_ℤ (a k) *ℚ x k) ≤ℚ of_ℤ c
is-at_most n a x c e = by (folded n a x) refl e
  where
    by : (o : Option ℚ) → folded n a x ≡ o → is_at_most o c ≡ Some true → sum_ℚ n (λ k. of_ℤ (a k) *ℚ x k) ≤ℚ of_ℤ c
    by (Some s) q h = subst (λ z. z ≤ℚ of_ℤ c) (folded-sum n a x s q) (le_ℚ_true s (of_ℤ c) (let g : Some (le_ℚ s (of_ℤ c)) ≡ Some true = h in cc))
    by None q h = absurd cc

-- ---- signs
entry-nonnegative : (x : ℚ) (is : List Item) (k : ℕ) → NonNegative x → all_of (map (λ (i : Item). Some (is_positive (value i.value))) is) ≡ Some true → NonNegative (entry_after x is k)
entry-nonnegative x [] k h e = h
entry-nonnegative x (i ∷ is) k h e = (let b = one_true (Some (is_positive (value i.value))) (map (λ (j : Item). Some (is_positive (value j.value))) is) e in entry-nonnegative (cond (eqb i.index k) (value i.value) x) is k (by (eqb i.index k) b.0) b.1)
  where
    by : (t : Bool) → Some (is_positive (value i.value)) ≡ Some true → NonNegative (cond t (value i.value) x)
    by true q = <ℚ-≤ℚ _ _ (lt_ℚ_true (of_ℤ (pos 0)) (value i.value) (let g : is_positive (value i.value) ≡ true = cc in g))
    by false q = h

pub signs-nonnegative : (v : Sparse) (k : ℕ) → all_of (signs v) ≡ Some true → NonNegative (at v k)
signs-nonnegative v k e = entry-nonnegative (of_ℤ (pos 0)) v.items k (≤ℚ_refl (of_ℤ (pos 0))) e

-- ---- the parts of an atom are its column of the empty problem
pub part-place : (n : ℕ) (a : Atom) (i : ℕ) → i < n → part n a i ≡ coefficient_of a i
part-place n a i l = ap (λ b. cond b a.c0 (coefficient_of a i)) (ne_eqb i n (λ e. omega arith))

pub part-last : (n : ℕ) (a : Atom) → part n a n ≡ a.c0
part-last n a = ap (λ b. cond b a.c0 (coefficient_of a n)) (eq-eqb n n refl)

pub part-column : (hyps : List Atom) (n i j : ℕ) → i < n + 1 → part n (atom_number hyps j) i ≡ (empty_problem hyps n).coefficient i j
part-column hyps n i j l = by (eqb i n) refl
  where
    by : (b : Bool) → eqb i n ≡ b → cond b (atom_number hyps j).c0 (coefficient_of (atom_number hyps j) i) ≡ cond b (atom_number hyps j).c0 (cond (ltb i n) (coefficient_of (atom_number hyps j) i) (pos 0))
    by true e = refl
    by false e = sym (ap (λ b. cond b (coefficient_of (atom_number hyps j) i) (pos 0)) (lt-ltb i n (let d = eqb-false i n e in omega (arith, d))))

-- ---- what true parts say of the problem of a list
-- sums over the columns of the empty problem
pub record Shows (p : Linear ℤ) (n : ℕ) (a : Atom) (x : ℕ → ℚ) : Type 0 where
  pub signs : (j : ℕ) → j < p.columns → NonNegative (x j)
  pub coefficients : (i : ℕ) → i < n → sum_ℚ p.columns (λ j. of_ℤ (p.coefficient i j) *ℚ x j) ≡ of_ℤ (coefficient_of a i)
  pub constant : sum_ℚ p.columns (λ j. of_ℤ (p.coefficient n j) *ℚ x j) ≤ℚ of_ℤ a.c0

row-sum : (hyps : List Atom) (n i : ℕ) (x : ℕ → ℚ) → i < n + 1 → sum_ℚ (length hyps) (λ j. of_ℤ ((empty_problem hyps n).coefficient i j) *ℚ x j) ≡ sum_ℚ (length hyps) (λ j. of_ℤ (part n (atom_number hyps j) i) *ℚ x j)
row-sum hyps n i x l = sum_ℚ_same (length hyps) _ _ (λ j g. ap (λ c. of_ℤ c *ℚ x j) (sym (part-column hyps n i j l)))

pub keep_shows : (hyps : List Atom) (n : ℕ) (a : Atom) (more : List Test) (v : Sparse) → all_of (keep_parts hyps n a more v) ≡ Some true → (all_of more ≡ Some true) × Shows (empty_problem hyps n) n a (at v)
keep_shows hyps n a more v e =
    let b = all_of-both (signs v) (more ++ (coefficient_parts hyps n v (coefficient_of a) ++ is_at_most (part_sum hyps n v n) a.c0 ∷ [])) e in
    let d = all_of-both more (coefficient_parts hyps n v (coefficient_of a) ++ is_at_most (part_sum hyps n v n) a.c0 ∷ []) b.1 in
    let f = all_of-both (coefficient_parts hyps n v (coefficient_of a)) (is_at_most (part_sum hyps n v n) a.c0 ∷ []) d.1 in (
      d.0,
      record {
        signs = λ j l. signs-nonnegative v j b.0;
        coefficients = λ i l. row-sum hyps n i (at v) (omega arith) ∙ is-sum (length hyps) (λ j. part n (atom_number hyps j) i) (at v) (coefficient_of a i) (each_true (λ i. is (part_sum hyps n v i) (coefficient_of a i)) n f.0 i l);
        constant = subst (λ z. z ≤ℚ of_ℤ a.c0) (sym (row-sum hyps n n (at v) (omega arith))) (is-at_most (length hyps) (λ j. part n (atom_number hyps j) n) (at v) a.c0 (one_true (is_at_most (part_sum hyps n v n) a.c0) [] f.1).0);
      },
    )

pub shows_atom : (hyps : List Atom) (n : ℕ) (a b : Atom) (x : ℕ → ℚ) → Shows (empty_problem hyps n) n a x → ((i : ℕ) → i < n → coefficient_of a i ≡ coefficient_of b i) → a.c0 ≡ b.c0 → ShowsAtom hyps n b x
shows_atom hyps n a b x h g q = record {
  signs = h.signs;
  coefficients = λ i l. (sum_ℚ_same (length hyps) _ _ (λ j k. ap (λ c. of_ℤ c *ℚ x j) (sym (part-place n (atom_number hyps j) i l) ∙ part-column hyps n i j (omega arith)))) ∙ h.coefficients i l ∙ ap of_ℤ (g i l);
  constant = subst (λ z. z ≤ℚ of_ℤ b.c0) (sum_ℚ_same (length hyps) _ _ (λ j k. ap (λ c. of_ℤ c *ℚ x j) (sym (part-column hyps n n j (omega arith)) ∙ part-last n (atom_number hyps j)))) (subst (λ z. sum_ℚ (length hyps) (λ j. of_ℤ ((empty_problem hyps n).coefficient n j) *ℚ x j) ≤ℚ of_ℤ z) q h.constant);
}

pub dead_shows : (hyps : List Atom) (n : ℕ) (v : Sparse) → all_of (dead_parts hyps n v) ≡ Some true → ShowsDead hyps n (at v)
dead_shows hyps n v e =
    let b = all_of-both (signs v) (coefficient_parts hyps n v (λ i. pos 0) ++ is (part_sum hyps n v n) (negsuc 0) ∷ []) e in
    let f = all_of-both (coefficient_parts hyps n v (λ i. pos 0)) (is (part_sum hyps n v n) (negsuc 0) ∷ []) b.1 in
    record {
      signs = λ j l. signs-nonnegative v j b.0;
      coefficients = λ i l. sum_ℚ_same (length hyps) _ _ (λ j k. ap (λ c. of_ℤ c *ℚ at v j) (sym (part-place n (atom_number hyps j) i l))) ∙ is-sum (length hyps) (λ j. part n (atom_number hyps j) i) (at v) (pos 0) (each_true (λ i. is (part_sum hyps n v i) (pos 0)) n f.0 i l);
      constant = sum_ℚ_same (length hyps) _ _ (λ j k. ap (λ c. of_ℤ c *ℚ at v j) (sym (part-last n (atom_number hyps j)))) ∙ is-sum (length hyps) (λ j. part n (atom_number hyps j) n) (at v) (negsuc 0) (one_true (is (part_sum hyps n v n) (negsuc 0)) [] f.1).0;
    }

pub live_shows : (hyps : List Atom) (n : ℕ) (y : Sparse) → all_of (live_parts hyps n y) ≡ Some true → ShowsLive hyps n (at y)
live_shows hyps n y e =
    let b = all_of-both (map (λ j. is_at_most (column_sum hyps n y j) (pos 0)) (range_with_len 0 (length hyps))) (Some (is_negative (at y n)) ∷ []) e in
    record {
      columns = λ j l. subst (λ z. z ≤ℚ of_ℤ (pos 0)) (column j) (is-at_most (n + 1) (part n (atom_number hyps j)) (at y) (pos 0) (each_true (λ j. is_at_most (column_sum hyps n y j) (pos 0)) (length hyps) b.0 j l));
      last = lt_ℚ_true (at y n) (of_ℤ (pos 0)) (let g : Some (is_negative (at y n)) ≡ Some true = (one_true (Some (is_negative (at y n))) [] b.1).0 in cc);
    }
  where
    column : (j : ℕ) → sum_ℚ (n + 1) (λ i. of_ℤ (part n (atom_number hyps j) i) *ℚ at y i) ≡ combined (rational (empty_problem hyps n)) (at y) j
    column j =
        sum_ℚ_same (n + 1) _ _ (λ i l. ap (λ c. of_ℤ c *ℚ at y i) (part-column hyps n i j l) ∙ *ℚ_comm (of_ℤ ((empty_problem hyps n).coefficient i j)) (at y i))
        ∙ ap (λ m. sum_ℚ m (λ i. at y i *ℚ of_ℤ ((empty_problem hyps n).coefficient i j))) (add-one n)
