-- The problems of a list of atoms, from their columns.
use Rattle.std.specs.Prelude.{◌≡◌, ℕ, zero, suc, ◌+◌, ◌^◌, ◌<◌, ◌≤◌, eqb, if◌then◌else◌, List, [], ◌∷◌, ◌++◌, length, map, replicate, ℤ, pos, negsuc, slice_index_or, unsigned_abs, sum_by}
use Rattle.std.specs.List.{AllByRecursion}
use Rattle.std.proofs.Common.{refl, sym, ◌∙◌, ap, subst, arith, inl, inr, add-one}
use Rattle.std.specs.declared.vec.Vec.{Vec}
use Rattle.std.specs.declared.alloc.Global.{Global}
use Rattle.std.proofs.lemmas.Bool.{cases_eq, cases_lt, eq-eqb, ne_eqb, lt-ltb, le-ltb}
use Rattle.std.proofs.lemmas.List.{get_or_past, get_or_push, get_or_append_left, length-append, length-map, length-replicate}
use Rattle.std.proofs.lemmas.List.Sums.{sum_by-cons, sum_by_push}
use Rattle.dc_math.specs.Rational.{of_ℤ}
use Rattle.dc_affine.specs.declared.atom.Atom.{Atom}
use Rattle.dc_affine.specs.Atoms.{IsAtom}
use Rattle.dc_lp.specs.declared.Entry.{Entry}
use Rattle.dc_lp.specs.declared.Problem.{Problem}
use Rattle.dc_lp.specs.Problems.{coefficient_in, coefficient, entries, IsColumn, IsWellFormed, linear_of}
use Rattle.dc_points.specs.Stated.{rational, atom_number, empty_problem, sup_problem}
use Rattle.dc_points.proofs.Same.{same_problem}
use Rattle.dc_entail.specs.Columns.{IsColumnOf, AreColumnsOf, place_numbers, column_numbers}

-- ---- columns one after another
abbrev pub items_of : List (Vec Entry Global) → List (List Entry)
items_of vs = map (λ v. v.items) vs

items_of-push : (vs : List (Vec Entry Global)) (v : Vec Entry Global) → items_of (vs ++ v ∷ []) ≡ items_of vs ++ v.items ∷ []
items_of-push [] v = refl
items_of-push (w ∷ vs) v = ap (λ cs. w.items ∷ cs) (items_of-push vs v)

pub no_columns : (rows : ℕ) (f : ℕ → ℕ → ℤ) → AreColumnsOf 0 rows f []
no_columns rows f = record { long = refl; each = λ j l. absurd (omega arith) }

pub column_more : (k rows : ℕ) (f : ℕ → ℕ → ℤ) (vs : List (Vec Entry Global)) (v : Vec Entry Global) → AreColumnsOf k rows f (items_of vs) → IsColumnOf rows (λ i. f i k) v.items → AreColumnsOf (k + 1) rows f (items_of (vs ++ v ∷ []))
column_more k rows f vs v h c = subst (AreColumnsOf (k + 1) rows f) (sym (items_of-push vs v)) (record {
  long = (let a = length-append (items_of vs) (v.items ∷ []) in let l = h.long in omega arith);
  each = λ j l. (let long = h.long in elim (cases_eq j k) [
    | inl e ↦ subst (λ y. IsColumnOf rows (λ i. f i y) (slice_index_or (items_of vs ++ v.items ∷ []) y [])) (sym e) (subst (IsColumnOf rows (λ i. f i k)) (sym (get_or_push (items_of vs) v.items [] k long)) c)
    | inr ne ↦ subst (IsColumnOf rows (λ i. f i j)) (sym (get_or_append_left (items_of vs) (v.items ∷ []) [] j (omega arith))) (h.each j (omega arith))
  ]);
})

-- ---- atoms by number
pub atom_at : (n : ℕ) (hyps : List Atom) (k : ℕ) (a : Atom) → AllByRecursion (IsAtom n) hyps → k < length hyps → a ≡ slice_index_or hyps k a → IsAtom n a
atom_at n [] k a h l e = absurd (omega arith)
atom_at n (x ∷ hyps) zero a h l e = subst (IsAtom n) (sym e) h.0
atom_at n (x ∷ hyps) (suc k) a h l e = atom_at n hyps k a h.1 (omega arith) e

pub is_number : (hyps : List Atom) (k : ℕ) (a : Atom) → k < length hyps → a ≡ slice_index_or hyps k a → a ≡ atom_number hyps k
is_number [] k a l e = absurd (omega arith)
is_number (x ∷ hyps) zero a l e = e
is_number (x ∷ hyps) (suc k) a l e = is_number hyps k a (omega arith) e

pub number_past : (hyps : List Atom) (k : ℕ) → length hyps ≤ k → atom_number hyps k ≡ record { c0 = pos 0; coefs = [] }
number_past hyps k l = get_or_past hyps k (record { c0 = pos 0; coefs = [] }) l

-- ---- the parts of a problem
module _ (p : Problem) (k rows : ℕ) (f : ℕ → ℕ → ℤ) (h : AreColumnsOf k rows f (items_of p.columns.items)) where
  pub columns-long : length p.columns.items ≡ k
  columns-long = sym (length-map p.columns.items (λ v. v.items)) ∙ h.long

  pub columns-values : ((i j : ℕ) → k ≤ j → f i j ≡ pos 0) → (i j : ℕ) → coefficient p i j ≡ f i j
  columns-values z i j = elim (cases_lt j k) [
    | inl l ↦ (h.each j l).values i
    | inr l ↦ (let long = h.long in ap (λ (es : List Entry). coefficient_in es i) (get_or_past (items_of p.columns.items) j [] (omega arith)) ∙ sym (z i j l))
  ]

  pub columns-formed : p.rows ≡ rows → rows < 18446744073709551616 → (j : ℕ) → j < length p.columns.items → IsColumn p.rows (entries p j)
  columns-formed e small j l = subst (λ r. IsColumn r (entries p j)) (sym e) (
      let c = columns-long in
      let d : IsColumnOf rows (λ i. f i j) (entries p j) = h.each j (omega arith) in
      record { entries = d.entries; weight = (let w = d.light in omega arith) })

-- ---- zeros
zeros_at : (n i : ℕ) → slice_index_or (replicate n (pos 0)) i (pos 0) ≡ pos 0
zeros_at zero i = refl
zeros_at (suc n) zero = refl
zeros_at (suc n) (suc i) = zeros_at n i

zeros_weight : (n : ℕ) → sum_by unsigned_abs (replicate n (pos 0)) ≡ 0
zeros_weight zero = refl
zeros_weight (suc n) = sum_by-cons unsigned_abs (pos 0) (replicate n (pos 0)) ∙ ap (λ k. 0 + k) (zeros_weight n)

last_at : (n i : ℕ) → slice_index_or (replicate n (pos 0) ++ negsuc 0 ∷ []) i (pos 0) ≡ (if eqb i n then negsuc 0 else pos 0)
last_at n i = (let long = length-replicate n (pos 0) in elim (cases_eq i n) [
  | inl e ↦ rw (eq-eqb i n e) (get_or_push (replicate n (pos 0)) (negsuc 0) (pos 0) i (omega arith))
  | inr ne ↦ rw (ne_eqb i n ne) (elim (cases_lt i n) [
    | inl l ↦ get_or_append_left (replicate n (pos 0)) (negsuc 0 ∷ []) (pos 0) i (omega arith) ∙ zeros_at n i
    | inr l ↦ (let a = length-append (replicate n (pos 0)) (negsuc 0 ∷ []) in get_or_past (replicate n (pos 0) ++ negsuc 0 ∷ []) i (pos 0) (omega arith))
  ])
])

-- ---- the empty problem
module _ (n : ℕ) (hyps : List Atom) (p : Problem) (rows : p.rows ≡ n + 1)
    (columns : AreColumnsOf (length hyps) (n + 1) (λ i j. column_numbers n (atom_number hyps j) i) (items_of p.columns.items))
    (b : p.b.items ≡ replicate n (pos 0) ++ negsuc 0 ∷ []) (cost : p.cost.items ≡ replicate (length hyps) (pos 0)) where
  nothing_past : (i j : ℕ) → length hyps ≤ j → column_numbers n (atom_number hyps j) i ≡ pos 0
  nothing_past i j l = rw (number_past hyps j l) (elim (cases_eq i n) [
    | inl e ↦ rw (eq-eqb i n e) refl
    | inr ne ↦ rw (ne_eqb i n ne) (elim (cases_lt i n) [ inl k ↦ rw (lt-ltb i n k) refl | inr k ↦ rw (le-ltb i n k) refl ])
  ])

  pub is_empty_problem : linear_of p ≡ rational (empty_problem hyps n)
  is_empty_problem =
      same_problem (linear_of p) (rational (empty_problem hyps n)) (rows ∙ add-one n) (columns-long p (length hyps) (n + 1) _ columns)
      (λ i j. ap of_ℤ (columns-values p (length hyps) (n + 1) (λ i j. column_numbers n (atom_number hyps j) i) columns nothing_past i j))
      (λ i. ap of_ℤ (ap (λ (xs : List ℤ). slice_index_or xs i (pos 0)) b ∙ last_at n i))
      (λ j. ap of_ℤ (ap (λ (xs : List ℤ). slice_index_or xs j (pos 0)) cost ∙ zeros_at (length hyps) j))

  pub empty_problem-formed : n + 1 < 18446744073709551616 → IsWellFormed p
  empty_problem-formed small = record {
    right_sides = (let a = ap length b in let l = length-append (replicate n (pos 0)) (negsuc 0 ∷ []) in let r = length-replicate n (pos 0) in omega arith);
    costs = ap length cost ∙ length-replicate (length hyps) (pos 0) ∙ sym (columns-long p (length hyps) (n + 1) _ columns);
    columns = columns-formed p (length hyps) (n + 1) _ columns rows small;
    right_side_weight = (let w = ap (sum_by unsigned_abs) b in let s = sum_by_push unsigned_abs (replicate n (pos 0)) (negsuc 0) in let z = zeros_weight n in omega arith);
    cost_sizes = λ j l. (let z = ap (λ (xs : List ℤ). unsigned_abs (slice_index_or xs j (pos 0))) cost ∙ ap unsigned_abs (zeros_at (length hyps) j) in omega arith);
  }

-- ---- the problem of a form
abbrev pub constants : List Atom → List ℤ
constants hyps = map (λ a. a.c0) hyps

constants_at : (hyps : List Atom) (j : ℕ) → slice_index_or (constants hyps) j (pos 0) ≡ (atom_number hyps j).c0
constants_at [] j = refl
constants_at (a ∷ hyps) zero = refl
constants_at (a ∷ hyps) (suc j) = constants_at hyps j

constants_small : (n : ℕ) (hyps : List Atom) (j : ℕ) → AllByRecursion (IsAtom n) hyps → unsigned_abs (slice_index_or (constants hyps) j (pos 0)) ≤ 2147483648
constants_small n [] j h = omega arith
constants_small n (a ∷ hyps) zero h = h.0.constant_within
constants_small n (a ∷ hyps) (suc j) h = constants_small n hyps j h.1

module _ (hyps : List Atom) (form : List ℤ) (p : Problem) (rows : p.rows ≡ length form)
    (columns : AreColumnsOf (length hyps) (length form) (λ i j. place_numbers (length form) (atom_number hyps j) i) (items_of p.columns.items))
    (b : p.b.items ≡ form) (cost : p.cost.items ≡ constants hyps) where
  none_past : (i j : ℕ) → length hyps ≤ j → place_numbers (length form) (atom_number hyps j) i ≡ pos 0
  none_past i j l = rw (number_past hyps j l) (elim (cases_lt i (length form)) [ inl k ↦ rw (lt-ltb i (length form) k) refl | inr k ↦ rw (le-ltb i (length form) k) refl ])

  pub is_sup_problem : linear_of p ≡ rational (sup_problem hyps form)
  is_sup_problem =
      same_problem (linear_of p) (rational (sup_problem hyps form)) rows (columns-long p (length hyps) (length form) _ columns)
      (λ i j. ap of_ℤ (columns-values p (length hyps) (length form) (λ i j. place_numbers (length form) (atom_number hyps j) i) columns none_past i j))
      (λ i. ap of_ℤ (ap (λ (xs : List ℤ). slice_index_or xs i (pos 0)) b))
      (λ j. ap of_ℤ (ap (λ (xs : List ℤ). slice_index_or xs j (pos 0)) cost ∙ constants_at hyps j))

  pub sup_problem-formed : length form < 18446744073709551616 → AllByRecursion (IsAtom (length form)) hyps → sum_by unsigned_abs form < 2 ^ 70 → IsWellFormed p
  sup_problem-formed small o w = record {
    right_sides = ap length b ∙ sym rows;
    costs = ap length cost ∙ length-map hyps (λ a. a.c0) ∙ sym (columns-long p (length hyps) (length form) _ columns);
    columns = columns-formed p (length hyps) (length form) _ columns rows small;
    right_side_weight = (let e = ap (sum_by unsigned_abs) b in omega arith);
    cost_sizes = λ j l. (let e = ap (λ (xs : List ℤ). unsigned_abs (slice_index_or xs j (pos 0))) cost in let z = constants_small (length form) hyps j o in omega arith);
  }
