-- The columns of a table are those of the main problem.
use Rattle.std.specs.Prelude.{◌≡◌, ℕ, zero, suc, ◌+◌, ◌<◌, ◌≤◌, Bool, true, false, cond, if◌then◌else◌, List, [], ◌∷◌, ◌++◌, flat_map, length, map, replicate, ℤ, pos, neg_ℤ}
use Rattle.std.specs.List.{range_with_len, AllByRecursion}
use Rattle.std.proofs.Common.{refl, sym, ◌∙◌, ap, ap₂, subst, arith, length-append}
use Rattle.std.proofs.lemmas.List.{map-append, length-map, append_assoc, append-nil}
use Rattle.std.proofs.lemmas.Simd.{map-map}
use Rattle.std.proofs.lemmas.Grind.{flat_map-append}
use Rattle.dc_coefficients.proofs.Lists.{flat_map_one}
use Rattle.dc_math.specs.Members.{each-++}
use Rattle.dc_lp.specs.declared.Entry.{Entry}
use Rattle.dc_poly.specs.Terms.{Exponents, TermList, Polynomial, polynomial, coef}
use Rattle.dc_poly.specs.Sums.{negated}
use Rattle.dc_poly.proofs.Same.{coef-negated}
use Rattle.dc_coefficients.specs.Monomials.{all_terms, monos_in}
use Rattle.dc_coefficients.specs.Entries.{entries_from, entry_at}
use Rattle.dc_coefficients.proofs.Rows.{entries_from-++}
use Rattle.dc_claims.specs.declared.duty.Duty.{Duty}
use Rattle.dc_claims.specs.declared.duty.Unknown.{Unknown}
use Rattle.dc_claims.specs.Duties.{Pair, same_duty}
use Rattle.dc_claims.specs.Parts.{unknowns_of, part_of, rest_of}
use Rattle.dc_claims.specs.Problems.{Column, Plus, Minus, Times, both_signs, Equation, equation, equations_at, entry_of, right_of, polynomials_at, products_at, product_number, multipliers_at}
use Rattle.dc_claims.proofs.Counting.{passing, passing-++}
use Rattle.dc_claims.proofs.Owed.{same_duty_refl, same_duty_is}
use Rattle.dc_claims.proofs.Totals.{by_index}
use Rattle.dc_coefficients.specs.declared.block.Block.{Block}
use Rattle.dc_claims.specs.Blocks.{IsBlock}
use Rattle.dc_table.specs.declared.table.Table.{Table}
use Rattle.dc_table.specs.Tables.{lists, entries_of, opposite_entries, both_entries, extended, IsExtended, IsEmptyTable, equations_in, column_in, monos_at, product_columns, IsTable}

map_same : {A B : Type 0} (f g : A → B) (xs : List A) → ((x : A) → f x ≡ g x) → map f xs ≡ map g xs
map_same f g [] h = refl
map_same f g (x ∷ xs) h = ap₂ ◌∷◌ (h x) (map_same f g xs h)

-- ---- zeros have no entries
no_entries : (r : ℕ) (zs : List ℤ) → AllByRecursion (λ z. z ≡ pos 0) zs → entries_from r zs ≡ []
no_entries r [] h = refl
no_entries r (z ∷ zs) h = ap (λ y. entry_at r y ++ entries_from (suc r) zs) h.0 ∙ no_entries (suc r) zs h.1

each_zero : {A : Type 0} (f : A → ℤ) (xs : List A) → ((x : A) → f x ≡ pos 0) → AllByRecursion (λ z. z ≡ pos 0) (map f xs)
each_zero f [] h = tt
each_zero f (x ∷ xs) h = (h x, each_zero f xs h)

-- ---- columns
module _ (p : Pair) (d k : ℕ) where
  -- ---- the columns of multipliers
  numbers_-++ : (os qs : List Duty) (c : Column) → map (λ q. entry_of p d k q c) (equations_in p d k (os ++ qs)) ≡ map (λ q. entry_of p d k q c) (equations_in p d k os) ++ map (λ q. entry_of p d k q c) (equations_in p d k qs)
  numbers_-++ os qs c = ap (map (λ q. entry_of p d k q c)) (flat_map-append (equations_at p d k) os qs) ∙ map-append (λ q. entry_of p d k q c) (equations_in p d k os) (equations_in p d k qs)

  numbers_at : (o : Duty) (c : Column) → map (λ q. entry_of p d k q c) (equations_at p d k o) ≡ map (λ m. entry_of p d k (equation o m) c) (monos_at p d k o)
  numbers_at o c = map-map (λ q. entry_of p d k q c) (equation o) (monos_at p d k o)

  foreign : (o c : Duty) (i : ℕ) (m : Exponents) → same_duty c o ≡ false → entry_of p d k (equation c m) (Times o i) ≡ pos 0
  foreign o c i m h = ap (λ b. if b then neg_ℤ (coef (product_number p k o i).terms m) else pos 0) h

  own : (o : Duty) (i : ℕ) (m : Exponents) → entry_of p d k (equation o m) (Times o i) ≡ coef (negated (product_number p k o i).terms) m
  own o i m = ap (λ b. if b then neg_ℤ (coef (product_number p k o i).terms m) else pos 0) (same_duty_refl o) ∙ sym (coef-negated (product_number p k o i).terms m)

  foreign_numbers : (o : Duty) (i : ℕ) (os : List Duty) → AllByRecursion (λ c. same_duty c o ≡ false) os → AllByRecursion (λ z. z ≡ pos 0) (map (λ q. entry_of p d k q (Times o i)) (equations_in p d k os))
  foreign_numbers o i [] h = tt
  foreign_numbers o i (c ∷ os) h =
      subst (AllByRecursion (λ z. z ≡ pos 0)) (sym (map-append (λ q. entry_of p d k q (Times o i)) (equations_at p d k c) (equations_in p d k os)))
      (each-++ (λ z. z ≡ pos 0) _ _ (subst (AllByRecursion (λ z. z ≡ pos 0)) (sym (numbers_at c (Times o i))) (each_zero _ (monos_at p d k c) (λ m. foreign o c i m h.0))) (foreign_numbers o i os h.1))

  length-equations : (o : Duty) → length (equations_at p d k o) ≡ length (monos_at p d k o)
  length-equations o = length-map (monos_at p d k o) (equation o)

  -- a multiplier's column, where its duty stands once among the duties
  own_column : (before after : List Duty) (o : Duty) (i : ℕ) → AllByRecursion (λ c. same_duty c o ≡ false) before → AllByRecursion (λ c. same_duty c o ≡ false) after
      → column_in p d k (before ++ (o ∷ after)) (Times o i) ≡ opposite_entries (length (equations_in p d k before)) (monos_at p d k o) (product_number p k o i)
  own_column before after o i h g =
      let f : Equation → ℤ = λ q. entry_of p d k q (Times o i) in
      let a = map f (equations_in p d k before) in
      let b = map f (equations_at p d k o) in
      let c = map f (equations_in p d k after) in
      ap (entries_from 0) (numbers_-++ before (o ∷ after) (Times o i) ∙ ap (λ q. a ++ q) (map-append f (equations_at p d k o) (equations_in p d k after)))
      ∙ entries_from-++ 0 a (b ++ c)
      ∙ ap (λ q. q ++ entries_from (0 + length a) (b ++ c)) (no_entries 0 a (foreign_numbers o i before h))
      ∙ entries_from-++ (0 + length a) b c
      ∙ ap (λ q. entries_from (0 + length a) b ++ q) (no_entries (0 + length a + length b) c (foreign_numbers o i after g))
      ∙ append-nil (entries_from (0 + length a) b)
      ∙ ap₂ entries_from (let e = length-map (equations_in p d k before) f in let s : 0 + length a ≡ length (equations_in p d k before) = omega arith in s)
      (numbers_at o (Times o i) ∙ map_same _ _ (monos_at p d k o) (own o i))

  -- each duty stands once
  none_there : (o : Duty) (os : List Duty) → passing (same_duty o) os ≡ 0 → AllByRecursion (λ c. same_duty c o ≡ false) os
  none_there o [] h = tt
  none_there o (c ∷ os) h = (by (same_duty c o) refl, none_there o os (rest (same_duty o c) (passing (same_duty o) os) h))
    where
      rest : (b : Bool) (n : ℕ) → cond b 1 0 + n ≡ 0 → n ≡ 0
      rest true n h = absurd (omega arith)
      rest false n h = omega arith

      one : (n : ℕ) → same_duty o c ≡ true → cond (same_duty o c) 1 0 + n ≡ 0 → false ≡ true
      one n e h = absurd (let q : cond true 1 0 + n ≡ 0 = subst (λ b. cond b 1 0 + n ≡ 0) e h in omega arith)

      by : (b : Bool) → same_duty c o ≡ b → same_duty c o ≡ false
      by true e = absurd (let q : false ≡ true = one (passing (same_duty o) os) (ap (same_duty o) (same_duty_is c o e) ∙ same_duty_refl o) h in cc)
      by false e = e

  around : (o : Duty) (before after : List Duty) → passing (same_duty o) (before ++ (o ∷ after)) ≤ 1 → (passing (same_duty o) before ≡ 0) × (passing (same_duty o) after ≡ 0)
  around o before after h =
      let e = passing-++ (same_duty o) before (o ∷ after) in
      let g = subst (λ b. passing (same_duty o) (before ++ (o ∷ after)) ≡ passing (same_duty o) before + (cond b 1 0 + passing (same_duty o) after)) (same_duty_refl o) e in
      (omega (arith, g), omega (arith, g))

  pub multiplier_columns : (before os : List Duty) → ((o : Duty) → passing (same_duty o) (before ++ os) ≤ 1)
      → product_columns p d k (length (equations_in p d k before)) os ≡ map (column_in p d k (before ++ os)) (flat_map (multipliers_at p k) os)
  multiplier_columns before [] once = refl
  multiplier_columns before (o ∷ os) once =
      let a = around o before os (once o) in
      let s = sym (append_assoc before (o ∷ []) os) in
      ap₂ ◌++◌
      (sym (map-map (column_in p d k (before ++ (o ∷ os))) (Times o) (range_with_len 0 (length (products_at p k o)))
      ∙ by_index (λ i. column_in p d k (before ++ (o ∷ os)) (Times o i)) (opposite_entries (length (equations_in p d k before)) (monos_at p d k o)) (products_at p k o) 0 (polynomial 0 [])
      (λ i l. own_column before os o (0 + i) (none_there o before a.0) (none_there o os a.1) ∙ ap (λ j. opposite_entries (length (equations_in p d k before)) (monos_at p d k o) (product_number p k o j)) (let e : 0 + i ≡ i = omega arith in e))))
      (ap (λ r. product_columns p d k r os)
      (let u = length-equations o in let v = length-append (equations_in p d k before) (equations_at p d k o) in let w = ap length (flat_map_one (equations_at p d k) before o) in
      let e : length (equations_in p d k before) + length (monos_at p d k o) ≡ length (equations_in p d k (before ++ o ∷ [])) = omega arith in e)
      ∙ multiplier_columns (before ++ o ∷ []) os (λ c. subst (λ q. passing (same_duty c) q ≤ 1) s (once c))
      ∙ ap (λ q. map (column_in p d k q) (flat_map (multipliers_at p k) os)) (sym s))
      ∙ sym (map-append (column_in p d k (before ++ (o ∷ os))) (map (Times o) (range_with_len 0 (length (products_at p k o)))) (flat_map (multipliers_at p k) os))

  -- ---- one duty more
  product_columns-++ : (r : ℕ) (os : List Duty) (o : Duty) → product_columns p d k r (os ++ o ∷ []) ≡ product_columns p d k r os ++ map (opposite_entries (r + length (equations_in p d k os)) (monos_at p d k o)) (products_at p k o)
  product_columns-++ r [] o = append-nil _ ∙ ap (λ i. map (opposite_entries i (monos_at p d k o)) (products_at p k o)) (let e : r ≡ r + 0 = omega arith in e)
  product_columns-++ r (c ∷ os) o =
      ap (λ q. map (opposite_entries r (monos_at p d k c)) (products_at p k c) ++ q)
      (product_columns-++ (r + length (monos_at p d k c)) os o
      ∙ ap (λ i. product_columns p d k (r + length (monos_at p d k c)) os ++ map (opposite_entries i (monos_at p d k o)) (products_at p k o))
      (let u = length-equations c in let v = length-append (equations_at p d k c) (equations_in p d k os) in
      let e : r + length (monos_at p d k c) + length (equations_in p d k os) ≡ r + length (equations_in p d k (c ∷ os)) = omega arith in e))
      ∙ sym (append_assoc (map (opposite_entries r (monos_at p d k c)) (products_at p k c)) _ _)

  extended_map : {A : Type 0} (f g : A → List Entry) (xs : List A) → extended (map f xs) (map g xs) ≡ map (λ x. f x ++ g x) xs
  extended_map f g [] = refl
  extended_map f g (x ∷ xs) = ap (λ q. (f x ++ g x) ∷ q) (extended_map f g xs)

  -- the entries of a column in one duty's equations
  abbrev at_duty : ℕ → List Exponents → Duty → Column → List Entry
  at_duty r ms o c = entries_from r (map (λ m. entry_of p d k (equation o m) c) ms)

  column_more : (os : List Duty) (o : Duty) (c : Column) → column_in p d k os c ++ at_duty (length (equations_in p d k os)) (monos_at p d k o) o c ≡ column_in p d k (os ++ o ∷ []) c
  column_more os o c =
      let f : Equation → ℤ = λ q. entry_of p d k q c in
      sym (ap (entries_from 0) (ap (map f) (flat_map_one (equations_at p d k) os o) ∙ map-append f (equations_in p d k os) (equations_at p d k o))
      ∙ entries_from-++ 0 (map f (equations_in p d k os)) (map f (equations_at p d k o))
      ∙ ap₂ (λ i q. column_in p d k os c ++ entries_from i q) (let e = length-map (equations_in p d k os) f in let s : 0 + length (map f (equations_in p d k os)) ≡ length (equations_in p d k os) = omega arith in s) (numbers_at o c))

  both_terms : ℕ → List Exponents → TermList → List (List Entry)
  both_terms r ms t = entries_from r (map (coef t) ms) ∷ entries_from r (map (coef (negated t)) ms) ∷ []

  by_terms : (r : ℕ) (ms : List Exponents) (qs : List Polynomial) → flat_map (both_entries r ms) qs ≡ flat_map (both_terms r ms) (all_terms qs)
  unfolding both_terms
  by_terms r ms [] = refl
  by_terms r ms (q ∷ qs) = ap (λ z. both_entries r ms q ++ z) (by_terms r ms qs)

  by_columns : (r : ℕ) (ms : List Exponents) (us : List Unknown) (o : Duty) → flat_map (both_terms r ms) (map (part_of p d o) us) ≡ map (at_duty r ms o) (flat_map both_signs us)
  unfolding both_terms
  by_columns r ms [] o = refl
  by_columns r ms (u ∷ us) o =
      ap₂ (λ e z. entries_from r (map (coef (part_of p d o u)) ms) ∷ e ∷ z) (ap (entries_from r) (map_same _ _ ms (coef-negated (part_of p d o u)))) (by_columns r ms us o)

  parts_are : (r : ℕ) (ms : List Exponents) (qs : List Polynomial) (o : Duty) → all_terms qs ≡ map (part_of p d o) (unknowns_of p d)
      → flat_map (both_entries r ms) qs ≡ map (at_duty r ms o) (flat_map both_signs (unknowns_of p d))
  parts_are r ms qs o e = by_terms r ms qs ∙ ap (flat_map (both_terms r ms)) e ∙ by_columns r ms (unknowns_of p d) o

  pub table_more : (os : List Duty) (o : Duty) (b : Block) (t u : Table) → IsTable p d k os t → IsBlock p d k o b → IsExtended b t u → IsTable p d k (os ++ o ∷ []) u
  table_more os o b t u h g e = record {
    rows = e.rows ∙ (let a = h.rows in let c = ap length g.monos in let l = length-equations o in let v = length-append (equations_in p d k os) (equations_at p d k o) in let w = ap length (flat_map_one (equations_at p d k) os o) in omega arith);
    unknowns = e.unknowns
        ∙ ap₂ extended h.unknowns (ap₂ (λ r ms. flat_map (both_entries r ms) b.parts.items) h.rows g.monos ∙ parts_are (length (equations_in p d k os)) (monos_at p d k o) b.parts.items o g.parts)
        ∙ extended_map (column_in p d k os) (at_duty (length (equations_in p d k os)) (monos_at p d k o) o) (flat_map both_signs (unknowns_of p d))
        ∙ map_same _ _ (flat_map both_signs (unknowns_of p d)) (column_more os o);
    products = e.products
        ∙ ap₂ ◌++◌ h.products (ap₂ (λ r ms. map (opposite_entries r ms) b.products.items) (h.rows ∙ (let z : length (equations_in p d k os) ≡ 0 + length (equations_in p d k os) = omega arith in z)) g.monos ∙ ap (map (opposite_entries (0 + length (equations_in p d k os)) (monos_at p d k o))) g.products)
        ∙ sym (product_columns-++ 0 os o);
    b = e.b
        ∙ ap₂ ◌++◌ h.b (ap₂ (λ (q : TermList) ms. map (coef (negated q)) ms) g.rest g.monos ∙ map_same _ _ (monos_at p d k o) (coef-negated (rest_of p o)))
        ∙ sym (ap (map (right_of p d k)) (flat_map_one (equations_at p d k) os o) ∙ map-append (right_of p d k) (equations_in p d k os) (equations_at p d k o) ∙ ap (λ q. map (right_of p d k) (equations_in p d k os) ++ q) (map-map (right_of p d k) (equation o) (monos_at p d k o)));
  }

  nothing_yet : (cs : List Column) → replicate (length cs) [] ≡ map (column_in p d k []) cs
  nothing_yet [] = refl
  nothing_yet (c ∷ cs) = ap (λ q. [] ∷ q) (nothing_yet cs)

  pub table_starts : (t : Table) → IsEmptyTable (length (flat_map both_signs (unknowns_of p d))) t → IsTable p d k [] t
  table_starts t h = record { rows = h.rows; unknowns = h.unknowns ∙ nothing_yet (flat_map both_signs (unknowns_of p d)); products = h.products; b = h.b }
