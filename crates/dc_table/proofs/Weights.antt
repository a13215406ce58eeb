-- How heavy columns are.
use Rattle.std.specs.Prelude.{◌≡◌, ℕ, zero, suc, ◌+◌, ◌*◌, ◌≤◌, Bool, true, false, cond, List, [], ◌∷◌, ◌++◌, flat_map, map, All, pos, ◌+ℤ◌, sum_by, unsigned_abs, replicate}
use Rattle.std.specs.List.{AllByRecursion}
use Rattle.std.proofs.Common.{refl, sym, ◌∙◌, subst, arith}
use Rattle.std.proofs.lemmas.Int.{ints}
use Rattle.std.proofs.lemmas.List.Sums.{sum_by-cons, sum_by-append}
use Rattle.dc_math.specs.Members.{each-++}
use Rattle.dc_math.specs.OrderedLists.{Ordered}
use Rattle.dc_math.specs.Integers.{size-+ℤ}
use Rattle.dc_lp.specs.declared.Entry.{Entry}
use Rattle.dc_lp.specs.Problems.{weight}
use Rattle.dc_poly.specs.Terms as terms
use Rattle.dc_poly.specs.declared.monomial.Term.{Term}
use Rattle.dc_poly.specs.Terms.{Exponents, TermList, Polynomial, same_mono, coef, Before}
use Rattle.dc_poly.specs.Sums.{negated}
use Rattle.dc_poly.proofs.Graded.{Before-not}
use Rattle.dc_poly.proofs.Canon.{same_mono_is}
use Rattle.dc_poly.proofs.Sizes.{weight-negated, power_more}
use Rattle.dc_handelman.specs.Products.{IsProduct, factor_weight}
use Rattle.dc_coefficients.specs.declared.block.Block.{Block}
use Rattle.dc_coefficients.proofs.Rows.{weight_is}
use Rattle.dc_coefficients.proofs.MonoLaws.{monos_ordered}
use Rattle.dc_claims.specs.declared.duty.Duty.{Duty}
use Rattle.dc_claims.specs.Duties.{Pair, places_of}
use Rattle.dc_claims.specs.Problems.{polynomials_at}
use Rattle.dc_claims.specs.Blocks.{IsBlock, IsPart}
use Rattle.dc_table.specs.declared.table.Table.{Table}
use Rattle.dc_table.specs.Tables.{lists, entries_of, opposite_entries, both_entries, extended, IsExtended, IsEmptyTable, part_weight, product_weight, IsWeighed}

-- ---- the coefficients at different monomials are no heavier than the polynomial
abbrev once : TermList → List Exponents → ℕ
once p ms = sum_by unsigned_abs (map (coef p) ms)

-- a term counts at one monomial at most
abbrev hits : Term → List Exponents → ℕ
hits t ms = sum_by (λ m. cond (same_mono t.mono m) (unsigned_abs t.coef) 0) ms

no_hit : (t : Term) (m : Exponents) (ms : List Exponents) → t.mono ≡ m → AllByRecursion (Before m) ms → hits t ms ≡ 0
no_hit t m [] e h = refl
no_hit t m (k ∷ ms) e h =
    sum_by-cons (λ m. cond (same_mono t.mono m) (unsigned_abs t.coef) 0) k ms ∙ by (same_mono t.mono k) refl (no_hit t m ms e h.1)
  where
    by : (b : Bool) → same_mono t.mono k ≡ b → hits t ms ≡ 0 → cond b (unsigned_abs t.coef) 0 + hits t ms ≡ 0
    by true q r = absurd (Before-not m (subst (λ x. Before m x) (sym (same_mono_is t.mono k q) ∙ e) h.0))
    by false q r = omega arith

one_hit : (t : Term) (ms : List Exponents) → Ordered Before ms → hits t ms ≤ unsigned_abs t.coef
one_hit t [] o = omega arith
one_hit t (m ∷ ms) o = subst (λ n. n ≤ unsigned_abs t.coef) (sym (sum_by-cons (λ m. cond (same_mono t.mono m) (unsigned_abs t.coef) 0) m ms)) (by (same_mono t.mono m) refl (one_hit t ms o.1))
  where
    by : (b : Bool) → same_mono t.mono m ≡ b → hits t ms ≤ unsigned_abs t.coef → cond b (unsigned_abs t.coef) 0 + hits t ms ≤ unsigned_abs t.coef
    by true q r = let z = no_hit t m ms (same_mono_is t.mono m q) o.0 in omega arith
    by false q r = omega arith

split_term : (t : Term) (p : TermList) (ms : List Exponents) → once (t ∷ p) ms ≤ hits t ms + once p ms
split_term t p [] = omega arith
split_term t p (m ∷ ms) =
    let a = sum_by-cons unsigned_abs (coef (t ∷ p) m) (map (coef (t ∷ p)) ms) in
    let b = sum_by-cons (λ m. cond (same_mono t.mono m) (unsigned_abs t.coef) 0) m ms in
    let c = sum_by-cons unsigned_abs (coef p m) (map (coef p) ms) in
    let d = one (same_mono t.mono m) in
    let r = split_term t p ms in
    omega arith
  where
    one : (b : Bool) → unsigned_abs (cond b t.coef (pos 0) +ℤ coef p m) ≤ cond b (unsigned_abs t.coef) 0 + unsigned_abs (coef p m)
    one true = size-+ℤ t.coef (coef p m)
    one false = omega (arith, ints)

none_at_all : (ms : List Exponents) → once [] ms ≡ 0
none_at_all [] = refl
none_at_all (m ∷ ms) = sum_by-cons unsigned_abs (pos 0) (map (coef []) ms) ∙ (let r = none_at_all ms in omega arith)

pub coefficients_light : (p : TermList) (ms : List Exponents) → Ordered Before ms → once p ms ≤ terms.weight p
coefficients_light [] ms o = let z = none_at_all ms in omega arith
coefficients_light (t ∷ p) ms o = let a = split_term t p ms in let b = one_hit t ms o in let c = coefficients_light p ms o in omega arith

-- ---- columns
entries_light : (r : ℕ) (ms : List Exponents) (q : Polynomial) → Ordered Before ms → weight (entries_of r ms q) ≤ terms.weight q.terms
entries_light r ms q o = let a = weight_is r (map (coef q.terms) ms) in let b = coefficients_light q.terms ms o in omega arith

opposite_light : (r : ℕ) (ms : List Exponents) (q : Polynomial) → Ordered Before ms → weight (opposite_entries r ms q) ≤ terms.weight q.terms
opposite_light r ms q o = let a = weight_is r (map (coef (negated q.terms)) ms) in let b = coefficients_light (negated q.terms) ms o in let c = weight-negated q.terms in omega arith

weight-++ : (es fs : List Entry) → weight (es ++ fs) ≡ weight es + weight fs
weight-++ es fs = sum_by-append (λ (e : Entry). unsigned_abs e.value) es fs

-- columns of weight at most n times w, extended by some of at most w
extended_light : (n w : ℕ) (cs es : List (List Entry)) → AllByRecursion (λ es. weight es ≤ n * w) cs → AllByRecursion (λ es. weight es ≤ w) es
    → AllByRecursion (λ es. weight es ≤ (n + 1) * w) (extended cs es)
extended_light n w [] es h g = tt
extended_light n w (c ∷ cs) [] h g = (more n w (weight c) h.0, all_more cs h.1)
  where
    more : (n w x : ℕ) → x ≤ n * w → x ≤ (n + 1) * w
    more n w x l = omega arith

    all_more : (cs : List (List Entry)) → AllByRecursion (λ es. weight es ≤ n * w) cs → AllByRecursion (λ es. weight es ≤ (n + 1) * w) cs
    all_more [] h = tt
    all_more (c ∷ cs) h = (more n w (weight c) h.0, all_more cs h.1)
extended_light n w (c ∷ cs) (e ∷ es) h g = (joined n w (weight c) (weight e) (weight (c ++ e)) (weight-++ c e) h.0 g.0, extended_light n w cs es h.1 g.1)
  where
    joined : (n w x y z : ℕ) → z ≡ x + y → x ≤ n * w → y ≤ w → z ≤ (n + 1) * w
    joined n w x y z e l m = omega arith

both_light : (n r : ℕ) (ms : List Exponents) (qs : List Polynomial) → Ordered Before ms → AllByRecursion (IsPart n 2) qs → AllByRecursion (λ es. weight es ≤ part_weight) (flat_map (both_entries r ms) qs)
both_light n r ms [] o h = tt
both_light n r ms (q ∷ qs) o h =
    ((let a = entries_light r ms q o in let b = h.0.light in omega arith), ((let a = opposite_light r ms q o in let b = h.0.light in omega arith), both_light n r ms qs o h.1))

products_light : (n k r : ℕ) (ms : List Exponents) (qs : List Polynomial) → k ≤ 3 → Ordered Before ms → All (IsProduct n k) qs → AllByRecursion (λ es. weight es ≤ product_weight) (map (opposite_entries r ms) qs)
products_light n k r ms [] l o h = tt
products_light n k r ms (q ∷ qs) l o h =
    ((let a = opposite_light r ms q o in let b = (h 0 q (omega arith)).light in let c = power_more factor_weight k 3 (omega arith) l in omega arith), products_light n k r ms qs l o (λ i d m. h (suc i) d (omega arith)))

-- ---- one block more
pub weighed_more : (p : Pair) (d k n : ℕ) (o : Duty) (b : Block) (t u : Table) → k ≤ 3 → IsWeighed n t → IsBlock p d k o b → IsExtended b t u → IsWeighed (n + 1) u
weighed_more p d k n o b t u l h g e =
    let ordered : Ordered Before b.monos.items = subst (Ordered Before) (sym g.monos) (monos_ordered (polynomials_at p d k o)) in
    record {
      unknowns = subst (AllByRecursion (λ es. weight es ≤ (n + 1) * part_weight)) (sym e.unknowns)
          (extended_light n part_weight (lists t.unknowns.items) (flat_map (both_entries t.rows b.monos.items) b.parts.items) h.unknowns (both_light (places_of p o) t.rows b.monos.items b.parts.items ordered g.part_kinds));
      products = subst (AllByRecursion (λ es. weight es ≤ product_weight)) (sym e.products)
          (each-++ (λ es. weight es ≤ product_weight) (lists t.products.items) (map (opposite_entries t.rows b.monos.items) b.products.items) h.products (products_light (places_of p o) k t.rows b.monos.items b.products.items l ordered g.product_kinds));
      b = subst (λ zs. sum_by unsigned_abs zs ≤ (n + 1) * part_weight) (sym e.b) (right_sides ordered);
    }
  where
    joined : (n w x y z : ℕ) → z ≡ x + y → x ≤ n * w → y ≤ w → z ≤ (n + 1) * w
    joined n w x y z e l m = omega arith

    right_sides : Ordered Before b.monos.items → sum_by unsigned_abs (t.b.items ++ map (coef (negated b.rest.terms)) b.monos.items) ≤ (n + 1) * part_weight
    right_sides ordered =
        joined n part_weight (sum_by unsigned_abs t.b.items) (once (negated b.rest.terms) b.monos.items) _ (sum_by-append unsigned_abs t.b.items (map (coef (negated b.rest.terms)) b.monos.items)) h.b
        (let c = coefficients_light (negated b.rest.terms) b.monos.items ordered in let w = weight-negated b.rest.terms in let r = g.rest_kind.light in omega arith)

zeros_light : (n : ℕ) → AllByRecursion (λ (es : List Entry). weight es ≤ 0 * part_weight) (replicate n [])
zeros_light zero = tt
zeros_light (suc n) = (omega arith, zeros_light n)

pub weighed_starts : (n : ℕ) (t : Table) → IsEmptyTable n t → IsWeighed 0 t
weighed_starts n t h = record {
  unknowns = subst (AllByRecursion (λ es. weight es ≤ 0 * part_weight)) (sym h.unknowns) (zeros_light n);
  products = subst (AllByRecursion (λ es. weight es ≤ product_weight)) (sym h.products) tt;
  b = subst (λ zs. sum_by unsigned_abs zs ≤ 0 * part_weight) (sym h.b) (omega arith);
}
