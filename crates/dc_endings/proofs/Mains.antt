-- The main problem has small numbers.
use Rattle.std.specs.Prelude.{◌≡◌, ◌⊎◌, ℕ, suc, ◌+◌, ◌*◌, ◌^◌, ◌<◌, ◌≤◌, Bool, true, false, eqb, if◌then◌else◌, List, [], ◌∷◌, flat_map, map, length, slice_get, ℤ, pos, neg_ℤ, unsigned_abs, sum_by, Option, Some, None}
use Rattle.std.specs.List.{AllByRecursion, range_with_len}
use Rattle.std.proofs.Common.{refl, sym, ◌∙◌, ap, subst, arith, inl, inr}
use Rattle.std.proofs.Math.Nat.{mul-le-mul_right}
use Rattle.std.proofs.lemmas.Bool.{cases_lt}
use Rattle.std.proofs.lemmas.List.{get_or_past}
use Rattle.std.proofs.lemmas.List.Elements.{recursion_from_All}
use Rattle.std.proofs.lemmas.List.Sums.{sum_by-cons, sum_by-append}
use Rattle.dc_math.specs.Members.{each_all, each_at, each-weaker, each-++, each-map, each-flat_map, get_each}
use Rattle.dc_math.specs.OrderedLists.{Ordered}
use Rattle.dc_math.specs.Integers.{size-neg_ℤ}
use Rattle.dc_syntax.specs.declared.tree.Side.{Side}
use Rattle.dc_syntax.specs.declared.tree.Side.TheVariants.{New, Old}
use Rattle.dc_poly.specs.Terms.{Exponents, TermList, Before, Polynomial, polynomial, term, coef, degree, degree_of, weight}
use Rattle.dc_poly.specs.Sums.{plus, negated}
use Rattle.dc_poly.specs.Conditions.{composed_weight}
use Rattle.dc_poly.specs.NormalForm.{normal_weight}
use Rattle.dc_poly.proofs.Sizes.{AllLight, power_more, weight-plus, weight-negated, weight-constant, weight-composed, composed_weight_light}
use Rattle.dc_coefficients.specs.Monomials.{monos_in}
use Rattle.dc_coefficients.proofs.MonoLaws.{monos_ordered}
use Rattle.dc_handelman.specs.Products.{factor_weight}
use Rattle.dc_handelman.proofs.Values.{all_products}
use Rattle.dc_poly.specs.Monomials.{IsWithin}
use Rattle.dc_template.proofs.Listed.{are_monomials}
use Rattle.dc_frac.specs.Fits.{IsSmall}
use Rattle.dc_system.specs.declared.edges.Edge.{Edge}
use Rattle.dc_system.specs.Shapes.{IsForm, IsEdge}
use Rattle.dc_system.proofs.FormSteps.{form_light}
use Rattle.dc_claims.specs.declared.duty.Duty.{Duty}
use Rattle.dc_claims.specs.declared.duty.Duty.TheVariants.{Along, AtExit, AtEntry}
use Rattle.dc_claims.specs.declared.duty.Unknown.{Unknown}
use Rattle.dc_claims.specs.declared.duty.Unknown.TheVariants.{Bound, Coefficient}
use Rattle.dc_claims.specs.Claims.{monomials_at}
use Rattle.dc_claims.specs.Duties.{Pair, Flags, system_of, edge_at, exit_of, atoms_of, places_of, duties_of, same_duty, IsThere}
use Rattle.dc_claims.specs.Parts.{unknowns_of, when, before, behind, itself, at_inputs, monomial_at, part_of, rest_of}
use Rattle.dc_claims.specs.Plans.{IsFit}
use Rattle.dc_claims.specs.Problems.{Column, Plus, Minus, Times, both_signs, cost_or_zero, Equation, equation, products_at, product_number, multipliers_at, polynomials_at, equations_at, columns_of, equations_of, entry_of, entry_or_zero, right_of, right_or_zero, main_problem}
use Rattle.dc_claims.proofs.Fits.{is_edge, atoms_fit, few_places}
use Rattle.dc_table.specs.Tables.{part_weight}
use Rattle.dc_table.proofs.Weights.{coefficients_light}
use Rattle.dc_match.proofs.Counting.{duties_there, duties_few}
use Rattle.dc_lp.proofs.Tallies.{tally-first}
use Rattle.dc_endings.proofs.Starts.{sizes, IsLight}
use Rattle.dc_endings.proofs.Weights.{sizes_small}

-- ---- sums of sizes
sizes_get : {A : Type 0} (h : Option A → ℤ) (xs : List A) → sizes (λ i. h (slice_get xs i)) (length xs) ≡ sum_by (λ x. unsigned_abs (h (Some x))) xs
sizes_get h [] = refl
sizes_get h (x ∷ xs) =
    tally-first (λ i. unsigned_abs (h (slice_get (x ∷ xs) i))) (length xs) ∙ ap (λ n. unsigned_abs (h (Some x)) + n) (sizes_get h xs)
    ∙ sym (sum_by-cons (λ y. unsigned_abs (h (Some y))) x xs)

sum_mapped : {A B : Type 0} (e : B → A) (v : A → ℤ) (ms : List B) → sum_by (λ q. unsigned_abs (v q)) (map e ms) ≡ sum_by unsigned_abs (map (λ m. v (e m)) ms)
sum_mapped e v [] = refl
sum_mapped e v (m ∷ ms) =
    sum_by-cons (λ q. unsigned_abs (v q)) (e m) (map e ms) ∙ ap (λ n. unsigned_abs (v (e m)) + n) (sum_mapped e v ms)
    ∙ sym (sum_by-cons unsigned_abs (v (e m)) (map (λ i. v (e i)) ms))

sum_negated : {A : Type 0} (v : A → ℤ) (ms : List A) → sum_by unsigned_abs (map (λ m. neg_ℤ (v m)) ms) ≡ sum_by unsigned_abs (map v ms)
sum_negated v [] = refl
sum_negated v (m ∷ ms) =
    let a = sum_by-cons unsigned_abs (neg_ℤ (v m)) (map (λ i. neg_ℤ (v i)) ms) in
    let b = sum_by-cons unsigned_abs (v m) (map v ms) in
    let c = size-neg_ℤ (v m) in
    let d = sum_negated v ms in
    omega arith

sum_zeros : {A : Type 0} (ms : List A) → sum_by unsigned_abs (map (λ m. pos 0) ms) ≡ 0
sum_zeros [] = refl
sum_zeros (m ∷ ms) = let a = sum_by-cons unsigned_abs (pos 0) (map (λ i. pos 0) ms) in let b = sum_zeros ms in omega arith

-- ---- parts
when_light : (b : Bool) (q : TermList) (w : ℕ) → weight q ≤ w → weight (when b q) ≤ w
when_light true q w h = h
when_light false q w h = omega arith

minus_light : (q r : TermList) (x y : ℕ) → weight q ≤ x → weight r ≤ y → weight (plus q (negated r)) ≤ x + y
minus_light q r x y h k = let a = weight-plus q (negated r) in let b = weight-negated r in omega arith

negated_light : (q : TermList) (x : ℕ) → weight q ≤ x → weight (negated q) ≤ x
negated_light q x h = let b = weight-negated q in omega arith

all_light : (m : ℕ) (vs : List Polynomial) → AllByRecursion (IsForm m) vs → AllLight normal_weight vs
all_light m [] h = tt
all_light m (v ∷ vs) h = (form_light m v h.0, all_light m vs h.1)

behind_light : (n : ℕ) (e : Edge) (m : Exponents) → IsEdge n e → degree m ≤ 3 → weight (behind n e m) ≤ normal_weight ^ 3
behind_light n e m h l =
    let q = term m (pos 1) ∷ [] in
    let low : degree_of q ≤ 3 = omega arith in
    through (weight (behind n e m)) (composed_weight q e.update) (normal_weight ^ degree_of q) (normal_weight ^ 3) (weight-composed (n + 1) q e.update)
    (composed_weight_light normal_weight q e.update (omega arith) (all_light (n + 1) e.update h.updates))
    (power_more normal_weight (degree_of q) 3 (omega arith) low)
  where
    through : (x y z w : ℕ) → x ≤ y → y ≤ 1 * z → z ≤ w → x ≤ w
    through x y z w a b c = omega arith

module _ (p : Pair) (d k : ℕ) (f : Flags) (fit : IsFit p d k f) where
  low : (side : Side) (i : ℕ) → degree (monomial_at p d side i) ≤ 3
  low side i = by (cases_lt i (length (monomials_at p d side)))
    where
      by : (i < length (monomials_at p d side)) ⊎ (length (monomials_at p d side) ≤ i) → degree (monomial_at p d side i) ≤ 3
      by (inl l) = let a = (each_at (IsWithin (system_of p side).vars d) (monomials_at p d side) i [] (are_monomials (system_of p side).vars d).only l).low in let b = fit.degree in omega arith
      by (inr l) = subst (λ (m : Exponents). degree m ≤ 3) (sym (get_or_past (monomials_at p d side) i [] l)) (omega arith)

  one_light : (b : Bool) (m : Exponents) → weight (when b (itself m)) ≤ 1
  one_light b m = when_light b (itself m) 1 (omega arith)

  inputs_light : (b : Bool) (n : ℕ) (m : Exponents) → weight (when b (at_inputs n m)) ≤ 1
  inputs_light b n m = when_light b (at_inputs n m) 1 (one_light _ _)

  before_light : (b : Bool) (m : Exponents) → weight (when b (before m)) ≤ 1
  before_light b m = when_light b (before m) 1 (omega arith)

  part_light : (o : Duty) → IsThere p o → (u : Unknown) → weight (part_of p d o u) ≤ part_weight
  part_light (Along side n) h Bound = omega arith
  part_light (AtExit side) h Bound = omega arith
  part_light (AtEntry n) h Bound = let a = weight-constant (pos 1) p.new.params in omega arith
  part_light (Along New n) h (Coefficient New l i) =
      let e = edge_at p.new n in
      let m = monomial_at p d New i in
      let a = minus_light (when (eqb l e.from) (before m)) (when (eqb l e.to) (behind p.new.vars e m)) 1 (normal_weight ^ 3) (before_light (eqb l e.from) m)
      (when_light (eqb l e.to) (behind p.new.vars e m) (normal_weight ^ 3) (behind_light p.new.vars e m (is_edge p d k f fit New n h) (low New i))) in
      omega arith
  part_light (Along New n) h (Coefficient Old l i) = omega arith
  part_light (Along Old n) h (Coefficient New l i) = omega arith
  part_light (Along Old n) h (Coefficient Old l i) =
      let e = edge_at p.old n in
      let m = monomial_at p d Old i in
      let a = minus_light (when (eqb l e.to) (behind p.old.vars e m)) (when (eqb l e.from) (before m)) (normal_weight ^ 3) 1
      (when_light (eqb l e.to) (behind p.old.vars e m) (normal_weight ^ 3) (behind_light p.old.vars e m (is_edge p d k f fit Old n h) (low Old i))) (before_light (eqb l e.from) m) in
      omega arith
  part_light (AtExit New) h (Coefficient New l i) = let a = one_light (eqb l (exit_of p.new)) (monomial_at p d New i) in omega arith
  part_light (AtExit New) h (Coefficient Old l i) = omega arith
  part_light (AtExit Old) h (Coefficient New l i) = omega arith
  part_light (AtExit Old) h (Coefficient Old l i) = let a = negated_light (when (eqb l (exit_of p.old)) (itself (monomial_at p d Old i))) 1 (one_light (eqb l (exit_of p.old)) (monomial_at p d Old i)) in omega arith
  part_light (AtEntry n) h (Coefficient New l i) =
      let a = negated_light (when (eqb l 0) (at_inputs p.new.params (monomial_at p d New i))) 1 (inputs_light (eqb l 0) p.new.params (monomial_at p d New i)) in omega arith
  part_light (AtEntry n) h (Coefficient Old l i) = let a = inputs_light (eqb l 0) p.new.params (monomial_at p d Old i) in omega arith

  rest_light : (o : Duty) → IsThere p o → weight (rest_of p o) ≤ part_weight
  rest_light (Along New n) h =
      let a = negated_light (edge_at p.new n).cost.terms normal_weight (form_light (p.new.vars + 1) (edge_at p.new n).cost (is_edge p d k f fit New n h).cost) in omega arith
  rest_light (Along Old n) h = let a = form_light (p.old.vars + 1) (edge_at p.old n).cost (is_edge p d k f fit Old n h).cost in omega arith
  rest_light (AtExit side) h = omega arith
  rest_light (AtEntry n) h = omega arith

  product_light : (o : Duty) → IsThere p o → (i : ℕ) → weight (product_number p k o i).terms ≤ part_weight
  product_light o h i = by (cases_lt i (length (products_at p k o)))
    where
      by : (i < length (products_at p k o)) ⊎ (length (products_at p k o) ≤ i) → weight (product_number p k o i).terms ≤ part_weight
      by (inl l) =
          let q = all_products (places_of p o) k (atoms_of p o) (few_places p d k f fit o) fit.few_products (atoms_fit p d k f fit o h) i (polynomial 0 []) l in
          let a = q.light in
          let b = power_more factor_weight k 3 (omega arith) fit.few_products in
          omega arith
      by (inr l) = subst (λ (q : Polynomial). weight q.terms ≤ part_weight) (sym (get_or_past (products_at p k o) i (polynomial 0 []) l)) (omega arith)

  -- ---- a column in the equations of a duty
  abbrev Known : Column → Type 0
  Known (Plus u) = Unit {0}
  Known (Minus u) = Unit {0}
  Known (Times o i) = IsThere p o

  abbrev monos : Duty → List Exponents
  monos o = monos_in (polynomials_at p d k o)

  ordered : (o : Duty) → Ordered Before (monos o)
  ordered o = monos_ordered (polynomials_at p d k o)

  in_duty : (o : Duty) → IsThere p o → (c : Column) → Known c → sum_by unsigned_abs (map (λ m. entry_of p d k (equation o m) c) (monos o)) ≤ part_weight
  in_duty o h (Plus u) g = let a = coefficients_light (part_of p d o u) (monos o) (ordered o) in let b = part_light o h u in omega arith
  in_duty o h (Minus u) g =
      let a = coefficients_light (part_of p d o u) (monos o) (ordered o) in
      let b = part_light o h u in
      let c = sum_negated (coef (part_of p d o u)) (monos o) in
      omega arith
  in_duty o h (Times x i) g = by (same_duty o x)
    where
      by : (b : Bool) → sum_by unsigned_abs (map (λ m. if b then neg_ℤ (coef (product_number p k x i).terms m) else pos 0) (monos o)) ≤ part_weight
      by true =
          let a = coefficients_light (product_number p k x i).terms (monos o) (ordered o) in
          let b = product_light x g i in
          let c = sum_negated (coef (product_number p k x i).terms) (monos o) in
          omega arith
      by false = let a = sum_zeros (monos o) in omega arith

  right_in_duty : (o : Duty) → IsThere p o → sum_by unsigned_abs (map (λ m. right_of p d k (equation o m)) (monos o)) ≤ part_weight
  right_in_duty o h =
      let a = coefficients_light (rest_of p o) (monos o) (ordered o) in
      let b = rest_light o h in
      let c = sum_negated (coef (rest_of p o)) (monos o) in
      omega arith

  -- ---- in the equations of all duties
  module _ (v : Equation → ℤ) (each : (o : Duty) → IsThere p o → sum_by unsigned_abs (map (λ m. v (equation o m)) (monos o)) ≤ part_weight) where
    in_duties : (os : List Duty) → AllByRecursion (IsThere p) os → sum_by (λ q. unsigned_abs (v q)) (flat_map (equations_at p d k) os) ≤ length os * part_weight
    in_duties [] h = omega arith
    in_duties (o ∷ os) h =
        more (length os) (sum_by (λ q. unsigned_abs (v q)) (equations_at p d k o)) (sum_by (λ q. unsigned_abs (v q)) (flat_map (equations_at p d k) os)) _
        (sum_by-append (λ q. unsigned_abs (v q)) (equations_at p d k o) (flat_map (equations_at p d k) os))
        (let a = sum_mapped (equation o) v (monos o) in let b = each o h.0 in omega arith) (in_duties os h.1)
      where
        more : (n x y z : ℕ) → z ≡ x + y → x ≤ part_weight → y ≤ n * part_weight → z ≤ suc n * part_weight
        more n x y z e a b = omega arith

    small : sum_by (λ q. unsigned_abs (v q)) (equations_of p d k f) < 2 ^ 127
    small =
        under (length (duties_of f)) part_weight _ (in_duties (duties_of f) ((recursion_from_All (IsThere p) (duties_of f) (duties_there p f fit.flags))))
        (duties_few p f fit.pair fit.flags) (omega arith)
      where
        under : (n w x : ℕ) → x ≤ n * w → n ≤ 2048 → 2048 * w < 2 ^ 127 → x < 2 ^ 127
        under n w x l g b = let m = mul-le-mul_right w g in omega arith

  -- ---- the whole problem
  known : AllByRecursion Known (columns_of p d k f)
  known =
      each-++ Known (flat_map both_signs (unknowns_of p d)) (flat_map (multipliers_at p k) (duties_of f))
      (each-flat_map Known both_signs (unknowns_of p d) (each_all _ (unknowns_of p d) (λ u. (tt, (tt, tt)))))
      (each-flat_map Known (multipliers_at p k) (duties_of f)
      (each-weaker (IsThere p) (λ o. AllByRecursion Known (multipliers_at p k o)) (λ o h. each-map Known (Times o) (range_with_len 0 (length (products_at p k o))) (each_all _ (range_with_len 0 (length (products_at p k o))) (λ i. h))) (duties_of f)
      ((recursion_from_All (IsThere p) (duties_of f) (duties_there p f fit.flags)))))

  abbrev equations : List Equation
  equations = equations_of p d k f

  column_small : (o : Option Column) → ((c : Column) → o ≡ Some c → Known c) → sizes (λ i. entry_or_zero p d k (slice_get equations i) o) (length equations) < 2 ^ 127
  column_small None g =
      let a = sizes_small (λ i. entry_or_zero p d k (slice_get equations i) None) 0 (length equations) (λ i. none (slice_get equations i)) in omega arith
    where
      none : (q : Option Equation) → unsigned_abs (entry_or_zero p d k q None) ≤ 0
      none None = omega arith
      none (Some q) = omega arith
  column_small (Some c) g =
      let a = sizes_get (λ q. entry_or_zero p d k q (Some c)) equations in
      let b = small (λ q. entry_of p d k q c) (λ o h. in_duty o h c (g c refl)) in
      omega arith

  cost_small : (o : Option Column) → IsSmall (cost_or_zero o)
  cost_small None = omega arith
  cost_small (Some (Plus Bound)) = omega arith
  cost_small (Some (Minus Bound)) = omega arith
  cost_small (Some (Plus (Coefficient s l i))) = omega arith
  cost_small (Some (Minus (Coefficient s l i))) = omega arith
  cost_small (Some (Times o i)) = omega arith

  pub main_light : IsLight (main_problem p d k f)
  main_light = record {
    columns = λ j l. column_small (slice_get (columns_of p d k f) j) (λ c e. get_each Known (columns_of p d k f) known j c e);
    right_side = let a = sizes_get (right_or_zero p d k) equations in let b = small (right_of p d k) right_in_duty in omega arith;
    costs = λ j l. cost_small (slice_get (columns_of p d k f) j);
  }
