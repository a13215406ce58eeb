-- Monomials at states.
use Rattle.std.specs.Prelude.{◌≡◌, ℕ, zero, suc, ◌+◌, ◌-◌, ◌*◌, ◌^◌, ◌<◌, ◌≤◌, List, [], ◌∷◌, ◌++◌, map, length, take, drop, replicate, slice_index_or, All, ℤ, pos, ◌*ℤ◌, Bool, true, false, eqb, Result, Ok, Err, IfOk}
use Rattle.std.specs.List.{range_with_len, list_all}
use Rattle.std.proofs.Common.{refl, sym, ◌∙◌, ap, ap₂, subst, arith, inl, inr, length-append}
use Rattle.std.proofs.lemmas.Bool.{cases_lt}
use Rattle.std.proofs.lemmas.List.FromFn.{get_or-map-range_with_len, length-map-range_with_len}
use Rattle.std.proofs.lemmas.List.{length-replicate}
use Rattle.dc_poly.specs.Terms.{Exponents, TermList, degree, mono_value, power, front, others, value, Polynomial, IsPolynomial, weight, Canonical, Places, term}
use Rattle.dc_poly.specs.Sums.{constant, variable, variable_of, values}
use Rattle.dc_poly.specs.Conditions.{HavePlaces}
use Rattle.dc_poly.specs.NormalForm.{IsNormalForm, normal_weight}
use Rattle.dc_poly.proofs.Sizes.{power_more}
use Rattle.dc_poly.proofs.Values.{value-variable, Canonical-composed}
use Rattle.dc_poly.proofs.Unique.{values_unique}
use Rattle.dc_poly.proofs.Degrees.{degree-unit_at}
use Rattle.dc_template.specs.Columns.{column_places}
use Rattle.dc_system.specs.declared.edges.Edge.{Edge}
use Rattle.dc_system.specs.Shapes.{IsEdge}
use Rattle.dc_system.proofs.Points.{values-++}
use Rattle.dc_claims.specs.Parts.{when, before, behind, itself, at_inputs}
use Rattle.dc_claims.proofs.PartValues.{before_value, behind_value, itself_value, inputs_value}
use Rattle.dc_claims.proofs.Fits.{Places-before, Places-itself, Places-behind, Places-inputs}
use Rattle.dc_claims.specs.Blocks.{IsPart}

pub same_column_places : (n : ℕ) (us : List Polynomial) → ¬ (us ≡ []) → HavePlaces n us → column_places us ≡ n
same_column_places n [] h p = absurd (h refl)
same_column_places n (u ∷ us) h p = p.0

lighter : (e : ℕ) → e ≤ 3 → normal_weight ^ e ≤ 1 * normal_weight ^ 3
lighter e h = let a = power_more normal_weight e 3 (omega arith) h in omega arith

pub part_made : {E : Type 0} (n : ℕ) (m : Exponents) (us : List Polynomial) (r : Result Polynomial E) → degree m ≤ 3 → ¬ (us ≡ []) → HavePlaces n us
    → IfOk r (λ p. p.places ≡ column_places us) → IfOk r (λ p. IsPolynomial p) → IfOk r (λ p. weight p.terms ≤ normal_weight ^ degree m) → IfOk r (IsPart n 1)
part_made n m us (Ok p) d e h a b c = record { places = a ∙ same_column_places n us e h; kind = b; light = (let l = lighter (degree m) d in omega arith) }
part_made n m us (Err e) d f h a b c = tt

-- ---- what a monomial sees of a state
mono_agree : (m : Exponents) (ys zs : List ℤ) → ((k : ℕ) → k < length m → slice_index_or ys k (pos 0) ≡ slice_index_or zs k (pos 0)) → mono_value m ys ≡ mono_value m zs
mono_agree [] ys zs h = refl
mono_agree (e ∷ m) ys zs h = ap₂ (λ x y. power x e *ℤ y) (sym (first ys) ∙ h 0 (omega arith) ∙ first zs) (mono_agree m (others ys) (others zs) (λ k l. rest ys k ∙ h (suc k) (omega arith) ∙ sym (rest zs k)))
  where
    first : (xs : List ℤ) → slice_index_or xs 0 (pos 0) ≡ front xs
    first [] = refl
    first (x ∷ xs) = refl

    rest : (xs : List ℤ) (k : ℕ) → slice_index_or (others xs) k (pos 0) ≡ slice_index_or xs (suc k) (pos 0)
    rest [] k = refl
    rest (x ∷ xs) k = refl

value_at : (vs : List Polynomial) (xs : List ℤ) (k : ℕ) (d : Polynomial) → k < length vs → slice_index_or (values vs xs) k (pos 0) ≡ value (slice_index_or vs k d).terms xs
value_at [] xs k d l = absurd (omega arith)
value_at (v ∷ vs) xs zero d l = refl
value_at (v ∷ vs) xs (suc k) d l = value_at vs xs k d (omega arith)

abbrev pub variables : ℕ → ℕ → List Polynomial
variables vars places = map (λ k. variable k places) (range_with_len 0 vars)

pub length-variables : (vars places : ℕ) → length (variables vars places) ≡ vars
length-variables vars places = length-map-range_with_len (λ k. variable k places) 0 vars

variable_there : (vars places k : ℕ) (xs : List ℤ) → vars ≤ places → k < vars → slice_index_or (values (variables vars places) xs) k (pos 0) ≡ slice_index_or xs k (pos 0)
variable_there vars places k xs h l =
    let a = length-variables vars places in
    value_at (variables vars places) xs k (constant (pos 0) 0) (omega arith)
    ∙ ap (λ (p : Polynomial). value p.terms xs) (get_or-map-range_with_len (λ k. variable k places) 0 vars k k (constant (pos 0) 0) l (omega arith))
    ∙ value-variable k places xs (omega arith)

unchanged_value : (m : Exponents) (places : ℕ) (xs : List ℤ) → length m ≤ places → mono_value m (values (variables (length m) places) xs) ≡ mono_value m xs
unchanged_value m places xs h = mono_agree m _ xs (λ k l. variable_there (length m) places k xs h l)

-- ---- with 0 for the locals
abbrev pub starting : ℕ → ℕ → List Polynomial
starting params more = variables params params ++ replicate more (constant (pos 0) params)

values-zeros : (n params : ℕ) (xs : List ℤ) → values (replicate n (constant (pos 0) params)) xs ≡ replicate n (pos 0)
values-zeros zero params xs = refl
values-zeros (suc n) params xs = ap (λ q. pos 0 ∷ q) (values-zeros n params xs)

index_left : (ys zs : List ℤ) (k : ℕ) → k < length ys → slice_index_or (ys ++ zs) k (pos 0) ≡ slice_index_or ys k (pos 0)
index_left [] zs k l = absurd (omega arith)
index_left (y ∷ ys) zs zero l = refl
index_left (y ∷ ys) zs (suc k) l = index_left ys zs k (omega arith)

index_zeros : (ys : List ℤ) (n k : ℕ) → length ys ≤ k → slice_index_or (ys ++ replicate n (pos 0)) k (pos 0) ≡ pos 0
index_zeros [] zero k l = refl
index_zeros [] (suc n) zero l = refl
index_zeros [] (suc n) (suc k) l = index_zeros [] n k (omega arith)
index_zeros (y ∷ ys) n zero l = absurd (omega arith)
index_zeros (y ∷ ys) n (suc k) l = index_zeros ys n k (omega arith)

index_past : (xs : List ℤ) (k : ℕ) → length xs ≤ k → slice_index_or xs k (pos 0) ≡ pos 0
index_past [] k l = refl
index_past (x ∷ xs) zero l = absurd (omega arith)
index_past (x ∷ xs) (suc k) l = index_past xs k (omega arith)

length-values : (vs : List Polynomial) (xs : List ℤ) → length (values vs xs) ≡ length vs
length-values [] xs = refl
length-values (v ∷ vs) xs = ap suc (length-values vs xs)

starting_value : (m : Exponents) (params more : ℕ) (xs : List ℤ) → length xs ≡ params → mono_value m (values (starting params more) xs) ≡ mono_value m xs
starting_value m params more xs e =
    ap (mono_value m) (values-++ (variables params params) (replicate more (constant (pos 0) params)) xs ∙ ap (λ q. values (variables params params) xs ++ q) (values-zeros more params xs))
    ∙ mono_agree m _ xs (λ k l. at_place k)
  where
    front_length : length (values (variables params params) xs) ≡ params
    front_length = length-values (variables params params) xs ∙ length-variables params params

    at_place : (k : ℕ) → slice_index_or (values (variables params params) xs ++ replicate more (pos 0)) k (pos 0) ≡ slice_index_or xs k (pos 0)
    at_place k = elim (cases_lt k params) [
      | inl l ↦ (let a = front_length in index_left _ _ k (omega arith) ∙ variable_there params params k xs (omega arith) l)
      | inr l ↦ (let a = front_length in index_zeros _ more k (omega arith) ∙ sym (index_past xs k (omega arith)))
    ]

-- ---- a polynomial of these values is the monomial as a duty has it
Canonical-one : (m : Exponents) → Canonical (itself m)
Canonical-one m = ((λ e. cc), tt, tt)

Canonical-inputs : (params : ℕ) (m : Exponents) → Canonical (at_inputs params m)
Canonical-inputs params m = by (list_all (eqb 0) (drop params m))
  where
    by : (b : Bool) → Canonical (when b (itself (take params m)))
    by true = Canonical-one (take params m)
    by false = tt

module _ (c : ℕ) (p : Polynomial) where
  unique : (n : ℕ) (q : TermList) → IsPart n c p → Canonical q → Places n q → ((xs : List ℤ) → length xs ≡ n → value p.terms xs ≡ value q xs) → p.terms ≡ q
  unique n q h k j v = values_unique n p.terms q h.kind.in_order k (subst (λ i. Places i p.terms) h.places h.kind.padded) j v

  pub is_before : (m : Exponents) (n : ℕ) → length m ≡ n → IsPart (n + 1) c p → ((xs : List ℤ) → value p.terms xs ≡ mono_value m (values (variables n (n + 1)) xs)) → p.terms ≡ before m
  is_before m n e h v = unique (n + 1) (before m) h (Canonical-one (m ++ 0 ∷ [])) (Places-before n m e)
      (λ xs l. v xs ∙ ap (λ i. mono_value m (values (variables i (n + 1)) xs)) (sym e) ∙ unchanged_value m (n + 1) xs (omega arith) ∙ sym (before_value m xs))

  pub is_itself : (m : Exponents) (n : ℕ) → length m ≡ n → IsPart n c p → ((xs : List ℤ) → value p.terms xs ≡ mono_value m (values (variables n n) xs)) → p.terms ≡ itself m
  is_itself m n e h v = unique n (itself m) h (Canonical-one m) (Places-itself n m e)
      (λ xs l. v xs ∙ ap (λ i. mono_value m (values (variables i n) xs)) (sym e) ∙ unchanged_value m n xs (omega arith) ∙ sym (itself_value m xs))

  pub is_behind : (n : ℕ) (e : Edge) (m : Exponents) → IsEdge n e → IsPart (n + 1) c p → ((xs : List ℤ) → value p.terms xs ≡ mono_value m (values e.update xs)) → p.terms ≡ behind n e m
  is_behind n e m w h v = unique (n + 1) (behind n e m) h (Canonical-composed (n + 1) (term m (pos 1) ∷ []) e.update) (Places-behind n e m w) (λ xs l. v xs ∙ sym (behind_value n e m xs))

  pub is_at_inputs : (m : Exponents) (params more : ℕ) → params ≤ length m → IsPart params c p → ((xs : List ℤ) → value p.terms xs ≡ mono_value m (values (starting params more) xs)) → p.terms ≡ at_inputs params m
  is_at_inputs m params more g h v = unique params (at_inputs params m) h (Canonical-inputs params m) (Places-inputs params m g)
      (λ xs l. v xs ∙ starting_value m params more xs l ∙ sym (inputs_value params m xs l))

-- ---- states are normal forms over their places
pub normal_variables : (vars places : ℕ) (us : List Polynomial) → us ≡ variables vars places → All (λ (u : Polynomial). IsNormalForm u.terms) us
normal_variables vars places us e = subst (All (λ (u : Polynomial). IsNormalForm u.terms)) (sym e) (by 0 vars)
  where
    one : (k n : ℕ) → IsNormalForm (variable_of k n)
    one k n = record { low = (let a = degree-unit_at n k in omega arith); fits = refl }

    by : (a n : ℕ) → All (λ (u : Polynomial). IsNormalForm u.terms) (map (λ k. variable k places) (range_with_len a n))
    by a zero i d l = absurd (omega arith)
    by a (suc n) zero d l = one a places
    by a (suc n) (suc i) d l = by (a + 1) n i d (omega arith)

pub places_variables : (vars places : ℕ) (us : List Polynomial) → us ≡ variables vars places → HavePlaces places us
places_variables vars places us e = subst (HavePlaces places) (sym e) (by 0 vars)
  where
    by : (a n : ℕ) → HavePlaces places (map (λ k. variable k places) (range_with_len a n))
    by a zero = tt
    by a (suc n) = (refl, by (a + 1) n)

all_joined : (P : Polynomial → Type 0) (us vs : List Polynomial) → All P us → All P vs → All P (us ++ vs)
all_joined P [] vs h g k d l = g k d l
all_joined P (u ∷ us) vs h g zero d l = h 0 d (omega arith)
all_joined P (u ∷ us) vs h g (suc k) d l = all_joined P us vs (λ i e m. h (suc i) e (omega arith)) g k d (omega arith)

places_joined : (n : ℕ) (us vs : List Polynomial) → HavePlaces n us → HavePlaces n vs → HavePlaces n (us ++ vs)
places_joined n [] vs h g = g
places_joined n (u ∷ us) vs h g = (h.0, places_joined n us vs h.1 g)

pub length-starting : (params more : ℕ) → length (starting params more) ≡ params + more
length-starting params more =
    length-append (variables params params) (replicate more (constant (pos 0) params)) ∙ ap₂ ◌+◌ (length-variables params params) (length-replicate more (constant (pos 0) params))

pub normal_starting : (params more : ℕ) (us : List Polynomial) → us ≡ starting params more → All (λ (u : Polynomial). IsNormalForm u.terms) us
normal_starting params more us e =
    subst (All (λ (u : Polynomial). IsNormalForm u.terms)) (sym e)
    (all_joined (λ u. IsNormalForm u.terms) (variables params params) (replicate more (constant (pos 0) params)) (normal_variables params params (variables params params) refl) (zeros more))
  where
    zeros : (n : ℕ) → All (λ (u : Polynomial). IsNormalForm u.terms) (replicate n (constant (pos 0) params))
    zeros zero k d l = absurd (omega arith)
    zeros (suc n) zero d l = record { low = omega arith; fits = refl }
    zeros (suc n) (suc k) d l = zeros n k d (omega arith)

pub places_starting : (params more : ℕ) (us : List Polynomial) → us ≡ starting params more → HavePlaces params us
places_starting params more us e =
    subst (HavePlaces params) (sym e) (places_joined params (variables params params) (replicate more (constant (pos 0) params)) (places_variables params params (variables params params) refl) (zeros more))
  where
    zeros : (n : ℕ) → HavePlaces params (replicate n (constant (pos 0) params))
    zeros zero = tt
    zeros (suc n) = (refl, zeros n)
