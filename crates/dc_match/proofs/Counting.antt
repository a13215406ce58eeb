-- How many columns and equations there are.
use Rattle.std.specs.Prelude.{◌≡◌, ℕ, zero, suc, ◌+◌, ◌*◌, ◌<◌, ◌≤◌, Bool, true, false, if◌then◌else◌, List, [], ◌∷◌, ◌++◌, flat_map, length, map, take, slice_index_or, All, sum_by, Some, None, ltb}
use Rattle.std.specs.List.{AllByRecursion, range_with_len}
use Rattle.std.proofs.Common.{refl, sym, ◌∙◌, ap, ap₂, arith, length-append}
use Rattle.std.proofs.lemmas.Bool.{lt-ltb, le-ltb}
use Rattle.std.proofs.lemmas.List.{length-map, take_more}
use Rattle.std.proofs.lemmas.List.Sums.{sum_by-cons, sum_by_push}
use Rattle.std.proofs.lemmas.List.FromFn.{length-range_with_len, length-map-range_with_len}
use Rattle.std.proofs.lemmas.Grind.{flat_map-append}
use Rattle.dc_coefficients.proofs.Lists.{flat_map_one}
use Rattle.dc_math.specs.Members.{each-++}
use Rattle.dc_syntax.specs.declared.tree.Side.{Side}
use Rattle.dc_syntax.specs.declared.tree.Side.TheVariants.{New, Old}
use Rattle.dc_syntax.specs.declared.tree.Count.TheVariants as count
use Rattle.dc_handelman.specs.Choices.{choices_of}
use Rattle.dc_handelman.specs.Products.{product_at}
use Rattle.dc_handelman.proofs.Counts.{count_small}
use Rattle.dc_claims.specs.declared.duty.Duty.{Duty}
use Rattle.dc_claims.specs.declared.duty.Duty.TheVariants.{Along, AtEntry}
use Rattle.dc_claims.specs.declared.duty.Unknown.{Unknown}
use Rattle.dc_claims.specs.declared.duty.Unknown.TheVariants.{Coefficient}
use Rattle.dc_claims.specs.Duties.{Pair, Flags, system_of, numbers_set, duties_along, duty_at_exit, duties_at_entry, duties_of, IsThere, atoms_of, places_of}
use Rattle.dc_claims.specs.Claims.{monomials_at, products_count}
use Rattle.dc_claims.specs.Parts.{unknowns_at, unknowns_on, unknowns_of}
use Rattle.dc_claims.specs.Plans.{IsPair, HasFlags}
use Rattle.dc_claims.specs.Problems.{Times, both_signs, equation, equations_at, products_at, multipliers_at, columns_of, equations_of}
use Rattle.dc_duties.specs.declared.plan.Programs.{Programs}
use Rattle.dc_duties.specs.Lent.{lent}
use Rattle.dc_duties.proofs.Sides.{few_duty_atoms}
use Rattle.dc_table.specs.Tables.{equations_in, monos_at}
use Rattle.dc_match.specs.declared.fault.MatchFault.TheVariants.{TooLarge}
use Rattle.dc_match.specs.Answers.{size_fault}

-- ---- unknowns
length_flat : {A : Type 0} (f : ℕ → List A) (n : ℕ) (ls : List ℕ) → ((l : ℕ) → length (f l) ≡ n) → length (flat_map f ls) ≡ length ls * n
length_flat f n [] h = omega arith
length_flat f n (l ∷ ls) h = length-append (f l) (flat_map f ls) ∙ (let a = h l in let b = length_flat f n ls h in omega arith)

pub unknown_count : (p : Pair) (d : ℕ) (side : Side) → length (unknowns_on p d side) ≡ (system_of p side).locs * length (monomials_at p d side)
unknown_count p d side =
    length_flat (unknowns_at p d side) (length (monomials_at p d side)) (range_with_len 0 (system_of p side).locs) (λ l. length-map-range_with_len (Coefficient side l) 0 (length (monomials_at p d side)))
    ∙ ap (λ n. n * length (monomials_at p d side)) (length-range_with_len 0 (system_of p side).locs)

length_both : (us : List Unknown) → length (flat_map both_signs us) ≡ 2 * length us
length_both [] = refl
length_both (u ∷ us) = let a = length_both us in omega arith

pub both_count : (p : Pair) (d : ℕ) → length (flat_map both_signs (unknowns_of p d)) ≡ 2 * length (unknowns_of p d)
both_count p d = length_both (unknowns_of p d)

-- ---- multipliers
length_multipliers : (p : Pair) (k : ℕ) (o : Duty) → length (multipliers_at p k o) ≡ products_count p k o
length_multipliers p k o =
    length-map-range_with_len (Times o) 0 (length (products_at p k o)) ∙ length-map (choices_of (length (atoms_of p o)) k) (product_at (places_of p o) (atoms_of p o))

length_all : (p : Pair) (k : ℕ) (os : List Duty) → length (flat_map (multipliers_at p k) os) ≡ sum_by (products_count p k) os
length_all p k [] = refl
length_all p k (o ∷ os) =
    length-append (multipliers_at p k o) (flat_map (multipliers_at p k) os) ∙ ap₂ ◌+◌ (length_multipliers p k o) (length_all p k os) ∙ sym (sum_by-cons (products_count p k) o os)

pub columns_counted : (p : Pair) (d k : ℕ) (f : Flags) → length (columns_of p d k f) ≡ 2 * length (unknowns_of p d) + sum_by (products_count p k) (duties_of f)
columns_counted p d k f = length-append (flat_map both_signs (unknowns_of p d)) (flat_map (multipliers_at p k) (duties_of f)) ∙ ap₂ ◌+◌ (both_count p d) (length_all p k (duties_of f))

-- each is at most the sum
pub below_sum : (g : Duty → ℕ) (os : List Duty) (n : ℕ) → sum_by g os ≤ n → All (λ o. g o ≤ n) os
below_sum g [] n h k d l = absurd (omega arith)
below_sum g (o ∷ os) n h zero d l = (let e = sum_by-cons g o os in omega arith)
below_sum g (o ∷ os) n h (suc k) d l = below_sum g os n (let e = sum_by-cons g o os in omega arith) k d (omega arith)

-- ---- the duties by flags are there, and few
numbers_below : (P : ℕ → Type 0) (g : ℕ → Duty) (Q : Duty → Type 0) (k : ℕ) (bs : List Bool) → ((i : ℕ) → i < k + length bs → Q (g i)) → AllByRecursion Q (map g (numbers_set k bs))
numbers_below P g Q k [] h = tt
numbers_below P g Q k (true ∷ bs) h = (h k (omega arith), numbers_below P g Q (suc k) bs (λ i l. h i (omega arith)))
numbers_below P g Q k (false ∷ bs) h = numbers_below P g Q (suc k) bs (λ i l. h i (omega arith))

numbers_few : (k : ℕ) (bs : List Bool) → length (numbers_set k bs) ≤ length bs
numbers_few k [] = omega arith
numbers_few k (true ∷ bs) = let a = numbers_few (suc k) bs in omega arith
numbers_few k (false ∷ bs) = let a = numbers_few (suc k) bs in omega arith

exit_there : (p : Pair) (side : Side) (b : Bool) → AllByRecursion (IsThere p) (duty_at_exit side b)
exit_there p side true = (tt, tt)
exit_there p side false = tt

exit_few : (side : Side) (b : Bool) → length (duty_at_exit side b) ≤ 1
exit_few side true = omega arith
exit_few side false = omega arith

along_there : (p : Pair) (side : Side) (bs : List Bool) → length bs ≡ length (system_of p side).edges → AllByRecursion (IsThere p) (duties_along side bs)
along_there p side bs e = numbers_below (λ i. Unit {0}) (Along side) (IsThere p) 0 bs (λ i l. omega arith)

pub all_of_recursion : {A : Type 0} (P : A → Type 0) (xs : List A) → AllByRecursion P xs → All P xs
all_of_recursion P [] h k d l = absurd (omega arith)
all_of_recursion P (x ∷ xs) h zero d l = h.0
all_of_recursion P (x ∷ xs) h (suc k) d l = all_of_recursion P xs h.1 k d (omega arith)

pub duties_there : (p : Pair) (f : Flags) → HasFlags p f → All (IsThere p) (duties_of f)
duties_there p f h =
    all_of_recursion (IsThere p) (duties_of f)
    (each-++ (IsThere p) (duties_along New f.new_edges) _ (along_there p New f.new_edges h.new)
    (each-++ (IsThere p) (duty_at_exit New f.new_exit) _ (exit_there p New f.new_exit)
    (each-++ (IsThere p) (duties_along Old f.old_edges) _ (along_there p Old f.old_edges h.old)
    (each-++ (IsThere p) (duty_at_exit Old f.old_exit) _ (exit_there p Old f.old_exit) (numbers_below (λ i. Unit {0}) AtEntry (IsThere p) 0 f.cases (λ i l. (let e = h.cases in omega arith)))))))

pub duties_few : (p : Pair) (f : Flags) → IsPair p → HasFlags p f → length (duties_of f) ≤ 2048
duties_few p f pair h =
    let a = length-append (duties_along New f.new_edges) (duty_at_exit New f.new_exit ++ (duties_along Old f.old_edges ++ (duty_at_exit Old f.old_exit ++ duties_at_entry f.cases))) in
    let b = length-append (duty_at_exit New f.new_exit) (duties_along Old f.old_edges ++ (duty_at_exit Old f.old_exit ++ duties_at_entry f.cases)) in
    let c = length-append (duties_along Old f.old_edges) (duty_at_exit Old f.old_exit ++ duties_at_entry f.cases) in
    let d = length-append (duty_at_exit Old f.old_exit) (duties_at_entry f.cases) in
    let i = length-map (numbers_set 0 f.new_edges) (Along New) in let j = numbers_few 0 f.new_edges in
    let k = length-map (numbers_set 0 f.old_edges) (Along Old) in let l = numbers_few 0 f.old_edges in
    let m = length-map (numbers_set 0 f.cases) AtEntry in let n = numbers_few 0 f.cases in
    let x = exit_few New f.new_exit in let y = exit_few Old f.old_exit in
    let r = pair.new.system.few_edges in let s = pair.old.system.few_edges in let t = pair.cases.few in
    let u = h.new in let v = h.old in let w = h.cases in
    omega arith

-- ---- the first limit that is passed
module _ (p : Pair) (d k : ℕ) (f : Flags) where
  pub columns_fault : 8192 < length (columns_of p d k f) → size_fault p d k f ≡ Some (TooLarge count.Columns (length (columns_of p d k f)))
  columns_fault h = ap (λ b. if b then Some (TooLarge count.Columns (length (columns_of p d k f))) else (if ltb 2048 (length (equations_of p d k f)) then Some (TooLarge count.Equations (length (equations_of p d k f))) else None)) (lt-ltb 8192 (length (columns_of p d k f)) h)

  pub equations_fault : length (columns_of p d k f) ≤ 8192 → 2048 < length (equations_of p d k f) → size_fault p d k f ≡ Some (TooLarge count.Equations (length (equations_of p d k f)))
  equations_fault h g =
      ap₂ (λ a b. if a then Some (TooLarge count.Columns (length (columns_of p d k f))) else (if b then Some (TooLarge count.Equations (length (equations_of p d k f))) else None)) (le-ltb 8192 (length (columns_of p d k f)) h) (lt-ltb 2048 (length (equations_of p d k f)) g)

  pub no_fault : length (columns_of p d k f) ≤ 8192 → length (equations_of p d k f) ≤ 2048 → size_fault p d k f ≡ None
  no_fault h g =
      ap₂ (λ a b. if a then Some (TooLarge count.Columns (length (columns_of p d k f))) else (if b then Some (TooLarge count.Equations (length (equations_of p d k f))) else None)) (le-ltb 8192 (length (columns_of p d k f)) h) (le-ltb 2048 (length (equations_of p d k f)) g)

-- ---- duty by duty
split_at : {A : Type 0} (xs : List A) (i : ℕ) → (ys : List A) × (xs ≡ take i xs ++ ys)
split_at [] zero = ([], refl)
split_at [] (suc i) = ([], refl)
split_at (x ∷ xs) zero = (x ∷ xs, refl)
split_at (x ∷ xs) (suc i) = let r = split_at xs i in (r.0, ap (λ q. x ∷ q) r.1)

sum_more : (g : Duty → ℕ) (os : List Duty) (o : Duty) → sum_by g (os ++ o ∷ []) ≡ sum_by g os + g o
sum_more g os o = sum_by_push g os o

pub sum_there : (g : Duty → ℕ) (os : List Duty) (i : ℕ) (d : Duty) → i < length os → sum_by g (take (i + 1) os) ≡ sum_by g (take i os) + g (slice_index_or os i d)
sum_there g os i d l = ap (sum_by g) (take_more os i d l) ∙ sum_more g (take i os) (slice_index_or os i d)

-- a duty has few products
pub product_count_small : (p : Programs) → IsPair (lent p) → (k : ℕ) (o : Duty) (n : ℕ) → IsThere (lent p) o → k ≤ 3 → n ≡ products_count (lent p) k o → n ≤ 8627738651
product_count_small p pair k o n there few e = let a = count_small (length (atoms_of (lent p) o)) k (few_duty_atoms p pair o there) few in omega arith

module _ (p : Pair) (d k : ℕ) where
  one_more : (os : List Duty) (o : Duty) → length (equations_in p d k (os ++ o ∷ [])) ≡ length (equations_in p d k os) + length (monos_at p d k o)
  one_more os o =
      ap length (flat_map_one (equations_at p d k) os o) ∙ length-append (equations_in p d k os) (equations_at p d k o)
      ∙ ap (λ n. length (equations_in p d k os) + n) (length-map (monos_at p d k o) (equation o))

  pub equations_there : (os : List Duty) (i : ℕ) (e : Duty) → i < length os
      → length (equations_in p d k (take (i + 1) os)) ≡ length (equations_in p d k (take i os)) + length (monos_at p d k (slice_index_or os i e))
  equations_there os i e l = ap (λ q. length (equations_in p d k q)) (take_more os i e l) ∙ one_more (take i os) (slice_index_or os i e)

  -- those of some of the duties are no more than those of all
  pub equations_within : (os : List Duty) (i : ℕ) → length (equations_in p d k (take i os)) ≤ length (equations_in p d k os)
  equations_within os i =
      let r = split_at os i in
      let a = ap (λ q. length (equations_in p d k q)) r.1 in
      let b = ap length (flat_map-append (equations_at p d k) (take i os) r.0) in
      let e = length-append (equations_in p d k (take i os)) (equations_in p d k r.0) in
      omega arith
