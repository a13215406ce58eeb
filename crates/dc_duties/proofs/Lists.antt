-- Lists that are built one by one.
use Rattle.std.specs.Prelude.{◌≡◌, ℕ, zero, suc, ◌+◌, ◌<◌, ◌≤◌, Bool, true, false, if◌then◌else◌, List, [], ◌∷◌, ◌++◌, map, flat_map, length, replicate, take, ◌-◌, slice_index_or}
use Rattle.std.specs.List.{range_with_len}
use Rattle.std.proofs.Common.{refl, sym, ◌∙◌, ap, arith}
use Rattle.dc_syntax.specs.declared.tree.Side.{Side}
use Rattle.std.proofs.lemmas.List.{get_or_default, append_assoc, append-nil, map-append, length-take-le, replicate_more}
use Rattle.std.proofs.lemmas.List.FromFn.{map-range_with_len_more}
use Rattle.dc_coefficients.proofs.Lists.{take_there, flat_map_one}
use Rattle.dc_claims.specs.declared.duty.Duty.{Duty}
use Rattle.dc_claims.specs.declared.duty.Duty.TheVariants.{Along, AtEntry}
use Rattle.dc_claims.specs.Duties.{numbers_set, duties_along, duties_at_entry}

-- ---- ranges
pub range_more : (a n : ℕ) → range_with_len a (n + 1) ≡ range_with_len a n ++ (a + n) ∷ []
range_more a zero = ap (λ i. i ∷ []) (let e : a ≡ a + 0 = omega arith in e)
range_more a (suc n) = ap (range_with_len a) (let e : suc n + 1 ≡ suc (n + 1) = omega arith in e) ∙ ap (λ q. a ∷ q) (range_more (a + 1) n ∙ ap (λ i. range_with_len (a + 1) n ++ i ∷ []) (let e : (a + 1) + n ≡ a + suc n = omega arith in e))

pub map_range_more : {A : Type 0} (f : ℕ → A) (n : ℕ) → map f (range_with_len 0 (n + 1)) ≡ map f (range_with_len 0 n) ++ f n ∷ []
map_range_more f n = map-range_with_len_more f 0 n n (omega arith)

pub flat_range_more : {A : Type 0} (f : ℕ → List A) (n : ℕ) → flat_map f (range_with_len 0 (n + 1)) ≡ flat_map f (range_with_len 0 n) ++ f n
flat_range_more f n = ap (flat_map f) (range_more 0 n) ∙ flat_map_one f (range_with_len 0 n) (0 + n) ∙ ap (λ i. flat_map f (range_with_len 0 n) ++ f i) (let e : 0 + n ≡ n = omega arith in e)

-- ---- the numbers of flags that are set
numbers_set-++ : (k : ℕ) (bs cs : List Bool) → numbers_set k (bs ++ cs) ≡ numbers_set k bs ++ numbers_set (k + length bs) cs
numbers_set-++ k [] cs = ap (λ i. numbers_set i cs) (let e : k ≡ k + 0 = omega arith in e)
numbers_set-++ k (b ∷ bs) cs =
    ap (λ q. (if b then k ∷ [] else []) ++ q) (numbers_set-++ (suc k) bs cs ∙ ap (λ i. numbers_set (suc k) bs ++ numbers_set i cs) (let e : suc k + length bs ≡ k + length (b ∷ bs) = omega arith in e))
    ∙ sym (append_assoc (if b then k ∷ [] else []) (numbers_set (suc k) bs) (numbers_set (k + length (b ∷ bs)) cs))

flag_more : (flags : List Bool) (i : ℕ) (b : Bool) → i < length flags → b ≡ slice_index_or flags i b → numbers_set 0 (take (i + 1) flags) ≡ numbers_set 0 (take i flags) ++ (if b then i ∷ [] else [])
flag_more flags i b l e =
    ap (numbers_set 0) (take_there flags i b l e) ∙ numbers_set-++ 0 (take i flags) (b ∷ [])
    ∙ ap (λ q. numbers_set 0 (take i flags) ++ q) (append-nil (if b then (0 + length (take i flags)) ∷ [] else []) ∙ ap (λ n. if b then n ∷ [] else []) (let a = length-take-le i flags (omega arith) in let g : 0 + length (take i flags) ≡ i = omega arith in g))

module _ (g : ℕ → Duty) (flags : List Bool) (i : ℕ) (l : i < length flags) where
  pub duty_set : slice_index_or flags i false ≡ true → map g (numbers_set 0 (take (i + 1) flags)) ≡ map g (numbers_set 0 (take i flags)) ++ g i ∷ []
  duty_set e = ap (map g) (flag_more flags i true l (sym e ∙ get_or_default flags i false true l)) ∙ map-append g (numbers_set 0 (take i flags)) (i ∷ [])

  pub duty_unset : slice_index_or flags i false ≡ false → map g (numbers_set 0 (take (i + 1) flags)) ≡ map g (numbers_set 0 (take i flags))
  duty_unset e = ap (map g) (flag_more flags i false l (sym e)) ∙ ap (map g) (append-nil (numbers_set 0 (take i flags)))

-- ---- repetitions
pub zeros_more : {A : Type 0} (i a : ℕ) (x : A) → a ≤ i → replicate (i + 1 - a) x ≡ replicate (i - a) x ++ x ∷ []
zeros_more i a x l = ap (λ k. replicate k x) (let e : i + 1 - a ≡ (i - a) + 1 = omega arith in e) ∙ sym (replicate_more (i - a) x)
