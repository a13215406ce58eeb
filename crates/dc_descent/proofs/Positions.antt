-- The place of a name in a list.
use Rattle.std.proofs.Common.{◌≡◌, ℕ, zero, suc, ◌+◌, ◌<◌, ◌≤◌, Bool, true, false, cond, List, [], ◌∷◌, length, get_or, refl, sym, ap, ◌∙◌, subst, arith, Some, None, nat_lt, map}
use Rattle.std.specs.declared.option.Option.{Option}
use Rattle.std.specs.Str.{bytes_eq}
use Rattle.std.specs.String.{string_bytes}
use Rattle.std.specs.declared.string.String.{String}
use Rattle.std.specs.declared.alloc.Global.{Global}
use Rattle.std.proofs.lemmas.Bool.Decides.{nat_tests}
use Rattle.std.proofs.lemmas.List.Sums.{position_or_len_is}
use Rattle.dc_syntax.specs.Names.{place_of}

-- no name before this place has the bytes
abbrev pub NoneBefore : List (List ℕ) → List ℕ → ℕ → Type 0
NoneBefore names name i = (k : ℕ) → k < i → bytes_eq name (get_or names k []) ≡ false

pub none_before_first : (names : List (List ℕ)) (name : List ℕ) → NoneBefore names name 0
none_before_first names name k l = absurd (omega arith)

pub none_before_next : (names : List (List ℕ)) (name : List ℕ) (i : ℕ) → NoneBefore names name i → bytes_eq name (get_or names i []) ≡ false → NoneBefore names name (i + 1)
none_before_next names name i h e k l = go (nat_lt k i) refl
  where
    below : nat_lt k i ≡ true → k < i
    below h = grind (arith, nat_tests)

    same : nat_lt k i ≡ false → k ≡ i
    same h = grind (arith, nat_tests)

    go : (b : Bool) → nat_lt k i ≡ b → bytes_eq name (get_or names k []) ≡ false
    go true g = h k (below g)
    go false g = subst (λ j. bytes_eq name (get_or names j []) ≡ false) (sym (same g)) e

at_place : (n i : ℕ) (k : ℕ) → k ≡ i → i < n → cond (nat_lt k n) (Some k) None ≡ Some i
at_place n i k e l = rw e (ap (λ b. cond b (Some i) None) yes)
  where
    yes : nat_lt i n ≡ true
    yes = grind (arith, nat_tests)

at_end : (n : ℕ) (k : ℕ) → k ≡ n → ◌≡◌ {A = Option ℕ} (cond (nat_lt k n) (Some k) None) None
at_end n k e = rw e (ap (λ b. cond b (Some n) None) no)
  where
    no : nat_lt n n ≡ false
    no = grind (arith, nat_tests)

pub found : (names : List (List ℕ)) (name : List ℕ) (i : ℕ) → i < length names → NoneBefore names name i → bytes_eq name (get_or names i []) ≡ true → Some i ≡ place_of names name
found names name i l h e = sym (at_place (length names) i _ (position_or_len_is (bytes_eq name) names i [] (omega arith) h (λ g. e)) l)

pub not_found : (names : List (List ℕ)) (name : List ℕ) (i : ℕ) → length names ≤ i → i ≤ length names → NoneBefore names name i → None ≡ place_of names name
not_found names name i l m h = sym (at_end (length names) _ (position_or_len_is (bytes_eq name) names i [] m h (λ g. absurd (omega arith)) ∙ omega arith))

-- the bytes of the text at an index
pub bytes_at : (ks : List (String Global)) (i : ℕ) (s : String Global) (v : List ℕ) → i < length ks → s ≡ get_or ks i s → v ≡ string_bytes s → v ≡ get_or (map string_bytes ks) i []
bytes_at [] i s v l e f = absurd (omega arith)
bytes_at (k ∷ ks) zero s v l e f = f ∙ ap string_bytes e
bytes_at (k ∷ ks) (suc i) s v l e f = bytes_at ks i s v (omega arith) e f
