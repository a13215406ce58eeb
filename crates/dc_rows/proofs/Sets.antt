-- Rows one after another are rows without repeats.
use Rattle.std.proofs.Common.{◌≡◌, ◌∙◌, Bool, true, false, List, [], ◌∷◌, ◌++◌, not, cond, filter, refl, ap, sym, ◌||◌, ◌&&◌}
use Rattle.std.specs.List.{list_any}
use Rattle.std.proofs.lemmas.List.{append_assoc}
use Rattle.std.proofs.lemmas.List.Elements.{filter_agree}
use Rattle.std.proofs.lemmas.List.Folds.{list_any-append}
use Rattle.dc_rows.specs.Rows.{Row, same_row, with_row, with_rows, without_repeats}
use Rattle.dc_rows.proofs.Same.{same-Decides, same-sym}

pub with-++ : (out a b : List Row) → with_rows out (a ++ b) ≡ with_rows (with_rows out a) b
with-++ out [] b = refl
with-++ out (r ∷ a) b = with-++ (with_row out r) a b

-- ---- filters
filter-filter : (p q : Row → Bool) (rs : List Row) → filter p (filter q rs) ≡ filter (λ r. q r && p r) rs
filter-filter p q [] = refl
filter-filter p q (r ∷ rs) = by (q r) (filter-filter p q rs)
  where
    by : (b : Bool) → filter p (filter q rs) ≡ filter (λ r. q r && p r) rs
        → filter p (cond b (r ∷ filter q rs) (filter q rs)) ≡ cond (b && p r) (r ∷ filter (λ r. q r && p r) rs) (filter (λ r. q r && p r) rs)
    by true e = ap (λ t. cond (p r) (r ∷ t) t) e
    by false e = e

filter-all : (rs : List Row) → filter (λ r. true) rs ≡ rs
filter-all [] = refl
filter-all (r ∷ rs) = ap (λ t. r ∷ t) (filter-all rs)

-- ---- the rows that are new
abbrev is_new : List Row → Row → Bool
is_new out q = not (list_any (same_row q) out)

any-same : (q r : Row) (out : List Row) → q ≡ r → list_any (same_row q) out ≡ list_any (same_row r) out
any-same q r out e = ap (λ x. list_any (same_row x) out) e

-- where r is there, what is new is not r
new-there : (out : List Row) (r q : Row) → list_any (same_row r) out ≡ true → (not (same_row r q) && is_new out q) ≡ is_new out q
new-there out r q h = by (same_row r q) refl
  where
    by : (b : Bool) → same_row r q ≡ b → (not b && is_new out q) ≡ is_new out q
    by false e = refl
    by true e = sym (ap not (any-same q r out (sym ((same-Decides r q).0 e)) ∙ h))

-- behind r, what is new is not r and was new
new-behind : (out : List Row) (r q : Row) → is_new (out ++ r ∷ []) q ≡ (not (same_row r q) && is_new out q)
new-behind out r q =
    ap not (list_any-append (same_row q) out (r ∷ []) ∙ ap (λ b. list_any (same_row q) out || (b || false)) (same-sym q r)) ∙ by (list_any (same_row q) out) (same_row r q)
  where
    by : (a b : Bool) → not (a || (b || false)) ≡ (not b && not a)
    by true true = refl
    by true false = refl
    by false true = refl
    by false false = refl

pub with-new : (rs out : List Row) → with_rows out rs ≡ out ++ filter (is_new out) (without_repeats rs)
with-new [] out = nil out
  where
    nil : (xs : List Row) → xs ≡ xs ++ []
    nil [] = refl
    nil (x ∷ xs) = ap (λ t. x ∷ t) (nil xs)
with-new (r ∷ rs) out = by (list_any (same_row r) out) refl (with-new rs out) (with-new rs (out ++ r ∷ []))
  where
    by : (b : Bool) → list_any (same_row r) out ≡ b
        → with_rows out rs ≡ out ++ filter (is_new out) (without_repeats rs)
        → with_rows (out ++ r ∷ []) rs ≡ (out ++ r ∷ []) ++ filter (is_new (out ++ r ∷ [])) (without_repeats rs)
        → with_rows (cond b out (out ++ r ∷ [])) rs ≡ out ++ cond (not b) (r ∷ filter (is_new out) (filter (λ q. not (same_row r q)) (without_repeats rs))) (filter (is_new out) (filter (λ q. not (same_row r q)) (without_repeats rs)))
    by true h i j =
        i
        ∙ ap (λ t. out ++ t)
        (sym (filter-filter (is_new out) (λ q. not (same_row r q)) (without_repeats rs) ∙ filter_agree (λ q. not (same_row r q) && is_new out q) (is_new out) (λ q. new-there out r q h) (without_repeats rs)))
    by false h i j =
        j ∙ append_assoc out (r ∷ []) (filter (is_new (out ++ r ∷ [])) (without_repeats rs))
        ∙ ap (λ t. out ++ r ∷ t)
        (filter_agree (is_new (out ++ r ∷ [])) (λ q. not (same_row r q) && is_new out q) (new-behind out r) (without_repeats rs) ∙ sym (filter-filter (is_new out) (λ q. not (same_row r q)) (without_repeats rs)))

pub with-none : (rs : List Row) → with_rows [] rs ≡ without_repeats rs
with-none rs = with-new rs [] ∙ filter-all (without_repeats rs)
