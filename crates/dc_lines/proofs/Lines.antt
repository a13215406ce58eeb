-- Texts that are written line by line.
use Rattle.std.specs.Prelude.{◌≡◌, ℕ, suc, ◌+◌, ◌<◌, ◌≤◌, List, [], ◌∷◌, ◌++◌, map, length, refl}
use Rattle.std.proofs.Common.{sym, ◌∙◌, ap, arith, append_assoc, get_or, drop, drop-cons}
use Rattle.std.proofs.lemmas.List.{append-nil, drop_all}
use Rattle.dc_lines.specs.Bytes.{Bytes, ended}

pub ended-append : (xs ys : List Bytes) → ended (xs ++ ys) ≡ ended xs ++ ended ys
ended-append [] ys = refl
ended-append (x ∷ xs) ys = ap (λ l. x ++ 10 ∷ l) (ended-append xs ys) ∙ sym (append_assoc x (10 ∷ ended xs) (ended ys))

-- two pieces after one another
pub joined : (o p q : Bytes) (xs ys : List Bytes) → p ≡ o ++ ended xs → q ≡ p ++ ended ys → q ≡ o ++ ended (xs ++ ys)
joined o p q xs ys e f = f ∙ ap (λ l. l ++ ended ys) e ∙ append_assoc o (ended xs) (ended ys) ∙ ap (λ l. o ++ l) (sym (ended-append xs ys))

-- one line more of a list that is written
pub line_step : {A : Type 0} (f : A → Bytes) (xs : List A) (i : ℕ) (x : A) (o p w : Bytes) → i < length xs → x ≡ get_or xs i x → p ≡ o ++ ended (f x ∷ []) → o ++ ended (map f (drop i xs)) ≡ w → p ++ ended (map f (drop (i + 1) xs)) ≡ w
line_step f xs i x o p w h e d g =
    ap (λ l. l ++ ended (map f (drop (i + 1) xs))) d ∙ append_assoc o (ended (f x ∷ [])) (ended (map f (drop (i + 1) xs)))
    ∙ ap (λ l. o ++ l) (append_assoc (f x) (10 ∷ []) (ended (map f (drop (i + 1) xs))) ∙ ap (λ j. ended (f x ∷ map f (drop j xs))) (let y : i + 1 ≡ suc i = omega arith in y) ∙ ap (λ y. ended (f y ∷ map f (drop (suc i) xs))) e ∙ ap (λ l. ended (map f l)) (sym (drop-cons xs i x h)))
    ∙ g

pub line_end : {A : Type 0} (f : A → Bytes) (xs : List A) (i : ℕ) (o w : Bytes) → length xs ≤ i → o ++ ended (map f (drop i xs)) ≡ w → o ≡ w
line_end f xs i o w h g = sym (append-nil o) ∙ ap (λ l. o ++ ended (map f l)) (sym (drop_all i xs h)) ∙ g

pub joined₃ : (o p q r : Bytes) (xs ys zs : List Bytes) → p ≡ o ++ ended xs → q ≡ p ++ ended ys → r ≡ q ++ ended zs → r ≡ o ++ ended (xs ++ (ys ++ zs))
joined₃ o p q r xs ys zs e f g = joined o p r xs (ys ++ zs) e (joined p q r ys zs f g)

pub joined₄ : (o p q r s : Bytes) (xs ys zs ws : List Bytes) → p ≡ o ++ ended xs → q ≡ p ++ ended ys → r ≡ q ++ ended zs → s ≡ r ++ ended ws → s ≡ o ++ ended (xs ++ (ys ++ (zs ++ ws)))
joined₄ o p q r s xs ys zs ws e f g h = joined o p s xs (ys ++ (zs ++ ws)) e (joined₃ p q r s ys zs ws f g h)

pub joined₅ : (o p q r s t : Bytes) (xs ys zs ws vs : List Bytes) → p ≡ o ++ ended xs → q ≡ p ++ ended ys → r ≡ q ++ ended zs → s ≡ r ++ ended ws → t ≡ s ++ ended vs → t ≡ o ++ ended (xs ++ (ys ++ (zs ++ (ws ++ vs))))
joined₅ o p q r s t xs ys zs ws vs e f g h i = joined o p t xs (ys ++ (zs ++ (ws ++ vs))) e (joined₄ p q r s t ys zs ws vs f g h i)

pub ruleset writing = (joined)
