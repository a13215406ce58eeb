-- The search for the one item that passes a test.
use Rattle.std.specs.Prelude.{◌≡◌, ℕ, zero, suc, ◌+◌, ◌≤◌, ◌<◌, Bool, true, false, cond, List, [], ◌∷◌, ◌++◌, take, drop, filter, length, get_or, Some, None, refl}
use Rattle.std.specs.declared.option.Option.{Option}
use Rattle.std.specs.Option.{is_some}
use Rattle.std.proofs.Common.{sym, ◌∙◌, ap, ap₂, arith, take_all}
use Rattle.std.proofs.lemmas.List.{take_more, take-append-drop}
use Rattle.dc_system.specs.declared.edges.Edge.{Edge}
use Rattle.dc_system.specs.Spots.{IsOnly}

abbrev Test : Type 0
Test = Edge → Bool

filter-++ : (p : Test) (a b : List Edge) → filter p (a ++ b) ≡ filter p a ++ filter p b
filter-++ p [] b = refl
filter-++ p (e ∷ a) b = by (p e) (filter-++ p a b)
  where
    by : (t : Bool) → filter p (a ++ b) ≡ filter p a ++ filter p b → cond t (e ∷ filter p (a ++ b)) (filter p (a ++ b)) ≡ cond t (e ∷ filter p a) (filter p a) ++ filter p b
    by true r = ap (λ z. e ∷ z) r
    by false r = r

pub same_get : {A : Type 0} (es : List A) (k : ℕ) (d e : A) → k < length es → get_or es k d ≡ get_or es k e
same_get [] k d e h = absurd (omega arith)
same_get (x ∷ es) zero d e h = refl
same_get (x ∷ es) (suc k) d e h = same_get es k d e (omega arith)

next : (p : Test) (es : List Edge) (k : ℕ) (d : Edge) → k < length es → filter p (take (k + 1) es) ≡ filter p (take k es) ++ cond (p (get_or es k d)) (get_or es k d ∷ []) []
next p es k d h = ap (filter p) (take_more es k d h) ∙ filter-++ p (take k es) (get_or es k d ∷ [])

-- what was found among the first k items
abbrev pub Found : Test → List Edge → ℕ → Option ℕ → Type 0
Found p es k None = filter p (take k es) ≡ []
Found p es k (Some i) = (i < length es) × ((d : Edge) → filter p (take k es) ≡ get_or es i d ∷ [])

pub found_skip : (p : Test) (es : List Edge) (k : ℕ) (o : Option ℕ) (e : Edge) → k < length es → e ≡ get_or es k e → p e ≡ false → Found p es k o → Found p es (k + 1) o
found_skip p es k None e h q f w = next p es k e h ∙ ap₂ (λ a t. a ++ cond t (get_or es k e ∷ []) []) w (ap p (sym q) ∙ f)
found_skip p es k (Some i) e h q f w = (w.0, λ d. next p es k e h ∙ ap₂ (λ a t. a ++ cond t (get_or es k e ∷ []) []) (w.1 d) (ap p (sym q) ∙ f))

pub found_new : (p : Test) (es : List Edge) (k : ℕ) (o : Option ℕ) (e : Edge) → k < length es → e ≡ get_or es k e → p e ≡ true → o ≡ None → Found p es k o → Found p es (k + 1) (Some k)
found_new p es k None e h q f n w = (h, λ d. next p es k d h ∙ ap₂ (λ a t. a ++ cond t (get_or es k d ∷ []) []) w (ap p (same_get es k d e h ∙ sym q) ∙ f))
found_new p es k (Some i) e h q f n w = cc

pub found_two : (p : Test) (es : List Edge) (k : ℕ) (o : Option ℕ) (e : Edge) → k < length es → e ≡ get_or es k e → p e ≡ true → is_some o ≡ true → Found p es k o → (f : Edge) → ¬ (filter p es ≡ f ∷ [])
found_two p es k None e h q t n w f g = cc
found_two p es k (Some j) e h q t n w f g =
    let a : filter p es ≡ filter p (take (k + 1) es) ++ filter p (drop (k + 1) es) = ap (filter p) (sym (take-append-drop (k + 1) es)) ∙ filter-++ p (take (k + 1) es) (drop (k + 1) es) in
    let b : filter p (take (k + 1) es) ≡ get_or es j e ∷ get_or es k e ∷ [] = next p es k e h ∙ ap₂ (λ x y. x ++ cond y (get_or es k e ∷ []) []) (w.1 e) (ap p (sym q) ∙ t) in
    let c : get_or es j e ∷ get_or es k e ∷ filter p (drop (k + 1) es) ≡ f ∷ [] = sym (a ∙ ap (λ x. x ++ filter p (drop (k + 1) es)) b) ∙ g in
    cc

pub found_all : (p : Test) (es : List Edge) (k : ℕ) (o : Option ℕ) → length es ≤ k → Found p es k o → IsOnly (filter p es) es o
found_all p es k None h w = λ e q. let a : [] ≡ e ∷ [] = sym w ∙ ap (filter p) (take_all k es h) ∙ q in cc
found_all p es k (Some i) h w = (w.0, λ d. ap (filter p) (sym (take_all k es h)) ∙ w.1 d)

pub ruleset onlies = (found_skip, found_new, found_two, found_all)
