-- The loops that put rows one after another.
use Rattle.std.proofs.Common.{◌≡◌, ◌∙◌, ℕ, suc, ◌+◌, ◌-◌, ◌<◌, ◌≤◌, List, [], ◌∷◌, ◌++◌, length, get_or, drop, map, filter, ap, sym, arith, flat_map}
use Rattle.std.specs.List.{range_with_len}
use Rattle.std.proofs.lemmas.List.{drop_more, drop_all, map-append}
use Rattle.std.proofs.lemmas.List.Elements.{filter-append}
use Rattle.dc_affine.specs.declared.atom.Atom.{Atom}
use Rattle.dc_system.specs.declared.edges.Edge.{Edge}
use Rattle.dc_rows.specs.Rows.{Row, with_rows, linear_part, linear_parts, is_nonzero, is_unchosen, guard_atoms}
use Rattle.dc_rows.proofs.Sets.{with-++}

-- ---- numbers from k to n
range-more : (k n : ℕ) → k < n → range_with_len k (n - k) ≡ k ∷ range_with_len (k + 1) (n - (k + 1))
range-more k n h = ap (range_with_len k) e
  where
    e : n - k ≡ suc (n - (k + 1))
    e = omega arith

range-none : (k n : ℕ) → n ≤ k → range_with_len k (n - k) ≡ []
range-none k n h = ap (range_with_len k) e
  where
    e : n - k ≡ 0
    e = omega arith

pub range_step : (g : ℕ → List Row) (n k : ℕ) (o q f : List Row) → k < n → q ≡ with_rows o (g k)
    → with_rows o (flat_map g (range_with_len k (n - k))) ≡ f → with_rows q (flat_map g (range_with_len (k + 1) (n - (k + 1)))) ≡ f
range_step g n k o q f h e i =
    ap (λ x. with_rows x (flat_map g (range_with_len (k + 1) (n - (k + 1))))) e
    ∙ (sym (with-++ o (g k) (flat_map g (range_with_len (k + 1) (n - (k + 1))))) ∙ (ap (λ ks. with_rows o (flat_map g ks)) (sym (range-more k n h)) ∙ i))

pub range_done : (g : ℕ → List Row) (n k : ℕ) (o f : List Row) → n ≤ k → with_rows o (flat_map g (range_with_len k (n - k))) ≡ f → o ≡ f
range_done g n k o f h i = ap (λ ks. with_rows o (flat_map g ks)) (sym (range-none k n h)) ∙ i

-- ---- the items of a list, each of which gives some rows
pub items_step : {X : Type 0} (g : List X → List Row) (each : X → List Row) → ((x : X) (xs : List X) → g (x ∷ xs) ≡ each x ++ g xs)
    → (i : ℕ) (xs : List X) (d : X) (o q f : List Row) → i < length xs → d ≡ get_or xs i d → q ≡ with_rows o (each d)
    → with_rows o (g (drop i xs)) ≡ f → with_rows q (g (drop (i + 1) xs)) ≡ f
items_step g each joins i xs d o q f h e k j =
    ap (λ x. with_rows x (g (drop (i + 1) xs))) (k ∙ ap (λ x. with_rows o (each x)) e)
    ∙ (sym (with-++ o (each (get_or xs i d)) (g (drop (i + 1) xs)))
    ∙ (ap (with_rows o) (sym (joins (get_or xs i d) (drop (i + 1) xs))) ∙ (ap (λ x. with_rows o (g x)) (sym (drop_more xs i d h)) ∙ j)))

pub items_done : {X : Type 0} (g : List X → List Row) → g [] ≡ [] → (i : ℕ) (xs : List X) (o f : List Row) → length xs ≤ i → with_rows o (g (drop i xs)) ≡ f → o ≡ f
items_done g empty i xs o f h j = ap (with_rows o) (sym empty) ∙ (ap (λ x. with_rows o (g x)) (sym (drop_all i xs h)) ∙ j)

-- ---- linear parts
pub parts-++ : (n : ℕ) (a b : List Atom) → linear_parts n (a ++ b) ≡ linear_parts n a ++ linear_parts n b
parts-++ n a b = ap (filter is_nonzero) (map-append (linear_part n) a b) ∙ filter-append is_nonzero (map (linear_part n) a) (map (linear_part n) b)

pub parts-cons : (n : ℕ) (a : Atom) (b : List Atom) → linear_parts n (a ∷ b) ≡ linear_parts n (a ∷ []) ++ linear_parts n b
parts-cons n a b = parts-++ n (a ∷ []) b

-- of the atoms that do not mention the chosen value
abbrev pub unchosen_parts : ℕ → List Atom → List Row
unchosen_parts n a = linear_parts n (filter (is_unchosen n) a)

pub unchosen-++ : (n : ℕ) (a b : List Atom) → unchosen_parts n (a ++ b) ≡ unchosen_parts n a ++ unchosen_parts n b
unchosen-++ n a b = ap (linear_parts n) (filter-append (is_unchosen n) a b) ∙ parts-++ n (filter (is_unchosen n) a) (filter (is_unchosen n) b)

pub unchosen-cons : (n : ℕ) (a : Atom) (b : List Atom) → unchosen_parts n (a ∷ b) ≡ unchosen_parts n (a ∷ []) ++ unchosen_parts n b
unchosen-cons n a b = unchosen-++ n (a ∷ []) b

pub guards-cons : (n : ℕ) (e : Edge) (es : List Edge) → unchosen_parts n (guard_atoms (e ∷ es)) ≡ unchosen_parts n e.guard ++ unchosen_parts n (guard_atoms es)
guards-cons n e es = unchosen-++ n e.guard (guard_atoms es)
