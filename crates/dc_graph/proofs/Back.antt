-- A walk through a graph that holds a list's edges, and no others from their numbers, begins with a run of the list.
use Rattle.std.specs.Prelude.{◌≡◌, ℕ, zero, suc, ◌+◌, ◌≤◌, ◌<◌, List, [], ◌∷◌, ◌++◌, Bool, true, false, ◌||◌, ℤ, pos, ◌+ℤ◌, refl}
use Rattle.std.specs.List.{AllByRecursion}
use Rattle.std.proofs.Common.{sym, ◌∙◌, ap, subst, arith, inl, inr}
use Rattle.std.proofs.lemmas.Int.{ints}
use Rattle.std.proofs.Math.IntN.{+ℤ_idl}
use Rattle.std.proofs.lemmas.Bool.{not-true}
use Rattle.dc_math.specs.Members.{Among, head, tail, among-one, among-two, among-++}
use Rattle.dc_syntax.specs.declared.tree.Stmt.{Stmt, Stmt-F, out-Stmt, fold-roll-Stmt}
use Rattle.dc_syntax.specs.declared.tree.Stmt.TheOpen.{Skip, Assign, AnyOf, Between, Tick, Assume, If, IfAny, While, WhileAny}
use Rattle.dc_syntax.specs.declared.tree.Cond.{Cond}
use Rattle.dc_syntax.specs.declared.tree.Expr.{Expr}
use Rattle.dc_syntax.specs.Value.{State, truth}
use Rattle.dc_syntax.specs.Run.{One, Run, skip, assign, any_of, between, tick, assume, if_true, if_false, if_left, if_right, while_done, while_turn, any_done, any_turn, none, more}
use Rattle.dc_syntax.specs.Trees.{EachStmt}
use Rattle.dc_syntax.proofs.Inductions.{Stmt-induction}
use Rattle.dc_affine.specs.Table.{Fact, all_of, some_of, facts_of}
use Rattle.dc_affine.proofs.TableLaws.{facts_tell}
use Rattle.dc_graph.specs.Labels.{Label, Arrow, arrow, branch, idle, sets, picks, picks_in, pays, tests}
use Rattle.dc_graph.specs.Pieces.{Piece, sizes, first, all_arrows, layer, piece, pieces, piece_in, exit_of, arrows_of}
use Rattle.dc_graph.specs.Walks.{Acts, idles, set, picked, picked_in, paid, tested, Walk, done, step, Walks}
use Rattle.dc_graph.proofs.Parts.{piece_out}
use Rattle.dc_graph.proofs.Forward.{Run-walk}

pub record Branched (k j : ℕ) (fs : List (List Fact)) (e : Arrow) : Type 0 where
  pub conj : List Fact
  pub is : e ≡ arrow k j (tests conj)
  pub opens : (s : State) → all_of conj s ≡ true → some_of fs s ≡ true

or_left : (a b : Bool) → a ≡ true → (a || b) ≡ true
or_left true b h = refl
or_left false b h = cc

or_right : (a b : Bool) → b ≡ true → (a || b) ≡ true
or_right true b h = refl
or_right false b h = h

pub among-branch : (k j : ℕ) (fs : List (List Fact)) {e : Arrow} → Among e (branch k j fs) → Branched k j fs e
among-branch k j [] i = elim i [ ]
among-branch k j (f ∷ fs) head = record { conj = f; is = refl; opens = λ s h. or_left (all_of f s) (some_of fs s) h }
among-branch k j (f ∷ fs) (tail i) =
    let r = among-branch k j fs i in
    record { conj = r.conj; is = r.is; opens = λ s h. or_right (all_of f s) (some_of fs s) (r.opens s h) }

-- ---- a piece's edges begin at its own numbers
abbrev pub Within : ℕ → ℕ → Arrow → Type 0
Within lo hi e = (lo ≤ e.from) × (e.from < hi)

abbrev pub Ranged : Piece → Type 0
Ranged p = (k l : ℕ) (e : Arrow) → Among e (p.arrows k l) → Within k (k + p.size) e

pub laid_ranged : (A : List Stmt) → AllByRecursion (λ S. Ranged (piece S)) A → (k l : ℕ) (e : Arrow) → Among e (all_arrows (pieces A) k l) → Within k (k + sizes (pieces A)) e
laid_ranged [] h k l e i = elim i [ ]
laid_ranged (S ∷ R) h k l e i =
    elim (among-++ ((piece S).arrows k (first (pieces R) (k + (piece S).size) l)) i) [
      | inl j ↦ let w = h.0 k _ e j in (w.0, let u = w.1 in omega arith)
      | inr j ↦ let w = laid_ranged R h.1 (k + (piece S).size) l e j in (let u = w.0 in omega arith, let u = w.1 in omega arith)
    ]

within_own : (e : Arrow) (k n : ℕ) → e.from ≡ k → Within k (k + (1 + n)) e
within_own e k n h = (omega arith, omega arith)

from_branch : (k j n : ℕ) (fs : List (List Fact)) (e : Arrow) → Among e (branch k j fs) → Within k (k + (1 + n)) e
from_branch k j n fs e i = within_own e k n (ap (λ (x : Arrow). x.from) (among-branch k j fs i).is)

from_one : (k j n : ℕ) (a : Label) (e : Arrow) → Among e (arrow k j a ∷ []) → Within k (k + (1 + n)) e
from_one k j n a e i = within_own e k n (ap (λ (x : Arrow). x.from) (among-one i))

simple : (k l : ℕ) (a : Label) (e : Arrow) → Among e (arrow k l a ∷ []) → Within k (k + 1) e
simple k l a e i = let w = from_one k l 0 a e i in (w.0, let u = w.1 in omega arith)

simples : (k l : ℕ) (fs : List (List Fact)) (e : Arrow) → Among e (branch k l fs) → Within k (k + 1) e
simples k l fs e i = let w = from_branch k l 0 fs e i in (w.0, let u = w.1 in omega arith)

layer_ranged : (L : Stmt-F Stmt) → EachStmt (λ S. Ranged (piece S)) L → Ranged (piece_in L)
layer_ranged Skip h k l e i = simple k l _ e i
layer_ranged (Assign x a) h k l e i = simple k l _ e i
layer_ranged (AnyOf x) h k l e i = simple k l _ e i
layer_ranged (Between x a b) h k l e i = simple k l _ e i
layer_ranged (Tick a) h k l e i = simple k l _ e i
layer_ranged (Assume c) h k l e i = simples k l _ e i
layer_ranged (If c A B) h k l e i =
    elim (among-++ (branch k (first (pieces A) (k + 1) l) (facts_of c false) ++ branch k (first (pieces B) (k + 1 + sizes (pieces A)) l) (facts_of c true)) i) [
      | inl j ↦ elim (among-++ (branch k (first (pieces A) (k + 1) l) (facts_of c false)) j) [ inl m ↦ from_branch k _ (sizes (pieces A) + sizes (pieces B)) _ e m | inr m ↦ from_branch k _ (sizes (pieces A) + sizes (pieces B)) _ e m ]
      | inr j ↦ arms A B h k l e j
    ]
  where
    arms : (A B : List Stmt) → AllByRecursion (λ S. Ranged (piece S)) A × AllByRecursion (λ S. Ranged (piece S)) B → (k l : ℕ) (e : Arrow) → Among e (all_arrows (pieces A) (k + 1) l ++ all_arrows (pieces B) (k + 1 + sizes (pieces A)) l) → Within k (k + (1 + (sizes (pieces A) + sizes (pieces B)))) e
    arms A B h k l e i =
        elim (among-++ (all_arrows (pieces A) (k + 1) l) i) [
          | inl j ↦ let w = laid_ranged A h.0 (k + 1) l e j in (let u = w.0 in omega arith, let u = w.1 in omega arith)
          | inr j ↦ let w = laid_ranged B h.1 (k + 1 + sizes (pieces A)) l e j in (let u = w.0 in omega arith, let u = w.1 in omega arith)
        ]
layer_ranged (IfAny A B) h k l e head = (omega arith, omega arith)
layer_ranged (IfAny A B) h k l e (tail head) = (omega arith, omega arith)
layer_ranged (IfAny A B) h k l e (tail (tail i)) =
    elim (among-++ (all_arrows (pieces A) (k + 1) l) i) [
      | inl j ↦ let w = laid_ranged A h.0 (k + 1) l e j in (let u = w.0 in omega arith, let u = w.1 in omega arith)
      | inr j ↦ let w = laid_ranged B h.1 (k + 1 + sizes (pieces A)) l e j in (let u = w.0 in omega arith, let u = w.1 in omega arith)
    ]
layer_ranged (While c A) h k l e i =
    elim (among-++ (branch k (first (pieces A) (k + 1) k) (facts_of c false) ++ branch k l (facts_of c true)) i) [
      | inl j ↦ elim (among-++ (branch k (first (pieces A) (k + 1) k) (facts_of c false)) j) [ inl m ↦ from_branch k _ (sizes (pieces A)) _ e m | inr m ↦ from_branch k _ (sizes (pieces A)) _ e m ]
      | inr j ↦ let w = laid_ranged A h (k + 1) k e j in (let u = w.0 in omega arith, let u = w.1 in omega arith)
    ]
layer_ranged (WhileAny A) h k l e head = (omega arith, omega arith)
layer_ranged (WhileAny A) h k l e (tail head) = (omega arith, omega arith)
layer_ranged (WhileAny A) h k l e (tail (tail i)) =
    let w = laid_ranged A h (k + 1) k e i in (let u = w.0 in omega arith, let u = w.1 in omega arith)

pub piece_ranged : (S : Stmt) → Ranged (piece S)
piece_ranged S = Stmt-induction (λ T. Ranged (piece T)) (λ L h. subst Ranged (sym (fold-roll-Stmt Piece layer L)) (layer_ranged L h)) S

pub block_ranged : (A : List Stmt) → AllByRecursion (λ S. Ranged (piece S)) A
block_ranged [] = tt
block_ranged (S ∷ R) = (piece_ranged S, block_ranged R)

pub ranged : (A : List Stmt) (k l : ℕ) (e : Arrow) → Among e (all_arrows (pieces A) k l) → Within k (k + sizes (pieces A)) e
ranged A k l e i = laid_ranged A (block_ranged A) k l e i

-- ---- the graph has no other edges from these numbers
abbrev pub Only : List Arrow → ℕ → ℕ → List Arrow → Type 0
Only E lo hi es = (e : Arrow) → Among e E → lo ≤ e.from → e.from < hi → Among e es

abbrev pub Outside : ℕ → ℕ → ℕ → Type 0
Outside x lo hi = lo ≤ x → x < hi → ⊥

only_first : (E : List Arrow) (lo hi mid : ℕ) (es fs : List Arrow) → Only E lo hi (es ++ fs) → mid ≤ hi → ((e : Arrow) → Among e fs → mid ≤ e.from) → Only E lo mid es
only_first E lo hi mid es fs o h g e i a b =
    elim (among-++ es (o e i a (omega arith))) [ inl j ↦ j | inr j ↦ let u = g e j in absurd (omega arith) ]

only_last : (E : List Arrow) (lo hi mid : ℕ) (es fs : List Arrow) → Only E lo hi (es ++ fs) → lo ≤ mid → ((e : Arrow) → Among e es → e.from < mid) → Only E mid hi fs
only_last E lo hi mid es fs o h g e i a b =
    elim (among-++ es (o e i (omega arith) b)) [ inl j ↦ let u = g e j in absurd (omega arith) | inr j ↦ j ]

-- a run, and what is left of the walk
pub record Peeled (E : List Arrow) (R : State → ℤ → State → Type 0) (n l x : ℕ) (s : State) (c : ℤ) (t : State) : Type 0 where
  pub middle : State
  pub cost : ℤ
  pub left_cost : ℤ
  pub left : ℕ
  pub run : R s cost middle
  pub rest : Walk E left l middle left_cost x t
  pub total : c ≡ cost +ℤ left_cost
  pub shorter : left ≤ n

abbrev pub Peels : List Arrow → ℕ → ℕ → Type 0
Peels E x b = (A : List Stmt) (k l n : ℕ) (s : State) (c : ℤ) (t : State) → n ≤ b → Only E k (k + sizes (pieces A)) (all_arrows (pieces A) k l) → Outside x k (k + sizes (pieces A)) → Walk E n (first (pieces A) k l) s c x t → Peeled E (Run A) n l x s c t

abbrev pub PeelsOne : List Arrow → ℕ → ℕ → Type 0
PeelsOne E x b = (L : Stmt-F Stmt) (k l n : ℕ) (s : State) (c : ℤ) (t : State) → n ≤ b → Only E k (k + (piece_in L).size) ((piece_in L).arrows k l) → Outside x k (k + (piece_in L).size) → Walk E n k s c x t → Peeled E (One L) n l x s c t

peel_more : (E : List Arrow) (S : Stmt) (R : List Stmt) (n f l x : ℕ) (s : State) (c : ℤ) (t : State) (q : Peeled E (One (out-Stmt S)) n f x s c t) → Peeled E (Run R) q.left l x q.middle q.left_cost t → Peeled E (Run (S ∷ R)) n l x s c t
peel_more E S R n f l x s c t q r =
    let v : r.left ≤ q.left = r.shorter in
    let w : q.left ≤ n = q.shorter in
    let e1 : c ≡ q.cost +ℤ q.left_cost = q.total in
    let e2 : q.left_cost ≡ r.cost +ℤ r.left_cost = r.total in
    record { middle = r.middle; cost = q.cost +ℤ r.cost; left_cost = r.left_cost; left = r.left; run = more {t = r.middle} {d = r.cost} S R q.run r.run; rest = r.rest; total = omega (arith, ints); shorter = omega arith }

-- a list, where each statement peels
peel_list : (E : List Arrow) (x b : ℕ) → PeelsOne E x b → Peels E x b
peel_list E x b H [] k l n s c t le o out p = record { middle = s; cost = pos 0; left_cost = c; left = n; run = none; rest = p; total = sym (+ℤ_idl c); shorter = omega arith }
peel_list E x b H (S ∷ R) k l n s c t le o out p =
    let j : ℕ = k + (piece S).size in
    let f : ℕ = first (pieces R) j l in
    let o1 : Only E k (k + (piece S).size) ((piece S).arrows k f) =
    only_first E k (k + ((piece S).size + sizes (pieces R))) (k + (piece S).size) ((piece S).arrows k f) (all_arrows (pieces R) j l) o (omega arith) (λ e i. (ranged R j l e i).0) in
    let o2 : Only E (k + (piece S).size) (k + ((piece S).size + sizes (pieces R))) (all_arrows (pieces R) j l) =
    only_last E k (k + ((piece S).size + sizes (pieces R))) (k + (piece S).size) ((piece S).arrows k f) (all_arrows (pieces R) j l) o (omega arith) (λ e i. (piece_ranged S k f e i).1) in
    let q : Peeled E (One (out-Stmt S)) n f x s c t =
    H (out-Stmt S) k f n s c t le
    (subst (λ (p : Piece). Only E k (k + p.size) (p.arrows k f)) (piece_out S) o1)
    (subst (λ (p : Piece). Outside x k (k + p.size)) (piece_out S) (λ g h. out g (omega arith))) p in
    let w : q.left ≤ n = q.shorter in
    let r : Peeled E (Run R) q.left l x q.middle q.left_cost t =
    peel_list E x b H R j l q.left q.middle q.left_cost t (omega arith) (λ e i g h. o2 e i g (omega arith)) (λ g h. out (omega arith) (omega arith)) q.rest in
    peel_more E S R n f l x s c t q r

-- ---- the first step of a statement
passed : {f : List Fact} {s m : State} {c : ℤ} → Acts (tests f) s c m → (c ≡ pos 0) × (m ≡ s) × (all_of f s ≡ true)
passed (tested f h) = (refl, refl, h)

idled : {s m : State} {c : ℤ} → Acts idle s c m → (c ≡ pos 0) × (m ≡ s)
idled idles = (refl, refl)

label_at : {k j l : ℕ} {a b : Label} {s m : State} {c : ℤ} → arrow k j a ≡ arrow k l b → Acts a s c m → Acts b s c m
label_at {s = s} {m = m} {c = c} q h = subst (λ y. Acts y s c m) (ap (λ (e : Arrow). e.label) q) h

walk_at : {E : List Arrow} {k j l n x : ℕ} {a b : Label} {m t : State} {d : ℤ} → arrow k j a ≡ arrow k l b → Walk E n j m d x t → Walk E n l m d x t
walk_at {E} {n = n} {x = x} {m = m} {t = t} {d = d} q p = subst (λ y. Walk E n y m d x t) (ap (λ (e : Arrow). e.to) q) p

plain : {E : List Arrow} {k j l n x : ℕ} {a b : Label} {s m t : State} {c d : ℤ} (L : Stmt-F Stmt) → (Acts b s c m → One L s c m) → arrow k j a ≡ arrow k l b → Acts a s c m → Walk E n j m d x t → Peeled E (One L) (suc n) l x s (c +ℤ d) t
plain {n = n} {m = m} {c = c} {d = d} L conv q h p =
    record { middle = m; cost = c; left_cost = d; left = n; run = conv (label_at q h); rest = walk_at q p; total = refl; shorter = omega arith }

skip_one : {s m : State} {c : ℤ} → Acts idle s c m → One Skip s c m
skip_one idles = skip

assign_one : {x : ℕ} {e : Expr} {s m : State} {c : ℤ} → Acts (sets x e) s c m → One (Assign x e) s c m
assign_one (set x e) = assign x e

any_one : {x : ℕ} {s m : State} {c : ℤ} → Acts (picks x) s c m → One (AnyOf x) s c m
any_one (picked x z) = any_of x z

between_one : {x : ℕ} {a b : Expr} {s m : State} {c : ℤ} → Acts (picks_in x a b) s c m → One (Between x a b) s c m
between_one (picked_in x a b z h g) = between x a b z h g

tick_one : {e : Expr} {s m : State} {c : ℤ} → Acts (pays e) s c m → One (Tick e) s c m
tick_one (paid e) = tick e

truth_of : (b : Cond) (s : State) → some_of (facts_of b false) s ≡ true → truth b s ≡ true
truth_of b s h = sym (facts_tell b false s) ∙ h

untruth_of : (b : Cond) (s : State) → some_of (facts_of b true) s ≡ true → truth b s ≡ false
untruth_of b s h = not-true (truth b s) (sym (facts_tell b true s) ∙ h)

assume_one : {f : List Fact} {s m : State} {c : ℤ} (b : Cond) → ((s : State) → all_of f s ≡ true → some_of (facts_of b false) s ≡ true) → Acts (tests f) s c m → One (Assume b) s c m
assume_one b g (tested {s = s} f h) = assume b (truth_of b s (g s h))

done_one : {f : List Fact} {s m : State} {c : ℤ} (b : Cond) (A : List Stmt) → ((s : State) → all_of f s ≡ true → some_of (facts_of b true) s ≡ true) → Acts (tests f) s c m → One (While b A) s c m
done_one b A g (tested {s = s} f h) = while_done b A (untruth_of b s (g s h))

stop_one : {s m : State} {c : ℤ} (A : List Stmt) → Acts idle s c m → One (WhileAny A) s c m
stop_one A idles = any_done A

-- after a step without cost, an arm
armed : (E : List Arrow) (A : List Stmt) (L : Stmt-F Stmt) (n l x : ℕ) (s m : State) (c d : ℤ) (t : State) → c ≡ pos 0 → m ≡ s → ((u : ℤ) (w : State) → Run A s u w → One L s u w) → Peeled E (Run A) n l x m d t → Peeled E (One L) (suc n) l x s (c +ℤ d) t
armed E A L n l x s m c d t z e conv r =
    let v : r.left ≤ n = r.shorter in
    let g : d ≡ r.cost +ℤ r.left_cost = r.total in
    record { middle = r.middle; cost = r.cost; left_cost = r.left_cost; left = r.left; run = conv r.cost r.middle (subst (λ y. Run A y r.cost r.middle) e r.run); rest = r.rest; total = omega (arith, ints); shorter = omega arith }

-- after a step without cost, a turn and the rest of the loop
turned : (E : List Arrow) (x b : ℕ) → PeelsOne E x b → (A : List Stmt) (L : Stmt-F Stmt) (n k l : ℕ) (s m : State) (c d : ℤ) (t : State) → n ≤ b → c ≡ pos 0 → m ≡ s
    → ((u v : ℤ) (w y : State) → Run A s u w → One L w v y → One L s (u +ℤ v) y)
    → Only E k (k + (piece_in L).size) ((piece_in L).arrows k l) → Outside x k (k + (piece_in L).size)
    → Peeled E (Run A) n k x m d t → Peeled E (One L) (suc n) l x s (c +ℤ d) t
turned E x b H A L n k l s m c d t le z e conv o out r =
    let v : r.left ≤ n = r.shorter in
    let g : d ≡ r.cost +ℤ r.left_cost = r.total in
    let q : Peeled E (One L) r.left l x r.middle r.left_cost t = H L k l r.left r.middle r.left_cost t (omega arith) o out r.rest in
    let w : q.left ≤ r.left = q.shorter in
    let g2 : r.left_cost ≡ q.cost +ℤ q.left_cost = q.total in
    record { middle = q.middle; cost = r.cost +ℤ q.cost; left_cost = q.left_cost; left = q.left; run = conv r.cost q.cost r.middle q.middle (subst (λ y. Run A y r.cost r.middle) e r.run) q.run; rest = q.rest; total = omega (arith, ints); shorter = omega arith }

own_branch : (k j : ℕ) (fs : List (List Fact)) (e : Arrow) → Among e (branch k j fs) → e.from ≡ k
own_branch k j fs e i = ap (λ (x : Arrow). x.from) (among-branch k j fs i).is

own_branches : (k j g : ℕ) (fs gs : List (List Fact)) (e : Arrow) → Among e (branch k j fs ++ branch k g gs) → e.from ≡ k
own_branches k j g fs gs e i = elim (among-++ (branch k j fs) i) [ inl h ↦ own_branch k j fs e h | inr h ↦ own_branch k g gs e h ]

own_two : (k j g : ℕ) (a b : Label) (e : Arrow) → Among e (arrow k j a ∷ arrow k g b ∷ []) → e.from ≡ k
own_two k j g a b e i = elim (among-two i) [ inl h ↦ ap (λ (x : Arrow). x.from) h | inr h ↦ ap (λ (x : Arrow). x.from) h ]

-- the parts behind a statement's own edges
inner : (E : List Arrow) (k n : ℕ) (own es : List Arrow) → ((e : Arrow) → Among e own → e.from ≡ k) → Only E k (k + (1 + n)) (own ++ es) → Only E (k + 1) (k + (1 + n)) es
inner E k n own es h o = only_last E k (k + (1 + n)) (k + 1) own es o (omega arith) (λ e i. let u = h e i in omega arith)

one_part : (E : List Arrow) (k l : ℕ) (A : List Stmt) → Only E (k + 1) (k + (1 + sizes (pieces A))) (all_arrows (pieces A) (k + 1) l) → Only E (k + 1) (k + 1 + sizes (pieces A)) (all_arrows (pieces A) (k + 1) l)
one_part E k l A o e i g h = o e i g (omega arith)

left_part : (E : List Arrow) (k l : ℕ) (A B : List Stmt) → Only E (k + 1) (k + (1 + (sizes (pieces A) + sizes (pieces B)))) (all_arrows (pieces A) (k + 1) l ++ all_arrows (pieces B) (k + 1 + sizes (pieces A)) l) → Only E (k + 1) (k + 1 + sizes (pieces A)) (all_arrows (pieces A) (k + 1) l)
left_part E k l A B o = only_first E _ _ (k + 1 + sizes (pieces A)) _ _ o (omega arith) (λ e i. (ranged B _ l e i).0)

right_part : (E : List Arrow) (k l : ℕ) (A B : List Stmt) → Only E (k + 1) (k + (1 + (sizes (pieces A) + sizes (pieces B)))) (all_arrows (pieces A) (k + 1) l ++ all_arrows (pieces B) (k + 1 + sizes (pieces A)) l) → Only E (k + 1 + sizes (pieces A)) (k + 1 + sizes (pieces A) + sizes (pieces B)) (all_arrows (pieces B) (k + 1 + sizes (pieces A)) l)
right_part E k l A B o e i g h = only_last E _ _ (k + 1 + sizes (pieces A)) _ _ o (omega arith) (λ e i. (ranged A _ l e i).1) e i g (omega arith)

-- an arrow from k is none of an arm's
no_arm : (k j l : ℕ) (a : Label) (A : List Stmt) → Among (arrow k j a) (all_arrows (pieces A) (k + 1) l) → ⊥
no_arm k j l a A i = let u = (ranged A (k + 1) l _ i).0 in omega arith

no_arms : (k j l : ℕ) (a : Label) (A B : List Stmt) → Among (arrow k j a) (all_arrows (pieces A) (k + 1) l ++ all_arrows (pieces B) (k + 1 + sizes (pieces A)) l) → ⊥
no_arms k j l a A B i = elim (among-++ (all_arrows (pieces A) (k + 1) l) i) [ inl h ↦ no_arm k j l a A h | inr h ↦ (let u = (ranged B (k + 1 + sizes (pieces A)) l _ h).0 in omega arith) ]

-- the step of a statement, and the rest
abbrev pub Steps : List Arrow → ℕ → ℕ → Stmt-F Stmt → Type 0
Steps E x b L = (k l n j : ℕ) (a : Label) (s m : State) (c d : ℤ) (t : State) → n ≤ b → Only E k (k + (piece_in L).size) ((piece_in L).arrows k l) → Outside x k (k + (piece_in L).size)
    → Among (arrow k j a) ((piece_in L).arrows k l) → Acts a s c m → Walk E n j m d x t → Peeled E (One L) (suc n) l x s (c +ℤ d) t

step_if : (E : List Arrow) (x b : ℕ) → Peels E x b → (q : Cond) (A B : List Stmt) → Steps E x b (If q A B)
step_if E x b P q A B k l n j a s m c d t le o out i h p =
    elim (among-++ (branch k (first (pieces A) (k + 1) l) (facts_of q false) ++ branch k (first (pieces B) (k + 1 + sizes (pieces A)) l) (facts_of q true)) i) [
      | inl u ↦ elim (among-++ (branch k (first (pieces A) (k + 1) l) (facts_of q false)) u) [ inl v ↦ yes (among-branch k _ _ v) | inr v ↦ no (among-branch k _ _ v) ]
      | inr u ↦ absurd (no_arms k j l a A B u)
    ]
  where
    parts : Only E (k + 1) (k + (1 + (sizes (pieces A) + sizes (pieces B)))) (all_arrows (pieces A) (k + 1) l ++ all_arrows (pieces B) (k + 1 + sizes (pieces A)) l)
    parts = inner E k (sizes (pieces A) + sizes (pieces B)) (branch k (first (pieces A) (k + 1) l) (facts_of q false) ++ branch k (first (pieces B) (k + 1 + sizes (pieces A)) l) (facts_of q true)) _ (own_branches k _ _ _ _) o

    yes : Branched k (first (pieces A) (k + 1) l) (facts_of q false) (arrow k j a) → Peeled E (One (If q A B)) (suc n) l x s (c +ℤ d) t
    yes w =
        let z = passed (label_at w.is h) in
        armed E A (If q A B) n l x s m c d t z.0 z.1 (λ u y r. if_true q A B (truth_of q s (w.opens s z.2)) r)
        (P A (k + 1) l n m d t le (left_part E k l A B parts) (λ g f. out (omega arith) (omega arith)) (walk_at w.is p))

    no : Branched k (first (pieces B) (k + 1 + sizes (pieces A)) l) (facts_of q true) (arrow k j a) → Peeled E (One (If q A B)) (suc n) l x s (c +ℤ d) t
    no w =
        let z = passed (label_at w.is h) in
        armed E B (If q A B) n l x s m c d t z.0 z.1 (λ u y r. if_false q A B (untruth_of q s (w.opens s z.2)) r)
        (P B (k + 1 + sizes (pieces A)) l n m d t le (right_part E k l A B parts) (λ g f. out (omega arith) (omega arith)) (walk_at w.is p))

step_if_any : (E : List Arrow) (x b : ℕ) → Peels E x b → (A B : List Stmt) → Steps E x b (IfAny A B)
step_if_any E x b P A B k l n j a s m c d t le o out i h p =
    elim (among-++ (arrow k (first (pieces A) (k + 1) l) idle ∷ arrow k (first (pieces B) (k + 1 + sizes (pieces A)) l) idle ∷ []) i) [
      | inl u ↦ elim (among-two u) [ inl v ↦ yes v | inr v ↦ no v ]
      | inr u ↦ absurd (no_arms k j l a A B u)
    ]
  where
    parts : Only E (k + 1) (k + (1 + (sizes (pieces A) + sizes (pieces B)))) (all_arrows (pieces A) (k + 1) l ++ all_arrows (pieces B) (k + 1 + sizes (pieces A)) l)
    parts = inner E k (sizes (pieces A) + sizes (pieces B)) (arrow k (first (pieces A) (k + 1) l) idle ∷ arrow k (first (pieces B) (k + 1 + sizes (pieces A)) l) idle ∷ []) _ (own_two k _ _ _ _) o

    yes : arrow k j a ≡ arrow k (first (pieces A) (k + 1) l) idle → Peeled E (One (IfAny A B)) (suc n) l x s (c +ℤ d) t
    yes w =
        let z = idled (label_at w h) in
        armed E A (IfAny A B) n l x s m c d t z.0 z.1 (λ u y r. if_left A B r)
        (P A (k + 1) l n m d t le (left_part E k l A B parts) (λ g f. out (omega arith) (omega arith)) (walk_at w p))

    no : arrow k j a ≡ arrow k (first (pieces B) (k + 1 + sizes (pieces A)) l) idle → Peeled E (One (IfAny A B)) (suc n) l x s (c +ℤ d) t
    no w =
        let z = idled (label_at w h) in
        armed E B (IfAny A B) n l x s m c d t z.0 z.1 (λ u y r. if_right A B r)
        (P B (k + 1 + sizes (pieces A)) l n m d t le (right_part E k l A B parts) (λ g f. out (omega arith) (omega arith)) (walk_at w p))

step_while : (E : List Arrow) (x b : ℕ) → Peels E x b → PeelsOne E x b → (q : Cond) (A : List Stmt) → Steps E x b (While q A)
step_while E x b P H q A k l n j a s m c d t le o out i h p =
    elim (among-++ (branch k (first (pieces A) (k + 1) k) (facts_of q false) ++ branch k l (facts_of q true)) i) [
      | inl u ↦ elim (among-++ (branch k (first (pieces A) (k + 1) k) (facts_of q false)) u) [ inl v ↦ yes (among-branch k _ _ v) | inr v ↦ no (among-branch k _ _ v) ]
      | inr u ↦ absurd (no_arm k j k a A u)
    ]
  where
    parts : Only E (k + 1) (k + (1 + sizes (pieces A))) (all_arrows (pieces A) (k + 1) k)
    parts = inner E k (sizes (pieces A)) (branch k (first (pieces A) (k + 1) k) (facts_of q false) ++ branch k l (facts_of q true)) _ (own_branches k _ _ _ _) o

    yes : Branched k (first (pieces A) (k + 1) k) (facts_of q false) (arrow k j a) → Peeled E (One (While q A)) (suc n) l x s (c +ℤ d) t
    yes w =
        let z = passed (label_at w.is h) in
        turned E x b H A (While q A) n k l s m c d t le z.0 z.1 (λ u v y r f g. while_turn q A (truth_of q s (w.opens s z.2)) f g) o out
        (P A (k + 1) k n m d t le (one_part E k k A parts) (λ g f. out (omega arith) (omega arith)) (walk_at w.is p))

    no : Branched k l (facts_of q true) (arrow k j a) → Peeled E (One (While q A)) (suc n) l x s (c +ℤ d) t
    no w = plain (While q A) (done_one q A w.opens) w.is h p

step_while_any : (E : List Arrow) (x b : ℕ) → Peels E x b → PeelsOne E x b → (A : List Stmt) → Steps E x b (WhileAny A)
step_while_any E x b P H A k l n j a s m c d t le o out i h p =
    elim (among-++ (arrow k (first (pieces A) (k + 1) k) idle ∷ arrow k l idle ∷ []) i) [
      | inl u ↦ elim (among-two u) [ inl v ↦ yes v | inr v ↦ plain (WhileAny A) (stop_one A) v h p ]
      | inr u ↦ absurd (no_arm k j k a A u)
    ]
  where
    parts : Only E (k + 1) (k + (1 + sizes (pieces A))) (all_arrows (pieces A) (k + 1) k)
    parts = inner E k (sizes (pieces A)) (arrow k (first (pieces A) (k + 1) k) idle ∷ arrow k l idle ∷ []) _ (own_two k _ _ _ _) o

    yes : arrow k j a ≡ arrow k (first (pieces A) (k + 1) k) idle → Peeled E (One (WhileAny A)) (suc n) l x s (c +ℤ d) t
    yes w =
        let z = idled (label_at w h) in
        turned E x b H A (WhileAny A) n k l s m c d t le z.0 z.1 (λ u v y r f g. any_turn A f g) o out
        (P A (k + 1) k n m d t le (one_part E k k A parts) (λ g f. out (omega arith) (omega arith)) (walk_at w p))

steps : (E : List Arrow) (x b : ℕ) → Peels E x b → PeelsOne E x b → (L : Stmt-F Stmt) → Steps E x b L
steps E x b P H Skip k l n j a s m c d t le o out i h p = plain Skip skip_one (among-one i) h p
steps E x b P H (Assign y e) k l n j a s m c d t le o out i h p = plain (Assign y e) assign_one (among-one i) h p
steps E x b P H (AnyOf y) k l n j a s m c d t le o out i h p = plain (AnyOf y) any_one (among-one i) h p
steps E x b P H (Between y e f) k l n j a s m c d t le o out i h p = plain (Between y e f) between_one (among-one i) h p
steps E x b P H (Tick e) k l n j a s m c d t le o out i h p = plain (Tick e) tick_one (among-one i) h p
steps E x b P H (Assume q) k l n j a s m c d t le o out i h p =
    let w = among-branch k l (facts_of q false) i in
    plain (Assume q) (assume_one q w.opens) w.is h p
steps E x b P H (If q A B) k l n j a s m c d t le o out i h p = step_if E x b P q A B k l n j a s m c d t le o out i h p
steps E x b P H (IfAny A B) k l n j a s m c d t le o out i h p = step_if_any E x b P A B k l n j a s m c d t le o out i h p
steps E x b P H (While q A) k l n j a s m c d t le o out i h p = step_while E x b P H q A k l n j a s m c d t le o out i h p
steps E x b P H (WhileAny A) k l n j a s m c d t le o out i h p = step_while_any E x b P H A k l n j a s m c d t le o out i h p

pub positive : (L : Stmt-F Stmt) → 0 < (piece_in L).size
positive Skip = omega arith
positive (Assign x e) = omega arith
positive (AnyOf x) = omega arith
positive (Between x a b) = omega arith
positive (Tick e) = omega arith
positive (Assume c) = omega arith
positive (If c A B) = omega arith
positive (IfAny A B) = omega arith
positive (While c A) = omega arith
positive (WhileAny A) = omega arith

not_here : (L : Stmt-F Stmt) (k : ℕ) → Outside k k (k + (piece_in L).size) → ⊥
not_here L k out = let u : 0 < (piece_in L).size = positive L in out (omega arith) (omega arith)

peel_none : (E : List Arrow) (b x : ℕ) (L : Stmt-F Stmt) (k l n : ℕ) (s : State) (c : ℤ) (t : State) → n ≤ 0 → Outside x k (k + (piece_in L).size) → Walk E n k s c x t → Peeled E (One L) n l x s c t
peel_none E b x L k l n s c t le out done = absurd (not_here L k out)
peel_none E b x L k l n s c t le out (step j a i h p) = absurd (omega arith)

peel_some : (E : List Arrow) (b x : ℕ) → Peels E x b → PeelsOne E x b → (L : Stmt-F Stmt) (k l n : ℕ) (s : State) (c : ℤ) (t : State) → n ≤ suc b → Only E k (k + (piece_in L).size) ((piece_in L).arrows k l) → Outside x k (k + (piece_in L).size) → Walk E n k s c x t → Peeled E (One L) n l x s c t
peel_some E b x P H L k l n s c t le o out done = absurd (not_here L k out)
peel_some E b x P H L k l n s c t le o out (step {n = y} {m = m} {c = e} {d = d} j a i h p) =
    let u : 0 < (piece_in L).size = positive L in
    steps E x b P H L k l y j a s m e d t (omega arith) o out (o _ i (omega arith) (omega arith)) h p

pub peels_one : (E : List Arrow) (x b : ℕ) → PeelsOne E x b
peels_one E x zero L k l n s c t le o out p = peel_none E 0 x L k l n s c t le out p
peels_one E x (suc b) L k l n s c t le o out p = peel_some E b x (peel_list E x b (peels_one E x b)) (peels_one E x b) L k l n s c t le o out p

pub peels : (E : List Arrow) (x b : ℕ) → Peels E x b
peels E x b = peel_list E x b (peels_one E x b)

-- ---- the bridge
at_exit : (E : List Arrow) (n x y : ℕ) (s t : State) (c : ℤ) → ((e : Arrow) → Among e E → e.from ≡ x → ⊥) → Walk E n x s c y t → (c ≡ pos 0) × (t ≡ s)
at_exit E n x y s t c none_from done = (refl, refl)
at_exit E n x y s t c none_from (step j a i h p) = absurd (none_from _ i refl)

first_at : (A : List Stmt) → first (pieces A) 0 (exit_of A) ≡ 0
first_at [] = refl
first_at (S ∷ R) = refl

pub run_to_walk : (A : List Stmt) (s t : State) (c : ℤ) → Run A s c t → Walks (arrows_of A) 0 s c (exit_of A) t
run_to_walk A s t c r = subst (λ k. Walks (arrows_of A) k s c (exit_of A) t) (first_at A) (Run-walk r (arrows_of A) 0 (exit_of A) (λ e i. i))

pub walk_to_run : (A : List Stmt) (s t : State) (c : ℤ) → Walks (arrows_of A) 0 s c (exit_of A) t → Run A s c t
walk_to_run A s t c w =
    let q : Peeled (arrows_of A) (Run A) w.0 (exit_of A) (exit_of A) s c t =
    peels (arrows_of A) (exit_of A) w.0 A 0 (exit_of A) w.0 s c t (omega arith) (λ e i g h. i) (λ g h. omega arith)
    (subst (λ k. Walk (arrows_of A) w.0 k s c (exit_of A) t) (sym (first_at A)) w.1) in
    let z : (q.left_cost ≡ pos 0) × (t ≡ q.middle) = at_exit _ _ _ _ _ _ _ (λ e i h. let u : e.from < 0 + exit_of A = (ranged A 0 (exit_of A) e i).1 in omega arith) q.rest in
    let g : c ≡ q.cost +ℤ q.left_cost = q.total in
    let y : q.cost ≡ c = (let v = z.0 in omega (arith, ints)) in
    subst (λ u. Run A s c u) (sym z.1) (subst (λ u. Run A s u q.middle) y q.run)
