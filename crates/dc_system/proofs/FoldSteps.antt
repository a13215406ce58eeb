-- What the code of a folding does, step by step.
use Rattle.std.specs.Prelude.{◌≡◌, ℕ, ◌+◌, ◌-◌, ◌≤◌, ◌<◌, not, eqb, if◌then◌else◌, List, [], ◌∷◌, ◌++◌, map, filter, length, get_or, drop, Some, None, cond}
use Rattle.std.specs.declared.option.Option.{Option}
use Rattle.std.specs.List.{AllByRecursion}
use Rattle.std.proofs.Common.{sym, ◌∙◌, ap, ap₂, subst, arith, add-one}
use Rattle.std.proofs.lemmas.Bool.{eq-eqb, ne_eqb, lt-ltb, le-ltb}
use Rattle.std.proofs.lemmas.List.{drop_more, drop_all, length-map}
use Rattle.dc_math.specs.Members.{Among, among_each, among_map}
use Rattle.dc_system.specs.declared.edges.Edge.{Edge}
use Rattle.dc_system.specs.declared.edges.System.{System}
use Rattle.dc_system.specs.declared.folding.Spot.{Spot}
use Rattle.dc_system.specs.Shapes.{IsEdge, IsWithin, IsWellFormed}
use Rattle.dc_system.specs.Folded.{Folding, unfolded, fold_least, fold_at, folded, without, numbers_below, number_in, renumbered, IsFolded}
use Rattle.dc_system.specs.Spots.{IsLeast, Net}
use Rattle.dc_system.proofs.Filters.{length-filter_less, length-numbers}
use Rattle.dc_system.proofs.Folds.{joined_at, second_from, second_in}
use Rattle.dc_system.proofs.Pushed.{map-push}
use Rattle.dc_system.proofs.Renumbered.{Kept, foldings_keep, starts, folded_paths, folded_shaped}

-- ---- what the loop keeps
pub begun : (n x : ℕ) (left : List ℕ) (es : List Edge) → Folding n x left es left es
begun n x left es = unfolded

pub more : (n x : ℕ) (left : List ℕ) (es : List Edge) (now : List ℕ) (fs : List Edge) (o : Option Spot) (s : Spot) (later : List ℕ) (gs : List Edge) → Folding n x left es now fs → IsLeast n x fs o → o ≡ Some s → later ≡ without s.location now → gs ≡ folded s.location s.edge fs → Folding n x left es later gs
more n x left es now fs None s later gs F L e p q = cc
more n x left es now fs (Some t) s later gs F L e p q =
    let r : t ≡ s = cc in
    subst (λ l. Folding n x left es l gs) (sym p)
    (subst (λ g. Folding n x left es (without s.location now) g) (sym q)
    (subst (λ (u : Spot). Folding n x left es (without u.location now) (folded u.location u.edge fs)) r (fold_least F t.location t.edge L.0.0 L.1)))

pub shaped_still : (n x : ℕ) (left : List ℕ) (es : List Edge) (now : List ℕ) (fs : List Edge) → n ≤ 10 → Net n x left es → Folding n x left es now fs → AllByRecursion (IsEdge n) fs
shaped_still n x left es now fs h N F = among_each (IsEdge n) fs (foldings_keep n x left es h N F).net.shape

pub within_still : (n x : ℕ) (left : List ℕ) (es : List Edge) (now : List ℕ) (fs : List Edge) → n ≤ 10 → Net n x left es → Folding n x left es now fs → AllByRecursion (IsWithin (x + 1)) fs
within_still n x left es now fs h N F =
    let K = (foldings_keep n x left es h N F).net in
    among_each (IsWithin (x + 1)) fs (λ g i.
    let b = K.between g i in
    let u = K.last.greatest g.from b.0 in
    let v = K.last.greatest g.to b.1 in
    record { from = omega arith; to = omega arith })

-- ---- a fold takes an edge away
pub less_edges : (n x l : ℕ) (c : Edge) (es : List Edge) → fold_at n x es l ≡ Some c → length (folded l c es) < length es
less_edges n x l c es q =
    let J = joined_at n x l es c q in
    let to_other : J.second.to ≡ l → ⊥ = J.no_loop_out in
    let s : (if eqb J.second.to l then c else J.second) ≡ J.second = ap (λ b. if b then c else J.second) (ne_eqb J.second.to l to_other) in
    let i : Among J.second (map (λ (e : Edge). if eqb e.to l then c else e) es) = subst (λ y. Among y (map (λ (e : Edge). if eqb e.to l then c else e) es)) s (among_map (λ (e : Edge). if eqb e.to l then c else e) (second_in n x l es c J)) in
    let a = length-filter_less (λ (e : Edge). not (eqb e.from l)) J.second (map (λ (e : Edge). if eqb e.to l then c else e) es) (ap not (eq-eqb J.second.from l (second_from n x l es c J))) i in
    let b = length-map es (λ (e : Edge). if eqb e.to l then c else e) in
    omega arith

pub least_less : (n x : ℕ) (fs : List Edge) (o : Option Spot) (s : Spot) (gs : List Edge) → IsLeast n x fs o → o ≡ Some s → gs ≡ folded s.location s.edge fs → length gs < length fs
least_less n x fs None s gs L e q = cc
least_less n x fs (Some t) s gs L e q =
    let r : t ≡ s = cc in
    subst (λ g. length g < length fs) (sym q) (subst (λ (u : Spot). length (folded u.location u.edge fs) < length fs) r (less_edges n x t.location t.edge fs L.0.0))

pub index_of_spot : (n x : ℕ) (fs : List Edge) (o : Option Spot) (s : Spot) → IsLeast n x fs o → o ≡ Some s → s.index < length fs
index_of_spot n x fs None s L e = cc
index_of_spot n x fs (Some t) s L e = let r : t ≡ s = cc in subst (λ (u : Spot). u.index < length fs) r L.0.1

pub only_of : (n x : ℕ) (fs : List Edge) (o : Option Spot) (s : Spot) → IsLeast n x fs o → o ≡ Some s → (d : Edge) → filter (λ (e : Edge). eqb e.to s.location) fs ≡ get_or fs s.index d ∷ []
only_of n x fs None s L e = cc
only_of n x fs (Some t) s L e = let r : t ≡ s = cc in subst (λ (u : Spot). (d : Edge) → filter (λ (e : Edge). eqb e.to u.location) fs ≡ get_or fs u.index d ∷ []) r L.0.2

pub none_more : (n x : ℕ) (fs : List Edge) (o : Option Spot) → IsLeast n x fs o → o ≡ None → (l : ℕ) → fold_at n x fs l ≡ None
none_more n x fs None L e = L
none_more n x fs (Some s) L e = cc

-- ---- numbers
pub below_next : (left : List ℕ) (i k o p y : ℕ) → i < length left → y ≡ get_or left i y → y < k → p ≡ o + 1 → o + number_in (drop i left) k ≡ number_in left k → p + number_in (drop (i + 1) left) k ≡ number_in left k
below_next left i k o p y h e l a b =
    let d : number_in (drop i left) k ≡ 1 + number_in (drop (i + 1) left) k = ap (λ z. number_in z k) (drop_more left i y h ∙ ap (λ z. z ∷ drop (i + 1) left) (sym e)) ∙ ap (λ z. cond z 1 0 + number_in (drop (i + 1) left) k) (lt-ltb y k l) in
    omega arith

pub below_same : (left : List ℕ) (i k o y : ℕ) → i < length left → y ≡ get_or left i y → k ≤ y → o + number_in (drop i left) k ≡ number_in left k → o + number_in (drop (i + 1) left) k ≡ number_in left k
below_same left i k o y h e l b =
    let d : number_in (drop i left) k ≡ 0 + number_in (drop (i + 1) left) k = ap (λ z. number_in z k) (drop_more left i y h ∙ ap (λ z. z ∷ drop (i + 1) left) (sym e)) ∙ ap (λ z. cond z 1 0 + number_in (drop (i + 1) left) k) (le-ltb y k l) in
    omega arith

pub below_end : (left : List ℕ) (i k o : ℕ) → length left ≤ i → o + number_in (drop i left) k ≡ number_in left k → o ≡ number_in left k
below_end left i k o h b = let d : number_in (drop i left) k ≡ 0 = ap (λ z. number_in z k) (drop_all i left h) in omega arith

pub numbers_next : (k : ℕ) (o p : List ℕ) → p ≡ o ++ k ∷ [] → o ≡ numbers_below k → p ≡ numbers_below (k + 1)
numbers_next k o p e f = e ∙ ap (λ z. z ++ k ∷ []) f ∙ ap numbers_below (sym (add-one k))

-- ---- new numbers for the edges
pub edge_next : (left : List ℕ) (done : List Edge) (e g : Edge) (o p : List Edge) → g ≡ renumbered left e → p ≡ o ++ g ∷ [] → o ≡ map (renumbered left) done → p ≡ map (renumbered left) (done ++ e ∷ [])
edge_next left done e g o p a b c = b ∙ ap₂ (λ y z. y ++ z ∷ []) c a ∙ sym (map-push (renumbered left) done e)

pub ruleset folding_all = (begun, more, shaped_still, within_still, least_less, index_of_spot, only_of, none_more)

pub ruleset counting_below = (below_next, below_same, below_end)

pub ruleset counting_up = (numbers_next)

pub ruleset renumbering = (edge_next)

-- ---- the whole
pub whole : (y f : System) (left start : List ℕ) (es fs : List Edge) → IsWellFormed y → start ≡ numbers_below y.locs → fs ≡ y.edges → Folding y.vars (y.locs - 1) start fs left es → ((l : ℕ) → fold_at y.vars (y.locs - 1) es l ≡ None)
    → f ≡ record { vars = y.vars; params = y.params; locs = length left; edges = map (renumbered left) es; literals = y.literals } → IsFolded y f
whole y f left start es fs w a b F e q = record {
  left = left;
  edges = es;
  folding = subst (λ v. Folding y.vars (y.locs - 1) v y.edges left es) a (subst (λ v. Folding y.vars (y.locs - 1) start v left es) b F);
  ended = e;
  is = q;
}

pub net_at : (y : System) (start : List ℕ) (fs : List Edge) → IsWellFormed y → start ≡ numbers_below y.locs → fs ≡ y.edges → Net y.vars (y.locs - 1) start fs
net_at y start fs w a b = subst (λ v. Net y.vars (y.locs - 1) v fs) (sym a) (subst (λ v. Net y.vars (y.locs - 1) (numbers_below y.locs) v) (sym b) (starts y w))

pub few_left : (n x : ℕ) (left start : List ℕ) (es fs : List Edge) (k : ℕ) → n ≤ 10 → Net n x start fs → Folding n x start fs left es → start ≡ numbers_below k → k ≤ 128 → length left ≤ 128
few_left n x left start es fs k h N F a l =
    let K = foldings_keep n x start fs h N F in
    let b = K.fewer in
    let c : length start ≡ k = ap length a ∙ length-numbers k in
    omega arith

pub ruleset folding_whole = (whole, net_at, few_left)

pub ruleset folded_laws = (folded_shaped, folded_paths)
