-- What an edge of the graph does at a state and a chosen value is what its label does.
use Rattle.std.specs.Prelude.{◌≡◌, ℕ, zero, suc, ◌+◌, ◌≤◌, ◌<◌, Bool, true, false, ◌&&◌, List, [], ◌∷◌, ◌++◌, map, take, length, slice_set, slice_index_or, ℤ, pos, neg_ℤ, ◌+ℤ◌, ◌-ℤ◌, ◌*ℤ◌, ◌≤ℤ◌, int_le, None, refl}
use Rattle.std.specs.List.{AllByRecursion}
use Rattle.std.proofs.Common.{sym, ◌∙◌, ap, ap₂, subst, arith, add-one, take_all}
use Rattle.std.proofs.lemmas.Int.{ints}
use Rattle.std.proofs.lemmas.List.{take_more, take-append-le, length_push}
use Rattle.std.proofs.lemmas.Bool.{ltb-true, and_parts}
use Rattle.dc_syntax.specs.declared.tree.Expr.{Expr, Expr-F, roll-Expr, map-Expr, fold-roll-Expr}
use Rattle.dc_syntax.specs.declared.tree.Expr.TheOpen as F
use Rattle.dc_syntax.specs.declared.tree.Expr.TheVariants.{Var}
use Rattle.dc_syntax.specs.Value as tree
use Rattle.dc_syntax.specs.Value.{State, value_step}
use Rattle.dc_syntax.specs.Trees.{EachExpr}
use Rattle.dc_syntax.proofs.Inductions.{Expr-induction}
use Rattle.dc_syntax.proofs.Parts.{value-Var}
use Rattle.dc_poly.specs.Terms.{Polynomial, value}
use Rattle.dc_poly.specs.Sums.{values, variable, constant}
use Rattle.dc_poly.proofs.Values.{value-variable, value-constant}
use Rattle.dc_affine.specs.Forms.{is_below, below_step, fault_of, form_of}
use Rattle.dc_affine.specs.Table.{Fact, fact, fact_true, all_of}
use Rattle.dc_affine.specs.Atoms.{all_hold, holds_at, atom_of}
use Rattle.dc_affine.proofs.FormLaws.{form_value}
use Rattle.dc_affine.proofs.TableLaws.{le_of, of_le}
use Rattle.dc_graph.specs.Labels.{Label, arrow, idle, sets, picks, picks_in, pays, tests}
use Rattle.dc_graph.specs.Walks.{Acts, idles, set, picked, picked_in, paid, tested}
use Rattle.dc_system.specs.Edges.{variables, unchanged, chosen, edge_of}
use Rattle.dc_system.specs.Paths.{at, Step}
use Rattle.dc_system.proofs.Wider.{below_wider}
use Rattle.dc_affine.proofs.FactAtoms.{IsAffineFact, atom_says, all_say}
use Rattle.dc_system.proofs.Chosen.{IsBound, lower_affine, upper_affine}

-- ---- expressions over the variables do not see the chosen value
abbrev Local : ℕ → Expr → Type 0
Local n e = is_below n e ≡ true → (s : State) (z : ℤ) → length s ≡ n → tree.value e (at s z) ≡ tree.value e s

var_local : (k n : ℕ) (s : State) (z : ℤ) → k < n → length s ≡ n → slice_index_or (at s z) k (pos 0) ≡ slice_index_or s k (pos 0)
var_local k n [] z h l = absurd (omega arith)
var_local zero n (x ∷ s) z h l = refl
var_local (suc k) n (x ∷ s) z h l = var_local k (length s) s z (omega arith) refl

local_layer : (n : ℕ) (L : Expr-F Expr) → EachExpr (Local n) L → below_step n (map-Expr Expr Bool (is_below n) L) ≡ true → (s : State) (z : ℤ) → length s ≡ n
    → value_step (map-Expr Expr (State → ℤ) tree.value L) (at s z) ≡ value_step (map-Expr Expr (State → ℤ) tree.value L) s
local_layer n (F.Num k) h b s z l = refl
local_layer n (F.Var k) h b s z l = var_local k n s z (ltb-true k n b) l
local_layer n (F.Neg a) h b s z l = ap neg_ℤ (h b s z l)
local_layer n (F.Add x y) h b s z l = let p = and_parts (is_below n x) (is_below n y) b in ap₂ ◌+ℤ◌ (h.0 p.0 s z l) (h.1 p.1 s z l)
local_layer n (F.Sub x y) h b s z l = let p = and_parts (is_below n x) (is_below n y) b in ap₂ ◌-ℤ◌ (h.0 p.0 s z l) (h.1 p.1 s z l)
local_layer n (F.Mul x y) h b s z l = let p = and_parts (is_below n x) (is_below n y) b in ap₂ ◌*ℤ◌ (h.0 p.0 s z l) (h.1 p.1 s z l)

value_local : (n : ℕ) (e : Expr) → Local n e
value_local n e = Expr-induction (Local n) (λ L h b s z l.
    let t : tree.value (roll-Expr L) ≡ value_step (map-Expr Expr (State → ℤ) tree.value L) = fold-roll-Expr (State → ℤ) value_step L in
    let f : is_below n (roll-Expr L) ≡ below_step n (map-Expr Expr Bool (is_below n) L) = fold-roll-Expr Bool (below_step n) L in
    ap (λ g. g (at s z)) t ∙ local_layer n L h (sym f ∙ b) s z l ∙ sym (ap (λ g. g s) t)) e

form_local : (n : ℕ) (e : Expr) (s : State) (z : ℤ) → is_below n e ≡ true → length s ≡ n → value (form_of (n + 1) e).terms (at s z) ≡ tree.value e s
form_local n e s z b l = form_value (n + 1) e (below_wider n e b) (at s z) ∙ value_local n e b s z l

-- ---- the chosen value, and the variables
last_of : (n : ℕ) (s : State) (z : ℤ) → length s ≡ n → slice_index_or (at s z) n (pos 0) ≡ z
last_of zero [] z l = refl
last_of (suc n) [] z l = absurd (omega arith)
last_of zero (x ∷ s) z l = absurd (omega arith)
last_of (suc n) (x ∷ s) z l = last_of n s z (omega arith)

pub chosen_value : (n : ℕ) (s : State) (z : ℤ) → length s ≡ n → value (chosen n).terms (at s z) ≡ z
chosen_value n s z l = value-variable n (n + 1) (at s z) (omega arith) ∙ last_of n s z l

pub values-++ : (ps qs : List Polynomial) (w : List ℤ) → values (ps ++ qs) w ≡ values ps w ++ values qs w
values-++ [] qs w = refl
values-++ (p ∷ ps) qs w = ap (λ y. value p.terms w ∷ y) (values-++ ps qs w)

values_variables : (m k : ℕ) (w : List ℤ) → k ≤ m → k ≤ length w → values (variables m k) w ≡ take k w
values_variables m zero w h l = refl
values_variables m (suc k) w h l =
    values-++ (variables m k) (variable k m ∷ []) w
    ∙ ap₂ (λ x y. x ++ y ∷ []) (values_variables m k w (omega arith) (omega arith)) (value-variable k m w (omega arith))
    ∙ sym (take_more w k (pos 0) (omega arith)) ∙ ap (λ i. take i w) (add-one k)

pub stays : (n : ℕ) (s : State) (z : ℤ) → length s ≡ n → values (unchanged n) (at s z) ≡ s
stays n s z l =
    let h : n ≤ length (at s z) = (let o = length_push s z in omega arith) in
    let k : n ≤ length s = omega arith in
    let g : length s ≤ n = omega arith in
    values_variables (n + 1) n (at s z) (omega arith) h ∙ take-append-le n s (z ∷ []) k ∙ take_all n s g

pub values-set : (w : List ℤ) (ps : List Polynomial) (x : ℕ) (q : Polynomial) → values (slice_set ps x q) w ≡ slice_set (values ps w) x (value q.terms w)
values-set w [] x q = refl
values-set w (p ∷ ps) zero q = refl
values-set w (p ∷ ps) (suc x) q = ap (λ l. value p.terms w ∷ l) (values-set w ps x q)

set_moves : (n : ℕ) (s : State) (z : ℤ) (x : ℕ) (q : Polynomial) (v : ℤ) → length s ≡ n → value q.terms (at s z) ≡ v → values (slice_set (unchanged n) x q) (at s z) ≡ slice_set s x v
set_moves n s z x q v l e = values-set (at s z) (unchanged n) x q ∙ ap₂ (λ w y. slice_set w x y) (stays n s z l) e

pub free_value : (n : ℕ) (w : List ℤ) → value (constant (pos 0) (n + 1)).terms w ≡ pos 0
free_value n w = value-constant (pos 0) (n + 1) w

-- ---- what a label wants
pub record FactBelow (n : ℕ) (f : Fact) : Type 0 where
  pub big : is_below n f.big ≡ true
  pub small : is_below n f.small ≡ true

-- a form, and the parts of a conjunction
pub record IsPassed (n : ℕ) (e : Expr) : Type 0 where
  pub below : is_below n e ≡ true
  pub faultless : fault_of n e ≡ None

pub record IsCase (n : ℕ) (f : List Fact) : Type 0 where
  pub below : AllByRecursion (FactBelow n) f
  pub affine : AllByRecursion (IsAffineFact (n + 1)) f
  pub few : length f ≤ 256

abbrev pub LabelPasses : ℕ → Label → Type 0
LabelPasses n idle = Unit {0}
LabelPasses n (sets x e) = IsPassed n e
LabelPasses n (picks x) = Unit {0}
LabelPasses n (picks_in x a b) = IsBound n a × IsBound n b
LabelPasses n (pays e) = IsPassed n e
LabelPasses n (tests f) = IsCase n f

-- ---- guards
fact_local : (n : ℕ) (f : Fact) (s : State) (z : ℤ) → FactBelow n f → length s ≡ n → fact_true f (at s z) ≡ fact_true f s
fact_local n f s z h l = ap₂ (λ x y. int_le (pos 0) (x -ℤ y -ℤ pos f.less)) (value_local n f.big h.big s z l) (value_local n f.small h.small s z l)

facts_local : (n : ℕ) (fs : List Fact) (s : State) (z : ℤ) → AllByRecursion (FactBelow n) fs → length s ≡ n → all_of fs (at s z) ≡ all_of fs s
facts_local n [] s z h l = refl
facts_local n (f ∷ fs) s z h l = ap₂ ◌&&◌ (fact_local n f s z h.0 l) (facts_local n fs s z h.1 l)

case_says : (n : ℕ) (f : List Fact) (s : State) (z : ℤ) → IsCase n f → length s ≡ n → all_hold (map (atom_of (n + 1)) f) (at s z) ≡ all_of f s
case_says n f s z h l = all_say (n + 1) f (at s z) h.affine ∙ facts_local n f s z h.below l

var_last : (n : ℕ) (s : State) (z : ℤ) → length s ≡ n → tree.value (Var n) (at s z) ≡ z
var_last n s z l = value-Var n (at s z) ∙ last_of n s z l

lower_says : (n : ℕ) (a : Expr) (s : State) (z : ℤ) → IsBound n a → length s ≡ n → holds_at (atom_of (n + 1) (fact (Var n) a 0)) (at s z) ≡ int_le (pos 0) (z -ℤ tree.value a s -ℤ pos 0)
lower_says n a s z h l = atom_says (n + 1) (fact (Var n) a 0) (at s z) (lower_affine n a h) ∙ ap₂ (λ x y. int_le (pos 0) (x -ℤ y -ℤ pos 0)) (var_last n s z l) (value_local n a h.below s z l)

upper_says : (n : ℕ) (b : Expr) (s : State) (z : ℤ) → IsBound n b → length s ≡ n → holds_at (atom_of (n + 1) (fact b (Var n) 0)) (at s z) ≡ int_le (pos 0) (tree.value b s -ℤ z -ℤ pos 0)
upper_says n b s z h l = atom_says (n + 1) (fact b (Var n) 0) (at s z) (upper_affine n b h) ∙ ap₂ (λ x y. int_le (pos 0) (x -ℤ y -ℤ pos 0)) (value_local n b h.below s z l) (var_last n s z l)

gap_to : (x y : ℤ) → x ≤ℤ y → int_le (pos 0) (y -ℤ x -ℤ pos 0) ≡ true
gap_to x y h = of_le (pos 0) (y -ℤ x -ℤ pos 0) (omega (arith, ints))

gap_from : (x y : ℤ) → int_le (pos 0) (y -ℤ x -ℤ pos 0) ≡ true → x ≤ℤ y
gap_from x y h = let k : pos 0 ≤ℤ (y -ℤ x -ℤ pos 0) = le_of (pos 0) (y -ℤ x -ℤ pos 0) h in omega (arith, ints)

two_hold : (a b : Bool) → a ≡ true → b ≡ true → (a && (b && true)) ≡ true
two_hold true true h k = refl
two_hold true false h k = cc
two_hold false b h k = cc

hold_two : (a b : Bool) → (a && (b && true)) ≡ true → (a ≡ true) × (b ≡ true)
hold_two true true h = (refl, refl)
hold_two true false h = cc
hold_two false b h = cc

-- ---- both ways
pub acts_step : (n k l : ℕ) (a : Label) (s t : State) (c : ℤ) → length s ≡ n → LabelPasses n a → Acts a s c t → (z : ℤ) × Step (edge_of n (arrow k l a)) s z c t
acts_step n k l idle s t c h b idles = (pos 0, record { passes = refl; costs = sym (free_value n (at s (pos 0))); moves = sym (stays n s (pos 0) h) })
acts_step n k l (sets x e) s t c h b (set x' e') =
    (pos 0, record { passes = refl; costs = sym (free_value n (at s (pos 0))); moves = sym (set_moves n s (pos 0) x (form_of (n + 1) e) (tree.value e s) h (form_local n e s (pos 0) b.below h)) })
acts_step n k l (picks x) s t c h b (picked x' z) =
    (z, record { passes = refl; costs = sym (free_value n (at s z)); moves = sym (set_moves n s z x (chosen n) z h (chosen_value n s z h)) })
acts_step n k l (picks_in x p q) s t c h b (picked_in x' p' q' z i j) = (
  z,
  record {
    passes = two_hold _ _ (lower_says n p s z b.0 h ∙ gap_to (tree.value p s) z i) (upper_says n q s z b.1 h ∙ gap_to z (tree.value q s) j);
    costs = sym (free_value n (at s z));
    moves = sym (set_moves n s z x (chosen n) z h (chosen_value n s z h));
  },
)
acts_step n k l (pays e) s t c h b (paid e') = (pos 0, record { passes = refl; costs = sym (form_local n e s (pos 0) b.below h); moves = sym (stays n s (pos 0) h) })
acts_step n k l (tests f) s t c h b (tested f' i) = (pos 0, record { passes = case_says n f s (pos 0) b h ∙ i; costs = sym (free_value n (at s (pos 0))); moves = sym (stays n s (pos 0) h) })

acts_at : {a : Label} {s t u : State} {c d : ℤ} → c ≡ d → t ≡ u → Acts a s c t → Acts a s d u
acts_at {a} {s} {t} {u} {c} {d} e f h = subst (λ y. Acts a s d y) f (subst (λ x. Acts a s x t) e h)

pub step_acts : (n k l : ℕ) (a : Label) (s t : State) (c z : ℤ) → length s ≡ n → LabelPasses n a → Step (edge_of n (arrow k l a)) s z c t → Acts a s c t
step_acts n k l idle s t c z h b w = acts_at (sym (w.costs ∙ free_value n (at s z))) (sym (w.moves ∙ stays n s z h)) idles
step_acts n k l (sets x e) s t c z h b w = acts_at (sym (w.costs ∙ free_value n (at s z))) (sym (w.moves ∙ set_moves n s z x (form_of (n + 1) e) (tree.value e s) h (form_local n e s z b.below h))) (set x e)
step_acts n k l (picks x) s t c z h b w = acts_at (sym (w.costs ∙ free_value n (at s z))) (sym (w.moves ∙ set_moves n s z x (chosen n) z h (chosen_value n s z h))) (picked x z)
step_acts n k l (picks_in x p q) s t c z h b w =
    let g = hold_two (holds_at (atom_of (n + 1) (fact (Var n) p 0)) (at s z)) (holds_at (atom_of (n + 1) (fact q (Var n) 0)) (at s z)) w.passes in
    acts_at (sym (w.costs ∙ free_value n (at s z))) (sym (w.moves ∙ set_moves n s z x (chosen n) z h (chosen_value n s z h)))
    (picked_in x p q z (gap_from (tree.value p s) z (sym (lower_says n p s z b.0 h) ∙ g.0)) (gap_from z (tree.value q s) (sym (upper_says n q s z b.1 h) ∙ g.1)))
step_acts n k l (pays e) s t c z h b w = acts_at (sym (w.costs ∙ form_local n e s z b.below h)) (sym (w.moves ∙ stays n s z h)) (paid e)
step_acts n k l (tests f) s t c z h b w = acts_at (sym (w.costs ∙ free_value n (at s z))) (sym (w.moves ∙ stays n s z h)) (tested f (sym (case_says n f s z b h) ∙ w.passes))
