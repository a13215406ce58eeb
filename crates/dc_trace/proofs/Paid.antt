-- What a replay pays is a cost of the list of statements that it does.
use Rattle.std.specs.Prelude.{◌≡◌, ℕ, zero, suc, List, [], ◌∷◌, ◌++◌, length, slice_set, ℤ, pos, negsuc, ◌+ℤ◌, ◌≤ℤ◌, ◌&&◌, int_le, Bool, true, false, if◌then◌else◌, T, Some, refl}
use Rattle.std.proofs.Common.{sym, ◌∙◌, ap, subst, arith}
use Rattle.std.proofs.lemmas.Int.{ints}
use Rattle.std.proofs.Math.IntN.{+ℤ_idr}
use Rattle.std.proofs.lemmas.Bool.{and_parts}
use lib.Signed.{le_z_yes}
use Rattle.dc_syntax.specs.declared.tree.Cond.{Cond}
use Rattle.dc_syntax.specs.declared.tree.Stmt.{Stmt, Stmt-F, out-Stmt}
use Rattle.dc_syntax.specs.declared.tree.Stmt.TheOpen.{Skip, Assign, AnyOf, Between, Tick, Assume, If, IfAny, While, WhileAny}
use Rattle.dc_syntax.specs.declared.tree.Proc.{Proc}
use Rattle.dc_syntax.specs.Value.{State, value, truth}
use Rattle.dc_syntax.specs.Run.{One, Run, skip, assign, any_of, between, tick, assume, if_true, if_false, if_left, if_right, while_done, while_turn, any_done, any_turn, none, more}
use Rattle.dc_syntax.specs.Table.{DoesAll}
use Rattle.dc_syntax.specs.Costs.{Costs, start_of}
use Rattle.dc_syntax.proofs.Runs.{Run-split, Run-does}
use Rattle.dc_trace.specs.Replay.{Config, config, start, bad_choice, no_choice, on, chosen, act, turn_fits, turn_of, turn_in, Leads}
use Rattle.dc_trace.specs.Ends.{Pays}
use Rattle.dc_trace.proofs.Turns.{on_same, stop_not, allowed_on, limited_on}

pub le_of : (a b : ℤ) → int_le a b ≡ true → a ≤ℤ b
le_of a b e = le_z_yes (subst T (sym e) tt)

-- each run from y is the end of a run from x, at the same cost in all
abbrev pub Back : List Stmt → State → ℤ → Config → Type 0
Back A s c y = (d : ℤ) (t : State) → Run y.todo y.state d t → (e : ℤ) × Run A s e t × (c +ℤ e ≡ y.cost +ℤ d)

-- a statement that is done in one step
step_back : (S : Stmt) (R : List Stmt) (s m : State) (c a c' : ℤ) (zs : List ℤ) → One (out-Stmt S) s a m → c' ≡ c +ℤ a → Back (S ∷ R) s c (config R m c' zs)
step_back S R s m c a c' zs one q d t r = (a +ℤ d, more S R one r, omega (arith, ints, q))

-- one that puts a list in front
list_back : (S : Stmt) (A R : List Stmt) (s : State) (c : ℤ) (zs : List ℤ) → ((a : ℤ) (m : State) → Run A s a m → One (out-Stmt S) s a m) → Back (S ∷ R) s c (config (A ++ R) s c zs)
list_back S A R s c zs f d t r =
    let h = Run-split A R r in
    (h.1 +ℤ h.2, more S R (f h.1 h.0 h.3) h.4, ap (λ x. c +ℤ x) (sym h.5))

-- one that puts a list and itself in front
loop_back : (S : Stmt) (A R : List Stmt) (s : State) (c : ℤ) (zs : List ℤ)
    → ((a b : ℤ) (m t : State) → Run A s a m → One (out-Stmt S) m b t → One (out-Stmt S) s (a +ℤ b) t) → Back (S ∷ R) s c (config (A ++ S ∷ R) s c zs)
loop_back S A R s c zs f d t r =
    let h = Run-split A (S ∷ R) r in
    let g : DoesAll (S ∷ R) h.0 h.2 t = Run-does h.4 in
    ((h.1 +ℤ g.1) +ℤ g.2, more S R (f h.1 g.1 h.0 g.0 h.3 g.3) g.4, (let p = h.5 in let q = g.5 in omega (arith, ints, p, q)))

back_to : (A : List Stmt) (s : State) (c : ℤ) (z y : Config) → on z ≡ on y → Back A s c z → Back A s c y
back_to A s c z y e b = subst (Back A s c) (on_same z y e) b

chosen_back : (A : List Stmt) (s : State) (c z : ℤ) (x w y : Config) → chosen z x w ≡ on y → Back A s c x → Back A s c w → Back A s c y
chosen_back A s c (pos zero) x w y e f g = back_to A s c w y e g
chosen_back A s c (pos (suc zero)) x w y e f g = back_to A s c x y e f
chosen_back A s c (pos (suc (suc k))) x w y e f g = absurd (stop_not bad_choice y e)
chosen_back A s c (negsuc k) x w y e f g = absurd (stop_not bad_choice y e)

if_back : (S : Stmt) (b : Cond) (A B R : List Stmt) (s : State) (c : ℤ) (zs : List ℤ) → out-Stmt S ≡ If b A B → (t : Bool) → truth b s ≡ t → Back (S ∷ R) s c (config ((if t then A else B) ++ R) s c zs)
if_back S b A B R s c zs o true h = list_back S A R s c zs (λ a m r. subst (λ l. One l s a m) (sym o) (if_true b A B h r))
if_back S b A B R s c zs o false h = list_back S B R s c zs (λ a m r. subst (λ l. One l s a m) (sym o) (if_false b A B h r))

while_back : (S : Stmt) (b : Cond) (A R : List Stmt) (s : State) (c : ℤ) (zs : List ℤ) → out-Stmt S ≡ While b A → (t : Bool) → truth b s ≡ t → Back (S ∷ R) s c (config (if t then A ++ S ∷ R else R) s c zs)
while_back S b A R s c zs o true h =
    loop_back S A R s c zs (λ a d m t r one. subst (λ l. One l s (a +ℤ d) t) (sym o) (while_turn b A h r (subst (λ l. One l m d t) o one)))
while_back S b A R s c zs o false h = step_back S R s s c (pos 0) c zs (subst (λ l. One l s (pos 0) s) (sym o) (while_done b A h)) (sym (+ℤ_idr c))

act_back : (S : Stmt) (L : Stmt-F Stmt) (R : List Stmt) (s : State) (c : ℤ) (zs : List ℤ) (y : Config) → out-Stmt S ≡ L → act S L R s c zs ≡ on y → Back (S ∷ R) s c y
act_back S Skip R s c zs y o e = back_to (S ∷ R) s c _ y e (step_back S R s s c (pos 0) c zs (subst (λ l. One l s (pos 0) s) (sym o) skip) (sym (+ℤ_idr c)))
act_back S (Assign k a) R s c zs y o e =
    back_to (S ∷ R) s c _ y e (step_back S R s (slice_set s k (value a s)) c (pos 0) c zs (subst (λ l. One l s (pos 0) (slice_set s k (value a s))) (sym o) (assign k a)) (sym (+ℤ_idr c)))
act_back S (AnyOf k) R s c [] y o e = absurd (stop_not no_choice y e)
act_back S (AnyOf k) R s c (z ∷ zs) y o e =
    back_to (S ∷ R) s c _ y e (step_back S R s (slice_set s k z) c (pos 0) c zs (subst (λ l. One l s (pos 0) (slice_set s k z)) (sym o) (any_of k z)) (sym (+ℤ_idr c)))
act_back S (Between k a b) R s c [] y o e = absurd (stop_not no_choice y e)
act_back S (Between k a b) R s c (z ∷ zs) y o e =
    let p = allowed_on (int_le (value a s) z && int_le z (value b s)) (config R (slice_set s k z) c zs) y e in
    let q = and_parts (int_le (value a s) z) (int_le z (value b s)) p.0 in
    back_to (S ∷ R) s c _ y p.1
    (step_back S R s (slice_set s k z) c (pos 0) c zs (subst (λ l. One l s (pos 0) (slice_set s k z)) (sym o) (between k a b z (le_of (value a s) z q.0) (le_of z (value b s) q.1))) (sym (+ℤ_idr c)))
act_back S (Tick a) R s c zs y o e = back_to (S ∷ R) s c _ y e (step_back S R s s c (value a s) (c +ℤ value a s) zs (subst (λ l. One l s (value a s) s) (sym o) (tick a)) refl)
act_back S (Assume b) R s c zs y o e =
    let p = allowed_on (truth b s) (config R s c zs) y e in
    back_to (S ∷ R) s c _ y p.1 (step_back S R s s c (pos 0) c zs (subst (λ l. One l s (pos 0) s) (sym o) (assume b p.0)) (sym (+ℤ_idr c)))
act_back S (If b A B) R s c zs y o e = back_to (S ∷ R) s c _ y e (if_back S b A B R s c zs o (truth b s) refl)
act_back S (IfAny A B) R s c [] y o e = absurd (stop_not no_choice y e)
act_back S (IfAny A B) R s c (z ∷ zs) y o e =
    chosen_back (S ∷ R) s c z _ _ y e (list_back S A R s c zs (λ a m r. subst (λ l. One l s a m) (sym o) (if_left A B r))) (list_back S B R s c zs (λ a m r. subst (λ l. One l s a m) (sym o) (if_right A B r)))
act_back S (While b A) R s c zs y o e = back_to (S ∷ R) s c _ y e (while_back S b A R s c zs o (truth b s) refl)
act_back S (WhileAny A) R s c [] y o e = absurd (stop_not no_choice y e)
act_back S (WhileAny A) R s c (z ∷ zs) y o e =
    chosen_back (S ∷ R) s c z _ _ y e (loop_back S A R s c zs (λ a d m t r one. subst (λ l. One l s (a +ℤ d) t) (sym o) (any_turn A r (subst (λ l. One l m d t) o one))))
    (step_back S R s s c (pos 0) c zs (subst (λ l. One l s (pos 0) s) (sym o) (any_done A)) (sym (+ℤ_idr c)))

module _ (fits : ℤ → Bool) where
  turn_back : (A : List Stmt) (s : State) (c : ℤ) (zs : List ℤ) (y : Config) → turn_in fits A s c zs ≡ Some (on y) → Back A s c y
  turn_back [] s c zs y e = cc
  turn_back (S ∷ R) s c zs y e = act_back S (out-Stmt S) R s c zs y refl (limited_on (turn_fits fits (out-Stmt S) s c) (act S (out-Stmt S) R s c zs) y (same_turn e))
    where
      same_turn : Some (turn_of fits S (out-Stmt S) R s c zs) ≡ Some (on y) → turn_of fits S (out-Stmt S) R s c zs ≡ on y
      same_turn e = cc

  leads_back : (n : ℕ) (x y : Config) → Leads fits n x y → Back x.todo x.state x.cost y
  leads_back zero x y h d t r = (d, subst (λ z. Run z.todo z.state d t) (sym h) r, ap (λ z. z.cost +ℤ d) h)
  leads_back (suc n) x y h d t r =
      let g = turn_back h.0.todo h.0.state h.0.cost h.0.choices y h.2 d t r in
      let f = leads_back n x h.0 h.1 g.0 t g.1 in
      (f.0, f.1, f.2 ∙ g.2)

  pub paid_is_cost : (turns : ℕ) (p : Proc) (v : State) (zs : List ℤ) (c : ℤ) → length v ≡ p.params → Pays fits turns (start p v zs) c → Costs p v c
  paid_is_cost turns p v zs c l h =
      let y = h.0 in
      let r : Run y.todo y.state (pos 0) y.state = subst (λ A. Run A y.state (pos 0) y.state) (sym h.1.done) none in
      let b = leads_back h.1.count (start p v zs) y h.1.leads (pos 0) y.state r in
      let e : b.0 ≡ c = (let q = b.2 in let k = h.3 in omega (arith, ints, q, k)) in
      (l, y.state, subst (λ d. Run p.body (start_of p v) d y.state) e b.1)
