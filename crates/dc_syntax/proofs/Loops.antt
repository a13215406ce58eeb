-- Invariants of loops: P says something of the cost so far and the state.
use Rattle.std.proofs.Common.{◌≡◌, subst, sym, ℤ, pos, List, true, false}
use Rattle.std.specs.Prelude.{◌+ℤ◌}
use Rattle.std.proofs.Math.IntN.{+ℤ_assoc, +ℤ_idl, +ℤ_idr}
use Rattle.dc_syntax.specs.declared.tree.Stmt.{Stmt}
use Rattle.dc_syntax.specs.declared.tree.Stmt.TheOpen.{While, WhileAny}
use Rattle.dc_syntax.specs.declared.tree.Cond.{Cond}
use Rattle.dc_syntax.specs.Value.{State, truth}
use Rattle.dc_syntax.specs.Run.{One, Run, while_done, while_turn, any_done, any_turn}

-- each turn of the body from a state of which g holds keeps P
abbrev pub Keeps : (State → Type 0) → List Stmt → (ℤ → State → Type 0) → Type 0
Keeps g A P = (x : ℤ) (s : State) (c : ℤ) (t : State) → g s → P x s → Run A s c t → P (x +ℤ c) t

pub While-keeps_from : (P : ℤ → State → Type 0) (b : Cond) (A : List Stmt) → Keeps (λ s. truth b s ≡ true) A P
    → {s t : State} {c : ℤ} (x : ℤ) → One (While b A) s c t → P x s → P (x +ℤ c) t × (truth b t ≡ false)
While-keeps_from P b A step {s = s} x (while_done b' A' h) p = (subst (λ y. P y s) (sym (+ℤ_idr x)) p, h)
While-keeps_from P b A step {t = t} x (while_turn {s = s} {m = m} {c = c} {d = d} b' A' h r rest) p =
    let q : P (x +ℤ c +ℤ d) t × (truth b t ≡ false) = While-keeps_from P b A step (x +ℤ c) rest (step x s c m h p r) in
    (subst (λ y. P y t) (+ℤ_assoc x c d) q.0, q.1)

pub WhileAny-keeps_from : (P : ℤ → State → Type 0) (A : List Stmt) → Keeps (λ s. Unit {0}) A P
    → {s t : State} {c : ℤ} (x : ℤ) → One (WhileAny A) s c t → P x s → P (x +ℤ c) t
WhileAny-keeps_from P A step {s = s} x (any_done A') p = subst (λ y. P y s) (sym (+ℤ_idr x)) p
WhileAny-keeps_from P A step {t = t} x (any_turn {s = s} {m = m} {c = c} {d = d} A' r rest) p =
    subst (λ y. P y t) (+ℤ_assoc x c d) (WhileAny-keeps_from P A step (x +ℤ c) rest (step x s c m tt p r))

-- from cost 0
pub While-keeps : (P : ℤ → State → Type 0) (b : Cond) (A : List Stmt) → Keeps (λ s. truth b s ≡ true) A P
    → {s t : State} {c : ℤ} → One (While b A) s c t → P (pos 0) s → P c t × (truth b t ≡ false)
While-keeps P b A step {t = t} {c = c} r p =
    let q : P (pos 0 +ℤ c) t × (truth b t ≡ false) = While-keeps_from P b A step (pos 0) r p in
    (subst (λ y. P y t) (+ℤ_idl c) q.0, q.1)

pub WhileAny-keeps : (P : ℤ → State → Type 0) (A : List Stmt) → Keeps (λ s. Unit {0}) A P
    → {s t : State} {c : ℤ} → One (WhileAny A) s c t → P (pos 0) s → P c t
WhileAny-keeps P A step {t = t} {c = c} r p = subst (λ y. P y t) (+ℤ_idl c) (WhileAny-keeps_from P A step (pos 0) r p)
