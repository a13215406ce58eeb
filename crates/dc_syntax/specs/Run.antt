-- The finished runs: `Run A s c t` says that the list A can finish from state s in state t at cost c,
-- and `One S s c t` says it of one statement, seen as its outermost layer. Each has a finite derivation
-- by the rules below; what has no derivation doesn't finish.
use Rattle.std.specs.Prelude.{◌≡◌, ℕ, List, [], ◌∷◌, slice_set, ℤ, pos, ◌+ℤ◌, ◌≤ℤ◌, true, false}
use Rattle.dc_syntax.specs.declared.tree.Stmt.{Stmt, Stmt-F, out-Stmt}
use Rattle.dc_syntax.specs.declared.tree.Stmt.TheOpen.{Skip, Assign, AnyOf, Between, Tick, Assume, If, IfAny, While, WhileAny}
use Rattle.dc_syntax.specs.declared.tree.Expr.{Expr}
use Rattle.dc_syntax.specs.declared.tree.Cond.{Cond}
use Rattle.dc_syntax.specs.Value.{State, value, truth}

mutual
  pub data One : Stmt-F Stmt → State → ℤ → State → Type 0 where
    -- nothing changes, at cost 0
    skip : {s : State} → One Skip s (pos 0) s
    -- place k takes the value of e
    assign : {s : State} (k : ℕ) (e : Expr) → One (Assign k e) s (pos 0) (slice_set s k (value e s))
    -- place k takes any whole number
    any_of : {s : State} (k : ℕ) (z : ℤ) → One (AnyOf k) s (pos 0) (slice_set s k z)
    -- place k takes any number from the value of a to the value of b; there is no run where there
    -- is none
    between : {s : State} (k : ℕ) (a b : Expr) (z : ℤ) → value a s ≤ℤ z → z ≤ℤ value b s
        → One (Between k a b) s (pos 0) (slice_set s k z)
    -- the cost is the value of e, which may be negative
    tick : {s : State} (e : Expr) → One (Tick e) s (value e s) s
    -- it passes where b is true; there is no run where it is false
    assume : {s : State} (b : Cond) → truth b s ≡ true → One (Assume b) s (pos 0) s
    -- the arm that b chooses
    if_true : {s t : State} {c : ℤ} (b : Cond) (A B : List Stmt) → truth b s ≡ true → Run A s c t
        → One (If b A B) s c t
    if_false : {s t : State} {c : ℤ} (b : Cond) (A B : List Stmt) → truth b s ≡ false → Run B s c t
        → One (If b A B) s c t
    -- either arm
    if_left : {s t : State} {c : ℤ} (A B : List Stmt) → Run A s c t → One (IfAny A B) s c t
    if_right : {s t : State} {c : ℤ} (A B : List Stmt) → Run B s c t → One (IfAny A B) s c t
    -- it ends where b is false; where b is true, the body runs and then the loop again
    while_done : {s : State} (b : Cond) (A : List Stmt) → truth b s ≡ false
        → One (While b A) s (pos 0) s
    while_turn : {s m t : State} {c d : ℤ} (b : Cond) (A : List Stmt) → truth b s ≡ true
        → Run A s c m → One (While b A) m d t → One (While b A) s (c +ℤ d) t
    -- it ends or goes on by choice
    any_done : {s : State} (A : List Stmt) → One (WhileAny A) s (pos 0) s
    any_turn : {s m t : State} {c d : ℤ} (A : List Stmt) → Run A s c m → One (WhileAny A) m d t
        → One (WhileAny A) s (c +ℤ d) t

  pub data Run : List Stmt → State → ℤ → State → Type 0 where
    -- the empty list changes nothing, at cost 0
    none : {s : State} → Run [] s (pos 0) s
    -- the first statement runs, then the rest, and the costs add
    more : {s m t : State} {c d : ℤ} (S : Stmt) (R : List Stmt) → One (out-Stmt S) s c m
        → Run R m d t → Run (S ∷ R) s (c +ℤ d) t
