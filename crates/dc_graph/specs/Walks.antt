-- What a label does to a state, and the walks through a graph.
use Rattle.std.specs.Prelude.{◌≡◌, ℕ, zero, suc, List, slice_set, ℤ, pos, ◌+ℤ◌, ◌≤ℤ◌, true}
use Rattle.dc_math.specs.Members.{Among}
use Rattle.dc_syntax.specs.declared.tree.Expr.{Expr}
use Rattle.dc_syntax.specs.Value.{State, value}
use Rattle.dc_affine.specs.Table.{Fact, all_of}
use Rattle.dc_graph.specs.Labels.{Label, Arrow, arrow, idle, sets, picks, picks_in, pays, tests}

-- from a state, at a cost, to a state
pub data Acts : Label → State → ℤ → State → Type 0 where
  idles : {s : State} → Acts idle s (pos 0) s
  set : {s : State} (x : ℕ) (e : Expr) → Acts (sets x e) s (pos 0) (slice_set s x (value e s))
  picked : {s : State} (x : ℕ) (z : ℤ) → Acts (picks x) s (pos 0) (slice_set s x z)
  picked_in : {s : State} (x : ℕ) (a b : Expr) (z : ℤ) → value a s ≤ℤ z → z ≤ℤ value b s
      → Acts (picks_in x a b) s (pos 0) (slice_set s x z)
  paid : {s : State} (e : Expr) → Acts (pays e) s (value e s) s
  tested : {s : State} (f : List Fact) → all_of f s ≡ true → Acts (tests f) s (pos 0) s

-- a walk of n steps, from a number and a state at a cost to a number and a state; the costs of the
-- steps add up
pub data Walk (E : List Arrow) : ℕ → ℕ → State → ℤ → ℕ → State → Type 0 where
  done : {l : ℕ} {s : State} → Walk E zero l s (pos 0) l s
  step : {n k l : ℕ} {s m t : State} {c d : ℤ} (j : ℕ) (a : Label) → Among (arrow k j a) E
      → Acts a s c m → Walk E n j m d l t → Walk E (suc n) k s (c +ℤ d) l t

-- a walk of any number of steps
abbrev pub Walks : List Arrow → ℕ → State → ℤ → ℕ → State → Type 0
Walks E k s c l t = (n : ℕ) × Walk E n k s c l t
