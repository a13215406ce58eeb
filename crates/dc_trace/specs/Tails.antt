-- The replay as the code keeps it.
use Rattle.std.specs.Prelude.{◌≡◌, ℕ, ℤ, pos, Bool, true, false, List, [], ◌∷◌, ◌++◌, Option, Some, None, Result, Ok, Err}
use Rattle.std.specs.Borrow.{Bor}
use Rattle.dc_syntax.specs.declared.tree.Stmt.{Stmt, Stmt-F}
use Rattle.dc_trace.specs.declared.walk.Tail.{Tail}
use Rattle.dc_trace.specs.declared.walk.Walk.{Walk}
use Rattle.dc_trace.specs.declared.walk.Halt.{Halt}
use Rattle.dc_trace.specs.declared.walk.Halt.TheVariants as H
use Rattle.dc_trace.specs.declared.run.TraceFault.{TraceFault}
use Rattle.dc_trace.specs.declared.run.TraceFault.TheVariants as T
use Rattle.dc_trace.specs.Replay.{Config, config, is_small, turn_of, Turn, on, stop, no_choice, bad_choice, past, blocked}

-- what is to be done: the tails, the last one first
abbrev pub todo_at : List (Bor (List Stmt)) → List Stmt
todo_at [] = []
todo_at (a ∷ rest) = todo_at rest ++ a.now

-- the next statement is taken from what is to be done, and what follows it in its list too
abbrev pub IsTaken : List Stmt → Option Tail → List Stmt → Type 0
IsTaken A None R = A ≡ []
IsTaken A (Some q) R = (A ≡ q.first.now ∷ (q.rest.now ++ R)) × (q.all.now ≡ q.first.now ∷ q.rest.now)

-- where the replay stands
abbrev pub seen : Walk → Config
seen w = config (todo_at w.tails.items) w.state.items w.cost w.choices.now

-- what a turn answers, and where it leaves the replay; want of memory is free
abbrev pub IsTurn : {A : Type 0} → Turn → Result A Halt → Config → Type 0
IsTurn t (Ok _) y = t ≡ on y
IsTurn t (Err H.NoChoice) y = t ≡ stop no_choice
IsTurn t (Err H.BadChoice) y = t ≡ stop bad_choice
IsTurn t (Err H.Past128) y = t ≡ stop past
IsTurn t (Err H.Blocked) y = t ≡ stop blocked
IsTurn t (Err H.NoMemory) y = Unit {0}

-- a turn of the statement S, with the outermost layer L, with R behind it in its list
abbrev pub Makes : {A : Type 0} → Stmt → Stmt-F Stmt → List Stmt → Walk → Result A Halt → Walk → Type 0
Makes S L R w r v =
    IsTurn (turn_of is_small S L (R ++ todo_at w.tails.items) w.state.items w.cost w.choices.now) r
    (seen v)

-- the next choice of two, 1 or 0; without one or with another number it says which
abbrev pub IsDecided : List ℤ → Result Bool Halt → List ℤ → Type 0
IsDecided zs (Ok true) rest = zs ≡ pos 1 ∷ rest
IsDecided zs (Ok false) rest = zs ≡ pos 0 ∷ rest
IsDecided zs (Err H.NoChoice) rest = zs ≡ []
IsDecided zs (Err H.BadChoice) rest = (z : ℤ) × (zs ≡ z ∷ rest) × (¬ (z ≡ pos 0)) × (¬ (z ≡ pos 1))
IsDecided zs (Err _) rest = ⊥

-- the fault of turn k
abbrev pub fault_of : Halt → ℕ → TraceFault
fault_of H.NoChoice k = T.NoChoice k
fault_of H.BadChoice k = T.BadChoice k
fault_of H.Past128 k = T.Past128 k
fault_of H.Blocked k = T.Blocked k
fault_of H.NoMemory k = T.NoMemory
