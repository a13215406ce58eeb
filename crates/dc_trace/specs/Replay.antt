-- The replay of a run: one turn after the other takes a statement away, and each choice is told.
-- `fits` says which numbers may occur: `is_small` where the code replays, `any_number` for whole
-- numbers without a bound.
use Rattle.std.specs.Prelude.{◌≡◌, ℕ, zero, suc, ◌^◌, ltb, List, [], ◌∷◌, ◌++◌, slice_set, ℤ, pos, ◌+ℤ◌, int_le, unsigned_abs, Bool, true, false, ◌&&◌, if◌then◌else◌, Option, Some, None}
use Rattle.dc_syntax.specs.declared.tree.Expr.{Expr}
use Rattle.dc_syntax.specs.declared.tree.Stmt.{Stmt, Stmt-F, out-Stmt}
use Rattle.dc_syntax.specs.declared.tree.Stmt.TheOpen.{Skip, Assign, AnyOf, Between, Tick, Assume, If, IfAny, While, WhileAny}
use Rattle.dc_syntax.specs.declared.tree.Proc.{Proc}
use Rattle.dc_syntax.specs.Value.{State, value, truth}
use Rattle.dc_syntax.specs.Costs.{start_of}
use Rattle.dc_trace.specs.Parts.{parts_of}

-- where a replay stands: the statements to do, the state, the cost so far, and the choices that are
-- left
pub record Config : Type 0 where
  pub todo : List Stmt
  pub state : State
  pub cost : ℤ
  pub choices : List ℤ

abbrev pub config : List Stmt → State → ℤ → List ℤ → Config
config A s c zs = record { todo = A; state = s; cost = c; choices = zs }

-- the body is to be done, from the input and 0 for each local
abbrev pub start : Proc → State → List ℤ → Config
start p v zs = config p.body (start_of p v) (pos 0) zs

-- why a turn ends the replay: no choice is left, a choice is neither 0 nor 1, a number doesn't fit,
-- an `assume` or a range bars the run
pub data Why : Type 0 where
  no_choice : Why
  bad_choice : Why
  past : Why
  blocked : Why

-- what a turn comes to
pub data Turn : Type 0 where
  on : Config → Turn
  stop : Why → Turn

-- 1 is the first, 0 the second
abbrev pub chosen : ℤ → Config → Config → Turn
chosen (pos zero) x y = on y
chosen (pos (suc zero)) x y = on x
chosen z x y = stop bad_choice

-- it goes on where the test is true
abbrev pub allowed : Bool → Config → Turn
allowed true y = on y
allowed false y = stop blocked

-- what the statement S, with the outermost layer L, does: R is to be done behind it
abbrev pub act : Stmt → Stmt-F Stmt → List Stmt → State → ℤ → List ℤ → Turn
act S Skip R s c zs = on (config R s c zs)
act S (Assign k e) R s c zs = on (config R (slice_set s k (value e s)) c zs)
act S (AnyOf k) R s c [] = stop no_choice
act S (AnyOf k) R s c (z ∷ zs) = on (config R (slice_set s k z) c zs)
act S (Between k a b) R s c [] = stop no_choice
act S (Between k a b) R s c (z ∷ zs) =
    allowed (int_le (value a s) z && int_le z (value b s)) (config R (slice_set s k z) c zs)
act S (Tick e) R s c zs = on (config R s (c +ℤ value e s) zs)
act S (Assume b) R s c zs = allowed (truth b s) (config R s c zs)
act S (If b A B) R s c zs = on (config ((if truth b s then A else B) ++ R) s c zs)
act S (IfAny A B) R s c [] = stop no_choice
act S (IfAny A B) R s c (z ∷ zs) = chosen z (config (A ++ R) s c zs) (config (B ++ R) s c zs)
act S (While b A) R s c zs = on (config (if truth b s then A ++ S ∷ R else R) s c zs)
act S (WhileAny A) R s c [] = stop no_choice
act S (WhileAny A) R s c (z ∷ zs) = chosen z (config (A ++ S ∷ R) s c zs) (config R s c zs)

-- where a number doesn't fit: faults of choices count before it, a bar after it
abbrev pub limited : Bool → Turn → Turn
limited true t = t
limited false (stop no_choice) = stop no_choice
limited false (stop bad_choice) = stop bad_choice
limited false _ = stop past

-- ---- the numbers that occur

-- of size at most 2^127 - 1
abbrev pub is_small : ℤ → Bool
is_small z = ltb (unsigned_abs z) (2 ^ 127)

abbrev pub any_number : ℤ → Bool
any_number z = true

module _ (fits : ℤ → Bool) where
  abbrev pub all_fit : State → List Expr → Bool
  all_fit s [] = true
  all_fit s (e ∷ es) = fits (value e s) && all_fit s es

  -- a new cost
  abbrev pub cost_fits : {A : Type 0} → Stmt-F A → State → ℤ → Bool
  cost_fits (Tick e) s c = fits (c +ℤ value e s)
  cost_fits _ s c = true

  -- the value of each subexpression, and the new cost
  abbrev pub turn_fits : {A : Type 0} → Stmt-F A → State → ℤ → Bool
  turn_fits L s c = all_fit s (parts_of L) && cost_fits L s c

  -- a turn of the statement S, with the outermost layer L
  abbrev pub turn_of : Stmt → Stmt-F Stmt → List Stmt → State → ℤ → List ℤ → Turn
  turn_of S L R s c zs = limited (turn_fits L s c) (act S L R s c zs)

  -- a turn, where a statement is to be done
  abbrev pub turn_in : List Stmt → State → ℤ → List ℤ → Option Turn
  turn_in [] s c zs = None
  turn_in (S ∷ R) s c zs = Some (turn_of S (out-Stmt S) R s c zs)

  abbrev pub turn : Config → Option Turn
  turn x = turn_in x.todo x.state x.cost x.choices

  -- n turns lead from x to y
  abbrev pub Leads : ℕ → Config → Config → Type 0
  Leads zero x y = x ≡ y
  Leads (suc n) x y = (m : Config) × Leads n x m × (turn m ≡ Some (on y))
