-- The table of the language: what a run of each statement is, read by its first step.
use Rattle.std.specs.Prelude.{◌≡◌, ◌⊎◌, ℕ, List, [], ◌∷◌, ℤ, pos, ◌+ℤ◌, ◌≤ℤ◌, slice_set, true, false}
use Rattle.dc_syntax.specs.declared.tree.Stmt.{Stmt, Stmt-F, out-Stmt}
use Rattle.dc_syntax.specs.declared.tree.Stmt.TheOpen.{Skip, Assign, AnyOf, Between, Tick, Assume, If, IfAny, While, WhileAny}
use Rattle.dc_syntax.specs.Value.{State, value, truth}
use Rattle.dc_syntax.specs.Run.{One, Run}

-- from a state, at a cost, to a state
abbrev pub Moves : Type 1
Moves = State → ℤ → State → Type 0

-- nothing changes, at cost 0
abbrev pub Stays : Moves
Stays s c t = (c ≡ pos 0) × (t ≡ s)

-- one move and then another; the costs add
abbrev pub Then : Moves → Moves → Moves
Then P Q s c t = (m : State) × (a : ℤ) × (b : ℤ) × P s a m × Q m b t × (c ≡ a +ℤ b)

-- place k takes the number z, at cost 0
abbrev pub Sets : ℕ → ℤ → Moves
Sets k z s c t = (c ≡ pos 0) × (t ≡ slice_set s k z)

abbrev pub Does : Stmt-F Stmt → Moves
Does Skip s c t = Stays s c t
Does (Assign k e) s c t = Sets k (value e s) s c t
Does (AnyOf k) s c t = (z : ℤ) × Sets k z s c t
Does (Between k a b) s c t = (z : ℤ) × (value a s ≤ℤ z) × (z ≤ℤ value b s) × Sets k z s c t
Does (Tick e) s c t = (c ≡ value e s) × (t ≡ s)
Does (Assume b) s c t = (truth b s ≡ true) × Stays s c t
Does (If b A B) s c t = ((truth b s ≡ true) × Run A s c t) ⊎ ((truth b s ≡ false) × Run B s c t)
Does (IfAny A B) s c t = Run A s c t ⊎ Run B s c t
Does (While b A) s c t =
    ((truth b s ≡ false) × Stays s c t)
    ⊎ ((truth b s ≡ true) × Then (Run A) (One (While b A)) s c t)
Does (WhileAny A) s c t = Stays s c t ⊎ Then (Run A) (One (WhileAny A)) s c t

abbrev pub DoesAll : List Stmt → Moves
DoesAll [] s c t = Stays s c t
DoesAll (S ∷ R) s c t = Then (One (out-Stmt S)) (Run R) s c t
