-- The laws of systems, each as the contract of a function of `laws` states it.
use Rattle.std.specs.Prelude.{◌≡◌, ◌↔◌, ℕ, ◌-◌, ◌<◌, ◌≤◌, List, [], ◌∷◌, map, length, ℤ, Some, None}
use Rattle.std.specs.List.{AllByRecursion}
use Rattle.dc_math.specs.Members.{Among}
use Rattle.dc_syntax.specs.declared.tree.Proc.{Proc}
use Rattle.dc_syntax.specs.declared.tree.Stmt.{Stmt}
use Rattle.dc_syntax.specs.Value.{State}
use Rattle.dc_syntax.specs.Run.{Run}
use Rattle.dc_syntax.specs.Costs.{start_of, Costs}
use Rattle.dc_syntax.specs.Table.{Then}
use Rattle.dc_system.specs.declared.edges.Edge.{Edge}
use Rattle.dc_system.specs.declared.edges.System.{System}
use Rattle.dc_system.specs.Composed.{compose_of, Crosses}
use Rattle.dc_system.specs.Folded.{fold_at, folded, number_in, renumbered, IsFolded}
use Rattle.dc_system.specs.Spots.{Between}
use Rattle.dc_system.specs.Literals.{numbers_of, literals_of}
use Rattle.dc_program.specs.Programs.{IsProgram}
use Rattle.dc_system.specs.Systems.{system_of, size_fault}
use Rattle.dc_system.specs.Shapes.{IsEdge, IsWellFormed}
use Rattle.dc_system.specs.Paths.{Path}

-- from the entry of a system in state s, at cost c, to its exit in state t
abbrev pub Through : System → State → ℤ → State → Type 0
Through y s c t = Path y.edges 0 s c (y.locs - 1) t

abbrev pub PathsAreRuns : Type 0
PathsAreRuns =
    (p : Proc) → IsProgram p → (s : State) (c : ℤ) (t : State) → length s ≡ length p.names
    → Through (system_of p) s c t ↔ Run p.body s c t

-- a cost of a path through a system from a program's start on an input
abbrev pub CostsThrough : Proc → System → State → ℤ → Type 0
CostsThrough p y v c = (length v ≡ p.params) × (t : State) × Through y (start_of p v) c t

-- the costs of a program on an input are those of the paths through its system from the start state
abbrev pub CostsArePaths : Type 0
CostsArePaths =
    (p : Proc) → IsProgram p → (v : State) (c : ℤ) → Costs p v c ↔ CostsThrough p (system_of p) v c

-- and through its folded system
abbrev pub CostsAreFoldedPaths : Type 0
CostsAreFoldedPaths =
    (p : Proc) (f : System) → IsProgram p → size_fault p ≡ None → IsFolded (system_of p) f
    → (v : State) (c : ℤ) → Costs p v c ↔ CostsThrough p f v c

-- a path keeps the number of variables
abbrev pub PathsKeepLength : Type 0
PathsKeepLength =
    (n : ℕ) (es : List Edge) → AllByRecursion (IsEdge n) es → (k l : ℕ) (s t : State) (c : ℤ)
    → length s ≡ n → Path es k s c l t → length t ≡ n

abbrev pub AreWellFormed : Type 0
AreWellFormed = (p : Proc) → IsProgram p → size_fault p ≡ None → IsWellFormed (system_of p)

-- each smaller than all later ones
abbrev pub Rising : List ℕ → Type 0
Rising [] = Unit {0}
Rising (x ∷ xs) = AllByRecursion (λ y. x < y) xs × Rising xs

abbrev pub LiteralsAreNumbers : Type 0
LiteralsAreNumbers =
    (A : List Stmt) → Rising (literals_of A)
    × ((k : ℕ) → Among k (literals_of A) ↔ Among k (numbers_of A))

-- along the composed edge one gets exactly where one gets along the first edge and then the second
abbrev pub ComposedCrosses : Type 0
ComposedCrosses =
    (n : ℕ) (e f g : Edge) → IsEdge n e → IsEdge n f → compose_of n e f ≡ Some g
    → (s : State) (c : ℤ) (t : State) → length s ≡ n → Crosses g s c t
    ↔ Then (Crosses e) (Crosses f) s c t

-- and it is an edge of a well formed system
abbrev pub ComposedIsEdge : Type 0
ComposedIsEdge =
    (n : ℕ) (e f g : Edge) → n ≤ 10 → IsEdge n e → IsEdge n f → compose_of n e f ≡ Some g
    → IsEdge n g

-- a folded system has the same paths from its entry to its exit, and is well formed
abbrev pub FoldedPaths : Type 0
FoldedPaths =
    (y f : System) → IsWellFormed y → IsFolded y f → (s : State) (c : ℤ) (t : State)
    → length s ≡ y.vars → Through f s c t ↔ Through y s c t

abbrev pub FoldedIsWellFormed : Type 0
FoldedIsWellFormed = (y f : System) → IsWellFormed y → IsFolded y f → IsWellFormed f

-- so the paths of a procedure's folded system are its runs
abbrev pub FoldedPathsAreRuns : Type 0
FoldedPathsAreRuns =
    (p : Proc) (f : System) → IsProgram p → size_fault p ≡ None → IsFolded (system_of p) f
    → (s : State) (c : ℤ) (t : State) → length s ≡ length p.names → Through f s c t
    ↔ Run p.body s c t

-- one fold, before any new numbers, keeps the paths from the entry to the exit x
abbrev pub OneFoldKeepsPaths : Type 0
OneFoldKeepsPaths =
    (n x : ℕ) (es : List Edge) (l : ℕ) (c : Edge) → AllByRecursion (IsEdge n) es
    → fold_at n x es l ≡ Some c
    → (s : State) (a : ℤ) (t : State) → length s ≡ n → Path (folded l c es) 0 s a x t
    ↔ Path es 0 s a x t

-- new numbers for the locations that are left change nothing but the numbers
abbrev pub NewNumbersKeepPaths : Type 0
NewNumbersKeepPaths =
    (left : List ℕ) (es : List Edge) → Between left es → (k y : ℕ) (s t : State) (a : ℤ)
    → Among k left → Among y left
    → Path (map (renumbered left) es) (number_in left k) s a (number_in left y) t ↔ Path es k s a y t

-- each well formed system has a folded one
abbrev pub SomeFolded : Type 0
SomeFolded = (s : System) → IsWellFormed s → (t : System) × IsFolded s t

-- one system alone is another one folded
abbrev pub OneFolded : Type 0
OneFolded = (s t u : System) → IsFolded s t → IsFolded s u → t ≡ u
