-- The first statement whose forms or conditions have a fault, in preorder.
use Rattle.std.specs.Prelude.{◌≡◌, ℕ, Bool, ◌&&◌, List, [], ◌∷◌, ◌++◌, map, Some, None}
use Rattle.std.specs.declared.option.Option.{Option}
use Rattle.dc_syntax.specs.declared.tree.Stmt.{Stmt, Stmt-F, fold-Stmt}
use Rattle.dc_syntax.specs.declared.tree.Stmt.TheOpen.{Skip, Assign, AnyOf, Between, Tick, Assume, If, IfAny, While, WhileAny}
use Rattle.dc_affine.specs.declared.form.FormFault.{FormFault}
use Rattle.dc_affine.specs.declared.form.FormFault.TheVariants as f
use Rattle.dc_affine.specs.Whole.{statement_fault, statement_below, inner, each}
use Rattle.dc_parse.specs.declared.fault.Fault.{Fault}
use Rattle.dc_parse.specs.declared.fault.Kind.{Kind}
use Rattle.dc_parse.specs.declared.fault.Kind.TheVariants as k
use Rattle.dc_parse.specs.Faults.{fault}

abbrev pub form_kind : FormFault → Kind
form_kind f.DegreeTooHigh = k.DegreeTooHigh
form_kind f.CoefficientRange = k.CoefficientRange
form_kind f.NotAffine = k.NotAffine
form_kind f.ConditionTooWide = k.ConditionTooWide
form_kind f.NoMemory = k.NoMemory

-- ---- the faults of statements, one or none for each, in preorder

abbrev pub joined : {A : Type 0} → List (List A) → List A
joined [] = []
joined (x ∷ xs) = x ++ joined xs

abbrev pub inner_faults : Stmt-F (List (Option FormFault)) → List (Option FormFault)
inner_faults (If c A B) = joined A ++ joined B
inner_faults (IfAny A B) = joined A ++ joined B
inner_faults (While c A) = joined A
inner_faults (WhileAny A) = joined A
inner_faults Skip = []
inner_faults (Assign k e) = []
inner_faults (AnyOf k) = []
inner_faults (Between k a b) = []
inner_faults (Tick e) = []
inner_faults (Assume c) = []

abbrev pub faults_step : ℕ → Stmt-F (List (Option FormFault)) → List (Option FormFault)
faults_step n L = statement_fault n L ∷ inner_faults L

-- of a statement over so many places, and of those inside it
abbrev pub faults_in : ℕ → Stmt → List (Option FormFault)
faults_in n S = fold-Stmt (List (Option FormFault)) (faults_step n) S

abbrev pub all_faults : ℕ → List Stmt → List (Option FormFault)
all_faults n [] = []
all_faults n (S ∷ R) = faults_in n S ++ all_faults n R

-- ---- the first of them

abbrev pub head_of : List ℕ → ℕ
head_of [] = 0
head_of (p ∷ ps) = p

abbrev pub tail_of : List ℕ → List ℕ
tail_of [] = []
tail_of (p ∷ ps) = ps

-- the first fault, at the offset of its statement, where the statements begin at these offsets
abbrev pub first_form : List ℕ → List (Option FormFault) → Option Fault
first_form ps [] = None
first_form ps (None ∷ fs) = first_form (tail_of ps) fs
first_form ps (Some f ∷ fs) = Some (fault (form_kind f) (head_of ps))

-- ---- the variables of statements, and of those inside them, are below n

abbrev pub below_step : ℕ → Stmt-F Bool → Bool
below_step n L = statement_below n L && inner L

abbrev pub stmt_below : ℕ → Stmt → Bool
stmt_below n S = fold-Stmt Bool (below_step n) S

abbrev pub all_below : ℕ → List Stmt → Bool
all_below n A = each (map (stmt_below n) A)
