-- What later crates require of a whole procedure: its variables are declared, and every form and
-- condition passes.
use Rattle.std.specs.Prelude.{◌≡◌, ℕ, Bool, true, false, ◌&&◌, ltb, List, [], ◌∷◌, length, Some, None}
use Rattle.std.specs.declared.option.Option.{Option}
use Rattle.std.specs.Option.{option_or}
use Rattle.dc_syntax.specs.declared.tree.Stmt.{Stmt, Stmt-F, fold-Stmt}
use Rattle.dc_syntax.specs.declared.tree.Stmt.TheOpen.{Skip, Assign, AnyOf, Between, Tick, Assume, If, IfAny, While, WhileAny}
use Rattle.dc_syntax.specs.declared.tree.Proc.{Proc}
use Rattle.dc_affine.specs.declared.form.FormFault.{FormFault}
use Rattle.dc_affine.specs.Forms.{is_below, fault_of, affine_fault}
use Rattle.dc_affine.specs.Atoms.{cond_is_below, dnf_fault}

-- the first fault of a statement's own forms and conditions, without the statements inside it
abbrev pub statement_fault : {A : Type 0} → ℕ → Stmt-F A → Option FormFault
statement_fault n Skip = None
statement_fault n (Assign k e) = fault_of n e
statement_fault n (AnyOf k) = None
statement_fault n (Between k a b) = option_or (affine_fault n a) (affine_fault n b)
statement_fault n (Tick e) = fault_of n e
statement_fault n (Assume c) = dnf_fault n c false
statement_fault n (If c A B) = option_or (dnf_fault n c false) (dnf_fault n c true)
statement_fault n (IfAny A B) = None
statement_fault n (While c A) = option_or (dnf_fault n c false) (dnf_fault n c true)
statement_fault n (WhileAny A) = None

-- the variables of its own forms and conditions are below n
abbrev pub statement_below : {A : Type 0} → ℕ → Stmt-F A → Bool
statement_below n Skip = true
statement_below n (Assign k e) = ltb k n && is_below n e
statement_below n (AnyOf k) = ltb k n
statement_below n (Between k a b) = ltb k n && is_below n a && is_below n b
statement_below n (Tick e) = is_below n e
statement_below n (Assume c) = cond_is_below n c
statement_below n (If c A B) = cond_is_below n c
statement_below n (IfAny A B) = true
statement_below n (While c A) = cond_is_below n c
statement_below n (WhileAny A) = true

abbrev pub no_fault : Option FormFault → Bool
no_fault None = true
no_fault (Some f) = false

abbrev pub each : List Bool → Bool
each [] = true
each (b ∷ bs) = b && each bs

-- the tests of the statements inside a statement
abbrev pub inner : Stmt-F Bool → Bool
inner (If c A B) = each A && each B
inner (IfAny A B) = each A && each B
inner (While c A) = each A
inner (WhileAny A) = each A
inner Skip = true
inner (Assign k e) = true
inner (AnyOf k) = true
inner (Between k a b) = true
inner (Tick e) = true
inner (Assume c) = true

-- a statement passes where it, and each statement inside it, names declared variables and has no fault
abbrev pub pass_step : ℕ → Stmt-F Bool → Bool
pass_step n L = statement_below n L && no_fault (statement_fault n L) && inner L

abbrev pub statement_passes : ℕ → Stmt → Bool
statement_passes n S = fold-Stmt Bool (pass_step n) S

abbrev pub all_pass : ℕ → List Stmt → Bool
all_pass n [] = true
all_pass n (S ∷ R) = statement_passes n S && all_pass n R

-- every form and condition of a procedure passes
abbrev pub FormsPass : Proc → Type 0
FormsPass p = all_pass (length p.names) p.body ≡ true
