-- What is wrong with forms, conditions and statements is never want of memory.
use Rattle.std.specs.List.{AllByRecursion}
use Rattle.std.proofs.Common.{◌≢◌, sym, subst, ℕ, Bool, true, false, cond, ltb, List, [], ◌∷◌, ◌++◌, map, length, Some, None}
use Rattle.std.specs.declared.option.Option.{Option}
use Rattle.std.specs.Option.{option_or}
use Rattle.dc_syntax.specs.Trees.{EachExpr, EachCond, EachStmt}
use Rattle.dc_syntax.specs.declared.tree.Expr.{Expr, Expr-F, map-Expr, fold-roll-Expr}
use Rattle.dc_syntax.specs.declared.tree.Expr.TheOpen as F
use Rattle.dc_syntax.specs.declared.tree.Cond.{Cond, Cond-F, map-Cond, fold-roll-Cond}
use Rattle.dc_syntax.specs.declared.tree.Cond.TheOpen as G
use Rattle.dc_syntax.specs.declared.tree.Stmt.{Stmt, Stmt-F, map-Stmt, fold-roll-Stmt}
use Rattle.dc_syntax.specs.declared.tree.Stmt.TheOpen.{Skip, Assign, AnyOf, Between, Tick, Assume, If, IfAny, While, WhileAny}
use Rattle.dc_syntax.proofs.Inductions.{Expr-induction, Cond-induction, Stmt-induction}
use Rattle.dc_poly.specs.Terms.{TermList, degree_of}
use Rattle.dc_poly.specs.NormalForm.{coefs_fit}
use Rattle.dc_affine.specs.declared.form.FormFault.{FormFault}
use Rattle.dc_affine.specs.declared.form.FormFault.TheVariants.{DegreeTooHigh, CoefficientRange, NotAffine, ConditionTooWide, NoMemory}
use Rattle.dc_affine.specs.Forms.{range_fault, own_fault, Formed, form_step, formed, fault_of, bend, affine_fault}
use Rattle.dc_affine.specs.Table.{facts_of}
use Rattle.dc_affine.specs.Atoms.{gap_of, gap_fault, comparison_step, comparison_fault, width_fault, dnf_fault}
use Rattle.dc_affine.specs.Whole.{statement_fault}
use Rattle.dc_parse.specs.Forms.{joined, inner_faults, faults_step, faults_in, all_faults}

abbrev pub IsOther : Option FormFault → Type 0
IsOther None = Unit {0}
IsOther (Some f) = f ≢ NoMemory

both_other : (a b : Option FormFault) → IsOther a → IsOther b → IsOther (option_or a b)
both_other None b h k = k
both_other (Some f) b h k = h

if_other : (b : Bool) (f : FormFault) (o : Option FormFault) → f ≢ NoMemory → IsOther o → IsOther (cond b (Some f) o)
if_other true f o h k = h
if_other false f o h k = k

-- ---- forms
range_other : (p : TermList) → IsOther (range_fault p)
range_other p = go (coefs_fit p)
  where
    go : (b : Bool) → IsOther (cond b None (Some CoefficientRange))
    go true = tt
    go false = λ e. cc

own_other : (p : TermList) → IsOther (own_fault p)
own_other p = if_other (ltb 2 (degree_of p)) DegreeTooHigh (range_fault p) (λ e. cc) (range_other p)

gap_other : (p : TermList) → IsOther (gap_fault p)
gap_other p = if_other (ltb 1 (degree_of p)) NotAffine (range_fault p) (λ e. cc) (range_other p)

bend_other : (p : TermList) → IsOther (bend p)
bend_other p = if_other (ltb 1 (degree_of p)) NotAffine None (λ e. cc) tt

abbrev IsOwn : ℕ → Expr → Type 0
IsOwn n e = IsOther (fault_of n e)

two_other : (a b : Option FormFault) (p : TermList) → IsOther a → IsOther b → IsOther (option_or (option_or a b) (own_fault p))
two_other a b p h k = both_other (option_or a b) (own_fault p) (both_other a b h k) (own_other p)

expr_step : (n : ℕ) (L : Expr-F Expr) → EachExpr (IsOwn n) L → IsOther (form_step n (map-Expr Expr Formed (formed n) L)).fault
expr_step n (F.Num k) h = own_other (form_step n (F.Num k)).terms
expr_step n (F.Var k) h = own_other (form_step n (F.Var k)).terms
expr_step n (F.Neg a) h = both_other (fault_of n a) _ h (own_other (form_step n (F.Neg (formed n a))).terms)
expr_step n (F.Add a b) h = two_other (fault_of n a) (fault_of n b) (form_step n (F.Add (formed n a) (formed n b))).terms h.0 h.1
expr_step n (F.Sub a b) h = two_other (fault_of n a) (fault_of n b) (form_step n (F.Sub (formed n a) (formed n b))).terms h.0 h.1
expr_step n (F.Mul a b) h = two_other (fault_of n a) (fault_of n b) (form_step n (F.Mul (formed n a) (formed n b))).terms h.0 h.1

form_other : (n : ℕ) (e : Expr) → IsOwn n e
form_other n e =
    Expr-induction (IsOwn n) (λ L h. subst (λ (z : Formed). IsOther z.fault) (sym (fold-roll-Expr Formed (form_step n) L)) (expr_step n L h)) e

affine_other : (n : ℕ) (e : Expr) → IsOther (affine_fault n e)
affine_other n e = both_other (fault_of n e) (bend (formed n e).terms) (form_other n e) (bend_other (formed n e).terms)

-- ---- conditions
abbrev IsCompared : ℕ → Cond → Type 0
IsCompared n c = IsOther (comparison_fault n c)

sides_other : (n : ℕ) (a b : Expr) → IsOther (option_or (fault_of n a) (option_or (fault_of n b) (gap_fault (gap_of n a b))))
sides_other n a b =
    both_other (fault_of n a) _ (form_other n a) (both_other (fault_of n b) (gap_fault (gap_of n a b)) (form_other n b) (gap_other (gap_of n a b)))

cond_step : (n : ℕ) (L : Cond-F Cond) → EachCond (IsCompared n) L → IsOther (comparison_step n (map-Cond Cond (Option FormFault) (comparison_fault n) L))
cond_step n G.True h = tt
cond_step n G.False h = tt
cond_step n (G.Cmp a r b) h = sides_other n a b
cond_step n (G.Not c) h = h
cond_step n (G.And c d) h = both_other (comparison_fault n c) (comparison_fault n d) h.0 h.1
cond_step n (G.Or c d) h = both_other (comparison_fault n c) (comparison_fault n d) h.0 h.1

comparison_other : (n : ℕ) (c : Cond) → IsCompared n c
comparison_other n c =
    Cond-induction (IsCompared n) (λ L h. subst IsOther (sym (fold-roll-Cond (Option FormFault) (comparison_step n) L)) (cond_step n L h)) c

pub dnf_other : (n : ℕ) (c : Cond) (negated : Bool) → IsOther (dnf_fault n c negated)
dnf_other n c negated =
    both_other (comparison_fault n c) (width_fault c negated) (comparison_other n c)
    (if_other (ltb 64 (length (facts_of c negated))) ConditionTooWide None (λ e. cc) tt)

-- ---- statements
either_other : (n : ℕ) (c : Cond) → IsOther (option_or (dnf_fault n c false) (dnf_fault n c true))
either_other n c = both_other (dnf_fault n c false) (dnf_fault n c true) (dnf_other n c false) (dnf_other n c true)

statement_other : {A : Type 0} (n : ℕ) (L : Stmt-F A) → IsOther (statement_fault n L)
statement_other n Skip = tt
statement_other n (Assign k e) = form_other n e
statement_other n (AnyOf k) = tt
statement_other n (Between k a b) = both_other (affine_fault n a) (affine_fault n b) (affine_other n a) (affine_other n b)
statement_other n (Tick e) = form_other n e
statement_other n (Assume c) = dnf_other n c false
statement_other n (If c A B) = either_other n c
statement_other n (IfAny A B) = tt
statement_other n (While c A) = either_other n c
statement_other n (WhileAny A) = tt

abbrev pub AreOther : List (Option FormFault) → Type 0
AreOther [] = Unit {0}
AreOther (o ∷ os) = IsOther o × AreOther os

joined_other : (xs ys : List (Option FormFault)) → AreOther xs → AreOther ys → AreOther (xs ++ ys)
joined_other [] ys h k = k
joined_other (x ∷ xs) ys h k = (h.0, joined_other xs ys h.1 k)

abbrev IsClean : ℕ → Stmt → Type 0
IsClean n S = AreOther (faults_in n S)

list_other : (n : ℕ) (A : List Stmt) → AllByRecursion (IsClean n) A → AreOther (joined (map (faults_in n) A))
list_other n [] h = tt
list_other n (S ∷ R) h = joined_other (faults_in n S) (joined (map (faults_in n) R)) h.0 (list_other n R h.1)

inner_other : (n : ℕ) (L : Stmt-F Stmt) → EachStmt (IsClean n) L → AreOther (inner_faults (map-Stmt Stmt (List (Option FormFault)) (faults_in n) L))
inner_other n (If c A B) h = joined_other (joined (map (faults_in n) A)) (joined (map (faults_in n) B)) (list_other n A h.0) (list_other n B h.1)
inner_other n (IfAny A B) h = joined_other (joined (map (faults_in n) A)) (joined (map (faults_in n) B)) (list_other n A h.0) (list_other n B h.1)
inner_other n (While c A) h = list_other n A h
inner_other n (WhileAny A) h = list_other n A h
inner_other n Skip h = tt
inner_other n (Assign k e) h = tt
inner_other n (AnyOf k) h = tt
inner_other n (Between k a b) h = tt
inner_other n (Tick e) h = tt
inner_other n (Assume c) h = tt

stmt_step : (n : ℕ) (L : Stmt-F Stmt) → EachStmt (IsClean n) L → AreOther (faults_step n (map-Stmt Stmt (List (Option FormFault)) (faults_in n) L))
stmt_step n L h = (statement_other n (map-Stmt Stmt (List (Option FormFault)) (faults_in n) L), inner_other n L h)

stmt_other : (n : ℕ) (S : Stmt) → IsClean n S
stmt_other n S =
    Stmt-induction (IsClean n) (λ L h. subst AreOther (sym (fold-roll-Stmt (List (Option FormFault)) (faults_step n) L)) (stmt_step n L h)) S

pub all_other : (n : ℕ) (A : List Stmt) → AreOther (all_faults n A)
all_other n [] = tt
all_other n (S ∷ R) = joined_other (faults_in n S) (all_faults n R) (stmt_other n S) (all_other n R)
