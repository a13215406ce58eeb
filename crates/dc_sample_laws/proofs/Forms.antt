-- The forms of a procedure with a loop for each cost: none has a fault, and each is small.
use Rattle.std.proofs.Common.{◌≡◌, ℕ, zero, suc, ◌+◌, ◌≤◌, Bool, true, false, ◌&&◌, leb, List, [], ◌∷◌, ◌++◌, Option, None, refl, ap, ◌∙◌, pos, arith}
use Rattle.std.proofs.lemmas.Bool.Decides.{nat_tests}
use Rattle.std.specs.Option.{option_or}
use Rattle.std.specs.List.{AllByRecursion}
use Rattle.dc_syntax.specs.declared.tree.Expr.TheVariants.{Num, Var, Add}
use Rattle.dc_syntax.specs.declared.tree.Rel.TheVariants.{Lt}
use Rattle.dc_syntax.specs.declared.tree.Cond.{Cond}
use Rattle.dc_syntax.specs.declared.tree.Cond.TheVariants.{Cmp}
use Rattle.dc_syntax.specs.declared.tree.Cond.TheOpen as G
use Rattle.dc_syntax.specs.declared.tree.Stmt.TheVariants.{Assign, Tick}
use Rattle.dc_poly.specs.Sums.{plus, negated, constant_of}
use Rattle.dc_affine.specs.declared.form.FormFault.{FormFault}
use Rattle.dc_affine.specs.Forms.{Formed, judged, form_step, fault_of}
use Rattle.dc_affine.specs.Table.{Fact, facts_step, facts_of}
use Rattle.dc_affine.specs.Atoms.{gap_fault, comparison_step, comparison_fault, dnf_fault}
use Rattle.dc_affine.proofs.FormLaws.{formed-Num, formed-Var}
use Rattle.dc_program.specs.Limits.{literals_step, literals_fit, cond_literals_step, cond_literals_fit, operators_step, operators, cond_operators_step, cond_operators, is_limited, cond_is_limited, limits_step, stmt_is_limited, all_limited}
use Rattle.dc_parse.specs.Forms.{faults_step, faults_in, all_faults, first_form, tail_of}
use Rattle.dc_parse.proofs.Folds.{at_num, at_var, at_add, at_cmp, at_assign, at_tick, at_while}
use Rattle.dc_sample_laws.specs.Procedures.{loop_of, loops_of}

-- the costs are literals
abbrev pub AreLiterals : List ℕ → Type 0
AreLiterals costs = AllByRecursion (λ c. c ≤ 2147483647) costs

pub to_leb : (n limit : ℕ) → n ≤ limit → leb n limit ≡ true
to_leb n limit h = grind (arith, nat_tests)

-- the test of a loop
abbrev pub test : Cond
test = Cmp (Var 1) Lt (Var 0)

-- ---- faults

num_faultless : (c : ℕ) → c ≤ 2147483647 → fault_of 2 (Num c) ≡ None
num_faultless c h = ap (λ (f : Formed). f.fault) (formed-Num 2 c) ∙ go c h
  where
    go : (c : ℕ) → c ≤ 2147483647 → (judged None (constant_of (pos c) 2)).fault ≡ None
    go zero h = refl
    go (suc c) h = rw (to_leb (suc c) 2147483647 h) refl

-- of a sum
abbrev sum_fault : Formed → Formed → Option FormFault
sum_fault a b = (judged (option_or a.fault b.fault) (plus a.terms b.terms)).fault

next_faultless : fault_of 2 (Add (Var 1) (Num 1)) ≡ None
next_faultless = ap (λ (f : Formed). f.fault) (at_add Formed (form_step 2) (Var 1) (Num 1)) ∙ (λ j. sum_fault (formed-Var 2 1 j) (formed-Num 2 1 j))

-- of the sides of a comparison
abbrev pub sides : Formed → Formed → Option FormFault
sides a b = option_or a.fault (option_or b.fault (gap_fault (plus a.terms (negated b.terms))))

compared_faultless : comparison_fault 2 test ≡ None
compared_faultless = at_cmp (Option FormFault) (comparison_step 2) (Var 1) Lt (Var 0) ∙ (λ j. sides (formed-Var 2 1 j) (formed-Var 2 0 j))

facts_cmp : (negated : Bool) → facts_of test negated ≡ facts_step (G.Cmp (Var 1) Lt (Var 0)) negated
facts_cmp negated = ap (λ (f : Bool → List (List Fact)). f negated) (at_cmp (Bool → List (List Fact)) facts_step (Var 1) Lt (Var 0))

test_faultless : (negated : Bool) → dnf_fault 2 test negated ≡ None
test_faultless false = rw (compared_faultless, facts_cmp false) refl
test_faultless true = rw (compared_faultless, facts_cmp true) refl

start_faults : faults_in 2 (Assign 1 (Num 0)) ≡ None ∷ []
start_faults = at_assign (List (Option FormFault)) (faults_step 2) 1 (Num 0) ∙ ap (λ o. o ∷ []) (num_faultless 0 (omega arith))

pay_faults : (c : ℕ) → c ≤ 2147483647 → faults_in 2 (Tick (Num c)) ≡ None ∷ []
pay_faults c h = at_tick (List (Option FormFault)) (faults_step 2) (Num c) ∙ ap (λ o. o ∷ []) (num_faultless c h)

next_faults : faults_in 2 (Assign 1 (Add (Var 1) (Num 1))) ≡ None ∷ []
next_faults = at_assign (List (Option FormFault)) (faults_step 2) 1 (Add (Var 1) (Num 1)) ∙ ap (λ o. o ∷ []) next_faultless

loop_faults : (c : ℕ) → c ≤ 2147483647 → faults_in 2 (loop_of c) ≡ None ∷ None ∷ None ∷ []
loop_faults c h =
    at_while (List (Option FormFault)) (faults_step 2) test (Tick (Num c) ∷ Assign 1 (Add (Var 1) (Num 1)) ∷ [])
    ∙ (λ j. option_or (test_faultless false j) (test_faultless true j) ∷ (pay_faults c h j ++ (next_faults j ++ [])))

pub no_faults : (ps costs : List ℕ) → AreLiterals costs → first_form ps (all_faults 2 (loops_of costs)) ≡ None
no_faults ps [] h = refl
no_faults ps (c ∷ cs) h =
    ap (first_form ps) (λ j. start_faults j ++ (loop_faults c h.0 j ++ all_faults 2 (loops_of cs)))
    ∙ no_faults (tail_of (tail_of (tail_of (tail_of ps)))) cs h.1

-- ---- limits

num_limited : (c : ℕ) → c ≤ 2147483647 → is_limited (Num c) ≡ true
num_limited c h = (λ j. at_num Bool literals_step c j && leb (at_num ℕ operators_step c j) 64) ∙ rw (to_leb c 2147483647 h) refl

next_limited : is_limited (Add (Var 1) (Num 1)) ≡ true
next_limited = λ j. literals j && leb (count j) 64
  where
    literals : literals_fit (Add (Var 1) (Num 1)) ≡ true
    literals = at_add Bool literals_step (Var 1) (Num 1) ∙ (λ j. at_var Bool literals_step 1 j && at_num Bool literals_step 1 j)

    count : operators (Add (Var 1) (Num 1)) ≡ 1
    count = at_add ℕ operators_step (Var 1) (Num 1) ∙ (λ j. at_var ℕ operators_step 1 j + (1 + at_num ℕ operators_step 1 j))

test_limited : cond_is_limited test ≡ true
test_limited = λ j. literals j && leb (count j) 64
  where
    literals : cond_literals_fit test ≡ true
    literals = at_cmp Bool cond_literals_step (Var 1) Lt (Var 0) ∙ (λ j. at_var Bool literals_step 1 j && at_var Bool literals_step 0 j)

    count : cond_operators test ≡ 0
    count = at_cmp ℕ cond_operators_step (Var 1) Lt (Var 0) ∙ (λ j. at_var ℕ operators_step 1 j + at_var ℕ operators_step 0 j)

start_limited : stmt_is_limited (Assign 1 (Num 0)) ≡ true
start_limited = at_assign Bool limits_step 1 (Num 0) ∙ (λ j. num_limited 0 (omega arith) j && true)

loop_limited : (c : ℕ) → c ≤ 2147483647 → stmt_is_limited (loop_of c) ≡ true
loop_limited c h =
    at_while Bool limits_step test (Tick (Num c) ∷ Assign 1 (Add (Var 1) (Num 1)) ∷ [])
    ∙ (λ j. test_limited j && (pay j && (next j && true)))
  where
    pay : stmt_is_limited (Tick (Num c)) ≡ true
    pay = at_tick Bool limits_step (Num c) ∙ (λ j. num_limited c h j && true)

    next : stmt_is_limited (Assign 1 (Add (Var 1) (Num 1))) ≡ true
    next = at_assign Bool limits_step 1 (Add (Var 1) (Num 1)) ∙ (λ j. next_limited j && true)

pub loops_limited : (costs : List ℕ) → AreLiterals costs → all_limited (loops_of costs) ≡ true
loops_limited [] h = refl
loops_limited (c ∷ cs) h = λ j. start_limited j && (loop_limited c h.0 j && loops_limited cs h.1 j)
