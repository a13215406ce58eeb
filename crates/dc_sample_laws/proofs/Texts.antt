-- The printed text of a procedure with a loop for each cost is the source of these costs.
use Rattle.std.proofs.Common.{◌≡◌, ℕ, List, [], ◌∷◌, ◌++◌, codes, refl, ap, ◌∙◌, arith, append_assoc}
use Rattle.std.specs.Fmt.{decimal}
use Rattle.std.proofs.lemmas.Fmt.{decimal_digit}
use Rattle.dc_syntax.specs.declared.tree.Expr.TheVariants.{Num, Var, Add}
use Rattle.dc_syntax.specs.declared.tree.Expr.TheOpen as F
use Rattle.dc_syntax.specs.declared.tree.Rel.TheVariants.{Lt}
use Rattle.dc_syntax.specs.declared.tree.Stmt.TheVariants.{Assign, Tick}
use Rattle.dc_syntax.specs.Text.{Written, expr_step, expr_text, cond_step, cond_text, stmt_step, stmt_text, stmts_text, text_of}
use Rattle.dc_parse.proofs.Folds.{at_num, at_var, at_add, at_cmp, at_assign, at_tick, at_while}
use Rattle.dc_sample.specs.Sample.{blocks_text, source_text}
use Rattle.dc_sample_laws.specs.Procedures.{loop_of, loops_of, sample_proc}
use Rattle.dc_sample_laws.proofs.Forms.{test}

abbrev names : List (List ℕ)
names = codes "n" ∷ codes "i" ∷ []

num_text : (c : ℕ) → expr_text names (Num c) ≡ decimal c
num_text c = ap (λ (w : Written). w.text) (at_num Written (expr_step names) c)

next_text : expr_text names (Add (Var 1) (Num 1)) ≡ codes "i + 1"
next_text =
    ap (λ (w : Written). w.text) (at_add Written (expr_step names) (Var 1) (Num 1) ∙ (λ j. expr_step names (F.Add (at_var Written (expr_step names) 1 j) (at_num Written (expr_step names) 1 j))))
    ∙ ap (λ t. codes "i + " ++ t) (decimal_digit 1 (omega arith))

test_text : cond_text names test ≡ codes "i < n"
test_text =
    ap (λ (w : Written). w.text) (at_cmp Written (cond_step names) (Var 1) Lt (Var 0))
    ∙ (λ j. (at_var Written (expr_step names) 1 j).text ++ (codes " < " ++ (at_var Written (expr_step names) 0 j).text))

start_text : stmt_text names (Assign 1 (Num 0)) ≡ codes "i = 0;\n"
start_text = at_assign (List ℕ) (stmt_step names) 1 (Num 0) ∙ ap (λ t. codes "i = " ++ (t ++ codes ";\n")) (num_text 0 ∙ decimal_digit 0 (omega arith))

pay_text : (c : ℕ) → stmt_text names (Tick (Num c)) ≡ codes "tick " ++ (decimal c ++ codes ";\n")
pay_text c = at_tick (List ℕ) (stmt_step names) (Num c) ∙ ap (λ t. codes "tick " ++ (t ++ codes ";\n")) (num_text c)

count_text : stmt_text names (Assign 1 (Add (Var 1) (Num 1))) ≡ codes "i = i + 1;\n"
count_text = at_assign (List ℕ) (stmt_step names) 1 (Add (Var 1) (Num 1)) ∙ ap (λ t. codes "i = " ++ (t ++ codes ";\n")) next_text

loop_text : (c : ℕ) → stmt_text names (loop_of c) ≡ codes "while (i < n) {\ntick " ++ (decimal c ++ codes ";\ni = i + 1;\n}\n")
loop_text c =
    at_while (List ℕ) (stmt_step names) test (Tick (Num c) ∷ Assign 1 (Add (Var 1) (Num 1)) ∷ [])
    ∙ ((λ j. codes "while (" ++ (test_text j ++ (codes ") {\n" ++ ((pay_text c j ++ (count_text j ++ [])) ++ codes "}\n"))))
    ∙ ap (λ t. codes "while (i < n) {\ntick " ++ t) (grouped (decimal c)))
  where
    grouped : (t : List ℕ) → ((t ++ codes ";\n") ++ codes "i = i + 1;\n") ++ codes "}\n" ≡ t ++ codes ";\ni = i + 1;\n}\n"
    grouped t = append_assoc (t ++ codes ";\n") _ _ ∙ append_assoc t _ _

loops_text : (costs : List ℕ) → stmts_text names (loops_of costs) ≡ blocks_text costs
loops_text [] = refl
loops_text (c ∷ cs) =
    λ j. start_text j ++ (loop_text c j ++ loops_text cs j)

pub sample_text : (costs : List ℕ) → text_of (sample_proc costs) ≡ source_text costs
sample_text costs = ap (λ t. codes "proc s(n) {\nvar i;\n" ++ (t ++ codes "}\n")) (loops_text costs)
