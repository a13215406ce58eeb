-- A procedure with a loop for each cost has a text, whose brackets nest three deep at most.
use Rattle.std.proofs.Common.{◌≡◌, ℕ, suc, ◌≤◌, true, ◌&&◌, ltb, List, [], ◌∷◌, codes, refl, ap, ◌∙◌, arith}
use Rattle.std.specs.Prelude.{max}
use Rattle.std.specs.List.{IsDistinct}
use Rattle.std.specs.Str.{bytes_eq}
use Rattle.dc_tokens.specs.Spelling.{word_kind}
use Rattle.dc_syntax.specs.declared.tree.Expr.TheVariants.{Num, Var, Add}
use Rattle.dc_syntax.specs.declared.tree.Rel.TheVariants.{Lt}
use Rattle.dc_syntax.specs.declared.tree.Stmt.TheVariants.{Assign, Tick}
use Rattle.dc_syntax.specs.declared.layer.Layer.TheVariants.{Middle}
use Rattle.dc_printed.specs.Fits.{IsName, IsWritable, fits, cond_fits, stmt_fits, stmts_fit}
use Rattle.dc_printed.proofs.Measures.{depth}
use Rattle.dc_printed.proofs.Needs.{Part, need_in, cond_part, part-Num, part-Var, part-Add, part-Cmp}
use Rattle.dc_printed.proofs.StmtNeeds.{need_of, need_all, need-Assign, need-Tick, need-While}
use Rattle.dc_printed.proofs.Fewest.{need_proc}
use Rattle.dc_printed.proofs.Parts.{fits-Num, fits-Var, fits-Add, fits-Cmp}
use Rattle.dc_printed.proofs.Spelled.{are_names}
use Rattle.dc_printed.proofs.StmtParts.{fits-Assign, fits-Tick, fits-While}
use Rattle.dc_sample_laws.specs.Procedures.{loop_of, loops_of, sample_proc}
use Rattle.dc_sample_laws.proofs.Forms.{AreLiterals, to_leb, test}

-- ---- its names

name_s : IsName (codes "s")
unfolding word_kind
name_s = record { word = refl; no_keyword = refl }

name_n : IsName (codes "n")
unfolding word_kind
name_n = record { word = refl; no_keyword = refl }

name_i : IsName (codes "i")
unfolding word_kind
name_i = record { word = refl; no_keyword = refl }

distinct : IsDistinct bytes_eq (codes "n" ∷ codes "i" ∷ [])
unfolding IsDistinct
distinct = ((refl, tt), (tt, tt))

-- ---- its parts are in range

num_fits : (c : ℕ) → c ≤ 2147483647 → fits 2 (Num c) ≡ true
num_fits c h = fits-Num 2 c ∙ to_leb c 2147483647 h

next_fits : fits 2 (Add (Var 1) (Num 1)) ≡ true
next_fits = fits-Add 2 (Var 1) (Num 1) ∙ (λ j. fits-Var 2 1 j && fits-Num 2 1 j)

test_fits : cond_fits 2 test ≡ true
test_fits = fits-Cmp 2 (Var 1) Lt (Var 0) ∙ (λ j. fits-Var 2 1 j && fits-Var 2 0 j)

start_fits : stmt_fits 2 (Assign 1 (Num 0)) ≡ true
start_fits = fits-Assign 2 1 (Num 0) ∙ ap (λ b. ltb 1 2 && b) (fits-Num 2 0)

loop_fits : (c : ℕ) → c ≤ 2147483647 → stmt_fits 2 (loop_of c) ≡ true
loop_fits c h = fits-While 2 test (Tick (Num c) ∷ Assign 1 (Add (Var 1) (Num 1)) ∷ []) ∙ (λ j. test_fits j && (pay j && (next j && true)))
  where
    pay : stmt_fits 2 (Tick (Num c)) ≡ true
    pay = fits-Tick 2 (Num c) ∙ num_fits c h

    next : stmt_fits 2 (Assign 1 (Add (Var 1) (Num 1))) ≡ true
    next = fits-Assign 2 1 (Add (Var 1) (Num 1)) ∙ ap (λ b. ltb 1 2 && b) next_fits

loops_fit : (costs : List ℕ) → AreLiterals costs → stmts_fit 2 (loops_of costs) ≡ true
loops_fit [] h = refl
loops_fit (c ∷ cs) h = λ j. start_fits j && (loop_fits c h.0 j && loops_fit cs h.1 j)

pub sample_writable : (costs : List ℕ) → AreLiterals costs → IsWritable (sample_proc costs)
sample_writable costs h = record {
  name = name_s;
  names = are_names (codes "n" ∷ codes "i" ∷ []) (name_n, (name_i, tt));
  different = distinct;
  params = omega arith;
  body = loops_fit costs h;
}

-- ---- its brackets

start_need : need_of depth (Assign 1 (Num 0)) ≡ 0
start_need = need-Assign depth 1 (Num 0) ∙ ap (λ (w : Part). w.need) (part-Num depth 0)

loop_need : (c : ℕ) → need_of depth (loop_of c) ≡ 1
loop_need c =
    need-While depth test (Tick (Num c) ∷ Assign 1 (Add (Var 1) (Num 1)) ∷ [])
    ∙ (λ j. max (suc (compared j)) (suc (max (pay j) (max (next j) 0))))
  where
    compared : (cond_part depth test).need ≡ 0
    compared = ap (λ (w : Part). w.need) (part-Cmp depth (Var 1) Lt (Var 0)) ∙ (λ j. max (part-Var depth 1 j).need (part-Var depth 0 j).need)

    pay : need_of depth (Tick (Num c)) ≡ 0
    pay = need-Tick depth (Num c) ∙ ap (λ (w : Part). w.need) (part-Num depth c)

    next : need_of depth (Assign 1 (Add (Var 1) (Num 1))) ≡ 0
    next =
        need-Assign depth 1 (Add (Var 1) (Num 1))
        ∙ (ap (λ (w : Part). w.need) (part-Add depth (Var 1) (Num 1)) ∙ (λ j. max (part-Var depth 1 j).need (need_in Middle (part-Num depth 1 j))))

loops_need : (costs : List ℕ) → need_all depth (loops_of costs) ≤ 1
loops_need [] = omega arith
loops_need (c ∷ cs) = let a = start_need in let b = loop_need c in let h = loops_need cs in omega arith

pub sample_need : (costs : List ℕ) → need_proc depth (loops_of costs) ≤ 64
sample_need costs = let h = loops_need costs in omega arith
