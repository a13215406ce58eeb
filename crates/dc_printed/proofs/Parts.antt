-- The text and the range of an expression or a condition, by its parts.
use Rattle.std.proofs.Common.{◌≡◌, ℕ, ◌<◌, ◌≤◌, Bool, true, false, ◌&&◌, ltb, leb, List, [], ◌∷◌, ◌++◌, refl, ◌∙◌, arith}
use Rattle.std.proofs.Math.Bool.{and-true}
use Rattle.std.specs.Prelude.{slice_index_or}
use Rattle.std.specs.Fmt.{decimal}
use Rattle.std.proofs.lemmas.Bool.Decides.{nat_tests}
use Rattle.dc_syntax.specs.declared.tree.Expr.{Expr, Num, Var, Neg, Add, Sub, Mul, roll-Expr, fold-roll-Expr}
use Rattle.dc_syntax.specs.declared.tree.Expr.TheOpen as F
use Rattle.dc_syntax.specs.declared.layer.Layer.TheVariants.{Loose, Middle, Tight}
use Rattle.dc_syntax.specs.Text.{Written, expr_in, expr_step, written_expr, expr_text, rel_text, cond_in, cond_step, written_cond}
use Rattle.dc_syntax.specs.declared.tree.Rel.{Rel}
use Rattle.dc_syntax.specs.declared.tree.Cond.{Cond, True, False, Cmp, Not, And, Or, roll-Cond, fold-roll-Cond}
use Rattle.dc_syntax.specs.declared.tree.Cond.TheOpen as G
use Rattle.dc_affine.specs.Forms.{is_below, below_step}
use Rattle.dc_affine.specs.Atoms.{cond_is_below, cond_below_step}
use Rattle.dc_program.specs.Limits.{literals_fit, literals_step, cond_literals_fit, cond_literals_step}
use Rattle.dc_parse.proofs.Folds.{at_num, at_var, at_neg, at_add, at_sub, at_mul, at_cmp, at_not, at_and, at_or}
use Rattle.dc_printed.specs.Fits.{fits, cond_fits}

pub number_in_range : (n : ℕ) → leb n 2147483647 ≡ true → n ≤ 2147483647
number_in_range n h = grind (arith, nat_tests)

pub below : {i n : ℕ} → ltb i n ≡ true → i < n
below {i} {n} h = grind (arith, nat_tests)

pub pair_up : (a b c d : Bool) → (a && b && (c && d)) ≡ (a && c && (b && d))
pair_up false b c d = refl
pair_up true true c d = refl
pair_up true false true d = refl
pair_up true false false d = refl

pub written-Num : (names : List (List ℕ)) (n : ℕ) → written_expr names (Num n) ≡ record { text = decimal n; layer = Tight }
unfolding roll-Expr denote.Hole.Carrier.roll
written-Num names n = fold-roll-Expr Written (expr_step names) (F.Num n)

pub fits-Num : (m : ℕ) (n : ℕ) → fits m (Num n) ≡ leb n 2147483647
fits-Num m n = λ j. at_num Bool (below_step m) n j && at_num Bool literals_step n j

pub written-Var : (names : List (List ℕ)) (i : ℕ) → written_expr names (Var i) ≡ record { text = slice_index_or names i []; layer = Tight }
unfolding roll-Expr denote.Hole.Carrier.roll
written-Var names i = fold-roll-Expr Written (expr_step names) (F.Var i)

pub fits-Var : (m : ℕ) (i : ℕ) → fits m (Var i) ≡ ltb i m
fits-Var m i = (λ j. at_var Bool (below_step m) i j && at_var Bool literals_step i j) ∙ and-true (ltb i m)

pub written-Neg : (names : List (List ℕ)) (a : Expr) → written_expr names (Neg a) ≡ record { text = 45 ∷ expr_in Tight (written_expr names a); layer = Tight }
unfolding roll-Expr denote.Hole.Carrier.roll
written-Neg names a = fold-roll-Expr Written (expr_step names) (F.Neg a)

pub fits-Neg : (m : ℕ) (a : Expr) → fits m (Neg a) ≡ fits m a
fits-Neg m a = λ j. at_neg Bool (below_step m) a j && at_neg Bool literals_step a j

pub written-Add : (names : List (List ℕ)) (a b : Expr) → written_expr names (Add a b) ≡ record { text = (written_expr names a).text ++ (32 ∷ 43 ∷ 32 ∷ expr_in Middle (written_expr names b)); layer = Loose }
unfolding roll-Expr denote.Hole.Carrier.roll
written-Add names a b = fold-roll-Expr Written (expr_step names) (F.Add a b)

pub fits-Add : (m : ℕ) (a b : Expr) → fits m (Add a b) ≡ (fits m a && fits m b)
fits-Add m a b = (λ j. at_add Bool (below_step m) a b j && at_add Bool literals_step a b j) ∙ pair_up (is_below m a) (is_below m b) (literals_fit a) (literals_fit b)

pub written-Sub : (names : List (List ℕ)) (a b : Expr) → written_expr names (Sub a b) ≡ record { text = (written_expr names a).text ++ (32 ∷ 45 ∷ 32 ∷ expr_in Middle (written_expr names b)); layer = Loose }
unfolding roll-Expr denote.Hole.Carrier.roll
written-Sub names a b = fold-roll-Expr Written (expr_step names) (F.Sub a b)

pub fits-Sub : (m : ℕ) (a b : Expr) → fits m (Sub a b) ≡ (fits m a && fits m b)
fits-Sub m a b = (λ j. at_sub Bool (below_step m) a b j && at_sub Bool literals_step a b j) ∙ pair_up (is_below m a) (is_below m b) (literals_fit a) (literals_fit b)

pub written-Mul : (names : List (List ℕ)) (a b : Expr) → written_expr names (Mul a b) ≡ record { text = expr_in Middle (written_expr names a) ++ (32 ∷ 42 ∷ 32 ∷ expr_in Tight (written_expr names b)); layer = Middle }
unfolding roll-Expr denote.Hole.Carrier.roll
written-Mul names a b = fold-roll-Expr Written (expr_step names) (F.Mul a b)

pub fits-Mul : (m : ℕ) (a b : Expr) → fits m (Mul a b) ≡ (fits m a && fits m b)
fits-Mul m a b = (λ j. at_mul Bool (below_step m) a b j && at_mul Bool literals_step a b j) ∙ pair_up (is_below m a) (is_below m b) (literals_fit a) (literals_fit b)

-- ---- conditions

pub written-True : (names : List (List ℕ)) → written_cond names True ≡ record { text = 116 ∷ 114 ∷ 117 ∷ 101 ∷ []; layer = Tight }
unfolding roll-Cond denote.Hole.Carrier.roll
written-True names = fold-roll-Cond Written (cond_step names) G.True

pub written-False : (names : List (List ℕ)) → written_cond names False ≡ record { text = 102 ∷ 97 ∷ 108 ∷ 115 ∷ 101 ∷ []; layer = Tight }
unfolding roll-Cond denote.Hole.Carrier.roll
written-False names = fold-roll-Cond Written (cond_step names) G.False

pub written-Cmp : (names : List (List ℕ)) (a : Expr) (r : Rel) (b : Expr) → written_cond names (Cmp a r b) ≡ record { text = expr_text names a ++ (rel_text r ++ expr_text names b); layer = Tight }
unfolding roll-Cond denote.Hole.Carrier.roll
written-Cmp names a r b = fold-roll-Cond Written (cond_step names) (G.Cmp a r b)

pub fits-Cmp : (m : ℕ) (a : Expr) (r : Rel) (b : Expr) → cond_fits m (Cmp a r b) ≡ (fits m a && fits m b)
fits-Cmp m a r b = (λ j. at_cmp Bool (cond_below_step m) a r b j && at_cmp Bool cond_literals_step a r b j) ∙ pair_up (is_below m a) (is_below m b) (literals_fit a) (literals_fit b)

pub written-Not : (names : List (List ℕ)) (a : Cond) → written_cond names (Not a) ≡ record { text = 33 ∷ cond_in Tight (written_cond names a); layer = Tight }
unfolding roll-Cond denote.Hole.Carrier.roll
written-Not names a = fold-roll-Cond Written (cond_step names) (G.Not a)

pub fits-Not : (m : ℕ) (a : Cond) → cond_fits m (Not a) ≡ cond_fits m a
fits-Not m a = λ j. at_not Bool (cond_below_step m) a j && at_not Bool cond_literals_step a j

pub written-And : (names : List (List ℕ)) (a b : Cond) → written_cond names (And a b) ≡ record { text = cond_in Middle (written_cond names a) ++ (32 ∷ 38 ∷ 38 ∷ 32 ∷ cond_in Tight (written_cond names b)); layer = Middle }
unfolding roll-Cond denote.Hole.Carrier.roll
written-And names a b = fold-roll-Cond Written (cond_step names) (G.And a b)

pub fits-And : (m : ℕ) (a b : Cond) → cond_fits m (And a b) ≡ (cond_fits m a && cond_fits m b)
fits-And m a b = (λ j. at_and Bool (cond_below_step m) a b j && at_and Bool cond_literals_step a b j) ∙ pair_up (cond_is_below m a) (cond_is_below m b) (cond_literals_fit a) (cond_literals_fit b)

pub written-Or : (names : List (List ℕ)) (a b : Cond) → written_cond names (Or a b) ≡ record { text = (written_cond names a).text ++ (32 ∷ 124 ∷ 124 ∷ 32 ∷ cond_in Middle (written_cond names b)); layer = Loose }
unfolding roll-Cond denote.Hole.Carrier.roll
written-Or names a b = fold-roll-Cond Written (cond_step names) (G.Or a b)

pub fits-Or : (m : ℕ) (a b : Cond) → cond_fits m (Or a b) ≡ (cond_fits m a && cond_fits m b)
fits-Or m a b = (λ j. at_or Bool (cond_below_step m) a b j && at_or Bool cond_literals_step a b j) ∙ pair_up (cond_is_below m a) (cond_is_below m b) (cond_literals_fit a) (cond_literals_fit b)
