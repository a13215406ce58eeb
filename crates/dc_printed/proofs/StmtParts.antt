-- The text and the range of a statement, by its parts.
use Rattle.std.proofs.Common.{◌≡◌, ℕ, Bool, true, false, ◌&&◌, ltb, List, [], ◌∷◌, ◌++◌, refl, ◌∙◌}
use Rattle.std.proofs.Math.Bool.{and_assoc, and-true}
use Rattle.std.specs.Prelude.{slice_index_or}
use Rattle.dc_syntax.specs.declared.tree.Expr.{Expr}
use Rattle.dc_syntax.specs.declared.tree.Cond.{Cond}
use Rattle.dc_syntax.specs.declared.tree.Stmt.{Stmt, roll-Stmt, fold-roll-Stmt}
use Rattle.dc_syntax.specs.declared.tree.Stmt.TheVariants as s
use Rattle.dc_syntax.specs.declared.tree.Stmt.TheOpen as G
use Rattle.dc_syntax.specs.Text.{expr_text, cond_text, stmt_step, stmt_text, stmts_text}
use Rattle.dc_affine.specs.Forms.{is_below}
use Rattle.dc_program.specs.Limits.{literals_fit}
use Rattle.dc_printed.specs.Fits.{fits, cond_fits, stmt_fits, stmt_fits_step, stmts_fit}
use Rattle.dc_printed.proofs.Parts.{pair_up}

in_pairs : (l a b c d : Bool) → (l && a && b && (c && d)) ≡ (l && (a && c && (b && d)))
in_pairs true a b c d = pair_up a b c d
in_pairs false a b c d = refl

pub text-Skip : (names : List (List ℕ)) → stmt_text names s.Skip ≡ 115 ∷ 107 ∷ 105 ∷ 112 ∷ 59 ∷ 10 ∷ []
unfolding roll-Stmt denote.Hole.Carrier.roll
text-Skip names = fold-roll-Stmt (List ℕ) (stmt_step names) G.Skip

pub fits-Skip : (m : ℕ) → stmt_fits m s.Skip ≡ true
unfolding roll-Stmt denote.Hole.Carrier.roll
fits-Skip m = fold-roll-Stmt Bool (stmt_fits_step m) G.Skip

pub text-Assign : (names : List (List ℕ)) (i : ℕ) (e : Expr) → stmt_text names (s.Assign i e) ≡ slice_index_or names i [] ++ (32 ∷ 61 ∷ 32 ∷ (expr_text names e ++ 59 ∷ 10 ∷ []))
unfolding roll-Stmt denote.Hole.Carrier.roll
text-Assign names i e = fold-roll-Stmt (List ℕ) (stmt_step names) (G.Assign i e)

pub fits-Assign : (m : ℕ) (i : ℕ) (e : Expr) → stmt_fits m (s.Assign i e) ≡ (ltb i m && fits m e)
unfolding roll-Stmt denote.Hole.Carrier.roll
fits-Assign m i e = fold-roll-Stmt Bool (stmt_fits_step m) (G.Assign i e) ∙ (and-true _ ∙ and_assoc (ltb i m) (is_below m e) (literals_fit e))

pub text-AnyOf : (names : List (List ℕ)) (i : ℕ) → stmt_text names (s.AnyOf i) ≡ slice_index_or names i [] ++ (32 ∷ 61 ∷ 32 ∷ 97 ∷ 110 ∷ 121 ∷ 59 ∷ 10 ∷ [])
unfolding roll-Stmt denote.Hole.Carrier.roll
text-AnyOf names i = fold-roll-Stmt (List ℕ) (stmt_step names) (G.AnyOf i)

pub fits-AnyOf : (m : ℕ) (i : ℕ) → stmt_fits m (s.AnyOf i) ≡ ltb i m
unfolding roll-Stmt denote.Hole.Carrier.roll
fits-AnyOf m i = fold-roll-Stmt Bool (stmt_fits_step m) (G.AnyOf i) ∙ (and-true _ ∙ and-true (ltb i m))

pub text-Between : (names : List (List ℕ)) (i : ℕ) (a b : Expr) → stmt_text names (s.Between i a b) ≡ slice_index_or names i [] ++ (32 ∷ 61 ∷ 32 ∷ 97 ∷ 110 ∷ 121 ∷ 40 ∷ (expr_text names a ++ (44 ∷ 32 ∷ (expr_text names b ++ 41 ∷ 59 ∷ 10 ∷ []))))
unfolding roll-Stmt denote.Hole.Carrier.roll
text-Between names i a b = fold-roll-Stmt (List ℕ) (stmt_step names) (G.Between i a b)

pub fits-Between : (m : ℕ) (i : ℕ) (a b : Expr) → stmt_fits m (s.Between i a b) ≡ (ltb i m && (fits m a && fits m b))
unfolding roll-Stmt denote.Hole.Carrier.roll
fits-Between m i a b = fold-roll-Stmt Bool (stmt_fits_step m) (G.Between i a b) ∙ (and-true _ ∙ in_pairs (ltb i m) (is_below m a) (is_below m b) (literals_fit a) (literals_fit b))

pub text-Tick : (names : List (List ℕ)) (e : Expr) → stmt_text names (s.Tick e) ≡ 116 ∷ 105 ∷ 99 ∷ 107 ∷ 32 ∷ (expr_text names e ++ 59 ∷ 10 ∷ [])
unfolding roll-Stmt denote.Hole.Carrier.roll
text-Tick names e = fold-roll-Stmt (List ℕ) (stmt_step names) (G.Tick e)

pub fits-Tick : (m : ℕ) (e : Expr) → stmt_fits m (s.Tick e) ≡ fits m e
unfolding roll-Stmt denote.Hole.Carrier.roll
fits-Tick m e = fold-roll-Stmt Bool (stmt_fits_step m) (G.Tick e) ∙ and-true _

pub text-Assume : (names : List (List ℕ)) (c : Cond) → stmt_text names (s.Assume c) ≡ 97 ∷ 115 ∷ 115 ∷ 117 ∷ 109 ∷ 101 ∷ 32 ∷ 40 ∷ (cond_text names c ++ 41 ∷ 59 ∷ 10 ∷ [])
unfolding roll-Stmt denote.Hole.Carrier.roll
text-Assume names c = fold-roll-Stmt (List ℕ) (stmt_step names) (G.Assume c)

pub fits-Assume : (m : ℕ) (c : Cond) → stmt_fits m (s.Assume c) ≡ cond_fits m c
unfolding roll-Stmt denote.Hole.Carrier.roll
fits-Assume m c = fold-roll-Stmt Bool (stmt_fits_step m) (G.Assume c) ∙ and-true _

pub text-If : (names : List (List ℕ)) (c : Cond) (A B : List Stmt) → stmt_text names (s.If c A B) ≡ 105 ∷ 102 ∷ 32 ∷ 40 ∷ (cond_text names c ++ (41 ∷ 32 ∷ 123 ∷ 10 ∷ (stmts_text names A ++ (125 ∷ 32 ∷ 101 ∷ 108 ∷ 115 ∷ 101 ∷ 32 ∷ 123 ∷ 10 ∷ (stmts_text names B ++ 125 ∷ 10 ∷ [])))))
unfolding roll-Stmt denote.Hole.Carrier.roll
text-If names c A B = fold-roll-Stmt (List ℕ) (stmt_step names) (G.If c A B)

pub fits-If : (m : ℕ) (c : Cond) (A B : List Stmt) → stmt_fits m (s.If c A B) ≡ (cond_fits m c && (stmts_fit m A && stmts_fit m B))
unfolding roll-Stmt denote.Hole.Carrier.roll
fits-If m c A B = fold-roll-Stmt Bool (stmt_fits_step m) (G.If c A B)

pub text-IfAny : (names : List (List ℕ)) (A B : List Stmt) → stmt_text names (s.IfAny A B) ≡ 105 ∷ 102 ∷ 32 ∷ 40 ∷ 42 ∷ 41 ∷ 32 ∷ 123 ∷ 10 ∷ (stmts_text names A ++ (125 ∷ 32 ∷ 101 ∷ 108 ∷ 115 ∷ 101 ∷ 32 ∷ 123 ∷ 10 ∷ (stmts_text names B ++ 125 ∷ 10 ∷ [])))
unfolding roll-Stmt denote.Hole.Carrier.roll
text-IfAny names A B = fold-roll-Stmt (List ℕ) (stmt_step names) (G.IfAny A B)

pub fits-IfAny : (m : ℕ) (A B : List Stmt) → stmt_fits m (s.IfAny A B) ≡ (stmts_fit m A && stmts_fit m B)
unfolding roll-Stmt denote.Hole.Carrier.roll
fits-IfAny m A B = fold-roll-Stmt Bool (stmt_fits_step m) (G.IfAny A B)

pub text-While : (names : List (List ℕ)) (c : Cond) (A : List Stmt) → stmt_text names (s.While c A) ≡ 119 ∷ 104 ∷ 105 ∷ 108 ∷ 101 ∷ 32 ∷ 40 ∷ (cond_text names c ++ (41 ∷ 32 ∷ 123 ∷ 10 ∷ (stmts_text names A ++ 125 ∷ 10 ∷ [])))
unfolding roll-Stmt denote.Hole.Carrier.roll
text-While names c A = fold-roll-Stmt (List ℕ) (stmt_step names) (G.While c A)

pub fits-While : (m : ℕ) (c : Cond) (A : List Stmt) → stmt_fits m (s.While c A) ≡ (cond_fits m c && stmts_fit m A)
unfolding roll-Stmt denote.Hole.Carrier.roll
fits-While m c A = fold-roll-Stmt Bool (stmt_fits_step m) (G.While c A)

pub text-WhileAny : (names : List (List ℕ)) (A : List Stmt) → stmt_text names (s.WhileAny A) ≡ 119 ∷ 104 ∷ 105 ∷ 108 ∷ 101 ∷ 32 ∷ 40 ∷ 42 ∷ 41 ∷ 32 ∷ 123 ∷ 10 ∷ (stmts_text names A ++ 125 ∷ 10 ∷ [])
unfolding roll-Stmt denote.Hole.Carrier.roll
text-WhileAny names A = fold-roll-Stmt (List ℕ) (stmt_step names) (G.WhileAny A)

pub fits-WhileAny : (m : ℕ) (A : List Stmt) → stmt_fits m (s.WhileAny A) ≡ stmts_fit m A
unfolding roll-Stmt denote.Hole.Carrier.roll
fits-WhileAny m A = fold-roll-Stmt Bool (stmt_fits_step m) (G.WhileAny A)
