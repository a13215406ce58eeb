-- The text of a procedure, with the fewest brackets: one statement or closing bracket per line.
use Rattle.std.specs.Prelude.{ℕ, Bool, true, false, if◌then◌else◌, List, [], ◌∷◌, ◌++◌, take, drop, map, slice_index_or, codes}
use Rattle.std.specs.Fmt.{decimal}
use Rattle.dc_syntax.specs.declared.tree.Expr.{Expr, Expr-F, fold-Expr}
use Rattle.dc_syntax.specs.declared.tree.Expr.TheOpen as F
use Rattle.dc_syntax.specs.declared.tree.Rel.{Rel}
use Rattle.dc_syntax.specs.declared.tree.Rel.TheVariants.{Lt, Le, Gt, Ge, Eq, Ne}
use Rattle.dc_syntax.specs.declared.tree.Cond.{Cond, Cond-F, fold-Cond}
use Rattle.dc_syntax.specs.declared.tree.Cond.TheOpen as G
use Rattle.dc_syntax.specs.declared.tree.Stmt.{Stmt, Stmt-F, fold-Stmt}
use Rattle.dc_syntax.specs.declared.tree.Stmt.TheOpen.{Skip, Assign, AnyOf, Between, Tick, Assume, If, IfAny, While, WhileAny}
use Rattle.dc_syntax.specs.declared.tree.Proc.{Proc}
use Rattle.dc_syntax.specs.declared.layer.Layer.{Layer}
use Rattle.dc_syntax.specs.declared.layer.Layer.TheVariants.{Loose, Middle, Tight}

-- a text, and how tightly its outermost operator binds
pub record Written : Type 0 where
  pub text : List ℕ
  pub layer : Layer

-- whether a layer may stand where one that binds at least so tightly is asked
abbrev pub is_within : Layer → Layer → Bool
is_within layer Loose = true
is_within Middle Middle = true
is_within Tight asked = true
is_within _ _ = false

abbrev pub in_parens : List ℕ → List ℕ
in_parens t = codes "(" ++ (t ++ codes ")")

abbrev pub in_squares : List ℕ → List ℕ
in_squares t = codes "[" ++ (t ++ codes "]")

-- ---- expressions: sums are loose, products are in the middle, all else is tight

-- the text where this layer is asked: in brackets where it binds less tightly
abbrev pub expr_in : Layer → Written → List ℕ
expr_in asked w = if is_within w.layer asked then w.text else in_parens w.text

abbrev pub expr_step : List (List ℕ) → Expr-F Written → Written
expr_step names (F.Num n) = record { text = decimal n; layer = Tight }
expr_step names (F.Var k) = record { text = slice_index_or names k []; layer = Tight }
expr_step names (F.Neg a) = record { text = codes "-" ++ expr_in Tight a; layer = Tight }
expr_step names (F.Add a b) = record {
  text = a.text ++ (codes " + " ++ expr_in Middle b);
  layer = Loose;
}
expr_step names (F.Sub a b) = record {
  text = a.text ++ (codes " - " ++ expr_in Middle b);
  layer = Loose;
}
expr_step names (F.Mul a b) = record {
  text = expr_in Middle a ++ (codes " * " ++ expr_in Tight b);
  layer = Middle;
}

abbrev pub written_expr : List (List ℕ) → Expr → Written
written_expr names e = fold-Expr Written (expr_step names) e

abbrev pub expr_text : List (List ℕ) → Expr → List ℕ
expr_text names e = (written_expr names e).text

-- ---- conditions: `||` is loose, `&&` is in the middle, all else is tight

abbrev pub rel_text : Rel → List ℕ
rel_text Lt = codes " < "
rel_text Le = codes " <= "
rel_text Gt = codes " > "
rel_text Ge = codes " >= "
rel_text Eq = codes " == "
rel_text Ne = codes " != "

abbrev pub cond_in : Layer → Written → List ℕ
cond_in asked w = if is_within w.layer asked then w.text else in_squares w.text

abbrev pub cond_step : List (List ℕ) → Cond-F Written → Written
cond_step names G.True = record { text = codes "true"; layer = Tight }
cond_step names G.False = record { text = codes "false"; layer = Tight }
cond_step names (G.Cmp a r b) = record {
  text = expr_text names a ++ (rel_text r ++ expr_text names b);
  layer = Tight;
}
cond_step names (G.Not c) = record { text = codes "!" ++ cond_in Tight c; layer = Tight }
cond_step names (G.And c d) = record {
  text = cond_in Middle c ++ (codes " && " ++ cond_in Tight d);
  layer = Middle;
}
cond_step names (G.Or c d) = record {
  text = c.text ++ (codes " || " ++ cond_in Middle d);
  layer = Loose;
}

abbrev pub written_cond : List (List ℕ) → Cond → Written
written_cond names c = fold-Cond Written (cond_step names) c

abbrev pub cond_text : List (List ℕ) → Cond → List ℕ
cond_text names c = (written_cond names c).text

-- ---- statements: each is its lines, which end with a line feed

abbrev pub joined : List (List ℕ) → List ℕ
joined [] = []
joined (t ∷ ts) = t ++ joined ts

abbrev pub stmt_step : List (List ℕ) → Stmt-F (List ℕ) → List ℕ
stmt_step names Skip = codes "skip;\n"
stmt_step names (Assign k e) =
    slice_index_or names k [] ++ (codes " = " ++ (expr_text names e ++ codes ";\n"))
stmt_step names (AnyOf k) = slice_index_or names k [] ++ codes " = any;\n"
stmt_step names (Between k a b) =
    slice_index_or names k []
    ++ (codes " = any(" ++ (expr_text names a
    ++ (codes ", " ++ (expr_text names b ++ codes ");\n"))))
stmt_step names (Tick e) = codes "tick " ++ (expr_text names e ++ codes ";\n")
stmt_step names (Assume c) = codes "assume (" ++ (cond_text names c ++ codes ");\n")
stmt_step names (If c A B) =
    codes "if (" ++ (cond_text names c
    ++ (codes ") {\n" ++ (joined A ++ (codes "} else {\n" ++ (joined B ++ codes "}\n")))))
stmt_step names (IfAny A B) =
    codes "if (*) {\n" ++ (joined A ++ (codes "} else {\n" ++ (joined B ++ codes "}\n")))
stmt_step names (While c A) =
    codes "while (" ++ (cond_text names c ++ (codes ") {\n" ++ (joined A ++ codes "}\n")))
stmt_step names (WhileAny A) = codes "while (*) {\n" ++ (joined A ++ codes "}\n")

abbrev pub stmt_text : List (List ℕ) → Stmt → List ℕ
stmt_text names S = fold-Stmt (List ℕ) (stmt_step names) S

abbrev pub stmts_text : List (List ℕ) → List Stmt → List ℕ
stmts_text names body = joined (map (stmt_text names) body)

-- ---- a procedure

-- names with a comma and a space between
abbrev pub listed : List (List ℕ) → List ℕ
listed [] = []
listed (n ∷ []) = n
listed (n ∷ m ∷ ns) = n ++ (codes ", " ++ listed (m ∷ ns))

-- the line of the locals, where there are some
abbrev pub locals_text : List (List ℕ) → List ℕ
locals_text [] = []
locals_text (n ∷ ns) = codes "var " ++ (listed (n ∷ ns) ++ codes ";\n")

abbrev pub text_of : Proc → List ℕ
text_of p =
    codes "proc " ++ (p.name ++ (codes "(" ++ (listed (take p.params p.names) ++ (codes ") {\n"
    ++ (locals_text (drop p.params p.names) ++ (stmts_text p.names p.body ++ codes "}\n"))))))
