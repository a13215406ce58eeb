-- What a procedure must be to have a text: its names can be written, and its places and numbers are
-- in range.
use Rattle.std.specs.Prelude.{◌≡◌, ℕ, ◌<◌, ◌≤◌, Bool, true, ◌&&◌, List, [], length, map, slice_index_or}
use Rattle.std.specs.Str.{bytes_eq}
use Rattle.std.specs.List.{IsDistinct}
use Rattle.dc_tokens.specs.declared.token.TokenKind.TheVariants as k
use Rattle.dc_tokens.specs.Spelling.{is_word, word_kind}
use Rattle.dc_syntax.specs.declared.tree.Expr.{Expr}
use Rattle.dc_syntax.specs.declared.tree.Cond.{Cond}
use Rattle.dc_syntax.specs.declared.tree.Proc.{Proc}
use Rattle.dc_syntax.specs.declared.tree.Stmt.{Stmt, Stmt-F, fold-Stmt}
use Rattle.dc_affine.specs.Forms.{is_below}
use Rattle.dc_affine.specs.Atoms.{cond_is_below}
use Rattle.dc_affine.specs.Whole.{statement_below, inner, each}
use Rattle.dc_program.specs.Limits.{literals_fit, cond_literals_fit, statement_literals_fit}

-- a name: a letter or `_`, then letters, digits and `_`, and no keyword
pub record IsName (w : List ℕ) : Type 0 where
  pub word : is_word w ≡ true
  pub no_keyword : word_kind w ≡ k.Name

-- the variables are below n, and the numbers are those that a text may have
abbrev pub fits : ℕ → Expr → Bool
fits n e = is_below n e && literals_fit e

abbrev pub cond_fits : ℕ → Cond → Bool
cond_fits n c = cond_is_below n c && cond_literals_fit c

-- with the statements inside it
abbrev pub stmt_fits_step : ℕ → Stmt-F Bool → Bool
stmt_fits_step n L = statement_below n L && statement_literals_fit L && inner L

abbrev pub stmt_fits : ℕ → Stmt → Bool
stmt_fits n S = fold-Stmt Bool (stmt_fits_step n) S

abbrev pub stmts_fit : ℕ → List Stmt → Bool
stmts_fit n A = each (map (stmt_fits n) A)

abbrev pub AreNames : List (List ℕ) → Type 0
AreNames names = (i : ℕ) → i < length names → IsName (slice_index_or names i [])

-- a procedure that has a text
pub record IsWritable (p : Proc) : Type 0 where
  pub name : IsName p.name
  pub names : AreNames p.names
  pub different : IsDistinct bytes_eq p.names
  pub params : p.params ≤ length p.names
  pub body : stmts_fit (length p.names) p.body ≡ true
