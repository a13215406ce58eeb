-- What the derivation of statements says, where p gives the place that a name stands for.
use Rattle.std.specs.Prelude.{◌≡◌, ℕ, List, [], ◌∷◌, ◌++◌, Some, None}
use Rattle.std.specs.declared.option.Option.{Option}
use Rattle.dc_tokens.specs.declared.token.Token.{Token}
use Rattle.dc_grammar.specs.Grammar.{Tree, leaf, pair, left, right}
use Rattle.dc_syntax.specs.declared.tree.Cond.{Cond}
use Rattle.dc_syntax.specs.declared.tree.Stmt.{Stmt}
use Rattle.dc_syntax.specs.declared.tree.Stmt.TheVariants as s
use Rattle.dc_descent.specs.declared.parts.Range.{Range}
use Rattle.dc_descent.specs.Trees.{leaves, expr_of, cond_of}

-- [ "(" expr "," expr ")" ]
abbrev pub range_of : (Token → ℕ) → Tree Token → Option Range
range_of p (left (pair opens (pair a (pair comma (pair b closes))))) =
    Some (record { low = expr_of p a; high = expr_of p b })
range_of p _ = None

-- "any" of a range, or of all numbers
abbrev pub any_by : ℕ → Option Range → Stmt
any_by k (Some r) = s.Between k r.low r.high
any_by k None = s.AnyOf k

-- expr | "any" [ "(" expr "," expr ")" ], assigned to place k
abbrev pub assigned_of : (Token → ℕ) → ℕ → Tree Token → Stmt
assigned_of p k (left a) = s.Assign k (expr_of p a)
assigned_of p k (right (pair any r)) = any_by k (range_of p r)
assigned_of p k _ = s.AnyOf k

-- "*" | cond
abbrev pub choice_of : (Token → ℕ) → Tree Token → Option Cond
choice_of p (right a) = Some (cond_of p a)
choice_of p _ = None

abbrev pub branch_by : Option Cond → List Stmt → List Stmt → Stmt
branch_by (Some c) A B = s.If c A B
branch_by None A B = s.IfAny A B

abbrev pub loop_by : Option Cond → List Stmt → Stmt
loop_by (Some c) A = s.While c A
loop_by None A = s.WhileAny A

abbrev mutual
  pub stmt_of : (Token → ℕ) → Tree Token → Stmt
  -- "skip" ";"
  stmt_of p (left a) = s.Skip
  -- "tick" expr ";"
  stmt_of p (right (left (pair tick (pair a semi)))) = s.Tick (expr_of p a)
  -- "assume" "(" cond ")" ";"
  stmt_of p (right (right (left (pair assume (pair opens (pair a (pair closes semi))))))) =
      s.Assume (cond_of p a)
  -- NAME "=" assigned ";"
  stmt_of p (right (right (right (left (pair (leaf x) (pair equals (pair a semi))))))) =
      assigned_of p (p x) a
  -- "if" "(" choice ")" block [ "else" block ]
  stmt_of p
      (right (right (right (right (left (pair if (pair opens (pair c (pair closes (pair a b)))))))))) =
      branch_by (choice_of p c) (block_of p a) (else_of p b)
  -- "while" "(" choice ")" block
  stmt_of p (right (right (right (right (right (pair while (pair opens (pair c (pair closes a))))))))) =
      loop_by (choice_of p c) (block_of p a)
  stmt_of p _ = s.Skip

  -- { stmt }
  pub stmts_of : (Token → ℕ) → Tree Token → List Stmt
  stmts_of p (pair a more) = stmt_of p a ∷ stmts_of p more
  stmts_of p _ = []

  -- "{" { stmt } "}"
  pub block_of : (Token → ℕ) → Tree Token → List Stmt
  block_of p (pair opens (pair a closes)) = stmts_of p a
  block_of p _ = []

  -- [ "else" block ]: a missing one is empty
  pub else_of : (Token → ℕ) → Tree Token → List Stmt
  else_of p (left (pair else a)) = block_of p a
  else_of p _ = []

-- ---- where statements begin

abbrev pub head_at : List Token → ℕ
head_at [] = 0
head_at (t ∷ ts) = t.at

-- the offset of the first token
abbrev pub first_at : Tree Token → ℕ
first_at a = head_at (leaves a)

abbrev mutual
  -- the offsets at which the statements of a list begin, in preorder
  pub starts_of : Tree Token → List ℕ
  starts_of (pair a more) = (first_at a ∷ inner_starts a) ++ starts_of more
  starts_of _ = []

  -- of the statements inside a statement
  pub inner_starts : Tree Token → List ℕ
  inner_starts
      (right (right (right (right (left (pair if (pair opens (pair c (pair closes (pair a b)))))))))) =
      block_starts a ++ else_starts b
  inner_starts
      (right (right (right (right (right (pair while (pair opens (pair c (pair closes a))))))))) =
      block_starts a
  inner_starts _ = []

  pub block_starts : Tree Token → List ℕ
  block_starts (pair opens (pair a closes)) = starts_of a
  block_starts _ = []

  pub else_starts : Tree Token → List ℕ
  else_starts (left (pair else a)) = block_starts a
  else_starts _ = []

-- of a statement, which begins first
abbrev pub stmt_starts : Tree Token → List ℕ
stmt_starts a = first_at a ∷ inner_starts a

-- ---- what the parts answer

abbrev pub IsRange : (Token → ℕ) → Tree Token → Option Range → Type 0
IsRange p a x = range_of p a ≡ x

abbrev pub IsAssigned : (Token → ℕ) → ℕ → Tree Token → Stmt → Type 0
IsAssigned p k a x = assigned_of p k a ≡ x

abbrev pub IsChoice : (Token → ℕ) → Tree Token → Option Cond → Type 0
IsChoice p a x = choice_of p a ≡ x

-- statements, and the offsets at which they begin, which are put at the end of those so far
pub record IsWith {X : Type 0} (tree : Tree Token → X) (starts : Tree Token → List ℕ)
    (old new : List ℕ) (a : Tree Token) (x : X) : Type 0 where
  pub said : tree a ≡ x
  pub begun : new ≡ old ++ starts a
