-- What an edge of the graph does, on syntax.
use Rattle.std.specs.Prelude.{ℕ, List, [], ◌∷◌}
use Rattle.dc_syntax.specs.declared.tree.Expr.{Expr}
use Rattle.dc_affine.specs.Table.{Fact}

pub data Label : Type 0 where
  -- changes nothing
  idle : Label
  -- a place takes the value of an expression
  sets : ℕ → Expr → Label
  -- a place takes any whole number
  picks : ℕ → Label
  -- a place takes any whole number between two values
  picks_in : ℕ → Expr → Expr → Label
  -- costs the value of an expression
  pays : Expr → Label
  -- passes where all facts of a conjunction are true
  tests : List Fact → Label

-- an edge between two numbers
pub record Arrow : Type 0 where
  pub from : ℕ
  pub to : ℕ
  pub label : Label

abbrev pub arrow : ℕ → ℕ → Label → Arrow
arrow k l a = record { from = k; to = l; label = a }

-- one edge for each conjunction
abbrev pub branch : ℕ → ℕ → List (List Fact) → List Arrow
branch k l [] = []
branch k l (f ∷ fs) = arrow k l (tests f) ∷ branch k l fs
