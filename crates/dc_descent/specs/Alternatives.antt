-- What the alternatives of a statement say, each by its own derivation.
use Rattle.std.specs.Prelude.{◌≡◌, ℕ, List}
use Rattle.dc_tokens.specs.declared.token.Token.{Token}
use Rattle.dc_grammar.specs.Grammar.{Tree, left, right}
use Rattle.dc_syntax.specs.declared.tree.Stmt.{Stmt}
use Rattle.dc_descent.specs.Statements.{stmt_of, inner_starts}

abbrev pub IsSkip : Tree Token → Stmt → Type 0
IsSkip a x = stmt_of (λ t. 0) (left a) ≡ x

abbrev pub IsTick : (Token → ℕ) → Tree Token → Stmt → Type 0
IsTick p a x = stmt_of p (right (left a)) ≡ x

abbrev pub IsAssume : (Token → ℕ) → Tree Token → Stmt → Type 0
IsAssume p a x = stmt_of p (right (right (left a))) ≡ x

abbrev pub IsAssign : (Token → ℕ) → Tree Token → Stmt → Type 0
IsAssign p a x = stmt_of p (right (right (right (left a)))) ≡ x

abbrev pub branch_of : (Token → ℕ) → Tree Token → Stmt
branch_of p a = stmt_of p (right (right (right (right (left a)))))

abbrev pub branch_starts : Tree Token → List ℕ
branch_starts a = inner_starts (right (right (right (right (left a)))))

abbrev pub loop_of : (Token → ℕ) → Tree Token → Stmt
loop_of p a = stmt_of p (right (right (right (right (right a)))))

abbrev pub loop_starts : Tree Token → List ℕ
loop_starts a = inner_starts (right (right (right (right (right a)))))
