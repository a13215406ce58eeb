-- What the parser's programs and conditions meet, as later calls require it of any.
use Rattle.std.specs.Prelude.{◌≡◌, ℕ, ◌≤◌, true, List, [], ◌∷◌, length}
use Rattle.std.specs.Str.{bytes_eq}
use Rattle.std.specs.List.{IsDistinct}
use Rattle.dc_syntax.specs.declared.tree.Proc.{Proc}
use Rattle.dc_affine.specs.declared.atom.Atom.{Atom}
use Rattle.dc_affine.specs.Atoms.{AllCases, IsFullAtom}
use Rattle.dc_affine.specs.Whole.{FormsPass}
use Rattle.dc_program.specs.Limits.{all_limited}

-- a program as the parser gives it: at most ten different names, of which the first are the
-- parameters; literals of at most 2147483647; at most 64 operators in each expression and in each
-- whole condition; and every form and condition passes, over the names, so that every variable is
-- one
pub record IsProgram (p : Proc) : Type 0 where
  pub different : IsDistinct bytes_eq p.names
  pub few : length p.names ≤ 10
  pub params : p.params ≤ length p.names
  pub limited : all_limited p.body ≡ true
  pub forms : FormsPass p

-- each conjunction has at most so many parts
abbrev pub AllShort : {A : Type 0} → ℕ → List (List A) → Type 0
AllShort n [] = Unit {0}
AllShort n (c ∷ cs) = (length c ≤ n) × AllShort n cs

-- a condition over so many places as the parser gives it: 1 to 64 conjunctions of at most 130
-- atoms, each with one coefficient for each place
pub record IsCondition (places : ℕ) (cases : List (List Atom)) : Type 0 where
  pub some : 1 ≤ length cases
  pub few : length cases ≤ 64
  pub short : AllShort 130 cases
  pub atoms : AllCases (IsFullAtom places) cases
