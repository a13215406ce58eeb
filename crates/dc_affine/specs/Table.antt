-- A condition as conjunctions of facts: the table of the language, on syntax.
use Rattle.std.specs.Prelude.{ℕ, List, [], ◌∷◌, ◌++◌, Bool, true, false, not, ◌&&◌, ◌||◌, pos, ◌-ℤ◌, int_le}
use Rattle.dc_syntax.specs.declared.tree.Expr.{Expr}
use Rattle.dc_syntax.specs.declared.tree.Expr.TheVariants.{Num}
use Rattle.dc_syntax.specs.declared.tree.Rel.{Rel}
use Rattle.dc_syntax.specs.declared.tree.Rel.TheVariants.{Lt, Le, Gt, Ge, Eq, Ne}
use Rattle.dc_syntax.specs.declared.tree.Cond.{Cond, Cond-F, fold-Cond}
use Rattle.dc_syntax.specs.declared.tree.Cond.TheOpen as G
use Rattle.dc_syntax.specs.Value.{State, value}

-- "big - small - less is at least 0"
pub record Fact : Type 0 where
  pub big : Expr
  pub small : Expr
  pub less : ℕ

abbrev pub fact : Expr → Expr → ℕ → Fact
fact a b n = record { big = a; small = b; less = n }

-- -1 is at least 0
abbrev pub falsity : Fact
falsity = fact (Num 0) (Num 0) 1

-- each list of gs after f
abbrev pub after : {A : Type 0} → List A → List (List A) → List (List A)
after f [] = []
after f (g ∷ gs) = (f ++ g) ∷ after f gs

-- each list of fs, with each of gs appended, the first outermost
abbrev pub crossed : {A : Type 0} → List (List A) → List (List A) → List (List A)
crossed [] gs = []
crossed (f ∷ fs) gs = after f gs ++ crossed fs gs

-- the conjunctions of a comparison
abbrev pub relation : Expr → Rel → Expr → List (List Fact)
relation a Le b = (fact b a 0 ∷ []) ∷ []
relation a Lt b = (fact b a 1 ∷ []) ∷ []
relation a Ge b = (fact a b 0 ∷ []) ∷ []
relation a Gt b = (fact a b 1 ∷ []) ∷ []
relation a Eq b = (fact b a 0 ∷ fact a b 0 ∷ []) ∷ []
relation a Ne b = (fact b a 1 ∷ []) ∷ (fact a b 1 ∷ []) ∷ []

-- the comparison that holds where another does not
abbrev pub opposite : Rel → Rel
opposite Le = Gt
opposite Lt = Ge
opposite Ge = Lt
opposite Gt = Le
opposite Eq = Ne
opposite Ne = Eq

-- of a condition (false), and of its negation (true), where those of the parts are given
abbrev pub facts_step : Cond-F (Bool → List (List Fact)) → Bool → List (List Fact)
facts_step G.True false = [] ∷ []
facts_step G.True true = (falsity ∷ []) ∷ []
facts_step G.False false = (falsity ∷ []) ∷ []
facts_step G.False true = [] ∷ []
facts_step (G.Cmp a r b) false = relation a r b
facts_step (G.Cmp a r b) true = relation a (opposite r) b
facts_step (G.Not c) negated = c (not negated)
facts_step (G.And c d) false = crossed (c false) (d false)
facts_step (G.And c d) true = c true ++ d true
facts_step (G.Or c d) false = c false ++ d false
facts_step (G.Or c d) true = crossed (c true) (d true)

-- the conjunctions of a condition, or of its negation
abbrev pub facts_of : Cond → Bool → List (List Fact)
facts_of c = fold-Cond (Bool → List (List Fact)) facts_step c

-- ---- what facts say of a state
abbrev pub fact_true : Fact → State → Bool
fact_true f s = int_le (pos 0) (value f.big s -ℤ value f.small s -ℤ pos f.less)

abbrev pub all_of : List Fact → State → Bool
all_of [] s = true
all_of (f ∷ fs) s = fact_true f s && all_of fs s

abbrev pub some_of : List (List Fact) → State → Bool
some_of [] s = false
some_of (f ∷ fs) s = all_of f s || some_of fs s
