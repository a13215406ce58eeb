-- Facts about a web have one proof each, so a type can keep them.
use Rattle.std.specs.Prelude.{ℕ, List, Option, Some, None}
use Rattle.std.proofs.Props.{props}
use Rattle.dc_sparse.specs.declared.web.Node.{Node}
use Rattle.dc_sparse.specs.Lines.{Lines, IsFirst}
use Rattle.dc_sparse.specs.Webs.{IsTop, IsWoven}
use Rattle.dc_math.specs.Rational.{ℚ}
use Rattle.dc_frac.specs.declared.Frac.{Frac}
use Rattle.dc_sparse.specs.Scales.{IsScaled, AreScaled}

IsFirst_prop : (s : Lines) (i k : ℕ) (o : Option ℕ) → IsProp (IsFirst s i k o)
IsFirst_prop s i k None = hlevel props
IsFirst_prop s i k (Some b) = hlevel props

IsTop_prop : (xs : List Node) (n : ℕ) (o : Option ℕ) → IsProp (IsTop xs n o)
IsTop_prop xs n None = hlevel props
IsTop_prop xs n (Some f) = hlevel props

pub IsWoven_prop : (xs : List Node) (row_heads col_heads : List (Option ℕ)) (free : Option ℕ)
    (spare : ℕ) → IsProp (IsWoven xs row_heads col_heads free spare)
IsWoven_prop xs row_heads col_heads free spare = hlevel (IsFirst_prop, IsTop_prop, props)

IsScaled_prop : (o : Option Frac) (row : ℕ → ℚ) → IsProp (IsScaled o row)
IsScaled_prop None row = hlevel props
IsScaled_prop (Some d) row = hlevel props

pub AreScaled_prop : (xs : List Node) (ds : List (Option Frac)) (h : ℕ) → IsProp (AreScaled xs ds h)
AreScaled_prop xs ds h = hlevel (IsScaled_prop, props)
