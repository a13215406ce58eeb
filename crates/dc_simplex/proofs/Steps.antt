-- One more pivot of a run on a tableau.
use Rattle.std.proofs.Common.{◌≡◌, ℕ, ◌+◌, ◌≤◌, ◌≢◌, true, length, Result, Ok, Err, refl, sym, ◌∙◌, ap, arith, inl, inr}
use Rattle.std.proofs.lemmas.Bool.{cases_Bool}
use Rattle.std.proofs.lemmas.List.FromFn.{length-map-range_with_len}
use Rattle.dc_math.specs.Rational.{ℚ}
use Rattle.dc_math.specs.RationalField.{rationals}
use Rattle.dc_lp.specs.declared.Problem.{Problem}
use Rattle.dc_lp.specs.declared.tableau.PastQuotient.{PastQuotient}
use Rattle.dc_lp.specs.Linear.{Linear}
use Rattle.dc_lp.specs.Problems.{linear_of}
use Rattle.dc_lp.specs.Tables as tables
use Rattle.dc_lp.specs.Tables.{Table}
use Rattle.dc_lp.specs.Meanings.{Meaning, resting, start, pivoted, pivot_fits, IsPivotCell, IsUsable}
use Rattle.dc_lp.proofs.Fills.{pivoted-real, pivoted-basis}
use Rattle.dc_pivots.specs.Runs as runs
use Rattle.dc_pivots.specs.declared.Phase.{Phase}
use Rattle.dc_pivots.specs.declared.Phase.TheVariants.{One}
use Rattle.dc_pivots.specs.declared.Due.{Due}
use Rattle.dc_pivots.specs.declared.Due.TheVariants.{Pivot}
use Rattle.dc_pivots.proofs.Cells.{pivots_have_cells}
use Rattle.dc_simplex.specs.Limits.{test_fits, due_in, IsReached}
use Rattle.dc_simplex.specs.Steps.{told}
use Rattle.dc_simplex.proofs.Reach.{reached-begun, reached-more}

-- ---- sizes

pub start-basis : (p : Linear ℚ) → length (tables.start ℚ rationals p).basis ≡ p.equations
unfolding tables.start
start-basis p = simp length-map-range_with_len

pub start-real : (p : Linear ℚ) → (tables.start ℚ rationals p).real ≡ p.columns
unfolding tables.start
start-real p = refl

-- ---- what was told

abbrev said : Due → Result Due PastQuotient
said d = Ok d

abbrev refused_so : Result Due PastQuotient
refused_so = Err (record {})

told-ok : (t : Table ℚ) (d e : Due) → said e ≡ told t d → (d ≡ e) × (test_fits t d ≡ true)
told-ok t d e h =
    elim (cases_Bool (test_fits t d)) [
      | inl b ↦ (let f : said e ≡ said d = rw b at h in ((cc), b))
      | inr b ↦ (let f : said e ≡ refused_so = rw b at h in absurd (cc))
    ]

-- the tableau is where the run is after these pivots
pub record IsHere (p : Linear ℚ) (budget m n pivots : ℕ) (phase : Phase) (x : Meaning) : Type 0 where
  pub rest : x ≡ resting x.table
  pub reaches : IsReached p pivots (record { phase = phase; table = x.table })
  pub within : pivots ≤ budget
  pub rows : m ≡ length x.table.basis
  pub columns : n ≡ x.table.real

pub here-begun : (p : Problem) (budget m n : ℕ) (x : Meaning) → x ≡ resting (start p) → m ≡ p.rows → n ≡ length p.columns.items → IsHere (linear_of p) budget m n 0 One x
here-begun p budget m n x e f h = rw e (record {
  rest = refl;
  reaches = reached-begun (linear_of p);
  within = omega arith;
  rows = f ∙ sym (start-basis (linear_of p));
  columns = h ∙ sym (start-real (linear_of p));
})

module _ (p : Linear ℚ) (budget m n k : ℕ) (phase : Phase) (x : Meaning) (h : IsHere p budget m n k phase x) where
  pub here-usable : IsUsable x
  here-usable = record { loaded = ap (λ (y : Meaning). y.loaded) h.rest; whole = ap (λ (y : Meaning). y.broken) h.rest }

  pub here-cell : (q : Phase) (r j : ℕ) → said (Pivot q r j) ≡ told x.table (due_in phase x.table) → IsPivotCell x.table r j
  here-cell q r j e = (pivots_have_cells p k (record { phase = phase; table = x.table }) q r j h.reaches.reached (told-ok x.table (due_in phase x.table) (Pivot q r j) e).0).0

  pub here-more : (q : Phase) (y : Meaning) (r j : ℕ) → said (Pivot q r j) ≡ told x.table (due_in phase x.table)
      → pivot_fits x.table r j ≡ true → y ≡ resting (pivoted x.table r j) → k ≢ budget → IsHere p budget m n (k + 1) q y
  here-more q y r j e f g ne =
      let d = told-ok x.table (due_in phase x.table) (Pivot q r j) e in
      rw g (record {
        rest = refl;
        reaches = reached-more p k phase x.table q r j h.reaches d.0 d.1 f;
        within = (let w : k ≤ budget = h.within in omega arith);
        rows = h.rows ∙ sym (pivoted-basis x.table r j);
        columns = h.columns ∙ sym (pivoted-real x.table r j);
      })

pub ruleset steps = (here-usable)
