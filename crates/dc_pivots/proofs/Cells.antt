-- The tables of a run, and where its pivots are.
use Rattle.std.proofs.Common.{◌≡◌, ◌≢◌, ℕ, ◌+◌, ◌<◌, length, Some, sym, ◌∙◌, ap, subst, arith}
use Rattle.std.proofs.lemmas.Bool.{false_from_ne_true}
use Rattle.dc_math.specs.Rational.{ℚ}
use Rattle.dc_math.specs.RationalField.{rationals}
use Rattle.dc_math.specs.Field.{Field, nonneg}
use Rattle.dc_lp.specs.Linear.{Linear}
use Rattle.dc_lp.specs.Tables.{Table, at, right}
use Rattle.dc_pivots.specs.Runs.{State, Phase, Pivot, due_at, run}
use Rattle.dc_pivots.specs.FieldLaws.{IsFeasible}
use Rattle.dc_pivots.specs.FieldLaws as laws
use Rattle.dc_pivots.specs.Laws.{PivotsHaveCells}
use Rattle.dc_lp.proofs.Chosen.{zero-is}
use Rattle.dc_pivots.proofs.Choices.{move}
use Rattle.dc_pivots.proofs.Kept.{Kept, IsCell, cell}
use Rattle.dc_pivots.proofs.Whole.{G, C, IsReached, run-is, kept}

module _ (Q : Type 0) (F : Field Q) (p : Linear Q) where
  -- what the run keeps holds of the table that it reaches
  record IsHere (a : State Q) (x : ℕ) : Type 0 where
    keeps : Kept Q F p a.phase a.table (G Q F p x) (C Q F p x)

  here : (x : ℕ) (a : State Q) → run Q F p x ≡ Some a → IsHere a x
  here x a e = (let r : IsReached Q F p x a = run-is Q F p x a e in record { keeps = subst (λ z. Kept Q F p z.phase z.table (G Q F p x) (C Q F p x)) (sym r.here) (kept Q F p x r.pivots x (omega arith)) })

  right-is : (t : Table Q) → t.real ≡ p.columns → length t.basis ≡ p.equations → right Q F t ≡ p.columns + p.equations
  right-is t real long = omega arith

  pub stays_feasible : laws.StaysFeasible Q F p
  stays_feasible x a e =
      let k : Kept Q F p a.phase a.table (G Q F p x) (C Q F p x) = (here x a e).keeps in
      record {
        real = k.shadow.real;
        rows = k.shadow.long;
        basis = λ i l. subst (λ y. y < p.columns + p.equations) (sym (k.shadow.basis i l)) (k.range i l);
        right_sides = λ i l. ap (nonneg Q F) (ap (at Q F a.table i) (right-is a.table k.shadow.real k.shadow.long) ∙ k.shadow.entries i (p.columns + p.equations) (omega arith) (omega arith)) ∙ k.feasible i l;
      }

  -- where a pivot is due
  record IsCellOf (a : State Q) (r j : ℕ) : Type 0 where
    row : r < length a.table.basis
    column : j < a.table.real
    nonzero : at Q F a.table r j ≢ F.zero_q

  cell-of : (x : ℕ) (a : State Q) (q : Phase) (r j : ℕ) → run Q F p x ≡ Some a → due_at Q F a ≡ Pivot q r j → IsCellOf a r j
  cell-of x a q r j e d =
      let k : Kept Q F p a.phase a.table (G Q F p x) (C Q F p x) = (here x a e).keeps in
      let y : IsCell Q F p (G Q F p x) r j = cell Q F p a.phase q a.table (G Q F p x) (C Q F p x) r j k.shadow (move Q F a.phase a.table q r j d) in
      let long : length a.table.basis ≡ p.equations = k.shadow.long in
      let real : a.table.real ≡ p.columns = k.shadow.real in
      let lr : r < p.equations = y.row in
      let lj : j < p.columns = y.column in
      record { row = omega arith; column = omega arith; nonzero = λ z. y.nonzero (sym (k.shadow.entries r j (omega arith) (omega arith)) ∙ z) }

pub pivots_have_cells : PivotsHaveCells
pivots_have_cells p n s q r j e d =
    let y = cell-of ℚ rationals p n s q r j e d in
    let l : j < s.table.real = y.column in
    (record { row = y.row; column = omega arith; nonzero = false_from_ne_true _ (λ z. y.nonzero (zero-is ℚ rationals (at ℚ rationals s.table r j) z)) }, l)
