-- Which column enters and which row leaves, over the rational numbers.
use Rattle.std.proofs.Common.{◌≡◌, ℕ, ◌<◌, ◌≤◌, inl, inr, false, not, length, slice_index, Option, Some, None, refl, sym, ◌∙◌, ap, arith}
use Rattle.std.specs.Prelude.{pos}
use Rattle.std.proofs.lemmas.Bool.{not-true, cases_lt}
use Rattle.dc_math.specs.Rational.{ℚ, of_ℤ, neg_ℚ, ◌<ℚ◌, <ℚ-not, ≤ℚ_antisymm, le_ℚ, NonNegative, sub-≤ℚ}
use Rattle.dc_math.specs.Order.{≤ℚ_same}
use Rattle.dc_math.specs.RationalField.{rationals, neg_ℚ-NonNegative}
use Rattle.dc_math.specs.FieldOrder.{at_most_zero}
use Rattle.dc_math.specs.Tests as tests
use Rattle.dc_math.specs.Tests.{le_ℚ_true, le_ℚ_false, le_ℚ-true, le_ℚ-false, lt_ℚ_true, lt_ℚ-true}
use Rattle.dc_lp.specs.Tables as tables
use Rattle.dc_lp.specs.Tables.{Table}
use Rattle.dc_lp.specs.Meanings.{at, entering, ratio_row}
use Rattle.dc_lp.specs.Choices.{ratio_of, Enters, NoneEnters, Leaves, NoneLeaves}
use Rattle.dc_lp.specs.Laws.{ColumnEnters, NoColumnEnters, RowLeaves, NoRowLeaves}
use Rattle.dc_lp.proofs.Firsts.{some-index, none-index}
use Rattle.dc_lp.proofs.Chosen.{entering-is, entering-none, ratio_row-is, ratio_row-none, IsBest}

-- ---- signs, as tests and as facts
negative : (x : ℚ) → le_ℚ (of_ℤ (pos 0)) x ≡ false → x <ℚ of_ℤ (pos 0)
negative x e = le_ℚ_false _ _ e

positive : (x : ℚ) → le_ℚ (of_ℤ (pos 0)) (neg_ℚ x) ≡ false → of_ℤ (pos 0) <ℚ x
positive x e = lt_ℚ_true _ _ (ap not (at_most_zero ℚ rationals x ∙ e))

positive-tested : (x : ℚ) → of_ℤ (pos 0) <ℚ x → le_ℚ (of_ℤ (pos 0)) (neg_ℚ x) ≡ false
positive-tested x h = sym (at_most_zero ℚ rationals x) ∙ not-true (le_ℚ x (of_ℤ (pos 0))) (lt_ℚ-true _ _ h)

-- ---- the column that enters
pub column_enters : ColumnEnters
unfolding tables.entering
column_enters t i j = (forth, back)
  where
    forth : entering t i ≡ Some j → Enters t i j
    forth e = (let h = entering-is ℚ rationals t i j e in record { real = h.0; negative = negative _ h.1; least = λ k l. le_ℚ_true _ _ (h.2 k l) })

    back : Enters t i j → entering t i ≡ Some j
    back h = some-index (λ k. tests.is_negative (at t i k)) t.real j h.real (ap not (le_ℚ-false _ _ h.negative)) (λ k l. ap not (le_ℚ-true _ _ (h.least k l)))

pub no_column_enters : NoColumnEnters
unfolding tables.entering
no_column_enters t i = (forth, back)
  where
    forth : entering t i ≡ None → NoneEnters t i
    forth e k l = le_ℚ_true _ _ (entering-none ℚ rationals t i e k l)

    back : NoneEnters t i → entering t i ≡ None
    back h = none-index (λ k. tests.is_negative (at t i k)) t.real (λ k l. ap not (le_ℚ-true _ _ (h k l)))

-- ---- the row that leaves
nothing : (x y : ℚ) → x ≡ y → NonNegative (rationals.add x (rationals.neg y))
nothing x y s = ≤ℚ_same _ _ (sym (ap (λ z. rationals.add z (rationals.neg y)) s ∙ rationals.add_neg y))

leaves-of : (t : Table ℚ) (j r : ℕ) → ratio_row t j ≡ Some r → Leaves t j r
leaves-of t j r e =
    let b : IsBest ℚ rationals t j (length t.basis) r = ratio_row-is ℚ rationals t j r e in
    record {
      row = b.below;
      positive = positive (at t r j) b.positive;
      least = λ i l p. sub-≤ℚ (ratio_of t j r) (ratio_of t j i) (le_ℚ_true _ _ (b.leads i l (positive-tested (at t i j) p)).best);
      ties = λ i l p same. (b.leads i l (positive-tested (at t i j) p)).tie (le_ℚ-true _ _ (nothing (ratio_of t j r) (ratio_of t j i) (sym same)));
      first = λ i l p same one.
          let less : slice_index t.basis r < slice_index t.basis i = b.first i l (positive-tested (at t i j) p) (le_ℚ-true _ _ (nothing (ratio_of t j r) (ratio_of t j i) (sym same))) in
          absurd (omega arith);
    }

pub no_row_leaves : NoRowLeaves
no_row_leaves t j = (forth, back (ratio_row t j) refl)
  where
    forth : ratio_row t j ≡ None → NoneLeaves t j
    forth e i l = neg_ℚ-NonNegative (at t i j) (le_ℚ_true _ _ (ratio_row-none ℚ rationals t j e i l))

    back : (o : Option ℕ) → ratio_row t j ≡ o → NoneLeaves t j → ratio_row t j ≡ None
    back None e h = e
    back (Some r) e h = (let b : Leaves t j r = leaves-of t j r e in absurd (<ℚ-not _ _ b.positive (h r b.row)))

pub row_leaves : RowLeaves
row_leaves t j r = (leaves-of t j r, λ h. by h (ratio_row t j) refl)
  where
    one : (k : ℕ) → Leaves t j r → Leaves t j k → k ≡ r
    one k h b =
        let same : ratio_of t j k ≡ ratio_of t j r = ≤ℚ_antisymm _ _ (b.least r h.row h.positive) (h.least k b.row b.positive) in
        let up : slice_index t.basis k ≤ slice_index t.basis r = b.ties r h.row h.positive (sym same) in
        let down : slice_index t.basis r ≤ slice_index t.basis k = h.ties k b.row b.positive same in
        let basic : slice_index t.basis k ≡ slice_index t.basis r = omega arith in
        elim (cases_lt k r) [
          | inl l ↦ absurd (h.first k l b.positive same basic)
          | inr l ↦ elim (cases_lt r k) [
            | inl m ↦ absurd (b.first r m h.positive (sym same) (sym basic))
            | inr m ↦ omega arith
          ]
        ]

    by : Leaves t j r → (o : Option ℕ) → ratio_row t j ≡ o → ratio_row t j ≡ Some r
    by h None e = absurd (<ℚ-not _ _ h.positive ((no_row_leaves t j).0 e r h.row))
    by h (Some k) e = e ∙ ap Some (one k h (leaves-of t j k e))
