-- A problem has one outcome at most.
use Rattle.std.proofs.Common.{◌≡◌, ℕ, zero, suc, ◌+◌, ◌<◌, List, [], ◌∷◌, length, map, Some, refl, sym, ◌∙◌, ap, ap₂, subst, arith, inl, inr}
use Rattle.dc_math.specs.Rational.{ℚ}
use Rattle.dc_math.specs.RationalField.{rationals}
use Rattle.dc_frac.specs.declared.Frac.{Frac}
use Rattle.dc_frac.specs.Value.{value}
use Rattle.dc_frac.proofs.ValueLaws.{same_frac}
use Rattle.dc_lp.specs.Folds.{numbers}
use Rattle.dc_lp.specs.Linear.{Linear}
use Rattle.dc_lp.specs.Tables.{Table}
use Rattle.dc_pivots.specs.Runs.{State, run, due_at, IsPivot}
use Rattle.dc_pivots.specs.declared.Ending.{Ending}
use Rattle.dc_pivots.specs.declared.Ending.TheVariants as endings
use Rattle.dc_pivots.specs.declared.Due.TheVariants.{End}
use Rattle.dc_simplex.specs.declared.Outcome.{Outcome}
use Rattle.dc_simplex.specs.declared.Outcome.TheVariants.{Optimal, Infeasible, Unbounded}
use Rattle.dc_simplex.specs.Outcomes.{IsVector, TellsEnd, pivots_of, IsOutcome, AreSame, HasOneOutcome}
use Rattle.dc_simplex.proofs.Reach.{no_pivot, one_state, IsBefore, before}
use Rattle.dc_simplex.proofs.OneAnswer.{ordered}

-- ---- fractions and lists of them are fixed by their numbers
same_list : (xs ys : List Frac) → length xs ≡ length ys → ((k : ℕ) → k < length xs → numbers xs k ≡ numbers ys k) → xs ≡ ys
same_list [] [] l e = refl
same_list [] (y ∷ ys) l e = absurd (omega (arith, l))
same_list (x ∷ xs) [] l e = absurd (omega (arith, l))
same_list (x ∷ xs) (y ∷ ys) l e = ap₂ ◌∷◌ (same_frac x y (e 0 (omega arith))) (same_list xs ys (omega (arith, l)) (λ k m. e (suc k) (omega arith)))

pub same_vector : (n : ℕ) (f : ℕ → ℚ) (xs ys : List Frac) → IsVector n f xs → IsVector n f ys → xs ≡ ys
same_vector n f xs ys h k =
    let lx : length xs ≡ n = h.long in
    let ly : length ys ≡ n = k.long in
    same_list xs ys (lx ∙ sym ly) (λ i l. h.each i (omega arith) ∙ sym (k.each i (omega arith)))

-- ---- one end
module _ (p : Linear ℚ) where
  ends_once : (n m : ℕ) (s u : State ℚ) (e : Ending) → run ℚ rationals p n ≡ Some s → due_at ℚ rationals s ≡ End e → run ℚ rationals p m ≡ Some u → n < m → ⊥
  ends_once n m s u e r d q lt =
      let b : IsBefore p n = before p m n u q lt in
      let same : b.state ≡ s = one_state p n _ _ b.reached r in
      no_pivot (due_at ℚ rationals s) e d (subst (λ (z : State ℚ). IsPivot (due_at ℚ rationals z)) same b.more)

  same_vectors : (t : Table ℚ) (e : Ending) (a b : Outcome) → TellsEnd p t e a → TellsEnd p t e b → pivots_of a ≡ pivots_of b → AreSame a b
  same_vectors t endings.Optimal (Optimal x y v n) (Optimal x' y' v' n') h k i = (same_vector p.columns _ x.items x'.items h.solution k.solution, same_vector p.equations _ y.items y'.items h.dual k.dual, same_frac v v' (h.value ∙ sym k.value), i)
  same_vectors t endings.Optimal (Optimal x y v n) (Infeasible x' n') h k i = absurd k
  same_vectors t endings.Optimal (Optimal x y v n) (Unbounded x' y' n') h k i = absurd k
  same_vectors t endings.Optimal (Infeasible x n) b h k i = absurd h
  same_vectors t endings.Optimal (Unbounded x y n) b h k i = absurd h
  same_vectors t endings.Infeasible (Optimal x y v n) b h k i = absurd h
  same_vectors t endings.Infeasible (Infeasible x n) (Optimal x' y' v' n') h k i = absurd k
  same_vectors t endings.Infeasible (Infeasible x n) (Infeasible x' n') h k i = (same_vector p.equations _ x.items x'.items h k, i)
  same_vectors t endings.Infeasible (Infeasible x n) (Unbounded x' y' n') h k i = absurd k
  same_vectors t endings.Infeasible (Unbounded x y n) b h k i = absurd h
  same_vectors t (endings.Unbounded j) (Optimal x y v n) b h k i = absurd h
  same_vectors t (endings.Unbounded j) (Infeasible x n) b h k i = absurd h
  same_vectors t (endings.Unbounded j) (Unbounded x y n) (Optimal x' y' v' n') h k i = absurd k
  same_vectors t (endings.Unbounded j) (Unbounded x y n) (Infeasible x' n') h k i = absurd k
  same_vectors t (endings.Unbounded j) (Unbounded x y n) (Unbounded x' y' n') h k i = (same_vector p.columns _ x.items x'.items h.solution k.solution, same_vector p.columns _ y.items y'.items h.ray k.ray, i)

  one : (a b : Outcome) → IsOutcome p a → IsOutcome p b → AreSame a b
  one a b h k = elim (ordered (pivots_of a) (pivots_of b)) [
    | inl (inl lt) ↦ absurd (ends_once _ _ h.state k.state h.ending h.reached h.over k.reached lt)
    | inl (inr lt) ↦ absurd (ends_once _ _ k.state h.state k.ending k.reached k.over h.reached lt)
    | inr same ↦
        let g : h.state ≡ k.state = one_state p (pivots_of a) _ _ h.reached (ap (run ℚ rationals p) same ∙ k.reached) in
        let d : End h.ending ≡ End k.ending = sym h.over ∙ ap (due_at ℚ rationals) g ∙ k.over in
        let e : h.ending ≡ k.ending = (cc) in
        same_vectors h.state.table h.ending a b h.vectors
        (subst (λ (x : Ending). TellsEnd p h.state.table x b) (sym e) (subst (λ (z : State ℚ). TellsEnd p z.table k.ending b) (sym g) k.vectors)) same
  ]

pub has_one_outcome : HasOneOutcome
has_one_outcome = one
