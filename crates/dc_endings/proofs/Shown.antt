-- The lines and keeps of problems that come to their end.
use Rattle.std.specs.Prelude.{ℕ, suc, ◌+◌, ◌^◌, ◌<◌, ◌≤◌, List, length, ℤ, sum_by, unsigned_abs}
use Rattle.std.specs.List.{AllByRecursion}
use Rattle.std.proofs.Common.{sym, ◌∙◌}
use Rattle.dc_math.specs.Rational.{ℚ}
use Rattle.dc_affine.specs.declared.atom.Atom.{Atom}
use Rattle.dc_affine.specs.Atoms.{IsAtom}
use Rattle.dc_lp.specs.Linear.{Linear, cost_of}
use Rattle.dc_lp.specs.Problems.{whole_at}
use Rattle.dc_lp.specs.Tables.{Table}
use Rattle.dc_pivots.specs.declared.Ending.{Ending}
use Rattle.dc_pivots.specs.declared.Ending.TheVariants.{Optimal, Infeasible, Unbounded}
use Rattle.dc_simplex.specs.Outcomes.{solution_at, direction_at, multiplier_at}
use Rattle.dc_simplex.specs.Ends.{ComesTo}
use Rattle.dc_cert.specs.declared.sparse.Sparse.{Sparse}
use Rattle.dc_cert.specs.declared.certificate.Liveness.{Liveness}
use Rattle.dc_cert.specs.declared.certificate.Liveness.TheVariants.{Dead, Live}
use Rattle.dc_cert.specs.Vectors.{entry_of}
use Rattle.dc_cert.specs.Ranges.{is_live}
use Rattle.dc_points.specs.Points.{AreOver, IsDead, EntailsFrom}
use Rattle.dc_points.specs.Stated.{rational, empty_problem, sup_problem}
use Rattle.dc_points.specs.Shown.{IsFlag}
use Rattle.dc_points.proofs.Duals.{empty-no_ray}
use Rattle.dc_points.proofs.Combinations.{solution-shows_dead, solution-combines, refutation-shows_live}
use Rattle.dc_points.proofs.Farkas.{solved-dead, refuted-met, best_is_least, refuted_has_none, never_falls}
use Rattle.dc_points.proofs.Flags.{dead_flag, live_flag}
use Rattle.dc_points.proofs.Whole.{over_atoms}
use Rattle.dc_entail.specs.Asked.{Asked, IsDone}
use Rattle.dc_invariant.specs.Shown.{IsSolutionOf, IsRefutationOf, IsLine}
use Rattle.dc_invariant.specs.Lent.{IsLeastKeep}
use Rattle.dc_invariant.proofs.Vectors.{combines_same, live_same}
use Rattle.dc_session.specs.Made.{AreItemsOf}
use Rattle.dc_acceptance.proofs.Items.{item_at}
use Rattle.dc_acceptance.proofs.Bodies.{shown_at_end}
use Rattle.dc_endings.proofs.Numbers.{items_are}
use Rattle.dc_endings.proofs.Starts.{IsLight}
use Rattle.dc_endings.proofs.Vectors.{end_numbers, solution_number, multiplier_number}
use Rattle.dc_endings.proofs.Weights.{empty_light, sup_light}

-- ---- ends
-- the run of a problem comes to an end
pub record IsEnded (p : Linear ℤ) (budget : ℕ) : Type 0 where
  pub ending : Ending
  pub table : Table ℚ
  pub comes : ComesTo (rational p) budget ending table

pub done_ended : (budget : ℕ) (q : Asked) → IsDone budget q → IsEnded q.problem budget
done_ended budget q (n, e, t, a) = record { ending = e; table = t; comes = record { pivots = n; answer = a } }

module _ (p : Linear ℤ) (light : IsLight p) (budget : ℕ) (t : Table ℚ) where
  has_solution : ComesTo (rational p) budget Optimal t → (k : Sparse) × AreItemsOf p.columns (solution_at t) k
  has_solution c = items_are p.columns (solution_at t) (λ k l. solution_number t (end_numbers p budget Optimal t light c) k)

  solution_is : (k : Sparse) → ComesTo (rational p) budget Optimal t → AreItemsOf p.columns (solution_at t) k → IsSolutionOf p budget k
  solution_is k c h = record { whole = h.whole; outcome = record { table = t; comes = c; vector = h.vector }; items = h.items }

  has_refutation : ComesTo (rational p) budget Infeasible t → (k : Sparse) × AreItemsOf p.equations (multiplier_at (rational p) t (length t.basis)) k
  has_refutation c =
      items_are p.equations (multiplier_at (rational p) t (length t.basis))
      (λ k l. multiplier_number t (end_numbers p budget Infeasible t light c) (rational p) (length t.basis) k)

  refutation_is : (k : Sparse) → ComesTo (rational p) budget Infeasible t → AreItemsOf p.equations (multiplier_at (rational p) t (length t.basis)) k → IsRefutationOf p budget k
  refutation_is k c h = record { whole = h.whole; outcome = record { table = t; comes = c; vector = h.vector }; items = h.items }

-- ---- lines
pub record HasLine (hyps : List Atom) (n budget : ℕ) : Type 0 where
  pub said : Liveness
  pub line : IsLine hyps n budget said
  pub flag : IsFlag (is_live said) hyps

module _ (hyps : List Atom) (n budget : ℕ) (atoms : AllByRecursion (IsAtom n) hyps) (few : n ≤ 1024) where
  abbrev empty : Linear ℤ
  empty = empty_problem hyps n

  over : AreOver n hyps
  over = over_atoms n hyps atoms

  light : IsLight empty
  light = empty_light n hyps atoms n few

  pub has_line : IsEnded empty budget → HasLine hyps n budget
  has_line h = by h.ending h.comes
    where
      by : (e : Ending) → ComesTo (rational empty) budget e h.table → HasLine hyps n budget
      by Optimal c =
          let s = shown_at_end (rational empty) budget Optimal h.table c in
          let k = has_solution empty light budget h.table c in
          record {
            said = Dead k.0;
            line = record {
              vector = solution_is empty light budget h.table k.0 c k.1;
              shows = combines_same hyps (solution_at h.table) (entry_of k.0.items) (λ j l. item_at (length hyps) (solution_at h.table) k.0 k.1 j l) n _ _
                  (solution-shows_dead n hyps (solution_at h.table) s.solution);
            };
            flag = dead_flag hyps (solved-dead n hyps over (solution_at h.table) s.solution);
          }
      by Infeasible c =
          let r = shown_at_end (rational empty) budget Infeasible h.table c in
          let y : ℕ → ℚ = multiplier_at (rational empty) h.table (length h.table.basis) in
          let k = has_refutation empty light budget h.table c in
          let m = refuted-met n hyps over y r in
          record {
            said = Live k.0;
            line = record {
              vector = refutation_is empty light budget h.table k.0 c k.1;
              shows = live_same hyps n y (entry_of k.0.items) (λ i l. item_at (suc n) y k.0 k.1 i l) (refutation-shows_live hyps n y r);
            };
            flag = live_flag hyps (λ d. d m.point m.meets);
          }
      by (Unbounded j) c = absurd (empty-no_ray n hyps (direction_at h.table j) (shown_at_end (rational empty) budget (Unbounded j) h.table c).ray)

-- ---- keeps
module _ (hyps : List Atom) (form : List ℤ) (budget : ℕ) (atoms : AllByRecursion (IsAtom (length form)) hyps) (few : length form ≤ 1024)
    (small : sum_by unsigned_abs form < 2 ^ 70) (live : ¬ IsDead hyps) where
  abbrev sup : Linear ℤ
  sup = sup_problem hyps form

  form_over : AreOver (length form) hyps
  form_over = over_atoms (length form) hyps atoms

  form_light : IsLight sup
  form_light = sup_light (length form) hyps atoms form few small

  pub has_keep : (w : ℚ) → EntailsFrom hyps form w → IsEnded sup budget → (k : Sparse) × IsLeastKeep hyps form budget k
  has_keep w from h = by h.ending h.comes
    where
      by : (e : Ending) → ComesTo (rational sup) budget e h.table → (k : Sparse) × IsLeastKeep hyps form budget k
      by Optimal c =
          let s = shown_at_end (rational sup) budget Optimal h.table c in
          let k = has_solution sup form_light budget h.table c in
          let x : ℕ → ℚ = solution_at h.table in (
            k.0,
            record {
              vector = solution_is sup form_light budget h.table k.0 c k.1;
              number = cost_of (rational sup) x;
              combines = combines_same hyps x (entry_of k.0.items) (λ j l. item_at (length hyps) x k.0 k.1 j l) (length form) (whole_at form) (cost_of (rational sup) x)
                  (solution-combines (length form) hyps x (whole_at form) s.solution);
              least = best_is_least hyps form form_over x (multiplier_at (rational sup) h.table (length h.table.basis + 1)) s.solution s.dual (s.cost ∙ sym s.price);
            },
          )
      by Infeasible c =
          absurd (refuted_has_none hyps form form_over live (multiplier_at (rational sup) h.table (length h.table.basis))
          (shown_at_end (rational sup) budget Infeasible h.table c) w from)
      by (Unbounded j) c =
          let s = shown_at_end (rational sup) budget (Unbounded j) h.table c in
          absurd (never_falls hyps form form_over live (solution_at h.table) (direction_at h.table j) s.solution s.ray)
