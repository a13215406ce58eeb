-- The whole problem, from the table of its duties.
use Rattle.std.specs.Prelude.{◌≡◌, ℕ, ◌+◌, ◌*◌, ◌<◌, ◌≤◌, List, All, length, sum_by, None, Some, Result, Ok, Err, IfErr, IsErrAnd}
use Rattle.std.proofs.Common.{sym, ◌∙◌, ap, subst, arith, inl, inr}
use Rattle.dc_syntax.specs.declared.tree.Count.TheVariants as count
use Rattle.dc_lp.specs.declared.Problem.{Problem}
use Rattle.dc_lp.specs.Problems.{IsWellFormed, linear_of}
use Rattle.dc_points.specs.Stated.{rational}
use Rattle.dc_claims.specs.declared.duty.Duty.{Duty}
use Rattle.dc_claims.specs.Claims.{products_count}
use Rattle.dc_claims.specs.Duties.{Pair, Flags, duties_of, IsThere}
use Rattle.dc_claims.specs.Parts.{unknowns_of}
use Rattle.dc_claims.specs.Plans.{IsFit}
use Rattle.dc_claims.specs.Problems.{columns_of, main_problem}
use Rattle.dc_duties.specs.declared.plan.Programs.{Programs}
use Rattle.dc_duties.specs.declared.plan.Task.{Task}
use Rattle.dc_duties.specs.Lent.{lent}
use Rattle.dc_duties.specs.Tasks.{IsTaskOf}
use Rattle.dc_table.specs.declared.table.Table.{Table}
use Rattle.dc_table.specs.Tables.{IsProblemOf}
use Rattle.dc_table.proofs.Whole as whole
use Rattle.dc_match.specs.declared.fault.MatchFault.{MatchFault}
use Rattle.dc_match.specs.declared.fault.MatchFault.TheVariants.{TooLarge}
use Rattle.dc_match.specs.Answers.{size_fault, IsFault, IsFilled, IsFillFault}
use Rattle.dc_match.proofs.Counting.{duties_there, duties_few, below_sum, columns_counted, columns_fault, equations_fault, no_fault}
use Rattle.dc_match.proofs.Filling.{two_columns}

-- ---- what a task is of
pub at_task : (F : Pair → ℕ → ℕ → Type 0) (q : Programs) (d k : ℕ) (t : Task) → IsTaskOf q d k t → F (lent q) d k → F (lent t.programs.now) t.degree t.products
at_task F q d k t h x =
    subst (λ r. F (lent r) t.degree t.products) (sym h.same_programs) (subst (λ n. F (lent q) n t.products) (sym h.same_degree) (subst (F (lent q) d) (sym h.same_products) x))

pub of_task : (F : Pair → ℕ → ℕ → Type 0) (q : Programs) (d k : ℕ) (t : Task) → IsTaskOf q d k t → F (lent t.programs.now) t.degree t.products → F (lent q) d k
of_task F q d k t h x =
    subst (F (lent q) d) h.same_products (subst (λ n. F (lent q) n t.products) h.same_degree (subst (λ r. F (lent r) t.degree t.products) h.same_programs x))

-- ---- a fault that is handed on
pub handed_on : {X : Type 0} (r : Result X MatchFault) (e : MatchFault) (P : MatchFault → Type 0) → IsErrAnd r (λ f. f ≡ e) → P e → IfErr r P
handed_on (Ok _) e P h x = tt
handed_on (Err _) e P h x = subst P (sym h) x

module _ (p : Pair) (d k : ℕ) (f : Flags) (fit : IsFit p d k f) (ds : List Duty) (are : ds ≡ duties_of f) where
  pub all_there : All (IsThere p) ds
  all_there = subst (All (IsThere p)) (sym are) (duties_there p f fit.flags)

  pub not_many : length ds ≤ 2048
  not_many = subst (λ os. length os ≤ 2048) (sym are) (duties_few p f fit.pair fit.flags)

  module _ (n : ℕ) (told : n ≡ 2 * length (unknowns_of p d) + sum_by (products_count p k) ds) where
    true_count : length (columns_of p d k f) ≡ n
    true_count = columns_counted p d k f ∙ ap (λ os. 2 * length (unknowns_of p d) + sum_by (products_count p k) os) (sym are) ∙ sym told

    pub few_products : n ≤ 8192 → All (λ o. products_count p k o ≤ 8192) ds
    few_products l = below_sum (products_count p k) ds 8192 (omega (arith, told))

    pub too_many_columns : 8192 < n → IsFault p d k f (TooLarge count.Columns n)
    too_many_columns l = inr (columns_fault p d k f (let e = true_count in omega arith) ∙ ap (λ i. Some (TooLarge count.Columns i)) true_count)

    pub fill_fault : (e : MatchFault) → n ≤ 8192 → IsFillFault p d k ds e → IsFault p d k f e
    fill_fault e l h = by (subst (λ os. IsFillFault p d k os e) are h)
      where
        by : IsFillFault p d k (duties_of f) e → IsFault p d k f e
        by (inl g) = inl g
        by (inr g) = inr (equations_fault p d k f (let q = true_count in omega arith) g.many ∙ ap Some (sym g.told))

    module _ (t : Table) (h : IsFilled p d k ds t) where
      filled : IsFilled p d k (duties_of f) t
      filled = subst (λ os. IsFilled p d k os t) are h

      pub within : n ≤ 8192 → size_fault p d k f ≡ None
      within l = no_fault p d k f (let e = true_count in omega arith) filled.within

      pub is_main : (r : Problem) → IsProblemOf t r → linear_of r ≡ rational (main_problem p d k f)
      is_main r g = whole.problem_is p d k f t r filled.table g

      pub is_well_formed : (r : Problem) → IsProblemOf t r → IsWellFormed r
      is_well_formed r g = whole.well_formed p d k f t r filled.table g (length (duties_of f)) (duties_few p f fit.pair fit.flags) filled.weighed

  pub has_two : (t : Table) → IsFilled p d k ds t → 2 ≤ length t.unknowns.items
  has_two t h = two_columns p d k ds t h.table
