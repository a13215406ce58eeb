-- Refusals of one problem, and of a list that has it.
use Rattle.std.specs.Prelude.{◌≡◌, ℕ, List, [], ◌∷◌, ℤ, Result, Ok, Err, OnOk}
use Rattle.std.proofs.Common.{refl, subst, inl}
use Rattle.dc_frac.specs.declared.Frac.{Frac}
use Rattle.dc_lp.specs.Linear.{Linear}
use Rattle.dc_pivots.specs.declared.Ending.TheVariants.{Optimal, Infeasible}
use Rattle.dc_simplex.specs.Limits.{Answer, Past, Out, IsAnswer}
use Rattle.dc_simplex.specs.declared.SolveFault.{SolveFault}
use Rattle.dc_simplex.specs.declared.SolveFault.TheVariants as solve
use Rattle.dc_points.specs.Stated.{rational}
use Rattle.dc_entail.specs.Answers.{IsSolveFault, IsBestAt, IsRefutedAt}
use Rattle.dc_entail.specs.Asked.{Asked, Refuses}
use Rattle.dc_entail.specs.declared.answer.Site.{Site}
use Rattle.dc_greatest.specs.declared.family.InvFault.{InvFault}
use Rattle.dc_greatest.specs.declared.family.InvFault.TheVariants.{Past128, Budget, NoMemory}
use Rattle.dc_greatest.specs.Refusals.{with_site}
use Rattle.dc_greatest.specs.Answers.{IsFault}
use Rattle.dc_greatest.specs.Bounds.{HasEnd}

-- the refusal of a part is that of a whole
pub fault_from : (budget : ℕ) (P Q : List Asked → Type 0)
    → ((asked : List Asked) → P asked → (site : Site) (a : Answer) → Refuses budget asked site a → (whole : List Asked) × Q whole × Refuses budget whole site a)
    → (f : InvFault) → IsFault budget P f → IsFault budget Q f
fault_from budget P Q h (Past128 site k) (asked, p, r) = h asked p site (Past k) r
fault_from budget P Q h (Budget site) (asked, p, r) = h asked p site (Out budget) r
fault_from budget P Q h NoMemory t = tt

-- of one problem, with its site
pub fault_with_site : (budget : ℕ) (q : Asked) (f : SolveFault) → IsSolveFault (rational q.problem) budget f → IsFault budget (λ asked. asked ≡ q ∷ []) (with_site q.site f)
fault_with_site budget q (solve.Past128 k) h = (q ∷ [], refl, inl (refl, tt, h))
fault_with_site budget q (solve.Budget n) h = (q ∷ [], refl, inl (refl, tt, subst (λ i. IsAnswer (rational q.problem) budget (Out i)) h.1 h))
fault_with_site budget q solve.NoMemory h = tt

-- ---- what comes to its end
pub best_end : (budget : ℕ) (p : Linear ℤ) (x : List Frac) → IsBestAt (rational p) budget x → HasEnd budget p
best_end budget p x h = (h.comes.pivots, Optimal, h.table, h.comes.answer)

pub refuted_end : (budget : ℕ) (p : Linear ℤ) (y : List Frac) → IsRefutedAt (rational p) budget y → HasEnd budget p
refuted_end budget p y h = (h.comes.pivots, Infeasible, h.table, h.comes.answer)

pub on_both : {T E : Type 0} (r : Result T E) (P Q R : Type 0) → (P → Q → R) → OnOk r P → OnOk r Q → OnOk r R
on_both (Ok x) P Q R f p q = f p q
on_both (Err e) P Q R f p q = p
