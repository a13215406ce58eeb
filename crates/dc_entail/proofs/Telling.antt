-- From what `solve` tells of a problem to the answers.
use Rattle.std.specs.Prelude.{◌≡◌, ◌↔◌, ℕ, List, length, ℤ, Result, Ok}
use Rattle.std.specs.List.{AllByRecursion}
use Rattle.std.proofs.Common.{sym, ◌∙◌, subst}
use Rattle.std.specs.declared.vec.Vec.{Vec}
use Rattle.std.specs.declared.alloc.Global.{Global}
use Rattle.dc_math.specs.Rational.{ℚ, ◌≤ℚ◌}
use Rattle.dc_frac.specs.declared.Frac.{Frac}
use Rattle.dc_affine.specs.declared.atom.Atom.{Atom}
use Rattle.dc_affine.specs.Atoms.{IsAtom}
use Rattle.dc_lp.specs.Folds.{numbers}
use Rattle.dc_lp.specs.Linear.{Linear}
use Rattle.dc_lp.specs.Problems.{whole_at}
use Rattle.dc_lp.specs.Meanings.{Meaning}
use Rattle.dc_simplex.specs.declared.Outcome.{Outcome}
use Rattle.dc_simplex.specs.declared.Outcome.TheVariants.{Optimal, Infeasible, Unbounded}
use Rattle.dc_simplex.specs.declared.SolveFault.{SolveFault}
use Rattle.dc_simplex.specs.Limits.{Answer, Done, Past, Out}
use Rattle.dc_simplex.specs.Outcomes as solve
use Rattle.dc_simplex.specs.Outcomes.{TellsDone, Shows}
use Rattle.dc_simplex.proofs.Ends.{best_at, refuted_at}
use Rattle.dc_points.specs.Points.{AreOver, IsDead, EntailsFrom}
use Rattle.dc_points.specs.Stated.{rational, empty_problem, sup_problem}
use Rattle.dc_points.specs.Shown.{CombinesTo}
use Rattle.dc_points.proofs.Duals.{empty-no_ray}
use Rattle.dc_points.proofs.Combinations.{solution-shows_dead, solution-combines, refutation-shows_live}
use Rattle.dc_points.proofs.Farkas.{solved-dead, refuted-met, best_is_least, refuted_has_none, never_falls}
use Rattle.dc_points.proofs.Whole.{over_atoms}
use Rattle.dc_entail.specs.Answers.{TellsDead, TellsLive, TellsLeast, TellsNoBound, IsToldBy, TellsOnly}

-- what is told and shown of an outcome
pub record Telling (p : Linear ℚ) (budget : ℕ) (left : Meaning) (o : Outcome) : Type 0 where
  pub tells : TellsDone p budget left o
  pub shows : Shows p o

-- of a problem that is the stated one
pub telling : (p : Linear ℚ) (budget : ℕ) (left : Meaning) (q : Linear ℚ) (o r : Outcome) → q ≡ p → o ≡ r → TellsDone q budget left o → Shows q o → Telling p budget left r
telling p budget left q o r e f t s = record {
  tells = subst (λ q. TellsDone q budget left r) e (subst (TellsDone q budget left) f t);
  shows = subst (λ q. Shows q r) e (subst (Shows q) f s);
}

module _ (hyps : List Atom) (n budget : ℕ) (left : Meaning) (h : AllByRecursion (IsAtom n) hyps) where
  abbrev empty : Linear ℚ
  empty = rational (empty_problem hyps n)

  pub tells_dead : (x y : Vec Frac Global) (v : Frac) (k : ℕ) → Telling empty budget left (Optimal x y v k) → TellsDead hyps n budget x.items
  tells_dead x y v k t = record {
    outcome = best_at empty budget left x y v k t.tells;
    shows = solution-shows_dead n hyps (numbers x.items) t.shows.solution;
    dead = solved-dead n hyps (over_atoms n hyps h) (numbers x.items) t.shows.solution;
  }

  pub tells_live : (y : Vec Frac Global) (k : ℕ) → Telling empty budget left (Infeasible y k) → TellsLive hyps n budget y.items
  tells_live y k t = (let m = refuted-met n hyps (over_atoms n hyps h) (numbers y.items) t.shows.refutation in record {
    outcome = refuted_at empty budget left y k t.tells;
    shows = refutation-shows_live hyps n (numbers y.items) t.shows.refutation;
    point = m.point;
    named = m.named;
    meets = m.meets;
  })

  pub empty-never_falls : (x r : Vec Frac Global) (k : ℕ) → Telling empty budget left (Unbounded x r k) → ⊥
  empty-never_falls x r k t = empty-no_ray n hyps (numbers r.items) t.shows.ray

module _ (hyps : List Atom) (form : List ℤ) (budget : ℕ) (left : Meaning) (h : AllByRecursion (IsAtom (length form)) hyps) where
  abbrev stated : Linear ℚ
  stated = rational (sup_problem hyps form)

  over : AreOver (length form) hyps
  over = over_atoms (length form) hyps h

  pub tells_least : (x y : Vec Frac Global) (v : Frac) (k : ℕ) → Telling stated budget left (Optimal x y v k) → TellsLeast hyps form budget v x.items
  tells_least x y v k t = record {
    outcome = best_at stated budget left x y v k t.tells;
    combines = subst (λ c. CombinesTo hyps (length form) (whole_at form) c (numbers x.items)) t.shows.cost
        (solution-combines (length form) hyps (numbers x.items) (whole_at form) t.shows.solution);
    least = λ w. subst (λ c. EntailsFrom hyps form w ↔ (c ≤ℚ w)) t.shows.cost
        (best_is_least hyps form over (numbers x.items) (numbers y.items) t.shows.solution t.shows.dual (t.shows.cost ∙ sym t.shows.price) w);
  }

  module _ (live : ¬ IsDead hyps) where
    pub tells_no_bound : (y : Vec Frac Global) (k : ℕ) → Telling stated budget left (Infeasible y k) → TellsNoBound hyps form budget y.items
    tells_no_bound y k t = record {
      outcome = refuted_at stated budget left y k t.tells;
      refutes = t.shows.refutation;
      none = refuted_has_none hyps form over live (numbers y.items) t.shows.refutation;
    }

    pub sup-never_falls : (x r : Vec Frac Global) (k : ℕ) → Telling stated budget left (Unbounded x r k) → ⊥
    sup-never_falls x r k t = never_falls hyps form over live (numbers x.items) (numbers r.items) t.shows.solution t.shows.ray

-- ---- whatever answer the run has
module _ (p : Linear ℚ) (budget : ℕ) (q : Linear ℚ) (e : q ≡ p) where
  along : {A : Type 0} (r : Result A SolveFault) → TellsOnly q budget r → TellsOnly p budget r
  along r h = subst (λ z. TellsOnly z budget r) e h

  pub only-ok : {A : Type 0} (o : Outcome) (x : A) → solve.TellsOnly q budget (Ok o) → TellsOnly p budget (Ok x)
  only-ok o x h = along (Ok x) (λ a k. by a (h a k))
    where
      by : (a : Answer) → solve.IsToldBy a (Ok o) → IsToldBy a (Ok x)
      by (Done n e t) k = tt
      by (Past n) k = absurd k
      by (Out n) k = absurd k
