-- Farkas' lemma for points of atoms: from the vectors of the two problems to points and back.
use Rattle.std.specs.Prelude.{◌≡◌, ◌↔◌, ◌⊎◌, ℕ, ◌≤◌, List, [], ◌∷◌, length, ℤ, pos}
use Rattle.std.proofs.Common.{refl, sym, ◌∙◌, ap, subst, arith, inl, inr, ⊎_elim}
use Rattle.dc_math.specs.WholeVectors.{dot_ℤ}
use Rattle.dc_math.specs.Rational.{ℚ, ◌+ℚ◌, ◌*ℚ◌, of_ℤ, ◌≤ℚ◌, NonNegative}
use Rattle.dc_math.specs.RationalRing.{ring, reads, read_nat, same_form, ≤ℚ_trans, linear₁}
use Rattle.dc_math.specs.Inverse.{inverse, *ℚ-inverse}
use Rattle.dc_math.specs.Sums.{sum_ℚ}
use Rattle.dc_affine.specs.declared.atom.Atom.{Atom}
use Rattle.dc_lp.specs.Linear.{combined_right, cost_of, IsSolution, IsDual, IsRefutation, IsRay}
use Rattle.dc_lp.specs.Problems.{whole_at}
use Rattle.dc_lp.proofs.Duality.{weak, excludes}
use Rattle.dc_pivots.specs.Outcomes.{Outcome, Best, Refuted, Falling}
use Rattle.dc_pivots.proofs.Rationals.{has_outcome}
use Rattle.dc_points.specs.Points.{Point, MeetsAll, AreOver, IsDead, Entails, EntailsFrom, IsNamed}
use Rattle.dc_points.specs.Stated.{rational, coefficient_of, empty_problem, sum_problem, sup_problem}
use Rattle.dc_points.specs.Shown.{ShowsAtom}
use Rattle.dc_points.specs.Laws.{DeadAreShown, LiveAreNamed, MetAreShown, DeadOrMet, ShownAreEntailed, EntailedAreShown, HasLeast, LeastOrNone}
use Rattle.dc_points.proofs.Coordinates.{IsPlaced, has_point, vector_of, vector-placed, all_meet-hold, all_hold-meet, meets-holds, holds-meets, form-placed, scaled_up, scaled_down}
use Rattle.dc_points.proofs.Bounds.{DualsAtMost, best-least, dual-no_ray, refuted-no_bound}
use Rattle.dc_points.proofs.Duals.{holds-refutes, refutes-holds, refuting_nonzero, refuting_negative, holds-dual, at_least-duals, duals-at_least}
use Rattle.dc_points.proofs.Combinations.{solution-shows_dead, shows_dead-solution, solution-combines, combinations_show, shows-combines, refutation-shows_live, shows_live-refutation}

module _ (n : ℕ) (hyps : List Atom) (o : AreOver n hyps) where
  -- ---- dead lists
  -- the point that a refutation names
  pub record Met (y : ℕ → ℚ) : Type 0 where
    pub point : Point
    pub named : IsNamed n y point
    pub meets : MeetsAll point hyps

  pub refuted-met : (y : ℕ → ℚ) → IsRefutation (rational (empty_problem hyps n)) y → Met y
  refuted-met y r =
      let z : ℕ → ℚ = λ i. y i *ℚ inverse (y n) in
      let h = has_point n z in
      record {
        point = h.point;
        named = record { last = refuting_negative n hyps y r; each = λ k l. ap (λ x. x *ℚ y n) (h.placed k l) ∙ around (y k) (inverse (y n)) (of_ℤ h.point.denominator) (y n) (*ℚ-inverse (y n) (refuting_nonzero n hyps y r)) };
        meets = all_hold-meet n z h.point h.placed hyps o (refutes-holds n hyps y r);
      }
    where
      around : (x i d w : ℚ) → w *ℚ i ≡ of_ℤ (pos 1) → ((x *ℚ i) *ℚ d) *ℚ w ≡ x *ℚ d
      around x i d w e = linear₁ (x *ℚ d) _ _ _ _ e (ring (x ∷ i ∷ d ∷ w ∷ []) (λ ρ p q u v. simp (p, q, u, v, read_nat ρ, reads) (same_form _ _ _ refl)))

  pub met-refuted : (p : Point) → MeetsAll p hyps → (y : ℕ → ℚ) × IsRefutation (rational (empty_problem hyps n)) y
  met-refuted p m = (_, holds-refutes n hyps (vector_of p) (all_meet-hold n (vector_of p) p (vector-placed n p) hyps o m))

  pub solved-dead : (x : ℕ → ℚ) → IsSolution (rational (empty_problem hyps n)) x → IsDead hyps
  solved-dead x s p m = (let r = met-refuted p m in excludes _ r.0 r.1 x s)

  pub dead_or_met : ((x : ℕ → ℚ) × IsSolution (rational (empty_problem hyps n)) x) ⊎ ((p : Point) × MeetsAll p hyps)
  dead_or_met = by (has_outcome (rational (empty_problem hyps n)))
    where
      by : Outcome (rational (empty_problem hyps n)) → ((x : ℕ → ℚ) × IsSolution (rational (empty_problem hyps n)) x) ⊎ ((p : Point) × MeetsAll p hyps)
      by (Best x y s d e) = inl (x, s)
      by (Falling x r s k) = inl (x, s)
      by (Refuted y r) = (let m = refuted-met y r in inr (m.point, m.meets))

  -- ---- entailed atoms and forms
  -- a point that meets the atoms is a dual of the problem of a sum
  pub met-dual : (f : ℕ → ℤ) (p : Point) → MeetsAll p hyps → (y : ℕ → ℚ) × IsDual (rational (sum_problem hyps n f)) y
  met-dual f p m = (_, holds-dual n hyps f (vector_of p) (all_meet-hold n (vector_of p) p (vector-placed n p) hyps o m))

  pub entails-duals : (a : Atom) → length a.coefs ≤ n → Entails hyps a → DualsAtMost (rational (sum_problem hyps n (coefficient_of a))) (of_ℤ a.c0)
  entails-duals a ia h = at_least-duals n hyps (coefficient_of a) (of_ℤ a.c0) (λ z k. (let g = has_point n z in meets-holds n z g.point g.placed a ia (h g.point (all_hold-meet n z g.point g.placed hyps o k))))

  pub duals-entails : (a : Atom) → length a.coefs ≤ n → DualsAtMost (rational (sum_problem hyps n (coefficient_of a))) (of_ℤ a.c0) → Entails hyps a
  duals-entails a ia h p m =
      holds-meets n (vector_of p) p (vector-placed n p) a ia
      (duals-at_least n hyps (coefficient_of a) (of_ℤ a.c0) h (vector_of p) (all_meet-hold n (vector_of p) p (vector-placed n p) hyps o m))

  -- a solution that costs at most an atom's constant shows the atom
  solution-shows : (a : Atom) (x : ℕ → ℚ) → IsSolution (rational (sum_problem hyps n (coefficient_of a))) x → cost_of (rational (sum_problem hyps n (coefficient_of a))) x ≤ℚ of_ℤ a.c0 → ShowsAtom hyps n a x
  solution-shows a x s h = combinations_show hyps n a (cost_of (rational (sum_problem hyps n (coefficient_of a))) x) x (solution-combines n hyps x (coefficient_of a) s) h

  pub shown-entailed : (a : Atom) (x : ℕ → ℚ) → length a.coefs ≤ n → ShowsAtom hyps n a x → Entails hyps a
  shown-entailed a x ia h = duals-entails a ia (λ y d. ≤ℚ_trans _ _ _ (weak _ y d x (shows-combines hyps n a x h)) h.constant)

  module _ (live : ¬ IsDead hyps) where
    live-dual : (f : ℕ → ℤ) → (y : ℕ → ℚ) × IsDual (rational (sum_problem hyps n f)) y
    live-dual f = ⊎_elim (λ s. absurd (live (solved-dead s.0 s.1))) (λ m. met-dual f m.0 m.1) dead_or_met

    pub live-no_ray : (f : ℕ → ℤ) (x r : ℕ → ℚ) → IsSolution (rational (sum_problem hyps n f)) x → IsRay (rational (sum_problem hyps n f)) r → ⊥
    live-no_ray f x r s k = (let d = live-dual f in dual-no_ray _ x d.0 r s d.1 k)

    pub live-no_bound : (f : ℕ → ℤ) (y : ℕ → ℚ) → IsRefutation (rational (sum_problem hyps n f)) y → (v : ℚ) → ¬ DualsAtMost (rational (sum_problem hyps n f)) v
    live-no_bound f y r v b = (let d = live-dual f in refuted-no_bound _ d.0 y d.1 r v b)

    pub entailed-shown : (a : Atom) → length a.coefs ≤ n → Entails hyps a → (x : ℕ → ℚ) × ShowsAtom hyps n a x
    entailed-shown a ia h = by (has_outcome (rational (sum_problem hyps n (coefficient_of a))))
      where
        by : Outcome (rational (sum_problem hyps n (coefficient_of a))) → (x : ℕ → ℚ) × ShowsAtom hyps n a x
        by (Best x y s d e) = (x, solution-shows a x s ((best-least _ x y s d e (of_ℤ a.c0)).0 (entails-duals a ia h)))
        by (Refuted y r) = absurd (live-no_bound (coefficient_of a) y r (of_ℤ a.c0) (entails-duals a ia h))
        by (Falling x r s k) = absurd (live-no_ray (coefficient_of a) x r s k)

-- a form is entailed from a number on exactly where no dual of its problem is worth more
module _ (hyps : List Atom) (form : List ℤ) (o : AreOver (length form) hyps) where
  abbrev places : ℕ
  places = length form

  abbrev at_place : ℕ → ℤ
  at_place = whole_at form

  value-placed : (z : ℕ → ℚ) (p : Point) (v : ℚ) → IsPlaced places z p
      → of_ℤ (dot_ℤ form p.numbers) +ℚ v *ℚ of_ℤ p.denominator ≡ (v +ℚ sum_ℚ places (λ i. z i *ℚ of_ℤ (at_place i))) *ℚ of_ℤ p.denominator
  value-placed z p v e = ap (λ x. x +ℚ v *ℚ of_ℤ p.denominator) (form-placed places form z p (omega arith) e) ∙ together (sum_ℚ places (λ i. z i *ℚ of_ℤ (at_place i))) (of_ℤ p.denominator)
    where
      together : (s d : ℚ) → s *ℚ d +ℚ v *ℚ d ≡ (v +ℚ s) *ℚ d
      together s d = ring (v ∷ d ∷ s ∷ []) (λ ρ p q r. simp (p, q, r, reads) (same_form _ _ _ refl))

  pub from-duals : (v : ℚ) → EntailsFrom hyps form v → DualsAtMost (rational (sup_problem hyps form)) v
  from-duals v h = at_least-duals places hyps at_place v (λ z k. (let g = has_point places z in
      scaled_down _ g.point (subst NonNegative (value-placed z g.point v g.placed) (h g.point (all_hold-meet places z g.point g.placed hyps o k)))))

  pub duals-from : (v : ℚ) → DualsAtMost (rational (sup_problem hyps form)) v → EntailsFrom hyps form v
  duals-from v h p m =
      let z : ℕ → ℚ = vector_of p in
      let e : IsPlaced places z p = vector-placed places p in
      subst NonNegative (sym (value-placed z p v e)) (scaled_up _ p (duals-at_least places hyps at_place v h z (all_meet-hold places z p e hyps o m)))

-- ---- what the outcome of that problem says
module _ (hyps : List Atom) (form : List ℤ) (o : AreOver (length form) hyps) where
  -- the cost of a solution with a dual of equal value is the least number
  pub best_is_least : (x y : ℕ → ℚ) → IsSolution (rational (sup_problem hyps form)) x → IsDual (rational (sup_problem hyps form)) y
      → cost_of (rational (sup_problem hyps form)) x ≡ combined_right (rational (sup_problem hyps form)) y
      → (v : ℚ) → EntailsFrom hyps form v ↔ (cost_of (rational (sup_problem hyps form)) x ≤ℚ v)
  best_is_least x y s d e v =
      let b = best-least (rational (sup_problem hyps form)) x y s d e v in
      (λ h. b.0 (from-duals hyps form o v h), λ h. duals-from hyps form o v (b.1 h))

  module _ (live : ¬ IsDead hyps) where
    -- a refutation shows that there is none
    pub refuted_has_none : (y : ℕ → ℚ) → IsRefutation (rational (sup_problem hyps form)) y → (v : ℚ) → ¬ EntailsFrom hyps form v
    refuted_has_none y r v h = live-no_bound (length form) hyps o live (whole_at form) y r v (from-duals hyps form o v h)

    -- and no solution has a ray
    pub never_falls : (x r : ℕ → ℚ) → IsSolution (rational (sup_problem hyps form)) x → IsRay (rational (sup_problem hyps form)) r → ⊥
    never_falls x r s k = live-no_ray (length form) hyps o live (whole_at form) x r s k

-- ---- the laws
pub dead_are_shown : DeadAreShown
dead_are_shown hyps n o = (
  λ d. ⊎_elim (λ s. (s.0, solution-shows_dead n hyps s.0 s.1)) (λ m. absurd (d m.0 m.1)) (dead_or_met n hyps o),
  λ s. solved-dead n hyps o s.0 (shows_dead-solution n hyps s.0 s.1),
)

pub live_are_named : LiveAreNamed
live_are_named hyps n y o h = (let m = refuted-met n hyps o y (shows_live-refutation hyps n y h) in (m.point, m.named, m.meets))

pub met_are_shown : MetAreShown
met_are_shown hyps n p o m = (let r = met-refuted n hyps o p m in (r.0, refutation-shows_live hyps n r.0 r.1))

pub lists_dead_or_met : DeadOrMet
lists_dead_or_met hyps n o = ⊎_elim (λ s. inl (solved-dead n hyps o s.0 s.1)) inr (dead_or_met n hyps o)

pub shown_are_entailed : ShownAreEntailed
shown_are_entailed hyps n a x o ia h = shown-entailed n hyps o a x ia h

pub entailed_are_shown : EntailedAreShown
entailed_are_shown hyps n a o ia live h = entailed-shown n hyps o live a ia h

pub least_or_none : LeastOrNone
least_or_none hyps form o live = by (has_outcome (rational (sup_problem hyps form)))
  where
    by : Outcome (rational (sup_problem hyps form)) → HasLeast hyps form ⊎ ((v : ℚ) → ¬ EntailsFrom hyps form v)
    by (Best x y s d e) = inl (record {
      number = cost_of (rational (sup_problem hyps form)) x;
      multipliers = x;
      combines = solution-combines (length form) hyps x (whole_at form) s;
      least = best_is_least hyps form o x y s d e;
    })
    by (Refuted y r) = inr (refuted_has_none hyps form o live y r)
    by (Falling x r s k) = absurd (never_falls hyps form o live x r s k)
