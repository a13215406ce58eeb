-- An inductive family without the atoms of a folded location is inductive.
use Rattle.std.specs.Prelude.{◌≡◌, ◌⊎◌, ℕ, ◌+◌, ◌-◌, ◌≤◌, Bool, true, false, eqb, if◌then◌else◌, List, ◌++◌, length, pos, ◌≤ℤ◌}
use Rattle.std.proofs.Common.{refl, sym, ap, ◌∙◌, subst, arith, inl, inr}
use Rattle.std.proofs.lemmas.Bool.{eqb-false, ne_eqb}
use Rattle.dc_math.specs.Members.{Among, each_left, each_right, each_among}
use Rattle.dc_affine.specs.declared.atom.Atom.{Atom}
use Rattle.dc_system.specs.declared.edges.Edge.{Edge}
use Rattle.dc_system.specs.declared.edges.System.{System}
use Rattle.dc_system.specs.After.{is_affine_after, atom_after}
use Rattle.dc_system.specs.Composed.{after, atoms_at}
use Rattle.dc_system.specs.Shapes.{IsEdge, IsWellFormed}
use Rattle.dc_system.proofs.Crossings.{Made, made_by}
use Rattle.dc_system.proofs.Composite.{compose_edge}
use Rattle.dc_system.proofs.Folds.{Joined, joined_at, was, first_in, second_in, first_to, second_from, c_from, c_to}
use Rattle.dc_points.specs.Points.{Point, MeetsAt, MeetsAll}
use Rattle.dc_families.specs.Graphs.{graph_of}
use Rattle.dc_families.specs.Families.{Family}
use Rattle.dc_families.specs.Rounds.{MeetsFamily, EdgeGives, IsGiven, IsInductive, IsOver}
use Rattle.dc_families.proofs.Lists.{differ}
use Rattle.dc_folding.specs.Folds.{IsFoldable, without_location, without_atoms}
use Rattle.dc_folding.specs.Laws.{InductionIsKept}
use Rattle.dc_folding.proofs.Moved.{moved, moved_meets, guard_moved, over_moved, affine_both, after_both}

-- ---- a fold of a well formed system
module _ (s : System) (l : ℕ) (c : Edge) (w : IsWellFormed s) (h : IsFoldable s l c) where
  abbrev pub J : Joined s.vars (s.locs - 1) l s.edges c
  J = joined_at s.vars (s.locs - 1) l s.edges c h

  abbrev pub first : Edge
  first = J.first

  abbrev pub second : Edge
  second = J.second

  pub first_among : Among first s.edges
  first_among = first_in s.vars (s.locs - 1) l s.edges c J

  pub second_among : Among second s.edges
  second_among = second_in s.vars (s.locs - 1) l s.edges c J

  pub first_edge : IsEdge s.vars first
  first_edge = each_among (IsEdge s.vars) w.edges first_among

  pub second_edge : IsEdge s.vars second
  second_edge = each_among (IsEdge s.vars) w.edges second_among

  pub made : Made s.vars first second c
  made = made_by s.vars first second c J.made

  pub whole_edge : IsEdge s.vars c
  whole_edge = compose_edge s.vars first second c w.few_vars first_edge second_edge J.made

  pub goes_in : first.to ≡ l
  goes_in = first_to s.vars (s.locs - 1) l s.edges c J

  pub goes_out : second.from ≡ l
  goes_out = second_from s.vars (s.locs - 1) l s.edges c J

  pub starts : c.from ≡ first.from
  starts = c_from s.vars (s.locs - 1) l s.edges c J

  pub ends : c.to ≡ second.to
  ends = c_to s.vars (s.locs - 1) l s.edges c J

  -- the guard of the composed edge
  pub guard_is : c.guard ≡ first.guard ++ atoms_at (s.vars + 1) second.guard (after s.vars first)
  guard_is = ap (λ (g : Edge). g.guard) made.is

  pub second_guard : (p : Point) → MeetsAll p c.guard → MeetsAll (moved s.vars first p) second.guard
  second_guard p m =
      guard_moved s.vars first p second.guard
      (each_right (MeetsAt p) first.guard (atoms_at (s.vars + 1) second.guard (after s.vars first)) (subst (λ gs. MeetsAll p gs) guard_is m))

  pub first_guard : (p : Point) → MeetsAll p c.guard → MeetsAll p first.guard
  first_guard p m = each_left (MeetsAt p) first.guard (atoms_at (s.vars + 1) second.guard (after s.vars first)) (subst (λ gs. MeetsAll p gs) guard_is m)

  module _ (cases : List (List Atom)) (K : Family) (over : IsOver s.vars K) (inductive : IsInductive (graph_of s) cases K) where
    -- the point after the first edge meets the family at the folded location
    pub between : (p : Point) → MeetsFamily K first.from p → MeetsAll p first.guard → MeetsFamily K l (moved s.vars first p)
    between p m g = record {
      each = λ a k.
          let i = (inductive l a k).edges first first_among goes_in p m g in
          let o : length a.coefs ≤ length first.update = (let u = over l a k in let v = first_edge.one_each in omega arith) in
          subst (λ v. pos 0 ≤ℤ v) (sym (over_moved s.vars first p a o)) i.1;
    }

    -- what the second edge gives after the first, the composed edge gives
    gives : (a : Atom) → EdgeGives (graph_of s) K second a → (p : Point) → MeetsFamily K first.from p → MeetsAll p c.guard
        → (is_affine_after c a.coefs ≡ true) × MeetsAt p (atom_after s.vars c a)
    gives a e p m g =
        let n = s.vars in
        let b = between p m (first_guard p g) in
        let i = e (moved n first p) (subst (λ k. MeetsFamily K k (moved n first p)) (sym goes_out) b) (second_guard p g) in (
          affine_both n first second c first_edge second_edge whole_edge made a.coefs i.0,
          subst (λ b. MeetsAt p b) (sym (after_both n first second c first_edge second_edge whole_edge made a i.0)) (moved_meets n first p (atom_after n second a) i.1),
        )

    kept : (k : ℕ) (a : Atom) → without_atoms l K k a ≡ true → (K k a ≡ true) × (k ≡ l → ⊥)
    kept k a t = by (eqb k l) refl t
      where
        by : (b : Bool) → eqb k l ≡ b → (if b then false else K k a) ≡ true → (K k a ≡ true) × (k ≡ l → ⊥)
        by true q t = differ (sym t)
        by false q t = (t, eqb-false k l q)

    meets_before : (k : ℕ) (p : Point) → (k ≡ l → ⊥) → MeetsFamily (without_atoms l K) k p → MeetsFamily K k p
    meets_before k p n m = record { each = λ a j. m.each a (ap (λ b. if b then false else K k a) (ne_eqb k l n) ∙ j) }

    pub induction_kept : IsInductive (graph_of (without_location l c s)) cases (without_atoms l K)
    induction_kept k a t =
        let g = inductive k a (kept k a t).0 in
        record { entry = g.entry; edges = λ e m q p f i. by e (was s.vars (s.locs - 1) l s.edges c J e m) q g p f i }
      where
        by : (e : Edge) → (e ≡ c) ⊎ (Among e s.edges × (e.to ≡ l → ⊥) × (e.from ≡ l → ⊥)) → e.to ≡ k → IsGiven (graph_of s) cases K k a
            → (p : Point) → MeetsFamily (without_atoms l K) e.from p → MeetsAll p e.guard → (is_affine_after e a.coefs ≡ true) × MeetsAt p (atom_after s.vars e a)
        by e (inl r) q g p f i =
            subst (λ (e : Edge). e.to ≡ k → MeetsFamily (without_atoms l K) e.from p → MeetsAll p e.guard → (is_affine_after e a.coefs ≡ true) × MeetsAt p (atom_after s.vars e a)) (sym r)
            (λ q f i. gives a (g.edges second second_among (sym ends ∙ q)) p (meets_before first.from p J.no_loop_in (subst (λ j. MeetsFamily (without_atoms l K) j p) starts f)) i) q f i
        by e (inr r) q g p f i = g.edges e r.0 q p (meets_before e.from p r.2 f) i

pub induction_is_kept : InductionIsKept
induction_is_kept s cases K l c w over h i = induction_kept s l c w h cases K over i
