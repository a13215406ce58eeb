-- The difference is the least threshold: two runs cost it apart, so no certificate shows less.
use Rattle.std.specs.Prelude.{◌≡◌, ℕ, zero, suc, ◌-◌, true, false, List, [], ◌∷◌, length, replicate, slice_index_or, ℤ, pos}
use Rattle.std.specs.List.{AllByRecursion}
use Rattle.std.proofs.Common.{refl, sym, ap, ◌∙◌, subst, arith, inl, inr}
use Rattle.std.proofs.lemmas.List.{length-replicate}
use Rattle.dc_math.specs.Members.{each_among}
use Rattle.dc_syntax.specs.declared.tree.Proc.{Proc}
use Rattle.dc_syntax.specs.declared.tree.Side.TheVariants.{New, Old}
use Rattle.dc_syntax.specs.Value.{State}
use Rattle.dc_syntax.specs.Plain.{HasPlainCost}
use Rattle.dc_syntax.specs.Costs.{Costs}
use Rattle.dc_syntax.proofs.PlainRuns.{plain-costs_once, plain-costs_differ}
use Rattle.dc_affine.specs.declared.atom.Atom.{Atom}
use Rattle.dc_affine.specs.Atoms.{all_hold, Allowed, IsAtom}
use Rattle.dc_system.specs.declared.edges.System.{System}
use Rattle.dc_system.specs.Systems.{system_of}
use Rattle.dc_system.specs.Shapes.{IsWellFormed}
use Rattle.dc_system.specs.Paths.{Path}
use Rattle.dc_system.proofs.CostPaths.{costs_paths, folded_costs_paths}
use Rattle.dc_system.proofs.Renumbered.{folded_shaped}
use Rattle.dc_system.proofs.Shape.{shaped}
use Rattle.dc_rows.specs.declared.kinds.Candidates.{Candidates}
use Rattle.dc_rows.specs.Candidate.{AreCandidates}
use Rattle.dc_families.specs.Graphs.{graph_of}
use Rattle.dc_families.specs.Families.{has_atom, family_of}
use Rattle.dc_families.specs.Rounds.{IsOver, IsInductive}
use Rattle.dc_families.proofs.Folds.{systems_are_graphs}
use Rattle.dc_families.proofs.Prunes.{printed_are_inductive}
use Rattle.dc_families.proofs.Reached.{reached_meet}
use Rattle.dc_families.proofs.Tests.{has_among, among_has}
use Rattle.dc_claims.specs.Duties.{Pair}
use Rattle.dc_claims.specs.Plans.{AreAtoms, IsPlan, IsPair}
use Rattle.dc_claims.specs.Runs.{start_in, RunsAt, HoldWhereReached}
use Rattle.dc_claims.proofs.Fits.{atoms_in}
use Rattle.dc_claims.proofs.Bounds.{certified_bound_runs}
use Rattle.dc_folding.specs.Folds.{HasPrintedAtoms}
use Rattle.dc_plain.specs.Laws.{IsSystemOf, AreInductive, PlainHaveDifference, PlainAreLeast, PrintedPlainAreLeast, SystemsHavePair}
use Rattle.dc_plain.proofs.Prices.{IsPaid, system_paid}
use Rattle.dc_plain.proofs.Folds.{folded_paid}
use Rattle.dc_plain.proofs.Certified.{paid_certified}
use Rattle.dc_check.proofs.Inductions.{all_true}

-- ---- runs
pub plain_have_difference : PlainHaveDifference
plain_have_difference new old m n h = record {
  apart = plain-costs_differ new old m n h.new_sum h.old_sum;
  run = λ v l. ((plain-costs_once new m h.new_sum v (pos m)).1 (l, refl), (plain-costs_once old n h.old_sum v (pos n)).1 (l ∙ h.same_params.0, refl));
}

-- ---- the system of a program
pub system_formed : (q : Proc) (s : System) → IsSystemOf q s → IsWellFormed s
system_formed q s h = elim h.system [
  | inl e ↦ subst IsWellFormed (sym e) (shaped q h.program h.fits)
  | inr F ↦ folded_shaped (system_of q) s (shaped q h.program h.fits) F
]

pub system_params : (q : Proc) (s : System) → IsSystemOf q s → s.params ≡ q.params
system_params q s h = elim h.system [
  | inl e ↦ ap (λ (s : System). s.params) e
  | inr F ↦ ap (λ (s : System). s.params) F.is
]

paid_of : (q : Proc) (s : System) (c : ℕ) → IsSystemOf q s → HasPlainCost q c → IsPaid s (pos c)
paid_of q s c h k = elim h.system [
  | inl e ↦ subst (λ s. IsPaid s (pos c)) (sym e) (system_paid q c k)
  | inr F ↦ folded_paid (system_of q) s (pos c) (shaped q h.program h.fits) F (system_paid q c k)
]

runs_at : (q : Proc) (s : System) → IsSystemOf q s → (v : State) (c : ℤ) → Costs q v c → RunsAt s v c
runs_at q s h v c k = elim h.system [
  | inl e ↦ (let r = (costs_paths q h.program v c).0 k in subst (λ s. RunsAt s v c) (sym e) (r.1, r.2))
  | inr F ↦ (
      let r = (folded_costs_paths q s h.program h.fits F v c).0 k in
      (r.1, subst (λ x. Path s.edges 0 x c (s.locs - 1) r.1) (sym (ap (λ (s : System). start_in s v) F.is)) r.2)
      )
]

-- ---- inductive atoms hold where a path leads

lists_over : (n : ℕ) (lists : List (List Atom)) → AllByRecursion (AreAtoms n) lists → IsOver n (family_of lists)
lists_over n lists h l a t = (each_among (IsAtom n) (atoms_in n l lists h) (has_among (slice_index_or lists l []) a t)).few

module _ (s : System) (lists cases : List (List Atom)) (plan : IsPlan s lists) (inductive : IsInductive (graph_of s) cases (family_of lists)) where
  list_holds : (v : State) (c : ℤ) (l : ℕ) (x : State) → length v ≡ s.params → Allowed cases v → Path s.edges 0 (start_in s v) c l x → all_hold (slice_index_or lists l []) x ≡ true
  list_holds v c l x n h r = all_true (slice_index_or lists l []) x (λ a i.
      reached_meet (graph_of s) cases (family_of lists) v l x c a (systems_are_graphs s plan.system) (lists_over s.vars lists plan.each) inductive n h r
      (among_has a (slice_index_or lists l []) i))

module _ (p : Pair) (sizes : IsPair p) (h : AreInductive p) where
  new_holds : HoldWhereReached p New
  new_holds v c l x i r = list_holds p.new p.new_atoms p.cases sizes.new h.new v c l x i.one_each i.allowed r

  old_holds : HoldWhereReached p Old
  old_holds v c l x i r = list_holds p.old p.old_atoms p.cases sizes.old h.old v c l x (i.one_each ∙ sizes.params) i.allowed r

-- ---- the least threshold
pub plain_are_least : PlainAreLeast
plain_are_least new old m n p d k plain pair h = record {
  certified = paid_certified p d k (pos m) (pos n) (paid_of new p.new m pair.new_side plain.new_sum) (paid_of old p.old n pair.old_side plain.old_sum);
  least = λ u g.
      let v : State = replicate p.new.params (pos 0) in
      let l : length v ≡ p.new.params = length-replicate p.new.params (pos 0) in
      let r = (plain_have_difference new old m n plain).run v (l ∙ system_params new p.new pair.new_side) in
      certified_bound_runs p d k u pair.sizes (new_holds p pair.sizes h) (old_holds p pair.sizes h) g v (pos m) (pos n)
      (record { one_each = l; allowed = subst (λ cs. Allowed cs v) (sym pair.cases) refl })
      (runs_at new p.new pair.new_side v (pos m) r.0) (runs_at old p.old pair.old_side v (pos n) r.1);
}

printed_inductive : (s : System) (cases : List (List Atom)) (c : Candidates) (printed : List (List Atom)) → IsWellFormed s → AreCandidates s.vars c → HasPrintedAtoms s cases c printed → IsInductive (graph_of s) cases (family_of printed)
printed_inductive s cases c printed w kind h = printed_are_inductive (graph_of s) cases c h.family printed h.asked (systems_are_graphs s w) kind h.greatest h.is

pub printed_plain_are_least : PrintedPlainAreLeast
printed_plain_are_least new old m n p c e d k plain pair h =
    plain_are_least new old m n p d k plain pair (record {
      new = printed_inductive p.new p.cases c p.new_atoms pair.sizes.new.system h.new_candidates h.printed.new;
      old = printed_inductive p.old p.cases e p.old_atoms pair.sizes.old.system h.old_candidates h.printed.old;
    })

-- ---- a pair without atoms
abbrev no_lists : ℕ → List (List Atom)
no_lists n = replicate n []

none_at : (n l : ℕ) → slice_index_or (no_lists n) l [] ≡ []
none_at zero l = refl
none_at (suc n) zero = refl
none_at (suc n) (suc l) = none_at n l

none_each : (m n : ℕ) → AllByRecursion (AreAtoms m) (no_lists n)
none_each m zero = tt
none_each m (suc n) = (record { few = omega arith; within = tt }, none_each m n)

none_inductive : (s : System) (cases : List (List Atom)) (n : ℕ) → IsInductive (graph_of s) cases (family_of (no_lists n))
none_inductive s cases n l a t = absurd (let d : false ≡ true = subst (λ xs. has_atom xs a ≡ true) (none_at n l) t in cc)

none_plan : (q : Proc) (s : System) → IsSystemOf q s → IsPlan s (no_lists s.locs)
none_plan q s h = record { system = system_formed q s h; one_each = length-replicate s.locs []; each = none_each s.vars s.locs }

pub systems_have_pair : SystemsHavePair
systems_have_pair new old s t same g h =
    let cases : List (List Atom) = [] ∷ [] in (
      record { new = s; new_atoms = no_lists s.locs; old = t; old_atoms = no_lists t.locs; cases = cases },
      refl,
      refl,
      record {
        new_side = g;
        old_side = h;
        cases = refl;
        sizes = record {
          new = none_plan new s g;
          old = none_plan old t h;
          params = system_params new s g ∙ same.0 ∙ sym (system_params old t h);
          cases = record { some = omega arith; few = omega arith; each = (record { few = omega arith; within = tt }, tt) };
        };
      },
      record { new = none_inductive s cases s.locs; old = none_inductive t cases t.locs },
    )
