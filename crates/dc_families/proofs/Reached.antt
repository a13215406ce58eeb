-- What a path reaches from an allowed input meets an inductive family.
use Rattle.std.specs.Prelude.{◌≡◌, ℕ, zero, suc, ◌-◌, ◌≤◌, Bool, true, false, ◌||◌, List, [], ◌∷◌, ◌++◌, take, length, replicate, ℤ, pos, ◌+ℤ◌, ◌*ℤ◌, int_le}
use Rattle.std.proofs.Common.{refl, sym, ◌∙◌, ap, subst, arith, length-append}
use Rattle.std.proofs.lemmas.List.{length-replicate}
use Rattle.dc_math.specs.Members.{Among, head, tail, each_among}
use Rattle.dc_math.specs.WholeVectors.{dot_ℤ, dot_ℤ-longer}
use Rattle.dc_math.specs.WholeRing.{ring, reads, read_nat, same_form}
use Rattle.dc_syntax.specs.Value.{State}
use Rattle.dc_affine.specs.declared.atom.Atom.{Atom}
use Rattle.dc_affine.specs.Atoms.{holds_at, all_hold, some_hold, Allowed}
use Rattle.dc_system.specs.declared.edges.Edge.{Edge}
use Rattle.dc_system.specs.After.{atom_after}
use Rattle.dc_system.specs.Shapes.{IsEdge}
use Rattle.dc_system.specs.Paths.{at, Step, Path, here, along}
use Rattle.dc_system.proofs.AfterValues.{atom_after_value}
use Rattle.dc_system.proofs.Crossings.{step_length}
use Rattle.dc_points.specs.Points.{whole_point}
use Rattle.dc_points.proofs.Whole.{meets-holds_at, holds_at-meets, whole_points_meet}
use Rattle.dc_rows.specs.Candidate.{IsRow}
use Rattle.dc_families.specs.Graphs.{Graph, IsGraph}
use Rattle.dc_families.specs.Families.{Family}
use Rattle.dc_families.specs.Moves.{at_start}
use Rattle.dc_families.specs.Rounds.{MeetsFamily, IsOver, IsInductive}
use Rattle.dc_families.specs.Laws.{start_at, ReachedMeet, CandidatesAreOver}
use Rattle.dc_families.proofs.Tests.{IsOne, is_never, is_bounded, candidate_is, everything_is}

-- ---- zeros behind a point are nothing
pub dot-nothing : (cs : List ℤ) (n : ℕ) → dot_ℤ cs (replicate n (pos 0)) ≡ pos 0
dot-nothing [] n = refl
dot-nothing (c ∷ cs) zero = refl
dot-nothing (c ∷ cs) (suc n) = shape c _ (dot-nothing cs n)
  where
    shape : (c d : ℤ) → d ≡ pos 0 → c *ℤ pos 0 +ℤ d ≡ pos 0
    shape c d e = rw e (ring (c ∷ []) (λ ρ p. simp (p, read_nat ρ, reads) (same_form _ _ _ refl)))

dot-zeros : (cs v : List ℤ) (n : ℕ) → dot_ℤ cs (v ++ replicate n (pos 0)) ≡ dot_ℤ (take (length v) cs) v
dot-zeros cs [] n = dot-nothing cs n
dot-zeros [] (x ∷ v) n = refl
dot-zeros (c ∷ cs) (x ∷ v) n = ap (λ d. c *ℤ x +ℤ d) (dot-zeros cs v n)

-- ---- one step, and paths
abbrev Met : Family → ℕ → State → Type 0
Met J l x = (a : Atom) → J l a ≡ true → holds_at a x ≡ true

module _ (s : Graph) (cases : List (List Atom)) (J : Family) (w : IsGraph s) (over : IsOver s.vars J) (inductive : IsInductive s cases J) where
  wider : (a : Atom) (x : State) (z : ℤ) → length a.coefs ≤ s.vars → length x ≡ s.vars → holds_at a x ≡ true → holds_at a (at x z) ≡ true
  wider a x z l m h = ap (λ d. int_le (pos 0) (a.c0 +ℤ d)) (dot_ℤ-longer a.coefs x (z ∷ []) (omega arith)) ∙ h

  shape : (e : Edge) → Among e s.edges → IsEdge s.vars e
  shape e m = each_among (IsEdge s.vars) w.edges m

  -- what a step leads to meets the family where what it starts from does
  pub stepped : (e : Edge) (x y : State) (z c : ℤ) → Among e s.edges → Step e x z c y → length x ≡ s.vars → Met J e.from x → Met J e.to y
  stepped e x y z c m t l h a j =
      let p = whole_point (at x z) in
      let met : MeetsFamily J e.from p = record { each = λ b k. holds_at-meets b (at x z) (wider b x z (over e.from b k) l (h b k)) } in
      let g = (inductive e.to a j).edges e m refl p met ((whole_points_meet e.guard (at x z)).1 t.passes) in
      let v = atom_after_value s.vars e a (at x z) (shape e m) g.0 in
      subst (λ y. holds_at a y ≡ true) (sym t.moves) (ap (int_le (pos 0)) (sym v) ∙ meets-holds_at (atom_after s.vars e a) (at x z) g.1)

  reached : (k l : ℕ) (x y : State) (c : ℤ) → Path s.edges k x c l y → length x ≡ s.vars → Met J k x → Met J l y
  reached k l x y c here n h = h
  reached k l x y c (along e z m f t r) n h = reached e.to l _ y _ r (step_length s.vars e x _ _ z (shape e m) t) (stepped e x _ z _ m t n (subst (λ i. Met J i x) (sym f) h))

  -- ---- the start
  allowed_case : (cs : List (List Atom)) (v : State) → some_hold cs v ≡ true → (case : List Atom) × Among case cs × (all_hold case v ≡ true)
  allowed_case [] v h = absurd (let d : false ≡ true = h in cc)
  allowed_case (c ∷ cs) v h = by (allowed_case cs v) (all_hold c v) refl h
    where
      by : (some_hold cs v ≡ true → (case : List Atom) × Among case cs × (all_hold case v ≡ true)) → (b : Bool) → all_hold c v ≡ b → (b || some_hold cs v) ≡ true
          → (case : List Atom) × Among case (c ∷ cs) × (all_hold case v ≡ true)
      by f true e h = (c, head, e)
      by f false e h = let r = f h in (r.0, tail r.1, r.2)

  started : (v : State) → length v ≡ s.params → Allowed cases v → Met J 0 (start_at s v)
  started v n h a j =
      let c = allowed_case cases v h in
      let g = (inductive 0 a j).entry refl c.0 c.1 (whole_point v) ((whole_points_meet c.0 v).1 c.2) in
      let d = dot-zeros a.coefs v (s.vars - s.params) in
      ap (λ d. int_le (pos 0) (a.c0 +ℤ d)) (d ∙ ap (λ m. dot_ℤ (take m a.coefs) v) n) ∙ meets-holds_at (at_start s.params a) v g

  start_long : (v : State) → length v ≡ s.params → length (start_at s v) ≡ s.vars
  start_long v n = length-append v _ ∙ (let r = length-replicate (s.vars - s.params) (pos 0) in let p = w.params_first in omega arith)

pub reached_meet : ReachedMeet
reached_meet s cases J v l x cost a w over i n h p j =
    reached s cases J w over i 0 l (start_at s v) x cost p (start_long s cases J w over i v n) (started s cases J w over i v n h) a j

-- ---- candidates mention the variables alone
pub candidates_over : CandidatesAreOver
candidates_over s c J kind h l a j = by (candidate_is s.vars c a (everything_is s c l a (h l a j)).1)
  where
    by : IsOne s.vars c a → length a.coefs ≤ s.vars
    by (is_never e) = subst (λ (b : Atom). length b.coefs ≤ s.vars) (sym e) (let q = length-replicate s.vars (pos 0) in omega arith)
    by (is_bounded r b m k e) = subst (λ (b : Atom). length b.coefs ≤ s.vars) (sym e) (let q = (each_among (IsRow s.vars) kind.rows m).one_each in omega arith)
