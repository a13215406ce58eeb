-- The rounds come to one family in one way, and that is the greatest.
use Rattle.std.specs.Prelude.{◌≡◌, ◌⊎◌, ℕ, zero, suc, ◌<◌, Bool, true, false, List, [], ◌∷◌, ◌++◌, map}
use Rattle.std.proofs.Common.{refl, sym, ap, ap₂, subst, inl, inr, arith}
use Rattle.dc_syntax.specs.declared.tree.Side.{Side}
use Rattle.dc_affine.specs.declared.atom.Atom.{Atom}
use Rattle.dc_points.specs.Points.{IsDead}
use Rattle.dc_points.specs.Shown.{IsFlag, AreFlags}
use Rattle.dc_entail.specs.Asked.{Asked}
use Rattle.dc_rows.specs.declared.kinds.Candidates.{Candidates}
use Rattle.dc_families.specs.Graphs.{Graph}
use Rattle.dc_families.specs.Families.{Family, candidate_atoms, everything}
use Rattle.dc_families.specs.Rounds.{IsGreatest}
use Rattle.dc_families.proofs.Lists.{differ}
use Rattle.dc_families.proofs.Greatest.{one_round, IsAbove, above_round, above_stable}
use Rattle.dc_families.proofs.Weights.{weight_most}
use Rattle.dc_families.proofs.Decisions.{decide_dead}
use Rattle.dc_families.proofs.Fixed.{above_all, size, step}
use Rattle.dc_greatest.specs.Parts.{edge_atoms, round_asked, Rounds, last, next}
use Rattle.dc_greatest.specs.Laws.{RoundsReachGreatest, OneSession, RoundsEnd}

-- ---- flags
pub flag_same : (b d : Bool) (h : List Atom) → IsFlag b h → IsFlag d h → b ≡ d
flag_same true true h f g = refl
flag_same true false h f g = sym (g.1 (f.0 refl))
flag_same false true h f g = f.1 (g.0 refl)
flag_same false false h f g = refl

pub flags_same : (bs ds : List Bool) (hs : List (List Atom)) → AreFlags bs hs → AreFlags ds hs → bs ≡ ds
flags_same [] [] [] f g = refl
flags_same [] [] (h ∷ hs) f g = refl
flags_same [] (d ∷ ds) [] f g = absurd g
flags_same [] (d ∷ ds) (h ∷ hs) f g = absurd f
flags_same (b ∷ bs) ds [] f g = absurd f
flags_same (b ∷ bs) [] (h ∷ hs) f g = absurd g
flags_same (b ∷ bs) (d ∷ ds) (h ∷ hs) f g = ap₂ ◌∷◌ (flag_same b d h f.0 g.0) (flags_same bs ds hs f.1 g.1)

pub has_flags : (hs : List (List Atom)) → (bs : List Bool) × AreFlags bs hs
has_flags [] = ([], tt)
has_flags (h ∷ hs) = let r = has_flags hs in by (decide_dead h) r.0 r.1
  where
    by : IsDead h ⊎ (¬ IsDead h) → (bs : List Bool) → AreFlags bs hs → (bs : List Bool) × AreFlags bs (h ∷ hs)
    by (inl e) bs f = (false ∷ bs, (((λ t. differ (sym t)), (λ n. absurd (n e))), f))
    by (inr e) bs f = (true ∷ bs, (((λ t. e), (λ n. refl)), f))

module _ (side : Side) (s : Graph) (cases : List (List Atom)) (live : List Bool) (c : Candidates) where
  -- ---- one session
  one : {J K L : Family} {ps qs : List Asked} → Rounds side s cases live c J ps K → Rounds side s cases live c J qs L → (ps ≡ qs) × (K ≡ L)
  one {J = J} (last f a r) (last g b t) = (ap (round_asked side s c J cases live) (flags_same f g _ a b), refl)
  one {J = J} (last f a r) (next g b t n rest) = absurd (n (λ l a j. (t l a).1 ((r l a).0 j)))
  one {J = J} (next f a r n rest) (last g b t) = absurd (n (λ l a j. (r l a).1 ((t l a).0 j)))
  one {J = J} {L = L} (next {K = M} {asked = xs} f a r n rest) (next {K = N} {asked = ys} g b t m others) =
      let e : N ≡ M = one_round s cases J N M t r in
      let o = one rest (subst (λ F. Rounds side s cases live c F ys L) e others) in
      (ap₂ ◌++◌ (ap (round_asked side s c J cases live) (flags_same f g _ a b)) o.0, o.1)

  -- ---- in the greatest
  reach : {J K : Family} {ps : List Asked} → IsAbove s cases c J → Rounds side s cases live c J ps K → IsGreatest s cases c K
  reach {J = J} h (last f a r) = above_stable s cases c J h r
  reach {J = J} h (next {K = M} f a r n rest) = reach (above_round s cases c J M h r) rest

  -- ---- each round that changes something leaves fewer candidates
  abbrev Ended : Family → Type 0
  Ended J = (asked : List Asked) × (K : Family) × Rounds side s cases live c J asked K

  pub ends : (n : ℕ) (J : Family) → IsAbove s cases c J → size s cases c J < n → Ended J
  ends zero J h w = absurd (omega arith)
  ends (suc n) J h w =
      let f = has_flags (map (edge_atoms s c J) s.edges) in
      elim (step s cases c J h) [
        | inl r ↦ (round_asked side s c J cases live f.0, J, last f.0 f.1 r)
        | inr k ↦
            let m = k.3 in
            let e = ends n k.0 k.1 (omega arith) in
            (round_asked side s c J cases live f.0 ++ e.0, e.1, next f.0 f.1 k.2 (λ w. let q = weight_most J k.0 w (candidate_atoms s.vars c) s.locs in absurd (omega arith)) e.2)
      ]

pub rounds_end : RoundsEnd
rounds_end side s cases live c = ends side s cases live c (suc (size s cases c (everything s c))) (everything s c) (above_all s cases c) (omega arith)

pub one_session : OneSession
one_session side s cases live c J K L ps qs r t = one side s cases live c r t

pub rounds_reach_greatest : RoundsReachGreatest
rounds_reach_greatest side s cases live c asked J r = reach side s cases live c (above_all s cases c) r
