-- One edge in a round: where its source has false, where it is dead, and where it is live.
use Rattle.std.specs.Prelude.{◌≡◌, ◌↔◌, ℕ, Bool, true, false, if◌then◌else◌, List, [], ◌∷◌, map, pos, ◌≤ℤ◌}
use Rattle.std.proofs.Common.{refl, sym, ◌∙◌, ap, subst, inl, inr}
use Rattle.dc_math.specs.Members.{each-++, each_left, each_right}
use Rattle.dc_syntax.specs.declared.tree.Side.{Side}
use Rattle.dc_affine.specs.declared.atom.Atom.{Atom}
use Rattle.dc_system.specs.declared.edges.Edge.{Edge}
use Rattle.dc_points.specs.Points.{Point, MeetsAt, MeetsAll, Entails, IsDead}
use Rattle.dc_points.specs.Shown.{IsFlag}
use Rattle.dc_points.proofs.Flags.{live_flag}
use Rattle.dc_simplex.specs.Limits.{Answer}
use Rattle.dc_entail.specs.Asked.{Asked, IsDone, AllDone, Refuses}
use Rattle.dc_entail.specs.declared.answer.Site.{Site}
use Rattle.dc_rows.specs.declared.kinds.Candidates.{Candidates}
use Rattle.dc_rows.specs.Candidate.{AreCandidates}
use Rattle.dc_families.specs.Graphs.{Graph}
use Rattle.dc_families.specs.Families.{Family, never, atoms_at}
use Rattle.dc_system.specs.After.{is_affine_after, atom_after}
use Rattle.dc_families.specs.Rounds.{MeetsFamily, EdgeGives, HasCandidates}
use Rattle.dc_families.proofs.Lists.{differ}
use Rattle.dc_families.proofs.False.{left_image, image}
use Rattle.dc_families.proofs.Upward.{never_met, lists_are_families}
use Rattle.dc_families.proofs.Decisions.{has_flag}
use Rattle.dc_greatest.specs.declared.family.LocFamily.{LocFamily}
use Rattle.dc_greatest.specs.Kept.{IsFit}
use Rattle.dc_greatest.specs.declared.family.InvFault.{InvFault}
use Rattle.dc_greatest.specs.Answers.{IsFault}
use Rattle.dc_greatest.specs.Parts.{edge_atoms, affine_rows, edge_row, edge_empty, edge_asked}
use Rattle.dc_greatest.specs.Bounds.{IsTaken}
use Rattle.dc_greatest.specs.Searches.{EdgeAsks, IsEdgeTaken}
use Rattle.dc_greatest.proofs.Faults.{fault_from}

module _ (side : Side) (s : Graph) (cases : List (List Atom)) (live : List Bool) (c : Candidates) (J : Family) (budget k : ℕ) (e : Edge) (kind : AreCandidates s.vars c) (h : HasCandidates s c J) where
  -- ---- what an edge gives, by the list of its atoms
  meets_atoms : (p : Point) → MeetsFamily J e.from p → MeetsAll p e.guard → MeetsAll p (edge_atoms s c J e)
  meets_atoms p m g = each-++ (MeetsAt p) _ e.guard ((lists_are_families s c J e.from p kind h).1 m) g

  atoms_meet : (p : Point) → MeetsAll p (edge_atoms s c J e) → MeetsFamily J e.from p × MeetsAll p e.guard
  atoms_meet p m = ((lists_are_families s c J e.from p kind h).0 (each_left (MeetsAt p) _ e.guard m), each_right (MeetsAt p) (atoms_at s.vars c J e.from) e.guard m)

  pub dead_gives : IsDead (edge_atoms s c J e) → (a : Atom) → EdgeGives s J e a
  dead_gives d a p m g = absurd (d p (meets_atoms p m g))

  pub gives_entailed : (a : Atom) → is_affine_after e a.coefs ≡ true → EdgeGives s J e a ↔ Entails (edge_atoms s c J e) (atom_after s.vars e a)
  gives_entailed a t = (
    (λ f p m. let x = atoms_meet p m in (f p x.0 x.1).1),
    (λ n p m g. (t, n p (meets_atoms p m g))),
  )

  -- a live edge gives neither what isn't affine after it nor false
  pub live_affine : ¬ IsDead (edge_atoms s c J e) → (a : Atom) → is_affine_after e a.coefs ≡ false → ¬ EdgeGives s J e a
  live_affine l a t f = l (λ p m. let x = atoms_meet p m in differ (sym (f p x.0 x.1).0 ∙ t))

  pub live_never : ¬ IsDead (edge_atoms s c J e) → ¬ EdgeGives s J e (never s.vars)
  live_never l f = l (λ p m. let x = atoms_meet p m in never_met s.vars (image s.vars e p) (subst (λ v. pos 0 ≤ℤ v) (left_image s.vars p e (never s.vars)) (f p x.0 x.1).1))

  -- ---- the three ways
  false_dead : J e.from (never s.vars) ≡ true → IsDead (edge_atoms s c J e)
  false_dead t p m = never_met s.vars p ((atoms_meet p m).0.each (never s.vars) t)

  dead_flag : (hs : List Atom) → IsDead hs → IsFlag false hs
  dead_flag hs d = ((λ t. differ (sym t)), (λ n. absurd (n d)))

  pub taken_nothing : (old : LocFamily) → IsFit c old → IsDead (edge_atoms s c J e) → AllDone budget (edge_asked side s c J k e false) → IsEdgeTaken side s cases live c J budget k e old old
  taken_nothing old fit d n = record {
    taken = record { fit = fit; is = λ a. ((λ m. (m, dead_gives d a)), (λ m. m.0)) };
    through = (edge_asked side s c J k e false, (false, dead_flag _ d, refl), n);
  }

  -- where the source has false nothing is asked
  pub taken_false : (old : LocFamily) → IsFit c old → J e.from (never s.vars) ≡ true → IsEdgeTaken side s cases live c J budget k e old old
  taken_false old fit t = taken_nothing old fit (false_dead t) (by (J e.from (never s.vars)) t)
    where
      by : (v : Bool) → v ≡ true → AllDone budget (if v then [] else edge_empty side s c J k e ∷ [])
      by true q = tt
      by false q = differ (sym q)

  -- where it is dead, that alone
  pub taken_dead : (old : LocFamily) → IsFit c old → J e.from (never s.vars) ≡ false → IsDead (edge_atoms s c J e) → IsDone budget (edge_empty side s c J k e) → IsEdgeTaken side s cases live c J budget k e old old
  taken_dead old fit t d n = taken_nothing old fit d (by (J e.from (never s.vars)))
    where
      by : (v : Bool) → AllDone budget (if v then [] else edge_empty side s c J k e ∷ [])
      by true = tt
      by false = (n, tt)

  pub taken_live : (old new : LocFamily) → ¬ IsDead (edge_atoms s c J e) → IsTaken (EdgeGives s J e) s.vars c old new → AllDone budget (edge_asked side s c J k e true)
      → IsEdgeTaken side s cases live c J budget k e old new
  taken_live old new l t n = record { taken = t; through = (edge_asked side s c J k e true, (true, live_flag _ l, refl), n) }

  -- ---- where the source has no false
  abbrev rows : List Asked
  rows = map (edge_row side s c J k e) (affine_rows s c J e)

  asked_live : (b : Bool) → J e.from (never s.vars) ≡ false → edge_asked side s c J k e b ≡ edge_empty side s c J k e ∷ (if b then rows else [])
  asked_live b t = ap (λ v. if v then [] else edge_empty side s c J k e ∷ (if b then rows else [])) t

  pub done_live : J e.from (never s.vars) ≡ false → IsDone budget (edge_empty side s c J k e) → AllDone budget rows → AllDone budget (edge_asked side s c J k e true)
  done_live t d r = subst (AllDone budget) (sym (asked_live true t)) (d, r)

  -- a refusal of its own problem, and of a row's
  pub fault_empty : J e.from (never s.vars) ≡ false → (f : InvFault) → IsFault budget (λ asked. asked ≡ edge_empty side s c J k e ∷ []) f → IsFault budget (EdgeAsks side s cases live c J k e) f
  fault_empty t f = fault_from budget _ _ (λ asked q p a r.
      let b = has_flag (edge_atoms s c J e) in
      (edge_asked side s c J k e b.0, (b.0, b.1, refl), subst (λ xs. Refuses budget xs p a) (sym (asked_live b.0 t)) (by p a (if b.0 then rows else []) (subst (λ xs. Refuses budget xs p a) q r)))) f
    where
      by : (p : Site) (a : Answer) (rest : List Asked) → Refuses budget (edge_empty side s c J k e ∷ []) p a → Refuses budget (edge_empty side s c J k e ∷ rest) p a
      by p a rest (inl x) = inl x
      by p a rest (inr x) = absurd x.1

  pub fault_rows : J e.from (never s.vars) ≡ false → ¬ IsDead (edge_atoms s c J e) → IsDone budget (edge_empty side s c J k e) → (f : InvFault) → IsFault budget (λ asked. asked ≡ rows) f
      → IsFault budget (EdgeAsks side s cases live c J k e) f
  fault_rows t l d f = fault_from budget _ _ (λ asked q p a r.
      (edge_asked side s c J k e true, (true, live_flag _ l, refl), subst (λ xs. Refuses budget xs p a) (sym (asked_live true t)) (inr (d, subst (λ xs. Refuses budget xs p a) q r)))) f
