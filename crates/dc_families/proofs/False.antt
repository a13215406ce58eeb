-- Where the list of a location is dead, the greatest family has false: with it the family is inductive too, since each point that
-- passes a way has an image, at which the location's atoms hold.
use Rattle.std.specs.Prelude.{◌≡◌, ◌⊎◌, ℕ, zero, suc, ◌<◌, Bool, true, false, ◌&&◌, ◌||◌, eqb, List, [], ◌∷◌, take, ℤ, pos, ◌+ℤ◌, ◌*ℤ◌, ◌≤ℤ◌}
use Rattle.std.proofs.Common.{refl, sym, ◌∙◌, ap, subst, inl, inr}
use Rattle.std.proofs.lemmas.Bool.{and_parts}
use Rattle.std.proofs.lemmas.Bool.Decides.{Decides-eqb}
use Rattle.dc_math.specs.Members.{Among, head}
use Rattle.dc_math.specs.WholeVectors.{dot_ℤ}
use Rattle.dc_affine.specs.declared.atom.Atom.{Atom}
use Rattle.dc_system.specs.declared.edges.Edge.{Edge}
use Rattle.dc_system.specs.After.{affine_parts, atom_after}
use Rattle.dc_system.proofs.AfterValues.{atom_after_scaled}
use Rattle.dc_points.specs.Points.{Point, left_at, IsDead}
use Rattle.dc_rows.specs.declared.kinds.Candidates.{Candidates}
use Rattle.dc_rows.specs.Candidate.{AreCandidates}
use Rattle.dc_families.specs.Graphs.{Graph}
use Rattle.dc_families.specs.Families.{Family, never, same_atom, candidate_atoms, everything, atoms_at}
use Rattle.dc_families.specs.Moves.{at_start}
use Rattle.dc_families.specs.Rounds.{MeetsFamily, IsGiven, IsInductive, IsWithin, IsGreatest}
use Rattle.dc_families.specs.Laws.{DeadHaveFalse, GreatestIsHonest}
use Rattle.dc_families.proofs.Lists.{differ}
use Rattle.dc_families.proofs.Tests.{same_atom_is, same_atom_self, in_everything, either}
use Rattle.dc_families.proofs.Greatest.{fewer_met, given_within}
use Rattle.dc_families.proofs.Upward.{lists_are_families}

-- ---- the image of a point after an edge: the affine parts of the updates there
abbrev pub image : ℕ → Edge → Point → Point
image n e p = record { numbers = affine_parts n p.denominator p.numbers e.update; denominator = p.denominator; positive = p.positive }

pub left_image : (n : ℕ) (p : Point) (e : Edge) (a : Atom) → left_at (atom_after n e a) p ≡ left_at a (image n e p)
left_image n p e a = atom_after_scaled n e a p.denominator p.numbers

-- ---- the start of a point
abbrev start : ℕ → Point → Point
start n p = record { numbers = take n p.numbers; denominator = p.denominator; positive = p.positive }

dot-take : (n : ℕ) (cs xs : List ℤ) → dot_ℤ (take n cs) xs ≡ dot_ℤ cs (take n xs)
dot-take zero [] xs = refl
dot-take zero (c ∷ cs) xs = refl
dot-take (suc n) [] xs = refl
dot-take (suc n) (c ∷ cs) [] = refl
dot-take (suc n) (c ∷ cs) (x ∷ xs) = ap (λ d. c *ℤ x +ℤ d) (dot-take n cs xs)

left_start : (n : ℕ) (a : Atom) (p : Point) → left_at (at_start n a) p ≡ left_at a (start n p)
left_start n a p = ap (λ d. a.c0 *ℤ p.denominator +ℤ d) (dot-take n a.coefs p.numbers)

-- ---- false besides
module _ (s : Graph) (cases : List (List Atom)) (c : Candidates) (J : Family) (l : ℕ) (kind : AreCandidates s.vars c) (g : IsGreatest s cases c J) (inside : l < s.locs) (dead : IsDead (atoms_at s.vars c J l)) where
  abbrev besides : Family
  besides k a = J k a || (eqb k l && same_atom a (never s.vars))

  more : IsWithin J besides
  more k a t = rw t refl

  besides_is : (k : ℕ) (a : Atom) → besides k a ≡ true → (J k a ≡ true) ⊎ ((k ≡ l) × (a ≡ never s.vars))
  besides_is k a t = elim (either _ _ t) [
    | inl h ↦ inl h
    | inr h ↦ let b = and_parts _ _ h in inr ((Decides-eqb k l).0 b.0, same_atom_is a (never s.vars) b.1)
  ]

  unmet : (p : Point) → MeetsFamily J l p → ⊥
  unmet p m = dead p ((lists_are_families s c J l p kind g.candidates).1 m)

  given : IsGiven s cases besides l (never s.vars)
  given = record {
    entry = λ e case i p m. absurd (unmet (start s.params p) (record {
      each = λ b j.
          subst (λ v. pos 0 ≤ℤ v) (left_start s.params b p) ((g.inductive l b j).entry e case i p m);
    }));
    edges = λ e i f p m h. absurd (unmet (image s.vars e p) (record {
      each = λ b j.
          subst (λ v. pos 0 ≤ℤ v) (left_image s.vars p e b) ((g.inductive l b j).edges e i f p (fewer_met J besides e.from p more m) h).1;
    }));
  }

  inductive : IsInductive s cases besides
  inductive k a t = elim (besides_is k a t) [
    | inl j ↦ given_within s cases J besides k a more (g.inductive k a j)
    | inr j ↦ subst (λ i. IsGiven s cases besides i a) (sym j.0) (subst (IsGiven s cases besides l) (sym j.1) given)
  ]

  candidates : (k : ℕ) (a : Atom) → besides k a ≡ true → everything s c k a ≡ true
  candidates k a t = elim (besides_is k a t) [
    | inl j ↦ g.candidates k a j
    | inr j ↦ subst (λ i. everything s c i a ≡ true) (sym j.0) (in_everything s c l a inside (subst (λ b. Among b (candidate_atoms s.vars c)) (sym j.1) head))
  ]

  has_false : J l (never s.vars) ≡ true
  has_false = g.contains besides candidates inductive l (never s.vars) (here (J l (never s.vars)))
    where
      yes : (eqb l l && same_atom (never s.vars) (never s.vars)) ≡ true
      yes = rw ((Decides-eqb l l).1 refl, same_atom_self (never s.vars)) refl

      here : (b : Bool) → (b || (eqb l l && same_atom (never s.vars) (never s.vars))) ≡ true
      here true = refl
      here false = yes

pub dead_have_false : DeadHaveFalse
dead_have_false s cases c J l kind g inside dead = has_false s cases c J l kind g inside dead

pub greatest_is_honest : GreatestIsHonest
greatest_is_honest s cases c J kind g l inside f dead = differ (sym (dead_have_false s cases c J l kind g inside dead) ∙ f)
