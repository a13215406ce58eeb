-- Rounds go down and are monotone; going down from a family that contains each inductive one they come to the greatest.
use Rattle.std.specs.Prelude.{◌≡◌, ℕ, List}
use Rattle.std.specs.Cmp.{both_ways}
use mathlib.Core.Path.{fun_ext}
use Rattle.dc_affine.specs.declared.atom.Atom.{Atom}
use Rattle.dc_points.specs.Points.{Point}
use Rattle.dc_rows.specs.declared.kinds.Candidates.{Candidates}
use Rattle.dc_families.specs.Graphs.{Graph}
use Rattle.dc_families.specs.Families.{Family}
use Rattle.dc_families.specs.Rounds.{MeetsFamily, IsGiven, IsRound, IsInductive, IsWithin, HasCandidates, IsGreatest}
use Rattle.dc_families.specs.Laws.{OneGreatest}

pub same_family : (J K : Family) → IsWithin J K → IsWithin K J → J ≡ K
same_family J K h k = fun_ext (λ l. fun_ext (λ a. both_ways (J l a) (K l a) (h l a) (k l a)))

pub one_greatest : OneGreatest
one_greatest s cases c J K g h = same_family J K (h.contains J g.candidates g.inductive) (g.contains K h.candidates h.inductive)

-- ---- a smaller family is met at more points, so it gives less
pub fewer_met : (K J : Family) (l : ℕ) (p : Point) → IsWithin K J → MeetsFamily J l p → MeetsFamily K l p
fewer_met K J l p w m = record { each = λ a k. m.each a (w l a k) }

module _ (s : Graph) (cases : List (List Atom)) where
  pub given_within : (K J : Family) (l : ℕ) (a : Atom) → IsWithin K J → IsGiven s cases K l a → IsGiven s cases J l a
  given_within K J l a w g = record { entry = g.entry; edges = λ e m t p f h. g.edges e m t p (fewer_met K J e.from p w f) h }

  pub round_within : (J K : Family) → IsRound s cases J K → IsWithin K J
  round_within J K r l a k = ((r l a).0 k).0

  pub round_monotone : (J J' K K' : Family) → IsWithin J J' → IsRound s cases J K → IsRound s cases J' K' → IsWithin K K'
  round_monotone J J' K K' w r t l a k = let h = (r l a).0 k in (t l a).1 (w l a h.0, given_within J J' l a w h.1)

  pub one_round : (J K L : Family) → IsRound s cases J K → IsRound s cases J L → K ≡ L
  one_round J K L r t = same_family K L (λ l a k. (t l a).1 ((r l a).0 k)) (λ l a k. (r l a).1 ((t l a).0 k))

  -- a round that loses nothing leaves an inductive family
  pub stable : (J K : Family) → IsRound s cases J K → IsWithin J K → IsInductive s cases J
  stable J K r w l a j = ((r l a).0 (w l a j)).1

  -- an inductive family stays within
  pub round_contains : (K J L : Family) → IsInductive s cases K → IsWithin K J → IsRound s cases J L → IsWithin K L
  round_contains K J L i w r l a k = (r l a).1 (w l a k, given_within K J l a w (i l a k))

  -- J has candidates alone, and contains each inductive family of candidates
  pub record IsAbove (c : Candidates) (J : Family) : Type 0 where
    pub candidates : HasCandidates s c J
    pub contains : (K : Family) → HasCandidates s c K → IsInductive s cases K → IsWithin K J

  pub above_round : (c : Candidates) (J K : Family) → IsAbove c J → IsRound s cases J K → IsAbove c K
  above_round c J K h r = record {
    candidates = λ l a k. h.candidates l a (round_within J K r l a k);
    contains = λ L m i. round_contains L J K i (h.contains L m i) r;
  }

  pub above_stable : (c : Candidates) (J : Family) → IsAbove c J → IsRound s cases J J → IsGreatest s cases c J
  above_stable c J h r = record { candidates = h.candidates; inductive = stable J J r (λ l a j. j); contains = h.contains }
