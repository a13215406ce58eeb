-- Rounds from everything come to the greatest family, since each that loses something leaves fewer candidates.
use Rattle.std.specs.Prelude.{◌≡◌, ◌⊎◌, ℕ, zero, suc, ◌<◌, true, List}
use Rattle.std.proofs.Common.{inl, inr, arith}
use Rattle.dc_affine.specs.declared.atom.Atom.{Atom}
use Rattle.dc_rows.specs.declared.kinds.Candidates.{Candidates}
use Rattle.dc_families.specs.Graphs.{Graph}
use Rattle.dc_families.specs.Families.{Family, candidate_atoms, everything}
use Rattle.dc_families.specs.Rounds.{IsRound, IsGreatest}
use Rattle.dc_families.specs.Laws.{HasGreatest}
use Rattle.dc_families.proofs.Greatest.{round_within, stable, IsAbove, above_round, above_stable}
use Rattle.dc_families.proofs.Weights.{weight, all_or_fewer}
use Rattle.dc_families.proofs.Decisions.{after_round, is_round}

module _ (s : Graph) (cases : List (List Atom)) (c : Candidates) where
  pub above_all : IsAbove s cases c (everything s c)
  above_all = record { candidates = λ l a k. k; contains = λ K h i. h }

  abbrev pub size : Family → ℕ
  size J = weight J (candidate_atoms s.vars c) s.locs

  -- a round that loses nothing is one to the family itself
  pub round_stable : (J K : Family) → IsRound s cases J K → ((l : ℕ) (a : Atom) → J l a ≡ true → K l a ≡ true) → IsRound s cases J J
  round_stable J K r all l a = ((λ j. (j, stable s cases J K r all l a j)), (λ k. k.0))

  -- so a round leaves the family as it is, or a smaller one
  pub step : (J : Family) → IsAbove s cases c J → IsRound s cases J J ⊎ ((K : Family) × IsAbove s cases c K × IsRound s cases J K × (size K < size J))
  step J h =
      let K = after_round s cases c J h.candidates in
      let r = is_round s cases c J h.candidates in
      elim (all_or_fewer s c J K h.candidates (round_within s cases J K r)) [
        | inl all ↦ inl (round_stable J K r all)
        | inr fewer ↦ inr (K, above_round s cases c J K h r, r, fewer)
      ]

  comes : (n : ℕ) (J : Family) → IsAbove s cases c J → size J < n → (K : Family) × IsGreatest s cases c K
  comes zero J h w = absurd (omega arith)
  comes (suc n) J h w = elim (step J h) [
    | inl r ↦ (J, above_stable s cases c J h r)
    | inr k ↦ let m = k.3 in comes n k.0 k.1 (omega arith)
  ]

pub has_greatest : HasGreatest
has_greatest s cases c = comes s cases c (suc (size s cases c (everything s c))) (everything s c) (above_all s cases c) (omega arith)
