-- A round that loses something leaves a family of fewer candidates.
use Rattle.std.specs.Prelude.{◌≡◌, ◌⊎◌, ℕ, zero, suc, ◌+◌, ◌<◌, ◌≤◌, Bool, true, false, List, [], ◌∷◌}
use Rattle.std.proofs.Common.{refl, subst, inl, inr, arith}
use Rattle.std.proofs.lemmas.Bool.{cases_lt}
use Rattle.dc_math.specs.Members.{Among, head, tail}
use Rattle.dc_affine.specs.declared.atom.Atom.{Atom}
use Rattle.dc_rows.specs.declared.kinds.Candidates.{Candidates}
use Rattle.dc_families.specs.Graphs.{Graph}
use Rattle.dc_families.specs.Families.{Family, candidate_atoms}
use Rattle.dc_families.specs.Rounds.{IsWithin, HasCandidates}
use Rattle.dc_families.proofs.Tests.{everything_is}

abbrev pub one : Bool → ℕ
one true = 1
one false = 0

-- how many of the atoms pass a test, and how many a family has at the first locations
abbrev pub held : (Atom → Bool) → List Atom → ℕ
held f [] = 0
held f (a ∷ as') = one (f a) + held f as'

abbrev pub weight : Family → List Atom → ℕ → ℕ
weight J atoms zero = 0
weight J atoms (suc n) = held (J n) atoms + weight J atoms n

one_most : (x y : Bool) → (x ≡ true → y ≡ true) → one x ≤ one y
one_most true y h = rw (h refl) (omega arith)
one_most false y h = omega arith

one_same : (x y : Bool) → one x ≡ one y → y ≡ true → x ≡ true
one_same true y e h = refl
one_same false true e h = absurd (omega arith)
one_same false false e h = h

module _ (f g : Atom → Bool) (h : (a : Atom) → f a ≡ true → g a ≡ true) where
  held_most : (atoms : List Atom) → held f atoms ≤ held g atoms
  held_most [] = omega arith
  held_most (a ∷ atoms) = let i = one_most (f a) (g a) (h a) in let k = held_most atoms in omega arith

  held_same : (atoms : List Atom) → held f atoms ≡ held g atoms → (a : Atom) → Among a atoms → g a ≡ true → f a ≡ true
  held_same [] e a m t = elim m [ ]
  held_same (b ∷ atoms) e _ head t = let i = one_most (f b) (g b) (h b) in let k = held_most atoms in one_same (f b) (g b) (omega arith) t
  held_same (b ∷ atoms) e a (tail m) t = let i = one_most (f b) (g b) (h b) in let k = held_most atoms in held_same atoms (omega arith) a m t

module _ (K J : Family) (w : IsWithin K J) (atoms : List Atom) where
  pub weight_most : (n : ℕ) → weight K atoms n ≤ weight J atoms n
  weight_most zero = omega arith
  weight_most (suc n) = let i = held_most (K n) (J n) (w n) atoms in let k = weight_most n in omega arith

  weight_same : (n : ℕ) → weight K atoms n ≡ weight J atoms n → (l : ℕ) (a : Atom) → l < n → Among a atoms → J l a ≡ true → K l a ≡ true
  weight_same zero e l a h m t = absurd (omega arith)
  weight_same (suc n) e l a h m t =
      let i = held_most (K n) (J n) (w n) atoms in
      let k = weight_most n in
      elim (cases_lt l n) [
        | inl u ↦ weight_same n (omega arith) l a u m t
        | inr u ↦ let s : n ≡ l = omega arith in subst (λ i. J i a ≡ true → K i a ≡ true) s (held_same (K n) (J n) (w n) atoms (omega arith) a m) t
      ]

pub all_or_fewer : (s : Graph) (c : Candidates) (J K : Family) → HasCandidates s c J → IsWithin K J
    → IsWithin J K ⊎ (weight K (candidate_atoms s.vars c) s.locs < weight J (candidate_atoms s.vars c) s.locs)
all_or_fewer s c J K h w =
    let atoms = candidate_atoms s.vars c in
    elim (cases_lt (weight K atoms s.locs) (weight J atoms s.locs)) [
      | inl u ↦ inr u
      | inr u ↦
          let k = weight_most K J w atoms s.locs in
          inl (λ l a t. let p = everything_is s c l a (h l a t) in weight_same K J w atoms s.locs (omega arith) l a p.0 p.1 t)
    ]
