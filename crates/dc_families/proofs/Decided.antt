-- Each list entails an atom or does not: it is dead, or the atom's form has a least bound, or none, over as many places as all of them have.
use Rattle.std.specs.Prelude.{◌≡◌, ◌⊎◌, ℕ, zero, suc, ◌+◌, ◌≤◌, Bool, true, false, List, [], ◌∷◌, ◌++◌, length, replicate, ℤ, pos, ◌+ℤ◌, ◌*ℤ◌, ◌≤ℤ◌}
use Rattle.std.proofs.Common.{refl, sym, ◌∙◌, ap, subst, inl, inr, arith, length-append}
use Rattle.std.proofs.lemmas.Int.{ints}
use Rattle.dc_math.specs.WholeVectors.{dot_ℤ}
use Rattle.dc_math.specs.Rational.{of_ℤ, le_ℚ}
use Rattle.dc_math.specs.Tests.{le_ℚ-true, le_ℚ_true}
use Rattle.dc_affine.specs.declared.atom.Atom.{Atom}
use Rattle.dc_points.specs.Points.{Point, left_at, Entails, AreOver}
use Rattle.dc_points.specs.Laws.{HasLeast}
use Rattle.dc_points.proofs.Farkas.{lists_dead_or_met, least_or_none}
use Rattle.dc_points.proofs.Whole.{atoms_are_forms}
use Rattle.dc_families.specs.Laws.{EntailmentIsDecided}
use Rattle.dc_families.proofs.Lists.{differ}

-- ---- zeros behind a form
pub dot-none : (n : ℕ) (xs : List ℤ) → dot_ℤ (replicate n (pos 0)) xs ≡ pos 0
dot-none zero xs = refl
dot-none (suc n) [] = refl
dot-none (suc n) (x ∷ xs) = let h = dot-none n xs in omega (arith, ints)

dot-padded : (cs : List ℤ) (n : ℕ) (xs : List ℤ) → dot_ℤ (cs ++ replicate n (pos 0)) xs ≡ dot_ℤ cs xs
dot-padded [] n xs = dot-none n xs
dot-padded (c ∷ cs) n [] = refl
dot-padded (c ∷ cs) n (x ∷ xs) = ap (λ d. c *ℤ x +ℤ d) (dot-padded cs n xs)

abbrev wider : ℕ → Atom → Atom
wider n a = record { c0 = a.c0; coefs = a.coefs ++ replicate n (pos 0) }

left-wider : (n : ℕ) (a : Atom) (p : Point) → left_at (wider n a) p ≡ left_at a p
left-wider n a p = ap (λ d. a.c0 *ℤ p.denominator +ℤ d) (dot-padded a.coefs n p.numbers)

-- ---- places enough for a list
abbrev all_places : List Atom → ℕ
all_places [] = 0
all_places (a ∷ hyps) = length a.coefs + all_places hyps

over : (m : ℕ) (hyps : List Atom) → all_places hyps ≤ m → AreOver m hyps
over m [] h = tt
over m (a ∷ hyps) h = (omega arith, over m hyps (omega arith))

abbrev pub Decided : Type 0 → Type 0
Decided P = P ⊎ (¬ P)

module _ (hyps : List Atom) (a : Atom) where
  abbrev m : ℕ
  m = all_places hyps

  abbrev form : List ℤ
  form = a.coefs ++ replicate m (pos 0)

  wide : Entails hyps a → Entails hyps (wider m a)
  wide h p k = subst (λ v. pos 0 ≤ℤ v) (sym (left-wider m a p)) (h p k)

  narrow : Entails hyps (wider m a) → Entails hyps a
  narrow h p k = subst (λ v. pos 0 ≤ℤ v) (left-wider m a p) (h p k)

  long : m ≤ length form
  long = rw (length-append a.coefs (replicate m (pos 0)), long-replicate m) (omega arith)
    where
      long-replicate : (n : ℕ) → length (replicate n (pos 0)) ≡ n
      long-replicate zero = refl
      long-replicate (suc n) = ap suc (long-replicate n)

  by_least : HasLeast hyps form → Decided (Entails hyps a)
  by_least h = by (le_ℚ h.number (of_ℤ a.c0)) refl
    where
      by : (b : Bool) → le_ℚ h.number (of_ℤ a.c0) ≡ b → Decided (Entails hyps a)
      by true e = inl (narrow ((atoms_are_forms hyps form a.c0).1 ((h.least (of_ℤ a.c0)).1 (le_ℚ_true _ _ e))))
      by false e = inr (λ q. differ (sym (le_ℚ-true _ _ ((h.least (of_ℤ a.c0)).0 ((atoms_are_forms hyps form a.c0).0 (wide q)))) ∙ e))

  decide : Decided (Entails hyps a)
  decide = elim (lists_dead_or_met hyps m (over m hyps (omega arith))) [
    | inl d ↦ inl (λ p k. absurd (d p k))
    | inr q ↦ elim (least_or_none hyps form (over (length form) hyps long) (λ d. d q.0 q.1)) [
      | inl h ↦ by_least h
      | inr n ↦ inr (λ k. n (of_ℤ a.c0) ((atoms_are_forms hyps form a.c0).0 (wide k)))
    ]
  ]

pub entailment_is_decided : EntailmentIsDecided
entailment_is_decided hyps a = decide hyps a
