-- A duty is met exactly where its left side is a sum of its products, at each point of its places.
use Rattle.std.specs.Prelude.{◌≡◌, ◌⊎◌, ℕ, zero, suc, ◌+◌, ◌≤◌, List, [], ◌∷◌, map, length, ℤ, pos}
use Rattle.std.specs.List.{range_with_len, AllByRecursion}
use Rattle.std.proofs.Common.{refl, sym, ap, ap₂, ◌∙◌, subst, arith, inl, inr}
use Rattle.std.proofs.lemmas.Bool.{cases_lt}
use Rattle.std.proofs.lemmas.List.{length-map}
use Rattle.dc_math.specs.Rational.{ℚ, ◌+ℚ◌, ◌*ℚ◌, of_ℤ, NonNegative}
use Rattle.dc_math.specs.RationalRing.{ring, reads, read_nat, same_form}
use Rattle.dc_math.specs.Signs.{zero_non_negative}
use Rattle.dc_math.specs.Sums.{at}
use Rattle.dc_math.specs.Vectors.{dot, dot-nil, dot_comm}
use Rattle.dc_math.specs.Cones.{Cone}
use Rattle.dc_lp.specs.Tables.{made}
use Rattle.dc_affine.specs.declared.atom.Atom.{Atom}
use Rattle.dc_handelman.specs.Choices.{choices_of}
use Rattle.dc_handelman.specs.Products.{choice_value}
use Rattle.dc_families.proofs.Decisions.{decide_dead}
use Rattle.dc_claims.specs.declared.duty.Duty.{Duty}
use Rattle.dc_claims.specs.declared.duty.Duty.TheVariants.{Along, AtExit, AtEntry}
use Rattle.dc_claims.specs.Duties.{Pair, system_of, atoms_of, places_of, IsThere, IsOwed}
use Rattle.dc_claims.specs.Claims.{Potential, Multipliers, left_value, product_values, products_count, IsMet, IsCertified}
use Rattle.dc_claims.proofs.Bounds.{each_made}
use Rattle.dc_folding.proofs.Products.{products}
use Rattle.dc_folding.proofs.Choices.{atom_values, product_values_are}

-- a state of n places
abbrev pub StateOf : ℕ → Type 0
StateOf n = (x : List ℤ) × (length x ≡ n)

abbrev pub state : (n : ℕ) → StateOf n → List ℤ
state n x = x.0

-- at each of them the value is a sum of products of at most k of the atoms
abbrev pub IsSum : ℕ → List Atom → ℕ → (List ℤ → ℚ) → Type 0
IsSum n hyps k g = Cone (products (atom_values (state n) hyps) k) (λ x. g x.0)

-- ---- factors by index
each_at : (xs : List ℚ) (i : ℕ) → AllByRecursion NonNegative xs → NonNegative (at xs i)
each_at [] i h = zero_non_negative
each_at (x ∷ xs) zero h = h.0
each_at (x ∷ xs) (suc i) h = each_at xs i h.1

dot_made : (n a : ℕ) (f : ℕ → ℚ) (vs by : List ℚ) → length vs ≤ n → ((i : ℕ) → f (a + i) ≡ at by i) → dot (map f (range_with_len a n)) vs ≡ dot by vs
dot_made zero a f [] by l h = sym (dot-nil by)
dot_made zero a f (v ∷ vs) by l h = absurd (omega arith)
dot_made (suc n) a f [] by l h = sym (dot-nil by)
dot_made (suc n) a f (v ∷ vs) [] l h =
    let e : a + 0 ≡ a = omega arith in
    ap₂ (λ x y. x *ℚ v +ℚ y) (ap f (sym e) ∙ h 0) (dot_made n (a + 1) f vs [] (omega arith) (λ i. let g : (a + 1) + i ≡ a + suc i = omega arith in ap f g ∙ h (suc i)))
    ∙ ring (v ∷ []) (λ ρ i. simp (i, read_nat ρ, reads) (same_form _ _ _ refl))
dot_made (suc n) a f (v ∷ vs) (b ∷ by) l h =
    let e : a + 0 ≡ a = omega arith in
    ap₂ (λ x y. x *ℚ v +ℚ y) (ap f (sym e) ∙ h 0) (dot_made n (a + 1) f vs by (omega arith) (λ i. let g : (a + 1) + i ≡ a + suc i = omega arith in ap f g ∙ h (suc i)))

module _ (p : Pair) (d k : ℕ) (t : ℚ) (φ χ : Potential) where
  abbrev left : Duty → List ℤ → ℚ
  left o = left_value p d t φ χ o

  abbrev pub IsSumAt : Duty → Type 0
  IsSumAt o = IsSum (places_of p o) (atoms_of p o) k (left o)

  pub met_sum : (multipliers : Multipliers) (o : Duty) → IsMet p d k t φ χ multipliers o → IsSumAt o
  met_sum multipliers o m = record {
    by = made (products_count p k o) (multipliers o);
    not_negative = each_made (multipliers o) 0 (products_count p k o) (λ i l. m.signs i (omega arith));
    is = λ x. ap (λ vs. dot vs (made (products_count p k o) (multipliers o))) (product_values_are (state (places_of p o)) (atoms_of p o) x k) ∙ dot_comm _ _ ∙ sym (m.identity x.0 x.1);
  }

  -- ---- multipliers for each duty
  decide_there : (o : Duty) → IsThere p o ⊎ (¬ IsThere p o)
  decide_there (Along side n) = elim (cases_lt n (length (system_of p side).edges)) [
    | inl h ↦ inl h
    | inr h ↦ inr (λ l. absurd (omega arith))
  ]
  decide_there (AtExit side) = inl tt
  decide_there (AtEntry n) = elim (cases_lt n (length p.cases)) [
    | inl h ↦ inl h
    | inr h ↦ inr (λ l. absurd (omega arith))
  ]

  decide_owed : (o : Duty) → IsOwed p o ⊎ (¬ IsOwed p o)
  decide_owed o = elim (decide_there o) [
    | inr h ↦ inr (λ w. h w.there)
    | inl h ↦ elim (decide_dead (atoms_of p o)) [
      | inl e ↦ inr (λ w. w.live e)
      | inr e ↦ inl (record { there = h; live = e })
    ]
  ]

  module _ (sums : (o : Duty) → IsOwed p o → IsSumAt o) where
    factors : (o : Duty) → IsOwed p o ⊎ (¬ IsOwed p o) → ℕ → ℚ
    factors o (inl w) i = at (sums o w).by i
    factors o (inr w) i = of_ℤ (pos 0)

    chosen : Multipliers
    chosen o = factors o (decide_owed o)

    met_by : (multipliers : Multipliers) (o : Duty) (c : IsSumAt o) → ((i : ℕ) → multipliers o i ≡ at c.by i) → IsMet p d k t φ χ multipliers o
    met_by multipliers o c e = record {
      signs = λ i l. subst NonNegative (sym (e i)) (each_at c.by i c.not_negative);
      identity = λ x l.
          sym (dot_made (products_count p k o) 0 (multipliers o) (product_values p k o x) c.by (let q = length-map (choices_of (length (atoms_of p o)) k) (λ c. of_ℤ (choice_value (atoms_of p o) c x)) in omega arith) (λ i. let g : 0 + i ≡ i = omega arith in ap (multipliers o) g ∙ e i)
          ∙ dot_comm c.by _ ∙ ap (λ vs. dot vs c.by) (sym (product_values_are (state (places_of p o)) (atoms_of p o) (x, l) k)) ∙ c.is (x, l));
    }

    by_decision : (o : Duty) (b : IsOwed p o ⊎ (¬ IsOwed p o)) → decide_owed o ≡ b → IsOwed p o → IsMet p d k t φ χ chosen o
    unfolding factors chosen
    by_decision o (inl w) e v = met_by chosen o (sums o w) (λ i. ap (λ c. factors o c i) e)
    by_decision o (inr w) e v = absurd (w v)

    -- where the left side of each duty that is owed is such a sum, the threshold is certified
    pub sums_certify : IsCertified p d k t
    sums_certify = (φ, χ, chosen, record { meets = λ o w. by_decision o (decide_owed o) refl w })
