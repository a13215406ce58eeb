-- Products of at most k members of a list. Products of sums are sums of products.
use Rattle.std.specs.Prelude.{ℕ, zero, suc, pos, List, [], ◌∷◌, ◌++◌, map}
use Rattle.std.specs.List.{AllByRecursion}
use Rattle.std.proofs.Common.{refl, sym, ◌∙◌}
use Rattle.dc_math.specs.Members.{each-weaker, each-++, each-map, each_map}
use Rattle.dc_math.specs.Rational.{ℚ, ◌*ℚ◌, of_ℤ, one-*ℚ, *ℚ_comm}
use Rattle.dc_math.specs.RationalRing.{ring, reads, same_form}
use Rattle.dc_math.specs.Cones.{Cone, cone_same, cone_head, cone_left, cone_right, cone_times, cone_through, cone_cone}

abbrev pub one : {X : Type 0} → X → ℚ
one x = of_ℤ (pos 1)

abbrev pub by_each : {X : Type 0} → (X → ℚ) → (X → ℚ) → X → ℚ
by_each f g x = f x *ℚ g x

-- the products of k members, in order of the members' numbers
abbrev pub exactly : {X : Type 0} → List (X → ℚ) → ℕ → List (X → ℚ)
exactly fs zero = one ∷ []
exactly [] (suc k) = []
exactly (f ∷ fs) (suc k) = map (by_each f) (exactly (f ∷ fs) k) ++ exactly fs (suc k)

-- the products of at most k members, by their number of factors
abbrev pub products : {X : Type 0} → List (X → ℚ) → ℕ → List (X → ℚ)
products fs zero = exactly fs zero
products fs (suc k) = products fs k ++ exactly fs (suc k)

module _ {X : Type 0} where
  Grows : List (X → ℚ) → (X → ℚ) → Type 0
  Grows fs a = (k : ℕ) → AllByRecursion (λ g. Cone (exactly fs (suc k)) (λ x. a x *ℚ g x)) (exactly fs k)

  first_grows : (f : X → ℚ) (fs : List (X → ℚ)) → Grows (f ∷ fs) f
  unfolding Grows
  first_grows f fs k = each_map (Cone (exactly (f ∷ fs) (suc k))) (by_each f) (exactly (f ∷ fs) k) (cone_left (map (by_each f) (exactly (f ∷ fs) k)) (exactly fs (suc k)))

  into_right : (gs hs : List (X → ℚ)) (g : X → ℚ) → Cone hs g → Cone (gs ++ hs) g
  into_right gs hs g c = cone_cone (gs ++ hs) hs g (cone_right gs hs) c

  into_left : (gs hs : List (X → ℚ)) (g : X → ℚ) → Cone gs g → Cone (gs ++ hs) g
  into_left gs hs g c = cone_cone (gs ++ hs) gs g (cone_left gs hs) c

  more_grows : (f : X → ℚ) (fs : List (X → ℚ)) (a : X → ℚ) → Grows fs a → Grows (f ∷ fs) a
  unfolding Grows
  more_grows f fs a h zero = (into_right (map (by_each f) (exactly (f ∷ fs) 0)) (exactly fs 1) (λ x. a x *ℚ one x) (h zero).0, tt)
  more_grows f fs a h (suc k) =
      each-++ _ (map (by_each f) (exactly (f ∷ fs) k)) (exactly fs (suc k))
      (each-map _ (by_each f) (exactly (f ∷ fs) k) (each-weaker _ _
      (λ g c. cone_same _ (λ x. f x *ℚ (a x *ℚ g x)) (λ x. a x *ℚ (f x *ℚ g x)) (λ x. ring (f x ∷ a x ∷ g x ∷ []) (λ ρ p q r. simp (p, q, r, reads) (same_form _ _ _ refl)))
      (cone_times (exactly (f ∷ fs) (suc (suc k))) f (λ x. x) (exactly (f ∷ fs) (suc k)) (λ x. a x *ℚ g x) (first_grows f fs (suc k)) c))
      (exactly (f ∷ fs) k) (more_grows f fs a h k)))
      (each-weaker _ _ (λ g c. into_right (map (by_each f) (exactly (f ∷ fs) (suc k))) (exactly fs (suc (suc k))) (λ x. a x *ℚ g x) c) (exactly fs (suc k)) (h (suc k)))

  all_grow : (fs : List (X → ℚ)) → AllByRecursion (Grows fs) fs
  all_grow [] = tt
  all_grow (f ∷ fs) = (first_grows f fs, each-weaker (Grows fs) (Grows (f ∷ fs)) (more_grows f fs) fs (all_grow fs))

  -- at most
  up : (fs : List (X → ℚ)) (a : X → ℚ) → Grows fs a → (k : ℕ) → AllByRecursion (λ g. Cone (products fs (suc k)) (λ x. a x *ℚ g x)) (products fs k)
  unfolding Grows
  up fs a h zero = each-weaker _ _ (λ g c. into_right (products fs 0) (exactly fs 1) (λ x. a x *ℚ g x) c) (exactly fs 0) (h 0)
  up fs a h (suc k) =
      each-++ _ (products fs k) (exactly fs (suc k))
      (each-weaker _ _ (λ g c. into_left (products fs (suc k)) (exactly fs (suc (suc k))) (λ x. a x *ℚ g x) c) (products fs k) (up fs a h k))
      (each-weaker _ _ (λ g c. into_right (products fs (suc k)) (exactly fs (suc (suc k))) (λ x. a x *ℚ g x) c) (exactly fs (suc k)) (h (suc k)))

  -- a sum of members and of 1, times a sum of products
  pub times_member : (fs : List (X → ℚ)) (b g : X → ℚ) (k : ℕ) → Cone (one ∷ fs) b → Cone (products fs k) g → Cone (products fs (suc k)) (λ x. b x *ℚ g x)
  times_member fs b g k c d =
      cone_same hs (λ x. g x *ℚ b x) (λ x. b x *ℚ g x) (λ x. *ℚ_comm (g x) (b x))
      (cone_times hs g (λ x. x) (one ∷ fs) b (
        into_left (products fs k) (exactly fs (suc k)) (λ x. g x *ℚ of_ℤ (pos 1)) (cone_same _ g _ (λ x. sym (one-*ℚ (g x)) ∙ *ℚ_comm _ _) d),
        each-weaker _ _ (λ a h. cone_same hs (λ x. a x *ℚ g x) (λ x. g x *ℚ a x) (λ x. *ℚ_comm (a x) (g x)) (cone_times hs a (λ x. x) (products fs k) g (up fs a h k) d)) fs (all_grow fs),
      )
      c)
    where
      hs : List (X → ℚ)
      hs = products fs (suc k)

-- b after r is a sum of the members of `fs` and of 1, for each b: then each product of them is a sum of products
module _ {X Y : Type 0} (r : Y → X) (fs : List (Y → ℚ)) where
  abbrev SumAfter : (X → ℚ) → Type 0
  SumAfter b = Cone (one ∷ fs) (λ y. b (r y))

  exactly_sums : (bs : List (X → ℚ)) → AllByRecursion SumAfter bs → (k : ℕ) → AllByRecursion (λ q. Cone (products fs k) (λ y. q (r y))) (exactly bs k)
  exactly_sums bs h zero = (cone_head one [], tt)
  exactly_sums [] h (suc k) = tt
  exactly_sums (b ∷ bs) h (suc k) =
      each-++ _ (map (by_each b) (exactly (b ∷ bs) k)) (exactly bs (suc k))
      (each-map _ (by_each b) (exactly (b ∷ bs) k) (each-weaker _ _ (λ q c. times_member fs (λ y. b (r y)) (λ y. q (r y)) k h.0 c) (exactly (b ∷ bs) k) (exactly_sums (b ∷ bs) h k)))
      (exactly_sums bs h.1 (suc k))

  products_sums : (bs : List (X → ℚ)) → AllByRecursion SumAfter bs → (k : ℕ) → AllByRecursion (λ q. Cone (products fs k) (λ y. q (r y))) (products bs k)
  products_sums bs h zero = exactly_sums bs h zero
  products_sums bs h (suc k) =
      each-++ _ (products bs k) (exactly bs (suc k))
      (each-weaker _ _ (λ q c. into_left (products fs k) (exactly fs (suc k)) (λ y. q (r y)) c) (products bs k) (products_sums bs h k))
      (exactly_sums bs h (suc k))

pub products_after : {X Y : Type 0} (r : Y → X) (fs : List (Y → ℚ)) (bs : List (X → ℚ)) → AllByRecursion (λ b. Cone (one ∷ fs) (λ y. b (r y))) bs → (k : ℕ) (g : X → ℚ) → Cone (products bs k) g → Cone (products fs k) (λ y. g (r y))
products_after r fs bs h k g c = cone_through (products fs k) r (products bs k) g (products_sums r fs bs h k) c

pub products_of_sums : {X : Type 0} (fs bs : List (X → ℚ)) → AllByRecursion (Cone (one ∷ fs)) bs → (k : ℕ) (g : X → ℚ) → Cone (products bs k) g → Cone (products fs k) g
products_of_sums fs bs h k g c = products_after (λ x. x) fs bs h k g c
