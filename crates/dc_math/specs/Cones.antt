-- Functions on any points, and which functions are sums of them with factors that are not negative.
use Rattle.std.specs.Prelude.{◌≡◌, pos, List, [], ◌∷◌, ◌++◌}
use Rattle.std.specs.List.{AllByRecursion}
use Rattle.std.proofs.Common.{refl, sym, ap, ap₂, ◌∙◌}
use Rattle.dc_math.specs.Members.{each-weaker}
use Rattle.dc_math.specs.Rational.{ℚ, ◌+ℚ◌, ◌*ℚ◌, of_ℤ, NonNegative, NonNegative-+ℚ, NonNegative-*ℚ, one-*ℚ}
use Rattle.dc_math.specs.RationalRing.{ring, reads, read_nat, same_form}
use Rattle.dc_math.specs.Signs.{one_non_negative, zero_non_negative}
use Rattle.dc_math.specs.Vectors.{dot, scale, add, zero_ℚ, dot-add, dot-scale, dot-nil}

-- ---- sums with factors
abbrev pub values_at : {X : Type 0} → List (X → ℚ) → X → List ℚ
values_at [] x = []
values_at (f ∷ fs) x = f x ∷ values_at fs x

-- f is the sum of fs, each times its factor; factors that are missing count as 0
pub record Cone {X : Type 0} (fs : List (X → ℚ)) (f : X → ℚ) : Type 0 where
  pub by : List ℚ
  pub not_negative : AllByRecursion NonNegative by
  pub is : (x : X) → dot (values_at fs x) by ≡ f x

pub each_add : (ls ms : List ℚ) → AllByRecursion NonNegative ls → AllByRecursion NonNegative ms → AllByRecursion NonNegative (add ls ms)
each_add [] ms h k = k
each_add (l ∷ ls) [] h k = h
each_add (l ∷ ls) (m ∷ ms) h k = (NonNegative-+ℚ l m h.0 k.0, each_add ls ms h.1 k.1)

pub each_scale : (c : ℚ) (ls : List ℚ) → NonNegative c → AllByRecursion NonNegative ls → AllByRecursion NonNegative (scale c ls)
each_scale c [] n h = tt
each_scale c (l ∷ ls) n h = (NonNegative-*ℚ c l n h.0, each_scale c ls n h.1)

module _ {X : Type 0} (fs : List (X → ℚ)) where
  pub cone_zero : Cone fs (λ x. zero_ℚ)
  cone_zero = record { by = []; not_negative = tt; is = λ x. dot-nil (values_at fs x) }

  pub cone_add : (f g : X → ℚ) → Cone fs f → Cone fs g → Cone fs (λ x. f x +ℚ g x)
  cone_add f g c d = record {
    by = add c.by d.by;
    not_negative = each_add c.by d.by c.not_negative d.not_negative;
    is = λ x. dot-add (values_at fs x) c.by d.by ∙ ap₂ ◌+ℚ◌ (c.is x) (d.is x);
  }

  pub cone_scale : (k : ℚ) (f : X → ℚ) → NonNegative k → Cone fs f → Cone fs (λ x. k *ℚ f x)
  cone_scale k f n c = record {
    by = scale k c.by;
    not_negative = each_scale k c.by n c.not_negative;
    is = λ x. dot-scale k (values_at fs x) c.by ∙ ap (λ y. k *ℚ y) (c.is x);
  }

  pub cone_same : (f g : X → ℚ) → ((x : X) → f x ≡ g x) → Cone fs f → Cone fs g
  cone_same f g e c = record { by = c.by; not_negative = c.not_negative; is = λ x. c.is x ∙ e x }

module _ {X : Type 0} (f : X → ℚ) (fs : List (X → ℚ)) where
  pub cone_head : Cone (f ∷ fs) f
  cone_head = record {
    by = of_ℤ (pos 1) ∷ [];
    not_negative = (one_non_negative, tt);
    is = λ x. rw (dot-nil (values_at fs x)) (ring (f x ∷ []) (λ ρ p. simp (p, read_nat ρ, reads) (same_form _ _ _ refl)));
  }

  pub cone_tail : (g : X → ℚ) → Cone fs g → Cone (f ∷ fs) g
  cone_tail g c = record {
    by = of_ℤ (pos 0) ∷ c.by;
    not_negative = (zero_non_negative, c.not_negative);
    is = λ x. rw (c.is x) (ring (f x ∷ g x ∷ []) (λ ρ p q. simp (p, q, read_nat ρ, reads) (same_form _ _ _ refl)));
  }

-- each member is a sum
pub cone_left : {X : Type 0} (fs gs : List (X → ℚ)) → AllByRecursion (Cone (fs ++ gs)) fs
cone_left [] gs = tt
cone_left (f ∷ fs) gs = (cone_head f (fs ++ gs), each-weaker (Cone (fs ++ gs)) (Cone (f ∷ fs ++ gs)) (cone_tail f (fs ++ gs)) fs (cone_left fs gs))

pub cone_right : {X : Type 0} (fs gs : List (X → ℚ)) → AllByRecursion (Cone (fs ++ gs)) gs
cone_right [] gs = cone_members gs
  where
    cone_members : {X : Type 0} (gs : List (X → ℚ)) → AllByRecursion (Cone gs) gs
    cone_members [] = tt
    cone_members (f ∷ fs) = (cone_head f fs, each-weaker (Cone fs) (Cone (f ∷ fs)) (cone_tail f fs) fs (cone_members fs))
cone_right (f ∷ fs) gs = each-weaker (Cone (fs ++ gs)) (Cone (f ∷ fs ++ gs)) (cone_tail f (fs ++ gs)) gs (cone_right fs gs)

pub cone_members : {X : Type 0} (fs : List (X → ℚ)) → AllByRecursion (Cone fs) fs
cone_members fs = cone_right [] fs

-- a sum of sums is a sum, also at points taken from other points and times a function
module _ {X Y : Type 0} (hs : List (Y → ℚ)) (w : Y → ℚ) (r : Y → X) where
  cone_dot : (fs : List (X → ℚ)) (ls : List ℚ) → AllByRecursion NonNegative ls → AllByRecursion (λ f. Cone hs (λ y. w y *ℚ f (r y))) fs → Cone hs (λ y. w y *ℚ dot (values_at fs (r y)) ls)
  cone_dot [] ls n h = cone_same hs (λ y. zero_ℚ) _ (λ y. ring (w y ∷ []) (λ ρ p. simp (p, read_nat ρ, reads) (same_form _ _ _ refl))) (cone_zero hs)
  cone_dot (f ∷ fs) [] n h = cone_same hs (λ y. zero_ℚ) _ (λ y. ring (w y ∷ []) (λ ρ p. simp (p, read_nat ρ, reads) (same_form _ _ _ refl))) (cone_zero hs)
  cone_dot (f ∷ fs) (l ∷ ls) n h =
      cone_same hs (λ y. l *ℚ (w y *ℚ f (r y)) +ℚ w y *ℚ dot (values_at fs (r y)) ls) _
      (λ y. ring (l ∷ w y ∷ f (r y) ∷ dot (values_at fs (r y)) ls ∷ []) (λ ρ p q s t. simp (p, q, s, t, reads) (same_form _ _ _ refl)))
      (cone_add hs _ _ (cone_scale hs l _ n.0 h.0) (cone_dot fs ls n.1 h.1))

  pub cone_times : (fs : List (X → ℚ)) (g : X → ℚ) → AllByRecursion (λ f. Cone hs (λ y. w y *ℚ f (r y))) fs → Cone fs g → Cone hs (λ y. w y *ℚ g (r y))
  cone_times fs g h c = cone_same hs (λ y. w y *ℚ dot (values_at fs (r y)) c.by) (λ y. w y *ℚ g (r y)) (λ y. ap (λ z. w y *ℚ z) (c.is (r y))) (cone_dot fs c.by c.not_negative h)

pub cone_through : {X Y : Type 0} (hs : List (Y → ℚ)) (r : Y → X) (fs : List (X → ℚ)) (g : X → ℚ) → AllByRecursion (λ f. Cone hs (λ y. f (r y))) fs → Cone fs g → Cone hs (λ y. g (r y))
cone_through hs r fs g h c =
    cone_same hs (λ y. of_ℤ (pos 1) *ℚ g (r y)) (λ y. g (r y)) (λ y. one-*ℚ (g (r y)))
    (cone_times hs (λ y. of_ℤ (pos 1)) r fs g
    (each-weaker (λ f. Cone hs (λ y. f (r y))) (λ f. Cone hs (λ y. of_ℤ (pos 1) *ℚ f (r y))) (λ f d. cone_same hs (λ y. f (r y)) _ (λ y. sym (one-*ℚ (f (r y)))) d) fs h)
    c)

pub cone_cone : {X : Type 0} (hs fs : List (X → ℚ)) (g : X → ℚ) → AllByRecursion (Cone hs) fs → Cone fs g → Cone hs g
cone_cone hs fs g h c = cone_through hs (λ x. x) fs g h c
