-- The values of the parts: the unknowns times their parts, and the rest, are the left side of a duty.
use Rattle.std.specs.Prelude.{◌≡◌, ℕ, zero, suc, ◌+◌, ◌<◌, Bool, true, false, cond, ◌&&◌, eqb, List, [], ◌∷◌, ◌++◌, map, take, drop, length, slice_index_or, ℤ, pos, ◌+ℤ◌, ◌*ℤ◌}
use Rattle.std.specs.List.{range_with_len, list_all}
use Rattle.std.proofs.Common.{refl, sym, ◌∙◌, ap, ap₂, arith}
use Rattle.std.proofs.Math.IntN.{zero-*ℤ, *ℤ-zero}
use Rattle.std.proofs.lemmas.Bool.{ne_eqb}
use Rattle.dc_math.specs.WholeRing as whole
use Rattle.dc_math.specs.Rational.{ℚ, ◌+ℚ◌, ◌-ℚ◌, ◌*ℚ◌, neg_ℚ, of_ℤ, of_ℤ-+ℤ, *ℚ-zero, *ℚ-one}
use Rattle.dc_math.specs.RationalRing.{ring, reads, read_nat, same_form}
use Rattle.dc_math.specs.Order.{of_ℤ-neg_ℤ, *ℚ-neg_ℚ}
use Rattle.dc_math.specs.Vectors.{dot}
use Rattle.dc_math.specs.Integers.{one-*ℤ}
use Rattle.dc_lp.specs.Tables.{made}
use Rattle.dc_syntax.specs.declared.tree.Side.{Side}
use Rattle.dc_syntax.specs.declared.tree.Side.TheVariants.{New, Old}
use Rattle.dc_poly.specs.Terms.{Exponents, TermList, term, power, front, others, mono_value, value}
use Rattle.dc_poly.specs.Sums.{plus, negated, values}
use Rattle.dc_poly.proofs.Same.{value-negated}
use Rattle.dc_poly.proofs.Values.{value-plus, value-composed, value-constant}
use Rattle.dc_system.specs.declared.edges.Edge.{Edge}
use Rattle.dc_claims.specs.Duties.{Pair, system_of, edge_at, exit_of, places_of}
use Rattle.dc_claims.specs.declared.duty.Duty.{Duty}
use Rattle.dc_claims.specs.declared.duty.Duty.TheVariants.{Along, AtExit, AtEntry}
use Rattle.dc_claims.specs.declared.duty.Unknown.{Unknown}
use Rattle.dc_claims.specs.declared.duty.Unknown.TheVariants.{Bound, Coefficient}
use Rattle.dc_claims.specs.Claims.{monomials_at}
use Rattle.dc_claims.specs.Parts.{unknowns_at, unknowns_on, unknowns_of, when, before, behind, itself, at_inputs, monomial_at, part_of, rest_of}
use Rattle.dc_claims.specs.Claims.{Potential, potential_value, left_value}
use Rattle.dc_claims.specs.Laws.{unknown_value}
use Rattle.dc_claims.proofs.Totals.{total, total-++, total-map, total-flat_map, total_same, total_zero, total--ℚ, total-neg, dot_total, by_index, total_only}

-- ---- a monomial as a duty has it
one_term : (y : ℤ) → pos 1 *ℤ y +ℤ pos 0 ≡ y
one_term y = whole.ring (y ∷ []) (λ ρ i. simp (i, whole.read_nat ρ, whole.reads) (whole.same_form _ _ _ refl))

mono_before : (m : Exponents) (x : List ℤ) → mono_value (m ++ 0 ∷ []) x ≡ mono_value m x
mono_before [] x = refl
mono_before (e ∷ m) x = ap (λ v. power (front x) e *ℤ v) (mono_before m (others x))

pub before_value : (m : Exponents) (x : List ℤ) → value (before m) x ≡ mono_value m x
before_value m x = one_term _ ∙ mono_before m x

pub behind_value : (n : ℕ) (e : Edge) (m : Exponents) (x : List ℤ) → value (behind n e m) x ≡ mono_value m (values e.update x)
behind_value n e m x = value-composed (n + 1) (term m (pos 1) ∷ []) e.update x ∙ one_term _

pub itself_value : (m : Exponents) (x : List ℤ) → value (itself m) x ≡ mono_value m x
itself_value m x = one_term _

-- with all numbers 0 a monomial is 1 where it has no exponent, and else 0
at_nothing : (m : Exponents) → cond (list_all (eqb 0) m) (pos 1) (pos 0) ≡ mono_value m []
at_nothing [] = refl
at_nothing (zero ∷ m) = at_nothing m ∙ sym (one-*ℤ (mono_value m []))
at_nothing (suc e ∷ m) = ap (λ b. cond (b && list_all (eqb 0) m) (pos 1) (pos 0)) (ne_eqb 0 (suc e) (λ q. omega arith)) ∙ sym (no_times (power (pos 0) e) (mono_value m []))
  where
    no_times : (y z : ℤ) → (pos 0 *ℤ y) *ℤ z ≡ pos 0
    no_times y z = ap (λ v. v *ℤ z) (zero-*ℤ y) ∙ zero-*ℤ z

inputs_mono : (n : ℕ) (m : Exponents) (x : List ℤ) → length x ≡ n → cond (list_all (eqb 0) (drop n m)) (mono_value (take n m) x) (pos 0) ≡ mono_value m x
inputs_mono zero m [] l = at_nothing m
inputs_mono zero m (a ∷ x) l = absurd (omega arith)
inputs_mono (suc n) m [] l = absurd (omega arith)
inputs_mono (suc n) [] (a ∷ x) l = refl
inputs_mono (suc n) (e ∷ m) (a ∷ x) l = by (list_all (eqb 0) (drop n m)) _ _ (inputs_mono n m x (omega arith))
  where
    by : (b : Bool) (y z : ℤ) → cond b y (pos 0) ≡ z → cond b (power a e *ℤ y) (pos 0) ≡ power a e *ℤ z
    by true y z h = ap (λ v. power a e *ℤ v) h
    by false y z h = sym (*ℤ-zero (power a e)) ∙ ap (λ v. power a e *ℤ v) h

value_when : (b : Bool) (q : TermList) (x : List ℤ) → value (when b q) x ≡ cond b (value q x) (pos 0)
value_when true q x = refl
value_when false q x = refl

pub inputs_value : (n : ℕ) (m : Exponents) (x : List ℤ) → length x ≡ n → value (at_inputs n m) x ≡ mono_value m x
inputs_value n m x l =
    value_when (list_all (eqb 0) (drop n m)) (itself (take n m)) x
    ∙ ap (λ v. cond (list_all (eqb 0) (drop n m)) v (pos 0)) (itself_value (take n m) x) ∙ inputs_mono n m x l

-- ---- a number times such a value
drawn : (a v : ℚ) (b : Bool) → a *ℚ cond b v (of_ℤ (pos 0)) ≡ cond b (a *ℚ v) (of_ℤ (pos 0))
drawn a v true = refl
drawn a v false = ring (a ∷ []) (λ ρ i. simp (i, read_nat ρ, reads) (same_form _ _ _ refl))

times_when : (a : ℚ) (b : Bool) (q : TermList) (x : List ℤ) → a *ℚ of_ℤ (value (when b q) x) ≡ cond b (a *ℚ of_ℤ (value q x)) (of_ℤ (pos 0))
times_when a true q x = refl
times_when a false q x = drawn a (of_ℤ (pos 0)) false

times_negated : (a : ℚ) (q : TermList) (x : List ℤ) → a *ℚ of_ℤ (value (negated q) x) ≡ neg_ℚ (a *ℚ of_ℤ (value q x))
times_negated a q x = ap (λ z. a *ℚ z) (ap of_ℤ (value-negated q x) ∙ of_ℤ-neg_ℤ (value q x)) ∙ *ℚ-neg_ℚ a (of_ℤ (value q x))

times_difference : (a : ℚ) (q r : TermList) (x : List ℤ) → a *ℚ of_ℤ (value (plus q (negated r)) x) ≡ a *ℚ of_ℤ (value q x) -ℚ a *ℚ of_ℤ (value r x)
times_difference a q r x =
    ap (λ z. a *ℚ z) (ap of_ℤ (value-plus q (negated r) x) ∙ of_ℤ-+ℤ (value q x) (value (negated r) x))
    ∙ shape a (of_ℤ (value q x)) (of_ℤ (value r x)) (of_ℤ (value (negated r) x)) (times_negated a r x)
  where
    shape : (a v w z : ℚ) → a *ℚ z ≡ neg_ℚ (a *ℚ w) → a *ℚ (v +ℚ z) ≡ a *ℚ v -ℚ a *ℚ w
    shape a v w z e = spread a v z ∙ ap (λ y. a *ℚ v +ℚ y) e
      where
        spread : (a v z : ℚ) → a *ℚ (v +ℚ z) ≡ a *ℚ v +ℚ a *ℚ z
        spread a v z = ring (a ∷ v ∷ z ∷ []) (λ ρ i j k. simp (i, j, k, reads) (same_form _ _ _ refl))

map_same : {A B : Type 0} (f g : A → B) (xs : List A) → ((x : A) → f x ≡ g x) → map f xs ≡ map g xs
map_same f g [] h = refl
map_same f g (x ∷ xs) h = ap₂ ◌∷◌ (h x) (map_same f g xs h)

-- a number for each of so many monomials
each_monomial : (f : ℕ → ℚ) (v : Exponents → ℚ) (ms : List Exponents) → total (λ i. f i *ℚ v (slice_index_or ms i [])) (range_with_len 0 (length ms)) ≡ dot (made (length ms) f) (map v ms)
each_monomial f v ms =
    sym (dot_total f (λ i. v (slice_index_or ms i [])) (range_with_len 0 (length ms)))
    ∙ ap (dot (made (length ms) f)) (by_index (λ i. v (slice_index_or ms i [])) v ms 0 [] (λ i l. ap (λ j. v (slice_index_or ms j [])) (let e : 0 + i ≡ i = omega arith in e)))

out_of : (b : Bool) (h : ℕ → ℚ) (xs : List ℕ) → total (λ i. cond b (h i) (of_ℤ (pos 0))) xs ≡ cond b (total h xs) (of_ℤ (pos 0))
out_of true h xs = refl
out_of false h xs = total_zero (λ i. of_ℤ (pos 0)) xs (λ i. refl)

module _ (p : Pair) (d : ℕ) where
  -- ---- sums over the unknowns of a side
  abbrev double : Side → (ℕ → ℕ → ℚ) → ℚ
  double side h = total (λ l. total (h l) (range_with_len 0 (length (monomials_at p d side)))) (range_with_len 0 (system_of p side).locs)

  on_side : (side : Side) (w : Unknown → ℚ) → total w (unknowns_on p d side) ≡ double side (λ l i. w (Coefficient side l i))
  on_side side w =
      total-flat_map w (unknowns_at p d side) (range_with_len 0 (system_of p side).locs)
      ∙ total_same _ _ (range_with_len 0 (system_of p side).locs) (λ l. total-map w (Coefficient side l) (range_with_len 0 (length (monomials_at p d side))))

  double_same : (side : Side) (g h : ℕ → ℕ → ℚ) → ((l i : ℕ) → g l i ≡ h l i) → double side g ≡ double side h
  double_same side g h e = total_same _ _ _ (λ l. total_same (g l) (h l) _ (e l))

  double_zero : (side : Side) (g : ℕ → ℕ → ℚ) → ((l i : ℕ) → g l i ≡ of_ℤ (pos 0)) → double side g ≡ of_ℤ (pos 0)
  double_zero side g e = total_zero _ _ (λ l. total_zero (g l) _ (e l))

  double--ℚ : (side : Side) (g h : ℕ → ℕ → ℚ) → double side (λ l i. g l i -ℚ h l i) ≡ double side g -ℚ double side h
  double--ℚ side g h = total_same _ _ _ (λ l. total--ℚ (g l) (h l) _) ∙ total--ℚ (λ l. total (g l) _) (λ l. total (h l) _) _

  double-neg : (side : Side) (g : ℕ → ℕ → ℚ) → double side (λ l i. neg_ℚ (g l i)) ≡ neg_ℚ (double side g)
  double-neg side g = total_same _ _ _ (λ l. total-neg (g l) _) ∙ total-neg (λ l. total (g l) _) _

  -- the numbers at one location, with the values that polynomials of the monomials have
  abbrev at_location : Side → Potential → ℕ → (Exponents → TermList) → List ℤ → ℚ
  at_location side f a q x = dot (made (length (monomials_at p d side)) (f a)) (map (λ m. of_ℤ (value (q m) x)) (monomials_at p d side))

  located : (side : Side) (f : Potential) (a : ℕ) (q : Exponents → TermList) (x : List ℤ) → a < (system_of p side).locs
      → double side (λ l i. cond (eqb l a) (f l i *ℚ of_ℤ (value (q (monomial_at p d side i)) x)) (of_ℤ (pos 0))) ≡ at_location side f a q x
  located side f a q x h =
      total_same _ _ _ (λ l. out_of (eqb l a) (λ i. f l i *ℚ of_ℤ (value (q (monomial_at p d side i)) x)) _)
      ∙ total_only a 0 (system_of p side).locs (λ l. total (λ i. f l i *ℚ of_ℤ (value (q (monomial_at p d side i)) x)) (range_with_len 0 (length (monomials_at p d side)))) (omega arith) (omega arith)
      ∙ each_monomial (f a) (λ m. of_ℤ (value (q m) x)) (monomials_at p d side)

  two_located : (side : Side) (f : Potential) (a b : ℕ) (q r : Exponents → TermList) (x : List ℤ) → a < (system_of p side).locs → b < (system_of p side).locs
      → double side (λ l i. f l i *ℚ of_ℤ (value (plus (when (eqb l a) (q (monomial_at p d side i))) (negated (when (eqb l b) (r (monomial_at p d side i))))) x))
      ≡ at_location side f a q x -ℚ at_location side f b r x
  two_located side f a b q r x h k =
      double_same side _ _ (λ l i. times_difference (f l i) (when (eqb l a) (q (monomial_at p d side i))) (when (eqb l b) (r (monomial_at p d side i))) x
      ∙ ap₂ ◌-ℚ◌ (times_when (f l i) (eqb l a) (q (monomial_at p d side i)) x) (times_when (f l i) (eqb l b) (r (monomial_at p d side i)) x))
      ∙ double--ℚ side _ _ ∙ ap₂ ◌-ℚ◌ (located side f a q x h) (located side f b r x k)

  one_located : (side : Side) (f : Potential) (a : ℕ) (q : Exponents → TermList) (x : List ℤ) → a < (system_of p side).locs
      → double side (λ l i. f l i *ℚ of_ℤ (value (when (eqb l a) (q (monomial_at p d side i))) x)) ≡ at_location side f a q x
  one_located side f a q x h = double_same side _ _ (λ l i. times_when (f l i) (eqb l a) (q (monomial_at p d side i)) x) ∙ located side f a q x h

  minus_located : (side : Side) (f : Potential) (a : ℕ) (q : Exponents → TermList) (x : List ℤ) → a < (system_of p side).locs
      → double side (λ l i. f l i *ℚ of_ℤ (value (negated (when (eqb l a) (q (monomial_at p d side i)))) x)) ≡ neg_ℚ (at_location side f a q x)
  minus_located side f a q x h =
      double_same side _ _ (λ l i. times_negated (f l i) (when (eqb l a) (q (monomial_at p d side i))) x) ∙ double-neg side _ ∙ ap neg_ℚ (one_located side f a q x h)

  -- ---- the left sides
  module _ (k : ℕ) (t : ℚ) (φ χ : Potential) where
    -- an unknown times its part
    abbrev pub worth : Duty → List ℤ → Unknown → ℚ
    worth o x u = unknown_value t φ χ u *ℚ of_ℤ (value (part_of p d o u) x)

    is_potential : (side : Side) (f : Potential) (a : ℕ) (q : Exponents → TermList) (x y : List ℤ) → ((m : Exponents) → value (q m) x ≡ mono_value m y) → at_location side f a q x ≡ potential_value p d side f a y
    is_potential side f a q x y h = ap (dot (made (length (monomials_at p d side)) (f a))) (map_same _ _ (monomials_at p d side) (λ m. ap of_ℤ (h m)))

    -- the sum over the unknowns, side by side
    by_sides : (o : Duty) (x : List ℤ) (a b c : ℚ) → worth o x Bound ≡ a → double New (λ l i. worth o x (Coefficient New l i)) ≡ b → double Old (λ l i. worth o x (Coefficient Old l i)) ≡ c
        → total (worth o x) (unknowns_of p d) ≡ a +ℚ (b +ℚ c)
    by_sides o x a b c e f g =
        ap₂ ◌+ℚ◌ e (total-++ (worth o x) (unknowns_on p d New) (unknowns_on p d Old) ∙ ap₂ ◌+ℚ◌ (on_side New (worth o x) ∙ f) (on_side Old (worth o x) ∙ g))

    -- the locations of which a duty speaks are there
    abbrev pub AreLocations : Duty → Type 0
    AreLocations (Along side n) = ((edge_at (system_of p side) n).from < (system_of p side).locs) × ((edge_at (system_of p side) n).to < (system_of p side).locs)
    AreLocations (AtExit side) = exit_of (system_of p side) < (system_of p side).locs
    AreLocations (AtEntry n) = (0 < p.new.locs) × (0 < p.old.locs)

    pub left_is : (o : Duty) (x : List ℤ) → AreLocations o → length x ≡ places_of p o → total (worth o x) (unknowns_of p d) +ℚ of_ℤ (value (rest_of p o) x) ≡ left_value p d t φ χ o x
    left_is (Along New n) x h l =
        let e = edge_at p.new n in
        let f = two_located New φ e.from e.to before (behind p.new.vars e) x h.0 h.1
        ∙ ap₂ ◌-ℚ◌ (is_potential New φ e.from before x x (λ m. before_value m x)) (is_potential New φ e.to (behind p.new.vars e) x (values e.update x) (λ m. behind_value p.new.vars e m x)) in
        ap₂ ◌+ℚ◌ (by_sides (Along New n) x _ _ _ (*ℚ-zero t) f (double_zero Old _ (λ l i. *ℚ-zero (χ l i)))) (ap of_ℤ (value-negated e.cost.terms x) ∙ of_ℤ-neg_ℤ (value e.cost.terms x))
        ∙ shape _ (of_ℤ (value e.cost.terms x))
      where
        shape : (a c : ℚ) → (of_ℤ (pos 0) +ℚ (a +ℚ of_ℤ (pos 0))) +ℚ neg_ℚ c ≡ a -ℚ c
        shape a c = ring (a ∷ c ∷ []) (λ ρ i j. simp (i, j, read_nat ρ, reads) (same_form _ _ _ refl))
    left_is (Along Old n) x h l =
        let e = edge_at p.old n in
        let f = two_located Old χ e.to e.from (behind p.old.vars e) before x h.1 h.0
        ∙ ap₂ ◌-ℚ◌ (is_potential Old χ e.to (behind p.old.vars e) x (values e.update x) (λ m. behind_value p.old.vars e m x)) (is_potential Old χ e.from before x x (λ m. before_value m x)) in
        ap (λ z. z +ℚ of_ℤ (value e.cost.terms x)) (by_sides (Along Old n) x _ _ _ (*ℚ-zero t) (double_zero New _ (λ l i. *ℚ-zero (φ l i))) f)
        ∙ shape _ _ (of_ℤ (value e.cost.terms x))
      where
        shape : (a b c : ℚ) → (of_ℤ (pos 0) +ℚ (of_ℤ (pos 0) +ℚ (a -ℚ b))) +ℚ c ≡ c -ℚ (b -ℚ a)
        shape a b c = ring (a ∷ b ∷ c ∷ []) (λ ρ i j k. simp (i, j, k, read_nat ρ, reads) (same_form _ _ _ refl))
    left_is (AtExit New) x h l =
        let f = one_located New φ (exit_of p.new) itself x h ∙ is_potential New φ (exit_of p.new) itself x x (λ m. itself_value m x) in
        ap (λ z. z +ℚ of_ℤ (pos 0)) (by_sides (AtExit New) x _ _ _ (*ℚ-zero t) f (double_zero Old _ (λ l i. *ℚ-zero (χ l i)))) ∙ shape _
      where
        shape : (a : ℚ) → (of_ℤ (pos 0) +ℚ (a +ℚ of_ℤ (pos 0))) +ℚ of_ℤ (pos 0) ≡ a
        shape a = ring (a ∷ []) (λ ρ i. simp (i, read_nat ρ, reads) (same_form _ _ _ refl))
    left_is (AtExit Old) x h l =
        let f = minus_located Old χ (exit_of p.old) itself x h ∙ ap neg_ℚ (is_potential Old χ (exit_of p.old) itself x x (λ m. itself_value m x)) in
        ap (λ z. z +ℚ of_ℤ (pos 0)) (by_sides (AtExit Old) x _ _ _ (*ℚ-zero t) (double_zero New _ (λ l i. *ℚ-zero (φ l i))) f) ∙ shape _
      where
        shape : (a : ℚ) → (of_ℤ (pos 0) +ℚ (of_ℤ (pos 0) +ℚ neg_ℚ a)) +ℚ of_ℤ (pos 0) ≡ of_ℤ (pos 0) -ℚ a
        shape a = ring (a ∷ []) (λ ρ i. simp (i, read_nat ρ, reads) (same_form _ _ _ refl))
    left_is (AtEntry n) x h l =
        let b = ap (λ z. t *ℚ of_ℤ z) (value-constant (pos 1) p.new.params x) ∙ *ℚ-one t in
        let f = minus_located New φ 0 (at_inputs p.new.params) x h.0 ∙ ap neg_ℚ (is_potential New φ 0 (at_inputs p.new.params) x x (λ m. inputs_value p.new.params m x l)) in
        let g = one_located Old χ 0 (at_inputs p.new.params) x h.1 ∙ is_potential Old χ 0 (at_inputs p.new.params) x x (λ m. inputs_value p.new.params m x l) in
        ap (λ z. z +ℚ of_ℤ (pos 0)) (by_sides (AtEntry n) x _ _ _ b f g) ∙ shape t _ _
      where
        shape : (t a b : ℚ) → (t +ℚ (neg_ℚ a +ℚ b)) +ℚ of_ℤ (pos 0) ≡ (t -ℚ a) +ℚ b
        shape t a b = ring (t ∷ a ∷ b ∷ []) (λ ρ i j k. simp (i, j, k, read_nat ρ, reads) (same_form _ _ _ refl))
