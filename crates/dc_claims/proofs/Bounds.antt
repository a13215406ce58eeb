-- A run of new costs at most a certified threshold more than a run of old.
use Rattle.std.specs.Prelude.{◌≡◌, ℕ, zero, suc, ◌+◌, ◌≤◌, ◌<◌, ◌-◌, Bool, true, false, ◌&&◌, ◌||◌, List, [], ◌∷◌, ◌++◌, map, length, replicate, slice_index_or, ℤ, pos, ◌+ℤ◌, ◌-ℤ◌, ◌*ℤ◌, neg_ℤ, ◌≤ℤ◌, int_le}
use Rattle.std.specs.List.{range_with_len, AllByRecursion}
use Rattle.std.proofs.Common.{refl, sym, ◌∙◌, ap, ap₂, subst, arith, length-append}
use Rattle.std.proofs.lemmas.List.{length-replicate}
use Rattle.std.proofs.lemmas.Int.{ints}
use Rattle.std.proofs.lemmas.Bool.{and_parts}
use Rattle.dc_math.specs.Members.{Among, head, tail, each-weaker}
use Rattle.dc_math.specs.Integers.{0≤ℤ-*ℤ}
use Rattle.dc_math.specs.WholeVectors.{dot_ℤ-longer}
use Rattle.dc_math.specs.Rational.{ℚ, ◌+ℚ◌, ◌-ℚ◌, of_ℤ, of_ℤ-+ℤ, ◌≤ℚ◌, sub-≤ℚ, NonNegative, NonNegative-+ℚ, NonNegative-*ℚ}
use Rattle.dc_math.specs.RationalRing.{ring, reads, read_nat}
use Rattle.dc_math.specs.Linear.{from₁, from₂, from₃, times, follows}
use Rattle.dc_math.specs.Order.{of_ℤ-neg_ℤ}
use Rattle.dc_math.specs.Signs.{of_ℤ-≤, zero_non_negative}
use Rattle.dc_math.specs.Vectors.{dot}
use Rattle.dc_lp.specs.Tables.{made}
use Rattle.dc_syntax.specs.declared.tree.Side.{Side}
use Rattle.dc_syntax.specs.declared.tree.Side.TheVariants.{New, Old}
use Rattle.dc_syntax.specs.Value.{State}
use Rattle.dc_poly.specs.Terms.{Exponents, mono_value, power}
use Rattle.dc_affine.specs.declared.atom.Atom.{Atom}
use Rattle.dc_affine.specs.Atoms.{atom_value, holds_at, all_hold, some_hold, IsAtom}
use Rattle.dc_system.specs.declared.edges.Edge.{Edge}
use Rattle.dc_system.specs.Paths.{at, Step, Path, here, along}
use Rattle.dc_handelman.specs.Choices.{Choice, choices_of}
use Rattle.dc_handelman.specs.Products.{choice_value, atom_at}
use Rattle.dc_template.specs.Templates.{mono_values}
use Rattle.dc_points.specs.Points.{whole_point}
use Rattle.dc_points.proofs.Whole.{whole_points_meet, test_true}
use Rattle.dc_template.proofs.Listed.{are_monomials}
use Rattle.dc_template.proofs.Values.{mono_values-longer}
use Rattle.dc_poly.specs.Monomials.{IsWithin}
use Rattle.dc_system.specs.Shapes.{IsWellFormed}
use Rattle.dc_system.proofs.CostPaths.{path_length}
use Rattle.dc_claims.specs.Plans.{IsPair}
use Rattle.dc_claims.specs.Runs.{start_in, RunsAt, IsInput, HoldWhereReached}
use Rattle.dc_claims.specs.Laws.{CertifiedBoundRuns, VacuousRunNowhere}
use Rattle.dc_claims.proofs.Fits.{atoms_in}
use Rattle.dc_claims.proofs.Claims.{below}
use Rattle.dc_claims.specs.Duties.{Pair, system_of, atoms_at, edge_at, exit_of, no_edge, atoms_of, places_of, IsThere}
use Rattle.dc_claims.specs.declared.duty.Duty.{Duty}
use Rattle.dc_claims.specs.declared.duty.Duty.TheVariants.{Along, AtExit, AtEntry}
use Rattle.dc_claims.specs.Claims.{monomials_at}
use Rattle.dc_claims.specs.Claims.{Potential, Multipliers, potential_value, left_value, product_values, products_count, Certifies}

-- ---- products of atoms that hold
factor_positive : (hyps : List Atom) (x : List ℤ) (i : ℕ) → all_hold hyps x ≡ true → pos 0 ≤ℤ atom_value (atom_at hyps i) x
factor_positive [] x i h = omega (arith, ints)
factor_positive (a ∷ hyps) x zero h = test_true (atom_value a x) (and_parts (holds_at a x) (all_hold hyps x) h).0
factor_positive (a ∷ hyps) x (suc i) h = factor_positive hyps x i (and_parts (holds_at a x) (all_hold hyps x) h).1

choice_positive : (hyps : List Atom) (x : List ℤ) (c : Choice) → all_hold hyps x ≡ true → pos 0 ≤ℤ choice_value hyps c x
choice_positive hyps x [] h = omega (arith, ints)
choice_positive hyps x (i ∷ c) h = 0≤ℤ-*ℤ _ _ (factor_positive hyps x i h) (choice_positive hyps x c h)

values_positive : (hyps : List Atom) (x : List ℤ) (cs : List Choice) → all_hold hyps x ≡ true → AllByRecursion NonNegative (map (λ c. of_ℤ (choice_value hyps c x)) cs)
values_positive hyps x [] h = tt
values_positive hyps x (c ∷ cs) h = (of_ℤ-≤ (pos 0) _ (choice_positive hyps x c h), values_positive hyps x cs h)

dot_positive : (xs ys : List ℚ) → AllByRecursion NonNegative xs → AllByRecursion NonNegative ys → NonNegative (dot xs ys)
dot_positive [] ys h k = zero_non_negative
dot_positive (x ∷ xs) [] h k = zero_non_negative
dot_positive (x ∷ xs) (y ∷ ys) h k = NonNegative-+ℚ _ _ (NonNegative-*ℚ _ _ h.0 k.0) (dot_positive xs ys h.1 k.1)

pub each_made : (f : ℕ → ℚ) (a n : ℕ) → ((i : ℕ) → i < a + n → NonNegative (f i)) → AllByRecursion NonNegative (map f (range_with_len a n))
each_made f a zero h = tt
each_made f a (suc n) h = (h a (omega arith), each_made f (a + 1) n (λ i l. h i (omega arith)))

all-append : (gs hs : List Atom) (x : List ℤ) → all_hold gs x ≡ true → all_hold hs x ≡ true → all_hold (gs ++ hs) x ≡ true
all-append [] hs x h k = k
all-append (a ∷ gs) hs x h k = let b = and_parts (holds_at a x) (all_hold gs x) h in ap₂ ◌&&◌ b.0 (all-append gs hs x b.1 k)

number_of : (e : Edge) (es : List Edge) → Among e es → (n : ℕ) × (n < length es) × (slice_index_or es n no_edge ≡ e)
number_of e es head = (0, omega arith, refl)
number_of e es (tail a) = let r = number_of e _ a in (suc r.0, (let l = r.1 in omega arith), r.2)

sum_below : (c d : ℤ) (n m : ℚ) → (of_ℤ c +ℚ n) ≤ℚ m → of_ℤ d ≤ℚ n → of_ℤ (c +ℤ d) ≤ℚ m
sum_below c d n m u v = subst (λ z. z ≤ℚ m) (sym (of_ℤ-+ℤ c d)) (plain (of_ℤ c) (of_ℤ d) n m u v)
  where
    plain : (c d n m : ℚ) → (c +ℚ n) ≤ℚ m → d ≤ℚ n → (c +ℚ d) ≤ℚ m
    plain c d n m u v = from₂ u v (ring (c ∷ d ∷ n ∷ m ∷ []) (λ ρ i j k l. simp (i, j, k, l, read_nat ρ, reads) (follows _ (times 1 _ _ ∷ times 1 _ _ ∷ []) _ _ refl)))

sum_above : (c d : ℤ) (n m : ℚ) → m ≤ℚ (of_ℤ c +ℚ n) → n ≤ℚ of_ℤ d → m ≤ℚ of_ℤ (c +ℤ d)
sum_above c d n m u v = subst (λ z. m ≤ℚ z) (sym (of_ℤ-+ℤ c d)) (plain (of_ℤ c) (of_ℤ d) n m u v)
  where
    plain : (c d n m : ℚ) → m ≤ℚ (c +ℚ n) → n ≤ℚ d → m ≤ℚ (c +ℚ d)
    plain c d n m u v = from₂ u v (ring (c ∷ d ∷ n ∷ m ∷ []) (λ ρ i j k l. simp (i, j, k, l, read_nat ρ, reads) (follows _ (times 1 _ _ ∷ times 1 _ _ ∷ []) _ _ refl)))

turned : (x : ℚ) → NonNegative (of_ℤ (pos 0) -ℚ x) → x ≤ℚ of_ℤ (pos 0)
turned x h = sub-≤ℚ x (of_ℤ (pos 0)) h

mono_zeros : (m : Exponents) (x : List ℤ) (n : ℕ) → mono_value m (x ++ replicate n (pos 0)) ≡ mono_value m x
mono_zeros [] x n = refl
mono_zeros (e ∷ m) [] zero = refl
mono_zeros (e ∷ m) [] (suc n) = ap (λ v. power (pos 0) e *ℤ v) (mono_zeros m [] n)
mono_zeros (e ∷ m) (a ∷ x) n = ap (λ v. power a e *ℤ v) (mono_zeros m x n)

monos_zeros : (ms : List Exponents) (x : List ℤ) (n : ℕ) → mono_values ms (x ++ replicate n (pos 0)) ≡ mono_values ms x
monos_zeros [] x n = refl
monos_zeros (m ∷ ms) x n = ap₂ (λ v vs. of_ℤ v ∷ vs) (mono_zeros m x n) (monos_zeros ms x n)

-- ---- paths
one_more : (es : List Edge) (k l : ℕ) (s x : State) (c : ℤ) → Path es k s c l x → (e : Edge) (z d : ℤ) (y : State) → Among e es → e.from ≡ l → Step e x z d y → (b : ℤ) × Path es k s b e.to y
one_more es k l s x c here e z d y a f t = (d +ℤ pos 0, along e z a f t here)
one_more es k l s x c (along {c = c1} {d = d1} e1 z1 a1 f1 t1 r) e z d y a f t =
    let q = one_more es e1.to l _ x d1 r e z d y a f t in (c1 +ℤ q.0, along e1 z1 a1 f1 t1 q.1)

-- the number of a case that holds
case_number : (cs : List (List Atom)) (v : State) → some_hold cs v ≡ true → (n : ℕ) × (n < length cs) × (all_hold (slice_index_or cs n []) v ≡ true)
case_number [] v h = absurd (let d : false ≡ true = h in cc)
case_number (c ∷ cs) v h = by (case_number cs v) (all_hold c v) refl h
  where
    by : (some_hold cs v ≡ true → (n : ℕ) × (n < length cs) × (all_hold (slice_index_or cs n []) v ≡ true)) → (b : Bool) → all_hold c v ≡ b → (b || some_hold cs v) ≡ true → (n : ℕ) × (n < length (c ∷ cs)) × (all_hold (slice_index_or (c ∷ cs) n []) v ≡ true)
    by g true q h = (0, omega arith, q)
    by g false q h = let r = g h in (suc r.0, (let l = r.1 in omega arith), r.2)

module _ (p : Pair) (d k : ℕ) (t : ℚ) (φ χ : Potential) (multipliers : Multipliers) (certificate : Certifies p d k t φ χ multipliers) where
  -- the left side of a duty is at least 0 where its atoms hold
  left_positive : (o : Duty) (x : List ℤ) → IsThere p o → length x ≡ places_of p o → all_hold (atoms_of p o) x ≡ true → NonNegative (left_value p d t φ χ o x)
  left_positive o x there l h =
      let m = certificate.meets o (record { there = there; live = λ dead. dead (whole_point x) ((whole_points_meet (atoms_of p o) x).1 h) }) in
      subst NonNegative (sym (m.identity x l))
      (dot_positive (made (products_count p k o) (multipliers o)) (product_values p k o x) (each_made (multipliers o) 0 (products_count p k o) (λ i l. m.signs i (omega arith))) (values_positive (atoms_of p o) x (choices_of (length (atoms_of p o)) k) h))

  -- ---- along the paths of both programs
  module _ (pair : IsPair p) where
    padded : (side : Side) → AllByRecursion (λ m. length m ≤ (system_of p side).vars) (monomials_at p d side)
    padded side = each-weaker (IsWithin (system_of p side).vars d) (λ m. length m ≤ (system_of p side).vars) (λ m h. let e = h.places in omega arith) (monomials_at p d side) (are_monomials (system_of p side).vars d).only

    narrow : (side : Side) (l : ℕ) → AllByRecursion (IsAtom (system_of p side).vars) (atoms_at p side l)
    narrow New l = atoms_in _ l p.new_atoms pair.new.each
    narrow Old l = atoms_in _ l p.old_atoms pair.old.each

    formed : (side : Side) → IsWellFormed (system_of p side)
    formed New = pair.new.system
    formed Old = pair.old.system

    widened : (n : ℕ) (gs : List Atom) (x : State) (z : ℤ) → AllByRecursion (IsAtom n) gs → length x ≡ n → all_hold gs x ≡ true → all_hold gs (at x z) ≡ true
    widened n [] x z w l h = refl
    widened n (a ∷ gs) x z w l h =
        let b = and_parts (holds_at a x) (all_hold gs x) h in
        ap₂ ◌&&◌ (ap (λ v. int_le (pos 0) (a.c0 +ℤ v)) (dot_ℤ-longer a.coefs x (z ∷ []) (subst (λ i. length a.coefs ≤ i) (sym l) w.0.few)) ∙ b.0) (widened n gs x z w.1 l b.1)

    same_value : (side : Side) (f : Potential) (l : ℕ) (x : State) (z : ℤ) → length x ≡ (system_of p side).vars → potential_value p d side f l (at x z) ≡ potential_value p d side f l x
    same_value side f l x z h =
        ap (λ v. dot (made (length (monomials_at p d side)) (f l)) v) (mono_values-longer (monomials_at p d side) x (z ∷ []) (subst (λ i. AllByRecursion (λ m. length m ≤ i) (monomials_at p d side)) (sym h) (padded side)))

    -- at a state that meets an edge's source, and passes its guard
    along_positive : (side : Side) (n : ℕ) (x y : State) (z c : ℤ) → n < length (system_of p side).edges → Step (edge_at (system_of p side) n) x z c y → length x ≡ (system_of p side).vars
        → all_hold (atoms_at p side (edge_at (system_of p side) n).from) x ≡ true → NonNegative (left_value p d t φ χ (Along side n) (at x z))
    along_positive side n x y z c i s l h =
        let e = edge_at (system_of p side) n in
        let w = all-append (atoms_at p side e.from) e.guard (at x z) (widened (system_of p side).vars (atoms_at p side e.from) x z (narrow side e.from) l h) s.passes in
        left_positive (Along side n) (at x z) i (length-append x (z ∷ []) ∙ ap (λ j. j + 1) l) w

    falls : (n : ℕ) (e : Edge) → edge_at p.new n ≡ e → (x y : State) (z c : ℤ) → n < length p.new.edges → Step e x z c y → length x ≡ p.new.vars → all_hold (atoms_at p New e.from) x ≡ true
        → (of_ℤ c +ℚ potential_value p d New φ e.to y) ≤ℚ potential_value p d New φ e.from x
    falls n e q x y z c i = subst
        (λ e. Step e x z c y → length x ≡ p.new.vars → all_hold (atoms_at p New e.from) x ≡ true → (of_ℤ c +ℚ potential_value p d New φ e.to y) ≤ℚ potential_value p d New φ e.from x) q
        (λ s l h. plain _ _ _ _ _ _ (same_value New φ (edge_at p.new n).from x z l) (ap (potential_value p d New φ (edge_at p.new n).to) (sym s.moves)) (ap of_ℤ (sym s.costs)) (along_positive New n x y z c i s l h))
      where
        plain : (a b m n q r : ℚ) → a ≡ b → m ≡ n → q ≡ r → NonNegative ((a -ℚ m) -ℚ q) → (r +ℚ n) ≤ℚ b
        plain a b m n q r e f g h = subst (λ b. (r +ℚ n) ≤ℚ b) e (subst (λ n. (r +ℚ n) ≤ℚ a) f (subst (λ r. (r +ℚ m) ≤ℚ a) g
            (from₁ h (ring (a ∷ m ∷ q ∷ []) (λ ρ i j k. simp (i, j, k, read_nat ρ, reads) (follows _ (times 1 _ _ ∷ []) _ _ refl))))))

    holds_up : (n : ℕ) (e : Edge) → edge_at p.old n ≡ e → (x y : State) (z c : ℤ) → n < length p.old.edges → Step e x z c y → length x ≡ p.old.vars → all_hold (atoms_at p Old e.from) x ≡ true
        → potential_value p d Old χ e.from x ≤ℚ (of_ℤ c +ℚ potential_value p d Old χ e.to y)
    holds_up n e q x y z c i = subst
        (λ e. Step e x z c y → length x ≡ p.old.vars → all_hold (atoms_at p Old e.from) x ≡ true → potential_value p d Old χ e.from x ≤ℚ (of_ℤ c +ℚ potential_value p d Old χ e.to y)) q
        (λ s l h. plain _ _ _ _ _ _ (same_value Old χ (edge_at p.old n).from x z l) (ap (potential_value p d Old χ (edge_at p.old n).to) (sym s.moves)) (ap of_ℤ (sym s.costs)) (along_positive Old n x y z c i s l h))
      where
        plain : (a b m n q r : ℚ) → a ≡ b → m ≡ n → q ≡ r → NonNegative (q -ℚ (a -ℚ m)) → b ≤ℚ (r +ℚ n)
        plain a b m n q r e f g h = subst (λ b. b ≤ℚ (r +ℚ n)) e (subst (λ n. a ≤ℚ (r +ℚ n)) f (subst (λ r. a ≤ℚ (r +ℚ m)) g
            (from₁ h (ring (a ∷ m ∷ q ∷ []) (λ ρ i j k. simp (i, j, k, read_nat ρ, reads) (follows _ (times 1 _ _ ∷ []) _ _ refl))))))

    -- ---- from an input
    module _ (holds : (side : Side) → HoldWhereReached p side) (v : State) (input : IsInput p v) where
      abbrev start : Side → State
      start side = start_in (system_of p side) v

      abbrev IsReached : Side → ℕ → State → Type 0
      IsReached side l x = (c : ℤ) × Path (system_of p side).edges 0 (start side) c l x

      few_params : (side : Side) → p.new.params ≤ (system_of p side).vars
      few_params New = (formed New).params_first
      few_params Old = let h = (formed Old).params_first in let e = pair.params in omega arith

      same_params : (side : Side) → (system_of p side).params ≡ p.new.params
      same_params New = refl
      same_params Old = sym pair.params

      long_start : (side : Side) → length (start side) ≡ (system_of p side).vars
      long_start side =
          let a = length-append v (replicate ((system_of p side).vars - (system_of p side).params) (pos 0)) in
          let b = length-replicate ((system_of p side).vars - (system_of p side).params) (pos 0) in
          let c = few_params side in
          let d = same_params side in
          let e = input.one_each in
          omega arith

      long : (side : Side) (l : ℕ) (x : State) → IsReached side l x → length x ≡ (system_of p side).vars
      long side l x r = path_length (system_of p side).vars (system_of p side).edges (formed side).edges (long_start side) r.1

      meets : (side : Side) (l : ℕ) (x : State) → IsReached side l x → all_hold (atoms_at p side l) x ≡ true
      meets side l x r = holds side v r.0 l x input r.1

      new_costs : (l m : ℕ) (x y : State) (c : ℤ) → Path p.new.edges l x c m y → m ≡ exit_of p.new → IsReached New l x → of_ℤ c ≤ℚ potential_value p d New φ l x
      new_costs l m x y c here q n = subst (λ i. of_ℤ (pos 0) ≤ℚ potential_value p d New φ i x) (sym q) (left_positive (AtExit New) x tt (long New l x n) (subst (λ i. all_hold (atoms_at p New i) x ≡ true) q (meets New l x n)))
      new_costs l m x y c (along {c = c1} {d = d1} e z a f s r) q n =
          let i = number_of e p.new.edges a in
          let g = subst (λ i. all_hold (atoms_at p New i) x ≡ true) (sym f) (meets New l x n) in
          let u = falls i.0 e i.2 x _ z _ i.1 s (long New l x n) g in
          let v = new_costs e.to m _ y _ r q (one_more p.new.edges 0 l (start New) x n.0 n.1 e z _ _ a f s) in
          subst (λ i. of_ℤ (c1 +ℤ d1) ≤ℚ potential_value p d New φ i x) f (sum_below c1 d1 _ _ u v)

      old_costs : (l m : ℕ) (x y : State) (c : ℤ) → Path p.old.edges l x c m y → m ≡ exit_of p.old → IsReached Old l x → potential_value p d Old χ l x ≤ℚ of_ℤ c
      old_costs l m x y c here q n =
          subst (λ i. potential_value p d Old χ i x ≤ℚ of_ℤ (pos 0)) (sym q) (turned _ (left_positive (AtExit Old) x tt (long Old l x n) (subst (λ i. all_hold (atoms_at p Old i) x ≡ true) q (meets Old l x n))))
      old_costs l m x y c (along {c = c1} {d = d1} e z a f s r) q n =
          let i = number_of e p.old.edges a in
          let g = subst (λ i. all_hold (atoms_at p Old i) x ≡ true) (sym f) (meets Old l x n) in
          let u = holds_up i.0 e i.2 x _ z _ i.1 s (long Old l x n) g in
          let v = old_costs e.to m _ y _ r q (one_more p.old.edges 0 l (start Old) x n.0 n.1 e z _ _ a f s) in
          subst (λ i. potential_value p d Old χ i x ≤ℚ of_ℤ (c1 +ℤ d1)) f (sum_above c1 d1 _ _ u v)

      -- at the start, where the locals are 0
      at_start : (side : Side) (f : Potential) → potential_value p d side f 0 (start side) ≡ potential_value p d side f 0 v
      at_start side f = ap (λ z. dot (made (length (monomials_at p d side)) (f 0)) z) (monos_zeros (monomials_at p d side) v ((system_of p side).vars - (system_of p side).params))

      difference : (c e : ℤ) → RunsAt p.new v c → RunsAt p.old v e → of_ℤ (c -ℤ e) ≤ℚ t
      difference c e r s =
          let u = new_costs 0 _ _ r.0 c r.1 refl (pos 0, here) in
          let w = old_costs 0 _ _ s.0 e s.1 refl (pos 0, here) in
          let n = case_number p.cases v input.allowed in
          let g = left_positive (AtEntry n.0) v n.1 input.one_each n.2 in
          subst (λ z. z ≤ℚ t) (sym (of_minus c e)) (joined (of_ℤ c) (of_ℤ e) _ _ t (subst (λ z. of_ℤ c ≤ℚ z) (at_start New φ) u) (subst (λ z. z ≤ℚ of_ℤ e) (at_start Old χ) w) g)
        where
          joined : (c e f g t : ℚ) → c ≤ℚ f → g ≤ℚ e → NonNegative ((t -ℚ f) +ℚ g) → (c -ℚ e) ≤ℚ t
          joined c e f g t u w h = from₃ u w h (ring (c ∷ e ∷ f ∷ g ∷ t ∷ []) (λ ρ i j k l m. simp (i, j, k, l, m, read_nat ρ, reads) (follows _ (times 1 _ _ ∷ times 1 _ _ ∷ times 1 _ _ ∷ []) _ _ refl)))

          of_minus : (c e : ℤ) → of_ℤ (c -ℤ e) ≡ of_ℤ c -ℚ of_ℤ e
          of_minus c e = of_ℤ-+ℤ c (neg_ℤ e) ∙ ap (λ z. of_ℤ c +ℚ z) (of_ℤ-neg_ℤ e)

both_sides : (p : Pair) → HoldWhereReached p New → HoldWhereReached p Old → (side : Side) → HoldWhereReached p side
both_sides p h g New = h
both_sides p h g Old = g

pub certified_bound_runs : CertifiedBoundRuns
certified_bound_runs p d k t pair h g certified v c e input r s =
    difference p d k t certified.0 certified.1 certified.2 certified.3 pair (both_sides p h g) v input c e r s

-- below the difference itself
pub vacuous_run_nowhere : VacuousRunNowhere
vacuous_run_nowhere p d k pair h g every v c e input r s =
    let t = of_ℤ (c -ℤ e) -ℚ of_ℤ (pos 1) in
    below (of_ℤ (c -ℤ e)) (certified_bound_runs p d k t pair h g (every t) v c e input r s)
