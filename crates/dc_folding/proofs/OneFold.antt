-- What is certified with a location is certified with it folded: the composed edge owes the sum of what the two edges owe, the second
-- one after the first update.
use Rattle.std.specs.Prelude.{◌≡◌, ℕ, ◌+◌, ◌-◌, ◌≤◌, List, [], ◌∷◌, ◌++◌, length, slice_index_or, ℤ, pos, ◌*ℤ◌}
use Rattle.std.specs.List.{AllByRecursion}
use Rattle.std.proofs.Common.{refl, sym, ap, ap₂, ◌∙◌, subst, arith, inl, inr, length-append}
use Rattle.std.proofs.lemmas.List.{length-map, get_or-set_other}
use Rattle.dc_math.specs.Members.{Among, each-weaker, each-++, each_left, each_right, each-map, each_among, among_each, among_at, at_among}
use Rattle.dc_math.specs.Rational.{ℚ, ◌+ℚ◌, ◌-ℚ◌, of_ℤ, of_ℤ-+ℤ}
use Rattle.dc_math.specs.RationalRing.{ring, reads, same_form}
use Rattle.dc_math.specs.Vectors.{dot}
use Rattle.dc_math.specs.Cones.{Cone, cone_add, cone_same}
use Rattle.dc_lp.specs.Tables.{made as row_of}
use Rattle.dc_syntax.specs.declared.tree.Side.TheVariants.{New, Old}
use Rattle.dc_poly.specs.Terms.{Exponents, mono_value, power, value}
use Rattle.dc_poly.specs.Sums.{values, composition_of, places_of}
use Rattle.dc_poly.specs.Monomials.{IsWithin, monomials_of}
use Rattle.dc_poly.proofs.Values.{value-plus, value-composed}
use Rattle.dc_affine.specs.declared.atom.Atom.{Atom}
use Rattle.dc_affine.specs.Atoms.{atom_value}
use Rattle.dc_system.specs.declared.edges.Edge.{Edge}
use Rattle.dc_system.specs.declared.edges.System.{System}
use Rattle.dc_system.specs.Edges.{chosen}
use Rattle.dc_system.specs.Composed.{after, atom_at}
use Rattle.dc_system.specs.Folded.{folded}
use Rattle.dc_system.specs.Shapes.{IsWellFormed}
use Rattle.dc_system.proofs.Folds.{was}
use Rattle.dc_system.proofs.Points.{values-++}
use Rattle.dc_template.specs.Templates.{mono_values, template_value}
use Rattle.dc_template.proofs.Listed.{are_monomials}
use Rattle.dc_template.proofs.Values.{mono_values-longer}
use Rattle.dc_points.specs.Points.{Point, MeetsAt, MeetsAll, IsDead}
use Rattle.dc_families.specs.Graphs.{graph_of}
use Rattle.dc_families.specs.Families.{family_of}
use Rattle.dc_families.specs.Rounds.{MeetsFamily, IsOver, IsInductive}
use Rattle.dc_families.proofs.Tests.{has_among, among_has}
use Rattle.dc_claims.specs.declared.duty.Duty.{Duty}
use Rattle.dc_claims.specs.declared.duty.Duty.TheVariants.{Along, AtExit, AtEntry}
use Rattle.dc_claims.specs.Duties.{Pair, no_edge, edge_at, IsOwed}
use Rattle.dc_claims.specs.Claims.{Potential, potential_value, fall, price}
use Rattle.dc_folding.specs.Folds.{IsFoldable, lists_without, pair_without}
use Rattle.dc_folding.specs.Laws.{OneFold}
use Rattle.dc_folding.proofs.Products.{one, products, products_after}
use Rattle.dc_folding.proofs.Choices.{atom_values}
use Rattle.dc_folding.proofs.Entailed.{entailed_sum}
use Rattle.dc_folding.proofs.DutySums.{StateOf, state, IsSum, IsSumAt, met_sum, sums_certify}
use Rattle.dc_folding.proofs.Stronger.{Gives, gives_dead, stronger_sum}
use Rattle.dc_folding.proofs.Moved.{moved, moved_meets, value_moved, update_is}
use Rattle.dc_folding.proofs.Induction as fold

-- ---- potentials do not see the chosen value
-- the value of a potential of degree d over n variables
abbrev pub potential : ℕ → ℕ → Potential → ℕ → List ℤ → ℚ
potential n d f k x = template_value (row_of (length (monomials_of n d)) (f k)) (monomials_of n d) x

potential_more : (n d : ℕ) (f : Potential) (k : ℕ) (x y : List ℤ) → length x ≡ n → potential n d f k (x ++ y) ≡ potential n d f k x
potential_more n d f k x y l =
    ap (dot (row_of (length (monomials_of n d)) (f k)))
    (mono_values-longer (monomials_of n d) x y (each-weaker (IsWithin n d) (λ m. length m ≤ length x) (λ m h. let e = h.places in omega arith) (monomials_of n d) (are_monomials n d).only))

abbrev paid : Edge → List ℤ → ℚ
paid e x = of_ℤ (value e.cost.terms x)

-- ---- one side
module _ (s : System) (l : ℕ) (c : Edge) (w : IsWellFormed s) (h : IsFoldable s l c) where
  abbrev n : ℕ
  n = s.vars

  abbrev first : Edge
  first = fold.first s l c w h

  abbrev second : Edge
  second = fold.second s l c w h

  abbrev next : List ℤ → List ℤ
  next y = values (after n first) y

  next_length : (y : List ℤ) → length (next y) ≡ n + 1
  next_length y = length-map (after n first) _ ∙ length-append first.update (chosen n ∷ []) ∙ ap (λ k. k + 1) (fold.first_edge s l c w h).one_each

  price_is : (y : List ℤ) → paid c y ≡ paid first y +ℚ paid second (next y)
  price_is y =
      ap (λ (g : Edge). of_ℤ (value g.cost.terms y)) (fold.made s l c w h).is
      ∙ ap of_ℤ (value-plus first.cost.terms (composition_of second.cost (after n first)).terms y) ∙ of_ℤ-+ℤ _ _
      ∙ ap (λ v. paid first y +ℚ of_ℤ v) (value-composed (places_of (after n first)) second.cost.terms (after n first) y)

  module _ (d : ℕ) (f : Potential) where
    abbrev at_state : ℕ → List ℤ → ℚ
    at_state k x = potential n d f k x

    starts_same : (y : List ℤ) → at_state c.from y ≡ at_state first.from y
    starts_same y = ap (λ k. at_state k y) (fold.starts s l c w h)

    ends_same : (y : List ℤ) → at_state c.to (values c.update y) ≡ at_state second.to (values second.update (next y))
    ends_same y =
        ap (λ k. at_state k (values c.update y)) (fold.ends s l c w h)
        ∙ ap (at_state second.to) (update_is n first second c (fold.first_edge s l c w h) (fold.second_edge s l c w h) (fold.whole_edge s l c w h) (fold.made s l c w h) y)

    between_same : (y : List ℤ) → at_state first.to (values first.update y) ≡ at_state second.from (next y)
    between_same y =
        ap (λ k. at_state k (values first.update y)) (fold.goes_in s l c w h ∙ sym (fold.goes_out s l c w h))
        ∙ sym (potential_more n d f second.from (values first.update y) (values (chosen n ∷ []) y) (length-map first.update _ ∙ (fold.first_edge s l c w h).one_each))
        ∙ ap (at_state second.from) (sym (values-++ first.update (chosen n ∷ []) y))

  module _ (lists : List (List Atom)) (cases : List (List Atom)) (over : IsOver s.vars (family_of lists)) (inductive : IsInductive (graph_of s) cases (family_of lists)) where
    abbrev here : ℕ → List Atom
    here k = slice_index_or lists k []

    abbrev atoms : Edge → List Atom
    atoms e = here e.from ++ e.guard

    -- the atoms of the source and the composed guard
    abbrev both : List Atom
    both = here first.from ++ c.guard

    gives_first : Gives both (atoms first)
    gives_first p m =
        each-++ (MeetsAt p) (here first.from) first.guard (each_left (MeetsAt p) (here first.from) c.guard m)
        (fold.first_guard s l c w h p (each_right (MeetsAt p) (here first.from) c.guard m))

    to_family : (k : ℕ) (p : Point) → MeetsAll p (here k) → MeetsFamily (family_of lists) k p
    to_family k p m = record { each = λ a j. each_among (MeetsAt p) m (has_among (here k) a j) }

    from_family : (k : ℕ) (p : Point) → MeetsFamily (family_of lists) k p → MeetsAll p (here k)
    from_family k p m = among_each (MeetsAt p) (here k) (λ a j. m.each a (among_has a (here k) j))

    gives_second : (p : Point) → MeetsAll p both → MeetsAll (moved n first p) (atoms second)
    gives_second p m =
        let g = each_right (MeetsAt p) (here first.from) c.guard m in
        let b = fold.between s l c w h cases (family_of lists) over inductive p (to_family first.from p (each_left (MeetsAt p) (here first.from) c.guard m)) (fold.first_guard s l c w h p g) in
        each-++ (MeetsAt (moved n first p)) (here second.from) second.guard
        (subst (λ k. MeetsAll (moved n first p) (here k)) (sym (fold.goes_out s l c w h)) (from_family l (moved n first p) b))
        (fold.second_guard s l c w h p g)

    second_live : ¬ IsDead both → ¬ IsDead (atoms second)
    second_live live e = live (λ p m. e (moved n first p) (gives_second p m))

    -- an atom of the second edge, at the state after the first one
    after_sum : ¬ IsDead both → (a : Atom) → ((p : Point) → MeetsAll p both → MeetsAt (moved n first p) a)
        → Cone (one ∷ atom_values (state (n + 1)) both) (λ y. of_ℤ (atom_value a (next y.0)))
    after_sum live a g =
        cone_same (one ∷ atom_values (state (n + 1)) both) (λ y. of_ℤ (atom_value (atom_at (n + 1) a (after n first)) y.0)) (λ y. of_ℤ (atom_value a (next y.0)))
        (λ y. ap of_ℤ (value_moved n first second c (fold.first_edge s l c w h) (fold.second_edge s l c w h) (fold.whole_edge s l c w h) (fold.made s l c w h) a y.0))
        (entailed_sum (state (n + 1)) both (atom_at (n + 1) a (after n first)) live (λ p m. moved_meets n first p a (g p m)))

    each_after : ¬ IsDead both → (as' : List Atom) → ((p : Point) → MeetsAll p both → MeetsAll (moved n first p) as')
        → AllByRecursion (λ a. Cone (one ∷ atom_values (state (n + 1)) both) (λ y. of_ℤ (atom_value a (next y.0)))) as'
    each_after live [] g = tt
    each_after live (a ∷ rest) g = (after_sum live a (λ p m. (g p m).0), each_after live rest (λ p m. (g p m).1))

    move : StateOf (n + 1) → StateOf (n + 1)
    move y = (next y.0, next_length y.0)

    module _ (k : ℕ) (left : Edge → List ℤ → ℚ) (adds : (y : List ℤ) → left c y ≡ left first y +ℚ left second (next y)) where
      abbrev pub Sum : List Atom → Edge → Type 0
      Sum hyps e = IsSum (n + 1) hyps k (left e)

      second_sum : ¬ IsDead both → Sum (atoms second) second → IsSum (n + 1) both k (λ y. left second (next y))
      unfolding move
      second_sum live b =
          products_after move (atom_values (state (n + 1)) both) (atom_values (state (n + 1)) (atoms second))
          (each-map (λ f. Cone (one ∷ atom_values (state (n + 1)) both) (λ y. f (move y))) (λ a x. of_ℤ (atom_value a (state (n + 1) x))) (atoms second)
          (each_after live (atoms second) gives_second))
          k (λ x. left second x.0) b

      whole_sum : ¬ IsDead both → Sum (atoms first) first → Sum (atoms second) second → Sum both c
      whole_sum live a b =
          cone_same (products (atom_values (state (n + 1)) both) k) (λ y. left first y.0 +ℚ left second (next y.0)) (λ y. left c y.0) (λ y. sym (adds y.0))
          (cone_add (products (atom_values (state (n + 1)) both) k) (λ y. left first y.0) (λ y. left second (next y.0))
          (stronger_sum (n + 1) both (atoms first) k (left first) live gives_first a) (second_sum live b))

      -- each edge of the folded system
      module _ (sums : (e : Edge) → Among e s.edges → ¬ IsDead (atoms e) → Sum (atoms e) e) where
        abbrev atoms_now : Edge → List Atom
        atoms_now e = slice_index_or (lists_without l lists) e.from [] ++ e.guard

        still : (e : Edge) → (e.from ≡ l → ⊥) → atoms_now e ≡ atoms e
        still e f = ap (λ xs. xs ++ e.guard) (get_or-set_other lists l e.from [] [] f)

        composed_sum : ¬ IsDead (atoms_now c) → Sum (atoms_now c) c
        composed_sum live =
            let e : atoms_now c ≡ both = still c (λ q. (fold.J s l c w h).no_loop_in (sym (fold.starts s l c w h) ∙ q)) ∙ ap (λ k. here k ++ c.guard) (fold.starts s l c w h) in
            let v : ¬ IsDead both = λ x. live (subst IsDead (sym e) x) in
            subst (λ hyps. Sum hyps c) (sym e)
            (whole_sum v
            (sums first (fold.first_among s l c w h) (λ x. v (gives_dead both (atoms first) gives_first x)))
            (sums second (fold.second_among s l c w h) (second_live v)))

        pub folded_sums : (e : Edge) → Among e (folded l c s.edges) → ¬ IsDead (atoms_now e) → Sum (atoms_now e) e
        folded_sums e m live = elim (was s.vars (s.locs - 1) l s.edges c (fold.J s l c w h) e m) [
          | inl q ↦ subst (λ e. ¬ IsDead (atoms_now e) → Sum (atoms_now e) e) (sym q) composed_sum live
          | inr o ↦ subst (λ hyps. Sum hyps e) (sym (still e o.2)) (sums e o.0 (λ x. live (subst IsDead (sym (still e o.2)) x)))
        ]

-- ---- both sides
new_adds : (a a' b b' m m' c c' e : ℚ) → a ≡ a' → b ≡ b' → m ≡ m' → c ≡ c' +ℚ e → (a -ℚ b) -ℚ c ≡ ((a' -ℚ m) -ℚ c') +ℚ ((m' -ℚ b') -ℚ e)
new_adds a a' b b' m m' c c' e f g h i =
    rw (f, g, h, i) (ring (a' ∷ b' ∷ m' ∷ c' ∷ e ∷ []) (λ ρ j k l o q. simp (j, k, l, o, q, reads) (same_form _ _ _ refl)))

old_adds : (a a' b b' m m' c c' e : ℚ) → a ≡ a' → b ≡ b' → m ≡ m' → c ≡ c' +ℚ e → c -ℚ (a -ℚ b) ≡ (c' -ℚ (a' -ℚ m)) +ℚ (e -ℚ (m' -ℚ b'))
old_adds a a' b b' m m' c c' e f g h i =
    rw (f, g, h, i) (ring (a' ∷ b' ∷ m' ∷ c' ∷ e ∷ []) (λ ρ j k l o q. simp (j, k, l, o, q, reads) (same_form _ _ _ refl)))

module _ (p : Pair) (d k : ℕ) (t : ℚ) (φ χ : Potential) (sums : (o : Duty) → IsOwed p o → IsSumAt p d k t φ χ o) where
  module _ (l : ℕ) (c : Edge) (w : IsWellFormed p.new) (over : IsOver p.new.vars (family_of p.new_atoms)) (h : IsFoldable p.new l c) (i : IsInductive (graph_of p.new) p.cases (family_of p.new_atoms)) where
    abbrev new_left : Edge → List ℤ → ℚ
    new_left e x = fall p d New φ e x -ℚ price p d e x

    new_sums : (e : Edge) → Among e p.new.edges → ¬ IsDead (slice_index_or p.new_atoms e.from [] ++ e.guard) → IsSum (p.new.vars + 1) (slice_index_or p.new_atoms e.from [] ++ e.guard) k (new_left e)
    new_sums e m live =
        let r = among_at e no_edge p.new.edges m in
        subst (λ e. ¬ IsDead (slice_index_or p.new_atoms e.from [] ++ e.guard) → IsSum (p.new.vars + 1) (slice_index_or p.new_atoms e.from [] ++ e.guard) k (new_left e)) r.2
        (λ live. sums (Along New r.0) (record { there = r.1; live = live })) live

    new_fold : (o : Duty) → IsOwed (pair_without New l c p) o → IsSumAt (pair_without New l c p) d k t φ χ o
    new_fold (Along New j) v =
        folded_sums p.new l c w h p.new_atoms p.cases over i k new_left
        (λ y. new_adds _ _ _ _ _ _ _ _ _ (starts_same p.new l c w h d φ y) (ends_same p.new l c w h d φ y) (between_same p.new l c w h d φ y) (price_is p.new l c w h y))
        new_sums (edge_at (pair_without New l c p).new j) (at_among no_edge (folded l c p.new.edges) j v.there) v.live
    new_fold (Along Old j) v = sums (Along Old j) (record { there = v.there; live = v.live })
    new_fold (AtExit New) v =
        let e = get_or-set_other p.new_atoms l (p.new.locs - 1) [] [] (λ q. (fold.J p.new l c w h).not_exit (sym q)) in
        subst (λ hyps. IsSum p.new.vars hyps k (λ x. potential_value p d New φ (p.new.locs - 1) x)) (sym e)
        (sums (AtExit New) (record { there = tt; live = λ x. v.live (subst IsDead (sym e) x) }))
    new_fold (AtExit Old) v = sums (AtExit Old) (record { there = v.there; live = v.live })
    new_fold (AtEntry j) v = sums (AtEntry j) (record { there = v.there; live = v.live })

  module _ (l : ℕ) (c : Edge) (w : IsWellFormed p.old) (over : IsOver p.old.vars (family_of p.old_atoms)) (h : IsFoldable p.old l c) (i : IsInductive (graph_of p.old) p.cases (family_of p.old_atoms)) where
    abbrev old_left : Edge → List ℤ → ℚ
    old_left e x = price p d e x -ℚ fall p d Old χ e x

    old_sums : (e : Edge) → Among e p.old.edges → ¬ IsDead (slice_index_or p.old_atoms e.from [] ++ e.guard) → IsSum (p.old.vars + 1) (slice_index_or p.old_atoms e.from [] ++ e.guard) k (old_left e)
    old_sums e m live =
        let r = among_at e no_edge p.old.edges m in
        subst (λ e. ¬ IsDead (slice_index_or p.old_atoms e.from [] ++ e.guard) → IsSum (p.old.vars + 1) (slice_index_or p.old_atoms e.from [] ++ e.guard) k (old_left e)) r.2
        (λ live. sums (Along Old r.0) (record { there = r.1; live = live })) live

    old_fold : (o : Duty) → IsOwed (pair_without Old l c p) o → IsSumAt (pair_without Old l c p) d k t φ χ o
    old_fold (Along Old j) v =
        folded_sums p.old l c w h p.old_atoms p.cases over i k old_left
        (λ y. old_adds _ _ _ _ _ _ _ _ _ (starts_same p.old l c w h d χ y) (ends_same p.old l c w h d χ y) (between_same p.old l c w h d χ y) (price_is p.old l c w h y))
        old_sums (edge_at (pair_without Old l c p).old j) (at_among no_edge (folded l c p.old.edges) j v.there) v.live
    old_fold (Along New j) v = sums (Along New j) (record { there = v.there; live = v.live })
    old_fold (AtExit Old) v =
        let e = get_or-set_other p.old_atoms l (p.old.locs - 1) [] [] (λ q. (fold.J p.old l c w h).not_exit (sym q)) in
        subst (λ hyps. IsSum p.old.vars hyps k (λ x. of_ℤ (pos 0) -ℚ potential_value p d Old χ (p.old.locs - 1) x)) (sym e)
        (sums (AtExit Old) (record { there = tt; live = λ x. v.live (subst IsDead (sym e) x) }))
    old_fold (AtExit New) v = sums (AtExit New) (record { there = v.there; live = v.live })
    old_fold (AtEntry j) v = sums (AtEntry j) (record { there = v.there; live = v.live })

pub one_fold : OneFold
one_fold p d k New l c t s h (φ, χ, multipliers, m) =
    sums_certify (pair_without New l c p) d k t φ χ (new_fold p d k t φ χ (λ o v. met_sum p d k t φ χ multipliers o (m.meets o v)) l c s.formed s.over h s.inductive)
one_fold p d k Old l c t s h (φ, χ, multipliers, m) =
    sums_certify (pair_without Old l c p) d k t φ χ (old_fold p d k t φ χ (λ o v. met_sum p d k t φ χ multipliers o (m.meets o v)) l c s.formed s.over h s.inductive)
