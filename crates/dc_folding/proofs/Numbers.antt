-- New numbers for the locations that are left change nothing that is certified or inductive.
use Rattle.std.specs.Prelude.{◌≡◌, ℕ, ◌+◌, ◌-◌, ◌<◌, Bool, true, false, eqb, if◌then◌else◌, List, [], ◌∷◌, ◌++◌, map, length, slice_index_or, ℤ, pos}
use Rattle.std.proofs.Common.{refl, sym, ap, ap₂, ◌∙◌, subst, arith, inl, inr}
use Rattle.std.proofs.lemmas.Bool.{cases_lt, eqb-true, eqb-false}
use Rattle.std.proofs.lemmas.List.FromFn.{length-map-range_with_len, get_or-map-range_with_len}
use Rattle.dc_math.specs.Members.{Among, head, tail, among_cons, Mapped, mapped_among, among_at, at_among}
use Rattle.dc_math.specs.Rational.{ℚ, ◌+ℚ◌, ◌-ℚ◌, of_ℤ}
use Rattle.dc_math.specs.Cones.{cone_same}
use Rattle.dc_lp.specs.Tables.{made}
use Rattle.dc_syntax.specs.declared.tree.Side.{Side}
use Rattle.dc_syntax.specs.declared.tree.Side.TheVariants.{New, Old}
use Rattle.dc_poly.specs.Sums.{values}
use Rattle.dc_affine.specs.declared.atom.Atom.{Atom}
use Rattle.dc_system.specs.declared.edges.Edge.{Edge}
use Rattle.dc_system.specs.declared.edges.System.{System}
use Rattle.dc_system.specs.Folded.{number_in, renumbered}
use Rattle.dc_system.specs.Spots.{Net}
use Rattle.dc_system.proofs.Filters.{number_rises, number_same, number_none, last_number}
use Rattle.dc_system.specs.After.{is_affine_after, atom_after}
use Rattle.dc_points.specs.Points.{Point, MeetsAt, MeetsAll, IsDead}
use Rattle.dc_families.specs.Graphs.{graph_of}
use Rattle.dc_families.specs.Families.{has_atom, family_of}
use Rattle.dc_families.specs.Rounds.{MeetsFamily, IsInductive}
use Rattle.dc_families.proofs.Lists.{differ, past_none}
use Rattle.dc_claims.specs.declared.duty.Duty.{Duty}
use Rattle.dc_claims.specs.declared.duty.Duty.TheVariants.{Along, AtExit, AtEntry}
use Rattle.dc_claims.specs.Duties.{Pair, no_edge, edge_at, IsOwed}
use Rattle.dc_claims.specs.Claims.{Potential, potential_value, fall, price, IsCertified}
use Rattle.dc_folding.proofs.Products.{products}
use Rattle.dc_folding.proofs.Choices.{atom_values}
use Rattle.dc_folding.proofs.DutySums.{state, IsSum, IsSumAt, met_sum, sums_certify}

module _ (s : System) (left : List ℕ) (net : Net s.vars (s.locs - 1) left s.edges) where
  abbrev pub numbered : System
  numbered = record { vars = s.vars; params = s.params; locs = length left; edges = map (renumbered left) s.edges; literals = s.literals }

  pub below_length : (k : ℕ) → Among k left → number_in left k < length left
  below_length k m =
      let o = last_number left (s.locs - 1) net.last in
      let r = number_rises left k (s.locs - 1) (net.last.greatest k m) in
      omega arith

  -- ---- what stood at the location that has a number now
  old_location : List ℕ → ℕ → ℕ
  old_location [] m = 0
  old_location (k ∷ ks) m = if eqb (number_in left k) m then k else old_location ks m

  old_location_is : (ks : List ℕ) → ((j : ℕ) → Among j ks → Among j left) → (k : ℕ) → Among k ks → old_location ks (number_in left k) ≡ k
  unfolding old_location
  old_location_is [] f k m = elim m [ ]
  old_location_is (j ∷ ks) f k m = by (λ n. old_location_is ks (λ i n. f i (tail n)) k n) (eqb (number_in left j) (number_in left k)) refl m
    where
      by : (Among k ks → old_location ks (number_in left k) ≡ k) → (b : Bool) → eqb (number_in left j) (number_in left k) ≡ b → Among k (j ∷ ks) → (if b then j else old_location ks (number_in left k)) ≡ k
      by g true q m = number_same left j k (f j head) (f k m) (eqb-true _ _ q)
      by g false q m = elim (among_cons m) [
        | inl e ↦ absurd (eqb-false _ _ q (ap (number_in left) (sym e)))
        | inr n ↦ g n
      ]

  pub location_before : ℕ → ℕ
  location_before m = old_location left m

  pub location_before_is : (k : ℕ) → Among k left → location_before (number_in left k) ≡ k
  unfolding location_before
  location_before_is k m = old_location_is left (λ j n. n) k m

  pub entry_before : location_before 0 ≡ 0
  entry_before = subst (λ m. location_before m ≡ 0) (number_none left) (location_before_is 0 net.entry)

  exit_number : length left - 1 ≡ number_in left (s.locs - 1)
  exit_number = let o = last_number left (s.locs - 1) net.last in omega arith

  pub exit_before : location_before (length left - 1) ≡ s.locs - 1
  exit_before = ap location_before exit_number ∙ location_before_is (s.locs - 1) net.exit

  module _ (lists : List (List Atom)) where
    atoms_for : List ℕ → ℕ → List Atom
    atoms_for [] m = []
    atoms_for (k ∷ ks) m = if eqb (number_in left k) m then slice_index_or lists k [] else atoms_for ks m

    pub lists_now : List (List Atom)
    lists_now = made (length left) (atoms_for left)

    atoms_are : (ks : List ℕ) → ((j : ℕ) → Among j ks → Among j left) → (k : ℕ) → Among k ks → atoms_for ks (number_in left k) ≡ slice_index_or lists k []
    unfolding atoms_for
    atoms_are [] f k m = elim m [ ]
    atoms_are (j ∷ ks) f k m = by (λ n. atoms_are ks (λ i n. f i (tail n)) k n) (eqb (number_in left j) (number_in left k)) refl m
      where
        by : (Among k ks → atoms_for ks (number_in left k) ≡ slice_index_or lists k []) → (b : Bool) → eqb (number_in left j) (number_in left k) ≡ b → Among k (j ∷ ks) → (if b then slice_index_or lists j [] else atoms_for ks (number_in left k)) ≡ slice_index_or lists k []
        by g true q m = ap (λ i. slice_index_or lists i []) (number_same left j k (f j head) (f k m) (eqb-true _ _ q))
        by g false q m = elim (among_cons m) [
          | inl e ↦ absurd (eqb-false _ _ q (ap (number_in left) (sym e)))
          | inr n ↦ g n
        ]

    -- an atom that stands at a number stood at the location that has it
    pub record Stood (m : ℕ) (a : Atom) : Type 0 where
      pub location : ℕ
      pub stays : Among location left
      pub number : number_in left location ≡ m
      pub has : has_atom (slice_index_or lists location []) a ≡ true

    atoms_from : (ks : List ℕ) → ((j : ℕ) → Among j ks → Among j left) → (m : ℕ) (a : Atom) → has_atom (atoms_for ks m) a ≡ true → Stood m a
    unfolding atoms_for
    atoms_from [] f m a t = differ (sym t)
    atoms_from (j ∷ ks) f m a t = by (λ t. atoms_from ks (λ i n. f i (tail n)) m a t) (eqb (number_in left j) m) refl t
      where
        by : (has_atom (atoms_for ks m) a ≡ true → Stood m a) → (b : Bool) → eqb (number_in left j) m ≡ b → has_atom (if b then slice_index_or lists j [] else atoms_for ks m) a ≡ true → Stood m a
        by g true q t = record { location = j; stays = f j head; number = eqb-true _ _ q; has = t }
        by g false q t = g t

    at_number : (m : ℕ) → m < length left → slice_index_or lists_now m [] ≡ atoms_for left m
    unfolding lists_now
    at_number m h = get_or-map-range_with_len (atoms_for left) 0 (length left) m m [] h (omega arith)

    pub now_are : (k : ℕ) → Among k left → slice_index_or lists_now (number_in left k) [] ≡ slice_index_or lists k []
    now_are k m = at_number (number_in left k) (below_length k m) ∙ atoms_are left (λ j n. n) k m

    pub exit_now : slice_index_or lists_now (length left - 1) [] ≡ slice_index_or lists (s.locs - 1) []
    exit_now = ap (λ m. slice_index_or lists_now m []) exit_number ∙ now_are (s.locs - 1) net.exit

    now_long : length lists_now ≡ length left
    unfolding lists_now
    now_long = length-map-range_with_len (atoms_for left) 0 (length left)

    pub stood : (m : ℕ) (a : Atom) → has_atom (slice_index_or lists_now m []) a ≡ true → Stood m a
    stood m a t = elim (cases_lt m (length left)) [
      | inl h ↦ atoms_from left (λ j n. n) m a (subst (λ xs. has_atom xs a ≡ true) (at_number m h) t)
      | inr h ↦ differ (sym (subst (λ xs. has_atom xs a ≡ true) (past_none lists_now m [] (let e = now_long in omega arith)) t))
    ]

    -- ---- induction
    module _ (cases : List (List Atom)) (inductive : IsInductive (graph_of s) cases (family_of lists)) where
      before : (k : ℕ) (p : Point) → Among k left → MeetsFamily (family_of lists_now) (number_in left k) p → MeetsFamily (family_of lists) k p
      before k p m f = record { each = λ a j. f.each a (ap (λ xs. has_atom xs a) (now_are k m) ∙ j) }

      pub numbered_inductive : IsInductive (graph_of numbered) cases (family_of lists_now)
      numbered_inductive m a t =
          let o = stood m a t in
          let g = inductive o.location a o.has in
          record {
            entry = λ e. g.entry (number_same left o.location 0 o.stays net.entry (o.number ∙ e ∙ sym (number_none left)));
            edges = λ e i q p f h.
                let u = mapped_among (renumbered left) s.edges i in
                let b = net.between u.of u.among in
                let to : u.of.to ≡ o.location = number_same left u.of.to o.location b.1 o.stays (ap (λ (x : Edge). x.to) (sym u.is) ∙ q ∙ sym o.number) in
                let r = g.edges u.of u.among to p
                (before u.of.from p b.0 (subst (λ (x : Edge). MeetsFamily (family_of lists_now) x.from p) u.is f))
                (subst (λ (x : Edge). MeetsAll p x.guard) u.is h) in
                subst (λ (x : Edge). (is_affine_after x a.coefs ≡ true) × MeetsAt p (atom_after s.vars x a)) (sym u.is) r;
          }

    -- ---- what is owed along the edges
    module _ (k : ℕ) (owes owes_now : Edge → List ℤ → ℚ) (same : (e : Edge) → Among e s.edges → (x : List ℤ) → owes e x ≡ owes_now (renumbered left e) x)
        (sums : (e : Edge) → Among e s.edges → ¬ IsDead (slice_index_or lists e.from [] ++ e.guard) → IsSum (s.vars + 1) (slice_index_or lists e.from [] ++ e.guard) k (owes e)) where
      pub numbered_sums : (e : Edge) → Among e (map (renumbered left) s.edges) → ¬ IsDead (slice_index_or lists_now e.from [] ++ e.guard)
          → IsSum (s.vars + 1) (slice_index_or lists_now e.from [] ++ e.guard) k (owes_now e)
      numbered_sums e i = by (mapped_among (renumbered left) s.edges i)
        where
          old : (f : Edge) → Among f s.edges → ¬ IsDead (slice_index_or lists_now (number_in left f.from) [] ++ f.guard)
              → IsSum (s.vars + 1) (slice_index_or lists_now (number_in left f.from) [] ++ f.guard) k (owes_now (renumbered left f))
          old f m live =
              let q : slice_index_or lists_now (number_in left f.from) [] ++ f.guard ≡ slice_index_or lists f.from [] ++ f.guard = ap (λ xs. xs ++ f.guard) (now_are f.from (net.between f m).0) in
              subst (λ hyps. IsSum (s.vars + 1) hyps k (owes_now (renumbered left f))) (sym q)
              (cone_same (products (atom_values (state (s.vars + 1)) (slice_index_or lists f.from [] ++ f.guard)) k) (λ x. owes f x.0) (λ x. owes_now (renumbered left f) x.0) (λ x. same f m x.0)
              (sums f m (λ x. live (subst IsDead (sym q) x))))

          by : Mapped (renumbered left) e s.edges → ¬ IsDead (slice_index_or lists_now e.from [] ++ e.guard) → IsSum (s.vars + 1) (slice_index_or lists_now e.from [] ++ e.guard) k (owes_now e)
          by u = subst (λ (x : Edge). ¬ IsDead (slice_index_or lists_now x.from [] ++ x.guard) → IsSum (s.vars + 1) (slice_index_or lists_now x.from [] ++ x.guard) k (owes_now x)) (sym u.is) (old u.of u.among)

-- ---- both sides
abbrev pub with_side : Side → System → List (List Atom) → Pair → Pair
with_side New s atoms p = record { new = s; new_atoms = atoms; old = p.old; old_atoms = p.old_atoms; cases = p.cases }
with_side Old s atoms p = record { new = p.new; new_atoms = p.new_atoms; old = s; old_atoms = atoms; cases = p.cases }

-- the potential of the locations before
abbrev renamed : (ℕ → ℕ) → Potential → Potential
renamed before f m = f (before m)

module _ (p : Pair) (d k : ℕ) (t : ℚ) (φ χ : Potential) (sums : (o : Duty) → IsOwed p o → IsSumAt p d k t φ χ o) (left : List ℕ) where
  module _ (net : Net p.new.vars (p.new.locs - 1) left p.new.edges) where
    abbrev new_pair : Pair
    new_pair = with_side New (numbered p.new left net) (lists_now p.new left net p.new_atoms) p

    abbrev new_potential : Potential
    new_potential = renamed (location_before p.new left net) φ

    new_same : (e : Edge) → Among e p.new.edges → (x : List ℤ)
        → fall p d New φ e x -ℚ price p d e x ≡ fall new_pair d New new_potential (renumbered left e) x -ℚ price new_pair d (renumbered left e) x
    new_same e m x =
        ap₂ (λ i j. (potential_value p d New φ i x -ℚ potential_value p d New φ j (values e.update x)) -ℚ price p d e x)
        (sym (location_before_is p.new left net e.from (net.between e m).0)) (sym (location_before_is p.new left net e.to (net.between e m).1))

    new_sums : (e : Edge) → Among e p.new.edges → ¬ IsDead (slice_index_or p.new_atoms e.from [] ++ e.guard)
        → IsSum (p.new.vars + 1) (slice_index_or p.new_atoms e.from [] ++ e.guard) k (λ x. fall p d New φ e x -ℚ price p d e x)
    new_sums e m live =
        let r = among_at e no_edge p.new.edges m in
        subst (λ e. ¬ IsDead (slice_index_or p.new_atoms e.from [] ++ e.guard) → IsSum (p.new.vars + 1) (slice_index_or p.new_atoms e.from [] ++ e.guard) k (λ x. fall p d New φ e x -ℚ price p d e x)) r.2
        (λ live. sums (Along New r.0) (record { there = r.1; live = live })) live

    new_numbered : (o : Duty) → IsOwed new_pair o → IsSumAt new_pair d k t new_potential χ o
    new_numbered (Along New j) v =
        numbered_sums p.new left net p.new_atoms k (λ e x. fall p d New φ e x -ℚ price p d e x) (λ e x. fall new_pair d New new_potential e x -ℚ price new_pair d e x) new_same new_sums
        (edge_at new_pair.new j) (at_among no_edge (map (renumbered left) p.new.edges) j v.there) v.live
    new_numbered (Along Old j) v = sums (Along Old j) (record { there = v.there; live = v.live })
    new_numbered (AtExit New) v =
        let e = exit_now p.new left net p.new_atoms in
        subst (λ hyps. IsSum p.new.vars hyps k (λ x. potential_value new_pair d New new_potential (length left - 1) x)) (sym e)
        (subst (λ i. IsSum p.new.vars (slice_index_or p.new_atoms (p.new.locs - 1) []) k (λ x. potential_value p d New φ i x)) (sym (exit_before p.new left net))
        (sums (AtExit New) (record { there = tt; live = λ x. v.live (subst IsDead (sym e) x) })))
    new_numbered (AtExit Old) v = sums (AtExit Old) (record { there = v.there; live = v.live })
    new_numbered (AtEntry j) v =
        subst (λ i. IsSum p.new.params (slice_index_or p.cases j []) k (λ x. t -ℚ potential_value p d New φ i x +ℚ potential_value p d Old χ 0 x)) (sym (entry_before p.new left net))
        (sums (AtEntry j) (record { there = v.there; live = v.live }))

  module _ (net : Net p.old.vars (p.old.locs - 1) left p.old.edges) where
    abbrev old_pair : Pair
    old_pair = with_side Old (numbered p.old left net) (lists_now p.old left net p.old_atoms) p

    abbrev old_potential : Potential
    old_potential = renamed (location_before p.old left net) χ

    old_same : (e : Edge) → Among e p.old.edges → (x : List ℤ)
        → price p d e x -ℚ fall p d Old χ e x ≡ price old_pair d (renumbered left e) x -ℚ fall old_pair d Old old_potential (renumbered left e) x
    old_same e m x =
        ap₂ (λ i j. price p d e x -ℚ (potential_value p d Old χ i x -ℚ potential_value p d Old χ j (values e.update x)))
        (sym (location_before_is p.old left net e.from (net.between e m).0)) (sym (location_before_is p.old left net e.to (net.between e m).1))

    old_sums : (e : Edge) → Among e p.old.edges → ¬ IsDead (slice_index_or p.old_atoms e.from [] ++ e.guard)
        → IsSum (p.old.vars + 1) (slice_index_or p.old_atoms e.from [] ++ e.guard) k (λ x. price p d e x -ℚ fall p d Old χ e x)
    old_sums e m live =
        let r = among_at e no_edge p.old.edges m in
        subst (λ e. ¬ IsDead (slice_index_or p.old_atoms e.from [] ++ e.guard) → IsSum (p.old.vars + 1) (slice_index_or p.old_atoms e.from [] ++ e.guard) k (λ x. price p d e x -ℚ fall p d Old χ e x)) r.2
        (λ live. sums (Along Old r.0) (record { there = r.1; live = live })) live

    old_numbered : (o : Duty) → IsOwed old_pair o → IsSumAt old_pair d k t φ old_potential o
    old_numbered (Along Old j) v =
        numbered_sums p.old left net p.old_atoms k (λ e x. price p d e x -ℚ fall p d Old χ e x) (λ e x. price old_pair d e x -ℚ fall old_pair d Old old_potential e x) old_same old_sums
        (edge_at old_pair.old j) (at_among no_edge (map (renumbered left) p.old.edges) j v.there) v.live
    old_numbered (Along New j) v = sums (Along New j) (record { there = v.there; live = v.live })
    old_numbered (AtExit Old) v =
        let e = exit_now p.old left net p.old_atoms in
        subst (λ hyps. IsSum p.old.vars hyps k (λ x. of_ℤ (pos 0) -ℚ potential_value old_pair d Old old_potential (length left - 1) x)) (sym e)
        (subst (λ i. IsSum p.old.vars (slice_index_or p.old_atoms (p.old.locs - 1) []) k (λ x. of_ℤ (pos 0) -ℚ potential_value p d Old χ i x)) (sym (exit_before p.old left net))
        (sums (AtExit Old) (record { there = tt; live = λ x. v.live (subst IsDead (sym e) x) })))
    old_numbered (AtExit New) v = sums (AtExit New) (record { there = v.there; live = v.live })
    old_numbered (AtEntry j) v =
        subst (λ i. IsSum p.new.params (slice_index_or p.cases j []) k (λ x. t -ℚ potential_value p d New φ 0 x +ℚ potential_value p d Old χ i x)) (sym (entry_before p.old left net))
        (sums (AtEntry j) (record { there = v.there; live = v.live }))

-- what is certified is certified with the new numbers
pub new_renumbered : (p : Pair) (d k : ℕ) (t : ℚ) (left : List ℕ) (net : Net p.new.vars (p.new.locs - 1) left p.new.edges) → IsCertified p d k t
    → IsCertified (with_side New (numbered p.new left net) (lists_now p.new left net p.new_atoms) p) d k t
new_renumbered p d k t left net (φ, χ, multipliers, m) =
    sums_certify (new_pair p d k t φ χ sums left net) d k t (renamed (location_before p.new left net) φ) χ (new_numbered p d k t φ χ sums left net)
  where
    sums : (o : Duty) → IsOwed p o → IsSumAt p d k t φ χ o
    sums o v = met_sum p d k t φ χ multipliers o (m.meets o v)

pub old_renumbered : (p : Pair) (d k : ℕ) (t : ℚ) (left : List ℕ) (net : Net p.old.vars (p.old.locs - 1) left p.old.edges) → IsCertified p d k t
    → IsCertified (with_side Old (numbered p.old left net) (lists_now p.old left net p.old_atoms) p) d k t
old_renumbered p d k t left net (φ, χ, multipliers, m) =
    sums_certify (old_pair p d k t φ χ sums left net) d k t φ (renamed (location_before p.old left net) χ) (old_numbered p d k t φ χ sums left net)
  where
    sums : (o : Duty) → IsOwed p o → IsSumAt p d k t φ χ o
    sums o v = met_sum p d k t φ χ multipliers o (m.meets o v)
