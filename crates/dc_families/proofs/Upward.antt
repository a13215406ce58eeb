-- A greater bound of a row is the weaker atom, so of each row what is kept goes up; and a location's list says what its family says.
use Rattle.std.specs.Prelude.{◌≡◌, ℕ, suc, ◌+◌, ◌<◌, Bool, true, false, cond, is_some, List, [], ◌∷◌, map, find, length, replicate, slice_index_or, ℤ, pos, negsuc, ◌+ℤ◌, ◌*ℤ◌, ◌≤ℤ◌, ◌<ℤ◌, Option, Some, None}
use Rattle.std.proofs.Common.{refl, sym, ◌∙◌, ap, subst, inl, inr, arith}
use Rattle.std.proofs.lemmas.Int.{ints}
use Rattle.dc_math.specs.Members.{Among, each_among, among_each, among_cons, among_map, mapped_among, among_range, among_range_back, among_at, among_filter}
use Rattle.dc_math.specs.Integers.{≤ℤ-*ℤ_right}
use Rattle.dc_math.specs.WholeVectors.{dot_ℤ}
use Rattle.dc_affine.specs.declared.atom.Atom.{Atom}
use Rattle.dc_system.specs.declared.edges.Edge.{Edge}
use Rattle.dc_system.specs.After.{atom_after}
use Rattle.dc_system.proofs.Filters.{in_kept}
use Rattle.dc_points.specs.Points.{Point, MeetsAt, MeetsAll}
use Rattle.dc_rows.specs.declared.kinds.Candidates.{Candidates}
use Rattle.dc_rows.specs.Rows.{Row}
use Rattle.dc_rows.specs.Candidate.{row_at, AreCandidates}
use Rattle.dc_system.specs.Composed.{coef_at}
use Rattle.dc_poly.specs.Sums.{zeros}
use Rattle.dc_families.specs.Graphs.{Graph}
use Rattle.dc_families.specs.Families.{Family, never, bounded, least_in, kept_rows, or_zero, least_atom, atoms_at}
use Rattle.dc_families.specs.Rounds.{MeetsFamily, IsGiven, HasCandidates}
use Rattle.dc_families.specs.Laws.{EverythingIsUpward, RoundsAreUpward, ListsAreFamilies}
use Rattle.dc_families.proofs.Lists.{differ, find_is}
use Rattle.dc_families.proofs.Decided.{dot-none}
use Rattle.dc_families.proofs.Tests.{IsOne, is_never, is_bounded, candidate_is, bounded_candidate, in_everything, everything_is}

-- ---- a greater constant is met too
greater_met : (b d q x : ℤ) → b ≤ℤ d → pos 1 ≤ℤ q → pos 0 ≤ℤ (b *ℤ q +ℤ x) → pos 0 ≤ℤ (d *ℤ q +ℤ x)
greater_met b d q x h k m = let f = ≤ℤ-*ℤ_right b d q h (omega (arith, ints)) in omega (arith, ints)

pub met_up : (p : Point) (r : Row) (b d : ℤ) → b ≤ℤ d → MeetsAt p (bounded r b) → MeetsAt p (bounded r d)
met_up p r b d h m = greater_met b d p.denominator (dot_ℤ r p.numbers) h p.positive m

module _ (s : Graph) (cases : List (List Atom)) (c : Candidates) where
  moved_up : (p : Point) (e : Edge) (r : Row) (b d : ℤ) → b ≤ℤ d → MeetsAt p (atom_after s.vars e (bounded r b)) → MeetsAt p (atom_after s.vars e (bounded r d))
  moved_up p e r b d h m =
      let k = coef_at r e.update (zeros (s.vars + 1)) in
      met_up p (atom_after s.vars e (bounded r b)).coefs (b +ℤ k) (d +ℤ k) (add b d k h) m
    where
      add : (b d k : ℤ) → b ≤ℤ d → (b +ℤ k) ≤ℤ (d +ℤ k)
      add b d k h = omega (arith, ints)

  given_up : (J : Family) (l : ℕ) (r : Row) (b d : ℤ) → b ≤ℤ d → IsGiven s cases J l (bounded r b) → IsGiven s cases J l (bounded r d)
  given_up J l r b d h g = record {
    entry = λ e case m p i. met_up p _ b d h (g.entry e case m p i);
    edges = λ e m t p i f. let x = g.edges e m t p i f in (x.0, moved_up p e r b d h x.1);
  }

pub rounds_upward : RoundsAreUpward
rounds_upward s cases c J K u r l row b d m i k h t =
    let g = (r l (bounded row b)).0 t in
    (r l (bounded row d)).1 (u l row b d m i k h g.0, given_up s cases c J l row b d h g.1)

pub everything_upward : EverythingIsUpward
everything_upward s c l r b d m i k h t = in_everything s c l (bounded r d) (everything_is s c l (bounded r b) t).0 (bounded_candidate s.vars c r d m k)

-- ---- the first bound that passes is the least
abbrev Rises : List ℤ → Type 0
Rises bs = (i k : ℕ) → i < k → k < length bs → slice_index_or bs i (pos 0) <ℤ slice_index_or bs k (pos 0)

same_least : (x : ℤ) → x ≤ℤ x
same_least x = omega (arith, ints)

below_least : (x y : ℤ) → x <ℤ y → x ≤ℤ y
below_least x y h = omega (arith, ints)

first_least : (p : ℤ → Bool) (bs : List ℤ) → Rises bs → (x b : ℤ) → find p bs ≡ Some x → Among b bs → p b ≡ true → x ≤ℤ b
first_least p [] h x b f m t = elim m [ ]
first_least p (y ∷ bs) h x b f m t =
    by (first_least p bs (λ i k l n. h (suc i) (suc k) (omega arith) (omega arith)) x b) (p y) refl f
  where
    by : (find p bs ≡ Some x → Among b bs → p b ≡ true → x ≤ℤ b) → (v : Bool) → p y ≡ v → cond v (Some y) (find p bs) ≡ Some x → x ≤ℤ b
    by g true e f =
        let s : y ≡ x = cc in
        elim (among_cons m) [
          | inl q ↦ let q' : x ≡ b = sym s ∙ sym q in subst (λ z. x ≤ℤ z) q' (same_least x)
          | inr n ↦
              let r = among_at b (pos 0) bs n in
              let v = h 0 (suc r.0) (omega arith) (let k = r.1 in omega arith) in
              subst (λ z. z ≤ℤ b) s (subst (λ z. y ≤ℤ z) r.2 (below_least _ _ v))
        ]
    by g false e f = elim (among_cons m) [
      | inl q ↦ differ (sym t ∙ ap p q ∙ e)
      | inr n ↦ g f n t
    ]

some_found : (p : ℤ → Bool) (bs : List ℤ) (b : ℤ) → Among b bs → p b ≡ true → (x : ℤ) × (find p bs ≡ Some x)
some_found p [] b m t = elim m [ ]
some_found p (y ∷ bs) b m t = by (some_found p bs b) (p y) refl
  where
    by : (Among b bs → p b ≡ true → (x : ℤ) × (find p bs ≡ Some x)) → (v : Bool) → p y ≡ v → (x : ℤ) × (cond v (Some y) (find p bs) ≡ Some x)
    by g true e = (y, refl)
    by g false e = elim (among_cons m) [ inl q ↦ differ (sym t ∙ ap p q ∙ e) | inr n ↦ g n t ]

-- ---- false is met nowhere
pub never_met : (n : ℕ) (p : Point) → MeetsAt p (never n) → ⊥
never_met n p m = by p.denominator p.positive (dot_ℤ (replicate n (pos 0)) p.numbers) (dot-none n p.numbers) m
  where
    by : (d : ℤ) → pos 1 ≤ℤ d → (x : ℤ) → x ≡ pos 0 → pos 0 ≤ℤ (negsuc 0 *ℤ d +ℤ x) → ⊥
    by d h x e k = omega (arith, ints)

-- ---- the list of a location
module _ (c : Candidates) (J : Family) (l : ℕ) where
  pub kept_is : (r : ℕ) → Among r (kept_rows c J l) → (r < length c.rows) × ((b : ℤ) × (least_in c J l r ≡ Some b))
  kept_is r m =
      let f = in_kept (λ r. is_some (least_in c J l r)) r _ m in
      (let k = (among_range_back r 0 (length c.rows) f.among).1 in omega arith, some (least_in c J l r) f.passes)
    where
      some : (o : Option ℤ) → is_some o ≡ true → (b : ℤ) × (o ≡ Some b)
      some None e = differ (sym e)
      some (Some b) e = (b, refl)

  pub kept_there : (r : ℕ) (b : ℤ) → r < length c.rows → Among b c.bounds → J l (bounded (row_at c r) b) ≡ true → (Among r (kept_rows c J l)) × ((x : ℤ) × (least_in c J l r ≡ Some x))
  kept_there r b h m t =
      let f = some_found (λ b. J l (bounded (row_at c r) b)) c.bounds b m t in
      (among_filter (λ r. is_some (least_in c J l r)) r _ (ap is_some f.1) (among_range r 0 (length c.rows) (omega arith) (omega arith)), f)

  -- the atom of a row that is kept is one of the family
  pub least_is : (r : ℕ) → Among r (kept_rows c J l) → J l (least_atom c J l r) ≡ true
  least_is r m =
      let k = kept_is r m in
      let f = find_is (λ b. J l (bounded (row_at c r) b)) k.1.0 c.bounds k.1.1 in
      ap (λ o. J l (bounded (row_at c r) (or_zero o))) k.1.1 ∙ f.1

module _ (s : Graph) (c : Candidates) (J : Family) (l : ℕ) (p : Point) (kind : AreCandidates s.vars c) (h : HasCandidates s c J) where
  from_rows : J l (never s.vars) ≡ false → MeetsAll p (map (least_atom c J l) (kept_rows c J l)) → (a : Atom) → IsOne s.vars c a → J l a ≡ true → MeetsAt p a
  from_rows f m a (is_never e) t = differ (sym t ∙ ap (J l) e ∙ f)
  from_rows _ m a (is_bounded r b i k e) t =
      let f = among_at r [] c.rows i in
      let t' : J l (bounded (row_at c f.0) b) ≡ true = ap (λ q. J l (bounded q b)) f.2 ∙ ap (J l) (sym e) ∙ t in
      let g = kept_there c J l f.0 b f.1 k t' in
      let w : MeetsAt p (least_atom c J l f.0) = each_among (MeetsAt p) m (among_map (least_atom c J l) g.0) in
      let v : MeetsAt p (bounded (row_at c f.0) g.1.0) = subst (λ o. MeetsAt p (bounded (row_at c f.0) (or_zero o))) g.1.1 w in
      let u = met_up p (row_at c f.0) g.1.0 b (first_least (λ b. J l (bounded (row_at c f.0) b)) c.bounds kind.rising g.1.0 b g.1.1 k t') v in
      subst (MeetsAt p) (ap (λ q. bounded q b) f.2 ∙ sym e) u

  list_meets : MeetsAll p (atoms_at s.vars c J l) → MeetsFamily J l p
  list_meets m = by (J l (never s.vars)) refl m
    where
      by : (v : Bool) → J l (never s.vars) ≡ v → MeetsAll p (cond v (never s.vars ∷ []) (map (least_atom c J l) (kept_rows c J l))) → MeetsFamily J l p
      by true e m = absurd (never_met s.vars p m.0)
      by false e m = record { each = λ a t. from_rows e m a (candidate_is s.vars c a (everything_is s c l a (h l a t)).1) t }

  meets_list : MeetsFamily J l p → MeetsAll p (atoms_at s.vars c J l)
  meets_list m = by (J l (never s.vars)) refl
    where
      rows : MeetsAll p (map (least_atom c J l) (kept_rows c J l))
      rows = among_each (MeetsAt p) _ (λ a k. let f = mapped_among (least_atom c J l) (kept_rows c J l) k in subst (MeetsAt p) (sym f.is) (m.each _ (least_is c J l f.of f.among)))

      by : (v : Bool) → J l (never s.vars) ≡ v → MeetsAll p (cond v (never s.vars ∷ []) (map (least_atom c J l) (kept_rows c J l)))
      by true e = (m.each (never s.vars) e, tt)
      by false e = rows

pub lists_are_families : ListsAreFamilies
lists_are_families s c J l p kind h = (list_meets s c J l p kind h, meets_list s c J l p kind h)
