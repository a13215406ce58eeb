-- A row along a live edge, and by a live case: the least bound that the problem of its form tells.
use Rattle.std.specs.Prelude.{◌≡◌, ◌⊎◌, ℕ, zero, suc, ◌+◌, ◌<◌, ◌≤◌, ◌^◌, Bool, true, false, cond, if◌then◌else◌, ◌&&◌, List, [], ◌∷◌, map, take, length, replicate, sum_by, unsigned_abs, slice_index_or, ℤ, pos, negsuc, ◌+ℤ◌, ◌*ℤ◌, ◌≤ℤ◌, Option, None}
use Rattle.std.specs.List.{AllByRecursion}
use Rattle.std.proofs.Common.{refl, sym, ◌∙◌, ap, ap₂, subst, inl, inr, arith}
use Rattle.std.proofs.lemmas.Int.{ints}
use Rattle.std.proofs.lemmas.List.{length-replicate}
use Rattle.dc_math.specs.Members.{Among, each_among, among_each, mapped_among, at_among}
use Rattle.dc_math.specs.Rational.{of_ℤ}
use Rattle.dc_syntax.specs.declared.tree.Side.{Side}
use Rattle.dc_poly.specs.Sums.{zeros}
use Rattle.dc_affine.specs.declared.atom.Atom.{Atom}
use Rattle.dc_affine.specs.Atoms.{AllCases, IsAtom, IsFullAtom}
use Rattle.dc_affine.proofs.Within.{take_fits, zeros_fit}
use Rattle.dc_system.specs.declared.edges.Edge.{Edge}
use Rattle.dc_system.specs.declared.rows.RowAfter.{RowAfter}
use Rattle.dc_system.specs.After.{is_affine_after, row_after_of}
use Rattle.dc_system.specs.Composed.{coef_at}
use Rattle.dc_system.specs.Shapes.{IsEdge}
use Rattle.dc_lp.specs.Linear.{Linear}
use Rattle.dc_simplex.specs.declared.SolveFault.{SolveFault}
use Rattle.dc_simplex.specs.declared.SolveFault.TheVariants.{NoMemory}
use Rattle.dc_math.specs.WholeVectors.{dot_ℤ}
use Rattle.dc_points.specs.Flags.{IsFlag, AreFlags}
use Rattle.dc_points.specs.Points.{Point, MeetsAt, Entails, EntailsFrom, IsDead}
use Rattle.dc_points.specs.Stated.{rational, empty_problem, sup_problem}
use Rattle.dc_points.proofs.Whole.{atoms_are_forms}
use Rattle.dc_entail.specs.Answers.{IsSolveFault}
use Rattle.dc_entail.specs.Asked.{Asked, AllDone}
use Rattle.dc_entail.specs.declared.answer.Site.TheVariants as site
use Rattle.dc_rows.specs.declared.kinds.Candidates.{Candidates}
use Rattle.dc_rows.specs.Rows.{Row}
use Rattle.dc_rows.specs.Candidate.{row_at, bound_at, IsRow, AreCandidates}
use Rattle.dc_rows.specs.Bounds.{largest_bound}
use Rattle.dc_families.specs.Graphs.{Graph}
use Rattle.dc_families.specs.Families.{Family, never, bounded, kept_rows, or_zero, least_atom, atoms_at}
use Rattle.dc_families.specs.Moves.{at_start, edge_places, form_after}
use Rattle.dc_families.specs.Rounds.{EdgeGives, HasCandidates}
use Rattle.dc_families.proofs.Lists.{differ, find_is}
use Rattle.dc_families.proofs.Upward.{kept_is}
use Rattle.dc_moves.specs.Cuts.{with_guard}
use Rattle.dc_moves.proofs.Cuts.{cuts_say_the_same, cuts_ask_the_same, cuts_ask_the_same_forms, cuts_are_atoms}
use Rattle.dc_moves.proofs.Forms.{forms_have_places, forms_are_light, forms_tell_atoms, row_is_light}
use Rattle.dc_greatest.specs.Answers.{IsFault}
use Rattle.dc_greatest.specs.Refusals.{with_site}
use Rattle.dc_greatest.specs.Bounds.{IsLeast, HasEnd}
use Rattle.dc_greatest.specs.Parts.{edge_atoms, edge_row, entry_row}
use Rattle.dc_greatest.proofs.EdgeTaken.{gives_entailed, live_affine}
use Rattle.dc_greatest.proofs.Faults.{fault_with_site}
use Rattle.dc_greatest.proofs.Rows.{least_same, nothing_least}
use Rattle.dc_greatest.proofs.Sames.{any_default}

-- ---- the atoms of a location are within their sizes

pub atoms_kind : (n : ℕ) (c : Candidates) (J : Family) (l : ℕ) → AreCandidates n c → AllByRecursion (IsAtom n) (atoms_at n c J l)
atoms_kind n c J l kind = by (J l (never n))
  where
    one : (r : ℕ) → Among r (kept_rows c J l) → IsAtom n (least_atom c J l r)
    one r m =
        let k = kept_is c J l r m in
        let f = find_is (λ b. J l (bounded (row_at c r) b)) k.1.0 c.bounds k.1.1 in
        let row = each_among (IsRow n) kind.rows (at_among [] c.rows r k.0) in
        record {
          few = (let q = row.one_each in omega arith);
          coefs_within = row.within;
          constant_within = subst (λ o. unsigned_abs (or_zero o) ≤ largest_bound) (sym k.1.1) (each_among (λ b. unsigned_abs b ≤ largest_bound) kind.bounds_within f.0);
        }

    by : (b : Bool) → AllByRecursion (IsAtom n) (cond b (never n ∷ []) (map (least_atom c J l) (kept_rows c J l)))
    by true = (record { few = (let q = length-replicate n (pos 0) in omega arith); coefs_within = zeros_fit n; constant_within = omega (arith, ints) }, tt)
    by false = among_each (IsAtom n) _ (λ a m. let f = mapped_among (least_atom c J l) (kept_rows c J l) m in subst (IsAtom n) (sym f.is) (one f.of f.among))

-- ---- along an edge
module _ (s : Graph) (c : Candidates) (J : Family) (kind : AreCandidates s.vars c) (h : HasCandidates s c J) (e : Edge) (shape : IsEdge s.vars e) where
  abbrev places : ℕ
  places = edge_places s.vars e

  abbrev pub cut_atoms : List Atom
  cut_atoms = with_guard places (atoms_at s.vars c J e.from) e

  pub live_whole : ¬ IsDead cut_atoms → ¬ IsDead (edge_atoms s c J e)
  live_whole l d = l (λ p m. d p ((cuts_say_the_same s.vars e (atoms_at s.vars c J e.from) p shape).0 m))

  pub dead_whole : IsDead cut_atoms → IsDead (edge_atoms s c J e)
  dead_whole d p m = d p ((cuts_say_the_same s.vars e (atoms_at s.vars c J e.from) p shape).1 m)

  pub cut_kind : AllByRecursion (IsAtom places) cut_atoms
  cut_kind = cuts_are_atoms s.vars e (atoms_at s.vars c J e.from) shape (atoms_kind s.vars c J e.from kind)

  pub empty_same : empty_problem cut_atoms places ≡ empty_problem (edge_atoms s c J e) places
  empty_same = cuts_ask_the_same places (atoms_at s.vars c J e.from) e

  module _ (r : ℕ) (inside : r < length c.rows) where
    row : IsRow s.vars (row_at c r)
    row = each_among (IsRow s.vars) kind.rows (at_among [] c.rows r inside)

    abbrev pub form : List ℤ
    form = form_after s.vars e (row_at c r)

    pub form_long : length form ≡ places
    form_long = forms_have_places s.vars e (row_at c r)

    pub form_kind : AllByRecursion (IsAtom (length form)) cut_atoms
    form_kind = subst (λ n. AllByRecursion (IsAtom n) cut_atoms) (sym form_long) cut_kind

    pub form_light : s.vars ≤ 10 → sum_by unsigned_abs form < 2 ^ 70
    form_light few = forms_are_light s.vars e (row_at c r) few shape (let q = row.one_each in omega arith) row.within

    pub form_same : sup_problem cut_atoms form ≡ sup_problem (edge_atoms s c J e) form
    form_same = subst (λ n. sup_problem (with_guard n (atoms_at s.vars c J e.from) e) form ≡ sup_problem (edge_atoms s c J e) form) form_long (cuts_ask_the_same_forms (atoms_at s.vars c J e.from) e form)

    -- the least bound of the form is that of the row
    pub row_least : (side : Side) (cases : List (List Atom)) (live : List Bool) (budget k : ℕ) → is_affine_after e (row_at c r) ≡ true → (o : Option ℕ)
        → IsLeast c (λ m. EntailsFrom cut_atoms form (of_ℤ (bound_at c m +ℤ coef_at (row_at c r) e.update (zeros (s.vars + 1))))) o
        → IsLeast c (λ m. EdgeGives s J e (bounded (row_at c r) (bound_at c m))) o
    row_least side cases live budget k t o least = least_same c _ _ o least (λ m l.
        let a = bounded (row_at c r) (bound_at c m) in
        let g = gives_entailed side s cases live c J budget k e kind h a t in
        let f = forms_tell_atoms s.vars e (edge_atoms s c J e) a shape in (
          (λ w. g.1 (f.1 (λ p i. w p ((cuts_say_the_same s.vars e (atoms_at s.vars c J e.from) p shape).1 i)))),
          (λ q. λ p i. f.0 (g.0 q) p ((cuts_say_the_same s.vars e (atoms_at s.vars c J e.from) p shape).0 i)),
        ))

    -- and what isn't affine has none
    pub row_bent : (side : Side) (cases : List (List Atom)) (live : List Bool) (budget k : ℕ) → is_affine_after e (row_at c r) ≡ false → ¬ IsDead cut_atoms
        → IsLeast c (λ m. EdgeGives s J e (bounded (row_at c r) (bound_at c m))) None
    row_bent side cases live budget k t l = nothing_least c _ (λ m i. live_affine side s cases live c J budget k e kind h (live_whole l) (bounded (row_at c r) (bound_at c m)) t)

    pub row_end : (budget : ℕ) → HasEnd budget (sup_problem cut_atoms form) → HasEnd budget (sup_problem (edge_atoms s c J e) form)
    row_end budget d = subst (HasEnd budget) form_same d

    pub row_fault : (budget : ℕ) (f : SolveFault) → IsSolveFault (rational (sup_problem cut_atoms form)) budget f → IsSolveFault (rational (sup_problem (edge_atoms s c J e) form)) budget f
    row_fault budget f d = subst (λ p. IsSolveFault (rational p) budget f) form_same d

  -- ---- the problem of a row, where it is asked
  module _ (side : Side) (budget k r : ℕ) where
    abbrev asked : Bool → Bool → List Asked
    asked kept affine = if kept && affine then edge_row side s c J k e r ∷ [] else []

    pub row_done : (kept affine : Bool) → (affine ≡ true → HasEnd budget (sup_problem (edge_atoms s c J e) (form_after s.vars e (row_at c r)))) → AllDone budget (asked kept affine)
    row_done true true d = (d refl, tt)
    row_done true false d = tt
    row_done false affine d = tt

    pub row_unasked : (kept affine : Bool) → kept ≡ false → AllDone budget (asked kept affine)
    row_unasked true affine q = differ q
    row_unasked false affine q = tt

    pub row_refused : (kept affine : Bool) → kept ≡ true → (f : SolveFault)
        → ((affine ≡ true) × IsSolveFault (rational (sup_problem (edge_atoms s c J e) (form_after s.vars e (row_at c r)))) budget f) ⊎ (f ≡ NoMemory)
        → IsFault budget (λ xs. xs ≡ asked kept affine) (with_site (site.EdgeRow side k r) f)
    row_refused true true q f (inl t) = fault_with_site budget (edge_row side s c J k e r) f t.1
    row_refused true false q f (inl t) = differ (sym t.0)
    row_refused false affine q f t = differ (sym q)
    row_refused true affine q f (inr t) = subst (λ g. IsFault budget (λ xs. xs ≡ asked true affine) (with_site (site.EdgeRow side k r) g)) (sym t) tt

-- ---- by a case
take_long : {A : Type 0} (k : ℕ) (xs : List A) → k ≤ length xs → length (take k xs) ≡ k
take_long zero xs h = refl
take_long (suc k) [] h = absurd (omega arith)
take_long (suc k) (x ∷ xs) h = ap suc (take_long k xs (omega arith))

module _ (s : Graph) (c : Candidates) (kind : AreCandidates s.vars c) (params : s.params ≤ s.vars) (r : ℕ) (inside : r < length c.rows) where
  entry : IsRow s.vars (row_at c r)
  entry = each_among (IsRow s.vars) kind.rows (at_among [] c.rows r inside)

  abbrev start_form : List ℤ
  start_form = take s.params (row_at c r)

  pub start_long : length start_form ≡ s.params
  start_long = take_long s.params (row_at c r) (let q = entry.one_each in omega arith)

  pub start_light : s.vars ≤ 10 → sum_by unsigned_abs start_form < 2 ^ 70
  start_light few = row_is_light start_form (take_fits s.params (row_at c r) entry.within) (let q = start_long in omega arith)

  pub case_kind : (case : List Atom) (cases : List (List Atom)) → AllCases (IsFullAtom s.params) cases → Among case cases → AllByRecursion (IsAtom (length start_form)) case
  case_kind case cases h m = among_each (IsAtom (length start_form)) case (λ a i. subst (λ n. IsAtom n a) (sym start_long) (each_among (IsFullAtom s.params) (each_among (AllByRecursion (IsFullAtom s.params)) h m) i).within)

  nothing_more : (b : ℤ) → b +ℤ pos 0 ≡ b
  nothing_more b = omega (arith, ints)

  pub start_least : (case : List Atom) (o : Option ℕ) → IsLeast c (λ m. EntailsFrom case start_form (of_ℤ (bound_at c m +ℤ pos 0))) o
      → IsLeast c (λ m. Entails case (at_start s.params (bounded (row_at c r) (bound_at c m)))) o
  start_least case o least = least_same c _ _ o least (λ m l.
      let w = atoms_are_forms case start_form (bound_at c m) in
      let z = nothing_more (bound_at c m) in
      ((λ x. w.1 (subst (λ b. EntailsFrom case start_form (of_ℤ b)) z x)), (λ x. subst (λ b. EntailsFrom case start_form (of_ℤ b)) (sym z) (w.0 x))))

module _ (side : Side) (s : Graph) (c : Candidates) (J : Family) (budget k : ℕ) (case : List Atom) (r : ℕ) where
  abbrev entry_asked : Bool → List Asked
  entry_asked kept = if kept then entry_row side s c J k case r ∷ [] else []

  pub entry_done : (kept : Bool) → HasEnd budget (sup_problem case (take s.params (row_at c r))) → AllDone budget (entry_asked kept)
  entry_done true d = (d, tt)
  entry_done false d = tt

  pub entry_unasked : (kept : Bool) → kept ≡ false → AllDone budget (entry_asked kept)
  entry_unasked true q = differ q
  entry_unasked false q = tt

  pub entry_refused : (kept : Bool) → kept ≡ true → (f : SolveFault) → IsSolveFault (rational (sup_problem case (take s.params (row_at c r)))) budget f
      → IsFault budget (λ xs. xs ≡ entry_asked kept) (with_site (site.EntryRow side k r) f)
  entry_refused true q f t = fault_with_site budget (entry_row side s c J k case r) f t
  entry_refused false q f t = differ (sym q)

-- ---- what code reads
-- an element of a list that is lent
pub row_read : (rows : List Row) (r : ℕ) (x ys : Row) → r < length rows → x ≡ slice_index_or rows r x → ys ≡ x → ys ≡ slice_index_or rows r []
row_read rows r x ys inside is e = e ∙ sym (any_default rows r x [] inside is)

pub form_read : (n : ℕ) (e : Edge) (row : Row) (after : RowAfter) (p : ℕ) (xs : List ℤ) → after ≡ row_after_of n e row → p ≡ edge_places n e → xs ≡ after.coefs → take p xs ≡ form_after n e row
form_read n e row after p xs a b d = ap₂ take b (d ∙ ap (λ (x : RowAfter). x.coefs) a)

pub least_read : (c : Candidates) (o : Option ℕ) (hs hs' : List Atom) (f f' : List ℤ) (k k' : ℤ) → hs ≡ hs' → f ≡ f' → k ≡ k'
    → IsLeast c (λ m. EntailsFrom hs f (of_ℤ (bound_at c m +ℤ k))) o → IsLeast c (λ m. EntailsFrom hs' f' (of_ℤ (bound_at c m +ℤ k'))) o
least_read c o hs hs' f f' k k' a b d h =
    subst (λ z. IsLeast c (λ m. EntailsFrom hs' f' (of_ℤ (bound_at c m +ℤ z))) o) d
    (subst (λ g. IsLeast c (λ m. EntailsFrom hs' g (of_ℤ (bound_at c m +ℤ k))) o) b
    (subst (λ xs. IsLeast c (λ m. EntailsFrom xs f (of_ℤ (bound_at c m +ℤ k))) o) a h))

pub problem_read : (P : Linear ℤ → Type 0) (hs hs' : List Atom) (f f' : List ℤ) → hs ≡ hs' → f ≡ f' → P (sup_problem hs f) → P (sup_problem hs' f')
problem_read P hs hs' f f' a b h = subst (λ g. P (sup_problem hs' g)) b (subst (λ xs. P (sup_problem xs f)) a h)

pub empty_read : (P : Linear ℤ → Type 0) (hs hs' : List Atom) (m m' : ℕ) → hs ≡ hs' → m ≡ m' → P (empty_problem hs m) → P (empty_problem hs' m')
empty_read P hs hs' m m' a b h = subst (λ j. P (empty_problem hs' j)) b (subst (λ xs. P (empty_problem xs m)) a h)

-- ---- a case, by its flag
pub flag_at : (live : List Bool) (cases : List (List Atom)) (k : ℕ) → AreFlags live cases → k < length cases → IsFlag (slice_index_or live k false) (slice_index_or cases k [])
flag_at live [] k h l = absurd (omega arith)
flag_at [] (c ∷ cases) k h l = absurd h
flag_at (b ∷ live) (c ∷ cases) zero h l = h.0
flag_at (b ∷ live) (c ∷ cases) (suc k) h l = flag_at live cases k h.1 (omega arith)

none_take : (k n : ℕ) (xs : List ℤ) → dot_ℤ (take k (replicate n (pos 0))) xs ≡ pos 0
none_take zero n xs = refl
none_take (suc k) zero xs = refl
none_take (suc k) (suc n) [] = refl
none_take (suc k) (suc n) (x ∷ xs) = let h = none_take k n xs in omega (arith, ints)

pub never_start : (k n : ℕ) (p : Point) → MeetsAt p (at_start k (never n)) → ⊥
never_start k n p m = by p.denominator p.positive (dot_ℤ (take k (replicate n (pos 0))) p.numbers) (none_take k n p.numbers) m
  where
    by : (d : ℤ) → pos 1 ≤ℤ d → (x : ℤ) → x ≡ pos 0 → pos 0 ≤ℤ (negsuc 0 *ℤ d +ℤ x) → ⊥
    by d h x e k = omega (arith, ints)
