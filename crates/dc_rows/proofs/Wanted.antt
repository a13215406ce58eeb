-- Candidates that no limit refuses are as every call wants it.
use Rattle.std.proofs.Common.{◌≡◌, ◌∙◌, ℕ, zero, suc, ◌+◌, ◌<◌, ◌≤◌, Bool, true, false, not, ◌&&◌, eqb, ltb, if◌then◌else◌, List, [], ◌∷◌, map, filter, flat_map, length, get_or, ℤ, pos, ◌<ℤ◌, unsigned_abs, Some, None, inl, inr, refl, ap, sym, subst, arith}
use Rattle.std.specs.List.{range_with_len, list_all, AllByRecursion}
use Rattle.std.specs.Ordering.{int_eq}
use Rattle.std.proofs.lemmas.Bool.{eq-eqb, leb-true, ltb-false, and_right}
use Rattle.std.proofs.lemmas.List.FromFn.{length-map-range_with_len}
use Rattle.dc_math.specs.Members.{Among, head, tail, each_among, among_each, none_among, among_image, among_filter_back, among_range}
use Rattle.dc_math.specs.OrderedLists.{pairs_ordered}
use Rattle.dc_poly.specs.NormalForm.{most}
use Rattle.dc_affine.specs.declared.atom.Atom.{Atom}
use Rattle.dc_affine.specs.Atoms.{AllFit, IsAtom}
use Rattle.dc_system.specs.declared.edges.System.{System}
use Rattle.dc_system.specs.Shapes.{IsEdge, IsWellFormed}
use Rattle.dc_rows.specs.declared.kinds.RowFault.{RowFault}
use Rattle.dc_rows.specs.Rows.{Row, row_by, alone, together, linear_part, is_nonzero, rows_with_repeats, candidate_rows}
use Rattle.dc_rows.specs.Bounds.{around, mentioned, is_within, largest_bound, rising, candidate_bounds}
use Rattle.dc_rows.specs.Candidate.{IsRow, AreCandidates, candidates_of}
use Rattle.dc_rows.specs.Laws.{IsUnit, IsSource, single, pair, condition, guard, AreKind}
use Rattle.dc_rows.proofs.Rising.{rising-ordered, in_rising}
use Rattle.dc_rows.proofs.Sources.{source, differ}

-- ---- sizes
fit-map : (f : ℕ → ℤ) → ((k : ℕ) → unsigned_abs (f k) ≤ most) → (ks : List ℕ) → AllFit (map f ks)
fit-map f h [] = tt
fit-map f h (k ∷ ks) = (h k, fit-map f h ks)

fit_at : (cs : List ℤ) (k : ℕ) → AllFit cs → unsigned_abs (get_or cs k (pos 0)) ≤ most
fit_at [] k h = omega arith
fit_at (c ∷ cs) zero h = h.0
fit_at (c ∷ cs) (suc k) h = fit_at cs k h.1

unit-fits : (c : ℤ) → IsUnit c → unsigned_abs c ≤ most
unit-fits c (inl e) = subst (λ x. unsigned_abs x ≤ most) (sym e) (omega arith)
unit-fits c (inr e) = subst (λ x. unsigned_abs x ≤ most) (sym e) (omega arith)

chosen-fits : (b : Bool) (c d : ℤ) → unsigned_abs c ≤ most → unsigned_abs d ≤ most → unsigned_abs (if b then c else d) ≤ most
chosen-fits true c d h k = h
chosen-fits false c d h k = k

-- ---- rows that are not zero
unit-nonzero : (c : ℤ) → IsUnit c → int_eq c (pos 0) ≡ false
unit-nonzero c (inl e) = ap (λ x. int_eq x (pos 0)) e
unit-nonzero c (inr e) = ap (λ x. int_eq x (pos 0)) e

nonzero-in : (c : ℤ) (r : Row) → Among c r → int_eq c (pos 0) ≡ false → is_nonzero r ≡ true
nonzero-in c r i z = ap not (none r i)
  where
    none : (r : Row) → Among c r → list_all (λ x. int_eq x (pos 0)) r ≡ false
    none [] i = none_among i
    none (d ∷ r) head = ap (λ b. b && list_all (λ x. int_eq x (pos 0)) r) z
    none (d ∷ r) (tail i) = and_right (int_eq d (pos 0)) (list_all (λ x. int_eq x (pos 0)) r) (none r i)

row-entry : (n k : ℕ) (f : ℕ → ℤ) (c : ℤ) → k < n → c ≡ f k → Among c (row_by n f)
row-entry n k f c h e = among_image f e (among_range k 0 n (omega arith) (omega arith))

row-length : (n : ℕ) (f : ℕ → ℤ) → length (row_by n f) ≡ n
row-length n f = length-map-range_with_len f 0 n

alone-row : (n k : ℕ) (c : ℤ) → k < n → IsUnit c → IsRow n (alone n k c)
alone-row n k c h u = record {
  one_each = row-length n (λ i. if eqb i k then c else pos 0);
  some = nonzero-in c (alone n k c) (row-entry n k (λ i. if eqb i k then c else pos 0) c h (sym (ap (λ b. if b then c else pos 0) (eq-eqb k k refl)))) (unit-nonzero c u);
  within = fit-map (λ i. if eqb i k then c else pos 0) (λ i. chosen-fits (eqb i k) c (pos 0) (unit-fits c u) (omega arith)) (range_with_len 0 n);
}

together-row : (n j k : ℕ) (c d : ℤ) → j < n → IsUnit c → IsUnit d → IsRow n (together n j c k d)
together-row n j k c d h u v = record {
  one_each = row-length n (λ i. if eqb i j then c else (if eqb i k then d else pos 0));
  some = nonzero-in c (together n j c k d)
      (row-entry n j (λ i. if eqb i j then c else (if eqb i k then d else pos 0)) c h (sym (ap (λ b. if b then c else (if eqb j k then d else pos 0)) (eq-eqb j j refl))))
      (unit-nonzero c u);
  within = fit-map (λ i. if eqb i j then c else (if eqb i k then d else pos 0))
      (λ i. chosen-fits (eqb i j) c (if eqb i k then d else pos 0) (unit-fits c u) (chosen-fits (eqb i k) d (pos 0) (unit-fits d v) (omega arith))) (range_with_len 0 n);
}

part-row : (n m : ℕ) (a : Atom) → IsAtom m a → is_nonzero (linear_part n a) ≡ true → IsRow n (linear_part n a)
part-row n m a h z = record {
  one_each = row-length n (λ k. get_or a.coefs k (pos 0));
  some = z;
  within = fit-map (λ k. get_or a.coefs k (pos 0)) (λ k. fit_at a.coefs k h.coefs_within) (range_with_len 0 n);
}

source-row : (s : System) (when : List Atom) (pairs : Bool) (r : Row) → IsWellFormed s → AllByRecursion (IsAtom s.params) when → IsSource s when pairs r → IsRow s.vars r
source-row s when pairs r y h (single k c l u e) = subst (IsRow s.vars) (sym e) (alone-row s.vars k c l u)
source-row s when pairs r y h (pair j k c d p l m u v e) = subst (IsRow s.vars) (sym e) (together-row s.vars j k c d (omega arith) u v)
source-row s when pairs r y h (condition a i e z) =
    subst (IsRow s.vars) (sym e) (part-row s.vars s.params a (each_among (IsAtom s.params) h i) (ap is_nonzero (sym e) ∙ z))
source-row s when pairs r y h (guard g a i j u e z) =
    let k : IsEdge s.vars g = each_among (IsEdge s.vars) y.edges i in
    subst (IsRow s.vars) (sym e) (part-row s.vars (s.vars + 1) a (each_among (IsAtom (s.vars + 1)) k.atoms j) (ap is_nonzero (sym e) ∙ z))

-- ---- limits
few : (a b : Bool) (f g : RowFault) → (if a then Some f else (if b then Some g else None)) ≡ None → (a ≡ false) × (b ≡ false)
few true b f g h = cc
few false true f g h = cc
few false false f g h = (refl, refl)

within-each : (bs : List ℤ) → AllByRecursion (λ b. unsigned_abs b ≤ largest_bound) (rising (filter is_within bs))
within-each bs =
    among_each (λ b. unsigned_abs b ≤ largest_bound) (rising (filter is_within bs))
    (λ b i. leb-true (unsigned_abs b) largest_bound (among_filter_back is_within b bs (in_rising b (filter is_within bs) i)).1)

pub are_wanted : (s : System) (when : List Atom) (pairs : Bool) (rs : List Row) (bs : List ℤ) → IsWellFormed s → AllByRecursion (IsAtom s.params) when
    → rs ≡ candidate_rows s when pairs → bs ≡ candidate_bounds s when → length rs ≤ 1024 → length bs ≤ 256 → AreCandidates s.vars (record { rows = rs; bounds = bs })
are_wanted s when pairs rs bs y h e f k l =
    let all : AreCandidates s.vars (candidates_of s when pairs) = record {
      few_rows = subst (λ x. length x ≤ 1024) e k;
      rows = among_each (IsRow s.vars) (candidate_rows s when pairs) (λ r i. source-row s when pairs r y h (source s when pairs r i));
      different = λ i j l m. pairs_ordered (λ q r. ¬ (q ≡ r)) (candidate_rows s when pairs) (differ (rows_with_repeats s when pairs)) i j [] l m;
      few_bounds = subst (λ x. length x ≤ 256) f l;
      bounds_within = within-each (flat_map around (mentioned s when));
      rising = λ i j l m. pairs_ordered ◌<ℤ◌ (candidate_bounds s when) (rising-ordered (filter is_within (flat_map around (mentioned s when)))) i j (pos 0) l m;
    } in
    subst (λ x. AreCandidates s.vars (record { rows = x; bounds = bs })) (sym e) (subst (λ x. AreCandidates s.vars (record { rows = candidate_rows s when pairs; bounds = x })) (sym f) all)

pub are_kind : AreKind
are_kind s when pairs y h z =
    let c = candidates_of s when pairs in
    let k = few (ltb 1024 (length c.rows)) (ltb 256 (length c.bounds)) _ _ z in
    are_wanted s when pairs c.rows c.bounds y h refl refl (ltb-false 1024 (length c.rows) k.0) (ltb-false 256 (length c.bounds) k.1)
