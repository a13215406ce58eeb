-- The rows with their repeats, and without them, are those that have a source.
use Rattle.std.proofs.Common.{◌≡◌, ◌∙◌, ℕ, ◌+◌, ◌-◌, ◌<◌, Bool, true, false, not, if◌then◌else◌, List, [], ◌∷◌, ◌++◌, map, filter, ℤ, pos, negsuc, ◌⊎◌, inl, inr, refl, ap, sym, arith}
use Rattle.std.specs.List.{range_with_len}
use Rattle.std.proofs.lemmas.Bool.{not-true, false≢true}
use Rattle.dc_math.specs.Members.{Among, head, tail, among_each, none_among, among_first, among_cons, among-two, among-left, among-right, among-++, among_image, mapped_among, among_flat, among_flat_back, among_filter, among_filter_back, among_range, among_range_back}
use Rattle.dc_math.specs.OrderedLists.{Ordered, ordered-filter}
use Rattle.dc_affine.specs.declared.atom.Atom.{Atom}
use Rattle.dc_system.specs.declared.edges.Edge.{Edge}
use Rattle.dc_system.specs.declared.edges.System.{System}
use Rattle.dc_rows.specs.Rows.{Row, alone, together, rows_of_one, single_rows, rows_of_two, later_rows, pair_rows, linear_part, is_unchosen, guard_atoms, is_nonzero, atom_rows, rows_with_repeats, same_row, without_repeats, candidate_rows}
use Rattle.dc_rows.specs.Laws.{IsUnit, IsSource, single, pair, condition, guard, RowsHaveSources}
use Rattle.dc_rows.proofs.Same.{same-Decides}

-- ---- without repeats
pub in-without : (r : Row) (rs : List Row) → Among r rs → Among r (without_repeats rs)
in-without r [] i = i
in-without r (q ∷ rs) head = head
in-without r (q ∷ rs) (tail i) = by (same_row q r) refl (in-without r rs i)
  where
    by : (b : Bool) → same_row q r ≡ b → Among r (without_repeats rs) → Among r (without_repeats (q ∷ rs))
    by true e j = among_first (sym ((same-Decides q r).0 e))
    by false e j = tail (among_filter (λ p. not (same_row q p)) r (without_repeats rs) (ap not e) j)

pub in_without : (r : Row) (rs : List Row) → Among r (without_repeats rs) → Among r rs
in_without r [] i = i
in_without r (q ∷ rs) head = head
in_without r (q ∷ rs) (tail i) = tail (in_without r rs (among_filter_back (λ p. not (same_row q p)) r (without_repeats rs) i).0)

pub differ : (rs : List Row) → Ordered (λ q r. ¬ (q ≡ r)) (without_repeats rs)
differ [] = tt
differ (q ∷ rs) = (
  among_each (λ r. ¬ (q ≡ r)) (filter (λ p. not (same_row q p)) (without_repeats rs))
      (λ r i e. false≢true (sym (not-true (same_row q r) (among_filter_back (λ p. not (same_row q p)) r (without_repeats rs) i).1) ∙ (same-Decides q r).1 e)),
  ordered-filter (λ x r. ¬ (x ≡ r)) (λ p. not (same_row q p)) (without_repeats rs) (differ rs),
)

-- ---- sources
from_one : (s : System) (when : List Atom) (pairs : Bool) (r : Row) (k : ℕ) → k < s.vars → Among r (rows_of_one s.vars k) → IsSource s when pairs r
from_one s when pairs r k h i = elim (among-two i) [
  | inl e ↦ single k (pos 1) h (inl refl) e
  | inr e ↦ single k (negsuc 0) h (inr refl) e
]

from_singles : (s : System) (when : List Atom) (pairs : Bool) (r : Row) → Among r (single_rows s.vars) → IsSource s when pairs r
from_singles s when pairs r i =
    let w = among_flat_back (rows_of_one s.vars) r (range_with_len 0 s.vars) i in let h = among_range_back w.0 0 s.vars w.1 in from_one s when pairs r w.0 (omega arith) w.2

from_two : (s : System) (when : List Atom) (pairs : Bool) (r : Row) (j k : ℕ) → pairs ≡ true → j < k → k < s.vars → Among r (rows_of_two s.vars j k) → IsSource s when pairs r
from_two s when pairs r j k p l h i = elim (among_cons i) [
  | inl e ↦ pair j k (pos 1) (negsuc 0) p l h (inl refl) (inr refl) e
  | inr i ↦ elim (among_cons i) [
    | inl e ↦ pair j k (negsuc 0) (pos 1) p l h (inr refl) (inl refl) e
    | inr i ↦ elim (among-two i) [
      | inl e ↦ pair j k (pos 1) (pos 1) p l h (inl refl) (inl refl) e
      | inr e ↦ pair j k (negsuc 0) (negsuc 0) p l h (inr refl) (inr refl) e
    ]
  ]
]

from_pairs : (s : System) (when : List Atom) (pairs : Bool) (r : Row) → pairs ≡ true → Among r (pair_rows s.vars) → IsSource s when pairs r
from_pairs s when pairs r p i =
    let w = among_flat_back (later_rows s.vars) r (range_with_len 0 s.vars) i in
    let h = among_range_back w.0 0 s.vars w.1 in
    let v = among_flat_back (rows_of_two s.vars w.0) r (range_with_len (w.0 + 1) (s.vars - (w.0 + 1))) w.2 in
    let g = among_range_back v.0 (w.0 + 1) (s.vars - (w.0 + 1)) v.1 in from_two s when pairs r w.0 v.0 p (omega arith) (omega arith) v.2

from_atoms : (s : System) (when : List Atom) (pairs : Bool) (r : Row) → Among r (atom_rows s when) → IsSource s when pairs r
from_atoms s when pairs r i =
    let f = among_filter_back is_nonzero r (map (linear_part s.vars) (when ++ filter (is_unchosen s.vars) (guard_atoms s.edges))) i in
    let w = mapped_among (linear_part s.vars) (when ++ filter (is_unchosen s.vars) (guard_atoms s.edges)) f.0 in by w.of w.is f.1 (among-++ when w.among)
  where
    by : (a : Atom) → r ≡ linear_part s.vars a → is_nonzero r ≡ true → Among a when ⊎ Among a (filter (is_unchosen s.vars) (guard_atoms s.edges)) → IsSource s when pairs r
    by a e z (inl j) = condition a j e z
    by a e z (inr j) =
        let f = among_filter_back (is_unchosen s.vars) a (guard_atoms s.edges) j in
        let w = among_flat_back (λ (x : Edge). x.guard) a s.edges f.0 in guard w.0 a w.1 w.2 f.1 e z

from_all : (s : System) (when : List Atom) (pairs : Bool) (r : Row) → Among r (rows_with_repeats s when pairs) → IsSource s when pairs r
from_all s when pairs r i = by (among-++ (single_rows s.vars) i)
  where
    paired : (b : Bool) → pairs ≡ b → Among r (if b then pair_rows s.vars else []) → IsSource s when pairs r
    paired true e j = from_pairs s when pairs r e j
    paired false e j = none_among j

    later : Among r (if pairs then pair_rows s.vars else []) ⊎ Among r (atom_rows s when) → IsSource s when pairs r
    later (inl j) = paired pairs refl j
    later (inr j) = from_atoms s when pairs r j

    by : Among r (single_rows s.vars) ⊎ Among r ((if pairs then pair_rows s.vars else []) ++ atom_rows s when) → IsSource s when pairs r
    by (inl j) = from_singles s when pairs r j
    by (inr j) = later (among-++ (if pairs then pair_rows s.vars else []) j)

-- ---- and back
to_one : (n k : ℕ) (c : ℤ) (r : Row) → IsUnit c → r ≡ alone n k c → Among r (rows_of_one n k)
to_one n k c r (inl u) e = among_first (e ∙ ap (alone n k) u)
to_one n k c r (inr u) e = tail (among_first (e ∙ ap (alone n k) u))

to_two : (n j k : ℕ) (c d : ℤ) (r : Row) → IsUnit c → IsUnit d → r ≡ together n j c k d → Among r (rows_of_two n j k)
to_two n j k c d r (inl u) (inr v) e = among_first (e ∙ ap (λ x. together n j x k d) u ∙ ap (λ x. together n j (pos 1) k x) v)
to_two n j k c d r (inr u) (inl v) e = tail (among_first (e ∙ ap (λ x. together n j x k d) u ∙ ap (λ x. together n j (negsuc 0) k x) v))
to_two n j k c d r (inl u) (inl v) e = tail (tail (among_first (e ∙ ap (λ x. together n j x k d) u ∙ ap (λ x. together n j (pos 1) k x) v)))
to_two n j k c d r (inr u) (inr v) e = tail (tail (tail (among_first (e ∙ ap (λ x. together n j x k d) u ∙ ap (λ x. together n j (negsuc 0) k x) v))))

to_pairs : (n : ℕ) (pairs : Bool) (r : Row) → pairs ≡ true → Among r (pair_rows n) → Among r (if pairs then pair_rows n else [])
to_pairs n true r p i = i
to_pairs n false r p i = absurd (false≢true p)

to_atoms : (s : System) (when : List Atom) (a : Atom) (r : Row) → r ≡ linear_part s.vars a → is_nonzero r ≡ true
    → Among a (when ++ filter (is_unchosen s.vars) (guard_atoms s.edges)) → Among r (atom_rows s when)
to_atoms s when a r e z i =
    among_filter is_nonzero r (map (linear_part s.vars) (when ++ filter (is_unchosen s.vars) (guard_atoms s.edges))) z (among_image (linear_part s.vars) e i)

behind_pairs : (s : System) (when : List Atom) (pairs : Bool) (r : Row) → Among r (atom_rows s when) → Among r (rows_with_repeats s when pairs)
behind_pairs s when pairs r i =
    among-right (single_rows s.vars) (among-right (if pairs then pair_rows s.vars else []) i)

to_all : (s : System) (when : List Atom) (pairs : Bool) (r : Row) → IsSource s when pairs r → Among r (rows_with_repeats s when pairs)
to_all s when pairs r (single k c h u e) =
    among-left ((if pairs then pair_rows s.vars else []) ++ atom_rows s when)
    (among_flat (rows_of_one s.vars) k r (range_with_len 0 s.vars) (among_range k 0 s.vars (omega arith) (omega arith)) (to_one s.vars k c r u e))
to_all s when pairs r (pair j k c d p l h u v e) =
    among-right (single_rows s.vars)
    (among-left (atom_rows s when)
    (to_pairs s.vars pairs r p
    (among_flat (later_rows s.vars) j r (range_with_len 0 s.vars) (among_range j 0 s.vars (omega arith) (omega arith))
    (among_flat (rows_of_two s.vars j) k r (range_with_len (j + 1) (s.vars - (j + 1))) (among_range k (j + 1) (s.vars - (j + 1)) (omega arith) (omega arith)) (to_two s.vars j k c d r u v e)))))
to_all s when pairs r (condition a i e z) = behind_pairs s when pairs r (to_atoms s when a r e z (among-left (filter (is_unchosen s.vars) (guard_atoms s.edges)) i))
to_all s when pairs r (guard g a i j u e z) =
    behind_pairs s when pairs r
    (to_atoms s when a r e z
    (among-right when (among_filter (is_unchosen s.vars) a (guard_atoms s.edges) u (among_flat (λ (x : Edge). x.guard) g a s.edges i j))))

pub source : (s : System) (when : List Atom) (pairs : Bool) (r : Row) → Among r (candidate_rows s when pairs) → IsSource s when pairs r
source s when pairs r i = from_all s when pairs r (in_without r (rows_with_repeats s when pairs) i)

pub rows_have_sources : RowsHaveSources
rows_have_sources s when pairs r = (source s when pairs r, λ h. in-without r (rows_with_repeats s when pairs) (to_all s when pairs r h))
