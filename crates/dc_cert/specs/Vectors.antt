-- Sparse vectors: their items, and the vector that they stand for.
use Rattle.std.specs.Prelude.{◌≡◌, ℕ, suc, ◌≤◌, ◌<◌, Bool, eqb, ltb, cond, List, [], ◌∷◌, length, All, slice_index_or, pos, IsFalse}
use Rattle.std.specs.List.{list_all}
use Rattle.dc_math.specs.Rational.{ℚ, of_ℤ}
use Rattle.dc_math.specs.Tests.{is_zero}
use Rattle.dc_frac.specs.declared.Frac.{Frac}
use Rattle.dc_frac.specs.Fits.{IsSmall}
use Rattle.dc_frac.specs.Value.{value}
use Rattle.dc_cert.specs.declared.sparse.Item.{Item}
use Rattle.dc_cert.specs.declared.sparse.Sparse.{Sparse}

-- ---- the items of a vector
-- an index of at most 8191 and a value that is not 0, with parts of at most 2^127 - 1
pub record IsItem (i : Item) : Type 0 where
  pub low : i.index ≤ 8191
  pub nonzero : IsFalse (is_zero (value i.value))
  pub small : IsSmall i.value.den

-- by rising index, from one on
abbrev pub AreItems : ℕ → List Item → Type 0
AreItems low [] = Unit {0}
AreItems low (i ∷ is) = (low ≤ i.index) × IsItem i × AreItems (suc i.index) is

abbrev pub IsVector : Sparse → Type 0
IsVector s = AreItems 0 s.items

-- ---- from a whole vector
-- its values that are not 0, the first index being k
abbrev pub nonzero_from : ℕ → List Frac → List Item
nonzero_from k [] = []
nonzero_from k (f ∷ fs) =
    cond (is_zero (value f)) (nonzero_from (suc k) fs)
    ((record { index = k; value = f }) ∷ nonzero_from (suc k) fs)

-- ---- to a whole vector
abbrev pub IsBelow : ℕ → Item → Type 0
IsBelow n i = i.index < n

-- whether each index is below n, as a test
abbrev pub in_range : ℕ → Sparse → Bool
in_range n s = list_all (λ (i : Item). ltb i.index n) s.items

-- the value of the last item with this index, x where there is none
abbrev pub entry_after : ℚ → List Item → ℕ → ℚ
entry_after x [] k = x
entry_after x (i ∷ is) k = entry_after (cond (eqb i.index k) (value i.value) x) is k

abbrev pub entry_of : List Item → ℕ → ℚ
entry_of is k = entry_after (of_ℤ (pos 0)) is k

-- one fraction for each index below n, that of the item with the index, 0 where there is none
pub record IsDense (n : ℕ) (s : Sparse) (v : List Frac) : Type 0 where
  pub count : length v ≡ n
  pub entries : (k : ℕ) (d : Frac) → k < n → value (slice_index_or v k d) ≡ entry_of s.items k

-- the items of a vector keep each value at its index
abbrev pub KeepsEach : Type 0
KeepsEach =
    (v : List Frac) (k : ℕ) (d : Frac) → k < length v
    → entry_of (nonzero_from 0 v) k ≡ value (slice_index_or v k d)

-- the items of the vector that items below its length stand for are these items
abbrev pub ItemsReturn : Type 0
ItemsReturn =
    (n : ℕ) (s : Sparse) (v : List Frac) → IsVector s → All (IsBelow n) s.items → IsDense n s v
    → nonzero_from 0 v ≡ s.items
