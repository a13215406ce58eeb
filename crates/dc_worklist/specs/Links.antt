-- How a list is linked: each edge has a slot, with links where the edge is on the list.
use Rattle.std.specs.Prelude.{◌≡◌, ℕ, suc, ◌<◌, ◌≤◌, Bool, true, false, is_some, List, [], ◌∷◌, slice_index_or, slice_set, Option, Some, None}
use Rattle.dc_worklist.specs.declared.work_list.Links.{Links}

-- ---- slots
abbrev pub slot_at : List (Option Links) → ℕ → Option Links
slot_at ps k = slice_index_or ps k None

abbrev pub is_linked : List (Option Links) → ℕ → Bool
is_linked ps k = is_some (slot_at ps k)

-- the numbers of the slots with links, where the first slot has number k
abbrev pub linked_from : ℕ → List (Option Links) → List ℕ
linked_from k [] = []
linked_from k (None ∷ ps) = linked_from (suc k) ps
linked_from k (Some p ∷ ps) = k ∷ linked_from (suc k) ps

-- ---- neighbours
-- the least number from k on of which a test is true, if there is one
abbrev pub IsNext : (ℕ → Bool) → ℕ → Option ℕ → Type 0
IsNext there k None = (i : ℕ) → k ≤ i → there i ≡ false
IsNext there k (Some j) = (k ≤ j) × (there j ≡ true) × ((i : ℕ) → k ≤ i → i < j → there i ≡ false)

-- the greatest number below k of which it is true
abbrev pub IsLast : (ℕ → Bool) → ℕ → Option ℕ → Type 0
IsLast there k None = (i : ℕ) → i < k → there i ≡ false
IsLast there k (Some j) = (j < k) × (there j ≡ true) × ((i : ℕ) → j < i → i < k → there i ≡ false)

-- each slot with links names its neighbours both ways, and the first is known
pub record AreLinked (ps : List (Option Links)) (head : Option ℕ) : Type 0 where
  pub first : IsNext (is_linked ps) 0 head
  pub after : (k : ℕ) (p : Links) → slot_at ps k ≡ Some p → IsNext (is_linked ps) (suc k) p.after
  pub before : (k : ℕ) (p : Links) → slot_at ps k ≡ Some p → IsLast (is_linked ps) k p.before

-- ---- changes
-- the number behind a slot, or 0
abbrev pub behind : Option ℕ → ℕ
behind None = 0
behind (Some k) = suc k

-- links with another follower, or another one before them
abbrev pub followed : Option ℕ → Option Links → Option Links
followed j None = None
followed j (Some p) = Some (record { before = p.before; after = j })

abbrev pub preceded : Option ℕ → Option Links → Option Links
preceded j None = None
preceded j (Some p) = Some (record { before = j; after = p.after })

abbrev pub with_after : Option ℕ → Option ℕ → List (Option Links) → List (Option Links)
with_after None j ps = ps
with_after (Some k) j ps = slice_set ps k (followed j (slot_at ps k))

abbrev pub with_before : Option ℕ → Option ℕ → List (Option Links) → List (Option Links)
with_before None j ps = ps
with_before (Some k) j ps = slice_set ps k (preceded j (slot_at ps k))
