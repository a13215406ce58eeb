-- Nodes in lines, each line linked by rising index: a number along the line, no address in the
-- arena. Rows are lines whose indices are columns, and columns are lines whose indices are rows.
use Rattle.std.specs.Prelude.{◌≡◌, ℕ, ◌+◌, ◌<◌, ◌≤◌, ◌==◌, cond, Bool, true, Option, Some, None}

-- which nodes stand in lines, in which line and at which index, and what is linked behind each
pub record Lines : Type 0 where
  pub live : ℕ → Bool
  pub line : ℕ → ℕ
  pub index : ℕ → ℕ
  pub next : ℕ → Option ℕ

-- node a stands in line i at index k or behind it
pub record IsFrom (s : Lines) (i k a : ℕ) : Type 0 where
  pub live : s.live a ≡ true
  pub line : s.line a ≡ i
  pub index : k ≤ s.index a

-- node a stands in line i before index k
pub record IsBefore (s : Lines) (i k a : ℕ) : Type 0 where
  pub live : s.live a ≡ true
  pub line : s.line a ≡ i
  pub index : s.index a < k

-- the first node of line i from index k on, `None` where there is none
abbrev pub IsFirst : Lines → ℕ → ℕ → Option ℕ → Type 0
IsFirst s i k None = (c : ℕ) → IsFrom s i k c → ⊥
IsFirst s i k (Some b) = IsFrom s i k b × ((c : ℕ) → IsFrom s i k c → s.index b ≤ s.index c)

-- the last node of line i before index k, `None` where there is none
abbrev pub IsLast : Lines → ℕ → ℕ → Option ℕ → Type 0
IsLast s i k None = (c : ℕ) → IsBefore s i k c → ⊥
IsLast s i k (Some p) = IsBefore s i k p × ((c : ℕ) → IsBefore s i k c → s.index c ≤ s.index p)

-- each of the lines begins with its first node, and each node is followed by the next one of its line
pub record AreLinked (s : Lines) (lines : ℕ) (head : ℕ → Option ℕ) : Type 0 where
  pub heads : (i : ℕ) → i < lines → IsFirst s i 0 (head i)
  pub nexts : (a : ℕ) → s.live a ≡ true → IsFirst s (s.line a) (s.index a + 1) (s.next a)

-- no two nodes at one index of a line
abbrev pub AreApart : Lines → Type 0
AreApart s = (a b : ℕ) → s.live a ≡ true → s.live b ≡ true
    → s.line a ≡ s.line b → s.index a ≡ s.index b → a ≡ b

-- what is linked behind node a, where o was, once `to` is linked behind p
abbrev pub link_after : Option ℕ → Option ℕ → ℕ → Option ℕ → Option ℕ
link_after None to a o = o
link_after (Some p) to a o = cond (a == p) to o

-- how line l begins, where it began with o, once line i begins with `to` if nothing stands before it
abbrev pub head_after : Option ℕ → ℕ → Option ℕ → ℕ → Option ℕ → Option ℕ
head_after None i to l o = cond (l == i) to o
head_after (Some p) i to l o = o

-- where line i is stopped: at none of its nodes, or at one
abbrev pub IsStop : Lines → ℕ → Option ℕ → Type 0
IsStop s i None = Unit {0}
IsStop s i (Some p) = (s.live p ≡ true) × (s.line p ≡ i)

-- the first index behind a stop
abbrev pub index_after : Lines → Option ℕ → ℕ
index_after s None = 0
index_after s (Some p) = s.index p + 1

-- a stop before index k
abbrev pub StandsBefore : Lines → ℕ → ℕ → Option ℕ → Type 0
StandsBefore s i k None = Unit {0}
StandsBefore s i k (Some p) = IsBefore s i k p
