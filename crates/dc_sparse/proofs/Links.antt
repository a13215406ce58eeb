-- Links that are followed.
use Rattle.std.proofs.Common.{◌≡◌, ◌≢◌, ℕ, ◌+◌, ◌-◌, ◌<◌, ◌≤◌, nat_lt, inl, inr, List, length, slice_index_or, Option, Some, None, ◌∙◌, subst, arith}
use Rattle.std.proofs.lemmas.List.{get_or_default}
use Rattle.std.proofs.lemmas.Bool.{cases_Bool, ltb-true, ltb-false}
use Rattle.dc_sparse.specs.declared.web.Node.{Node}
use Rattle.dc_sparse.specs.Lines.{Lines, IsFirst, IsLast, AreLinked, IsStop, StandsBefore, index_after}
use Rattle.dc_sparse.specs.Nodes.{link, row_at, col_at, right_at, down_at, head_at, by_rows, by_columns}
use Rattle.dc_sparse.specs.Webs.{IsVacant}
use Rattle.dc_sparse.specs.Entries.{StandsAt}
use Rattle.dc_sparse.proofs.Lines.{first_behind, first_ahead}
use Rattle.dc_sparse.proofs.SingleWrites.{part-read}

-- what is linked behind a stop is the first from there on
pub next_first : (s : Lines) (lines : ℕ) (head : ℕ → Option ℕ) (i p : ℕ) → AreLinked s lines head → IsStop s i (Some p) → IsFirst s i (s.index p + 1) (s.next p)
next_first s lines head i p linked stop = subst (λ x. IsFirst s x (s.index p + 1) (s.next p)) stop.1 (linked.nexts p stop.0)

pub before_stop : (s : Lines) (i k : ℕ) (o : Option ℕ) → StandsBefore s i k o → IsStop s i o
before_stop s i k None b = tt
before_stop s i k (Some p) b = (b.live, b.line)

pub last_stop : (s : Lines) (i k : ℕ) (o : Option ℕ) → IsLast s i k o → IsStop s i o
last_stop s i k None b = tt
last_stop s i k (Some p) b = (b.0.live, b.0.line)

-- behind the last node before k comes the first from k on
pub last_first : (s : Lines) (i k : ℕ) (o b : Option ℕ) → IsLast s i k o → IsFirst s i (index_after s o) b → IsFirst s i k b
last_first s i k None b l f = first_ahead s i k b l f
last_first s i k (Some p) b l f = first_behind s i k p b l f

-- ---- a walk: `at` stands before k, and `to` is the first behind it

pub record IsWalk (s : Lines) (i k : ℕ) (at to : Option ℕ) : Type 0 where
  pub stop : StandsBefore s i k at
  pub next : IsFirst s i (index_after s at) to

-- a step to the next node, where that stands before k too
pub walk_on : (s : Lines) (lines : ℕ) (head : ℕ → Option ℕ) (i k : ℕ) (at : Option ℕ) (n : ℕ) → AreLinked s lines head → IsWalk s i k at (Some n) → s.index n < k → IsWalk s i k (Some n) (s.next n)
walk_on s lines head i k at n linked w lt = record {
  stop = record { live = w.next.0.live; line = w.next.0.line; index = lt };
  next = next_first s lines head i n linked (w.next.0.live, w.next.0.line);
}

-- where the next node doesn't stand before k, or there is none, `at` is the last
pub walk_stops : (s : Lines) (i k : ℕ) (at : Option ℕ) (n : ℕ) → IsWalk s i k at (Some n) → k ≤ s.index n → IsLast s i k at
walk_stops s i k None n w le = λ c g. (let l = g.index in let f = w.next.1 c (record { live = g.live; line = g.line; index = omega arith }) in omega arith)
walk_stops s i k (Some p) n w le = (
  w.stop,
  λ c g. elim (cases_Bool (nat_lt (s.index p) (s.index c))) [
    | inl e ↦ (let lt : s.index p < s.index c = ltb-true (s.index p) (s.index c) e in let l = g.index in let f = w.next.1 c (record { live = g.live; line = g.line; index = omega arith }) in absurd (omega arith))
    | inr e ↦ ltb-false (s.index p) (s.index c) e
  ],
)

pub walk_ends : (s : Lines) (i k : ℕ) (at : Option ℕ) → IsWalk s i k at None → IsLast s i k at
walk_ends s i k None w = λ c g. w.next c (record { live = g.live; line = g.line; index = omega arith })
walk_ends s i k (Some p) w = (
  w.stop,
  λ c g. elim (cases_Bool (nat_lt (s.index p) (s.index c))) [
    | inl e ↦ absurd (let lt : s.index p < s.index c = ltb-true (s.index p) (s.index c) e in w.next c (record { live = g.live; line = g.line; index = omega arith }))
    | inr e ↦ ltb-false (s.index p) (s.index c) e
  ],
)

-- how many indices are left from the next node on
abbrev pub left_from : Lines → ℕ → Option ℕ → ℕ
left_from s indices None = 0
left_from s indices (Some n) = indices - s.index n

-- the walk goes on by at least one index
pub walk_smaller : (s : Lines) (lines indices : ℕ) (head : ℕ → Option ℕ) (i k : ℕ) (at : Option ℕ) (n : ℕ) → AreLinked s lines head → IsWalk s i k at (Some n) → s.index n < indices → left_from s indices (s.next n) < left_from s indices (Some n)
walk_smaller s lines indices head i k at n linked w lt =
    less (s.next n) (next_first s lines head i n linked (w.next.0.live, w.next.0.line))
  where
    less : (o : Option ℕ) → IsFirst s i (s.index n + 1) o → left_from s indices o < indices - s.index n
    less None f = omega arith
    less (Some m) f = (let l = f.0.index in omega arith)

pub right-read : (xs : List Node) (n : ℕ) (x : Node) → n < length xs → x ≡ slice_index_or xs n x → link x.right ≡ right_at xs n
unfolding right_at
right-read xs n x lt e = part-read (λ z. link z.right) None xs n x lt e

pub down-read : (xs : List Node) (n : ℕ) (x : Node) → n < length xs → x ≡ slice_index_or xs n x → link x.down ≡ down_at xs n
unfolding down_at
down-read xs n x lt e = part-read (λ z. link z.down) None xs n x lt e

pub head-read : (hs : List (Option ℕ)) (i : ℕ) (o : Option ℕ) → i < length hs → o ≡ slice_index_or hs i o → o ≡ head_at hs i
unfolding head_at
head-read hs i o lt e = e ∙ get_or_default hs i o None lt

pub row-read : (xs : List Node) (n : ℕ) (x : Node) → n < length xs → x ≡ slice_index_or xs n x → x.row ≡ row_at xs n
unfolding row_at
row-read xs n x lt e = part-read (λ z. z.row) 0 xs n x lt e

pub col-read : (xs : List Node) (n : ℕ) (x : Node) → n < length xs → x ≡ slice_index_or xs n x → x.col ≡ col_at xs n
unfolding col_at
col-read xs n x lt e = part-read (λ z. z.col) 0 xs n x lt e

-- ---- the node at a cell, behind the last before it

pub first_is : (xs : List Node) (i k : ℕ) (left : Option ℕ) (n : ℕ) → IsLast (by_rows xs) i k left → IsFirst (by_rows xs) i (index_after (by_rows xs) left) (Some n) → col_at xs n ≡ k → StandsAt xs n i k
first_is xs i k left n l f e = record { live = f.0.live; row = f.0.line; col = e }

pub first_isnt : (xs : List Node) (i k : ℕ) (left : Option ℕ) (n : ℕ) → IsLast (by_rows xs) i k left → IsFirst (by_rows xs) i (index_after (by_rows xs) left) (Some n) → col_at xs n ≢ k → IsVacant xs i k
first_isnt xs i k left n l f ne c lc e q =
    let g = last_first (by_rows xs) i k left (Some n) l f in
    let le = g.0.index in
    let w = g.1 c (record { live = lc; line = e; index = omega arith }) in
    omega arith

pub first_isnt_there : (xs : List Node) (i k : ℕ) (left : Option ℕ) → IsLast (by_rows xs) i k left → IsFirst (by_rows xs) i (index_after (by_rows xs) left) None → IsVacant xs i k
first_isnt_there xs i k left l f c lc e q = last_first (by_rows xs) i k left None l f c (record { live = lc; line = e; index = omega arith })

-- ---- the same in a column

pub below_is : (xs : List Node) (i k : ℕ) (above : Option ℕ) (n : ℕ) → IsLast (by_columns xs) k i above → IsFirst (by_columns xs) k (index_after (by_columns xs) above) (Some n) → row_at xs n ≡ i → StandsAt xs n i k
below_is xs i k above n l f e = record { live = f.0.live; row = e; col = f.0.line }

pub below_isnt : (xs : List Node) (i k : ℕ) (above : Option ℕ) (n : ℕ) → IsLast (by_columns xs) k i above → IsFirst (by_columns xs) k (index_after (by_columns xs) above) (Some n) → row_at xs n ≢ i → IsVacant xs i k
below_isnt xs i k above n l f ne c lc e q =
    let g = last_first (by_columns xs) k i above (Some n) l f in
    let le = g.0.index in
    let w = g.1 c (record { live = lc; line = q; index = omega arith }) in
    omega arith

-- a stop before an index stands before each later one, and so does the last node before it
pub stands_later : (s : Lines) (i k m : ℕ) (o : Option ℕ) → k ≤ m → StandsBefore s i k o → StandsBefore s i m o
stands_later s i k m None le b = tt
stands_later s i k m (Some p) le b = (let l = b.index in record { live = b.live; line = b.line; index = omega arith })

pub last_later : (s : Lines) (i k : ℕ) (o : Option ℕ) → IsLast s i k o → StandsBefore s i (k + 1) o
last_later s i k None l = tt
last_later s i k (Some p) l = stands_later s i k (k + 1) (Some p) (omega arith) l.0
