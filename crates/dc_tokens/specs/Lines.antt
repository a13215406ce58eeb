-- Lines and columns, from 1.
use Rattle.std.specs.Prelude.{ℕ, ◌+◌, Bool, not, nat_eq, List, take, count_by}
use Rattle.std.specs.List.{suffix_len}

abbrev pub is_line_feed : ℕ → Bool
is_line_feed b = nat_eq b 10

-- one more than the line feeds before the offset
abbrev pub line_at : List ℕ → ℕ → ℕ
line_at bs offset = count_by is_line_feed (take offset bs) + 1

-- one more than the bytes before the offset, counted back from it, up to a line feed
abbrev pub column_at : List ℕ → ℕ → ℕ
column_at bs offset = suffix_len (λ b. not (is_line_feed b)) (take offset bs) + 1
