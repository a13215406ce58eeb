-- The pair of sources that a seed and a count make.
use Rattle.std.specs.Prelude.{ℕ, zero, suc, ◌+◌, ◌*◌, ◌/◌, ◌%◌, List, [], ◌∷◌, ◌++◌, codes}
use Rattle.std.specs.Fmt.{decimal}

-- ---- costs

-- the number behind another one: the row of a linear congruence
abbrev pub next_number : ℕ → ℕ
next_number x = (1103515245 * x + 12345) % 2147483648

-- number j of the row that begins with the seed, which has number 0
abbrev pub number_at : ℕ → ℕ → ℕ
number_at seed zero = seed
number_at seed (suc j) = next_number (number_at seed j)

-- the cost that a number gives, from 1 to 9
abbrev pub cost_of : ℕ → ℕ
cost_of x = 1 + (x / 65536) % 9

-- so many costs, from every second number of the row, the first of which is number j
abbrev pub costs_from : ℕ → ℕ → ℕ → List ℕ
costs_from seed j zero = []
costs_from seed j (suc count) = cost_of (number_at seed j) ∷ costs_from seed (2 + j) count

abbrev pub new_costs : ℕ → ℕ → List ℕ
new_costs seed count = costs_from seed 1 count

abbrev pub old_costs : ℕ → ℕ → List ℕ
old_costs seed count = costs_from seed 2 count

-- ---- texts

-- the lines of a loop that pays a cost n times
abbrev pub block_text : ℕ → List ℕ
block_text c = codes "i = 0;\nwhile (i < n) {\ntick " ++ (decimal c ++ codes ";\ni = i + 1;\n}\n")

abbrev pub blocks_text : List ℕ → List ℕ
blocks_text [] = []
blocks_text (c ∷ cs) = block_text c ++ blocks_text cs

-- the source with a block for each of these costs
abbrev pub source_text : List ℕ → List ℕ
source_text cs = codes "proc s(n) {\nvar i;\n" ++ (blocks_text cs ++ codes "}\n")
