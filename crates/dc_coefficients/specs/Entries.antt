-- The entries of a column that has given numbers: those that aren't 0, by their rows.
use Rattle.std.specs.Prelude.{ℕ, zero, suc, List, [], ◌∷◌, ◌++◌, ℤ, pos, negsuc}
use Rattle.dc_lp.specs.declared.Entry.{Entry}

abbrev pub entry : ℕ → ℤ → Entry
entry r z = record { row = r; value = z }

-- of a number in a row
abbrev pub entry_at : ℕ → ℤ → List Entry
entry_at r (pos zero) = []
entry_at r (pos (suc n)) = entry r (pos (suc n)) ∷ []
entry_at r (negsuc n) = entry r (negsuc n) ∷ []

-- of numbers in the rows from r on
abbrev pub entries_from : ℕ → List ℤ → List Entry
entries_from r [] = []
entries_from r (z ∷ zs) = entry_at r z ++ entries_from (suc r) zs
