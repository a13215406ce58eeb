-- A text up to the first byte that equals a given one, and from there on.
use Rattle.std.specs.Prelude.{◌≡◌, ℕ, eqb, cond, [], ◌∷◌}
use Rattle.dc_lines.specs.Bytes.{Bytes}

abbrev pub until : ℕ → Bytes → Bytes
until b [] = []
until b (x ∷ xs) = cond (eqb x b) [] (x ∷ until b xs)

abbrev pub onward : ℕ → Bytes → Bytes
onward b [] = []
onward b (x ∷ xs) = cond (eqb x b) (x ∷ xs) (onward b xs)

-- the byte isn't in the text
abbrev pub Lacks : ℕ → Bytes → Type 0
Lacks b [] = Unit {0}
Lacks b (x ∷ xs) = (¬ (x ≡ b)) × Lacks b xs

-- the text is empty or begins with the byte
abbrev pub Starts : ℕ → Bytes → Type 0
Starts b [] = Unit {0}
Starts b (x ∷ xs) = x ≡ b
