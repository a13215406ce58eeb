-- Bytes, and lists of words and of lines as bytes.
use Rattle.std.specs.Prelude.{ℕ, List, [], ◌∷◌, ◌++◌}

abbrev pub Bytes : Type 0
Bytes = List ℕ

-- each with a space in front
abbrev pub spaced : {A : Type 0} → (A → Bytes) → List A → Bytes
spaced f [] = []
spaced f (x ∷ xs) = 32 ∷ (f x ++ spaced f xs)

-- each line ends with a line feed
abbrev pub ended : List Bytes → Bytes
ended [] = []
ended (l ∷ ls) = l ++ 10 ∷ ended ls
