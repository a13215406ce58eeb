-- What it is to put a number on a list.
use Rattle.std.specs.Prelude.{◌≡◌, ℕ, ◌<◌, ◌||◌, eqb, List}
use Rattle.dc_worklist.specs.Listed.{Listed, IsList, is_listed, with_number}

-- the numbers are those that were there and the new one, still below the bound and rising
abbrev pub NumbersAreAdded : Type 0
NumbersAreAdded = (k i : ℕ) (ks : List ℕ) → is_listed i (with_number k ks) ≡ (eqb i k || is_listed i ks)

abbrev pub ListsStayLists : Type 0
ListsStayLists =
    (w : Listed) (k : ℕ) → k < w.edges → IsList w
    → IsList (record { edges = w.edges; numbers = with_number k w.numbers })

-- a rising list is told by what is on it
abbrev pub ListsAreSets : Type 0
ListsAreSets = (v w : Listed) → v.edges ≡ w.edges → IsList v → IsList w
    → ((i : ℕ) → is_listed i v.numbers ≡ is_listed i w.numbers) → v ≡ w
