-- Candidate bounds: numbers next to those that a program and its condition mention.
use Rattle.std.specs.Prelude.{ℕ, Bool, leb, if◌then◌else◌, List, [], ◌∷◌, ◌++◌, map, filter, flat_map, ℤ, pos, ◌+ℤ◌, ◌-ℤ◌, neg_ℤ, int_lt, unsigned_abs}
use Rattle.std.specs.Ordering.{int_eq}
use Rattle.dc_affine.specs.declared.atom.Atom.{Atom}
use Rattle.dc_affine.specs.Atoms.{most_constant}
use Rattle.dc_system.specs.declared.edges.System.{System}

-- 0, each literal, and the size of the constant of each atom of the condition
abbrev pub mentioned : System → List Atom → List ℕ
mentioned s when = 0 ∷ (s.literals ++ map (λ (a : Atom). unsigned_abs a.c0) when)

-- a number and its neighbours, and the same negated
abbrev pub around : ℕ → List ℤ
around c =
    (pos c -ℤ pos 1) ∷ pos c ∷ (pos c +ℤ pos 1) ∷ (pos 1 -ℤ pos c) ∷ neg_ℤ (pos c)
    ∷ (neg_ℤ (pos c) -ℤ pos 1) ∷ []

-- the largest size of a bound
abbrev pub largest_bound : ℕ
largest_bound = most_constant

abbrev pub is_within : ℤ → Bool
is_within b = leb (unsigned_abs b) largest_bound

-- into a rising list, unless it is there
abbrev pub with_bound : ℤ → List ℤ → List ℤ
with_bound b [] = b ∷ []
with_bound b (c ∷ cs) =
    if int_lt b c then b ∷ c ∷ cs else (if int_eq b c then c ∷ cs else c ∷ with_bound b cs)

abbrev pub rising : List ℤ → List ℤ
rising [] = []
rising (b ∷ bs) = with_bound b (rising bs)

abbrev pub candidate_bounds : System → List Atom → List ℤ
candidate_bounds s when = rising (filter is_within (flat_map around (mentioned s when)))
