-- Worked by hand: of "tick n; tick -n;" the location between the two edges is folded, and the composed edge costs nothing.
use Rattle.std.specs.Prelude.{◌≡◌, ℕ, false, [], ◌∷◌, List, ℤ, pos, negsuc, None}
use Rattle.std.proofs.Common.{refl}
use Rattle.dc_syntax.specs.declared.tree.Side.TheVariants.{New}
use Rattle.dc_poly.specs.Terms.{Polynomial, polynomial, term}
use Rattle.dc_affine.specs.declared.atom.Atom.{Atom}
use Rattle.dc_system.specs.declared.edges.Edge.{Edge}
use Rattle.dc_system.specs.declared.edges.System.{System}
use Rattle.dc_system.specs.Folded.{fold_at}
use Rattle.dc_families.specs.Families.{Family}
use Rattle.dc_claims.specs.Duties.{Pair}
use Rattle.dc_folding.specs.Folds.{IsFoldable, without_location, without_atoms, lists_without, pair_without}

-- n, and its multiple, over n and the chosen value
abbrev times_n : ℤ → Polynomial
times_n k = polynomial 2 (term (1 ∷ 0 ∷ []) k ∷ [])

abbrev tick : ℕ → ℕ → Polynomial → Edge
tick k l cost = record { from = k; to = l; guard = []; update = times_n (pos 1) ∷ []; any = false; cost = cost }

abbrev ticks : System
ticks = record { vars = 1; params = 1; locs = 3; edges = tick 0 1 (times_n (pos 1)) ∷ tick 1 2 (times_n (negsuc 0)) ∷ []; literals = [] }

-- from 0 to 2, at cost 0
abbrev whole : Edge
whole = tick 0 2 (polynomial 2 [])

foldable : IsFoldable ticks 1 whole
foldable = refl

-- neither the entry nor the exit is foldable
entry_is_not : fold_at 1 2 ticks.edges 0 ≡ None
entry_is_not = refl

exit_is_not : fold_at 1 2 ticks.edges 2 ≡ None
exit_is_not = refl

left_over : without_location 1 whole ticks ≡ record { vars = 1; params = 1; locs = 3; edges = whole ∷ []; literals = [] }
left_over = refl

-- the atoms of that location alone are left out
abbrev at_least : ℤ → Atom
at_least b = record { c0 = b; coefs = pos 1 ∷ [] }

abbrev lists : List (List Atom)
lists = (at_least (pos 0) ∷ []) ∷ (at_least (pos 1) ∷ []) ∷ (at_least (pos 2) ∷ []) ∷ []

lists_left : lists_without 1 lists ≡ (at_least (pos 0) ∷ []) ∷ [] ∷ (at_least (pos 2) ∷ []) ∷ []
lists_left = refl

atoms_gone : (J : Family) (a : Atom) → without_atoms 1 J 1 a ≡ false
atoms_gone J a = refl

atoms_stay : (J : Family) (a : Atom) → without_atoms 1 J 2 a ≡ J 2 a
atoms_stay J a = refl

-- the other side and the condition stay
abbrev both_ticks : Pair
both_ticks = record { new = ticks; new_atoms = lists; old = ticks; old_atoms = lists; cases = [] ∷ [] }

pair_left : pair_without New 1 whole both_ticks ≡ record {
  new = record { vars = 1; params = 1; locs = 3; edges = whole ∷ []; literals = [] };
  new_atoms = (at_least (pos 0) ∷ []) ∷ [] ∷ (at_least (pos 2) ∷ []) ∷ [];
  old = ticks;
  old_atoms = lists;
  cases = [] ∷ [];
}
pair_left = refl
