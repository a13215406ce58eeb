-- Worked by hand: `while (i < n) { tick 2; i = i + 1; }` over n and i, with the condition 0 <= n && n <= 100 and with pairs.
use Rattle.std.specs.Prelude.{◌≡◌, ℕ, ◌*◌, List, [], ◌∷◌, map, length, ℤ, pos, negsuc, true, false, Some}
use Rattle.std.specs.List.{range_with_len}
use Rattle.std.proofs.Common.{refl}
use Rattle.dc_syntax.specs.declared.tree.Count.TheVariants as count
use Rattle.dc_affine.specs.declared.atom.Atom.{Atom}
use Rattle.dc_poly.specs.Sums.{constant}
use Rattle.dc_system.specs.declared.edges.Edge.{Edge}
use Rattle.dc_system.specs.declared.edges.System.{System}
use Rattle.dc_rows.specs.declared.kinds.RowFault.TheVariants.{TooLarge}
use Rattle.dc_rows.specs.Rows.{candidate_rows}
use Rattle.dc_rows.specs.Bounds.{candidate_bounds}
use Rattle.dc_rows.specs.Candidate.{candidates_of, size_fault}

abbrev atom : ℤ → List ℤ → Atom
atom c cs = record { c0 = c; coefs = cs }

-- rows speak of an edge's guard alone
abbrev guarded : List Atom → Edge
guarded g = record { from = 0; to = 0; guard = g; update = []; any = false; cost = constant (pos 0) 3 }

-- a guard that mentions the chosen value, which is the last place, is skipped
abbrev loop : System
loop = record {
  vars = 2;
  params = 1;
  locs = 4;
  edges = guarded (atom (negsuc 0) (pos 1 ∷ negsuc 0 ∷ pos 0 ∷ []) ∷ []) ∷ guarded (atom (pos 0) (negsuc 0 ∷ pos 1 ∷ pos 0 ∷ []) ∷ [])
      ∷ guarded [] ∷ guarded (atom (pos 0) (pos 7 ∷ pos 1 ∷ pos 1 ∷ []) ∷ []) ∷ [];
  literals = 1 ∷ 2 ∷ [];
}

abbrev small : List Atom
small = atom (pos 0) (pos 1 ∷ []) ∷ atom (pos 100) (negsuc 0 ∷ []) ∷ []

loop_rows : candidate_rows loop small true ≡
    (pos 1 ∷ pos 0 ∷ []) ∷ (negsuc 0 ∷ pos 0 ∷ []) ∷ (pos 0 ∷ pos 1 ∷ []) ∷ (pos 0 ∷ negsuc 0 ∷ [])
    ∷ (pos 1 ∷ negsuc 0 ∷ []) ∷ (negsuc 0 ∷ pos 1 ∷ []) ∷ (pos 1 ∷ pos 1 ∷ []) ∷ (negsuc 0 ∷ negsuc 0 ∷ []) ∷ []
loop_rows = refl

-- without pairs the guards' rows come last, in the order of the edges
single_loop_rows : candidate_rows loop small false ≡
    (pos 1 ∷ pos 0 ∷ []) ∷ (negsuc 0 ∷ pos 0 ∷ []) ∷ (pos 0 ∷ pos 1 ∷ []) ∷ (pos 0 ∷ negsuc 0 ∷ [])
    ∷ (pos 1 ∷ negsuc 0 ∷ []) ∷ (negsuc 0 ∷ pos 1 ∷ []) ∷ []
single_loop_rows = refl

loop_bounds : candidate_bounds loop small ≡
    negsuc 100 ∷ negsuc 99 ∷ negsuc 98 ∷ negsuc 2 ∷ negsuc 1 ∷ negsuc 0 ∷ pos 0 ∷ pos 1 ∷ pos 2 ∷ pos 3 ∷ pos 99 ∷ pos 100 ∷ pos 101 ∷ []
loop_bounds = refl

-- the literals 10, 20 to 430: 43 of them are too many, 42 are not
abbrev tens : ℕ → System
tens n = record { vars = 0; params = 0; locs = 44; edges = []; literals = map (λ k. k * 10) (range_with_len 1 n) }

too_many : size_fault (candidates_of (tens 43) [] false) ≡ Some (TooLarge count.Bounds 261)
too_many = refl

not_too_many : length (candidate_bounds (tens 42) []) ≡ 255
not_too_many = refl

-- a constant of the largest size has one neighbour less on each side
largest : candidate_bounds (tens 0) (atom (negsuc 2147483647) [] ∷ []) ≡
    negsuc 2147483647 ∷ negsuc 2147483646 ∷ negsuc 0 ∷ pos 0 ∷ pos 1 ∷ pos 2147483647 ∷ pos 2147483648 ∷ []
largest = refl
