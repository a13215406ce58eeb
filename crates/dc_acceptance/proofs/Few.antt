-- There are at most as many printed atoms at a location as rows.
use Rattle.std.specs.Prelude.{◌≡◌, ℕ, ◌+◌, ◌≤◌, Bool, true, false, is_some, List, [], ◌∷◌, length, slice_index_or}
use Rattle.std.specs.List.{AllByRecursion, range_with_len}
use Rattle.std.proofs.Common.{refl, ap, arith, length-append}
use Rattle.std.proofs.lemmas.List.{length-map}
use Rattle.std.proofs.lemmas.List.FromFn.{length-range_with_len}
use Rattle.dc_math.specs.Members.{at_each}
use Rattle.dc_affine.specs.declared.atom.Atom.{Atom}
use Rattle.dc_rows.specs.declared.kinds.Candidates.{Candidates}
use Rattle.dc_families.specs.Graphs.{Graph}
use Rattle.dc_families.specs.Families.{Family, never, kept_rows, least_in, least_atom}
use Rattle.dc_families.specs.Printed.{Question, Pruned, done, drops, keeps, IsPrinted, ArePrinted}
use Rattle.dc_system.proofs.Filters.{length-filter}

module _ (c : Candidates) (J : Family) (l : ℕ) where
  left_few : {rows back left : List ℕ} {asked : List Question} → Pruned c J l rows back asked left → length left ≤ length rows + length back
  left_few done = omega arith
  left_few {rows = rows} {back = back} (drops {front = f} r e n rest) =
      let q = left_few rest in let s = ap length e in let t = length-append f (r ∷ []) in omega arith
  left_few {rows = rows} {back = back} (keeps {front = f} r e n rest) =
      let q = left_few rest in let s = ap length e in let t = length-append f (r ∷ []) in omega arith

  rows_few : length (kept_rows c J l) ≤ length c.rows
  rows_few = let q = length-filter (λ r. is_some (least_in c J l r)) (range_with_len 0 (length c.rows)) in let s = length-range_with_len 0 (length c.rows) in omega arith

  printed_few : (n k : ℕ) (printed : List Atom) (asked : List Question) → 1 ≤ k → length c.rows ≤ k → IsPrinted c J l n printed asked → length printed ≤ k
  printed_few n k printed asked one few h = by (J l (never n)) refl
    where
      by : (b : Bool) → J l (never n) ≡ b → length printed ≤ k
      by true e = let q = ap length (h.dead e).0 in omega arith
      by false e =
          let x = h.other e in
          let q = ap length x.is in
          let s = length-map x.left (least_atom c J l) in
          let t = left_few x.pruned in
          let u = rows_few in
          omega arith

pub few_printed : (s : Graph) (c : Candidates) (J : Family) (printed : List (List Atom)) (asked : List (List Question))
    → length c.rows ≤ 1024 → ArePrinted s c J printed asked → AllByRecursion (λ atoms. length atoms ≤ 1024) printed
few_printed s c J printed asked few h =
    at_each (λ atoms. length atoms ≤ 1024) printed []
    (λ l i. printed_few c J l s.vars 1024 (slice_index_or printed l []) (slice_index_or asked l []) (omega arith) few (h.each l (let e = h.one_each in omega arith)))
