-- Printed atoms have a coefficient for each variable, and the sizes of an atom.
use Rattle.std.specs.Prelude.{◌≡◌, ℕ, ◌≤◌, Bool, true, false, List, [], ◌∷◌, ◌++◌, pos, unsigned_abs}
use Rattle.std.specs.List.{AllByRecursion}
use Rattle.std.proofs.Common.{refl, sym, subst, arith}
use Rattle.std.proofs.lemmas.Int.{ints}
use Rattle.std.proofs.lemmas.List.{length-replicate}
use Rattle.dc_math.specs.Members.{Among, each_left, at_each, each_among, among_each, at_among}
use Rattle.dc_affine.specs.declared.atom.Atom.{Atom}
use Rattle.dc_affine.specs.Atoms.{IsFullAtom}
use Rattle.dc_affine.proofs.Within.{zeros_fit}
use Rattle.dc_rows.specs.declared.kinds.Candidates.{Candidates}
use Rattle.dc_rows.specs.Bounds.{largest_bound}
use Rattle.dc_rows.specs.Candidate.{row_at, IsRow, AreCandidates}
use Rattle.dc_families.specs.Families.{Family, never, bounded, or_zero, kept_rows, least_atom}
use Rattle.dc_families.specs.Printed.{Question, Pruned, done, drops, keeps, IsPrinted}
use Rattle.dc_families.proofs.Lists.{find_is}
use Rattle.dc_families.proofs.Upward.{kept_is}
use Rattle.dc_invariant.specs.Laws.{PrintedAreAtoms}
use Rattle.dc_invariant.proofs.Steps.{all_mapped}

module _ {A : Type 0} (P : A → Type 0) where
  last_too : (xs : List A) (y : A) → AllByRecursion P (xs ++ y ∷ []) → P y
  last_too [] y h = h.0
  last_too (x ∷ xs) y h = last_too xs y h.1

module _ (n : ℕ) (c : Candidates) (J : Family) (l : ℕ) (kind : AreCandidates n c) where
  abbrev IsFullRow : ℕ → Type 0
  IsFullRow r = IsFullAtom n (least_atom c J l r)

  kept_full : AllByRecursion IsFullRow (kept_rows c J l)
  kept_full = among_each IsFullRow (kept_rows c J l) one
    where
      one : (r : ℕ) → Among r (kept_rows c J l) → IsFullRow r
      one r m =
          let k = kept_is c J l r m in
          let f = find_is (λ b. J l (bounded (row_at c r) b)) k.1.0 c.bounds k.1.1 in
          let row = each_among (IsRow n) kind.rows (at_among [] c.rows r k.0) in
          record {
            one_each = row.one_each;
            within = record {
              few = (let q = row.one_each in omega arith);
              coefs_within = row.within;
              constant_within = subst (λ o. unsigned_abs (or_zero o) ≤ largest_bound) (sym k.1.1) (each_among (λ b. unsigned_abs b ≤ largest_bound) kind.bounds_within f.0);
            };
          }

  left_full : {rows back left : List ℕ} {asked : List Question} → Pruned c J l rows back asked left
      → AllByRecursion IsFullRow rows → AllByRecursion IsFullRow back → AllByRecursion IsFullRow left
  left_full done h k = k
  left_full (drops {front = f} r e n rest) h k = left_full rest (each_left IsFullRow f (r ∷ []) (subst (AllByRecursion IsFullRow) e h)) k
  left_full (keeps {front = f} r e n rest) h k =
      let w = subst (AllByRecursion IsFullRow) e h in
      left_full rest (each_left IsFullRow f (r ∷ []) w) (last_too IsFullRow f r w, k)

  printed_full : (printed : List Atom) (asked : List Question) → IsPrinted c J l n printed asked → AllByRecursion (IsFullAtom n) printed
  printed_full printed asked h = by (J l (never n)) refl
    where
      false_full : IsFullAtom n (never n)
      false_full = record {
        one_each = length-replicate n (pos 0);
        within = record { few = (let q = length-replicate n (pos 0) in omega arith); coefs_within = zeros_fit n; constant_within = omega (arith, ints) };
      }

      by : (b : Bool) → J l (never n) ≡ b → AllByRecursion (IsFullAtom n) printed
      by true e = subst (AllByRecursion (IsFullAtom n)) (sym (h.dead e).0) (false_full, tt)
      by false e =
          let p = h.other e in
          subst (AllByRecursion (IsFullAtom n)) (sym p.is) (all_mapped IsFullRow (IsFullAtom n) (least_atom c J l) p.left (left_full p.pruned kept_full tt) (λ r f. f))

pub printed_are_atoms : PrintedAreAtoms
printed_are_atoms s c J printed asked kind h =
    at_each (AllByRecursion (IsFullAtom s.vars)) printed [] (λ l i. printed_full s.vars c J l kind _ _ (h.each l (let e = h.one_each in omega arith)))
