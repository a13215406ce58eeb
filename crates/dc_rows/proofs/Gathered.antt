-- The stages of a gathering, and the rows of a system.
use Rattle.std.proofs.Common.{◌≡◌, ◌∙◌, Bool, true, false, if◌then◌else◌, List, [], ◌++◌, filter, ap, sym}
use Rattle.dc_affine.specs.declared.atom.Atom.{Atom}
use Rattle.dc_system.specs.declared.edges.System.{System}
use Rattle.dc_rows.specs.Rows.{Row, with_rows, single_rows, pair_rows, linear_parts, is_unchosen, guard_atoms, candidate_rows, rows_with_repeats}
use Rattle.dc_rows.proofs.Sets.{with-++, with-none}
use Rattle.dc_rows.proofs.Steps.{parts-++, unchosen_parts}

pub paired : (pairs : Bool) (a b p : List Row) → pairs ≡ true → b ≡ with_rows a p → b ≡ with_rows a (if pairs then p else [])
paired true a b p h e = e
paired false a b p h e = cc

pub unpaired : (pairs : Bool) (a b p : List Row) → pairs ≡ false → b ≡ a → b ≡ with_rows a (if pairs then p else [])
unpaired true a b p h e = cc
unpaired false a b p h e = e

pub gathered : (s : System) (when : List Atom) (pairs : Bool) (n a b c d : List Row) → n ≡ [] → a ≡ with_rows n (single_rows s.vars)
    → b ≡ with_rows a (if pairs then pair_rows s.vars else []) → c ≡ with_rows b (linear_parts s.vars when)
    → d ≡ with_rows c (unchosen_parts s.vars (guard_atoms s.edges)) → d ≡ candidate_rows s when pairs
gathered s when pairs n a b c d z h i j k =
    let p : List Row = if pairs then pair_rows s.vars else [] in
    let w : List Row = linear_parts s.vars when in
    let g : List Row = unchosen_parts s.vars (guard_atoms s.edges) in
    k ∙ ap (λ x. with_rows x g) (j ∙ ap (λ x. with_rows x w) (i ∙ ap (λ x. with_rows x p) (h ∙ ap (λ x. with_rows x (single_rows s.vars)) z)))
    ∙ sym (with-++ (with_rows (with_rows [] (single_rows s.vars)) p) w g)
    ∙ ap (with_rows (with_rows (with_rows [] (single_rows s.vars)) p)) (sym (parts-++ s.vars when (filter (is_unchosen s.vars) (guard_atoms s.edges))))
    ∙ sym (with-++ (with_rows [] (single_rows s.vars)) p (linear_parts s.vars (when ++ filter (is_unchosen s.vars) (guard_atoms s.edges))))
    ∙ sym (with-++ [] (single_rows s.vars) (p ++ linear_parts s.vars (when ++ filter (is_unchosen s.vars) (guard_atoms s.edges))))
    ∙ with-none (rows_with_repeats s when pairs)
