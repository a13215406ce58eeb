use Rattle.std.specs.List.{AllByRecursion}
use Rattle.std.proofs.Common.{◌≡◌, ℕ, ◌≤◌, List, [], ◌∷◌, length, get_or, sym, subst, arith}
use Rattle.dc_affine.specs.declared.atom.Atom.{Atom}
use Rattle.dc_affine.specs.Atoms.{AllCases, IsAtom, IsFullAtom}
use Rattle.dc_rows_trials.proofs.asked.first.Goals as goal

within : (n : ℕ) (atoms : List Atom) → AllByRecursion (IsFullAtom n) atoms → AllByRecursion (IsAtom n) atoms
within n [] h = tt
within n (a ∷ atoms) h = (h.0.within, within n atoms h.1)

front : (n : ℕ) (cases : List (List Atom)) (c : List Atom) → 1 ≤ length cases → c ≡ get_or cases 0 c → AllCases (IsFullAtom n) cases → AllByRecursion (IsAtom n) c
front n [] c l e h = absurd (omega arith)
front n (d ∷ cases) c l e h = subst (AllByRecursion (IsAtom n)) (sym e) (within n d h.0)

pub returns-in-len1-up : goal.returns-in-len1-up
returns-in-len1-up c =
    subst (AllByRecursion (IsAtom c.args.places)) (sym c.as_slice.ensures) (front c.args.places c.args.cases.now c.case-item.result c.in-len1-up.len_at_least c.case-item.is c.requires)
