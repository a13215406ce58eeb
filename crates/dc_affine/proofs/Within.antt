-- Atoms within their sizes: full atoms, the atoms of all cases, and coefficients that are cut or all 0.
use Rattle.std.specs.Prelude.{ℕ, zero, suc, ℤ, pos, List, [], ◌∷◌, take, replicate, flat_map}
use Rattle.std.specs.List.{AllByRecursion}
use Rattle.std.proofs.Common.{arith}
use Rattle.dc_math.specs.Members.{each-++}
use Rattle.dc_affine.specs.declared.atom.Atom.{Atom}
use Rattle.dc_affine.specs.Atoms.{AllFit, IsAtom, IsFullAtom, AllCases}

-- one that has a coefficient for each place is one that has no more
pub full_within : (n : ℕ) (atoms : List Atom) → AllByRecursion (IsFullAtom n) atoms → AllByRecursion (IsAtom n) atoms
full_within n [] h = tt
full_within n (a ∷ atoms) h = (h.0.within, full_within n atoms h.1)

pub flat_atoms : (n : ℕ) (cases : List (List Atom)) → AllCases (IsFullAtom n) cases → AllByRecursion (IsAtom n) (flat_map (λ case. case) cases)
flat_atoms n [] h = tt
flat_atoms n (case ∷ cases) h = each-++ (IsAtom n) case (flat_map (λ case. case) cases) (full_within n case h.0) (flat_atoms n cases h.1)

pub take_fits : (k : ℕ) (cs : List ℤ) → AllFit cs → AllFit (take k cs)
take_fits zero cs h = tt
take_fits (suc k) [] h = tt
take_fits (suc k) (c ∷ cs) h = (h.0, take_fits k cs h.1)

pub zeros_fit : (n : ℕ) → AllFit (replicate n (pos 0))
zeros_fit zero = tt
zeros_fit (suc n) = (omega arith, zeros_fit n)
