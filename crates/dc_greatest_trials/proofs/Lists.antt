-- Atoms and flags of the cases of a condition, one after another.
use Rattle.std.specs.List.{AllByRecursion}
use Rattle.std.proofs.Common.{◌≡◌, ℕ, zero, suc, ◌<◌, Bool, true, List, [], ◌∷◌, ◌++◌, length, take, refl, sym, subst, arith}
use Rattle.std.specs.Prelude.{slice_index_or}
use Rattle.dc_affine.specs.declared.atom.Atom.{Atom}
use Rattle.dc_affine.specs.Atoms.{AllCases, IsAtom, IsFullAtom}
use Rattle.dc_affine.proofs.Within.{full_within}
use Rattle.dc_points.specs.Points.{MeetsAll, Point}
use Rattle.dc_points.specs.Flags.{IsFlag, AreFlags}
use Rattle.dc_points.proofs.Flags.{flags_push}
use Rattle.dc_greatest.proofs.CasesSoFar.{take_next}
use Rattle.dc_math.specs.Members.{each-++}

pub flag_live : (hyps : List Atom) (p : Point) → MeetsAll p hyps → IsFlag true hyps
flag_live hyps p h = (λ e d. d p h, λ n. refl)

pub next_flag : (bs cs : List Bool) (cases : List (List Atom)) (k m : ℕ) (b : Bool) (h d : List Atom) → m ≡ suc k → k < length cases → cs ≡ bs ++ b ∷ [] → h ≡ slice_index_or cases k d
    → AreFlags bs (take k cases) → IsFlag b h → AreFlags cs (take m cases)
next_flag bs cs cases k m b h d e l p q f g =
    rw (e, p) (subst (AreFlags (bs ++ b ∷ [])) (sym (take_next cases k d l)) (flags_push bs (take k cases) b (slice_index_or cases k d) f (subst (IsFlag b) q g)))

case_at : (n : ℕ) (cases : List (List Atom)) (k : ℕ) (d : List Atom) → k < length cases → AllCases (IsFullAtom n) cases → AllByRecursion (IsFullAtom n) (slice_index_or cases k d)
case_at n [] k d l h = absurd (omega arith)
case_at n (c ∷ cases) zero d l h = h.0
case_at n (c ∷ cases) (suc k) d l h = case_at n cases k d (omega arith) h.1

pub case_here : (n : ℕ) (cases : List (List Atom)) (k : ℕ) (h d : List Atom) → k < length cases → h ≡ slice_index_or cases k d → AllCases (IsFullAtom n) cases → AllByRecursion (IsFullAtom n) h
case_here n cases k h d l q g = subst (AllByRecursion (IsFullAtom n)) (sym q) (case_at n cases k d l g)

pub more_atoms : (n : ℕ) (all new atoms : List Atom) → new ≡ all ++ atoms → AllByRecursion (IsAtom n) all → AllByRecursion (IsFullAtom n) atoms → AllByRecursion (IsAtom n) new
more_atoms n all new atoms e h g = subst (AllByRecursion (IsAtom n)) (sym e) (each-++ (IsAtom n) all atoms h (full_within n atoms g))
