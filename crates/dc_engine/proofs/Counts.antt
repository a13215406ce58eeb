-- Counts that pass their limits, in order.
use Rattle.std.specs.Prelude.{◌≡◌, ◌⊎◌, ℕ, List, [], ◌∷◌, ◌++◌, flat_map, Option, Some, None}
use Rattle.std.specs.List.{AllByRecursion}
use Rattle.std.specs.Option.{option_and_then}
use Rattle.std.proofs.Common.{sym, ◌∙◌, ap, ap₂, subst, inl, inr}
use Rattle.dc_syntax.specs.declared.tree.Proc.{Proc}
use Rattle.dc_syntax.specs.declared.tree.Side.{Side}
use Rattle.dc_syntax.specs.declared.tree.Side.TheVariants.{New, Old}
use Rattle.dc_affine.specs.declared.atom.Atom.{Atom}
use Rattle.dc_affine.specs.Atoms.{IsAtom, IsFullAtom}
use Rattle.dc_affine.proofs.Within.{flat_atoms}
use Rattle.dc_system.specs.declared.edges.System.{System}
use Rattle.dc_system.specs.declared.edges.SystemFault.{SystemFault}
use Rattle.dc_system.specs.declared.edges.SystemFault.TheVariants as system
use Rattle.dc_system.specs.Systems.{system_of}
use Rattle.dc_system.specs.Shapes.{IsWellFormed}
use Rattle.dc_system.specs.Folded.{IsFolded}
use Rattle.dc_rows.specs.declared.kinds.RowFault.{RowFault}
use Rattle.dc_rows.specs.declared.kinds.RowFault.TheVariants as row
use Rattle.dc_rows.specs.declared.kinds.Candidates.{Candidates}
use Rattle.dc_rows.specs.Candidate.{candidates_of, AreCandidates}
use Rattle.dc_match.specs.declared.fault.MatchFault.{MatchFault}
use Rattle.dc_match.specs.declared.fault.MatchFault.TheVariants as match
use Rattle.dc_session.specs.declared.fault.AnalyseFault.{AnalyseFault}
use Rattle.dc_session.specs.declared.fault.AnalyseFault.TheVariants.{TooLarge, Past128, Budget, NoMemory}
use Rattle.dc_session.specs.Session.{Input, candidates_for}
use Rattle.dc_session.specs.Answers.{IsInput}
use Rattle.dc_session.specs.Refusals.{Excess, first_of, of_system, of_rows, of_main, system_excess, rows_excess, early_excess}
use Rattle.dc_engine.specs.Faults.{system_fault_of, row_fault_of, match_fault_of, IsExcess}
use Rattle.dc_engine.specs.declared.lent.Version.{Version}
use Rattle.dc_engine.specs.Parts.{IsVersion}

-- ---- one count
pub system_excess_of : (side : Side) (o : Option SystemFault) (f : SystemFault) → (f ≡ system.NoMemory) ⊎ (o ≡ Some f)
    → IsExcess (option_and_then (of_system side) o) (system_fault_of side f)
system_excess_of side o (system.TooLarge what n) (inl e) = absurd cc
system_excess_of side o (system.TooLarge what n) (inr e) = ap (option_and_then (of_system side)) e
system_excess_of side o system.NoMemory h = tt

pub rows_excess_of : (side : Side) (o : Option RowFault) (f : RowFault) → (f ≡ row.NoMemory) ⊎ (o ≡ Some f)
    → IsExcess (option_and_then (of_rows side) o) (row_fault_of side f)
rows_excess_of side o (row.TooLarge what n) (inl e) = absurd cc
rows_excess_of side o (row.TooLarge what n) (inr e) = ap (option_and_then (of_rows side)) e
rows_excess_of side o row.NoMemory h = tt

pub main_excess_of : (o : Option MatchFault) (f : MatchFault) → (f ≡ match.NoMemory) ⊎ (o ≡ Some f)
    → IsExcess (option_and_then of_main o) (match_fault_of f)
main_excess_of o (match.TooLarge what n) (inl e) = absurd cc
main_excess_of o (match.TooLarge what n) (inr e) = ap (option_and_then of_main) e
main_excess_of o match.NoMemory h = tt

-- ---- the first of several
excess_first : (o : Option Excess) (xs : List (Option Excess)) (f : AnalyseFault) → IsExcess o f → IsExcess (first_of (o ∷ xs)) f
excess_first o xs (TooLarge side what n) h = ap (λ p. first_of (p ∷ xs)) h
excess_first o xs (Past128 p) h = h
excess_first o xs (Budget q) h = h
excess_first o xs NoMemory h = tt

skips : (o : Option Excess) (xs : List (Option Excess)) → o ≡ None → first_of (o ∷ xs) ≡ first_of xs
skips o xs e = ap (λ p. first_of (p ∷ xs)) e

excess_later : (o : Option Excess) (xs : List (Option Excess)) (f : AnalyseFault) → o ≡ None → IsExcess (first_of xs) f → IsExcess (first_of (o ∷ xs)) f
excess_later o xs f e h = subst (λ p. IsExcess p f) (sym (skips o xs e)) h

module _ (i : Input) where
  abbrev a : Option Excess
  a = system_excess New i.new

  abbrev b : Option Excess
  b = system_excess Old i.old

  abbrev c : Option Excess
  c = rows_excess New (candidates_for i i.new)

  abbrev d : Option Excess
  d = rows_excess Old (candidates_for i i.old)

  pub new_system_excess : (f : AnalyseFault) → IsExcess a f → IsExcess (early_excess i) f
  new_system_excess f h = excess_first a (b ∷ c ∷ d ∷ []) f h

  pub old_system_excess : (f : AnalyseFault) → a ≡ None → IsExcess b f → IsExcess (early_excess i) f
  old_system_excess f e h = excess_later a (b ∷ c ∷ d ∷ []) f e (excess_first b (c ∷ d ∷ []) f h)

  pub new_rows_excess : (f : AnalyseFault) → a ≡ None → b ≡ None → IsExcess c f → IsExcess (early_excess i) f
  new_rows_excess f e g h = excess_later a (b ∷ c ∷ d ∷ []) f e (excess_later b (c ∷ d ∷ []) f g (excess_first c (d ∷ []) f h))

  pub old_rows_excess : (f : AnalyseFault) → a ≡ None → b ≡ None → c ≡ None → IsExcess d f → IsExcess (early_excess i) f
  old_rows_excess f e g k h =
      excess_later a (b ∷ c ∷ d ∷ []) f e (excess_later b (c ∷ d ∷ []) f g (excess_later c (d ∷ []) f k (excess_first d [] f h)))

  pub no_excess : a ≡ None → b ≡ None → c ≡ None → d ≡ None → early_excess i ≡ None
  no_excess e g k h = skips a (b ∷ c ∷ d ∷ []) e ∙ skips b (c ∷ d ∷ []) g ∙ skips c (d ∷ []) k ∙ skips d [] h

-- ---- the atoms of all cases
join_atoms : (n : ℕ) (xs ys : List Atom) → AllByRecursion (IsFullAtom n) xs → AllByRecursion (IsAtom n) ys → AllByRecursion (IsAtom n) (xs ++ ys)
join_atoms n [] ys h k = k
join_atoms n (x ∷ xs) ys h k = (h.0.within, join_atoms n xs ys h.1 k)

-- those that a system before folding is lent with
module _ (i : Input) (input : IsInput i) (atoms : List Atom) (flat : atoms ≡ flat_map (λ case. case) i.cases) where
  pub new_atoms : (s : System) → s ≡ system_of i.new → AllByRecursion (IsAtom s.params) atoms
  new_atoms s e =
      subst (λ (t : System). AllByRecursion (IsAtom t.params) atoms) (sym e)
      (subst (AllByRecursion (IsAtom i.new.params)) (sym flat) (flat_atoms i.new.params i.cases input.condition.atoms))

  pub old_atoms : (s : System) → s ≡ system_of i.old → AllByRecursion (IsAtom s.params) atoms
  old_atoms s e =
      subst (λ (t : System). AllByRecursion (IsAtom t.params) atoms) (sym e)
      (subst (λ n. AllByRecursion (IsAtom n) atoms) input.params.0
      (subst (AllByRecursion (IsAtom i.new.params)) (sym flat) (flat_atoms i.new.params i.cases input.condition.atoms)))

  pub candidates_same : (p : Proc) (s : System) → s ≡ system_of p → candidates_of s atoms i.settings.pairs ≡ candidates_for i p
  candidates_same p s e = ap₂ (λ t zs. candidates_of t zs i.settings.pairs) e flat

-- ---- a version
pub version_of : (i : Input) (p : Proc) (s : System) (v : Version) (c : Candidates) → s ≡ system_of p → p.params ≡ i.new.params
    → IsFolded s v.system → IsWellFormed v.system → v.candidates ≡ c → c ≡ candidates_for i p → AreCandidates s.vars c → IsVersion i p v
version_of i p s v c e ps f w g h k =
    let folded : IsFolded (system_of p) v.system = subst (λ t. IsFolded t v.system) e f in
    record {
      folded = folded;
      well_formed = w;
      params = ap (λ (t : System). t.params) folded.is ∙ ps;
      candidates = g ∙ h;
      kind = subst (λ n. AreCandidates n v.candidates) (sym (ap (λ (t : System). t.vars) f.is)) (subst (AreCandidates s.vars) (sym g) k);
    }
