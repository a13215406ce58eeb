-- The sizes of what the main problem is made of.
use Rattle.std.specs.Prelude.{◌≡◌, ℕ, ◌≤◌, Bool, true, false, ltb, if◌then◌else◌, List, [], ◌∷◌, length, Option, Some, None}
use Rattle.std.specs.List.{AllByRecursion}
use Rattle.std.specs.Option.{option_and_then}
use Rattle.std.proofs.Common.{refl, sym, ap₂, subst, arith}
use Rattle.std.proofs.lemmas.Bool.{ltb-false}
use Rattle.dc_syntax.specs.declared.tree.Count.TheVariants as count
use Rattle.dc_affine.specs.declared.atom.Atom.{Atom}
use Rattle.dc_affine.specs.Atoms.{IsFullAtom, AllCases}
use Rattle.dc_affine.proofs.Within.{full_within}
use Rattle.dc_program.specs.Programs.{AllShort, IsCondition}
use Rattle.dc_system.specs.declared.edges.Edge.{Edge}
use Rattle.dc_system.specs.declared.edges.System.{System}
use Rattle.dc_system.specs.Shapes.{IsWellFormed}
use Rattle.dc_cert.specs.declared.certificate.EdgeCert.{EdgeCert}
use Rattle.dc_rows.specs.declared.kinds.Candidates.{Candidates}
use Rattle.dc_rows.specs.Candidate.{AreCandidates}
use Rattle.dc_families.specs.Graphs.{Graph, graph_of}
use Rattle.dc_families.specs.Families.{Family}
use Rattle.dc_families.specs.Printed.{Question, ArePrinted}
use Rattle.dc_invariant.specs.Keeps.{AreEdgeParts}
use Rattle.dc_invariant.proofs.Whole.{printed_are_atoms}
use Rattle.dc_claims.specs.Plans as plans
use Rattle.dc_check.specs.Pairs.{edge_flags}
use Rattle.dc_match.specs.declared.fault.MatchFault.{MatchFault}
use Rattle.dc_match.specs.declared.fault.MatchFault.TheVariants as match
use Rattle.dc_session.specs.Refusals.{of_main}
use Rattle.dc_acceptance.proofs.Few.{few_printed}

-- ---- atoms
both_places : (n : ℕ) (lists : List (List Atom)) → AllByRecursion (λ atoms. length atoms ≤ 1024) lists → AllByRecursion (AllByRecursion (IsFullAtom n)) lists → AllByRecursion (plans.AreAtoms n) lists
both_places n [] h k = tt
both_places n (x ∷ lists) h k = (record { few = h.0; within = full_within n x k.0 }, both_places n lists h.1 k.1)

pub is_plan : (s : System) (c : Candidates) (J : Family) (printed : List (List Atom)) (asked : List (List Question)) → IsWellFormed s → AreCandidates s.vars c
    → ArePrinted (graph_of s) c J printed asked → plans.IsPlan s printed
is_plan s c J printed asked w kind h = record {
  system = w;
  one_each = h.one_each;
  each = both_places s.vars printed (few_printed (graph_of s) c J printed asked kind.few_rows h) (printed_are_atoms (graph_of s) c J printed asked kind h);
}

-- ---- cases
cases_fit : (n : ℕ) (cases : List (List Atom)) → AllShort 130 cases → AllCases (IsFullAtom n) cases → AllByRecursion (plans.IsCase n) cases
cases_fit n [] h g = tt
cases_fit n (case ∷ cases) h g = (record { few = (let l = h.0 in omega arith); within = full_within n case g.0 }, cases_fit n cases h.1 g.1)

pub are_cases : (n m : ℕ) (cases : List (List Atom)) → m ≡ n → IsCondition n cases → plans.AreCases m cases
are_cases n m cases e h = subst (λ k. plans.AreCases k cases) (sym e) (record { some = h.some; few = h.few; each = cases_fit n cases h.short h.atoms })

-- ---- one flag for each
pub edge_flags_are : (s : Graph) (printed : List (List Atom)) (budget : ℕ) (es : List Edge) (flags : List Bool) (xs : List EdgeCert) → length flags ≡ length es
    → AreEdgeParts s printed budget es flags xs → edge_flags xs ≡ flags
edge_flags_are s printed budget [] [] [] l h = refl
edge_flags_are s printed budget [] (b ∷ flags) xs l h = absurd (omega (arith, l))
edge_flags_are s printed budget [] [] (x ∷ xs) l h = absurd h
edge_flags_are s printed budget (e ∷ es) [] xs l h = absurd h
edge_flags_are s printed budget (e ∷ es) (b ∷ flags) [] l h = absurd h
edge_flags_are s printed budget (e ∷ es) (b ∷ flags) (x ∷ xs) l h = ap₂ ◌∷◌ h.0.flag (edge_flags_are s printed budget es flags xs (omega arith) h.1)

-- ---- a main problem within its limits has at most 8,192 columns
pub few_columns : (n : ℕ) (o : Option MatchFault) → option_and_then of_main (if ltb 8192 n then Some (match.TooLarge count.Columns n) else o) ≡ None → n ≤ 8192
few_columns n o e = by (ltb 8192 n) refl e
  where
    by : (b : Bool) → ltb 8192 n ≡ b → option_and_then of_main (if b then Some (match.TooLarge count.Columns n) else o) ≡ None → n ≤ 8192
    by true q f = absurd cc
    by false q f = ltb-false 8192 n q
