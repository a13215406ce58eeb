-- Two plain programs cost a fixed difference apart, and it is the least threshold of their systems.
use Rattle.std.specs.Prelude.{◌≡◌, ◌⊎◌, ℕ, [], ◌∷◌, length, ℤ, pos, ◌-ℤ◌, None}
use Rattle.dc_math.specs.Rational.{of_ℤ}
use Rattle.dc_frac.specs.declared.Frac.{Frac}
use Rattle.dc_frac.specs.Value.{value}
use Rattle.dc_syntax.specs.declared.tree.Proc.{Proc}
use Rattle.dc_syntax.specs.Value.{State}
use Rattle.dc_syntax.specs.Params.{HaveSameParams}
use Rattle.dc_syntax.specs.Plain.{HasPlainCost}
use Rattle.dc_syntax.specs.Costs.{Costs}
use Rattle.dc_program.specs.Programs.{IsProgram}
use Rattle.dc_system.specs.declared.edges.System.{System}
use Rattle.dc_system.specs.Systems.{system_of, size_fault}
use Rattle.dc_system.specs.Folded.{IsFolded}
use Rattle.dc_rows.specs.declared.kinds.Candidates.{Candidates}
use Rattle.dc_rows.specs.Candidate.{AreCandidates}
use Rattle.dc_families.specs.Graphs.{graph_of}
use Rattle.dc_families.specs.Families.{family_of}
use Rattle.dc_families.specs.Rounds.{IsInductive}
use Rattle.dc_claims.specs.Duties.{Pair}
use Rattle.dc_claims.specs.Plans.{IsPair}
use Rattle.dc_claims.specs.Claims.{IsLeast}
use Rattle.dc_folding.specs.Folds.{IsPrintedPair}
use Rattle.dc_cert.specs.declared.certificate.Certificate.{Certificate}
use Rattle.dc_cert.specs.declared.certificate.Claim.{Claim}
use Rattle.dc_cert.specs.declared.certificate.Claim.TheVariants.{Threshold}
use Rattle.dc_cert.specs.Ranges.{IsCertificate}
use Rattle.dc_check.specs.Answers.{Accepts}

-- two programs over the same parameters, of `skip` and ticks of numbers alone, with the sums m and n
-- of their numbers
pub record ArePlain (new old : Proc) (m n : ℕ) : Type 0 where
  pub same_params : HaveSameParams new old
  pub new_sum : HasPlainCost new m
  pub old_sum : HasPlainCost old n

-- ---- runs
-- what two finished runs on one input cost apart is new's sum less old's, and each input has two
-- such runs
pub record HaveDifference (new old : Proc) (m n : ℕ) : Type 0 where
  pub apart : (v : State) (c d : ℤ) → Costs new v c → Costs old v d → c -ℤ d ≡ pos m -ℤ pos n
  pub run : (v : State) → length v ≡ new.params → Costs new v (pos m) × Costs old v (pos n)

abbrev pub PlainHaveDifference : Type 0
PlainHaveDifference = (new old : Proc) (m n : ℕ) → ArePlain new old m n → HaveDifference new old m n

-- ---- systems
-- the system of a program within the limits, as it is built or folded
pub record IsSystemOf (p : Proc) (s : System) : Type 0 where
  pub program : IsProgram p
  pub fits : size_fault p ≡ None
  pub system : (s ≡ system_of p) ⊎ IsFolded (system_of p) s

-- a pair of their systems, under the one case without atoms
pub record IsPairOf (new old : Proc) (p : Pair) : Type 0 where
  pub new_side : IsSystemOf new p.new
  pub old_side : IsSystemOf old p.old
  pub cases : p.cases ≡ [] ∷ []
  pub sizes : IsPair p

-- the atoms of both sides are inductive
pub record AreInductive (p : Pair) : Type 0 where
  pub new : IsInductive (graph_of p.new) p.cases (family_of p.new_atoms)
  pub old : IsInductive (graph_of p.old) p.cases (family_of p.old_atoms)

-- whatever the degree d of the potentials and the size k of the products
abbrev pub PlainAreLeast : Type 0
PlainAreLeast = (new old : Proc) (m n : ℕ) (p : Pair) (d k : ℕ)
    → ArePlain new old m n → IsPairOf new old p → AreInductive p
    → IsLeast p d k (of_ℤ (pos m -ℤ pos n))

-- and with the atoms that an analysis prints: those of the greatest families of candidates
pub record HavePrinted (p : Pair) (c e : Candidates) : Type 0 where
  pub new_candidates : AreCandidates p.new.vars c
  pub old_candidates : AreCandidates p.old.vars e
  pub printed : IsPrintedPair p c e

abbrev pub PrintedPlainAreLeast : Type 0
PrintedPlainAreLeast = (new old : Proc) (m n : ℕ) (p : Pair) (c e : Candidates) (d k : ℕ)
    → ArePlain new old m n → IsPairOf new old p → HavePrinted p c e
    → IsLeast p d k (of_ℤ (pos m -ℤ pos n))

-- any two systems of such programs stand in such a pair: that without atoms at any location
abbrev pub SystemsHavePair : Type 0
SystemsHavePair = (new old : Proc) (s t : System)
    → HaveSameParams new old → IsSystemOf new s → IsSystemOf old t
    → (p : Pair) × (p.new ≡ s) × (p.old ≡ t) × IsPairOf new old p × AreInductive p

-- ---- certificates
-- of plain programs, without a condition, the checker accepts the difference and no other claim
abbrev pub AcceptedSayDifference : Type 0
AcceptedSayDifference = (new old : Proc) (m n : ℕ) (c : Certificate) (claim : Claim)
    → ArePlain new old m n → IsProgram new → IsProgram old → IsCertificate c
    → Accepts new old ([] ∷ []) c claim
    → (t : Frac) × (claim ≡ Threshold t) × (value t ≡ of_ℤ (pos m -ℤ pos n))
