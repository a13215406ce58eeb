-- What `check` answers: a claim that is so, or the first step that does not hold.
use Rattle.std.specs.Prelude.{◌≡◌, ◌⊎◌, ℕ, false, List, length, Option, Some, None}
use Rattle.dc_syntax.specs.declared.tree.Proc.{Proc}
use Rattle.dc_syntax.specs.declared.tree.Side.{Side}
use Rattle.dc_syntax.specs.declared.tree.Side.TheVariants.{New, Old}
use Rattle.dc_syntax.specs.declared.tree.Count.{Count}
use Rattle.dc_affine.specs.declared.atom.Atom.{Atom}
use Rattle.dc_system.specs.declared.edges.System.{System}
use Rattle.dc_system.specs.declared.edges.SystemFault.TheVariants as system
use Rattle.dc_system.specs.Systems.{size_fault}
use Rattle.dc_cert.specs.declared.certificate.Certificate.{Certificate}
use Rattle.dc_cert.specs.declared.certificate.Claim.{Claim}
use Rattle.dc_cert.specs.Claims.{claim_of}
use Rattle.dc_match.specs.declared.fault.MatchFault.{MatchFault}
use Rattle.dc_match.specs.declared.fault.MatchFault.TheVariants as main
use Rattle.dc_match.specs.Answers as match
use Rattle.dc_claims.specs.Parts.{unknowns_of}
use Rattle.dc_claims.specs.Problems.{main_problem}
use Rattle.dc_clauses.specs.declared.step.Step.{Step}
use Rattle.dc_clauses.specs.Steps.{AllHold, step, first_failure}
use Rattle.dc_clauses.specs.Sides.{family_steps}
use Rattle.dc_clauses.specs.Mains as mains
use Rattle.dc_check.specs.declared.fault.CheckFault.{CheckFault}
use Rattle.dc_check.specs.declared.fault.CheckFault.TheVariants.{Rejected, Past128, TooLarge, NoMemory}
use Rattle.dc_check.specs.Pairs.{pair, flags}
use Rattle.dc_check.specs.Systems.{HasSystems}
use Rattle.dc_check.specs.Claims.{ShowsClaim}

-- ---- clauses 7 to 13, over the main problem
module _ (s t : System) (cases : List (List Atom)) (c : Certificate) where
  abbrev pub claim_steps : List Step
  claim_steps =
      mains.claim_steps (main_problem (pair s t cases c) c.degree c.products (flags c))
      (length (unknowns_of (pair s t cases c) c.degree)) c.body

  -- the first limit that the main problem passes
  abbrev pub main_fault : Option MatchFault
  main_fault = match.size_fault (pair s t cases c) c.degree c.products (flags c)

  -- the clauses on families hold, and the main problem is within its limits
  pub record IsReady : Type 0 where
    pub families : AllHold (family_steps s t cases c)
    pub size : main_fault ≡ None

-- ---- a claim
-- all steps hold, and what the certificate claims is so
pub record Accepts (new old : Proc) (cases : List (List Atom)) (c : Certificate)
    (k : Claim) : Type 0 where
  pub new_system : System
  pub old_system : System
  pub systems : HasSystems new old c.version new_system old_system
  pub ready : IsReady new_system old_system cases c
  pub claims : AllHold (claim_steps new_system old_system cases c)
  pub claim : k ≡ claim_of c.body
  pub shows : ShowsClaim new old cases (pair new_system old_system cases c) c.degree c.products k

-- ---- the first step that does not hold
-- of the clauses on families, or where these hold and no limit is passed, of the others
abbrev pub IsFirst : System → System → List (List Atom) → Certificate → Step → Type 0
IsFirst s t cases c x =
    (first_failure (family_steps s t cases c) ≡ Some x)
    ⊎ (IsReady s t cases c × (first_failure (claim_steps s t cases c) ≡ Some x))

pub record FailsAt (new old : Proc) (cases : List (List Atom)) (c : Certificate)
    (x : Step) : Type 0 where
  pub new_system : System
  pub old_system : System
  pub systems : HasSystems new old c.version new_system old_system
  pub first : IsFirst new_system old_system cases c x

-- the main problem is the first that passes a limit
pub record IsTooWide (new old : Proc) (cases : List (List Atom)) (c : Certificate) (what : Count)
    (count : ℕ) : Type 0 where
  pub new_system : System
  pub old_system : System
  pub systems : HasSystems new old c.version new_system old_system
  pub families : AllHold (family_steps new_system old_system cases c)
  pub size : main_fault new_system old_system cases c ≡ Some (main.TooLarge what count)

abbrev pub IsTooLarge : Proc → Proc → List (List Atom) → Certificate → Option Side → Count → ℕ → Type 0
IsTooLarge new old cases c (Some New) what count = size_fault new ≡ Some (system.TooLarge what count)
IsTooLarge new old cases c (Some Old) what count =
    (size_fault new ≡ None) × (size_fault old ≡ Some (system.TooLarge what count))
IsTooLarge new old cases c None what count = IsTooWide new old cases c what count

-- want of memory is free
abbrev pub IsFault : Proc → Proc → List (List Atom) → Certificate → CheckFault → Type 0
IsFault new old cases c (Rejected clause index) =
    FailsAt new old cases c (step clause index (Some false))
IsFault new old cases c (Past128 clause index) = FailsAt new old cases c (step clause index None)
IsFault new old cases c (TooLarge side what count) = IsTooLarge new old cases c side what count
IsFault new old cases c NoMemory = Unit {0}
