-- The first refusal of lists of problems that are joined.
use Rattle.std.specs.Prelude.{ℕ, List, ◌++◌, Result, Ok, Err, IfOk, IfErr}
use Rattle.std.proofs.Common.{inl, inr}
use Rattle.dc_simplex.specs.Limits.{Past, Out}
use Rattle.dc_entail.specs.Asked.{Asked, AllDone}
use Rattle.dc_entail.proofs.Refusals.{refusals_join}
use Rattle.dc_greatest.specs.declared.family.InvFault.{InvFault}
use Rattle.dc_greatest.specs.declared.family.InvFault.TheVariants.{Past128, Budget, NoMemory}
use Rattle.dc_greatest.specs.Answers.{IsFault}

-- of other words for the same lists
pub fault_to : (budget : ℕ) (P Q : List Asked → Type 0) → ((asked : List Asked) → P asked → Q asked) → (f : InvFault) → IsFault budget P f → IsFault budget Q f
fault_to budget P Q h (Past128 site k) (asked, p, r) = (asked, h asked p, r)
fault_to budget P Q h (Budget site) (asked, p, r) = (asked, h asked p, r)
fault_to budget P Q h NoMemory r = tt

-- of a part: whatever was asked before is done, and whatever would be asked after
pub fault_part : (budget : ℕ) (before after : List Asked) (P Q : List Asked → Type 0) → AllDone budget before → ((asked : List Asked) → P asked → Q (before ++ (asked ++ after)))
    → (f : InvFault) → IsFault budget P f → IsFault budget Q f
fault_part budget before after P Q d h (Past128 site k) (asked, p, r) =
    (before ++ (asked ++ after), h asked p, (refusals_join budget before (asked ++ after) site (Past k)).1 (inr (d, (refusals_join budget asked after site (Past k)).1 (inl r))))
fault_part budget before after P Q d h (Budget site) (asked, p, r) =
    (before ++ (asked ++ after), h asked p, (refusals_join budget before (asked ++ after) site (Out budget)).1 (inr (d, (refusals_join budget asked after site (Out budget)).1 (inl r))))
fault_part budget before after P Q d h NoMemory r = tt

-- where what follows depends on the part
pub fault_before : (budget : ℕ) (before : List Asked) (P Q : List Asked → Type 0) → AllDone budget before
    → ((asked : List Asked) → P asked → (after : List Asked) × Q (before ++ (asked ++ after))) → (f : InvFault) → IsFault budget P f → IsFault budget Q f
fault_before budget before P Q d h (Past128 site k) (asked, p, r) =
    let x = h asked p in
    (before ++ (asked ++ x.0), x.1, (refusals_join budget before (asked ++ x.0) site (Past k)).1 (inr (d, (refusals_join budget asked x.0 site (Past k)).1 (inl r))))
fault_before budget before P Q d h (Budget site) (asked, p, r) =
    let x = h asked p in
    (before ++ (asked ++ x.0), x.1, (refusals_join budget before (asked ++ x.0) site (Out budget)).1 (inr (d, (refusals_join budget asked x.0 site (Out budget)).1 (inl r))))
fault_before budget before P Q d h NoMemory r = tt

-- ---- lists that are done

-- ---- answers and refusals in other words
pub if_ok : {A E : Type 0} (P Q : A → Type 0) → ((x : A) → P x → Q x) → (r : Result A E) → IfOk r P → IfOk r Q
if_ok P Q h (Ok x) p = h x p
if_ok P Q h (Err e) p = tt

pub if_err : {A E : Type 0} (P Q : E → Type 0) → ((x : E) → P x → Q x) → (r : Result A E) → IfErr r P → IfErr r Q
if_err P Q h (Ok x) p = tt
if_err P Q h (Err e) p = h e p
