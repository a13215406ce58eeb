-- What holds of a refusal holds of the answer that hands it on.
use Rattle.std.proofs.Common.{◌≡◌, sym, subst}
use Rattle.std.specs.Prelude.{Ok, Err, IfErr, IsErrAnd}
use Rattle.std.specs.declared.result.Result.{Result}
use Rattle.dc_answers.specs.declared.refusal.Refusal.{Refusal}

pub handed_on : {X : Type 0} (answer : Result X Refusal) (r : Refusal) (P : Refusal → Type 0) → IsErrAnd answer (λ e. e ≡ r) → P r → IfErr answer P
handed_on (Ok _) r P h p = tt
handed_on (Err e) r P h p = subst P (sym h) p
