use Rattle.std.specs.Prelude.{◌≡◌, ℤ, List, MatchOption}
use Rattle.std.proofs.Common.{subst}
use Rattle.dc_lines.specs.Fields.{AreFields, fields_text}
use Rattle.dc_tracetext.proofs.Fields.{no_list}
use Rattle.dc_tracetext.proofs.stage.read_list.Goals as goal

pub returns-in-None : goal.returns-in-None
returns-in-None c =
    no_list c.args.word.now c.args.line.now c.in-Some.rest.now c.in-Some.ensures
    (subst (λ o. MatchOption o ((zs : List ℤ) → AreFields zs → ¬ (fields_text zs ≡ c.in-Some.rest.now)) (λ v. AreFields v.items × (fields_text v.items ≡ c.in-Some.rest.now))) c.in-None.is c.in_ok-list.ensures)
