use Rattle.std.proofs.Common.{◌≡◌, ◌∙◌, subst, map, sym, rules, false}
use Rattle.std.specs.String.{string_bytes}
use Rattle.clap.specs.Simple.{App, app_of}
use Rattle.clap.specs.Walk.{Row}
use Rattle.clap.specs.Matches.{found_of}
use Rattle.std.specs.Prelude.{List}
use Rattle.dc_words.specs.Rules.{analyse_with}
use Rattle.dc_words.specs.Taken.{IsTaken, takes_line}
use Rattle.dc_words.specs.Reading.{IsSettings}
use Rattle.dc_words.proofs.Asked.{first_in}
use Rattle.dc_words.proofs.Independent.{takes_same, rows_same}
use Rattle.dc_words.proofs.reading.read_analyse.Goals as goal

pub returns-in_err-matches-clause-usage : goal.returns-in_err-matches-clause-usage
returns-in_err-matches-clause-usage c = λ e.
    let words = map string_bytes c.args.words.now in
    let made = c.in_ok-analyse.ensures in
    let refused : takes_line (app_of c.in_ok-analyse.field-0) words ≡ false = search rules in
    sym (takes_same made.0 made.1 words) ∙ subst (λ (app : App). takes_line app words ≡ false) made.2 refused

pub returns-clause-ok : goal.returns-clause-ok
returns-clause-ok c =
    let words = map string_bytes c.args.words.now in
    let m = c.in_ok-matches.matches in
    let made = c.in_ok-analyse.ensures in
    let t : IsTaken (analyse_with made.0) words m = subst (λ (app : App). IsTaken app words m) made.2 c.in_ok-matches.ensures.ok in
    let rows = t.rows ∙ rows_same made.0 made.1 words in
    let first = first_in (found_of m) _ rows in (
      sym (takes_same made.0 made.1 words) ∙ t.taken,
      (
        first _ _ c.in_ok-text.ensures,
        first _ _ c.in_ok-text-2.ensures,
        first _ _ c.in_ok-text_if_given.ensures,
        subst (λ (r : List Row). IsSettings r c.settings_of.result) rows c.settings_of.ensures,
      ),
    )
