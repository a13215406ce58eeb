use Rattle.std.proofs.Common.{subst, map}
use Rattle.std.specs.String.{string_bytes}
use Rattle.clap.specs.Simple.{App}
use Rattle.clap.specs.Matches.{found_of}
use Rattle.dc_words.specs.Rules.{check}
use Rattle.dc_words.specs.Taken.{IsTaken}
use Rattle.dc_words.proofs.Asked.{first_in}
use Rattle.dc_words.proofs.reading.read_check.Goals as goal

pub returns-clause-ok : goal.returns-clause-ok
returns-clause-ok c =
    let words = map string_bytes c.args.words.now in
    let m = c.in_ok-matches.matches in
    let t : IsTaken check words m = subst (λ (app : App). IsTaken app words m) c.in_ok-check.ensures c.in_ok-matches.ensures.ok in
    let first = first_in (found_of m) _ t.rows in
    (t.taken, (first _ _ c.in_ok-text.ensures, first _ _ c.in_ok-text-2.ensures, first _ _ c.in_ok-text-3.ensures, first _ _ c.in_ok-text_if_given.ensures))
