use Rattle.std.proofs.Common.{◌≡◌, Some, sym}
use Rattle.std.specs.Prelude.{slice_get}
use Rattle.std.specs.String.{string_bytes}
use Rattle.dc_words.proofs.Asked.{no_command, first_of_map}
use Rattle.dc_words.proofs.read_words.Goals as goal

pub returns-in_default-as_str-clause-usage : goal.returns-in_default-as_str-clause-usage
returns-in_default-as_str-clause-usage c = λ _.
    let at : slice_get c.args.words.now.items 0 ≡ Some c.in-Some.first.now = rw (← c.deref.ensures.value) (sym c.in-Some.ensures.value) in
    let first = first_of_map string_bytes c.args.words.now.items c.in-Some.first.now at in
    let is = c.as_str.ensures.value in
    no_command _ _ first (rw is at c.in_default-as_str.not-analyse) (rw is at c.in_default-as_str.not-check) (rw is at c.in_default-as_str.not-sample)
