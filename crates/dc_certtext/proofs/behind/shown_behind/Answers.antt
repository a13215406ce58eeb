use Rattle.dc_certtext.proofs.Afterword.{no_shown_behind}
use Rattle.dc_certtext.proofs.behind.shown_behind.Goals as goal

pub returns-in_default-3 : goal.returns-in_default-3
returns-in_default-3 c =
    no_shown_behind c.args.word.now c.args.line.now c.in-Some.rest.now c.in-Some.ensures (rw c.in_default-2.is at c.in_ok-s.ensures) (rw c.in_default-3.is at c.in_ok-s-2.ensures)
