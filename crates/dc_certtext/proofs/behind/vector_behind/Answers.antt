use Rattle.dc_certtext.proofs.Afterword.{no_vector_behind}
use Rattle.dc_certtext.proofs.behind.vector_behind.Goals as goal

pub returns-in_default-2 : goal.returns-in_default-2
returns-in_default-2 c = no_vector_behind c.args.word.now c.args.line.now c.in-Some.rest.now c.in-Some.ensures (rw c.in_default-2.is at c.in_ok-s.ensures)
