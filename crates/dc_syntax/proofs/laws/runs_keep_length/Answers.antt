use Rattle.dc_syntax.proofs.Runs.{Run-length}
use Rattle.dc_syntax.proofs.laws.runs_keep_length.Goals as goal

pub returns : goal.returns
returns c A s x t r = Run-length r
