use Rattle.std.proofs.Common.{◌≡◌, take, length}
use Rattle.dc_duties.specs.Lent.{lent}
use Rattle.dc_table.specs.Tables.{equations_in}
use Rattle.dc_match.proofs.counts.equation_count.Given as goal

abbrev pub invariant-loop-duty : goal.invariant-loop-duty
invariant-loop-duty l = l.count ≡ length (equations_in (lent l.task.programs.now) l.task.degree l.task.products (take l.duty-index l.duties))
