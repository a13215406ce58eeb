use Rattle.std.proofs.Common.{◌≤◌, take, length}
use Rattle.dc_duties.specs.Lent.{lent}
use Rattle.dc_table.specs.Tables.{equations_in, IsTable, IsWeighed}
use Rattle.dc_match.proofs.problem.fill_table.Given as goal

abbrev pub invariant-loop-duty : goal.invariant-loop-duty
invariant-loop-duty l = record {
  table : IsTable (lent l.task.programs.now) l.task.degree l.task.products (take l.duty-index l.duties) l.table;
  weighed : IsWeighed l.duty-index l.table;
  within : length (equations_in (lent l.task.programs.now) l.task.degree l.task.products (take l.duty-index l.duties)) ≤ 2048;
}
