use Rattle.dc_template.proofs.Stages.{Column}
use Rattle.dc_template.proofs.column.template_column.Given as goal

abbrev pub invariant-loop-k : goal.invariant-loop-k
invariant-loop-k l = Column l.update l.exponents l.k l.column
