use Rattle.std.proofs.Common.{◌≡◌, drop}
use Rattle.dc_clauses.specs.Sides.{entry_fits}
use Rattle.dc_clauses.proofs.shape.entry_fits.Given as goal

abbrev pub invariant-loop-k : goal.invariant-loop-k
invariant-loop-k l = entry_fits l.atoms (drop l.k l.cases) (drop l.k l.when) (drop l.k l.keeps) ≡ entry_fits l.atoms l.cases l.when l.keeps
