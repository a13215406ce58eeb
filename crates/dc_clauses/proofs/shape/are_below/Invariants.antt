use Rattle.std.proofs.Common.{◌≡◌, drop}
use Rattle.std.specs.List.{list_all}
use Rattle.dc_cert.specs.Vectors.{in_range}
use Rattle.dc_clauses.proofs.shape.are_below.Given as goal

abbrev pub invariant-loop-keep : goal.invariant-loop-keep
invariant-loop-keep l = list_all (in_range l.count) (drop l.keep-index l.keeps) ≡ list_all (in_range l.count) l.keeps
