use Rattle.std.proofs.Common.{◌≡◌, map, take}
use Rattle.std.specs.List.{AllByRecursion}
use Rattle.dc_coefficients.specs.Monomials.{all_terms}
use Rattle.dc_claims.specs.Blocks.{IsPart}
use Rattle.dc_claims.specs.Duties.{places_of}
use Rattle.dc_claims.specs.Parts.{part_of}
use Rattle.dc_duties.specs.Lent.{lent}
use Rattle.dc_duties.proofs.block.parts.Given as goal

abbrev pub invariant-loop-unknown : goal.invariant-loop-unknown
invariant-loop-unknown l = record {
  terms : all_terms l.list.items ≡ map (part_of (lent l.task.programs.now) l.task.degree l.duty) (take l.unknown-index l.unknown-items);
  kinds : AllByRecursion (IsPart (places_of (lent l.task.programs.now) l.duty) 2) l.list.items;
}
