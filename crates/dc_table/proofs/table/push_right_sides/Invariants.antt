use Rattle.std.proofs.Common.{◌≡◌, ◌++◌, map, take}
use Rattle.dc_poly.specs.Terms.{coef}
use Rattle.dc_poly.specs.Sums.{negated}
use Rattle.dc_table.proofs.table.push_right_sides.Given as goal

abbrev pub invariant-loop-mono : goal.invariant-loop-mono
invariant-loop-mono l = l.b.items ≡ l.initial.b.items ++ map (coef (negated l.rest.terms)) (take l.mono-index l.monos)
