use Rattle.std.proofs.Common.{◌≡◌, ◌∷◌, ◌++◌, take}
use Rattle.dc_rows.proofs.Listed.{near, sizes}
use Rattle.dc_rows.proofs.bounds.list_bounds.Given as goal

abbrev pub invariant-loop-literal : goal.invariant-loop-literal
invariant-loop-literal l = l.bounds.items ≡ near (0 ∷ take l.literal-index l.s.literals)

abbrev pub invariant-loop-atom : goal.invariant-loop-atom
invariant-loop-atom l = l.bounds.items ≡ near (0 ∷ (l.s.literals ++ sizes (take l.atom-index l.when)))
