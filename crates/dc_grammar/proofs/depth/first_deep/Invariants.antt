use Rattle.std.proofs.Common.{◌≡◌, ◌≤◌, take}
use Rattle.dc_grammar.specs.Depth.{IsDeep, open_brackets, operators_so_far}
use Rattle.dc_grammar.specs.Verdicts.{Shallow}
use Rattle.dc_grammar.proofs.depth.first_deep.Given as goal

abbrev pub invariant-loop-index : goal.invariant-loop-index
invariant-loop-index l = record {
  few_brackets : l.brackets ≤ 64;
  few_operators : l.operators ≤ 64;
  brackets : l.brackets ≡ open_brackets (take l.index l.tokens);
  operators : l.operators ≡ operators_so_far (take l.index l.tokens);
  shallow : Shallow IsDeep l.tokens l.index;
}
