use Rattle.std.proofs.Common.{◌∙◌, arith, sym, ap}
use Rattle.dc_math.specs.Tests.{is_zero}
use Rattle.dc_sparse.proofs.HeldEntries.{held-none, held-zero}
use Rattle.dc_sparse.proofs.scaled.Scaled.fill.Goals as goal

pub returns-clause-ok : goal.returns-clause-ok
returns-clause-ok c i k li lk = c.gather_all.ensures.entries i k ∙ held-none _ i k (c.requires.fractions i (omega arith)) ∙ c.in_ok-fill.ensures.ok.entries i k li (omega arith) lk

pub returns-clause-part : goal.returns-clause-part
returns-clause-part c = record {
  each = λ i k li lk e. ap is_zero (sym (returns-clause-ok c i k li lk)) ∙ held-zero c.gather_all.new.self i k ∙ e;
}
