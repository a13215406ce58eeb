use Rattle.dc_lp.proofs.Fills.{fills, entries_grow}
use Rattle.dc_lp.proofs.laws.fill.Goals as goal

pub returns-clause-gaps : goal.returns-clause-gaps
returns-clause-gaps c = fills

pub returns-clause-grows : goal.returns-clause-grows
returns-clause-grows c = entries_grow
