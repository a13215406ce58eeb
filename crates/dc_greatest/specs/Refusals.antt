-- The refusal of a problem, with its site.
use Rattle.dc_entail.specs.declared.answer.Site.{Site}
use Rattle.dc_simplex.specs.declared.SolveFault.{SolveFault}
use Rattle.dc_simplex.specs.declared.SolveFault.TheVariants as solve
use Rattle.dc_greatest.specs.declared.family.InvFault.{InvFault}
use Rattle.dc_greatest.specs.declared.family.InvFault.TheVariants.{Past128, Budget, NoMemory}

abbrev pub with_site : Site → SolveFault → InvFault
with_site q (solve.Past128 k) = Past128 q k
with_site q (solve.Budget n) = Budget q
with_site q solve.NoMemory = NoMemory
