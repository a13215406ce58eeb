use Rattle.std.proofs.Common.{◌≡◌, map, take}
use Rattle.dc_handelman.specs.Products.{form_of}
use Rattle.dc_handelman.proofs.forms.forms.Given as goal

abbrev pub invariant-loop-atom : goal.invariant-loop-atom
invariant-loop-atom l = l.list.items ≡ map (form_of l.places) (take l.atom-index l.hyps)
