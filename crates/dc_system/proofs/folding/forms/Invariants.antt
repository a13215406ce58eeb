use Rattle.std.proofs.Common.{◌≡◌, take}
use Rattle.dc_system.proofs.folding.forms.Given as goal

abbrev pub invariant-loop-form : goal.invariant-loop-form
invariant-loop-form l = l.all.items ≡ take l.form-index l.forms
