use Rattle.std.proofs.Common.{◌≡◌, take}
use Rattle.dc_system.proofs.composition.after.Given as goal

abbrev pub invariant-loop-form : goal.invariant-loop-form
invariant-loop-form l = l.values.items ≡ take l.form-index l.form-items
