use Rattle.std.proofs.Common.{◌≡◌, drop}
use Rattle.dc_system.specs.Composed.{all_flat}
use Rattle.dc_system.proofs.composition.all_flat.Given as goal

abbrev pub invariant-loop-form : goal.invariant-loop-form
invariant-loop-form l = all_flat (drop l.form-index l.forms) ≡ all_flat l.forms
