use Rattle.dc_system.proofs.FormSteps.{Forming}
use Rattle.dc_system.proofs.composition.forms_with.Given as goal

abbrev pub invariant-loop-form : goal.invariant-loop-form
invariant-loop-form l = Forming l.forms l.values l.form-index l.all.items
