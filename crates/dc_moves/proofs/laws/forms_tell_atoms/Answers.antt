use Rattle.dc_moves.proofs.Forms.{forms_have_places, forms_are_light, forms_tell_atoms}
use Rattle.dc_moves.proofs.laws.forms_tell_atoms.Goals as goal

pub returns-clause-places : goal.returns-clause-places
returns-clause-places c = forms_have_places

pub returns-clause-light : goal.returns-clause-light
returns-clause-light c = forms_are_light

pub returns-clause-atoms : goal.returns-clause-atoms
returns-clause-atoms c = forms_tell_atoms
