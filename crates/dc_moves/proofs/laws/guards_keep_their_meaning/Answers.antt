use Rattle.dc_moves.proofs.Cuts.{cuts_ask_the_same, cuts_ask_the_same_forms, cuts_say_the_same, cuts_are_atoms}
use Rattle.dc_moves.proofs.laws.guards_keep_their_meaning.Goals as goal

pub returns-clause-empty : goal.returns-clause-empty
returns-clause-empty c = cuts_ask_the_same

pub returns-clause-forms : goal.returns-clause-forms
returns-clause-forms c = cuts_ask_the_same_forms

pub returns-clause-meaning : goal.returns-clause-meaning
returns-clause-meaning c = cuts_say_the_same

pub returns-clause-atoms : goal.returns-clause-atoms
returns-clause-atoms c = cuts_are_atoms
