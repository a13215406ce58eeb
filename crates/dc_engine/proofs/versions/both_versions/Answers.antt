use Rattle.std.proofs.Common.{◌∙◌}
use Rattle.dc_engine.specs.Parts.{input_of}
use Rattle.dc_engine.proofs.Counts.{new_atoms, old_atoms}
use Rattle.dc_engine.proofs.versions.both_versions.Goals as goal

pub list_candidates-requires-clause-atoms : goal.list_candidates-requires-clause-atoms
list_candidates-requires-clause-atoms c =
    new_atoms (input_of c.args.t.now) c.requires.input c.deref.result.now (c.deref.ensures.value ∙ c.in-Ok-flat.ensures {u = tt})
    c.in-Ok.plain.new (c.in-Ok.ensures {u = tt}).systems.new

pub list_candidates-requires-2-clause-atoms : goal.list_candidates-requires-2-clause-atoms
list_candidates-requires-2-clause-atoms c =
    old_atoms (input_of c.args.t.now) c.requires.input c.deref-2.result.now (c.deref-2.ensures.value ∙ c.in-Ok-flat.ensures {u = tt})
    c.in-Ok.plain.old (c.in-Ok.ensures {u = tt}).systems.old
