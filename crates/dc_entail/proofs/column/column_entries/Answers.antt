use Rattle.std.proofs.Common.{sym, subst, ◌+◌}
use Rattle.dc_entail.specs.Columns.{IsColumnOf, column_numbers}
use Rattle.dc_entail.proofs.Build.{constant_more}
use Rattle.dc_entail.proofs.column.column_entries.Goals as goal

pub push_entry-requires : goal.push_entry-requires
push_entry-requires c = record { small = c.requires.atom.constant_within }

pub returns : goal.returns
returns c =
    subst (IsColumnOf (c.args.places + 1) (column_numbers c.args.places c.args.atom.now)) (sym (c.in_ok-push_entry.ensures {u = tt}))
    (constant_more c.args.places c.args.atom.now c.in_ok-entries.entries.items c.requires.atom.constant_within (c.in_ok-entries.ensures {u = tt}))
