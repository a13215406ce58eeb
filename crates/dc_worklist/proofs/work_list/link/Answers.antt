use Rattle.std.proofs.Common.{◌≡◌, ℕ, true, false, is_some, Option, None, Some, refl}
use Rattle.dc_worklist.proofs.Inserted.{insert_first, insert_later, insert_numbers}
use Rattle.dc_worklist.proofs.work_list.link.Goals as goal

is_none : (o : Option ℕ) → is_some o ≡ false → o ≡ None
is_none None e = refl
is_none (Some k) e = absurd (cc)

is_some_of : {X : Type 0} (o : Option ℕ) → is_some o ≡ true → ((k : ℕ) → o ≡ Some k → X) → X
is_some_of None e f = absurd (cc)
is_some_of (Some k) e f = f k refl

pub returns-then-is_none-clause-linked : goal.returns-then-is_none-clause-linked
returns-then-is_none-clause-linked c =
    rw (c.set_before.ensures, c.set_after.ensures)
    (insert_first c.args.slots.now c.args.first.now c.args.edge c.last_below-before.result c.next_behind-after.result c.requires.range c.requires.free c.requires.linked c.last_below-before.ensures c.next_behind-after.ensures
    (is_none c.last_below-before.result c.if-is_none.ensures))

pub returns-then-is_none-clause-list : goal.returns-then-is_none-clause-list
returns-then-is_none-clause-list c =
    rw (c.set_before.ensures, c.set_after.ensures)
    (insert_numbers c.args.slots.now c.args.first.now c.args.edge c.last_below-before.result c.next_behind-after.result c.requires.range c.requires.free c.requires.linked c.last_below-before.ensures c.next_behind-after.ensures)

pub returns-else-is_none-clause-linked : goal.returns-else-is_none-clause-linked
returns-else-is_none-clause-linked c =
    rw (c.set_before.ensures, c.set_after.ensures)
    (is_some_of c.last_below-before.result c.if-is_none.ensures (λ k e.
    insert_later c.args.slots.now c.args.first.now c.args.edge c.last_below-before.result c.next_behind-after.result c.requires.range c.requires.free c.requires.linked c.last_below-before.ensures c.next_behind-after.ensures k e))

pub returns-else-is_none-clause-list : goal.returns-else-is_none-clause-list
returns-else-is_none-clause-list c =
    rw (c.set_before.ensures, c.set_after.ensures)
    (insert_numbers c.args.slots.now c.args.first.now c.args.edge c.last_below-before.result c.next_behind-after.result c.requires.range c.requires.free c.requires.linked c.last_below-before.ensures c.next_behind-after.ensures)
