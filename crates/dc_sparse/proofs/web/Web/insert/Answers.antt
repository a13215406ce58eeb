use Rattle.std.proofs.Common.{◌≡◌, ◌∙◌, sym, subst, length, set, arith, Some}
use Rattle.dc_sparse.specs.declared.web.Node.{Node}
use Rattle.dc_sparse.specs.Lines.{IsFirst}
use Rattle.dc_sparse.specs.Nodes.{by_rows, by_columns, right_at}
use Rattle.dc_sparse.specs.Webs.{IsWoven}
use Rattle.dc_sparse.proofs.SingleWrites.{item_live, written, IsWritten}
use Rattle.dc_sparse.proofs.Links.{right-read, last_first, last_stop}
use Rattle.dc_sparse.proofs.Smalls.{first_link, same_node, small_kept}
use Rattle.dc_sparse.proofs.Inserts.{last_in, seated, woven_more}
use Rattle.dc_sparse.proofs.web.Web.insert.Goals as goal

pub link_right-requires-clause-before : goal.link_right-requires-clause-before
link_right-requires-clause-before c =
    let w = c.args.self.now in
    let x : Node = record { row = c.args.row; col = c.args.col; value = c.args.entry; right = c.new.result.right; down = c.new.result.down } in
    let t : IsWoven w.nodes.items w.row_heads.items w.col_heads.items (Some c.in-Some.node) w.spare = rw c.in-Some.is at w.woven in
    let wr : IsWritten w.nodes.items (set w.nodes.items c.in-Some.node c.new.result) c.in-Some.node x = subst (λ z. IsWritten w.nodes.items (set w.nodes.items c.in-Some.node c.new.result) c.in-Some.node z) (same_node c.new.result c.args.row c.args.col c.args.entry c.new.ensures.row c.new.ensures.col c.new.ensures.value) (written w.nodes.items c.in-Some.node c.new.result t.unused.top.0.inside) in
    last_in (by_rows w.nodes.items) c.args.row c.args.col w.nodes.items (set w.nodes.items c.in-Some.node c.new.result) c.args.left wr.long (item_live w.nodes.items) c.requires.left

pub link_down-requires-clause-before : goal.link_down-requires-clause-before
link_down-requires-clause-before c =
    let w = c.args.self.now in
    let x : Node = record { row = c.args.row; col = c.args.col; value = c.args.entry; right = c.new.result.right; down = c.new.result.down } in
    let t : IsWoven w.nodes.items w.row_heads.items w.col_heads.items (Some c.in-Some.node) w.spare = rw c.in-Some.is at w.woven in
    let wr : IsWritten w.nodes.items (set w.nodes.items c.in-Some.node c.new.result) c.in-Some.node x = subst (λ z. IsWritten w.nodes.items (set w.nodes.items c.in-Some.node c.new.result) c.in-Some.node z) (same_node c.new.result c.args.row c.args.col c.args.entry c.new.ensures.row c.new.ensures.col c.new.ensures.value) (written w.nodes.items c.in-Some.node c.new.result t.unused.top.0.inside) in
    let l : length c.link_right.new.nodes.items ≡ length w.nodes.items = (let u = c.link_right.ensures.nodes.long in let v = wr.long in omega arith) in
    last_in (by_columns w.nodes.items) c.args.col c.args.row w.nodes.items c.link_right.new.nodes.items c.args.above l (item_live w.nodes.items) c.requires.above

pub returns-clause-seated : goal.returns-clause-seated
returns-clause-seated c =
    let w = c.args.self.now in
    let n = c.in-Some.node in
    let x : Node = record { row = c.args.row; col = c.args.col; value = c.args.entry; right = c.new.result.right; down = c.new.result.down } in
    let t : IsWoven w.nodes.items w.row_heads.items w.col_heads.items (Some n) w.spare = rw c.in-Some.is at w.woven in
    let wr : IsWritten w.nodes.items (set w.nodes.items n c.new.result) n x = subst (λ z. IsWritten w.nodes.items (set w.nodes.items n c.new.result) n z) (same_node c.new.result c.args.row c.args.col c.args.entry c.new.ensures.row c.new.ensures.col c.new.ensures.value) (written w.nodes.items n c.new.result t.unused.top.0.inside) in
    seated w.nodes.items (set w.nodes.items n c.new.result) c.link_right.new.nodes.items c.link_down.new.nodes.items w.row_heads.items c.link_right.new.heads.items w.col_heads.items c.link_down.new.heads.items w.spare n x c.args.left c.args.above
    t c.requires.row c.requires.col c.requires.nonzero c.requires.vacant c.requires.left c.requires.above (subst (λ o. IsFirst (by_rows w.nodes.items) c.args.row c.args.col o) (sym c.new.ensures.right) (last_first (by_rows w.nodes.items) c.args.row c.args.col c.args.left c.right_of-right.result c.requires.left c.right_of-right.ensures)) (subst (λ o. IsFirst (by_columns w.nodes.items) c.args.col c.args.row o) (sym c.new.ensures.down) (last_first (by_columns w.nodes.items) c.args.col c.args.row c.args.above c.down_of-down.result c.requires.above c.down_of-down.ensures)) wr c.link_right.ensures.nodes c.link_down.ensures.nodes c.link_right.ensures.heads c.link_down.ensures.heads

pub invariant_of-self : goal.invariant_of-self
invariant_of-self c =
    let w = c.args.self.now in
    let n = c.in-Some.node in
    let x : Node = record { row = c.args.row; col = c.args.col; value = c.args.entry; right = c.new.result.right; down = c.new.result.down } in
    let t : IsWoven w.nodes.items w.row_heads.items w.col_heads.items (Some n) w.spare = rw c.in-Some.is at w.woven in
    let wr : IsWritten w.nodes.items (set w.nodes.items n c.new.result) n x = subst (λ z. IsWritten w.nodes.items (set w.nodes.items n c.new.result) n z) (same_node c.new.result c.args.row c.args.col c.args.entry c.new.ensures.row c.new.ensures.col c.new.ensures.value) (written w.nodes.items n c.new.result t.unused.top.0.inside) in
    let e : c.right-self.result ≡ right_at w.nodes.items n = c.right-self.ensures.is ∙ right-read w.nodes.items n c.index.result.now t.unused.top.0.inside c.index.ensures in
    record {
      stopped = w.stopped ∙ sym c.link_down.ensures.heads.long;
      small = small_kept _ _ _ _ _ _ (c.link_down.ensures.nodes.long ∙ c.link_right.ensures.nodes.long ∙ wr.long) c.link_right.ensures.heads.long c.link_down.ensures.heads.long w.small;
      woven = rw e (woven_more w.nodes.items (set w.nodes.items n c.new.result) c.link_right.new.nodes.items c.link_down.new.nodes.items w.row_heads.items c.link_right.new.heads.items w.col_heads.items c.link_down.new.heads.items w.spare n x c.args.left c.args.above
          t c.requires.row c.requires.col c.requires.nonzero c.requires.vacant c.requires.left c.requires.above (subst (λ o. IsFirst (by_rows w.nodes.items) c.args.row c.args.col o) (sym c.new.ensures.right) (last_first (by_rows w.nodes.items) c.args.row c.args.col c.args.left c.right_of-right.result c.requires.left c.right_of-right.ensures)) (subst (λ o. IsFirst (by_columns w.nodes.items) c.args.col c.args.row o) (sym c.new.ensures.down) (last_first (by_columns w.nodes.items) c.args.col c.args.row c.args.above c.down_of-down.result c.requires.above c.down_of-down.ensures)) wr c.link_right.ensures.nodes c.link_down.ensures.nodes c.link_right.ensures.heads c.link_down.ensures.heads);
    }

pub right_of-right-requires-clause-left : goal.right_of-right-requires-clause-left
right_of-right-requires-clause-left c = last_stop (by_rows c.args.self.now.nodes.items) c.args.row c.args.col c.args.left c.requires.left

pub down_of-down-requires-clause-above : goal.down_of-down-requires-clause-above
down_of-down-requires-clause-above c = last_stop (by_columns c.args.self.now.nodes.items) c.args.col c.args.row c.args.above c.requires.above

pub returns-clause-arena : goal.returns-clause-arena
returns-clause-arena c = (returns-clause-seated c).others.long

pub new-requires-clause-row : goal.new-requires-clause-row
new-requires-clause-row c = (let s = c.args.self.now.small.rows in let r = c.requires.row in omega arith)

pub new-requires-clause-col : goal.new-requires-clause-col
new-requires-clause-col c = (let s = c.args.self.now.small.columns in let r = c.requires.col in omega arith)

pub new-requires-clause-right : goal.new-requires-clause-right
new-requires-clause-right c =
    let w = c.args.self.now in
    first_link (by_rows w.nodes.items) c.args.row c.args.col (length w.nodes.items) c.right_of-right.result (item_live w.nodes.items) w.small.nodes (last_first (by_rows w.nodes.items) c.args.row c.args.col c.args.left c.right_of-right.result c.requires.left c.right_of-right.ensures)

pub new-requires-clause-down : goal.new-requires-clause-down
new-requires-clause-down c =
    let w = c.args.self.now in
    first_link (by_columns w.nodes.items) c.args.col c.args.row (length w.nodes.items) c.down_of-down.result (item_live w.nodes.items) w.small.nodes (last_first (by_columns w.nodes.items) c.args.col c.args.row c.args.above c.down_of-down.result c.requires.above c.down_of-down.ensures)

pub link_right-requires-clause-to : goal.link_right-requires-clause-to
link_right-requires-clause-to c =
    let w = c.args.self.now in
    let t : IsWoven w.nodes.items w.row_heads.items w.col_heads.items (Some c.in-Some.node) w.spare = rw c.in-Some.is at w.woven in
    let l = t.unused.top.0.inside in
    let s = w.small.nodes in
    omega arith

pub link_down-requires-clause-to : goal.link_down-requires-clause-to
link_down-requires-clause-to c =
    let w = c.args.self.now in
    let t : IsWoven w.nodes.items w.row_heads.items w.col_heads.items (Some c.in-Some.node) w.spare = rw c.in-Some.is at w.woven in
    let l = t.unused.top.0.inside in
    let s = w.small.nodes in
    omega arith
