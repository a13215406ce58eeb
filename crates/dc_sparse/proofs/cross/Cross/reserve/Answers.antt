use Rattle.std.proofs.Common.{◌≡◌, ◌≤◌, OnOk, max, ap, subst, arith, length}
use Rattle.dc_lp.specs.Fill.{gaps}
use Rattle.dc_sparse.specs.Held.{table_of, held_at}
use Rattle.dc_sparse.specs.Webs.{free_count}
use Rattle.dc_sparse.proofs.SameTables.{same_gaps, keeps_grid, same_meaning}
use Rattle.dc_sparse.proofs.Growth.{live_kept, after_error}
use Rattle.dc_sparse.proofs.cross.Cross.reserve.Goals as goal

pub invariant_of-self : goal.invariant_of-self
invariant_of-self c =
    let d = c.args.self.now in
    let new = c.reserve.new.self in
    let h : length new.web.row_heads.items ≡ length d.held.web.row_heads.items = ap length c.reserve.ensures.rows in
    let w : length new.web.col_heads.items ≡ length d.held.web.col_heads.items = ap length c.reserve.ensures.columns in
    record {
      shape = λ l. rw (h, w) (d.shape l);
      room = λ r j q.
          let k = same_gaps d.columns _ _ d.basis.items r j (keeps_grid (held_at d.held) (held_at new) (length d.held.web.row_heads.items) _ (length d.held.web.col_heads.items) _ h w c.reserve.ensures.entries) in
          let o : gaps (table_of d.columns d.basis.items d.held) r j ≤ d.held.web.spare = d.room r j q in
          let s = c.reserve.ensures.spare in
          omega arith;
    }

pub returns-clause-meaning : goal.returns-clause-meaning
returns-clause-meaning c =
    let d = c.args.self.now in
    let h : length c.reserve.new.self.web.row_heads.items ≡ length d.held.web.row_heads.items = ap length c.reserve.ensures.rows in
    let w : length c.reserve.new.self.web.col_heads.items ≡ length d.held.web.col_heads.items = ap length c.reserve.ensures.columns in
    same_meaning d.loaded d.broken d.ready d.columns _ _ d.basis.items (keeps_grid (held_at d.held) (held_at c.reserve.new.self) (length d.held.web.row_heads.items) _ (length d.held.web.col_heads.items) _ h w c.reserve.ensures.entries)

pub returns-clause-live : goal.returns-clause-live
returns-clause-live c = live_kept c.args.self.now.held.web c.reserve.new.self.web c.reserve.ensures.live

pub returns-clause-ok : goal.returns-clause-ok
returns-clause-ok c =
    let v = c.args.self.now.held.web in
    let w = c.reserve.new.self.web in
    subst (λ n. OnOk c.reserve.result (n ≡ max (free_count v.nodes.items) c.args.count)) w.woven.count
    (subst (λ n. OnOk c.reserve.result (w.spare ≡ max n c.args.count)) v.woven.count c.reserve.ensures.ok)

pub returns-clause-err : goal.returns-clause-err
returns-clause-err c = after_error c.reserve.result (λ e. ap free_count e) c.reserve.ensures.err
