use Rattle.std.proofs.Common.{◌≡◌, ◌≤◌, ◌∙◌, max, sym, ap, arith, length}
use Rattle.dc_lp.specs.Fill.{gaps, fill}
use Rattle.dc_sparse.specs.Held.{table_of, held_at}
use Rattle.dc_sparse.specs.Webs.{free_count}
use Rattle.dc_sparse.specs.Meanings.{cross_meaning}
use Rattle.dc_sparse.proofs.Tables.{zero-at, gaps-grid}
use Rattle.dc_sparse.proofs.Rooms.{fill-gaps}
use Rattle.dc_sparse.proofs.Growth.{live_kept}
use Rattle.dc_sparse.specs.Rows.{rows_gaps}
use Rattle.dc_sparse.proofs.Fits.{fit_pivot}
use Rattle.dc_sparse.proofs.SameTables.{same_gaps, keeps_grid, ready_meaning, pair_left, pair_right}
use Rattle.dc_sparse.proofs.HeldEntries.{held-zero}
use Rattle.dc_sparse.proofs.cross.CrossTableau.room.Goals as goal

pub need-requires : goal.need-requires
need-requires c =
    let d = c.args.self.now in
    let f = fit_pivot d c.args.row c.args.col c.requires.usable.loaded c.requires.cell in
    let z = zero-at d.columns (length d.held.web.row_heads.items) (length d.held.web.col_heads.items) d.basis.items (held_at d.held) f.tall f.wide c.args.row c.args.col f.inside f.column c.args.row c.args.col f.inside f.column in
    record { pivot = f.inside; col = f.column; entry = sym (held-zero d.held c.args.row c.args.col) ∙ sym z ∙ c.requires.cell.nonzero }

pub invariant_of-self-2 : goal.invariant_of-self-2
invariant_of-self-2 c =
    let d = c.args.self.now in
    let e = c.in_ok-reserve.ensures in
    let h : length c.reserve.new.self.web.row_heads.items ≡ length d.held.web.row_heads.items = ap length c.reserve.ensures.rows in
    let w : length c.reserve.new.self.web.col_heads.items ≡ length d.held.web.col_heads.items = ap length c.reserve.ensures.columns in
    record {
      shape = λ l. rw (h, w) (d.shape l);
      room = λ r j q.
          let f = fit_pivot d c.args.row c.args.col c.requires.usable.loaded c.requires.cell in
          let er : c.args.row ≡ r = pair_left c.args.row c.args.col r j q in
          let ej : c.args.col ≡ j = pair_right c.args.row c.args.col r j q in
          let k = same_gaps d.columns _ _ d.basis.items c.args.row c.args.col (keeps_grid (held_at d.held) (held_at c.reserve.new.self) (length d.held.web.row_heads.items) _ (length d.held.web.col_heads.items) _ h w c.reserve.ensures.entries) in
          let g = gaps-grid d.columns (length d.held.web.row_heads.items) (length d.held.web.col_heads.items) d.basis.items (held_at d.held) f.tall f.wide c.args.row c.args.col f.inside f.column d.held.web.nodes.items (λ i k. held-zero d.held i k) in
          let n : max d.held.web.spare c.in-Some.count ≡ max d.held.web.spare (rows_gaps d.held.web.nodes.items (length d.held.web.col_heads.items) c.args.row c.args.col (length d.held.web.row_heads.items)) = c.in-Some.ensures in
          let o : c.reserve.new.self.web.spare ≡ max d.held.web.spare c.in-Some.count = e.ok in
          let s : gaps (table_of d.columns d.basis.items c.reserve.new.self) c.args.row c.args.col ≤ c.reserve.new.self.web.spare = omega arith in
          rw (← er, ← ej) s;
    }

pub returns-clause-ok : goal.returns-clause-ok
returns-clause-ok c =
    let d = c.args.self.now in
    let h : length c.reserve.new.self.web.row_heads.items ≡ length d.held.web.row_heads.items = ap length c.reserve.ensures.rows in
    let w : length c.reserve.new.self.web.col_heads.items ≡ length d.held.web.col_heads.items = ap length c.reserve.ensures.columns in
    ready_meaning d.loaded d.broken c.args.row c.args.col d.columns _ _ d.basis.items c.requires.usable.loaded c.requires.usable.whole (keeps_grid (held_at d.held) (held_at c.reserve.new.self) (length d.held.web.row_heads.items) _ (length d.held.web.col_heads.items) _ h w c.reserve.ensures.entries)

pub returns-clause-live : goal.returns-clause-live
returns-clause-live c = live_kept c.args.self.now.held.web c.reserve.new.self.web c.reserve.ensures.live

pub returns-clause-spare : goal.returns-clause-spare
returns-clause-spare c =
    let d = c.args.self.now in
    let new = c.reserve.new.self.web in
    let f = fit_pivot d c.args.row c.args.col c.requires.usable.loaded c.requires.cell in
    let count = rows_gaps d.held.web.nodes.items (length d.held.web.col_heads.items) c.args.row c.args.col (length d.held.web.row_heads.items) in
    let g : fill (cross_meaning d).table c.args.row c.args.col ≡ count =
    fill-gaps d c.args.row c.args.col c.requires.cell
    ∙ gaps-grid d.columns (length d.held.web.row_heads.items) (length d.held.web.col_heads.items) d.basis.items (held_at d.held) f.tall f.wide c.args.row c.args.col f.inside f.column d.held.web.nodes.items (λ i k. held-zero d.held i k) in
    let n : max d.held.web.spare c.in-Some.count ≡ max d.held.web.spare count = c.in-Some.ensures in
    sym new.woven.count ∙ c.in_ok-reserve.ensures.ok ∙ n ∙ ap (λ n. max n count) d.held.web.woven.count ∙ ap (max (free_count d.held.web.nodes.items)) (sym g)
