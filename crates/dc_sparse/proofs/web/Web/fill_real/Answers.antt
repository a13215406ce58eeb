use Rattle.std.proofs.Common.{◌≡◌, ◌∙◌, ◌+◌, ◌-◌, suc, length, arith, refl, sym, ap, subst, slice_index_or}
use Rattle.dc_lp.specs.Problems.{entries}
use Rattle.dc_lp.proofs.Columns.{row_after, row_after-rows, IsNext, next, entries-at}
use Rattle.dc_sparse.specs.Fills.{IsFilling}
use Rattle.dc_sparse.proofs.StartTables.{filling-part}
use Rattle.dc_sparse.proofs.Fillings.{filling_last, filling_next}
use Rattle.dc_sparse.proofs.web.Web.fill_real.Goals as goal

pub loop-left-init : goal.loop-left-init
loop-left-init c =
    let p = c.args.p.now in
    let w = c.fill_cell-2.new.self in
    let es = (c.requires.well_formed.columns c.args.col c.requires.column).entries in
    let ev : entries p c.args.col ≡ c.index.result.now.items = entries-at (λ v. v.items) p.columns.items c.args.col c.index.result.now c.requires.column c.index.ensures in
    let el : length (entries p c.args.col) ≡ length c.index.result.now.items = ap length ev in
    let long : length (entries p c.args.col) ≡ c.len-left.result = omega (arith, c.len-left.ensures, c.index.result.now.ok.0) in
    let most = row_after-rows 0 p.rows (entries p c.args.col) (length (entries p c.args.col)) (omega arith) es in
    record {
      filling = subst (λ k. IsFilling p w.nodes.items (p.rows + 2) (row_after 0 (entries p c.args.col) k) c.args.col) long
          (filling_last p w.nodes.items (p.rows + 2) c.args.col c.requires.column es c.in_ok-fill_cell-2.ensures.ok most);
      arena = λ n g. g;
      within = omega arith;
      height = refl;
      width = refl;
    }

pub fill_cell-requires-in-loop-left-clause-row : goal.fill_cell-requires-in-loop-left-clause-row
fill_cell-requires-in-loop-left-clause-row c =
    let p = c.args.p.now in
    let w = c.loop-left.self in
    let k = c.loop-left.left - 1 in
    let x = c.index-in-loop-left-2.result.now in
    let es = (c.requires.well_formed.columns c.args.col c.requires.column).entries in
    let ev : entries p c.args.col ≡ c.index-in-loop-left.result.now.items = entries-at (λ v. v.items) p.columns.items c.args.col c.index-in-loop-left.result.now c.requires.column c.index-in-loop-left.ensures in
    let ex : x ≡ slice_index_or (entries p c.args.col) k x = c.index-in-loop-left-2.ensures ∙ ap (λ xs. slice_index_or xs k x) (sym ev) in
    let more = c.loop-left-test.true in
    let inside = c.loop-left.invariant.within in
    let n : IsNext 0 p.rows (entries p c.args.col) k x = subst (IsNext 0 p.rows (entries p c.args.col) k) (sym ex) (next 0 p.rows (entries p c.args.col) k x es (omega arith)) in
    let l = n.inside in
    omega arith

pub fill_cell-requires-in-loop-left-clause-filling : goal.fill_cell-requires-in-loop-left-clause-filling
fill_cell-requires-in-loop-left-clause-filling c =
    let p = c.args.p.now in
    let w = c.loop-left.self in
    let k = c.loop-left.left - 1 in
    let x = c.index-in-loop-left-2.result.now in
    let es = (c.requires.well_formed.columns c.args.col c.requires.column).entries in
    let ev : entries p c.args.col ≡ c.index-in-loop-left.result.now.items = entries-at (λ v. v.items) p.columns.items c.args.col c.index-in-loop-left.result.now c.requires.column c.index-in-loop-left.ensures in
    let ex : x ≡ slice_index_or (entries p c.args.col) k x = c.index-in-loop-left-2.ensures ∙ ap (λ xs. slice_index_or xs k x) (sym ev) in
    let more = c.loop-left-test.true in
    let inside = c.loop-left.invariant.within in
    let n : IsNext 0 p.rows (entries p c.args.col) k x = subst (IsNext 0 p.rows (entries p c.args.col) k) (sym ex) (next 0 p.rows (entries p c.args.col) k x es (omega arith)) in
    let same : c.loop-left.left ≡ suc k = omega arith in
    let after : row_after 0 (entries p c.args.col) c.loop-left.left ≡ suc x.row = ap (row_after 0 (entries p c.args.col)) same ∙ n.after in
    let row : row_after 0 (entries p c.args.col) c.loop-left.left ≡ x.row + 1 = omega arith in
    subst (λ i. IsFilling p w.nodes.items (p.rows + 2) i c.args.col) row c.loop-left.invariant.filling

pub loop-left-preserved : goal.loop-left-preserved
loop-left-preserved c =
    let p = c.args.p.now in
    let w = c.loop-left.self in
    let k = c.loop-left.left - 1 in
    let x = c.index-in-loop-left-2.result.now in
    let es = (c.requires.well_formed.columns c.args.col c.requires.column).entries in
    let ev : entries p c.args.col ≡ c.index-in-loop-left.result.now.items = entries-at (λ v. v.items) p.columns.items c.args.col c.index-in-loop-left.result.now c.requires.column c.index-in-loop-left.ensures in
    let ex : x ≡ slice_index_or (entries p c.args.col) k x = c.index-in-loop-left-2.ensures ∙ ap (λ xs. slice_index_or xs k x) (sym ev) in
    let more = c.loop-left-test.true in
    let inside = c.loop-left.invariant.within in
    let n : IsNext 0 p.rows (entries p c.args.col) k x = subst (IsNext 0 p.rows (entries p c.args.col) k) (sym ex) (next 0 p.rows (entries p c.args.col) k x es (omega arith)) in
    let new = c.fill_cell-in-loop-left.new.self in
    record {
      filling = filling_next p new.nodes.items (p.rows + 2) c.args.col c.requires.column es k x n c.in_ok-fill_cell-3.ensures.ok;
      arena = λ m g. c.fill_cell-in-loop-left.ensures.arena m (c.loop-left.invariant.arena m g);
      within = omega arith;
      height = c.fill_cell-in-loop-left.ensures.height ∙ c.loop-left.invariant.height;
      width = c.fill_cell-in-loop-left.ensures.width ∙ c.loop-left.invariant.width;
    }

pub returns-clause-part : goal.returns-clause-part
returns-clause-part c =
    let p = c.args.p.now in
    filling-part p c.loop-left.self.nodes.items (p.rows + 2) (row_after 0 (entries p c.args.col) c.loop-left.left) c.args.col c.loop-left.invariant.filling
