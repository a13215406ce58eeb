-- Row after row.
use Rattle.std.specs.Prelude.{◌≡◌, ◌<◌, ◌≤◌, is_some, length, slice_index_or, None}
use Rattle.std.specs.List.{range_with_len}
use Rattle.std.proofs.Common.{sym, ◌∙◌, ap, subst, arith, add-one}
use Rattle.std.proofs.lemmas.List.{get_or_default}
use Rattle.dc_affine.specs.declared.atom.Atom.{Atom}
use Rattle.dc_points.specs.Points.{Entails}
use Rattle.dc_entail.specs.Asked.{AllDone}
use Rattle.dc_families.specs.Families.{least_in}
use Rattle.dc_families.specs.Moves.{at_start}
use Rattle.dc_greatest.specs.declared.family.LocFamily.{LocFamily}
use Rattle.dc_greatest.specs.Bounds.{IsLowered}
use Rattle.dc_greatest.specs.Lent.{graph, family, case_at, entry_row_asked, entry_rows_asked}
use Rattle.dc_greatest.specs.Parts.{entry_row}
use Rattle.dc_greatest.proofs.Asking.{first_asked, first_done, all_done, all_refused, map_filter_once}
use Rattle.dc_greatest.proofs.Rows.{lowered_none, lowered_more, lowered_no_more}
use Rattle.dc_greatest.proofs.pass.case_rows.Goals as goal

pub loop-row-init : goal.loop-row-init
loop-row-init g c =
    let t = c.args.t.now in
    (lowered_none (λ a. Entails (case_at t c.args.k) (at_start t.system.now.params a)) t.candidates.now c.args.target.now c.requires.fit, tt)

pub case_row-requires-clause-before : goal.case_row-requires-clause-before
case_row-requires-clause-before g c =
    let t = c.args.t.now in
    let k = t.candidates.now in
    let i = c.args.k in
    let at = c.args.at.now in
    let inside : 0 < length at = (let a = c.requires.lent.system.some_location in let b = c.requires.shape.one_each in omega arith) in
    let x = get_or_default at 0 c.args.target.now c.loop-row.target inside in
    let few : c.loop-row.row ≤ length k.rows = (let a = c.loop-row-test.true in let b = c.len-row-end.ensures in omega arith) in
    λ r q. lowered_no_more (λ a. Entails (case_at t i) (at_start t.system.now.params a)) k c.loop-row.row (slice_index_or at 0 c.args.target.now) c.args.target.now c.loop-row.target few
    c.loop-row.invariant.0 c.requires.before r (ap (λ (f : LocFamily). slice_index_or f.least r None) x ∙ q)

pub loop-row-preserved : goal.loop-row-preserved
loop-row-preserved g c =
    let t = c.args.t.now in
    let k = t.candidates.now in
    let i = c.args.k in
    let J = family t c.args.at.now in
    let G = λ (a : Atom). Entails (case_at t i) (at_start t.system.now.params a) in
    let asks = entry_row_asked t J i (case_at t i) in
    let r = c.loop-row.row in
    subst (λ m. IsLowered G m k c.args.target.now c.case_row.new.target × AllDone t.budget (first_asked asks m)) (sym (add-one r)) (
      lowered_more G k r c.args.target.now c.loop-row.target c.case_row.new.target c.loop-row.invariant.0 c.in-Ok.ensures.lowered,
      first_done asks t.budget r c.loop-row.invariant.1 c.in-Ok.ensures.done,
    )

pub returns-in-Err-clause-fault : goal.returns-in-Err-clause-fault
returns-in-Err-clause-fault g c =
    let t = c.args.t.now in
    let k = t.candidates.now in
    let i = c.args.k in
    let J = family t c.args.at.now in
    let n = length k.rows in
    let conv = map_filter_once (λ r. is_some (least_in k J 0 r)) (entry_row t.side (graph t) k J i (case_at t i)) (range_with_len 0 n) in
    let inside : c.loop-row.row < n = (let a = c.loop-row-test.true in let b = c.len-row-end.ensures in omega arith) in
    all_refused (entry_row_asked t J i (case_at t i)) t.budget n c.loop-row.row (entry_rows_asked t J i) conv inside c.loop-row.invariant.1 c.in-Err.fault c.in-Err.ensures.fault

pub returns-clause-done : goal.returns-clause-done
returns-clause-done g c =
    let t = c.args.t.now in
    let k = t.candidates.now in
    let i = c.args.k in
    let J = family t c.args.at.now in
    let n = length k.rows in
    let conv = map_filter_once (λ r. is_some (least_in k J 0 r)) (entry_row t.side (graph t) k J i (case_at t i)) (range_with_len 0 n) in
    let end : c.loop-row.row ≡ n = (let a = c.loop-row-test.false in let b = c.len-row-end.ensures in let d = c.loop-row.auto.row-end in omega arith) in
    all_done (entry_row_asked t J i (case_at t i)) t.budget n c.loop-row.row (entry_rows_asked t J i) conv end c.loop-row.invariant.1
