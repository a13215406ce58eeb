-- Row after row.
use Rattle.std.specs.Prelude.{◌≡◌, ◌<◌, ◌≤◌, is_some, length, slice_index_or, None}
use Rattle.std.specs.List.{range_with_len}
use Rattle.std.proofs.Common.{sym, ◌∙◌, ap, subst, arith, add-one}
use Rattle.std.proofs.lemmas.List.{get_or_default}
use Rattle.dc_math.specs.Members.{each_among}
use Rattle.dc_system.specs.After.{is_affine_after}
use Rattle.dc_system.specs.Shapes.{IsWithin as EndsWithin}
use Rattle.dc_entail.specs.Asked.{AllDone}
use Rattle.dc_rows.specs.Candidate.{row_at}
use Rattle.dc_families.specs.Families.{least_in}
use Rattle.dc_families.specs.Rounds.{EdgeGives}
use Rattle.dc_greatest.specs.declared.family.LocFamily.{LocFamily}
use Rattle.dc_greatest.specs.Bounds.{IsLowered}
use Rattle.dc_greatest.specs.Lent.{graph, family, edge_row_asked, edge_rows_asked}
use Rattle.dc_greatest.specs.Parts.{edge_row}
use Rattle.dc_greatest.proofs.Asking.{first_asked, first_done, all_done, all_refused, map_filter_twice}
use Rattle.dc_greatest.proofs.Rows.{lowered_none, lowered_more, lowered_no_more}
use Rattle.dc_greatest.proofs.pass.edge_rows.Goals as goal

pub loop-row-init : goal.loop-row-init
loop-row-init g c =
    let t = c.args.t.now in
    (lowered_none (EdgeGives (graph t) (family t c.args.at.now) c.args.edge.now) t.candidates.now c.args.target.now c.requires.fit, tt)

pub edge_row-requires-clause-before : goal.edge_row-requires-clause-before
edge_row-requires-clause-before g c =
    let t = c.args.t.now in
    let k = t.candidates.now in
    let e = c.args.edge.now in
    let at = c.args.at.now in
    let ends = each_among (EndsWithin t.system.now.locs) c.requires.lent.system.ends c.requires.edge in
    let inside : e.to < length at = (let a = ends.to in let b = c.requires.shape.one_each in omega arith) in
    let x = get_or_default at e.to c.args.target.now c.loop-row.target inside in
    let few : c.loop-row.row ≤ length k.rows = (let a = c.loop-row-test.true in let b = c.len-row-end.ensures in omega arith) in
    λ r q. lowered_no_more (EdgeGives (graph t) (family t at) e) k c.loop-row.row (slice_index_or at e.to c.args.target.now) c.args.target.now c.loop-row.target few
    c.loop-row.invariant.0 c.requires.before r (ap (λ (f : LocFamily). slice_index_or f.least r None) x ∙ q)

pub loop-row-preserved : goal.loop-row-preserved
loop-row-preserved g c =
    let t = c.args.t.now in
    let k = t.candidates.now in
    let e = c.args.edge.now in
    let J = family t c.args.at.now in
    let G = EdgeGives (graph t) J e in
    let asks = edge_row_asked t J c.args.k e in
    let r = c.loop-row.row in
    subst (λ m. IsLowered G m k c.args.target.now c.edge_row.new.target × AllDone t.budget (first_asked asks m)) (sym (add-one r)) (
      lowered_more G k r c.args.target.now c.loop-row.target c.edge_row.new.target c.loop-row.invariant.0 c.in-Ok.ensures.lowered,
      first_done asks t.budget r c.loop-row.invariant.1 c.in-Ok.ensures.done,
    )

pub returns-in-Err-clause-fault : goal.returns-in-Err-clause-fault
returns-in-Err-clause-fault g c =
    let t = c.args.t.now in
    let k = t.candidates.now in
    let e = c.args.edge.now in
    let J = family t c.args.at.now in
    let n = length k.rows in
    let conv = map_filter_twice (λ r. is_some (least_in k J e.to r)) (λ r. is_affine_after e (row_at k r)) (edge_row t.side (graph t) k J c.args.k e) (range_with_len 0 n) in
    let inside : c.loop-row.row < n = (let a = c.loop-row-test.true in let b = c.len-row-end.ensures in omega arith) in
    all_refused (edge_row_asked t J c.args.k e) t.budget n c.loop-row.row (edge_rows_asked t J c.args.k e) conv inside c.loop-row.invariant.1 c.in-Err.fault c.in-Err.ensures.fault

pub returns-clause-done : goal.returns-clause-done
returns-clause-done g c =
    let t = c.args.t.now in
    let k = t.candidates.now in
    let e = c.args.edge.now in
    let J = family t c.args.at.now in
    let n = length k.rows in
    let conv = map_filter_twice (λ r. is_some (least_in k J e.to r)) (λ r. is_affine_after e (row_at k r)) (edge_row t.side (graph t) k J c.args.k e) (range_with_len 0 n) in
    let end : c.loop-row.row ≡ n = (let a = c.loop-row-test.false in let b = c.len-row-end.ensures in let d = c.loop-row.auto.row-end in omega arith) in
    all_done (edge_row_asked t J c.args.k e) t.budget n c.loop-row.row (edge_rows_asked t J c.args.k e) conv end c.loop-row.invariant.1
