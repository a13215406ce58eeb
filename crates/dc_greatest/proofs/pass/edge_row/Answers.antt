-- A row of an edge's target.
use Rattle.std.specs.Prelude.{◌≡◌, ◌<◌, not, is_some, length, slice_index_or, None}
use Rattle.std.proofs.Common.{rules, sym, ◌∙◌, ap, subst, arith}
use Rattle.dc_math.specs.Members.{each_among}
use Rattle.dc_system.specs.Shapes.{IsEdge, IsWithin as EndsWithin}
use Rattle.dc_system.specs.After.{is_affine_after}
use Rattle.dc_rows.specs.Candidate.{row_at}
use Rattle.dc_families.specs.Families.{least_in}
use Rattle.dc_families.specs.Rounds.{EdgeGives}
use Rattle.dc_greatest.specs.declared.family.LocFamily.{LocFamily}
use Rattle.dc_greatest.specs.Bounds.{IsRowLowered}
use Rattle.dc_greatest.specs.Lent.{graph, family}
use Rattle.dc_greatest.proofs.Rows.{row_lowered, row_skipped}
use Rattle.dc_greatest.specs.Answers.{IsFault}
use Rattle.dc_greatest.specs.Lent.{edge_row_asked}
use Rattle.dc_greatest.proofs.Bridges.{shapes_are_families}
use Rattle.dc_greatest.proofs.Sames.{any_default}
use Rattle.dc_greatest.proofs.Sources.{source_kept, none_of}
use Rattle.dc_greatest.proofs.Passing.{row_unasked, row_refused}
use Rattle.dc_greatest.proofs.pass.edge_row.Goals as goal

pub offset_bounds-at-edge : goal.offset_bounds-at-edge
offset_bounds-at-edge g c =
    let t = c.args.t.now in
    let n = t.system.now.vars in
    let e = c.args.edge.now in
    let k = t.candidates.now in
    let r = c.args.row in
    let at = c.args.at.now in
    let J = family t at in
    let kind = c.requires.lent.kind in
    let ends = each_among (EndsWithin t.system.now.locs) c.requires.lent.system.ends c.requires.edge in
    let a = ends.to in
    let b = c.requires.lent.system.few_locations in
    search rules

pub bounds-at-edge : goal.bounds-at-edge
bounds-at-edge g c =
    let t = c.args.t.now in
    let n = t.system.now.vars in
    let e = c.args.edge.now in
    let k = t.candidates.now in
    let r = c.args.row in
    let at = c.args.at.now in
    let J = family t at in
    let kind = c.requires.lent.kind in
    let ends = each_among (EndsWithin t.system.now.locs) c.requires.lent.system.ends c.requires.edge in
    let a = ends.to in
    let b = c.requires.shape.one_each in
    omega arith

pub bounds-as_slice-row : goal.bounds-as_slice-row
bounds-as_slice-row g c =
    let t = c.args.t.now in
    let n = t.system.now.vars in
    let e = c.args.edge.now in
    let k = t.candidates.now in
    let r = c.args.row in
    let at = c.args.at.now in
    let J = family t at in
    let kind = c.requires.lent.kind in
    let ends = each_among (EndsWithin t.system.now.locs) c.requires.lent.system.ends c.requires.edge in
    let d = c.index-at-edge.result in
    let S : c.as_slice.result.now ≡ d.least = c.as_slice.ensures ∙ sym (ap (λ (f : LocFamily). f.least) c.index-at-edge.is) in
    let w = ap (λ (f : LocFamily). length f.least) c.index-at-edge.is ∙ c.requires.shape.rows e.to d ends.to in
    let q = ap length S ∙ w in
    let i = c.requires.row in
    omega arith

pub returns-then-is_none-clause-lowered : goal.returns-then-is_none-clause-lowered
returns-then-is_none-clause-lowered g c =
    let t = c.args.t.now in
    let n = t.system.now.vars in
    let e = c.args.edge.now in
    let k = t.candidates.now in
    let r = c.args.row in
    let at = c.args.at.now in
    let J = family t at in
    let kind = c.requires.lent.kind in
    let ends = each_among (EndsWithin t.system.now.locs) c.requires.lent.system.ends c.requires.edge in
    let d = c.index-at-edge.result in
    let S : c.as_slice.result.now ≡ d.least = c.as_slice.ensures ∙ sym (ap (λ (f : LocFamily). f.least) c.index-at-edge.is) in
    let none = none_of (slice_index_or c.as_slice.result.now r None) (c.is_none.ensures ∙ ap not c.if-is_none.true) in
    let inside : e.to < length at = (let a = ends.to in let b = c.requires.shape.one_each in omega arith) in
    let x = any_default at e.to d c.args.target.now inside c.index-at-edge.is in
    row_skipped (EdgeGives (graph t) J e) k r c.args.target.now c.requires.fit
    (c.requires.before r (ap (λ (f : LocFamily). slice_index_or f.least r None) x ∙ ap (λ xs. slice_index_or xs r None) (sym S) ∙ none))

pub returns-then-is_none-clause-done : goal.returns-then-is_none-clause-done
returns-then-is_none-clause-done g c =
    let t = c.args.t.now in
    let n = t.system.now.vars in
    let e = c.args.edge.now in
    let k = t.candidates.now in
    let r = c.args.row in
    let at = c.args.at.now in
    let J = family t at in
    let kind = c.requires.lent.kind in
    let ends = each_among (EndsWithin t.system.now.locs) c.requires.lent.system.ends c.requires.edge in
    let h = (shapes_are_families (graph t) k at kind c.requires.shape).0 in
    let shape = each_among (IsEdge n) c.requires.lent.system.edges c.requires.edge in
    let d = c.index-at-edge.result in
    let S : c.as_slice.result.now ≡ d.least = c.as_slice.ensures ∙ sym (ap (λ (f : LocFamily). f.least) c.index-at-edge.is) in
    let src = source_kept (graph t) k at kind c.requires.shape e.to ends.to d c.index-at-edge.is r c.requires.row in
    let is = ap (λ xs. is_some (slice_index_or xs r None)) (sym S) in
    row_unasked (graph t) k J kind h e shape t.side t.budget c.args.k r (is_some (least_in k J e.to r)) (is_affine_after e (row_at k r))
    (src ∙ is ∙ c.is_none.ensures ∙ ap not c.if-is_none.true)

pub returns-in-Ok-clause-lowered : goal.returns-in-Ok-clause-lowered
returns-in-Ok-clause-lowered g c =
    let t = c.args.t.now in
    let n = t.system.now.vars in
    let e = c.args.edge.now in
    let k = t.candidates.now in
    let r = c.args.row in
    let at = c.args.at.now in
    let J = family t at in
    let kind = c.requires.lent.kind in
    let ends = each_among (EndsWithin t.system.now.locs) c.requires.lent.system.ends c.requires.edge in
    let G = EdgeGives (graph t) J e in
    subst (IsRowLowered G k r c.args.target.now) (sym c.lower.ensures) (row_lowered G k r c.in-Ok.least c.args.target.now c.requires.fit c.requires.row c.in-Ok.ensures.least)

pub returns-in-Err-clause-fault : goal.returns-in-Err-clause-fault
returns-in-Err-clause-fault g c =
    let t = c.args.t.now in
    let n = t.system.now.vars in
    let e = c.args.edge.now in
    let k = t.candidates.now in
    let r = c.args.row in
    let at = c.args.at.now in
    let J = family t at in
    let kind = c.requires.lent.kind in
    let ends = each_among (EndsWithin t.system.now.locs) c.requires.lent.system.ends c.requires.edge in
    let h = (shapes_are_families (graph t) k at kind c.requires.shape).0 in
    let shape = each_among (IsEdge n) c.requires.lent.system.edges c.requires.edge in
    let d = c.index-at-edge.result in
    let S : c.as_slice.result.now ≡ d.least = c.as_slice.ensures ∙ sym (ap (λ (f : LocFamily). f.least) c.index-at-edge.is) in
    let src = source_kept (graph t) k at kind c.requires.shape e.to ends.to d c.index-at-edge.is r c.requires.row in
    let is = ap (λ xs. is_some (slice_index_or xs r None)) (sym S) in
    subst (IsFault t.budget (λ xs. xs ≡ edge_row_asked t J c.args.k e r)) (sym c.at.ensures)
    (row_refused (graph t) k J kind h e shape t.side t.budget c.args.k r (is_some (least_in k J e.to r)) (is_affine_after e (row_at k r))
    (src ∙ is ∙ c.is_none.ensures ∙ ap not c.if-is_none.false) c.in-Err.fault c.in-Err.ensures.fault)
