-- The form of a row after an edge, its least bound, and what that says of the row.
use Rattle.std.specs.Prelude.{◌≡◌, ◌<◌, ◌^◌, true, false, [], length, take, sum_by, unsigned_abs, slice_index_or}
use Rattle.std.specs.List.{AllByRecursion}
use Rattle.std.proofs.Common.{sym, ◌∙◌, ap, subst, inl, arith}
use Rattle.std.proofs.lemmas.Result.{IfOk-weaker, IfErr-weaker}
use Rattle.dc_math.specs.Members.{each_among, at_among}
use Rattle.dc_system.specs.After.{is_affine_after, row_after_of}
use Rattle.dc_system.specs.declared.rows.RowAfter.{RowAfter}
use Rattle.dc_system.specs.Shapes.{IsEdge}
use Rattle.dc_affine.specs.Atoms.{IsAtom}
use Rattle.dc_points.specs.Points.{IsDead}
use Rattle.dc_points.specs.Stated.{rational}
use Rattle.dc_entail.specs.Answers.{IsSolveFault}
use Rattle.dc_greatest.specs.Bounds.{HasEnd}
use Rattle.dc_rows.specs.Candidate.{row_at, IsRow}
use Rattle.dc_moves.proofs.Forms.{forms_have_places}
use Rattle.dc_greatest.specs.Lent.{graph, family}
use Rattle.dc_greatest.proofs.Bridges.{shapes_are_families}
use Rattle.dc_greatest.proofs.Passing.{cut_atoms, row_least, row_bent, row_end, row_fault, form_kind, form_light, row_read, form_read, least_read, problem_read}
use Rattle.dc_greatest.proofs.Sizes.{constant_light}
use Rattle.dc_greatest.proofs.pass.edge_least.Goals as goal

pub row_after-requires-clause-edge : goal.row_after-requires-clause-edge
row_after-requires-clause-edge g c = each_among (IsEdge c.args.t.now.system.now.vars) c.requires.lent.system.edges c.requires.edge

pub returns-then-not-after-clause-least : goal.returns-then-not-after-clause-least
returns-then-not-after-clause-least g c =
    let t = c.args.t.now in
    let n = t.system.now.vars in
    let e = c.args.edge.now in
    let k = t.candidates.now in
    let r = c.args.row in
    let J = family t c.args.at.now in
    let kind = c.requires.lent.kind in
    let h = (shapes_are_families (graph t) k c.args.at.now kind c.requires.shape).0 in
    let shape = each_among (IsEdge n) c.requires.lent.system.edges c.requires.edge in
    let is : c.index-as_slice-row.result ≡ slice_index_or k.rows r c.index-as_slice-row.result = subst (λ xs. c.index-as_slice-row.result ≡ slice_index_or xs r c.index-as_slice-row.result) c.as_slice.ensures c.index-as_slice-row.is in
    let R = row_read k.rows r c.index-as_slice-row.result c.as_slice-2.result.now c.requires.row is c.as_slice-2.ensures in
    let A : c.in-Ok.after ≡ row_after_of n e (row_at k r) = c.in-Ok.ensures.row ∙ ap (row_after_of n e) R in
    let bent : is_affine_after e (row_at k r) ≡ false = sym (ap (λ (x : RowAfter). x.is_affine) A) ∙ c.if-not-after.true in
    row_bent (graph t) k J kind h e shape r c.requires.row t.side t.cases.now t.live.now t.budget 0 bent (subst (λ hs. ¬ IsDead hs) c.requires.hyps c.requires.live)

pub slice_bounds-coefs-end : goal.slice_bounds-coefs-end
slice_bounds-coefs-end g c =
    let t = c.args.t.now in
    let n = t.system.now.vars in
    let e = c.args.edge.now in
    let k = t.candidates.now in
    let r = c.args.row in
    let J = family t c.args.at.now in
    let kind = c.requires.lent.kind in
    let h = (shapes_are_families (graph t) k c.args.at.now kind c.requires.shape).0 in
    let shape = each_among (IsEdge n) c.requires.lent.system.edges c.requires.edge in
    let is : c.index-as_slice-row.result ≡ slice_index_or k.rows r c.index-as_slice-row.result = subst (λ xs. c.index-as_slice-row.result ≡ slice_index_or xs r c.index-as_slice-row.result) c.as_slice.ensures c.index-as_slice-row.is in
    let R = row_read k.rows r c.index-as_slice-row.result c.as_slice-2.result.now c.requires.row is c.as_slice-2.ensures in
    let A : c.in-Ok.after ≡ row_after_of n e (row_at k r) = c.in-Ok.ensures.row ∙ ap (row_after_of n e) R in
    let X = form_read n e (row_at k r) c.in-Ok.after c.edge_places-places.result c.as_slice-3.result.now A c.edge_places-places.ensures c.as_slice-3.ensures in
    c.edge_places-places.ensures ∙ sym (ap length X ∙ forms_have_places n e (row_at k r))

pub least_bound-requires-clause-atoms : goal.least_bound-requires-clause-atoms
least_bound-requires-clause-atoms g c =
    let t = c.args.t.now in
    let n = t.system.now.vars in
    let e = c.args.edge.now in
    let k = t.candidates.now in
    let r = c.args.row in
    let J = family t c.args.at.now in
    let kind = c.requires.lent.kind in
    let h = (shapes_are_families (graph t) k c.args.at.now kind c.requires.shape).0 in
    let shape = each_among (IsEdge n) c.requires.lent.system.edges c.requires.edge in
    let is : c.index-as_slice-row.result ≡ slice_index_or k.rows r c.index-as_slice-row.result = subst (λ xs. c.index-as_slice-row.result ≡ slice_index_or xs r c.index-as_slice-row.result) c.as_slice.ensures c.index-as_slice-row.is in
    let R = row_read k.rows r c.index-as_slice-row.result c.as_slice-2.result.now c.requires.row is c.as_slice-2.ensures in
    let A : c.in-Ok.after ≡ row_after_of n e (row_at k r) = c.in-Ok.ensures.row ∙ ap (row_after_of n e) R in
    let X = form_read n e (row_at k r) c.in-Ok.after c.edge_places-places.result c.as_slice-3.result.now A c.edge_places-places.ensures c.as_slice-3.ensures in
    subst (λ hs. AllByRecursion (IsAtom (length (take c.edge_places-places.result c.as_slice-3.result.now))) hs) (sym c.requires.hyps)
    (subst (λ f. AllByRecursion (IsAtom (length f)) (cut_atoms (graph t) k J kind h e shape)) (sym X) (form_kind (graph t) k J kind h e shape r c.requires.row))

pub least_bound-requires-clause-light : goal.least_bound-requires-clause-light
least_bound-requires-clause-light g c =
    let t = c.args.t.now in
    let n = t.system.now.vars in
    let e = c.args.edge.now in
    let k = t.candidates.now in
    let r = c.args.row in
    let J = family t c.args.at.now in
    let kind = c.requires.lent.kind in
    let h = (shapes_are_families (graph t) k c.args.at.now kind c.requires.shape).0 in
    let shape = each_among (IsEdge n) c.requires.lent.system.edges c.requires.edge in
    let is : c.index-as_slice-row.result ≡ slice_index_or k.rows r c.index-as_slice-row.result = subst (λ xs. c.index-as_slice-row.result ≡ slice_index_or xs r c.index-as_slice-row.result) c.as_slice.ensures c.index-as_slice-row.is in
    let R = row_read k.rows r c.index-as_slice-row.result c.as_slice-2.result.now c.requires.row is c.as_slice-2.ensures in
    let A : c.in-Ok.after ≡ row_after_of n e (row_at k r) = c.in-Ok.ensures.row ∙ ap (row_after_of n e) R in
    let X = form_read n e (row_at k r) c.in-Ok.after c.edge_places-places.result c.as_slice-3.result.now A c.edge_places-places.ensures c.as_slice-3.ensures in
    subst (λ f. sum_by unsigned_abs f < 2 ^ 70) (sym X) (form_light (graph t) k J kind h e shape r c.requires.row c.requires.lent.system.few_vars)

pub least_bound-requires-clause-constant : goal.least_bound-requires-clause-constant
least_bound-requires-clause-constant g c =
    let t = c.args.t.now in
    let n = t.system.now.vars in
    let e = c.args.edge.now in
    let k = t.candidates.now in
    let r = c.args.row in
    let J = family t c.args.at.now in
    let kind = c.requires.lent.kind in
    let h = (shapes_are_families (graph t) k c.args.at.now kind c.requires.shape).0 in
    let shape = each_among (IsEdge n) c.requires.lent.system.edges c.requires.edge in
    let is : c.index-as_slice-row.result ≡ slice_index_or k.rows r c.index-as_slice-row.result = subst (λ xs. c.index-as_slice-row.result ≡ slice_index_or xs r c.index-as_slice-row.result) c.as_slice.ensures c.index-as_slice-row.is in
    let R = row_read k.rows r c.index-as_slice-row.result c.as_slice-2.result.now c.requires.row is c.as_slice-2.ensures in
    let A : c.in-Ok.after ≡ row_after_of n e (row_at k r) = c.in-Ok.ensures.row ∙ ap (row_after_of n e) R in
    let row = each_among (IsRow n) kind.rows (at_among [] k.rows r c.requires.row) in
    subst (λ (x : RowAfter). unsigned_abs x.constant < 2 ^ 100) (sym A)
    (constant_light n e (row_at k r) c.requires.lent.system.few_vars shape row.within (let q = row.one_each in omega arith))

pub returns-clause-least : goal.returns-clause-least
returns-clause-least g c =
    let t = c.args.t.now in
    let n = t.system.now.vars in
    let e = c.args.edge.now in
    let k = t.candidates.now in
    let r = c.args.row in
    let J = family t c.args.at.now in
    let kind = c.requires.lent.kind in
    let h = (shapes_are_families (graph t) k c.args.at.now kind c.requires.shape).0 in
    let shape = each_among (IsEdge n) c.requires.lent.system.edges c.requires.edge in
    let is : c.index-as_slice-row.result ≡ slice_index_or k.rows r c.index-as_slice-row.result = subst (λ xs. c.index-as_slice-row.result ≡ slice_index_or xs r c.index-as_slice-row.result) c.as_slice.ensures c.index-as_slice-row.is in
    let R = row_read k.rows r c.index-as_slice-row.result c.as_slice-2.result.now c.requires.row is c.as_slice-2.ensures in
    let A : c.in-Ok.after ≡ row_after_of n e (row_at k r) = c.in-Ok.ensures.row ∙ ap (row_after_of n e) R in
    let X = form_read n e (row_at k r) c.in-Ok.after c.edge_places-places.result c.as_slice-3.result.now A c.edge_places-places.ensures c.as_slice-3.ensures in
    let affine : is_affine_after e (row_at k r) ≡ true = sym (ap (λ (x : RowAfter). x.is_affine) A) ∙ c.if-not-after.false in
    IfOk-weaker c.least_bound.result _ _
    (λ o l. row_least (graph t) k J kind h e shape r c.requires.row t.side t.cases.now t.live.now t.budget 0 affine o
    (least_read k o _ _ _ _ _ _ c.requires.hyps X (ap (λ (x : RowAfter). x.constant) A) l))
    c.least_bound.ensures.least

pub returns-clause-done : goal.returns-clause-done
returns-clause-done g c =
    let t = c.args.t.now in
    let n = t.system.now.vars in
    let e = c.args.edge.now in
    let k = t.candidates.now in
    let r = c.args.row in
    let J = family t c.args.at.now in
    let kind = c.requires.lent.kind in
    let h = (shapes_are_families (graph t) k c.args.at.now kind c.requires.shape).0 in
    let shape = each_among (IsEdge n) c.requires.lent.system.edges c.requires.edge in
    let is : c.index-as_slice-row.result ≡ slice_index_or k.rows r c.index-as_slice-row.result = subst (λ xs. c.index-as_slice-row.result ≡ slice_index_or xs r c.index-as_slice-row.result) c.as_slice.ensures c.index-as_slice-row.is in
    let R = row_read k.rows r c.index-as_slice-row.result c.as_slice-2.result.now c.requires.row is c.as_slice-2.ensures in
    let A : c.in-Ok.after ≡ row_after_of n e (row_at k r) = c.in-Ok.ensures.row ∙ ap (row_after_of n e) R in
    let X = form_read n e (row_at k r) c.in-Ok.after c.edge_places-places.result c.as_slice-3.result.now A c.edge_places-places.ensures c.as_slice-3.ensures in
    IfOk-weaker c.least_bound.result _ _ (λ o d. λ a. row_end (graph t) k J kind h e shape r c.requires.row t.budget (problem_read (HasEnd t.budget) _ _ _ _ c.requires.hyps X d)) c.least_bound.ensures.done

pub returns-clause-fault : goal.returns-clause-fault
returns-clause-fault g c =
    let t = c.args.t.now in
    let n = t.system.now.vars in
    let e = c.args.edge.now in
    let k = t.candidates.now in
    let r = c.args.row in
    let J = family t c.args.at.now in
    let kind = c.requires.lent.kind in
    let h = (shapes_are_families (graph t) k c.args.at.now kind c.requires.shape).0 in
    let shape = each_among (IsEdge n) c.requires.lent.system.edges c.requires.edge in
    let is : c.index-as_slice-row.result ≡ slice_index_or k.rows r c.index-as_slice-row.result = subst (λ xs. c.index-as_slice-row.result ≡ slice_index_or xs r c.index-as_slice-row.result) c.as_slice.ensures c.index-as_slice-row.is in
    let R = row_read k.rows r c.index-as_slice-row.result c.as_slice-2.result.now c.requires.row is c.as_slice-2.ensures in
    let A : c.in-Ok.after ≡ row_after_of n e (row_at k r) = c.in-Ok.ensures.row ∙ ap (row_after_of n e) R in
    let X = form_read n e (row_at k r) c.in-Ok.after c.edge_places-places.result c.as_slice-3.result.now A c.edge_places-places.ensures c.as_slice-3.ensures in
    let affine : is_affine_after e (row_at k r) ≡ true = sym (ap (λ (x : RowAfter). x.is_affine) A) ∙ c.if-not-after.false in
    IfErr-weaker c.least_bound.result _ _
    (λ f d. inl (affine, row_fault (graph t) k J kind h e shape r c.requires.row t.budget f (problem_read (λ p. IsSolveFault (rational p) t.budget f) _ _ _ _ c.requires.hyps X d)))
    c.least_bound.ensures.fault
