-- A row of the entry.
use Rattle.std.specs.Prelude.{◌≡◌, ◌<◌, not, is_some, [], length, take, slice_index_or, None}
use Rattle.std.proofs.Common.{sym, ◌∙◌, ap, subst, arith}
use Rattle.dc_math.specs.Members.{Among, at_among}
use Rattle.dc_affine.specs.declared.atom.Atom.{Atom}
use Rattle.dc_points.specs.Points.{Entails, IsDead}
use Rattle.std.proofs.lemmas.List.{get_or_default}
use Rattle.dc_points.specs.Stated.{rational, sup_problem}
use Rattle.dc_entail.specs.Answers.{IsSolveFault}
use Rattle.dc_rows.specs.Candidate.{row_at, bound_at}
use Rattle.dc_families.specs.Families.{bounded, least_in}
use Rattle.dc_families.specs.Moves.{at_start}
use Rattle.dc_greatest.specs.declared.family.LocFamily.{LocFamily}
use Rattle.dc_greatest.specs.Answers.{IsFault}
use Rattle.dc_greatest.specs.Bounds.{IsLeast, HasEnd, IsRowLowered}
use Rattle.dc_greatest.specs.Lent.{graph, family, case_at, entry_row_asked}
use Rattle.dc_greatest.proofs.Rows.{row_lowered, row_skipped}
use Rattle.dc_greatest.proofs.Sames.{any_default}
use Rattle.dc_greatest.proofs.Sources.{source_kept, none_of}
use Rattle.dc_greatest.proofs.Passing.{entry_done, entry_unasked, entry_refused}
use Rattle.dc_greatest.proofs.pass.case_row.Goals as goal

pub returns-then-is_none-clause-lowered : goal.returns-then-is_none-clause-lowered
returns-then-is_none-clause-lowered g c =
    let t = c.args.t.now in
    let k = t.candidates.now in
    let r = c.args.row in
    let at = c.args.at.now in
    let J = family t at in
    let kind = c.requires.lent.kind in
    let inside : 0 < t.system.now.locs = (let a = c.requires.lent.system.some_location in omega arith) in
    let d = c.index-at-0.result in
    let S : c.as_slice.result.now ≡ d.least = c.as_slice.ensures ∙ sym (ap (λ (f : LocFamily). f.least) c.index-at-0.is) in
    let none = none_of (slice_index_or c.as_slice.result.now r None) (c.is_none.ensures ∙ ap not c.if-is_none.true) in
    let long : 0 < length at = (let b = c.requires.shape.one_each in omega arith) in
    let x = any_default at 0 d c.args.target.now long c.index-at-0.is in
    row_skipped (λ a. Entails (case_at t c.args.k) (at_start t.system.now.params a)) k r c.args.target.now c.requires.fit
    (c.requires.before r (ap (λ (f : LocFamily). slice_index_or f.least r None) x ∙ ap (λ xs. slice_index_or xs r None) (sym S) ∙ none))

pub returns-then-is_none-clause-done : goal.returns-then-is_none-clause-done
returns-then-is_none-clause-done g c =
    let t = c.args.t.now in
    let k = t.candidates.now in
    let r = c.args.row in
    let at = c.args.at.now in
    let J = family t at in
    let kind = c.requires.lent.kind in
    let inside : 0 < t.system.now.locs = (let a = c.requires.lent.system.some_location in omega arith) in
    let d = c.index-at-0.result in
    let S : c.as_slice.result.now ≡ d.least = c.as_slice.ensures ∙ sym (ap (λ (f : LocFamily). f.least) c.index-at-0.is) in
    let src = source_kept (graph t) k at kind c.requires.shape 0 inside d c.index-at-0.is r c.requires.row in
    let is = ap (λ xs. is_some (slice_index_or xs r None)) (sym S) in
    entry_unasked t.side (graph t) k J t.budget c.args.k (case_at t c.args.k) r (is_some (least_in k J 0 r)) (src ∙ is ∙ c.is_none.ensures ∙ ap not c.if-is_none.true)

pub case_least-requires-clause-case : goal.case_least-requires-clause-case
case_least-requires-clause-case g c =
    let t = c.args.t.now in
    let k = t.candidates.now in
    let r = c.args.row in
    let E = c.as_slice-2.ensures ∙ get_or_default t.cases.now c.args.k c.index-t-k.result [] c.requires.case in
    subst (λ x. Among x t.cases.now) (sym E) (at_among [] t.cases.now c.args.k c.requires.case)

pub case_least-requires-clause-live : goal.case_least-requires-clause-live
case_least-requires-clause-live g c =
    let t = c.args.t.now in
    let k = t.candidates.now in
    let r = c.args.row in
    let E = c.as_slice-2.ensures ∙ get_or_default t.cases.now c.args.k c.index-t-k.result [] c.requires.case in
    subst (λ x. ¬ IsDead x) (sym E) c.requires.live

pub returns-in-Ok-clause-lowered : goal.returns-in-Ok-clause-lowered
returns-in-Ok-clause-lowered g c =
    let t = c.args.t.now in
    let k = t.candidates.now in
    let r = c.args.row in
    let E = c.as_slice-2.ensures ∙ get_or_default t.cases.now c.args.k c.index-t-k.result [] c.requires.case in
    let G = λ (a : Atom). Entails (case_at t c.args.k) (at_start t.system.now.params a) in
    subst (IsRowLowered G k r c.args.target.now) (sym c.lower.ensures)
    (row_lowered G k r c.in-Ok.least c.args.target.now c.requires.fit c.requires.row
    (subst (λ case. IsLeast k (λ m. Entails case (at_start t.system.now.params (bounded (row_at k r) (bound_at k m)))) c.in-Ok.least) E c.in-Ok.ensures.least))

pub returns-in-Ok-clause-done : goal.returns-in-Ok-clause-done
returns-in-Ok-clause-done g c =
    let t = c.args.t.now in
    let k = t.candidates.now in
    let r = c.args.row in
    let E = c.as_slice-2.ensures ∙ get_or_default t.cases.now c.args.k c.index-t-k.result [] c.requires.case in
    let J = family t c.args.at.now in
    entry_done t.side (graph t) k J t.budget c.args.k (case_at t c.args.k) r (is_some (least_in k J 0 r))
    (subst (λ case. HasEnd t.budget (sup_problem case (take t.system.now.params (row_at k r)))) E c.in-Ok.ensures.done)

pub returns-in-Err-clause-fault : goal.returns-in-Err-clause-fault
returns-in-Err-clause-fault g c =
    let t = c.args.t.now in
    let k = t.candidates.now in
    let r = c.args.row in
    let at = c.args.at.now in
    let J = family t at in
    let kind = c.requires.lent.kind in
    let inside : 0 < t.system.now.locs = (let a = c.requires.lent.system.some_location in omega arith) in
    let d = c.index-at-0.result in
    let S : c.as_slice.result.now ≡ d.least = c.as_slice.ensures ∙ sym (ap (λ (f : LocFamily). f.least) c.index-at-0.is) in
    let src = source_kept (graph t) k at kind c.requires.shape 0 inside d c.index-at-0.is r c.requires.row in
    let is = ap (λ xs. is_some (slice_index_or xs r None)) (sym S) in
    let E = c.as_slice-2.ensures ∙ get_or_default t.cases.now c.args.k c.index-t-k.result [] c.requires.case in
    subst (IsFault t.budget (λ xs. xs ≡ entry_row_asked t J c.args.k (case_at t c.args.k) r)) (sym c.at.ensures)
    (entry_refused t.side (graph t) k J t.budget c.args.k (case_at t c.args.k) r (is_some (least_in k J 0 r))
    (src ∙ is ∙ c.is_none.ensures ∙ ap not c.if-is_none.false) c.in-Err.fault
    (subst (λ case. IsSolveFault (rational (sup_problem case (take t.system.now.params (row_at k r)))) t.budget c.in-Err.fault) E c.in-Err.ensures.fault))
