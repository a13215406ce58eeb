-- The least bound of a row with the locals 0, by a case.
use Rattle.std.specs.Prelude.{◌≡◌, ◌<◌, ◌^◌, length, take, sum_by, unsigned_abs, slice_index_or}
use Rattle.std.specs.List.{AllByRecursion}
use Rattle.std.proofs.Common.{refl, sym, ◌∙◌, ap, subst}
use Rattle.std.proofs.lemmas.Result.{IfOk-weaker, IfErr-weaker}
use Rattle.dc_affine.specs.Atoms.{IsAtom}
use Rattle.dc_points.specs.Stated.{rational}
use Rattle.dc_entail.specs.Answers.{IsSolveFault}
use Rattle.dc_rows.specs.Candidate.{row_at}
use Rattle.dc_greatest.specs.Bounds.{HasEnd}
use Rattle.dc_greatest.specs.Lent.{graph}
use Rattle.dc_greatest.proofs.Passing.{row_read, least_read, problem_read, start_light, case_kind, start_least}
use Rattle.dc_greatest.proofs.pass.case_least.Goals as goal

pub least_bound-requires-clause-atoms : goal.least_bound-requires-clause-atoms
least_bound-requires-clause-atoms g c =
    let t = c.args.t.now in
    let k = t.candidates.now in
    let r = c.args.row in
    let kind = c.requires.lent.kind in
    let few = c.requires.lent.system.params_first in
    let is : c.index-as_slice-row.result ≡ slice_index_or k.rows r c.index-as_slice-row.result = subst (λ xs. c.index-as_slice-row.result ≡ slice_index_or xs r c.index-as_slice-row.result) c.as_slice.ensures c.index-as_slice-row.is in
    let R = row_read k.rows r c.index-as_slice-row.result c.as_slice-2.result.now c.requires.row is c.as_slice-2.ensures in
    let X : c.deref.result.now ≡ take t.system.now.params (row_at k r) = c.deref.ensures.value ∙ c.in-Ok.ensures ∙ ap (take t.system.now.params) R in
    subst (λ f. AllByRecursion (IsAtom (length f)) c.args.case.now) (sym X) (case_kind (graph t) k kind few r c.requires.row c.args.case.now t.cases.now c.requires.lent.condition.atoms c.requires.case)

pub least_bound-requires-clause-light : goal.least_bound-requires-clause-light
least_bound-requires-clause-light g c =
    let t = c.args.t.now in
    let k = t.candidates.now in
    let r = c.args.row in
    let kind = c.requires.lent.kind in
    let few = c.requires.lent.system.params_first in
    let is : c.index-as_slice-row.result ≡ slice_index_or k.rows r c.index-as_slice-row.result = subst (λ xs. c.index-as_slice-row.result ≡ slice_index_or xs r c.index-as_slice-row.result) c.as_slice.ensures c.index-as_slice-row.is in
    let R = row_read k.rows r c.index-as_slice-row.result c.as_slice-2.result.now c.requires.row is c.as_slice-2.ensures in
    let X : c.deref.result.now ≡ take t.system.now.params (row_at k r) = c.deref.ensures.value ∙ c.in-Ok.ensures ∙ ap (take t.system.now.params) R in
    subst (λ f. sum_by unsigned_abs f < 2 ^ 70) (sym X) (start_light (graph t) k kind few r c.requires.row c.requires.lent.system.few_vars)

pub returns-clause-least : goal.returns-clause-least
returns-clause-least g c =
    let t = c.args.t.now in
    let k = t.candidates.now in
    let r = c.args.row in
    let kind = c.requires.lent.kind in
    let few = c.requires.lent.system.params_first in
    let is : c.index-as_slice-row.result ≡ slice_index_or k.rows r c.index-as_slice-row.result = subst (λ xs. c.index-as_slice-row.result ≡ slice_index_or xs r c.index-as_slice-row.result) c.as_slice.ensures c.index-as_slice-row.is in
    let R = row_read k.rows r c.index-as_slice-row.result c.as_slice-2.result.now c.requires.row is c.as_slice-2.ensures in
    let X : c.deref.result.now ≡ take t.system.now.params (row_at k r) = c.deref.ensures.value ∙ c.in-Ok.ensures ∙ ap (take t.system.now.params) R in
    IfOk-weaker c.least_bound.result _ _ (λ o l. start_least (graph t) k kind few r c.requires.row c.args.case.now o (least_read k o _ _ _ _ _ _ refl X refl l)) c.least_bound.ensures.least

pub returns-clause-done : goal.returns-clause-done
returns-clause-done g c =
    let t = c.args.t.now in
    let k = t.candidates.now in
    let r = c.args.row in
    let kind = c.requires.lent.kind in
    let few = c.requires.lent.system.params_first in
    let is : c.index-as_slice-row.result ≡ slice_index_or k.rows r c.index-as_slice-row.result = subst (λ xs. c.index-as_slice-row.result ≡ slice_index_or xs r c.index-as_slice-row.result) c.as_slice.ensures c.index-as_slice-row.is in
    let R = row_read k.rows r c.index-as_slice-row.result c.as_slice-2.result.now c.requires.row is c.as_slice-2.ensures in
    let X : c.deref.result.now ≡ take t.system.now.params (row_at k r) = c.deref.ensures.value ∙ c.in-Ok.ensures ∙ ap (take t.system.now.params) R in
    IfOk-weaker c.least_bound.result _ _ (λ o d. problem_read (HasEnd t.budget) _ _ _ _ refl X d) c.least_bound.ensures.done

pub returns-clause-fault : goal.returns-clause-fault
returns-clause-fault g c =
    let t = c.args.t.now in
    let k = t.candidates.now in
    let r = c.args.row in
    let kind = c.requires.lent.kind in
    let few = c.requires.lent.system.params_first in
    let is : c.index-as_slice-row.result ≡ slice_index_or k.rows r c.index-as_slice-row.result = subst (λ xs. c.index-as_slice-row.result ≡ slice_index_or xs r c.index-as_slice-row.result) c.as_slice.ensures c.index-as_slice-row.is in
    let R = row_read k.rows r c.index-as_slice-row.result c.as_slice-2.result.now c.requires.row is c.as_slice-2.ensures in
    let X : c.deref.result.now ≡ take t.system.now.params (row_at k r) = c.deref.ensures.value ∙ c.in-Ok.ensures ∙ ap (take t.system.now.params) R in
    IfErr-weaker c.least_bound.result _ _ (λ f d. problem_read (λ p. IsSolveFault (rational p) t.budget f) _ _ _ _ refl X d) c.least_bound.ensures.fault
