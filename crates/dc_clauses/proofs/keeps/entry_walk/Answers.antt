use Rattle.std.proofs.Common.{◌≡◌, ◌<◌, ◌≤◌, ◌∙◌, sym, ap, subst, arith, length, get_or, min, List}
use Rattle.dc_math.specs.Members.{each_is}
use Rattle.dc_affine.specs.declared.atom.Atom.{Atom}
use Rattle.dc_cert.specs.declared.sparse.Sparse.{Sparse}
use Rattle.dc_cert.specs.Ranges.{AreKeeps}
use Rattle.dc_clauses.specs.Steps.{counted, first_failure}
use Rattle.dc_clauses.specs.Sides.{entry_test, paired, atoms_at}
use Rattle.dc_clauses.proofs.Shaped.{case_keeps}
use Rattle.dc_clauses.proofs.Walks.{length-paired, walk_more, walk_stops, walk_ends_least}
use Rattle.dc_clauses.proofs.keeps.entry_walk.Goals as goal

pub case_keep_failure-requires-clause-range : goal.case_keep_failure-requires-clause-range
case_keep_failure-requires-clause-range c =
    let b : c.loop-k.k < min (length c.args.cases.now) (length c.as_slice-lists.result.now) = subst (λ i. c.loop-k.k < i) c.min-k-end.ensures c.loop-k-test.true in
    let l : c.loop-k.k < length c.args.cases.now = omega arith in
    let m : c.loop-k.k < length c.args.x.now.entry_keeps = (let e = ap (length {A = List Sparse}) c.as_slice-lists.ensures in omega arith) in
    let q : c.as_slice-keeps.result.now ≡ get_or c.args.x.now.entry_keeps c.loop-k.k c.as_slice-keeps.result.now = c.as_slice-keeps.ensures ∙ c.index-lists-k.is ∙ ap (λ kss. get_or kss c.loop-k.k c.index-lists-k.result) c.as_slice-lists.ensures ∙ ap (get_or c.args.x.now.entry_keeps c.loop-k.k) (sym c.as_slice-keeps.ensures) in
    let e : c.as_slice.result.now ≡ get_or c.args.cases.now c.loop-k.k c.as_slice.result.now = c.as_slice.ensures ∙ c.index-cases-k.is ∙ ap (get_or c.args.cases.now c.loop-k.k) (sym c.as_slice.ensures) in
    let h = case_keeps c.args.x.now c.args.cases.now c.loop-k.k c.as_slice.result.now c.as_slice-keeps.result.now c.requires.fits l m e q in
    h.1

pub case_keep_failure-requires-clause-one_each : goal.case_keep_failure-requires-clause-one_each
case_keep_failure-requires-clause-one_each c =
    let b : c.loop-k.k < min (length c.args.cases.now) (length c.as_slice-lists.result.now) = subst (λ i. c.loop-k.k < i) c.min-k-end.ensures c.loop-k-test.true in
    let l : c.loop-k.k < length c.args.cases.now = omega arith in
    let m : c.loop-k.k < length c.args.x.now.entry_keeps = (let e = ap (length {A = List Sparse}) c.as_slice-lists.ensures in omega arith) in
    let q : c.as_slice-keeps.result.now ≡ get_or c.args.x.now.entry_keeps c.loop-k.k c.as_slice-keeps.result.now = c.as_slice-keeps.ensures ∙ c.index-lists-k.is ∙ ap (λ kss. get_or kss c.loop-k.k c.index-lists-k.result) c.as_slice-lists.ensures ∙ ap (get_or c.args.x.now.entry_keeps c.loop-k.k) (sym c.as_slice-keeps.ensures) in
    let e : c.as_slice.result.now ≡ get_or c.args.cases.now c.loop-k.k c.as_slice.result.now = c.as_slice.ensures ∙ c.index-cases-k.is ∙ ap (get_or c.args.cases.now c.loop-k.k) (sym c.as_slice.ensures) in
    let h = case_keeps c.args.x.now c.args.cases.now c.loop-k.k c.as_slice.result.now c.as_slice-keeps.result.now c.requires.fits l m e q in
    subst (λ (xs : List Atom). length c.as_slice-keeps.result.now ≤ length xs) (sym c.atoms_at-atoms.ensures) h.0

pub returns-in-Some-clause-walk : goal.returns-in-Some-clause-walk
returns-in-Some-clause-walk c =
    let b : c.loop-k.k < min (length c.args.cases.now) (length c.as_slice-lists.result.now) = subst (λ i. c.loop-k.k < i) c.min-k-end.ensures c.loop-k-test.true in
    let l : c.loop-k.k < length c.args.cases.now = omega arith in
    let m : c.loop-k.k < length c.args.x.now.entry_keeps = (let e = ap (length {A = List Sparse}) c.as_slice-lists.ensures in omega arith) in
    let q : c.as_slice-keeps.result.now ≡ get_or c.args.x.now.entry_keeps c.loop-k.k c.as_slice-keeps.result.now = c.as_slice-keeps.ensures ∙ c.index-lists-k.is ∙ ap (λ kss. get_or kss c.loop-k.k c.index-lists-k.result) c.as_slice-lists.ensures ∙ ap (get_or c.args.x.now.entry_keeps c.loop-k.k) (sym c.as_slice-keeps.ensures) in
    let e : c.as_slice.result.now ≡ get_or c.args.cases.now c.loop-k.k c.as_slice.result.now = c.as_slice.ensures ∙ c.index-cases-k.is ∙ ap (get_or c.args.cases.now c.loop-k.k) (sym c.as_slice.ensures) in
    walk_stops (λ case ks. paired (entry_test c.args.s.now case) (atoms_at c.args.x.now 0) ks) c.args.cases.now c.args.x.now.entry_keeps 3 c.args.start c.loop-k.k c.loop-k.next c.loop-k.invariant
    c.as_slice.result.now c.as_slice-keeps.result.now l m e q c.in-Some.step
    (sym c.in-Some.is ∙ c.in_ok-found.ensures ∙ ap (λ xs. first_failure (counted 3 c.loop-k.next (paired (entry_test c.args.s.now c.as_slice.result.now) xs c.as_slice-keeps.result.now))) c.atoms_at-atoms.ensures)

pub loop-k-preserved : goal.loop-k-preserved
loop-k-preserved c =
    let b : c.loop-k.k < min (length c.args.cases.now) (length c.as_slice-lists.result.now) = subst (λ i. c.loop-k.k < i) c.min-k-end.ensures c.loop-k-test.true in
    let l : c.loop-k.k < length c.args.cases.now = omega arith in
    let m : c.loop-k.k < length c.args.x.now.entry_keeps = (let e = ap (length {A = List Sparse}) c.as_slice-lists.ensures in omega arith) in
    let q : c.as_slice-keeps.result.now ≡ get_or c.args.x.now.entry_keeps c.loop-k.k c.as_slice-keeps.result.now = c.as_slice-keeps.ensures ∙ c.index-lists-k.is ∙ ap (λ kss. get_or kss c.loop-k.k c.index-lists-k.result) c.as_slice-lists.ensures ∙ ap (get_or c.args.x.now.entry_keeps c.loop-k.k) (sym c.as_slice-keeps.ensures) in
    let e : c.as_slice.result.now ≡ get_or c.args.cases.now c.loop-k.k c.as_slice.result.now = c.as_slice.ensures ∙ c.index-cases-k.is ∙ ap (get_or c.args.cases.now c.loop-k.k) (sym c.as_slice.ensures) in
    let h = case_keeps c.args.x.now c.args.cases.now c.loop-k.k c.as_slice.result.now c.as_slice-keeps.result.now c.requires.fits l m e q in
    walk_more (λ case ks. paired (entry_test c.args.s.now case) (atoms_at c.args.x.now 0) ks) c.args.cases.now c.args.x.now.entry_keeps 3 c.args.start c.loop-k.k c.loop-k.next c.loop-k.invariant
    c.as_slice.result.now c.as_slice-keeps.result.now l m e q (length c.as_slice-keeps.result.now)
    (sym (length-paired (entry_test c.args.s.now c.as_slice.result.now) (atoms_at c.args.x.now 0) c.as_slice-keeps.result.now h.0))
    (each_is AreKeeps c.args.x.now.entry_keeps c.loop-k.k c.as_slice-keeps.result.now c.requires.part.entry_keeps m q).few
    (sym c.in_default.is ∙ c.in_ok-found.ensures ∙ ap (λ xs. first_failure (counted 3 c.loop-k.next (paired (entry_test c.args.s.now c.as_slice.result.now) xs c.as_slice-keeps.result.now))) c.atoms_at-atoms.ensures)

pub returns-clause-walk : goal.returns-clause-walk
returns-clause-walk c =
    let b : min (length c.args.cases.now) (length c.as_slice-lists.result.now) ≤ c.loop-k.k = subst (λ i. i ≤ c.loop-k.k) c.min-k-end.ensures c.loop-k-test.false in
    walk_ends_least (λ case ks. paired (entry_test c.args.s.now case) (atoms_at c.args.x.now 0) ks) c.args.cases.now c.args.x.now.entry_keeps 3 c.args.start c.loop-k.k c.loop-k.next c.loop-k.invariant
    (let e = ap (length {A = List Sparse}) c.as_slice-lists.ensures in omega arith)
