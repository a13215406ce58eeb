-- An edge whose source has false is not asked for; a dead edge gives everything; along a live one false is dropped and the rows are lowered.
use Rattle.std.specs.Prelude.{◌≡◌}
use Rattle.std.specs.List.{AllByRecursion}
use Rattle.std.proofs.Common.{rules, sym, ◌∙◌, ap, subst, arith}
use Rattle.std.proofs.lemmas.Result.{IfErr-weaker}
use Rattle.dc_math.specs.Members.{each_among}
use Rattle.dc_affine.specs.Atoms.{IsAtom}
use Rattle.dc_system.specs.Shapes.{IsEdge, IsWithin as EndsWithin}
use Rattle.dc_points.specs.Points.{IsDead, MeetsAll}
use Rattle.dc_points.specs.Stated.{rational}
use Rattle.dc_entail.specs.Answers.{IsSolveFault}
use Rattle.dc_families.specs.Families.{atoms_at}
use Rattle.dc_families.specs.Rounds.{EdgeGives}
use Rattle.dc_moves.specs.Cuts.{with_guard}
use Rattle.dc_greatest.specs.Answers.{IsFault}
use Rattle.dc_greatest.specs.Bounds.{HasEnd}
use Rattle.dc_greatest.specs.Lent.{graph, family, EdgeAsks}
use Rattle.dc_greatest.specs.Parts.{edge_empty}
use Rattle.dc_greatest.proofs.Bridges.{shapes_are_families}
use Rattle.dc_greatest.proofs.EdgeTaken.{taken_false, taken_dead, taken_live, live_never, done_live, fault_empty, fault_rows}
use Rattle.dc_greatest.proofs.Faults.{fault_with_site, best_end, refuted_end, on_both}
use Rattle.dc_greatest.proofs.Passing.{cut_atoms, cut_kind, live_whole, dead_whole, empty_same, empty_read}
use Rattle.dc_greatest.proofs.Rows.{taken_lowered}
use Rattle.dc_greatest.proofs.Sources.{source_fit, source_never, source_alive, source_list}
use Rattle.dc_greatest.proofs.pass.pass_edge.Goals as goal

pub offset_bounds-at-edge : goal.offset_bounds-at-edge
offset_bounds-at-edge g c =
    let t = c.args.t.now in
    let ends = each_among (EndsWithin t.system.now.locs) c.requires.lent.system.ends c.requires.edge in
    let a = ends.from in
    let b = c.requires.lent.system.few_locations in
    search rules

pub bounds-at-edge : goal.bounds-at-edge
bounds-at-edge g c =
    let t = c.args.t.now in
    let ends = each_among (EndsWithin t.system.now.locs) c.requires.lent.system.ends c.requires.edge in
    let a = ends.from in
    let b = c.requires.shape.one_each in
    omega arith

pub returns-then-source-clause-answer : goal.returns-then-source-clause-answer
returns-then-source-clause-answer g c =
    let t = c.args.t.now in
    let n = t.system.now.vars in
    let e = c.args.edge.now in
    let k = t.candidates.now in
    let at = c.args.at.now in
    let J = family t at in
    let kind = c.requires.lent.kind in
    let h = (shapes_are_families (graph t) k at kind c.requires.shape).0 in
    let shape = each_among (IsEdge n) c.requires.lent.system.edges c.requires.edge in
    let ends = each_among (EndsWithin t.system.now.locs) c.requires.lent.system.ends c.requires.edge in
    let d = c.index-at-edge.result in
    taken_false t.side (graph t) t.cases.now t.live.now k J t.budget c.args.k e kind h c.args.target.now c.requires.fit (source_never (graph t) k at kind c.requires.shape e.from ends.from d c.index-at-edge.is c.if-source.true)

pub least_atoms-requires : goal.least_atoms-requires
least_atoms-requires g c =
    let t = c.args.t.now in
    let n = t.system.now.vars in
    let e = c.args.edge.now in
    let k = t.candidates.now in
    let at = c.args.at.now in
    let J = family t at in
    let kind = c.requires.lent.kind in
    let h = (shapes_are_families (graph t) k at kind c.requires.shape).0 in
    let shape = each_among (IsEdge n) c.requires.lent.system.edges c.requires.edge in
    let ends = each_among (EndsWithin t.system.now.locs) c.requires.lent.system.ends c.requires.edge in
    let d = c.index-at-edge.result in
    source_fit (graph t) k at kind c.requires.shape e.from ends.from d c.index-at-edge.is

pub empty-requires : goal.empty-requires
empty-requires g c =
    let t = c.args.t.now in
    let n = t.system.now.vars in
    let e = c.args.edge.now in
    let k = t.candidates.now in
    let at = c.args.at.now in
    let J = family t at in
    let kind = c.requires.lent.kind in
    let h = (shapes_are_families (graph t) k at kind c.requires.shape).0 in
    let shape = each_among (IsEdge n) c.requires.lent.system.edges c.requires.edge in
    let ends = each_among (EndsWithin t.system.now.locs) c.requires.lent.system.ends c.requires.edge in
    let d = c.index-at-edge.result in
    let P = c.edge_places-places.result in
    let alive = source_alive (graph t) k at kind c.requires.shape e.from ends.from d c.index-at-edge.is c.if-source.false in
    let HS : c.in_ok-hyps.hyps.items ≡ cut_atoms (graph t) k J kind h e shape =
    c.in_ok-hyps.ensures ∙ ap (λ xs. with_guard P xs e) (c.in_ok-atoms.ensures ∙ source_list (graph t) k at kind c.requires.shape e.from ends.from d c.index-at-edge.is c.if-source.false)
    ∙ ap (λ m. with_guard m (atoms_at n k J e.from) e) c.edge_places-places.ensures in
    let HY : c.deref.result.now ≡ cut_atoms (graph t) k J kind h e shape = c.deref.ensures.value ∙ HS in
    record { atoms = subst (AllByRecursion (IsAtom P)) (sym HY) (subst (λ m. AllByRecursion (IsAtom m) (cut_atoms (graph t) k J kind h e shape)) (sym c.edge_places-places.ensures) (cut_kind (graph t) k J kind h e shape)) }

pub returns-in-Ok-Dead-clause-answer : goal.returns-in-Ok-Dead-clause-answer
returns-in-Ok-Dead-clause-answer g c =
    let t = c.args.t.now in
    let n = t.system.now.vars in
    let e = c.args.edge.now in
    let k = t.candidates.now in
    let at = c.args.at.now in
    let J = family t at in
    let kind = c.requires.lent.kind in
    let h = (shapes_are_families (graph t) k at kind c.requires.shape).0 in
    let shape = each_among (IsEdge n) c.requires.lent.system.edges c.requires.edge in
    let ends = each_among (EndsWithin t.system.now.locs) c.requires.lent.system.ends c.requires.edge in
    let d = c.index-at-edge.result in
    let P = c.edge_places-places.result in
    let alive = source_alive (graph t) k at kind c.requires.shape e.from ends.from d c.index-at-edge.is c.if-source.false in
    let HS : c.in_ok-hyps.hyps.items ≡ cut_atoms (graph t) k J kind h e shape =
    c.in_ok-hyps.ensures ∙ ap (λ xs. with_guard P xs e) (c.in_ok-atoms.ensures ∙ source_list (graph t) k at kind c.requires.shape e.from ends.from d c.index-at-edge.is c.if-source.false)
    ∙ ap (λ m. with_guard m (atoms_at n k J e.from) e) c.edge_places-places.ensures in
    let HY : c.deref.result.now ≡ cut_atoms (graph t) k J kind h e shape = c.deref.ensures.value ∙ HS in
    let T = rw c.in-Ok-Dead.field-0-is at c.in-Ok-Dead.ensures.answer in
    let own = subst (HasEnd t.budget) (empty_same (graph t) k J kind h e shape) (empty_read (HasEnd t.budget) _ _ _ _ HY c.edge_places-places.ensures (best_end t.budget _ _ T.outcome)) in
    taken_dead t.side (graph t) t.cases.now t.live.now k J t.budget c.args.k e kind h c.args.target.now c.requires.fit alive (dead_whole (graph t) k J kind h e shape (subst IsDead HY T.dead)) own

pub edge_rows-requires-clause-hyps : goal.edge_rows-requires-clause-hyps
edge_rows-requires-clause-hyps g c =
    let t = c.args.t.now in
    let n = t.system.now.vars in
    let e = c.args.edge.now in
    let k = t.candidates.now in
    let at = c.args.at.now in
    let J = family t at in
    let kind = c.requires.lent.kind in
    let h = (shapes_are_families (graph t) k at kind c.requires.shape).0 in
    let shape = each_among (IsEdge n) c.requires.lent.system.edges c.requires.edge in
    let ends = each_among (EndsWithin t.system.now.locs) c.requires.lent.system.ends c.requires.edge in
    let d = c.index-at-edge.result in
    let P = c.edge_places-places.result in
    let alive = source_alive (graph t) k at kind c.requires.shape e.from ends.from d c.index-at-edge.is c.if-source.false in
    let HS : c.in_ok-hyps.hyps.items ≡ cut_atoms (graph t) k J kind h e shape =
    c.in_ok-hyps.ensures ∙ ap (λ xs. with_guard P xs e) (c.in_ok-atoms.ensures ∙ source_list (graph t) k at kind c.requires.shape e.from ends.from d c.index-at-edge.is c.if-source.false)
    ∙ ap (λ m. with_guard m (atoms_at n k J e.from) e) c.edge_places-places.ensures in
    let HY : c.deref.result.now ≡ cut_atoms (graph t) k J kind h e shape = c.deref.ensures.value ∙ HS in
    c.deref-in-Ok-Live.ensures.value ∙ HS

pub edge_rows-requires-clause-live : goal.edge_rows-requires-clause-live
edge_rows-requires-clause-live g c =
    let T = rw c.in-Ok-Live.field-0-is at c.in-Ok-Live.ensures.answer in
    λ dd. dd T.point (subst (MeetsAll T.point) (c.deref.ensures.value ∙ sym c.deref-in-Ok-Live.ensures.value) T.meets)

pub returns-in-Ok-Live-clause-answer : goal.returns-in-Ok-Live-clause-answer
returns-in-Ok-Live-clause-answer g c =
    let t = c.args.t.now in
    let n = t.system.now.vars in
    let e = c.args.edge.now in
    let k = t.candidates.now in
    let at = c.args.at.now in
    let J = family t at in
    let kind = c.requires.lent.kind in
    let h = (shapes_are_families (graph t) k at kind c.requires.shape).0 in
    let shape = each_among (IsEdge n) c.requires.lent.system.edges c.requires.edge in
    let ends = each_among (EndsWithin t.system.now.locs) c.requires.lent.system.ends c.requires.edge in
    let d = c.index-at-edge.result in
    let P = c.edge_places-places.result in
    let alive = source_alive (graph t) k at kind c.requires.shape e.from ends.from d c.index-at-edge.is c.if-source.false in
    let HS : c.in_ok-hyps.hyps.items ≡ cut_atoms (graph t) k J kind h e shape =
    c.in_ok-hyps.ensures ∙ ap (λ xs. with_guard P xs e) (c.in_ok-atoms.ensures ∙ source_list (graph t) k at kind c.requires.shape e.from ends.from d c.index-at-edge.is c.if-source.false)
    ∙ ap (λ m. with_guard m (atoms_at n k J e.from) e) c.edge_places-places.ensures in
    let HY : c.deref.result.now ≡ cut_atoms (graph t) k J kind h e shape = c.deref.ensures.value ∙ HS in
    let T = rw c.in-Ok-Live.field-0-is at c.in-Ok-Live.ensures.answer in
    let live = live_whole (graph t) k J kind h e shape (λ dd. dd T.point (subst (MeetsAll T.point) HY T.meets)) in
    let own = subst (HasEnd t.budget) (empty_same (graph t) k J kind h e shape) (empty_read (HasEnd t.budget) _ _ _ _ HY c.edge_places-places.ensures (refuted_end t.budget _ _ T.outcome)) in
    on_both c.edge_rows.result _ _ _
    (λ low rows. taken_live t.side (graph t) t.cases.now t.live.now k J t.budget c.args.k e kind h c.args.target.now c.edge_rows.new.target live
    (taken_lowered (EdgeGives (graph t) J e) k n c.args.target.now c.edge_rows.new.target (live_never t.side (graph t) t.cases.now t.live.now k J t.budget c.args.k e kind h live) low)
    (done_live t.side (graph t) t.cases.now t.live.now k J t.budget c.args.k e kind h alive own rows))
    c.edge_rows.ensures.lowered c.edge_rows.ensures.done

pub returns-in-Ok-Live-clause-fault : goal.returns-in-Ok-Live-clause-fault
returns-in-Ok-Live-clause-fault g c =
    let t = c.args.t.now in
    let n = t.system.now.vars in
    let e = c.args.edge.now in
    let k = t.candidates.now in
    let at = c.args.at.now in
    let J = family t at in
    let kind = c.requires.lent.kind in
    let h = (shapes_are_families (graph t) k at kind c.requires.shape).0 in
    let shape = each_among (IsEdge n) c.requires.lent.system.edges c.requires.edge in
    let ends = each_among (EndsWithin t.system.now.locs) c.requires.lent.system.ends c.requires.edge in
    let d = c.index-at-edge.result in
    let P = c.edge_places-places.result in
    let alive = source_alive (graph t) k at kind c.requires.shape e.from ends.from d c.index-at-edge.is c.if-source.false in
    let HS : c.in_ok-hyps.hyps.items ≡ cut_atoms (graph t) k J kind h e shape =
    c.in_ok-hyps.ensures ∙ ap (λ xs. with_guard P xs e) (c.in_ok-atoms.ensures ∙ source_list (graph t) k at kind c.requires.shape e.from ends.from d c.index-at-edge.is c.if-source.false)
    ∙ ap (λ m. with_guard m (atoms_at n k J e.from) e) c.edge_places-places.ensures in
    let HY : c.deref.result.now ≡ cut_atoms (graph t) k J kind h e shape = c.deref.ensures.value ∙ HS in
    let T = rw c.in-Ok-Live.field-0-is at c.in-Ok-Live.ensures.answer in
    let live = live_whole (graph t) k J kind h e shape (λ dd. dd T.point (subst (MeetsAll T.point) HY T.meets)) in
    let own = subst (HasEnd t.budget) (empty_same (graph t) k J kind h e shape) (empty_read (HasEnd t.budget) _ _ _ _ HY c.edge_places-places.ensures (refuted_end t.budget _ _ T.outcome)) in
    IfErr-weaker c.edge_rows.result _ _ (λ f q. fault_rows t.side (graph t) t.cases.now t.live.now k J t.budget c.args.k e kind h alive live own f q) c.edge_rows.ensures.fault

pub returns-clause-fault : goal.returns-clause-fault
returns-clause-fault g c =
    let t = c.args.t.now in
    let n = t.system.now.vars in
    let e = c.args.edge.now in
    let k = t.candidates.now in
    let at = c.args.at.now in
    let J = family t at in
    let kind = c.requires.lent.kind in
    let h = (shapes_are_families (graph t) k at kind c.requires.shape).0 in
    let shape = each_among (IsEdge n) c.requires.lent.system.edges c.requires.edge in
    let ends = each_among (EndsWithin t.system.now.locs) c.requires.lent.system.ends c.requires.edge in
    let d = c.index-at-edge.result in
    let P = c.edge_places-places.result in
    let alive = source_alive (graph t) k at kind c.requires.shape e.from ends.from d c.index-at-edge.is c.if-source.false in
    let HS : c.in_ok-hyps.hyps.items ≡ cut_atoms (graph t) k J kind h e shape =
    c.in_ok-hyps.ensures ∙ ap (λ xs. with_guard P xs e) (c.in_ok-atoms.ensures ∙ source_list (graph t) k at kind c.requires.shape e.from ends.from d c.index-at-edge.is c.if-source.false)
    ∙ ap (λ m. with_guard m (atoms_at n k J e.from) e) c.edge_places-places.ensures in
    let HY : c.deref.result.now ≡ cut_atoms (graph t) k J kind h e shape = c.deref.ensures.value ∙ HS in
    let own = subst (λ p. IsSolveFault (rational p) t.budget c.in-Err.fault) (empty_same (graph t) k J kind h e shape)
    (empty_read (λ p. IsSolveFault (rational p) t.budget c.in-Err.fault) _ _ _ _ HY c.edge_places-places.ensures c.in-Err.ensures.fault) in
    subst (IsFault t.budget (EdgeAsks t J c.args.k e)) (sym c.at.ensures)
    (fault_empty t.side (graph t) t.cases.now t.live.now k J t.budget c.args.k e kind h alive _ (fault_with_site t.budget (edge_empty t.side (graph t) k J c.args.k e) c.in-Err.fault own))
