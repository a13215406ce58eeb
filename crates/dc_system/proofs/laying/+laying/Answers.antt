use Rattle.std.proofs.Common.{◌≡◌, ◌+◌, arith, ap, ◌∙◌, sym, refl}
use Rattle.std.proofs.lemmas.Result.{on_ok_weaker}
use Rattle.dc_affine.specs.Whole.{all_pass}
use Rattle.dc_graph.specs.Pieces.{sizes, pieces, piece}
use Rattle.dc_system.proofs.Counts.{size-If, size-IfAny, size-While, size-WhileAny, sizes_step}
use Rattle.dc_system.proofs.Passes.{passes-Assume, passes-If, passes-IfAny, passes-While, passes-WhileAny, passes_at}
use Rattle.dc_system.proofs.Arms.{Assume_is, If_is, IfAny_is, While_is, WhileAny_is, loop_step, first_more, first_last}
use Rattle.dc_system.proofs.laying.+laying.Goals.{lay_all-then-i-body, lay_all-else-i-body}
use Rattle.dc_system.proofs.laying.+laying.Goals as goal

pub lay-cases-requires-clause-passes : goal.lay-cases-requires-clause-passes
lay-cases-requires-clause-passes t c = (passes-Assume c.args.vars _ _ c.in-Assume.is c.requires.passes).faultless

pub lay-overflow_add-second-in-If : goal.lay-overflow_add-second-in-If
lay-overflow_add-second-in-If t c =
    let e = size-If _ _ _ c.in-If.is in
    let a = ap (λ l. sizes (pieces l)) c.as_slice.ensures in
    omega (arith, c.count_all.ensures, c.requires.within)

pub lay-cases-requires-in-If-clause-passes : goal.lay-cases-requires-in-If-clause-passes
lay-cases-requires-in-If-clause-passes t c = (passes-If c.args.vars _ _ _ _ c.in-If.is c.requires.passes).0.yes

pub lay-cases-requires-in-If-2-clause-passes : goal.lay-cases-requires-in-If-2-clause-passes
lay-cases-requires-in-If-2-clause-passes t c = (passes-If c.args.vars _ _ _ _ c.in-If.is c.requires.passes).0.no

pub lay-lay_all-requires : goal.lay-lay_all-requires
lay-lay_all-requires t c =
    let e = size-If _ _ _ c.in-If.is in
    let a = ap (λ l. sizes (pieces l)) c.as_slice-in-If-3.ensures in
    (omega (arith, c.decreases), (c.requires.few, (ap (all_pass c.args.vars) c.as_slice-in-If-3.ensures ∙ (passes-If c.args.vars _ _ _ _ c.in-If.is c.requires.passes).1, omega (arith, c.requires.within))))

pub lay-lay_all-requires-in-If : goal.lay-lay_all-requires-in-If
lay-lay_all-requires-in-If t c =
    let e = size-If _ _ _ c.in-If.is in
    let a = ap (λ l. sizes (pieces l)) c.as_slice.ensures in
    let b = ap (λ l. sizes (pieces l)) c.as_slice-in-If-4.ensures in
    (omega (arith, c.decreases), (c.requires.few, (ap (all_pass c.args.vars) c.as_slice-in-If-4.ensures ∙ (passes-If c.args.vars _ _ _ _ c.in-If.is c.requires.passes).2, omega (arith, c.count_all.ensures, c.requires.within))))

pub lay-overflow_add-second-in-IfAny-2 : goal.lay-overflow_add-second-in-IfAny-2
lay-overflow_add-second-in-IfAny-2 t c =
    let e = size-IfAny _ _ c.in-IfAny.is in
    let a = ap (λ l. sizes (pieces l)) c.as_slice-in-IfAny.ensures in
    omega (arith, c.count_all-in-IfAny.ensures, c.requires.within)

pub lay-lay_all-requires-in-IfAny : goal.lay-lay_all-requires-in-IfAny
lay-lay_all-requires-in-IfAny t c =
    let e = size-IfAny _ _ c.in-IfAny.is in
    let a = ap (λ l. sizes (pieces l)) c.as_slice-in-IfAny-4.ensures in
    (omega (arith, c.decreases), (c.requires.few, (ap (all_pass c.args.vars) c.as_slice-in-IfAny-4.ensures ∙ (passes-IfAny c.args.vars _ _ _ c.in-IfAny.is c.requires.passes).0, omega (arith, c.requires.within))))

pub lay-lay_all-requires-in-IfAny-2 : goal.lay-lay_all-requires-in-IfAny-2
lay-lay_all-requires-in-IfAny-2 t c =
    let e = size-IfAny _ _ c.in-IfAny.is in
    let a = ap (λ l. sizes (pieces l)) c.as_slice-in-IfAny.ensures in
    let b = ap (λ l. sizes (pieces l)) c.as_slice-in-IfAny-5.ensures in
    (omega (arith, c.decreases), (c.requires.few, (ap (all_pass c.args.vars) c.as_slice-in-IfAny-5.ensures ∙ (passes-IfAny c.args.vars _ _ _ c.in-IfAny.is c.requires.passes).1, omega (arith, c.count_all-in-IfAny.ensures, c.requires.within))))

pub lay-cases-requires-in-While-clause-passes : goal.lay-cases-requires-in-While-clause-passes
lay-cases-requires-in-While-clause-passes t c = (passes-While c.args.vars _ _ _ c.in-While.is c.requires.passes).0.yes

pub lay-cases-requires-in-While-2-clause-passes : goal.lay-cases-requires-in-While-2-clause-passes
lay-cases-requires-in-While-2-clause-passes t c = (passes-While c.args.vars _ _ _ c.in-While.is c.requires.passes).0.no

pub lay-lay_all-requires-in-While : goal.lay-lay_all-requires-in-While
lay-lay_all-requires-in-While t c =
    let e = size-While _ _ c.in-While.is in
    let a = ap (λ l. sizes (pieces l)) c.as_slice-in-While-2.ensures in
    (omega (arith, c.decreases), (c.requires.few, (ap (all_pass c.args.vars) c.as_slice-in-While-2.ensures ∙ (passes-While c.args.vars _ _ _ c.in-While.is c.requires.passes).1, omega (arith, c.requires.within))))

pub lay-lay_all-requires-in-WhileAny : goal.lay-lay_all-requires-in-WhileAny
lay-lay_all-requires-in-WhileAny t c =
    let e = size-WhileAny _ c.in-WhileAny.is in
    let a = ap (λ l. sizes (pieces l)) c.as_slice-in-WhileAny-2.ensures in
    (omega (arith, c.decreases), (c.requires.few, (ap (all_pass c.args.vars) c.as_slice-in-WhileAny-2.ensures ∙ passes-WhileAny c.args.vars _ _ c.in-WhileAny.is c.requires.passes, omega (arith, c.requires.within))))

pub lay-returns-in_ok-cases-in-Assume : goal.lay-returns-in_ok-cases-in-Assume
lay-returns-in_ok-cases-in-Assume t c =
    on_ok_weaker c.branch-out.result (λ h. Assume_is c.args.vars _ _ _ c.args.at c.args.next _ c.in-Assume.is c.in_ok-cases-in-Assume.ensures h) c.branch-out.ensures

pub lay-returns-in_ok-lay_all-in-If : goal.lay-returns-in_ok-lay_all-in-If
lay-returns-in_ok-lay_all-in-If t c =
    let e = size-If _ _ _ c.in-If.is in
    let a = ap (λ l. sizes (pieces l)) c.as_slice.ensures in
    let n : c.count_all.result ≡ sizes (pieces c.as_slice.result.now) = omega (arith, c.count_all.ensures, c.requires.within) in
    on_ok_weaker c.lay_all-in-If.result (λ h. If_is c.args.vars _ _ _ _ _ _ _ _ _ _ c.args.at c.args.next _ _ _ _ _ _ c.in-If.is c.in_ok-cases-in-If.ensures c.in_ok-cases-in-If-2.ensures c.as_slice.ensures c.as_slice-in-If.ensures c.as_slice-in-If-3.ensures c.as_slice-in-If-2.ensures c.as_slice-in-If-4.ensures n refl c.first-to_yes.ensures c.first-to_no.ensures (c.in_ok-branch-in-If.ensures {u = tt}) (c.in_ok-branch-in-If-2.ensures {u = tt}) (c.in_ok-lay_all-in-If.ensures {u = tt}) h) c.lay_all-in-If.ensures

pub lay-returns-in_ok-lay_all-in-IfAny : goal.lay-returns-in_ok-lay_all-in-IfAny
lay-returns-in_ok-lay_all-in-IfAny t c =
    let e = size-IfAny _ _ c.in-IfAny.is in
    let a = ap (λ l. sizes (pieces l)) c.as_slice-in-IfAny.ensures in
    let n : c.count_all-in-IfAny.result ≡ sizes (pieces c.as_slice-in-IfAny.result.now) = omega (arith, c.count_all-in-IfAny.ensures, c.requires.within) in
    on_ok_weaker c.lay_all-in-IfAny-2.result (λ h. IfAny_is c.args.vars _ _ _ _ _ _ _ _ _ c.args.at c.args.next _ _ _ _ _ _ _ _ c.in-IfAny.is c.new.ensures.items c.new-in-IfAny.ensures.items c.in_ok-test-in-IfAny.ensures c.in_ok-test-in-IfAny-2.ensures c.as_slice-in-IfAny.ensures c.as_slice-in-IfAny-2.ensures c.as_slice-in-IfAny-4.ensures c.as_slice-in-IfAny-3.ensures c.as_slice-in-IfAny-5.ensures n refl c.first-to_yes-in-IfAny.ensures c.first-to_no-in-IfAny.ensures (c.in_ok-push-in-IfAny.ensures {u = tt}).items (c.in_ok-push-in-IfAny-2.ensures {u = tt}).items (c.in_ok-lay_all-in-IfAny.ensures {u = tt}) h) c.lay_all-in-IfAny-2.ensures

pub lay-returns-in_ok-branch-in-While-2 : goal.lay-returns-in_ok-branch-in-While-2
lay-returns-in_ok-branch-in-While-2 t c =
    on_ok_weaker c.lay_all-in-While.result (λ h. While_is c.args.vars _ _ _ _ _ _ c.args.at c.args.next _ _ _ c.in-While.is c.in_ok-cases-in-While.ensures c.in_ok-cases-in-While-2.ensures c.as_slice-in-While.ensures c.as_slice-in-While-2.ensures c.first-to_body.ensures (c.in_ok-branch-in-While.ensures {u = tt}) (c.in_ok-branch-in-While-2.ensures {u = tt}) h) c.lay_all-in-While.ensures

pub lay-returns-in_ok-push-in-WhileAny-2 : goal.lay-returns-in_ok-push-in-WhileAny-2
lay-returns-in_ok-push-in-WhileAny-2 t c =
    on_ok_weaker c.lay_all-in-WhileAny.result (λ h. WhileAny_is c.args.vars _ _ _ _ _ c.args.at c.args.next _ _ _ _ _ c.in-WhileAny.is c.new-in-WhileAny.ensures.items c.new-in-WhileAny-2.ensures.items c.in_ok-test-in-WhileAny.ensures c.in_ok-test-in-WhileAny-2.ensures c.as_slice-in-WhileAny.ensures c.as_slice-in-WhileAny-2.ensures c.first-to_body-in-WhileAny.ensures (c.in_ok-push-in-WhileAny.ensures {u = tt}).items (c.in_ok-push-in-WhileAny-2.ensures {u = tt}).items h) c.lay_all-in-WhileAny.ensures

pub lay_all-lay-requires : goal.lay_all-lay-requires
lay_all-lay-requires t c =
    let e = sizes_step c.loop-i.i c.args.body.now c.index-body-i.result c.loop-i-test.true in
    let f = ap (λ s. (piece s).size) c.index-body-i.is in
    let p = passes_at c.args.vars c.loop-i.i c.args.body.now c.index-body-i.result c.loop-i-test.true c.index-body-i.is c.loop-i.invariant.passing in
    (omega (arith, c.decreases, c.loop-i.invariant.risen, c.loop-i.invariant.numbered), (c.requires.few, (p.0, omega (arith, c.loop-i.invariant.numbered, c.requires.within))))

pub lay_all-loop-i-preserved : goal.lay_all-loop-i-preserved
lay_all-loop-i-preserved t c =
    let e = sizes_step c.loop-i.i c.args.body.now c.index-body-i.result c.loop-i-test.true in
    let f = ap (λ s. (piece s).size) c.index-body-i.is in
    let g : c.count.result ≡ (piece c.index-body-i.result).size = omega (arith, c.count.ensures, c.loop-i.invariant.numbered, c.requires.within) in
    let p = passes_at c.args.vars c.loop-i.i c.args.body.now c.index-body-i.result c.loop-i-test.true c.index-body-i.is c.loop-i.invariant.passing in
    record {
      risen = omega (arith, c.loop-i.invariant.risen);
      numbered = omega (arith, c.loop-i.invariant.numbered);
      passing = p.1;
      so_far = loop_step c.args.vars _ _ c.loop-i.i c.args.body.now c.index-body-i.result c.loop-i.number c.args.next c.count.result c.if-i-body.target c.loop-i-test.true c.index-body-i.is g
          (elim c.if-i-body.branch [ lay_all-then-i-body w ↦ w.target-is ∙ sym (first_more (c.loop-i.i + 1) c.args.body.now c.index-body-i.result (c.loop-i.number + c.count.result) c.args.next w.if-i-body.true) | lay_all-else-i-body w ↦ w.target-is ∙ sym (first_last (c.loop-i.i + 1) c.args.body.now (c.loop-i.number + c.count.result) c.args.next w.if-i-body.false) ])
          (c.in_ok-lay.ensures {u = tt}) c.loop-i.invariant.so_far;
    }
