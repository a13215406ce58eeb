use Rattle.std.proofs.Common.{◌≡◌, ℕ, suc, ◌-◌, ◌<◌, length, slice_index_or, refl, subst, arith}
use Rattle.std.proofs.lemmas.List.{get_or_default}
use Rattle.dc_invariant.proofs.Prunings.{IsLeft, left_start, left_next, left_end, left_fault}
use Rattle.dc_invariant.proofs.pruning.prune_atoms.Goals as goal

pub loop-left-init : goal.loop-left-init
loop-left-init g c = left_start c.args.t.now c.args.location c.args.rows.now c.args.atoms.items (length c.args.rows.now) refl c.requires.rows

pub loop-left-preserved : goal.loop-left-preserved
loop-left-preserved g c =
    let k : ℕ = c.loop-left.left - 1 in
    let f = c.loop-left.invariant.few in
    let e : c.loop-left.left ≡ suc k = omega arith in
    let i : k < length c.args.rows.now = omega arith in
    let r : ℕ = slice_index_or c.args.rows.now k 0 in
    left_next c.args.t.now c.args.location c.args.rows.now k r i (get_or_default c.args.rows.now k 0 r i) c.loop-left.atoms.items
    (subst (λ n. IsLeft c.args.t.now c.args.location c.args.rows.now n c.loop-left.atoms.items) e c.loop-left.invariant)
    c.prune_one.new.atoms.items (c.in-Ok.ensures {u = tt}).answer

pub returns-in-Err-clause-fault : goal.returns-in-Err-clause-fault
returns-in-Err-clause-fault g c =
    let k : ℕ = c.loop-left.left - 1 in
    let f = c.loop-left.invariant.few in
    let e : c.loop-left.left ≡ suc k = omega arith in
    let i : k < length c.args.rows.now = omega arith in
    let r : ℕ = slice_index_or c.args.rows.now k 0 in
    left_fault c.args.t.now c.args.location c.args.rows.now k r i (get_or_default c.args.rows.now k 0 r i) c.loop-left.atoms.items
    (subst (λ n. IsLeft c.args.t.now c.args.location c.args.rows.now n c.loop-left.atoms.items) e c.loop-left.invariant)
    c.in-Err.fault (c.in-Err.ensures {u = tt}).fault

pub returns-clause-answer : goal.returns-clause-answer
returns-clause-answer g c =
    left_end c.args.t.now c.args.location c.args.rows.now c.loop-left.atoms.items c.loop-left.left (omega arith) c.loop-left.invariant
