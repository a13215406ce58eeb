use Rattle.std.proofs.Common.{arith, sym, subst, ℕ, ◌≡◌, ◌+◌, ◌≤◌, ◌<◌, ◌^◌}
use Rattle.dc_pivots.specs.FieldLaws.{choose}
use Rattle.dc_pivots.proofs.Count.{choose-none}
use Rattle.dc_cycle.proofs.Binomials.{choose-grows}
use Rattle.dc_cycle.proofs.bases.Goals as goal

pub loop-i-init : goal.loop-i-init
loop-i-init c = (let e : choose (c.args.columns + 0) 0 ≡ 1 = choose-none (c.args.columns + 0) in (omega arith, sym e))

pub returns-in_err-count : goal.returns-in_err-count
returns-in_err-count c =
    let i : ℕ = c.loop-i.i in
    let n : ℕ = c.args.columns in
    let m : ℕ = c.args.rows in
    let lt : i < m = c.loop-i-test.true in
    let grows : choose (n + (i + 1)) (i + 1) ≤ choose (n + m) m = choose-grows n (i + 1) m (omega arith) in
    let same : n + (i + 1) ≡ n + i + 1 = omega arith in
    let next : choose (n + i + 1) (i + 1) ≤ choose (n + m) m = subst (λ x. choose x (i + 1) ≤ choose (n + m) m) same grows in
    rw c.from_residual.ensures (λ h. c.in_err-count.ensures (omega arith))

pub loop-i-preserved : goal.loop-i-preserved
loop-i-preserved c =
    let same : c.args.columns + c.loop-i.i + 1 ≡ c.args.columns + (c.loop-i.i + 1) = omega arith in
    subst (λ x. (choose x (c.loop-i.i + 1) < 2 ^ 64) × (c.in_ok-count.count ≡ choose x (c.loop-i.i + 1))) same c.in_ok-count.ensures

pub returns : goal.returns
returns c =
    let all : c.loop-i.i ≡ c.args.rows = omega arith in
    subst (λ i. (choose (c.args.columns + i) i < 2 ^ 64) × (c.loop-i.count ≡ choose (c.args.columns + i) i)) all c.loop-i.invariant
