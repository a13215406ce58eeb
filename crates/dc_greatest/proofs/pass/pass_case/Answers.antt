-- A dead case gives everything; by a live one false is dropped and the rows are lowered.
use Rattle.std.proofs.Common.{arith}
use Rattle.std.proofs.lemmas.Result.{on_ok_weaker}
use Rattle.dc_points.specs.Points.{Entails}
use Rattle.dc_points.proofs.Flags.{flag-false, flags_many}
use Rattle.dc_families.specs.Moves.{at_start}
use Rattle.dc_greatest.specs.Lent.{case_at}
use Rattle.dc_greatest.proofs.Passing.{flag_at, never_start}
use Rattle.dc_greatest.proofs.Rows.{taken_all, taken_lowered}
use Rattle.dc_greatest.proofs.pass.pass_case.Goals as goal

pub bounds-t-k : goal.bounds-t-k
bounds-t-k g c =
    let t = c.args.t.now in
    let a = flags_many t.live.now t.cases.now c.requires.lent.flags in
    let b = c.requires.case in
    omega arith

pub returns-then-not-t-k-clause-taken : goal.returns-then-not-t-k-clause-taken
returns-then-not-t-k-clause-taken g c =
    let t = c.args.t.now in
    let i = c.args.k in
    let dead = flag-false _ _ (flag_at t.live.now t.cases.now i c.requires.lent.flags c.requires.case) c.if-not-t-k.true in
    taken_all (λ a. Entails (case_at t i) (at_start t.system.now.params a)) t.candidates.now t.system.now.vars c.args.target.now c.requires.fit (λ a p m. absurd (dead p m))

pub case_rows-requires-clause-live : goal.case_rows-requires-clause-live
case_rows-requires-clause-live g c =
    let t = c.args.t.now in
    (flag_at t.live.now t.cases.now c.args.k c.requires.lent.flags c.requires.case).0 c.if-not-t-k.false

pub returns-clause-taken : goal.returns-clause-taken
returns-clause-taken g c =
    let t = c.args.t.now in
    let i = c.args.k in
    let n = t.system.now.vars in
    let live = (flag_at t.live.now t.cases.now i c.requires.lent.flags c.requires.case).0 c.if-not-t-k.false in
    on_ok_weaker c.case_rows.result
    (taken_lowered (λ a. Entails (case_at t i) (at_start t.system.now.params a)) t.candidates.now n c.args.target.now c.case_rows.new.target
    (λ x. live (λ p m. never_start t.system.now.params n p (x p m))))
    c.case_rows.ensures.lowered
