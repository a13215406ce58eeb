use Rattle.std.proofs.Common.{◌∙◌, ap, sym}
use Rattle.dc_syntax.specs.declared.tree.Stmt.{out-Stmt}
use Rattle.dc_syntax.specs.declared.tree.Stmt.TheVariants as v
use Rattle.dc_syntax.specs.declared.tree.Stmt.TheOpen.{If}
use Rattle.dc_trace.proofs.Walks.{turn_by}
use Rattle.dc_trace.proofs.walk.Walk.turn.Goals as goal

pub returns-in-Assign : goal.returns-in-Assign
returns-in-Assign c = turn_by c.args.tail.now.first.now _ _ _ _ _ _ _ (ap out-Stmt c.in-Assign.is ∙ v.outs-Assign c.in-Assign.k c.in-Assign.e) (c.assign.ensures c.args.tail.now.first.now)

pub returns-in-Tick : goal.returns-in-Tick
returns-in-Tick c = turn_by c.args.tail.now.first.now _ _ _ _ _ _ _ (ap out-Stmt c.in-Tick.is ∙ v.outs-Tick c.in-Tick.e) (c.tick.ensures c.args.tail.now.first.now)

pub returns-in-Assume : goal.returns-in-Assume
returns-in-Assume c = turn_by c.args.tail.now.first.now _ _ _ _ _ _ _ (ap out-Stmt c.in-Assume.is ∙ v.outs-Assume c.in-Assume.c) (c.assume.ensures c.args.tail.now.first.now)

pub returns-in-If : goal.returns-in-If
returns-in-If c =
    turn_by c.args.tail.now.first.now _ _ _ _ _ _ _
    (ap out-Stmt c.in-If.is ∙ v.outs-If c.in-If.c c.in-If.yes c.in-If.no ∙ ap (λ A. If c.in-If.c A c.in-If.no) (sym c.as_slice.ensures) ∙ ap (λ B. If c.in-If.c c.as_slice.result.now B) (sym c.as_slice-in-If.ensures))
    (c.branch-self.ensures c.args.tail.now.first.now)
