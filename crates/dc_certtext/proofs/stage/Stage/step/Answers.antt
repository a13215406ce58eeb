use Rattle.std.proofs.Common.{sym, subst}
use Rattle.dc_certtext.specs.Stages.{Steps}
use Rattle.dc_certtext.proofs.stage.Stage.step.Goals as goal

pub returns-in-Start : goal.returns-in-Start
returns-in-Start c = subst (λ s. Steps s c.args.line.now c.start.result) (sym c.in-Start.is) c.start.ensures

pub returns-in-Version : goal.returns-in-Version
returns-in-Version c = subst (λ s. Steps s c.args.line.now c.version.result) (sym c.in-Version.is) c.version.ensures

pub returns-in-Sizes : goal.returns-in-Sizes
returns-in-Sizes c = subst (λ s. Steps s c.args.line.now c.sizes.result) (sym c.in-Sizes.is) c.sizes.ensures

pub returns-in-Cases : goal.returns-in-Cases
returns-in-Cases c = subst (λ s. Steps s c.args.line.now c.cases.result) (sym c.in-Cases.is) c.cases.ensures

pub returns-in-Between : goal.returns-in-Between
returns-in-Between c = subst (λ s. Steps s c.args.line.now c.between.result) (sym c.in-Between.is) c.between.ensures

pub returns-in-Closed : goal.returns-in-Closed
returns-in-Closed c = subst (λ s. Steps s c.args.line.now c.main_line.result) (sym c.in-Closed.is) c.main_line.ensures

pub returns-in-End : goal.returns-in-End
returns-in-End c = subst (λ s. Steps s c.args.line.now c.end.result) (sym c.in-End.is) c.end.ensures
