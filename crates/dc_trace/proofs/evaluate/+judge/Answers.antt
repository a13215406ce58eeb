use Rattle.std.proofs.Common.{rules, SFits, refl}
use Rattle.std.specs.Int.{w128}
use Rattle.std.proofs.lemmas.Int.{to_z-of_z}
use Rattle.dc_trace.proofs.Parts.{judged-True, judged-False, judged-Cmp, left-Cmp, right-Cmp, judged-Not, none-Not, judged-And, left-And, right-And, judged-Or, left-Or, right-Or}
use Rattle.dc_trace.proofs.evaluate.+judge.Goals as goal

pub returns-in-True : goal.returns-in-True
returns-in-True t c = judged-True c.args.state.now c.args.c.now _ c.in-True.is refl

pub returns-in-False : goal.returns-in-False
returns-in-False t c = judged-False c.args.state.now c.args.c.now _ c.in-False.is refl

pub returns-in_err-left-in-Cmp : goal.returns-in_err-left-in-Cmp
returns-in_err-left-in-Cmp t c = left-Cmp c.from_residual.result c.args.state.now c.args.c.now c.in-Cmp.a c.in-Cmp.rel c.in-Cmp.b c.from_residual.ensures c.in-Cmp.is c.in_err-left-in-Cmp.ensures

pub returns-in_err-right-in-Cmp : goal.returns-in_err-right-in-Cmp
returns-in_err-right-in-Cmp t c =
    right-Cmp c.from_residual-in_err-right-in-Cmp.result c.args.state.now c.args.c.now c.in-Cmp.a c.in-Cmp.rel c.in-Cmp.b c.from_residual-in_err-right-in-Cmp.ensures c.in-Cmp.is c.in_err-right-in-Cmp.ensures

pub returns-in_ok-right-in-Cmp : goal.returns-in_ok-right-in-Cmp
returns-in_ok-right-in-Cmp t c =
    let a : SFits w128 c.in_ok-left-in-Cmp.left = search rules in
    let b : SFits w128 c.in_ok-right-in-Cmp.right = search rules in
    let g = simp to_z-of_z at c.compare.ensures in
    judged-Cmp c.args.state.now c.args.c.now c.in-Cmp.a c.in-Cmp.rel c.in-Cmp.b c.in_ok-left-in-Cmp.left c.in_ok-right-in-Cmp.right c.compare.result c.in-Cmp.is c.in_ok-left-in-Cmp.ensures c.in_ok-right-in-Cmp.ensures g

pub returns-in_err-holds-in-Not : goal.returns-in_err-holds-in-Not
returns-in_err-holds-in-Not t c = none-Not c.from_residual-in_err-holds-in-Not.result c.args.state.now c.args.c.now c.in-Not.c c.get.result.now c.from_residual-in_err-holds-in-Not.ensures c.in-Not.is c.get.ensures c.in_err-holds-in-Not.ensures

pub returns-in_ok-holds-in-Not : goal.returns-in_ok-holds-in-Not
returns-in_ok-holds-in-Not t c = judged-Not c.args.state.now c.args.c.now c.in-Not.c c.get.result.now c.in_ok-holds-in-Not.holds _ c.in-Not.is c.get.ensures c.in_ok-holds-in-Not.ensures refl

pub returns-in_err-left-in-And : goal.returns-in_err-left-in-And
returns-in_err-left-in-And t c =
    left-And c.args.state.now c.from_residual-in_err-left-in-And.result c.args.c.now c.in-And.c c.in-And.d c.get-in-And.result.now c.from_residual-in_err-left-in-And.ensures c.in-And.is c.get-in-And.ensures
    c.in_err-left-in-And.ensures

pub returns-in_err-right-in-And : goal.returns-in_err-right-in-And
returns-in_err-right-in-And t c =
    right-And c.args.state.now c.from_residual-in_err-right-in-And.result c.args.c.now c.in-And.c c.in-And.d c.get-in-And-2.result.now c.from_residual-in_err-right-in-And.ensures c.in-And.is c.get-in-And-2.ensures
    c.in_err-right-in-And.ensures

pub returns-in_ok-right-in-And : goal.returns-in_ok-right-in-And
returns-in_ok-right-in-And t c =
    judged-And c.args.state.now c.args.c.now c.in-And.c c.in-And.d c.get-in-And.result.now c.get-in-And-2.result.now c.in_ok-left-in-And.left c.in_ok-right-in-And.right c.both.result c.in-And.is c.get-in-And.ensures
    c.get-in-And-2.ensures c.in_ok-left-in-And.ensures c.in_ok-right-in-And.ensures c.both.ensures

pub returns-in_err-left-in-Or : goal.returns-in_err-left-in-Or
returns-in_err-left-in-Or t c =
    left-Or c.args.state.now c.from_residual-in_err-left-in-Or.result c.args.c.now c.in-Or.c c.in-Or.d c.get-in-Or.result.now c.from_residual-in_err-left-in-Or.ensures c.in-Or.is c.get-in-Or.ensures
    c.in_err-left-in-Or.ensures

pub returns-in_err-right-in-Or : goal.returns-in_err-right-in-Or
returns-in_err-right-in-Or t c =
    right-Or c.args.state.now c.from_residual-in_err-right-in-Or.result c.args.c.now c.in-Or.c c.in-Or.d c.get-in-Or-2.result.now c.from_residual-in_err-right-in-Or.ensures c.in-Or.is c.get-in-Or-2.ensures
    c.in_err-right-in-Or.ensures

pub returns-in_ok-right-in-Or : goal.returns-in_ok-right-in-Or
returns-in_ok-right-in-Or t c =
    judged-Or c.args.state.now c.args.c.now c.in-Or.c c.in-Or.d c.get-in-Or.result.now c.get-in-Or-2.result.now c.in_ok-left-in-Or.left c.in_ok-right-in-Or.right c.either.result c.in-Or.is c.get-in-Or.ensures
    c.get-in-Or-2.ensures c.in_ok-left-in-Or.ensures c.in_ok-right-in-Or.ensures c.either.ensures
