use Rattle.std.proofs.Common.{rules, SFits, ◌<◌, ◌^◌, arith}
use Rattle.std.specs.Int.{w128}
use Rattle.std.proofs.lemmas.Int.{to_z-of_z, to_z_pos}
use Rattle.dc_trace.proofs.Parts.{made-Num, made-Var, made-Neg, none-Neg, made-Add, left-Add, right-Add, made-Sub, left-Sub, right-Sub, made-Mul, left-Mul, right-Mul}
use Rattle.dc_trace.proofs.evaluate.+evaluate.Goals as goal

pub returns-in-Num : goal.returns-in-Num
returns-in-Num t c = let l : c.in-Num.n < 2 ^ 32 = search rules in made-Num c.args.state.now c.args.e.now c.in-Num.n _ c.in-Num.is l (to_z_pos w128 c.in-Num.n (omega arith))

pub returns-in-Var : goal.returns-in-Var
returns-in-Var t c =
    let a : SFits w128 c.number_at-z.result = search rules in
    let g = simp to_z-of_z at c.small.ensures in
    made-Var c.small.result c.args.state.now c.args.e.now c.in-Var.place c.number_at-z.result c.in-Var.is c.number_at-z.ensures g

pub returns-in_err-z-in-Neg : goal.returns-in_err-z-in-Neg
returns-in_err-z-in-Neg t c = none-Neg c.from_residual.result c.args.state.now c.args.e.now c.in-Neg.a c.get.result.now c.from_residual.ensures c.in-Neg.is c.get.ensures c.in_err-z-in-Neg.ensures

pub returns-in_ok-z-in-Neg : goal.returns-in_ok-z-in-Neg
returns-in_ok-z-in-Neg t c =
    let a : SFits w128 c.in_ok-z-in-Neg.z = search rules in
    let g = simp to_z-of_z at c.opposite.ensures in
    made-Neg c.opposite.result c.args.state.now c.args.e.now c.in-Neg.a c.get.result.now c.in_ok-z-in-Neg.z c.in-Neg.is c.get.ensures c.in_ok-z-in-Neg.ensures g

pub returns-in_err-left-in-Add : goal.returns-in_err-left-in-Add
returns-in_err-left-in-Add t c =
    left-Add c.args.state.now c.from_residual-in_err-left-in-Add.result c.args.e.now c.in-Add.a c.in-Add.b c.get-in-Add.result.now c.from_residual-in_err-left-in-Add.ensures c.in-Add.is c.get-in-Add.ensures
    c.in_err-left-in-Add.ensures

pub returns-in_err-right-in-Add : goal.returns-in_err-right-in-Add
returns-in_err-right-in-Add t c =
    right-Add c.args.state.now c.from_residual-in_err-right-in-Add.result c.args.e.now c.in-Add.a c.in-Add.b c.get-in-Add-2.result.now c.from_residual-in_err-right-in-Add.ensures c.in-Add.is c.get-in-Add-2.ensures
    c.in_err-right-in-Add.ensures

pub returns-in_ok-right-in-Add : goal.returns-in_ok-right-in-Add
returns-in_ok-right-in-Add t c =
    let a : SFits w128 c.in_ok-left-in-Add.left = search rules in
    let b : SFits w128 c.in_ok-right-in-Add.right = search rules in
    let g = simp to_z-of_z at c.sum.ensures in
    made-Add c.args.state.now c.sum.result c.args.e.now c.in-Add.a c.in-Add.b c.get-in-Add.result.now c.get-in-Add-2.result.now c.in_ok-left-in-Add.left c.in_ok-right-in-Add.right c.in-Add.is c.get-in-Add.ensures
    c.get-in-Add-2.ensures c.in_ok-left-in-Add.ensures c.in_ok-right-in-Add.ensures g

pub returns-in_err-left-in-Sub : goal.returns-in_err-left-in-Sub
returns-in_err-left-in-Sub t c =
    left-Sub c.args.state.now c.from_residual-in_err-left-in-Sub.result c.args.e.now c.in-Sub.a c.in-Sub.b c.get-in-Sub.result.now c.from_residual-in_err-left-in-Sub.ensures c.in-Sub.is c.get-in-Sub.ensures
    c.in_err-left-in-Sub.ensures

pub returns-in_err-right-in-Sub : goal.returns-in_err-right-in-Sub
returns-in_err-right-in-Sub t c =
    right-Sub c.args.state.now c.from_residual-in_err-right-in-Sub.result c.args.e.now c.in-Sub.a c.in-Sub.b c.get-in-Sub-2.result.now c.from_residual-in_err-right-in-Sub.ensures c.in-Sub.is c.get-in-Sub-2.ensures
    c.in_err-right-in-Sub.ensures

pub returns-in_ok-right-in-Sub : goal.returns-in_ok-right-in-Sub
returns-in_ok-right-in-Sub t c =
    let a : SFits w128 c.in_ok-left-in-Sub.left = search rules in
    let b : SFits w128 c.in_ok-right-in-Sub.right = search rules in
    let g = simp to_z-of_z at c.difference.ensures in
    made-Sub c.args.state.now c.difference.result c.args.e.now c.in-Sub.a c.in-Sub.b c.get-in-Sub.result.now c.get-in-Sub-2.result.now c.in_ok-left-in-Sub.left c.in_ok-right-in-Sub.right c.in-Sub.is c.get-in-Sub.ensures
    c.get-in-Sub-2.ensures c.in_ok-left-in-Sub.ensures c.in_ok-right-in-Sub.ensures g

pub returns-in_err-left-in-Mul : goal.returns-in_err-left-in-Mul
returns-in_err-left-in-Mul t c =
    left-Mul c.args.state.now c.from_residual-in_err-left-in-Mul.result c.args.e.now c.in-Mul.a c.in-Mul.b c.get-in-Mul.result.now c.from_residual-in_err-left-in-Mul.ensures c.in-Mul.is c.get-in-Mul.ensures
    c.in_err-left-in-Mul.ensures

pub returns-in_err-right-in-Mul : goal.returns-in_err-right-in-Mul
returns-in_err-right-in-Mul t c =
    right-Mul c.args.state.now c.from_residual-in_err-right-in-Mul.result c.args.e.now c.in-Mul.a c.in-Mul.b c.get-in-Mul-2.result.now c.from_residual-in_err-right-in-Mul.ensures c.in-Mul.is c.get-in-Mul-2.ensures
    c.in_err-right-in-Mul.ensures

pub returns-in_ok-right-in-Mul : goal.returns-in_ok-right-in-Mul
returns-in_ok-right-in-Mul t c =
    let a : SFits w128 c.in_ok-left-in-Mul.left = search rules in
    let b : SFits w128 c.in_ok-right-in-Mul.right = search rules in
    let g = simp to_z-of_z at c.product.ensures in
    made-Mul c.args.state.now c.product.result c.args.e.now c.in-Mul.a c.in-Mul.b c.get-in-Mul.result.now c.get-in-Mul-2.result.now c.in_ok-left-in-Mul.left c.in_ok-right-in-Mul.right c.in-Mul.is c.get-in-Mul.ensures
    c.get-in-Mul-2.ensures c.in_ok-left-in-Mul.ensures c.in_ok-right-in-Mul.ensures g
