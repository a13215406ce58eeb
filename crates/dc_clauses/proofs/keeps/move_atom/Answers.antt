use Rattle.std.proofs.Common.{◌≡◌, ◌+ℤ◌, sym, subst, SFits}
use Rattle.std.specs.Int.{w128}
use Rattle.std.proofs.lemmas.Int.{to_z-of_z}
use Rattle.dc_clauses.proofs.Moves.{row_coefs, row_affine, row_constant, row_small, number_fits, sum_fits}
use Rattle.dc_clauses.proofs.keeps.move_atom.Goals as goal

pub sum-constant-requires-clause-more : goal.sum-constant-requires-clause-more
sum-constant-requires-clause-more c =
    let b = row_small c.args.s.now.vars c.args.e.now c.args.atom.now c.in_ok-row.row c.as_slice.result.now c.in_ok-row.ensures.row c.as_slice.ensures c.requires.edge c.requires.atom in
    let f : SFits w128 c.in_ok-row.row.constant = number_fits c.in_ok-row.row.constant b in
    simp to_z-of_z b

pub returns-clause-constant : goal.returns-clause-constant
returns-clause-constant c =
    let b = row_small c.args.s.now.vars c.args.e.now c.args.atom.now c.in_ok-row.row c.as_slice.result.now c.in_ok-row.ensures.row c.as_slice.ensures c.requires.edge c.requires.atom in
    let f : SFits w128 c.in_ok-row.row.constant = number_fits c.in_ok-row.row.constant b in
    let e : c.sum-constant.result ≡ c.args.atom.now.c0 +ℤ c.in_ok-row.row.constant = (simp to_z-of_z at c.sum-constant.ensures).value in
    let k : SFits w128 c.sum-constant.result = subst (SFits w128) (sym e) (sum_fits c.args.atom.now.c0 c.in_ok-row.row.constant c.requires.atom.constant_within b) in
    simp to_z-of_z (row_constant c.args.s.now.vars c.args.e.now c.args.atom.now c.in_ok-row.row c.as_slice.result.now c.in_ok-row.ensures.row c.as_slice.ensures c.sum-constant.result e)

pub returns-clause-coefs : goal.returns-clause-coefs
returns-clause-coefs c = row_coefs c.args.s.now.vars c.args.e.now c.args.atom.now c.in_ok-row.row c.as_slice.result.now c.in_ok-row.ensures.row c.as_slice.ensures

pub returns-clause-affine : goal.returns-clause-affine
returns-clause-affine c = row_affine c.args.s.now.vars c.args.e.now c.args.atom.now c.in_ok-row.row c.as_slice.result.now c.in_ok-row.ensures.row c.as_slice.ensures
