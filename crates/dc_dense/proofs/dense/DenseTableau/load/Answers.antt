use Rattle.std.proofs.Common.{◌≡◌, ◌∙◌, ◌+◌, ◌*◌, ap, arith, length}
use Rattle.dc_start.specs.Starts.{width}
use Rattle.dc_start.proofs.Loads.{made-length}
use Rattle.dc_lp.specs.Problems.{columns}
use Rattle.dc_dense.proofs.Loads.{loaded-at}
use Rattle.dc_dense.proofs.dense.DenseTableau.load.Goals as goal

pub invariant_of-self-2 : goal.invariant_of-self-2
invariant_of-self-2 c =
    let p = c.args.p.now in
    let n = c.len-columns.result in
    let is : n ≡ columns p = omega (arith, c.len-columns.ensures, p.columns.ok.0) in
    let wide : width p ≡ n + p.rows + 1 = omega arith in
    let basis : length c.in_ok-self-2.field-0.items ≡ p.rows = ap length c.in_ok-self-2.ensures ∙ made-length p.rows (λ i. n + i) in
    let long : length c.in_ok-self.field-0.items ≡ (p.rows + 2) * width p + 0 = c.in_ok-self.ensures.long in
    let total : (p.rows + 2) * width p ≡ (p.rows + 2) * (n + p.rows + 1) = ap (λ w. (p.rows + 2) * w) wide in
    record {
      shape = λ _. record {
        basis_is = omega (arith, c.in_ok-self-2.field-0.ok.0);
        width_is = omega arith;
        items_is = omega (arith, c.in_ok-self.field-0.ok.0);
      };
    }

pub returns-clause-ok : goal.returns-clause-ok
returns-clause-ok c =
    let p = c.args.p.now in
    let is : c.len-columns.result ≡ columns p = omega (arith, c.len-columns.ensures, p.columns.ok.0) in
    loaded-at p c.len-columns.result c.in_ok-self.field-0.items c.in_ok-self-2.field-0.items is c.in_ok-self.ensures c.in_ok-self-2.ensures
