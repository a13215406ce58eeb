use Rattle.std.proofs.Common.{◌∙◌, ap, ap₂, sym, subst, length, arith, ◌*◌, ◌≤◌}
use Rattle.std.proofs.Math.Nat.{mul-le-mul}
use Rattle.dc_poly.specs.Monomials.{monomials_of}
use Rattle.dc_template.proofs.Counts.{count_small}
use Rattle.dc_system.specs.declared.edges.System.{System}
use Rattle.dc_duties.specs.Lent.{lent}
use Rattle.dc_match.proofs.Counting.{unknown_count}
use Rattle.dc_match.proofs.counts.coefficient_count.Goals as goal

pub overflow_mul-result : goal.overflow_mul-result
overflow_mul-result c =
    let a = c.system-system.ensures.formed.few_locations in
    let v = c.system-system.ensures.formed.few_vars in
    let l = c.requires.low in
    let b : c.unknowns.result ≤ 8192 = subst (λ n. n ≤ 8192) (sym c.unknowns.ensures) (count_small c.system-system.result.now.vars c.args.degree (omega arith)) in
    let m = mul-le-mul a b in
    omega arith

pub returns-clause-count : goal.returns-clause-count
returns-clause-count c =
    ap₂ (λ x y. x * y) (ap (λ (s : System). s.locs) c.system-system.ensures.system) (c.unknowns.ensures ∙ ap (λ (s : System). length (monomials_of s.vars c.args.degree)) c.system-system.ensures.system)
    ∙ sym (unknown_count (lent c.args.programs.now) c.args.degree c.args.side)

pub returns-clause-small : goal.returns-clause-small
returns-clause-small c =
    let a = c.system-system.ensures.formed.few_locations in
    let v = c.system-system.ensures.formed.few_vars in
    let l = c.requires.low in
    let b : c.unknowns.result ≤ 8192 = subst (λ n. n ≤ 8192) (sym c.unknowns.ensures) (count_small c.system-system.result.now.vars c.args.degree (omega arith)) in
    mul-le-mul a b
