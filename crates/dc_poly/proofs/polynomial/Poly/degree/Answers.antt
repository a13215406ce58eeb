use Rattle.std.proofs.Common.{◌∙◌, sym, ap, subst, arith}
use Rattle.dc_poly.specs.Terms.{Canonical, degree_of}
use Rattle.dc_poly.proofs.Polys.{last_degree, terms_in}
use Rattle.dc_poly.proofs.polynomial.Poly.degree.Goals as goal

pub returns-in-Some-clause-degree : goal.returns-in-Some-clause-degree
returns-in-Some-clause-degree c =
    let d = last_degree c.as_slice.result.now c.in-Some.term.now c.in-Some.ensures.item.3.0 c.in-Some.ensures.item.1 (subst Canonical (sym c.as_slice.ensures.value) c.self.invariant.in_order) in
    c.degree.ensures ∙ d ∙ ap degree_of (c.as_slice.ensures.value ∙ ap terms_in c.self.view_is)

pub returns-in-Some-clause-low : goal.returns-in-Some-clause-low
returns-in-Some-clause-low c =
    let d = last_degree c.as_slice.result.now c.in-Some.term.now c.in-Some.ensures.item.3.0 c.in-Some.ensures.item.1 (subst Canonical (sym c.as_slice.ensures.value) c.self.invariant.in_order) in
    let e = ap degree_of c.as_slice.ensures.value in
    omega (arith, c.degree.ensures, d, e, c.self.invariant.low)
