use Rattle.std.proofs.Common.{ap, pos, arith}
use Rattle.dc_poly.specs.Terms.{Polynomial}
use Rattle.dc_duties.proofs.Sides.{ok_so, ok_both, part_constant}
use Rattle.dc_duties.proofs.parts.nothing.Goals as goal

pub constant-requires-clause-light : goal.constant-requires-clause-light
constant-requires-clause-light c = omega arith

pub returns-clause-terms : goal.returns-clause-terms
returns-clause-terms c = ok_so c.constant.result (λ p e. ap (λ (q : Polynomial). q.terms) e) c.constant.ensures.constant

pub returns-clause-part : goal.returns-clause-part
returns-clause-part c = ok_both c.constant.result (λ p e k. part_constant c.args.places (pos 0) p (omega arith) e k) c.constant.ensures.constant c.constant.ensures.kind
