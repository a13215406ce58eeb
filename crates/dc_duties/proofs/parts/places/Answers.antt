use Rattle.std.proofs.Common.{◌+◌, ◌∙◌, ap, sym, arith}
use Rattle.dc_system.specs.declared.edges.System.{System}
use Rattle.dc_claims.specs.Duties.{places_of}
use Rattle.dc_duties.specs.Lent.{lent}
use Rattle.dc_duties.proofs.parts.places.Goals as goal

pub returns-in-Along-clause-places : goal.returns-in-Along-clause-places
returns-in-Along-clause-places c = ap (λ (s : System). s.vars + 1) c.system.ensures.system ∙ sym (ap (places_of (lent c.args.programs.now)) c.in-Along.is)

pub returns-in-Along-clause-few : goal.returns-in-Along-clause-few
returns-in-Along-clause-few c = (let h = c.system.ensures.formed.few_vars in omega arith)

pub returns-in-AtExit-clause-places : goal.returns-in-AtExit-clause-places
returns-in-AtExit-clause-places c = ap (λ (s : System). s.vars) c.system-in-AtExit.ensures.system ∙ sym (ap (places_of (lent c.args.programs.now)) c.in-AtExit.is)

pub returns-in-AtExit-clause-few : goal.returns-in-AtExit-clause-few
returns-in-AtExit-clause-few c = (let h = c.system-in-AtExit.ensures.formed.few_vars in omega arith)

pub returns-in-AtEntry-clause-places : goal.returns-in-AtEntry-clause-places
returns-in-AtEntry-clause-places c = ap (λ (s : System). s.params) c.system-in-AtEntry.ensures.system ∙ sym (ap (places_of (lent c.args.programs.now)) c.in-AtEntry.is)

pub returns-in-AtEntry-clause-few : goal.returns-in-AtEntry-clause-few
returns-in-AtEntry-clause-few c = (let h = c.system-in-AtEntry.ensures.formed.few_vars in let g = c.system-in-AtEntry.ensures.formed.params_first in omega arith)
