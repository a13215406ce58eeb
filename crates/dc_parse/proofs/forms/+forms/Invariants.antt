use Rattle.std.proofs.Common.{◌≡◌, ◌+◌, ◌*◌, length, drop}
use Rattle.dc_parse.specs.Forms.{all_faults, faults_in, first_form}
use Rattle.dc_parse.specs.Steps.{after_all}
use Rattle.dc_parse.proofs.forms.+forms.Given as goal

abbrev pub decreases-judge : goal.decreases-judge
decreases-judge l = 2 * length (faults_in l.places l.stmt.now)

abbrev pub decreases-judge_all : goal.decreases-judge_all
decreases-judge_all l = 2 * length (all_faults l.places l.stmts.now) + 1

abbrev pub invariant-judge_all-loop-stmt : goal.invariant-judge_all-loop-stmt
invariant-judge_all-loop-stmt l = record {
  faults : first_form l.starts.rest.now (all_faults l.places (drop l.stmt-index l.stmts)) ≡ first_form l.initial.starts.rest.now (all_faults l.places l.stmts);
  left : after_all (all_faults l.places (drop l.stmt-index l.stmts)) l.starts.rest.now ≡ after_all (all_faults l.places l.stmts) l.initial.starts.rest.now;
}
