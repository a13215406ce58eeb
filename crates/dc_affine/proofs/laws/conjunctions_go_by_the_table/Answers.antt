use Rattle.std.proofs.Common.{true, false}
use Rattle.dc_affine.proofs.TableLaws.{facts-True, facts-False, facts-Cmp, facts-Not, facts-And, facts-Or}
use Rattle.dc_affine.proofs.laws.conjunctions_go_by_the_table.Goals as goal

pub returns : goal.returns
returns c = record {
  yes = facts-True false;
  not_yes = facts-True true;
  no = facts-False false;
  not_no = facts-False true;
  cmp = λ a r b. facts-Cmp a r b false;
  not_cmp = λ a r b. facts-Cmp a r b true;
  turned = facts-Not;
  and = λ c d. facts-And c d false;
  not_and = λ c d. facts-And c d true;
  or = λ c d. facts-Or c d false;
  not_or = λ c d. facts-Or c d true;
}
