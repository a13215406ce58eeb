use Rattle.std.proofs.Common.{◌∙◌, sym, ap, ◌+◌, ◌*◌, ◌≤◌, length, All}
use Rattle.std.specs.Prelude.{sum_by}
use Rattle.dc_claims.specs.Claims.{products_count}
use Rattle.dc_claims.specs.Duties.{IsThere}
use Rattle.dc_claims.specs.Parts.{unknowns_of}
use Rattle.dc_duties.specs.Lent.{flags_of, pair_of}
use Rattle.dc_match.specs.Answers.{IsFault, IsFilled, IsFillFault}
use Rattle.dc_match.proofs.Whole.{at_task, of_task, handed_on, all_there, not_many, few_products, too_many_columns, fill_fault, within, is_main, is_well_formed, has_two}
use Rattle.dc_match.proofs.problem.problem_of.Goals as goal

pub column_count-count-requires-clause-there : goal.column_count-count-requires-clause-there
column_count-count-requires-clause-there c = all_there (pair_of c.args.new.now c.args.old.now c.args.cases.now) c.args.degree c.args.products (flags_of c.args.new.now c.args.old.now c.args.live.now) c.requires.fit c.as_slice.result.now (c.as_slice.ensures.value ∙ c.in_ok-duties.ensures)

pub column_count-count-requires-clause-not_many : goal.column_count-count-requires-clause-not_many
column_count-count-requires-clause-not_many c = not_many (pair_of c.args.new.now c.args.old.now c.args.cases.now) c.args.degree c.args.products (flags_of c.args.new.now c.args.old.now c.args.live.now) c.requires.fit c.as_slice.result.now (c.as_slice.ensures.value ∙ c.in_ok-duties.ensures)

pub returns-then-count-gt-COLUMNS-clause-fault : goal.returns-then-count-gt-COLUMNS-clause-fault
returns-then-count-gt-COLUMNS-clause-fault c = too_many_columns (pair_of c.args.new.now c.args.old.now c.args.cases.now) c.args.degree c.args.products (flags_of c.args.new.now c.args.old.now c.args.live.now) c.requires.fit c.as_slice.result.now (c.as_slice.ensures.value ∙ c.in_ok-duties.ensures) c.column_count-count.result c.column_count-count.ensures c.if-count-gt-COLUMNS.true

pub fill_table-requires-clause-there : goal.fill_table-requires-clause-there
fill_table-requires-clause-there c = at_task (λ p d k. All (IsThere p) c.as_slice-2.result.now) (record { new = c.args.new; old = c.args.old; cases = c.args.cases }) c.args.degree c.args.products c.in_ok-task.task c.in_ok-task.ensures (all_there (pair_of c.args.new.now c.args.old.now c.args.cases.now) c.args.degree c.args.products (flags_of c.args.new.now c.args.old.now c.args.live.now) c.requires.fit c.as_slice-2.result.now (c.as_slice-2.ensures.value ∙ c.in_ok-duties.ensures))

pub fill_table-requires-clause-few : goal.fill_table-requires-clause-few
fill_table-requires-clause-few c =
    at_task (λ p d k. All (λ o. products_count p k o ≤ 8192) c.as_slice-2.result.now) (record { new = c.args.new; old = c.args.old; cases = c.args.cases }) c.args.degree c.args.products c.in_ok-task.task c.in_ok-task.ensures
    (few_products (pair_of c.args.new.now c.args.old.now c.args.cases.now) c.args.degree c.args.products (flags_of c.args.new.now c.args.old.now c.args.live.now) c.requires.fit c.as_slice-2.result.now (c.as_slice-2.ensures.value ∙ c.in_ok-duties.ensures) c.column_count-count.result (c.column_count-count.ensures ∙ ap (λ os. 2 * length (unknowns_of (pair_of c.args.new.now c.args.old.now c.args.cases.now) c.args.degree) + sum_by (products_count (pair_of c.args.new.now c.args.old.now c.args.cases.now) c.args.products) os) (c.as_slice.ensures.value ∙ sym c.as_slice-2.ensures.value)) c.if-count-gt-COLUMNS.false)

pub returns-in_err-table-clause-fault : goal.returns-in_err-table-clause-fault
returns-in_err-table-clause-fault c =
    handed_on c.from_residual-in_err-table.result _ (IsFault (pair_of c.args.new.now c.args.old.now c.args.cases.now) c.args.degree c.args.products (flags_of c.args.new.now c.args.old.now c.args.live.now)) c.from_residual-in_err-table.ensures.1
    (fill_fault (pair_of c.args.new.now c.args.old.now c.args.cases.now) c.args.degree c.args.products (flags_of c.args.new.now c.args.old.now c.args.live.now) c.requires.fit c.as_slice-2.result.now (c.as_slice-2.ensures.value ∙ c.in_ok-duties.ensures) c.column_count-count.result (c.column_count-count.ensures ∙ ap (λ os. 2 * length (unknowns_of (pair_of c.args.new.now c.args.old.now c.args.cases.now) c.args.degree) + sum_by (products_count (pair_of c.args.new.now c.args.old.now c.args.cases.now) c.args.products) os) (c.as_slice.ensures.value ∙ sym c.as_slice-2.ensures.value)) _ c.if-count-gt-COLUMNS.false (of_task (λ p d k. IsFillFault p d k c.as_slice-2.result.now c.in_err-table.field-0.0) (record { new = c.args.new; old = c.args.old; cases = c.args.cases }) c.args.degree c.args.products c.in_ok-task.task c.in_ok-task.ensures c.in_err-table.ensures.err))

pub into_problem-requires : goal.into_problem-requires
into_problem-requires c = has_two (pair_of c.args.new.now c.args.old.now c.args.cases.now) c.args.degree c.args.products (flags_of c.args.new.now c.args.old.now c.args.live.now) c.requires.fit c.as_slice-2.result.now (c.as_slice-2.ensures.value ∙ c.in_ok-duties.ensures) c.in_ok-table.table (of_task (λ p d k. IsFilled p d k c.as_slice-2.result.now c.in_ok-table.table) (record { new = c.args.new; old = c.args.old; cases = c.args.cases }) c.args.degree c.args.products c.in_ok-task.task c.in_ok-task.ensures c.in_ok-table.ensures.ok)

pub returns-clause-problem : goal.returns-clause-problem
returns-clause-problem c = is_main (pair_of c.args.new.now c.args.old.now c.args.cases.now) c.args.degree c.args.products (flags_of c.args.new.now c.args.old.now c.args.live.now) c.requires.fit c.as_slice-2.result.now (c.as_slice-2.ensures.value ∙ c.in_ok-duties.ensures) c.column_count-count.result (c.column_count-count.ensures ∙ ap (λ os. 2 * length (unknowns_of (pair_of c.args.new.now c.args.old.now c.args.cases.now) c.args.degree) + sum_by (products_count (pair_of c.args.new.now c.args.old.now c.args.cases.now) c.args.products) os) (c.as_slice.ensures.value ∙ sym c.as_slice-2.ensures.value)) c.in_ok-table.table (of_task (λ p d k. IsFilled p d k c.as_slice-2.result.now c.in_ok-table.table) (record { new = c.args.new; old = c.args.old; cases = c.args.cases }) c.args.degree c.args.products c.in_ok-task.task c.in_ok-task.ensures c.in_ok-table.ensures.ok) c.in_ok-problem.problem c.in_ok-problem.ensures

pub returns-clause-well_formed : goal.returns-clause-well_formed
returns-clause-well_formed c = is_well_formed (pair_of c.args.new.now c.args.old.now c.args.cases.now) c.args.degree c.args.products (flags_of c.args.new.now c.args.old.now c.args.live.now) c.requires.fit c.as_slice-2.result.now (c.as_slice-2.ensures.value ∙ c.in_ok-duties.ensures) c.column_count-count.result (c.column_count-count.ensures ∙ ap (λ os. 2 * length (unknowns_of (pair_of c.args.new.now c.args.old.now c.args.cases.now) c.args.degree) + sum_by (products_count (pair_of c.args.new.now c.args.old.now c.args.cases.now) c.args.products) os) (c.as_slice.ensures.value ∙ sym c.as_slice-2.ensures.value)) c.in_ok-table.table (of_task (λ p d k. IsFilled p d k c.as_slice-2.result.now c.in_ok-table.table) (record { new = c.args.new; old = c.args.old; cases = c.args.cases }) c.args.degree c.args.products c.in_ok-task.task c.in_ok-task.ensures c.in_ok-table.ensures.ok) c.in_ok-problem.problem c.in_ok-problem.ensures

pub returns-clause-within : goal.returns-clause-within
returns-clause-within c = within (pair_of c.args.new.now c.args.old.now c.args.cases.now) c.args.degree c.args.products (flags_of c.args.new.now c.args.old.now c.args.live.now) c.requires.fit c.as_slice-2.result.now (c.as_slice-2.ensures.value ∙ c.in_ok-duties.ensures) c.column_count-count.result (c.column_count-count.ensures ∙ ap (λ os. 2 * length (unknowns_of (pair_of c.args.new.now c.args.old.now c.args.cases.now) c.args.degree) + sum_by (products_count (pair_of c.args.new.now c.args.old.now c.args.cases.now) c.args.products) os) (c.as_slice.ensures.value ∙ sym c.as_slice-2.ensures.value)) c.in_ok-table.table (of_task (λ p d k. IsFilled p d k c.as_slice-2.result.now c.in_ok-table.table) (record { new = c.args.new; old = c.args.old; cases = c.args.cases }) c.args.degree c.args.products c.in_ok-task.task c.in_ok-task.ensures c.in_ok-table.ensures.ok) c.if-count-gt-COLUMNS.false
