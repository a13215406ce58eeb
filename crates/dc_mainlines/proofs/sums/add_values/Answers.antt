use Rattle.std.proofs.Common.{arith, ℕ, ◌+◌, ◌<◌, length, sym, subst, get_or}
use Rattle.dc_lp.specs.Problems.{columns}
use Rattle.dc_cert.specs.declared.sparse.Item.{Item}
use Rattle.dc_clauses.specs.Mains.{multipliers, whole_problem}
use Rattle.dc_mainlines.proofs.Sweeps.{all_below, both_swept}
use Rattle.dc_mainlines.proofs.sums.add_values.Goals as goal

pub add_items-requires-clause-below : goal.add_items-requires-clause-below
add_items-requires-clause-below c =
    subst (λ items. (k : ℕ) (d : Item) → k < length items → 0 + (get_or items k d).index + c.args.unknowns < columns c.args.p.now) (sym c.as_slice.ensures)
    (λ k d l. let a = all_below c.args.unknowns c.args.unknown.now.items c.requires.unknown_range k d l in let b = c.requires.room in omega arith)

pub add_items-requires-2-clause-below : goal.add_items-requires-2-clause-below
add_items-requires-2-clause-below c =
    subst (λ items. (k : ℕ) (d : Item) → k < length items → c.args.unknowns + (get_or items k d).index + c.args.unknowns < columns c.args.p.now) (sym c.as_slice-2.ensures)
    (λ k d l. let a = all_below (multipliers (whole_problem c.args.p.now) c.args.unknowns) c.args.lambda.now.items c.requires.lambda_range k d l in let b = c.requires.room in omega arith)

pub returns : goal.returns
returns c =
    both_swept c.args.p.now c.args.unknowns c.args.sums.now c.add_items.new.sums c.add_items-2.new.sums c.args.unknown.now.items c.args.lambda.now.items c.as_slice.result.now c.as_slice-2.result.now
    c.as_slice.ensures c.as_slice-2.ensures c.add_items.ensures c.add_items-2.ensures
