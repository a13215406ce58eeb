use Rattle.std.proofs.Common.{sym, ap, subst, ◌+◌, ◌≤◌, pos, length, List, slice_index_or, ℤ}
use Rattle.dc_affine.specs.Atoms.{AllFit}
use Rattle.dc_points.specs.Stated.{coefficient_of}
use Rattle.dc_entail.specs.Columns.{IsColumnOf, rows_below}
use Rattle.dc_entail.proofs.Build.{none_yet, row_more, places_done, coefficient_small}
use Rattle.dc_entail.proofs.column.place_entries.Goals as goal

pub loop-row-init : goal.loop-row-init
loop-row-init c = subst (IsColumnOf 0 (rows_below 0 (coefficient_of c.args.atom.now))) (sym c.new-entries.ensures.items) (none_yet (coefficient_of c.args.atom.now))

pub push_entry-requires : goal.push_entry-requires
push_entry-requires c = record { small = coefficient_small c.as_slice-coef-items.result.now c.loop-row.row (pos 0) c.loop-row-test.true (subst AllFit (sym c.as_slice-coef-items.ensures) c.requires.atom.coefs_within) }

pub loop-row-preserved : goal.loop-row-preserved
loop-row-preserved c =
    subst (IsColumnOf (c.loop-row.row + 1) (rows_below (c.loop-row.row + 1) (coefficient_of c.args.atom.now))) (sym (c.in_ok-push_entry.ensures {u = tt}))
    (row_more c.loop-row.row (coefficient_of c.args.atom.now) c.loop-row.entries.items (slice_index_or c.as_slice-coef-items.result.now c.loop-row.row (pos 0))
    (ap (λ (xs : List ℤ). slice_index_or xs c.loop-row.row (pos 0)) (sym c.as_slice-coef-items.ensures))
    (coefficient_small c.as_slice-coef-items.result.now c.loop-row.row (pos 0) c.loop-row-test.true (subst AllFit (sym c.as_slice-coef-items.ensures) c.requires.atom.coefs_within)) c.loop-row.invariant)

pub returns : goal.returns
returns c =
    places_done c.args.places c.loop-row.row c.args.atom.now c.loop-row.entries.items c.requires.atom
    (subst (λ (xs : List ℤ). length xs ≤ c.loop-row.row) c.as_slice-coef-items.ensures c.loop-row-test.false)
    (subst (λ (xs : List ℤ). c.loop-row.row ≤ length xs) c.as_slice-coef-items.ensures c.loop-row.auto.row-end) c.loop-row.invariant
