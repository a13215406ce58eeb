use Rattle.std.proofs.Common.{refl, sym, ◌∙◌, ap, subst, arith, ◌+◌, ◌*◌, ◌<◌, ◌++◌, ◌∷◌, [], flat_map, length, length-append, take, slice_set, Vec, Global}
use Rattle.std.proofs.lemmas.List.{length-take-le, length-set}
use Rattle.dc_lp.specs.declared.Entry.{Entry}
use Rattle.dc_table.specs.Tables.{AreListed, lists, both_entries, entries_of, opposite_entries}
use Rattle.dc_table.proofs.Extending.{extended_none, length_both, one_extended, both_extended}
use Rattle.dc_table.proofs.table.extend.Goals as goal

pub loop-k-init : goal.loop-k-init
loop-k-init c = record { long = refl; so_far = sym (extended_none (lists c.args.columns.now.items)) }

pub push_entries-requires-clause-listed : goal.push_entries-requires-clause-listed
push_entries-requires-clause-listed c = subst (AreListed c.args.monos.now) (sym c.index-parts-k.is) (c.requires.listed c.loop-k.k c.index-parts-k.result c.loop-k-test.true)

pub loop-k-preserved : goal.loop-k-preserved
loop-k-preserved c =
    let before = flat_map (both_entries c.args.row c.args.monos.now) (take c.loop-k.k c.args.parts.now) in
    let a = length_both c.args.row c.args.monos.now (take c.loop-k.k c.args.parts.now) in
    let b = length-take-le c.loop-k.k c.args.parts.now (omega arith) in
    let two = c.requires.two_each in
    let long = c.loop-k.invariant.long in
    let in_first : 2 * c.loop-k.k < length c.loop-k.columns.items = omega arith in
    let set_long = length-set c.loop-k.columns.items (2 * c.loop-k.k) c.push_entries.new.column in
    let first = one_extended c.loop-k.columns.items (lists c.args.columns.now.items) before (entries_of c.args.row c.args.monos.now c.index-parts-k.result) (2 * c.loop-k.k) c.index_mut.result.now c.push_entries.new.column c.loop-k.invariant.so_far (omega (arith, a, b))
    in_first (c.in_ok-push_entries.ensures ∙ ap (λ (v : Vec Entry Global). v.items ++ entries_of c.args.row c.args.monos.now c.index-parts-k.result) c.index_mut.ensures.value) in
    let second = one_extended (slice_set c.loop-k.columns.items (2 * c.loop-k.k) c.push_entries.new.column) (lists c.args.columns.now.items) (before ++ entries_of c.args.row c.args.monos.now c.index-parts-k.result ∷ []) (opposite_entries c.args.row c.args.monos.now c.index-parts-k.result) (2 * c.loop-k.k + 1) c.index_mut-in-loop-k.result.now c.push_opposites.new.column first (let e = length-append before (entries_of c.args.row c.args.monos.now c.index-parts-k.result ∷ []) in omega (arith, a, b, e))
    (omega (arith, set_long, two, long)) (c.in_ok-push_opposites.ensures ∙ ap (λ (v : Vec Entry Global). v.items ++ opposite_entries c.args.row c.args.monos.now c.index-parts-k.result) c.index_mut-in-loop-k.ensures.value) in
    record {
      long = length-set (slice_set c.loop-k.columns.items (2 * c.loop-k.k) c.push_entries.new.column) (2 * c.loop-k.k + 1) c.push_opposites.new.column ∙ set_long ∙ long;
      so_far = second ∙ both_extended (lists c.args.columns.now.items) c.args.row c.args.monos.now c.args.parts.now c.loop-k.k c.index-parts-k.result c.loop-k-test.true c.index-parts-k.is;
    }
