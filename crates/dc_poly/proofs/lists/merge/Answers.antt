use Rattle.std.proofs.Common.{rules, sym, ◌∙◌, ap, ap₂, SFits, to_z, of_z, arith, inl, inr, ◌+ℤ◌, ◌++◌, ◌∷◌, [], drop}
use Rattle.std.specs.Int.{w128}
use Rattle.std.proofs.lemmas.Int.{to_z-of_z}
use Rattle.std.proofs.lemmas.List.{drop_all, take_rest}
use Rattle.dc_poly.specs.Terms.{weight, term}
use Rattle.dc_poly.proofs.Merge.{merge_less, merge_more, merge_equal, merge_gone, merge_done}
use Rattle.dc_poly.proofs.Products.{size_within, sum_fits}
use Rattle.dc_poly.proofs.lists.merge.Goals as goal
use Rattle.dc_poly.proofs.lists.merge.Goals.{then-coef-ne0+in_ok-mono-in-Equal+in_ok-push-in-Equal, else-coef-ne0, then-merge-test+else-j-right, else-merge-test}

pub merge-preserved-in-Less : goal.merge-preserved-in-Less
merge-preserved-in-Less c = record {
  left_in = omega arith;
  right_in = omega arith;
  merging = merge_less _ _ _ _ _ _ c.index-left-i.result c.index-right-j.result c.merge-test.true c.if-j-right.true c.index-left-i.is c.index-right-j.is c.in-Less.ensures
      (c.in_ok-push-in-Less.ensures.items ∙ ap (λ y. c.merge.out.items ++ y ∷ []) c.in_ok-copy-in-Less.ensures.value) c.merge.invariant.merging;
}

pub merge-preserved-in-Greater : goal.merge-preserved-in-Greater
merge-preserved-in-Greater c = record {
  left_in = omega arith;
  right_in = omega arith;
  merging = merge_more _ _ _ _ _ _ c.index-left-i.result c.index-right-j.result c.merge-test.true c.if-j-right.true c.index-left-i.is c.index-right-j.is c.in-Greater.ensures
      (c.in_ok-push-in-Greater.ensures.items ∙ ap (λ y. c.merge.out.items ++ y ∷ []) c.in_ok-copy-in-Greater.ensures.value) c.merge.invariant.merging;
}

pub overflow_add-coef : goal.overflow_add-coef
overflow_add-coef c =
    let f : SFits w128 c.index-left-i.result.coef = search rules in
    let g : SFits w128 c.index-right-j.result.coef = search rules in
    simp to_z-of_z
    (sum_fits c.index-left-i.result.coef c.index-right-j.result.coef (weight c.args.left.now) (weight c.args.right.now)
    (size_within c.merge.i _ c.index-left-i.result c.merge-test.true c.index-left-i.is)
    (size_within c.merge.j _ c.index-right-j.result c.if-j-right.true c.index-right-j.is) c.requires.light)

pub merge-preserved : goal.merge-preserved
merge-preserved c =
    let f : SFits w128 c.index-left-i.result.coef = search rules in
    let g : SFits w128 c.index-right-j.result.coef = search rules in
    let h : SFits w128 (c.index-left-i.result.coef +ℤ c.index-right-j.result.coef) =
    sum_fits c.index-left-i.result.coef c.index-right-j.result.coef (weight c.args.left.now) (weight c.args.right.now)
    (size_within c.merge.i _ c.index-left-i.result c.merge-test.true c.index-left-i.is)
    (size_within c.merge.j _ c.index-right-j.result c.if-j-right.true c.index-right-j.is) c.requires.light in
    elim c.if-coef-ne0.branch [
      | then-coef-ne0+in_ok-mono-in-Equal+in_ok-push-in-Equal w ↦ record {
        left_in = omega arith;
        right_in = omega arith;
        merging = merge_equal _ _ _ _ _ _ c.index-left-i.result c.index-right-j.result _ c.merge-test.true c.if-j-right.true c.index-left-i.is c.index-right-j.is c.in-Equal.ensures (search rules) (λ z. (simp to_z-of_z at w.if-coef-ne0.true) (ap (of_z w128) z))
            (ap (λ v. v.items) w.out-is ∙ (simp to_z-of_z at w.in_ok-push-in-Equal.ensures.items) ∙ ap (λ y. c.merge.out.items ++ term y (c.index-left-i.result.coef +ℤ c.index-right-j.result.coef) ∷ []) w.in_ok-mono-in-Equal.ensures.value) c.merge.invariant.merging;
      }
      | else-coef-ne0 w ↦ record {
        left_in = omega arith;
        right_in = omega arith;
        merging = merge_gone _ _ _ _ _ _ c.index-left-i.result c.index-right-j.result c.merge-test.true c.if-j-right.true c.index-left-i.is c.index-right-j.is c.in-Equal.ensures
            (sym (to_z-of_z w128 _ h) ∙ ap (to_z w128) (simp to_z-of_z at w.if-coef-ne0.false)) (ap (λ v. v.items) w.out-is) c.merge.invariant.merging;
      }
    ]

pub returns : goal.returns
returns c =
    c.in_ok-append-2.ensures
    ∙ ap₂ ◌++◌ (c.in_ok-append.ensures ∙ ap (λ y. c.merge.out.items ++ y) (take_rest c.args.left.now c.merge.i)) (take_rest c.args.right.now c.merge.j)
    ∙ merge_done c.args.left.now c.args.right.now c.merge.out.items (drop c.merge.i c.args.left.now) (drop c.merge.j c.args.right.now) c.requires.right c.merge.invariant.merging
    (elim c.merge-test.branch [ then-merge-test+else-j-right w ↦ inr (drop_all _ _ w.if-j-right.false) | else-merge-test w ↦ inl (drop_all _ _ w.merge-test.false) ])
