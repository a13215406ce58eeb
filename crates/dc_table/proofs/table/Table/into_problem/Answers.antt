use Rattle.std.proofs.Common.{refl, sym, ◌∙◌, ap, subst, arith, ◌-◌, ◌≤◌, ◌∷◌, pos, negsuc, replicate, length, length-append}
use Rattle.dc_table.specs.Tables.{lists}
use Rattle.dc_table.proofs.Extending.{lists_++}
use Rattle.dc_table.proofs.table.Table.into_problem.Goals as goal

pub costs-requires : goal.costs-requires
costs-requires c =
    subst (λ cs. 2 ≤ length cs) (sym (c.as_slice.ensures.value ∙ c.in_ok-append.ensures.items))
    (let a = length-append c.args.self.unknowns.items c.args.self.products.items in let h = c.requires in omega arith)

pub returns : goal.returns
returns c = record {
  rows = refl;
  columns = ap lists c.in_ok-append.ensures.items ∙ lists_++ c.args.self.unknowns.items c.args.self.products.items;
  b = refl;
  cost = c.in_ok-cost.ensures ∙ ap (λ cs. pos 1 ∷ negsuc 0 ∷ replicate (length cs - 2) (pos 0)) c.as_slice.ensures.value;
}
