use Rattle.std.proofs.Common.{refl, ◌∙◌, ap, ap₂, length, ◌∷◌, ◌++◌}
use Rattle.dc_syntax.specs.declared.tree.Side.TheVariants.{New, Old}
use Rattle.dc_claims.specs.declared.duty.Unknown.TheVariants.{Bound}
use Rattle.dc_duties.specs.Lists.{coefficients}
use Rattle.dc_duties.proofs.plan.Task.new.Goals as goal

pub monomials-requires-clause-few : goal.monomials-requires-clause-few
monomials-requires-clause-few c = c.requires.pair.new.system.few_vars

pub monomials-requires-2-clause-few : goal.monomials-requires-2-clause-few
monomials-requires-2-clause-few c = c.requires.pair.old.system.few_vars

pub monomials-requires-clause-low : goal.monomials-requires-clause-low
monomials-requires-clause-low c = c.requires.low

pub monomials-requires-2-clause-low : goal.monomials-requires-2-clause-low
monomials-requires-2-clause-low c = c.requires.low

pub returns : goal.returns
returns c = record {
  task = record {
    pair = c.requires.pair;
    low = c.requires.low;
    some = c.requires.some;
    few = c.requires.few;
    new_monomials = c.in_ok-new_monomials.ensures.list;
    old_monomials = c.in_ok-old_monomials.ensures.list;
    unknowns = c.in_ok-unknowns.ensures
        ∙ ap₂ (λ m n. Bound ∷ (coefficients New c.args.programs.now.new.now.system.now.locs m ++ coefficients Old c.args.programs.now.old.now.system.now.locs n))
        (ap length (c.as_slice.ensures.value ∙ c.in_ok-new_monomials.ensures.list)) (ap length (c.as_slice-2.ensures.value ∙ c.in_ok-old_monomials.ensures.list));
  };
  same_programs = refl;
  same_degree = refl;
  same_products = refl;
}
