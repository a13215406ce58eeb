use Rattle.std.proofs.Common.{◌∙◌, ap, ap₂, sym, subst, refl, arith, ◌++◌, ◌∷◌, [], map, take, length, slice_index_or}
use Rattle.std.specs.List.{AllByRecursion}
use Rattle.dc_poly.specs.Terms.{Polynomial}
use Rattle.dc_coefficients.specs.Monomials.{all_terms}
use Rattle.dc_claims.specs.Blocks.{IsPart}
use Rattle.dc_claims.specs.Duties.{places_of}
use Rattle.dc_claims.specs.Parts.{part_of, unknowns_of}
use Rattle.dc_claims.specs.declared.duty.Unknown.TheVariants.{Bound}
use Rattle.dc_duties.specs.Lent.{lent}
use Rattle.std.proofs.lemmas.List.{get_or_default, map-append, take_all}
use Rattle.dc_coefficients.proofs.Lists.{take_there}
use Rattle.dc_duties.proofs.Unknowing.{known_at, all_terms_more, all_more}
use Rattle.dc_duties.proofs.block.parts.Goals as goal

pub part-requires-clause-unknown : goal.part-requires-clause-unknown
part-requires-clause-unknown c = known_at c.args.task.now c.as_slice-unknown-items.result.now c.loop-unknown.unknown-index (c.as_slice-unknown-items.ensures.value ∙ c.requires.task.unknowns)

pub loop-unknown-preserved : goal.loop-unknown-preserved
loop-unknown-preserved c = record {
  terms = ap all_terms c.in_ok-push.ensures.items ∙ all_terms_more c.loop-unknown.list.items c.in_ok-part.field-0 ∙ ap₂ (λ x y. x ++ y ∷ []) c.loop-unknown.invariant.terms c.in_ok-part.ensures.terms
      ∙ sym (ap (map (part_of (lent c.args.task.now.programs.now) c.args.task.now.degree c.args.duty.now)) (take_there c.as_slice-unknown-items.result.now c.loop-unknown.unknown-index _ c.loop-unknown-test.true (get_or_default c.as_slice-unknown-items.result.now c.loop-unknown.unknown-index Bound (slice_index_or c.as_slice-unknown-items.result.now c.loop-unknown.unknown-index Bound) c.loop-unknown-test.true)) ∙ map-append (part_of (lent c.args.task.now.programs.now) c.args.task.now.degree c.args.duty.now) (take c.loop-unknown.unknown-index c.as_slice-unknown-items.result.now) (_ ∷ []));
  kinds = subst (AllByRecursion (IsPart (places_of (lent c.args.task.now.programs.now) c.args.duty.now) 2)) (sym c.in_ok-push.ensures.items) (all_more _ c.loop-unknown.list.items c.in_ok-part.field-0 c.loop-unknown.invariant.kinds c.in_ok-part.ensures.part);
}

pub returns-clause-terms : goal.returns-clause-terms
returns-clause-terms c = c.loop-unknown.invariant.terms ∙ ap (map (part_of (lent c.args.task.now.programs.now) c.args.task.now.degree c.args.duty.now)) (take_all c.loop-unknown.unknown-index c.as_slice-unknown-items.result.now c.loop-unknown-test.false ∙ (c.as_slice-unknown-items.ensures.value ∙ c.requires.task.unknowns))

pub returns-clause-kinds : goal.returns-clause-kinds
returns-clause-kinds c = c.loop-unknown.invariant.kinds
