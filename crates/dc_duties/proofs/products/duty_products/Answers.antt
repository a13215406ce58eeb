use Rattle.std.specs.List.{AllByRecursion}
use Rattle.std.proofs.Common.{◌∙◌, ap, ap₂, sym, subst, arith, refl, [], ◌∷◌, ◌+◌, ◌≤◌, length}
use Rattle.dc_poly.specs.Terms.{Polynomial, TermList}
use Rattle.dc_claims.specs.Duties.{places_of, system_of, edge_at, atoms_of, IsThere}
use Rattle.dc_claims.specs.Parts.{bound_part, part_at, rest_of}
use Rattle.dc_duties.specs.Lent.{lent, cost_at}
use Rattle.dc_system.specs.declared.edges.System.{System}
use Rattle.dc_system.specs.Shapes.{IsEdge, IsForm}
use Rattle.std.proofs.Common.{◌++◌, ◌-◌}
use Rattle.dc_claims.specs.Duties.{edge_atoms, atoms_at}
use Rattle.dc_system.specs.declared.edges.Edge.{Edge}
use Rattle.dc_duties.proofs.Sides.{ok_so}
use Rattle.std.specs.Prelude.{All}
use Rattle.dc_affine.specs.Atoms.{IsAtom}
use Rattle.dc_handelman.specs.Choices.{choices_of}
use Rattle.dc_handelman.specs.Products.{products_of, IsProduct}
use Rattle.dc_duties.proofs.Sides.{few_duty_places, few_duty_atoms, duty_atoms_fit}
use Rattle.dc_duties.proofs.products.duty_products.Goals as goal

pub products-requires-clause-few_places : goal.products-requires-clause-few_places
products-requires-clause-few_places c = (let e = c.requires.places in let h = few_duty_places c.args.programs.now c.requires.pair c.args.duty.now in omega arith)

pub products-requires-clause-few : goal.products-requires-clause-few
products-requires-clause-few c = subst (λ gs. length gs ≤ 2048) (sym (c.as_slice.ensures.value ∙ c.in_ok-atoms.ensures)) (few_duty_atoms c.args.programs.now c.requires.pair c.args.duty.now c.requires.there)

pub products-requires-clause-not_many : goal.products-requires-clause-not_many
products-requires-clause-not_many c = subst (λ gs. length (choices_of (length gs) c.args.k) ≤ 8192) (sym (c.as_slice.ensures.value ∙ c.in_ok-atoms.ensures)) c.requires.not_many

pub products-requires-clause-atoms : goal.products-requires-clause-atoms
products-requires-clause-atoms c = subst (λ gs. AllByRecursion (IsAtom c.args.places) gs) (sym (c.as_slice.ensures.value ∙ c.in_ok-atoms.ensures)) (subst (λ n. AllByRecursion (IsAtom n) (atoms_of (lent c.args.programs.now) c.args.duty.now)) (sym c.requires.places) (duty_atoms_fit c.args.programs.now c.requires.pair c.args.duty.now c.requires.there))

pub returns-clause-list : goal.returns-clause-list
returns-clause-list c = ok_so c.products.result (λ v e. e ∙ ap₂ (λ n gs. products_of n gs c.args.k) c.requires.places (c.as_slice.ensures.value ∙ c.in_ok-atoms.ensures)) c.products.ensures.list

pub returns-clause-kinds : goal.returns-clause-kinds
returns-clause-kinds c = ok_so c.products.result (λ v h. subst (λ n. All (IsProduct n c.args.k) v.items) c.requires.places h) c.products.ensures.kinds
