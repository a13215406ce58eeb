use Rattle.std.proofs.Common.{◌≡◌, ◌∙◌, sym, ap, subst, refl, arith, ◌+◌, ℕ, length, List, [], ◌∷◌, ◌++◌, take, SFits, ℤ}
use Rattle.std.specs.Int.{w64, w128}
use Rattle.std.specs.declared.vec.Vec.{Vec}
use Rattle.std.specs.declared.alloc.Global.{Global}
use Rattle.dc_affine.specs.declared.atom.Atom.{Atom}
use Rattle.dc_lp.specs.declared.Entry.{Entry}
use Rattle.dc_lp.specs.declared.Problem.{Problem}
use Rattle.dc_points.specs.Stated.{atom_number}
use Rattle.dc_entail.specs.Columns.{IsColumnOf, AreColumnsOf, place_numbers}
use Rattle.std.proofs.lemmas.Int.{to_z-of_z}
use Rattle.std.proofs.lemmas.List.{map_more, take_all}
use Rattle.dc_affine.proofs.Fits.{small_64, small_128}
use Rattle.dc_entail.proofs.Problems.{items_of, constants, no_columns, column_more, atom_at, is_number, is_sup_problem, sup_problem-formed}
use Rattle.dc_entail.proofs.decide.sup_problem.Goals as goal

abbrev problem : ℕ → Vec (Vec Entry Global) Global → Vec ℤ Global → Vec ℤ Global → Problem
problem m cs b u = record { rows = m; columns = cs; b = b; cost = u }

-- the entries of each atom
abbrev entry_of : ℕ → List Atom → ℕ → ℕ → ℤ
entry_of n hyps i j = place_numbers n (atom_number hyps j) i

pub loop-atom-init : goal.loop-atom-init
loop-atom-init c = record {
  columns = subst (λ (vs : List (Vec Entry Global)). AreColumnsOf 0 (length c.args.form.now) (entry_of (length c.args.form.now) c.args.hyps.now) (items_of vs)) (sym c.new-columns.ensures.items)
      (no_columns (length c.args.form.now) (entry_of (length c.args.form.now) c.args.hyps.now));
  costs = c.new-cost.ensures.items;
}

pub loop-atom-preserved : goal.loop-atom-preserved
loop-atom-preserved c =
    let a = atom_at (length c.args.form.now) c.args.hyps.now c.loop-atom.atom-index c.atom-item.result c.requires.atoms c.loop-atom-test.true c.atom-item.is in
    let f : SFits w128 c.atom-item.result.c0 = small_128 c.atom-item.result.c0 a.constant_within in
    let g : SFits w64 c.atom-item.result.c0 = small_64 c.atom-item.result.c0 a.constant_within in
    record {
      columns = subst (λ (vs : List (Vec Entry Global)). AreColumnsOf (c.loop-atom.atom-index + 1) (length c.args.form.now) (entry_of (length c.args.form.now) c.args.hyps.now) (items_of vs)) (sym (c.in_ok-push.ensures {u = tt}).items)
          (column_more c.loop-atom.atom-index (length c.args.form.now) (entry_of (length c.args.form.now) c.args.hyps.now) c.loop-atom.columns.items c.in_ok-place_entries.field-0 c.loop-atom.invariant.columns
          (subst (λ (b : Atom). IsColumnOf (length c.args.form.now) (place_numbers (length c.args.form.now) b) c.in_ok-place_entries.field-0.items) (is_number c.args.hyps.now c.loop-atom.atom-index c.atom-item.result c.loop-atom-test.true c.atom-item.is)
          (c.in_ok-place_entries.ensures {u = tt})));
      costs =
          simp to_z-of_z at (c.in_ok-push-2.ensures {u = tt}).items ∙ ap (λ (xs : List ℤ). xs ++ c.atom-item.result.c0 ∷ []) c.loop-atom.invariant.costs
          ∙ ap (λ (b : Atom). constants (take c.loop-atom.atom-index c.args.hyps.now) ++ b.c0 ∷ []) c.atom-item.is
          ∙ sym (map_more (λ (b : Atom). b.c0) c.args.hyps.now c.loop-atom.atom-index c.atom-item.result c.loop-atom-test.true);
    }

pub place_entries-requires : goal.place_entries-requires
place_entries-requires c = record { atom = atom_at (length c.args.form.now) c.args.hyps.now c.loop-atom.atom-index c.atom-item.result c.requires.atoms c.loop-atom-test.true c.atom-item.is }

pub returns-clause-problem : goal.returns-clause-problem
returns-clause-problem c =
    let e : c.loop-atom.atom-index ≡ length c.args.hyps.now = omega arith in
    is_sup_problem c.args.hyps.now c.args.form.now (problem (length c.args.form.now) c.loop-atom.columns c.in_ok-from_slice.field-0 c.loop-atom.cost) refl
    (subst (λ (k : ℕ). AreColumnsOf k (length c.args.form.now) (entry_of (length c.args.form.now) c.args.hyps.now) (items_of c.loop-atom.columns.items)) e c.loop-atom.invariant.columns)
    (c.in_ok-from_slice.ensures {u = tt}).items (c.loop-atom.invariant.costs ∙ ap constants (take_all c.loop-atom.atom-index c.args.hyps.now c.loop-atom-test.false))

pub returns-clause-well_formed : goal.returns-clause-well_formed
returns-clause-well_formed c =
    let e : c.loop-atom.atom-index ≡ length c.args.hyps.now = omega arith in
    sup_problem-formed c.args.hyps.now c.args.form.now (problem (length c.args.form.now) c.loop-atom.columns c.in_ok-from_slice.field-0 c.loop-atom.cost) refl
    (subst (λ (k : ℕ). AreColumnsOf k (length c.args.form.now) (entry_of (length c.args.form.now) c.args.hyps.now) (items_of c.loop-atom.columns.items)) e c.loop-atom.invariant.columns)
    (c.in_ok-from_slice.ensures {u = tt}).items (c.loop-atom.invariant.costs ∙ ap constants (take_all c.loop-atom.atom-index c.args.hyps.now c.loop-atom-test.false)) (let s = c.in_ok-from_slice.field-0.small in let o = c.in_ok-from_slice.field-0.ok in let i = ap (λ (xs : List ℤ). length xs) (c.in_ok-from_slice.ensures {u = tt}).items in omega (arith, o.0, o.1)) c.requires.atoms c.requires.light
