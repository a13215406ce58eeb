use Rattle.std.proofs.Common.{◌≡◌, ◌∙◌, sym, ap, subst, arith, ◌+◌, ℕ, length, List, [], ◌∷◌, ◌++◌, ℤ}
use Rattle.std.specs.Prelude.{negsuc}
use Rattle.std.specs.declared.vec.Vec.{Vec}
use Rattle.std.specs.declared.alloc.Global.{Global}
use Rattle.dc_affine.specs.declared.atom.Atom.{Atom}
use Rattle.dc_lp.specs.declared.Entry.{Entry}
use Rattle.dc_lp.specs.declared.Problem.{Problem}
use Rattle.dc_points.specs.Stated.{atom_number}
use Rattle.dc_entail.specs.Columns.{IsColumnOf, AreColumnsOf, column_numbers}
use Rattle.dc_entail.proofs.Problems.{items_of, no_columns, column_more, atom_at, is_number, is_empty_problem, empty_problem-formed}
use Rattle.dc_entail.proofs.decide.empty_problem.Goals as goal

abbrev problem : ℕ → Vec (Vec Entry Global) Global → Vec ℤ Global → Vec ℤ Global → Problem
problem m cs b u = record { rows = m; columns = cs; b = b; cost = u }

-- the entries of each atom
abbrev entry_of : ℕ → List Atom → ℕ → ℕ → ℤ
entry_of n hyps i j = column_numbers n (atom_number hyps j) i

pub loop-atom-init : goal.loop-atom-init
loop-atom-init c =
    subst (λ (vs : List (Vec Entry Global)). AreColumnsOf 0 (c.args.places + 1) (entry_of c.args.places c.args.hyps.now) (items_of vs)) (sym c.new-columns.ensures.items)
    (no_columns (c.args.places + 1) (entry_of c.args.places c.args.hyps.now))

pub loop-atom-preserved : goal.loop-atom-preserved
loop-atom-preserved c =
    subst (λ (vs : List (Vec Entry Global)). AreColumnsOf (c.loop-atom.atom-index + 1) (c.args.places + 1) (entry_of c.args.places c.args.hyps.now) (items_of vs)) (sym (c.in_ok-push.ensures {u = tt}).items)
    (column_more c.loop-atom.atom-index (c.args.places + 1) (entry_of c.args.places c.args.hyps.now) c.loop-atom.columns.items c.in_ok-column_entries.field-0 c.loop-atom.invariant
    (subst (λ (a : Atom). IsColumnOf (c.args.places + 1) (column_numbers c.args.places a) c.in_ok-column_entries.field-0.items) (is_number c.args.hyps.now c.loop-atom.atom-index c.atom-item.result c.loop-atom-test.true c.atom-item.is)
    (c.in_ok-column_entries.ensures {u = tt})))

pub column_entries-requires : goal.column_entries-requires
column_entries-requires c = record { atom = atom_at c.args.places c.args.hyps.now c.loop-atom.atom-index c.atom-item.result c.requires.atoms c.loop-atom-test.true c.atom-item.is }

pub returns-clause-problem : goal.returns-clause-problem
returns-clause-problem c =
    let e : c.loop-atom.atom-index ≡ length c.args.hyps.now = omega arith in
    is_empty_problem c.args.places c.args.hyps.now (problem c.in-Some.rows c.loop-atom.columns c.push-2.new.self c.in_ok-cost.cost) (c.in-Some.ensures {u = tt}).1
    (subst (λ (k : ℕ). AreColumnsOf k (c.args.places + 1) (entry_of c.args.places c.args.hyps.now) (items_of c.loop-atom.columns.items)) e c.loop-atom.invariant)
    ((c.in_ok-push-2.ensures {u = tt}).items ∙ ap (λ (xs : List ℤ). xs ++ negsuc 0 ∷ []) (c.in_ok-b.ensures {u = tt})) (c.in_ok-cost.ensures {u = tt})

pub returns-clause-well_formed : goal.returns-clause-well_formed
returns-clause-well_formed c =
    let e : c.loop-atom.atom-index ≡ length c.args.hyps.now = omega arith in
    empty_problem-formed c.args.places c.args.hyps.now (problem c.in-Some.rows c.loop-atom.columns c.push-2.new.self c.in_ok-cost.cost) (c.in-Some.ensures {u = tt}).1
    (subst (λ (k : ℕ). AreColumnsOf k (c.args.places + 1) (entry_of c.args.places c.args.hyps.now) (items_of c.loop-atom.columns.items)) e c.loop-atom.invariant)
    ((c.in_ok-push-2.ensures {u = tt}).items ∙ ap (λ (xs : List ℤ). xs ++ negsuc 0 ∷ []) (c.in_ok-b.ensures {u = tt})) (c.in_ok-cost.ensures {u = tt}) (c.in-Some.ensures {u = tt}).0
