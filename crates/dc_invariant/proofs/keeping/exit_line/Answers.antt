use Rattle.std.specs.List.{AllByRecursion}
use Rattle.std.proofs.Common.{List, sym, subst, arith}
use Rattle.std.specs.Prelude.{◌∷◌, [], IfOk, IfErr}
use Rattle.dc_affine.specs.declared.atom.Atom.{Atom}
use Rattle.dc_affine.specs.Atoms.{IsAtom}
use Rattle.dc_entail.specs.declared.answer.Site.TheVariants as site
use Rattle.dc_entail.specs.Asked.{ask}
use Rattle.dc_points.specs.Stated.{empty_problem}
use Rattle.dc_greatest.specs.Answers.{IsFault}
use Rattle.dc_invariant.specs.Shown.{IsLine}
use Rattle.dc_invariant.specs.Lent.{Only}
use Rattle.dc_invariant.proofs.Keepings.{locs_some, exit_in}
use Rattle.dc_invariant.proofs.keeping.exit_line.Goals as goal

pub atoms_of-atoms-requires-clause-inside : goal.atoms_of-atoms-requires-clause-inside
atoms_of-atoms-requires-clause-inside g c = let s = locs_some c.args.t.now c.requires.lent in omega arith

pub line-requires : goal.line-requires
line-requires g c = record { atoms = subst (AllByRecursion (IsAtom c.args.t.now.system.now.vars)) (sym c.atoms_of-atoms.ensures) (exit_in c.args.t.now c.requires.lent) }

pub returns-clause-answer : goal.returns-clause-answer
returns-clause-answer g c =
    subst (λ (xs : List Atom). IfOk c.line.result (IsLine xs c.args.t.now.system.now.vars c.args.t.now.budget)) c.atoms_of-atoms.ensures c.line.ensures.answer

pub returns-clause-fault : goal.returns-clause-fault
returns-clause-fault g c =
    subst (λ (xs : List Atom). IfErr c.line.result (IsFault c.args.t.now.budget (Only (ask (site.Exit c.args.t.now.side) (empty_problem xs c.args.t.now.system.now.vars) ∷ [])))) c.atoms_of-atoms.ensures c.line.ensures.fault
