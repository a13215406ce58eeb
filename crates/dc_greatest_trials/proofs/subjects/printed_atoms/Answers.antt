use Rattle.std.proofs.lemmas.Result.{IfOk-weaker}
use Rattle.dc_syntax.specs.declared.tree.Side.TheVariants.{New}
use Rattle.dc_families.specs.Graphs.{graph_of}
use Rattle.dc_families.proofs.False.{greatest_is_honest}
use Rattle.dc_families.proofs.Folds.{systems_are_graphs}
use Rattle.dc_families.proofs.Prunes.{printed_are_inductive}
use Rattle.dc_greatest.specs.Kept.{stands_for}
use Rattle.dc_invariant.specs.Answers.{TellsPrinted}
use Rattle.dc_invariant.proofs.Whole.{printed_are_atoms}
use Rattle.dc_greatest_trials.specs.Subjects.{CanBeShown}
use Rattle.dc_greatest_trials.proofs.subjects.printed_atoms.Goals as goal

pub prune-requires-clause-honest : goal.prune-requires-clause-honest
prune-requires-clause-honest g c = (let t = c.in-Ok.ensures in greatest_is_honest (graph_of c.args.s.now.system) c.args.s.now.cases c.args.s.now.candidates (stands_for c.args.s.now.system.vars c.args.s.now.candidates c.in-Ok.f.at) c.requires.kind t.greatest)

pub returns : goal.returns
returns g c =
    let s = c.args.s.now in
    let t = c.in-Ok.ensures in
    let J = stands_for s.system.vars s.candidates c.in-Ok.f.at in
    IfOk-weaker c.prune.result (TellsPrinted New (graph_of s.system) s.candidates J c.args.budget) (CanBeShown s.system s.cases) (λ v h. record {
      one_each = h.printed_is.one_each;
      atoms = printed_are_atoms (graph_of s.system) s.candidates J v h.questions c.requires.kind h.printed_is;
      inductive = printed_are_inductive (graph_of s.system) s.cases s.candidates J v h.questions (systems_are_graphs s.system c.requires.system) c.requires.kind t.greatest h.printed_is;
    }) c.prune.ensures.answer
