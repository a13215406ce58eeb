use Rattle.std.proofs.Common.{List, sym, subst, arith, add-one}
use Rattle.dc_affine.specs.declared.atom.Atom.{Atom}
use Rattle.dc_invariant.proofs.Prunings.{ArePrintedFirst, printed_start, printed_next, printed_fault}
use Rattle.dc_invariant.proofs.pruning.printed_each.Goals as goal

pub loop-location-init : goal.loop-location-init
loop-location-init g c = subst (λ (xs : List (List Atom)). ArePrintedFirst c.args.t.now 0 xs) (sym c.new-printed.ensures) (printed_start c.args.t.now)

pub loop-location-preserved : goal.loop-location-preserved
loop-location-preserved g c =
    subst (λ n. ArePrintedFirst c.args.t.now n c.push.new.self) (sym (add-one c.loop-location.location))
    (printed_next c.args.t.now c.loop-location.location c.loop-location.printed c.push.new.self c.in-Ok.atoms c.loop-location.invariant (c.in-Ok.ensures {u = tt}).answer (c.in_ok-push-in-Ok.ensures {u = tt}).ok)

pub returns-in-Err-clause-fault : goal.returns-in-Err-clause-fault
returns-in-Err-clause-fault g c =
    printed_fault c.args.t.now c.loop-location.location c.loop-location.printed (omega arith) c.loop-location.invariant c.in-Err.fault (c.in-Err.ensures {u = tt}).fault
