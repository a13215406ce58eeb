use Rattle.std.proofs.Common.{◌≡◌, take}
use Rattle.std.specs.Prelude.{flat_map}
use Rattle.dc_engine.proofs.versions.flat.Given as goal

abbrev pub invariant-loop-case : goal.invariant-loop-case
invariant-loop-case l = l.atoms.items ≡ flat_map (λ case. case) (take l.case-index l.cases)
