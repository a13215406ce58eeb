use Rattle.dc_points.specs.Points.{Entails}
use Rattle.dc_entail.specs.Asked.{AllDone}
use Rattle.dc_families.specs.Moves.{at_start}
use Rattle.dc_greatest.specs.Bounds.{IsLowered}
use Rattle.dc_greatest.specs.Lent.{family, case_at, entry_row_asked}
use Rattle.dc_greatest.proofs.Asking.{first_asked}
use Rattle.dc_greatest.proofs.pass.case_rows.Given as goal

abbrev pub invariant-loop-row : goal.invariant-loop-row
invariant-loop-row g l =
    IsLowered (λ a. Entails (case_at l.t l.k) (at_start l.t.system.now.params a)) l.row l.t.candidates.now l.initial.target l.target
    × AllDone l.t.budget (first_asked (entry_row_asked l.t (family l.t l.at) l.k (case_at l.t l.k)) l.row)
