use Rattle.dc_families.specs.Rounds.{EdgeGives}
use Rattle.dc_entail.specs.Asked.{AllDone}
use Rattle.dc_greatest.specs.Bounds.{IsLowered}
use Rattle.dc_greatest.specs.Lent.{graph, family, edge_row_asked}
use Rattle.dc_greatest.proofs.Asking.{first_asked}
use Rattle.dc_greatest.proofs.pass.edge_rows.Given as goal

abbrev pub invariant-loop-row : goal.invariant-loop-row
invariant-loop-row g l =
    IsLowered (EdgeGives (graph l.t) (family l.t l.at) l.edge) l.row l.t.candidates.now l.initial.target l.target
    × AllDone l.t.budget (first_asked (edge_row_asked l.t (family l.t l.at) l.k l.edge) l.row)
