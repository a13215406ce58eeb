-- The parameters of a procedure.
use Rattle.std.specs.Prelude.{◌≡◌, ℕ, List, take}
use Rattle.dc_syntax.specs.declared.tree.Proc.{Proc}

-- their names, in order
abbrev pub params_of : Proc → List (List ℕ)
params_of p = take p.params p.names

-- two procedures have equal numbers of parameters and equal names of them, in order
abbrev pub HaveSameParams : Proc → Proc → Type 0
HaveSameParams p q = (p.params ≡ q.params) × (params_of p ≡ params_of q)
