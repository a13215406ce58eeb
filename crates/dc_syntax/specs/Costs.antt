-- What a finished run of a procedure costs.
use Rattle.std.specs.Prelude.{◌≡◌, ℕ, ◌-◌, ◌++◌, length, replicate, ℤ, pos}
use Rattle.dc_syntax.specs.declared.tree.Proc.{Proc}
use Rattle.dc_syntax.specs.Value.{State}
use Rattle.dc_syntax.specs.Run.{Run}

-- the values v of the parameters, then 0 for each further one of n variables
abbrev pub start_with : ℕ → ℕ → State → State
start_with n params v = v ++ replicate (n - params) (pos 0)

-- the input v followed by 0 for each local
abbrev pub start_of : Proc → State → State
start_of p v = start_with (length p.names) p.params v

-- v has one number per parameter, and the body can run from its start to some state t at cost c
abbrev pub Costs : Proc → State → ℤ → Type 0
Costs p v c = (length v ≡ p.params) × (t : State) × Run p.body (start_of p v) c t
