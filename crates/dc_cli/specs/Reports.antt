-- How a refusal is reported.
use Rattle.std.specs.Prelude.{◌≡◌, ◌⊎◌, ℕ, codes}
use Rattle.dc_answers.specs.declared.refusal.Refusal.{Refusal}
use Rattle.dc_answers.specs.declared.refusal.Refusal.TheVariants.{Usage, Unwritten, NoMemory}
use Rattle.dc_answers.specs.Statuses as status
use Rattle.dc_answers.specs.Lines.{status_of, line_of}
use Rattle.dc_answers.specs.Outside.{Stream, IsSaid}

-- whether memory is wanted for the line of a refusal
abbrev pub IsBuilt : Refusal → Type 0
IsBuilt Usage = ⊥
IsBuilt Unwritten = ⊥
IsBuilt NoMemory = ⊥
IsBuilt refusal = Unit {0}

-- the status of a refusal and its line, or those of want of memory where its line wants memory
abbrev pub IsReported : Refusal → Stream → ℕ → Type 0
IsReported refusal err n =
    ((n ≡ status_of refusal) × IsSaid err (line_of refusal))
    ⊎ (IsBuilt refusal × (n ≡ status.no_memory) × IsSaid err (codes "no memory\n"))
