-- What a sink in memory holds, and how much of a piece it takes.
use Rattle.std.specs.Prelude.{ℕ, ◌-◌, ◌||◌, min, nat_le, List, length, Bool}
use Rattle.dc_host.specs.Outside.{counted, is_listed}

-- the bytes taken, how many fit in all and in a call, the numbers of the calls that fail, and how
-- many calls and faults there were
pub record Held : Type 0 where
  pub bytes : List ℕ
  pub room : ℕ
  pub piece : ℕ
  pub failing : List ℕ
  pub calls : ℕ
  pub faults : ℕ

-- the least of the piece, the room left and the length of the bytes
abbrev pub share : Held → List ℕ → ℕ
share held bytes = min held.piece (min (held.room - length held.bytes) (length bytes))

-- whether the next call fails: no room is left, or the call is listed
abbrev pub refuses : Held → Bool
refuses held = nat_le held.room (length held.bytes) || is_listed (counted held.calls) held.failing
