-- The statuses with which the program ends.
use Rattle.std.specs.Prelude.{ℕ}

-- ---- with an answer
-- a threshold was printed, or a certificate was accepted
abbrev pub threshold : ℕ
threshold = 0

abbrev pub accepted : ℕ
accepted = 0

abbrev pub none : ℕ
none = 1

abbrev pub vacuous : ℕ
vacuous = 2

-- ---- with a refusal
abbrev pub usage : ℕ
usage = 3

abbrev pub source_fault : ℕ
source_fault = 4

abbrev pub too_large : ℕ
too_large = 5

abbrev pub past_128_bits : ℕ
past_128_bits = 6

abbrev pub pivots_spent : ℕ
pivots_spent = 7

abbrev pub read_fault : ℕ
read_fault = 8

abbrev pub write_fault : ℕ
write_fault = 9

abbrev pub no_memory : ℕ
no_memory = 10

abbrev pub rejected : ℕ
rejected = 11

abbrev pub bad_certificate : ℕ
bad_certificate = 12
