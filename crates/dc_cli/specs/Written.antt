-- What an attempt to print comes to.
use Rattle.std.specs.Prelude.{ℕ, List}
use Rattle.dc_lines.specs.Bytes.{Bytes}
use Rattle.dc_lp.specs.Meanings.{Meaning}
use Rattle.dc_answers.specs.declared.refusal.Refusal.{Refusal}
use Rattle.dc_answers.specs.declared.refusal.Refusal.TheVariants.{Unwritten}
use Rattle.dc_answers.specs.Outside.{Visit, Stream, Gains, GainsPart}
use Rattle.dc_cli.specs.Steps.{IsOutputFor, IsRefusedFor}

-- the whole output was added
pub record IsPrinted (words : List Bytes) (v : Visit) (out : Stream) (left : Meaning)
    (n : ℕ) : Type 0 where
  pub bytes : Bytes
  pub due : IsOutputFor v words left n bytes
  pub added : Gains out bytes

-- a part of it
pub record IsPart (words : List Bytes) (v : Visit) (out : Stream) : Type 0 where
  pub left : Meaning
  pub status : ℕ
  pub bytes : Bytes
  pub due : IsOutputFor v words left status bytes
  pub part : GainsPart out bytes

-- or there is none
abbrev pub IsUnprinted : List Bytes → Visit → Stream → Refusal → Type 0
IsUnprinted words v out Unwritten = IsPart words v out
IsUnprinted words v out refusal = IsRefusedFor v words refusal

-- a refusal that comes before the first write
abbrev pub IsEarly : Refusal → Type 0
IsEarly Unwritten = ⊥
IsEarly refusal = Unit {0}
