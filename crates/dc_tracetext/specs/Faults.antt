-- What the refusals of `read_trace` and `write_trace` say.
use Rattle.std.specs.Prelude.{◌≡◌, ◌<◌, length}
use Rattle.dc_lines.specs.Bytes.{Bytes}
use Rattle.dc_lines.specs.Texts.{IsBadLine}
use Rattle.dc_tracetext.specs.declared.trace.Trace.{Trace}
use Rattle.dc_tracetext.specs.declared.from_text.TraceTextFault.{TraceTextFault}
use Rattle.dc_tracetext.specs.declared.from_text.TraceTextFault.TheVariants as R
use Rattle.dc_tracetext.specs.declared.to_text.TraceWriteFault.{TraceWriteFault}
use Rattle.dc_tracetext.specs.declared.to_text.TraceWriteFault.TheVariants as W
use Rattle.dc_tracetext.specs.Text.{HasText, limit, text_of}

-- want of memory is free; the other names the line
abbrev pub IsTextFault : Bytes → TraceTextFault → Type 0
IsTextFault text (R.BadTrace line) = IsBadLine HasText limit text line
IsTextFault text R.NoMemory = Unit {0}

-- want of memory is free; the other names the length that the text would have, which passes the limit
abbrev pub IsWriteFault : Trace → TraceWriteFault → Type 0
IsWriteFault t (W.TooLong count) = (limit < length (text_of t)) × (count ≡ length (text_of t))
IsWriteFault t W.NoMemory = Unit {0}
