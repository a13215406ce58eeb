-- The status of each refusal, and the line that is written on the error sink.
use Rattle.std.specs.Prelude.{ℕ, ◌++◌, codes, Option, Some, None}
use Rattle.std.specs.Fmt.{decimal}
use Rattle.std.specs.String.{string_bytes}
use Rattle.dc_syntax.specs.declared.tree.Side.{Side}
use Rattle.dc_syntax.specs.declared.tree.Count.{Count}
use Rattle.dc_syntax.specs.declared.tree.Count.TheVariants as count
use Rattle.dc_entail.specs.declared.answer.Site.{Site}
use Rattle.dc_entail.specs.Sites.{side_text, site_text}
use Rattle.dc_parse.specs.declared.fault.Kind.{Kind}
use Rattle.dc_parse.specs.declared.fault.Kind.TheVariants as k
use Rattle.dc_lines.specs.Bytes.{Bytes}
use Rattle.dc_answers.specs.declared.refusal.Text.{Text}
use Rattle.dc_answers.specs.declared.refusal.Text.TheVariants as text
use Rattle.dc_answers.specs.declared.refusal.Wrong.{Wrong}
use Rattle.dc_answers.specs.declared.refusal.Wrong.TheVariants.{Parse, ParametersDiffer}
use Rattle.dc_answers.specs.declared.refusal.Refusal.{Refusal}
use Rattle.dc_answers.specs.declared.refusal.Refusal.TheVariants as r
use Rattle.dc_answers.specs.Statuses as status

abbrev pub status_of : Refusal → ℕ
status_of r.Usage = status.usage
status_of (r.Unread name) = status.read_fault
status_of (r.BadCertificate line) = status.bad_certificate
status_of (r.Source at wrong) = status.source_fault
status_of (r.TooLarge s what n) = status.too_large
status_of (r.PastPivot p n) = status.past_128_bits
status_of (r.PastFold c i) = status.past_128_bits
status_of (r.Spent p) = status.pivots_spent
status_of (r.Rejected c i) = status.rejected
status_of r.Unwritten = status.write_fault
status_of r.NoMemory = status.no_memory

-- ---- words
abbrev pub text_name : Text → Bytes
text_name text.New = codes "new"
text_name text.Old = codes "old"
text_name text.When = codes "when"

abbrev pub count_text : Count → Bytes
count_text count.Locations = codes "locations"
count_text count.Edges = codes "edges"
count_text count.Rows = codes "rows"
count_text count.Bounds = codes "bounds"
count_text count.Columns = codes "columns"
count_text count.Equations = codes "equations"
count_text count.Certificate = codes "certificate"

abbrev pub kind_text : Kind → Bytes
kind_text k.TooLong = codes "TooLong"
kind_text k.NotAscii = codes "NotAscii"
kind_text k.BadCharacter = codes "BadCharacter"
kind_text k.LiteralTooWide = codes "LiteralTooWide"
kind_text k.Unexpected = codes "Unexpected"
kind_text k.Unclosed = codes "Unclosed"
kind_text k.TooDeep = codes "TooDeep"
kind_text k.TooManyNames = codes "TooManyNames"
kind_text k.NameTwice = codes "NameTwice"
kind_text k.UnknownName = codes "UnknownName"
kind_text k.NotAffine = codes "NotAffine"
kind_text k.DegreeTooHigh = codes "DegreeTooHigh"
kind_text k.CoefficientRange = codes "CoefficientRange"
kind_text k.ConditionTooWide = codes "ConditionTooWide"
kind_text k.NoMemory = codes "NoMemory"

-- ---- where a text is wrong, and what is wrong with it
abbrev pub line_in : Wrong → ℕ
line_in (Parse fault) = fault.line
line_in ParametersDiffer = 1

abbrev pub column_in : Wrong → ℕ
column_in (Parse fault) = fault.col
column_in ParametersDiffer = 1

abbrev pub wrong_text : Wrong → Bytes
wrong_text (Parse fault) = kind_text fault.kind
wrong_text ParametersDiffer = codes "ParametersDiffer"

-- ---- lines
unfoldable pub usage_text : Bytes
usage_text =
    codes "usage: diffcost analyse NEW OLD [--when TEXT] [--degree 0..3] [--products 1..3] [--rows intervals|pairs] [--pivots 1..1000000]\nusage: diffcost check NEW OLD CERT [--when TEXT]\nusage: diffcost sample SEED COUNT\n"

abbrev pub unread_line : Bytes → Bytes
unread_line name = codes "read fault: " ++ (name ++ codes "\n")

abbrev pub bad_line : ℕ → Bytes
bad_line line = codes "bad certificate: line " ++ (decimal line ++ codes "\n")

abbrev pub source_line : Text → Wrong → Bytes
source_line at wrong =
    codes "source fault: " ++ (text_name at ++ (codes " " ++ (decimal (line_in wrong) ++ (codes ":"
    ++ (decimal (column_in wrong) ++ (codes " " ++ (wrong_text wrong ++ codes "\n")))))))

abbrev pub large_line : Option Side → Count → ℕ → Bytes
large_line None what n =
    codes "too large: " ++ (count_text what ++ (codes " " ++ (decimal n ++ codes "\n")))
large_line (Some s) what n =
    codes "too large: " ++ (side_text s
    ++ (codes " " ++ (count_text what ++ (codes " " ++ (decimal n ++ codes "\n")))))

abbrev pub pivot_line : Site → ℕ → Bytes
pivot_line p n =
    codes "past 128 bits: " ++ (site_text p ++ (codes " pivot " ++ (decimal n ++ codes "\n")))

abbrev pub fold_line : ℕ → ℕ → Bytes
fold_line c i =
    codes "past 128 bits: check clause "
    ++ (decimal c ++ (codes " index " ++ (decimal i ++ codes "\n")))

abbrev pub spent_line : Site → Bytes
spent_line p = codes "pivots spent: " ++ (site_text p ++ codes "\n")

abbrev pub rejected_line : ℕ → ℕ → Bytes
rejected_line c i =
    codes "rejected: clause " ++ (decimal c ++ (codes " index " ++ (decimal i ++ codes "\n")))

abbrev pub line_of : Refusal → Bytes
line_of r.Usage = usage_text
line_of (r.Unread name) = unread_line (string_bytes name)
line_of (r.BadCertificate line) = bad_line line
line_of (r.Source at wrong) = source_line at wrong
line_of (r.TooLarge s what n) = large_line s what n
line_of (r.PastPivot p n) = pivot_line p n
line_of (r.PastFold c i) = fold_line c i
line_of (r.Spent p) = spent_line p
line_of (r.Rejected c i) = rejected_line c i
line_of r.Unwritten = codes "write fault\n"
line_of r.NoMemory = codes "no memory\n"
