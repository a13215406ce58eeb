-- Where the names of the rows lie makes no difference.
use Rattle.std.proofs.Common.{◌≡◌, ◌∙◌, List, ap, sym}
use Rattle.clap.specs.Walk.{Text, is_empty, nothing_held, rows_after}
use Rattle.clap.specs.Simple.{App, argument_words, built, names_of, on_top}
use Rattle.clap.specs.Faults.{built_fault, fault_of}
use Rattle.dc_words.specs.Rules.{Lent, lent, IsRowNames, analyse_with, analyse}
use Rattle.dc_words.specs.Taken.{takes_line, line_rows}
use Rattle.dc_words.proofs.Walks.{rows_after-f}
use Rattle.dc_words.proofs.Faults.{shape_at_one_address, built_fault-f}

-- a command whose names lie somewhere is the one whose names lie at one address
one_address : (names : Lent) → IsRowNames names → on_top shape_at_one_address (built (analyse_with names)) ≡ on_top shape_at_one_address (built analyse)
one_address names two = ap (λ ts. built (analyse_with (lent ts))) two

same_faults : (names : Lent) → IsRowNames names → (words : List Text) → fault_of (analyse_with names) words ≡ fault_of analyse words
same_faults names two words =
    let rest = argument_words analyse words in
    sym (built_fault-f (built (analyse_with names)) nothing_held rest)
    ∙ (ap (λ a. built_fault a nothing_held rest) (one_address names two) ∙ built_fault-f (built analyse) nothing_held rest)

pub takes_same : (names : Lent) → IsRowNames names → (words : List Text) → takes_line (analyse_with names) words ≡ takes_line analyse words
unfolding takes_line
takes_same names two words = ap is_empty (same_faults names two words)

pub rows_same : (names : Lent) → IsRowNames names → (words : List Text) → line_rows (analyse_with names) words ≡ line_rows analyse words
unfolding line_rows
rows_same names two words =
    let rest = argument_words analyse words in
    sym (rows_after-f (built (analyse_with names)).top.rules (names_of (built analyse)) rest)
    ∙ (ap (λ (a : App). rows_after a.top.rules (names_of (built analyse)) rest) (one_address names two)
    ∙ rows_after-f (built analyse).top.rules (names_of (built analyse)) rest)
