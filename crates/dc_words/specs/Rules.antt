-- The commands, as `clap` states what it reads of them.
use Rattle.std.specs.Prelude.{◌≡◌, ◌&&◌, ◌||◌, not, pos, Bool, true, false, List, [], ◌∷◌, ◌++◌, map, is_some, Some, codes}
use Rattle.std.specs.List.{list_all, list_any}
use Rattle.std.specs.Str.{bytes_eq}
use Rattle.std.specs.Borrow.{Bor}
use Rattle.clap.specs.Walk.{Rule, Text, is_empty, action_of}
use Rattle.clap.specs.Simple.{App, new_app, new_rule, on_top}
use Rattle.clap.specs.Faults.{is_simple_and_free}
use Rattle.clap.specs.declared.builder.action.ArgAction.{ArgAction}
use Rattle.clap.specs.declared.builder.action.ArgAction.TheVariants.{Set}
use Rattle.clap.specs.declared.builder.value_parser.ValueParser.{ValueParser}
use Rattle.clap.specs.declared.builder.value_parser.ValueParser.TheVariants as vp
use Rattle.dc_cert.specs.Settings.{most_degree, most_products, most_pivots}

-- ---- arguments

-- a positional that has to be there
abbrev pub required : Text → Rule
required id = record (new_rule id) { required = true; action = Some Set }

-- an option `--id` that takes a value
abbrev pub option : Text → Rule
option id = record (new_rule id) { long = Some id; action = Some Set }

-- an argument whose values a parser reads
abbrev pub read_by : ValueParser → Rule → Rule
read_by parser rule = record rule { parser = Some parser }

-- an argument with a value that stands in where the words have none
abbrev pub with_default : Text → Rule → Rule
with_default value rule = record rule { defaults = value ∷ [] }

-- ---- the names of the two kinds of rows

-- a slice of texts, which lies somewhere
abbrev pub Lent : Type 0
Lent = Bor (List (Bor Text))

abbrev pub texts_of : Lent → List Text
texts_of names = map (λ s. s.now) names.now

abbrev pub row_names : List Text
row_names = codes "intervals" ∷ codes "pairs" ∷ []

abbrev pub IsRowNames : Lent → Type 0
IsRowNames names = texts_of names ≡ row_names

-- ---- commands

abbrev pub command : Text → List Rule → App
command name rules = on_top (λ s. record s { rules = rules }) (new_app name)

abbrev pub with_rules : List Rule → App → App
with_rules more = on_top (λ s. record s { rules = s.rules ++ more })

abbrev pub rows_rule : Lent → Rule
rows_rule names = with_default (codes "pairs") (read_by (vp.Names names) (option (codes "rows")))

-- the two sources, and the condition on their inputs
abbrev pub sources_rules : List Rule
sources_rules = required (codes "NEW") ∷ required (codes "OLD") ∷ option (codes "when") ∷ []

-- the options that say how a bound is sought
abbrev pub settings_rules : Lent → List Rule
settings_rules names =
    with_default (codes "2") (read_by (vp.Signed (pos 0) (pos most_degree)) (option (codes "degree")))
    ∷ with_default (codes "2") (read_by (vp.Signed (pos 1) (pos most_products))
    (option (codes "products")))
    ∷ rows_rule names
    ∷ with_default (codes "100000") (read_by (vp.Unsigned 1 most_pivots) (option (codes "pivots"))) ∷ []

abbrev pub analyse_with : Lent → App
analyse_with names = command (codes "analyse") (sources_rules ++ settings_rules names)

-- where the names lie makes no difference
abbrev pub lent : List Text → Lent
lent texts = record { ref_ptr = (0, 0); now = map (λ t. record { ref_ptr = (0, 0); now = t }) texts }

abbrev pub analyse : App
analyse = analyse_with (lent row_names)

abbrev pub check : App
check = command (codes "check") (sources_rules ++ required (codes "CERT") ∷ [])

abbrev pub sample : App
sample = command (codes "sample")
    (read_by (vp.Signed (pos 0) (pos 2147483647)) (required (codes "SEED"))
    ∷ read_by (vp.Signed (pos 1) (pos 8)) (required (codes "COUNT")) ∷ [])

-- a command with the two kinds of rows, wherever their names lie
abbrev pub HasRows : (Lent → App) → App → Type 0
HasRows made app = (names : Lent) × IsRowNames names × (app ≡ made names)

-- ---- what a command asks of its arguments here

abbrev pub is_set : ArgAction → Bool
is_set Set = true
is_set _ = false

-- the argument has one value where it is used, and an id that is not one of `clap`'s own
abbrev pub is_single : Rule → Bool
is_single r = is_some r.action && (is_set (action_of r) && (not (is_some r.range)
    && (not (is_empty r.id)
    && (not (bytes_eq r.id (codes "help")) && not (bytes_eq r.id (codes "version"))))))

abbrev pub has_distinct_ids : List Rule → Bool
has_distinct_ids [] = true
has_distinct_ids (r ∷ rs) = not (list_any (λ q. bytes_eq q.id r.id) rs) && has_distinct_ids rs

-- the command is one of which `clap` states the answers, and each argument has one value
abbrev pub is_plain_command : App → Bool
is_plain_command app = is_simple_and_free app && (list_all is_single app.top.rules
    && (list_all (λ r. r.is_free) app.top.rules
    && (has_distinct_ids app.top.rules && not app.top.subcommand_negates_reqs)))

-- the argument has a value after each parse that succeeds
abbrev pub is_sure : Rule → Bool
is_sure r = r.required || not (is_empty r.defaults)
