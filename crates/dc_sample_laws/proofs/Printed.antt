-- A procedure whose printed text is short and nests not too deep, and whose names and forms have no fault, is what that text says.
use Rattle.std.proofs.Common.{◌≡◌, ℕ, ◌+◌, ◌<◌, ◌≤◌, Bool, true, false, List, [], ◌∷◌, map, length, take, get_or, Option, Some, None, refl, sym, ap, subst, ◌∙◌, arith}
use Rattle.std.specs.Prelude.{if◌then◌else◌, fold}
use Rattle.std.specs.Option.{unwrap_or, option_or, option_map}
use Rattle.std.specs.List.{AllByRecursion}
use Rattle.dc_tokens.specs.declared.token.TokenKind.TheVariants as k
use Rattle.dc_tokens.specs.declared.token.Token.{Token}
use Rattle.dc_tokens.proofs.Readings.{one_reading}
use Rattle.dc_grammar.specs.Kinds.{is}
use Rattle.dc_grammar.specs.Grammar.{ref, many, Tree, Derives, token, name, both}
use Rattle.dc_grammar.specs.Language.{language, source, stmt}
use Rattle.dc_grammar.specs.Depth.{IsDeep, open_brackets, brackets_with}
use Rattle.dc_grammar.specs.Verdicts.{Shallow}
use Rattle.dc_grammar.proofs.Alone.{one_tree}
use Rattle.dc_grammar.proofs.LanguageReader.{language_ahead}
use Rattle.dc_grammar.proofs.AllKinds.{same_kind}
use Rattle.dc_syntax.specs.declared.tree.Proc.{Proc}
use Rattle.dc_syntax.specs.Names.{place_of}
use Rattle.dc_syntax.specs.Text.{text_of}
use Rattle.dc_descent.specs.Faults.{declared_fault, missing, used_fault}
use Rattle.dc_descent.specs.Scopes.{spelled}
use Rattle.dc_descent.specs.Statements.{stmts_of, starts_of}
use Rattle.dc_descent.specs.Trees.{leaves}
use Rattle.dc_descent.specs.Sources.{parts_of, declared, names_of}
use Rattle.dc_descent.specs.Sources as sources
use Rattle.dc_descent.proofs.Lists.{derived_leaves}
use Rattle.dc_descent.proofs.Positions.{found}
use Rattle.dc_program.specs.Limits.{all_limited}
use Rattle.dc_parse.specs.Faults.{raised, names_fault}
use Rattle.dc_parse.specs.Outcomes.{says, first_of, tree}
use Rattle.dc_parse.specs.Forms.{all_faults, first_form}
use Rattle.dc_parse.specs.Judges.{proc_of, forms_fault, judge_source}
use Rattle.dc_parse.specs.Answers.{SourceOutcome}
use Rattle.dc_parse.proofs.Facts.{Known}
use Rattle.dc_printed.specs.Brackets.{brackets_of, brackets_in}
use Rattle.dc_printed.specs.Fits.{IsWritable, stmts_fit}
use Rattle.dc_printed.proofs.Different.{AreDifferent, bytes_same, distinct_different}
use Rattle.dc_printed.proofs.Measures.{top, depth}
use Rattle.dc_printed.proofs.Depths.{front_below}
use Rattle.dc_printed.proofs.Deep.{few_shallow}
use Rattle.dc_printed.proofs.Exprs as exprs
use Rattle.dc_printed.proofs.Fewest.{need_proc, text_sized}
use Rattle.dc_printed.proofs.Knowing.{know_stmts}
use Rattle.dc_printed.proofs.RoundTrip.{past, finds_past, known_used, inner, unfold_open}
use Rattle.dc_printed.proofs.Sources.{IsPrinted, printed, printed_by, different_before}

-- ---- depth

shallow : (p : Proc) → IsWritable p → all_limited p.body ≡ true → need_proc depth p.body ≤ 64 → (mine : IsPrinted p) → Shallow IsDeep mine.has.tokens (length mine.has.tokens)
shallow p w few need mine =
    let own = mine.has in
    let said = own.says in
    let size = text_sized depth p w in
    let high : top 0 (brackets_of (text_of p)) ≡ 0 + need_proc depth p.body = (let f = size.high in f 0) in
    let same : top 0 (brackets_in own.tokens) ≡ top 0 (brackets_of (text_of p)) = ap (top 0) mine.same in
    few_shallow (text_of p) own.tokens own.tree own.derived (record {
      operators = ap all_limited said.body ∙ few;
      brackets = λ j l. let f = front_below 0 own.tokens j in let q = unfold_open (take j own.tokens) in omega arith;
    })

-- ---- the whole

-- tokens that spell these names declare them without a fault
abbrev pub DeclaresWell : List (List ℕ) → Type 0
DeclaresWell names = (text : List ℕ) (ts : List Token) → map (spelled text) ts ≡ names → declared_fault text [] ts ≡ None

-- what the printed text has to meet
pub record CanBeRead (p : Proc) : Type 0 where
  pub writable : IsWritable p
  pub limited : all_limited p.body ≡ true
  pub low : need_proc depth p.body ≤ 64
  pub short : length (text_of p) ≤ 65536
  pub declares : DeclaresWell p.names
  pub forms : (ps : List ℕ) → first_form ps (all_faults (length p.names) p.body) ≡ None

pub printed_read : (p : Proc) → CanBeRead p → SourceOutcome (text_of p) (says p)
printed_read p h =
    let w : IsWritable p = h.writable in
    let mine = printed p w in
    let own = mine.has in
    let own_said = own.says in
    let text : List ℕ = text_of p in
    let parts = parts_of own.tree in
    let other = printed_by p (past text p.names) w (finds_past text p.names (distinct_different p.names w.different)) in
    let tokens_same : other.tokens ≡ own.tokens = (let r = one_reading text in let f = r.one_list in f other.tokens own.tokens other.read own.read) in
    let tree_same : other.tree ≡ own.tree = one_tree language_ahead source own.tokens other.tree own.tree (subst (λ ts. Derives language (ref source) ts other.tree) tokens_same other.derived) own.derived in
    let body_past : stmts_of (past text p.names) parts.body ≡ p.body = ap (λ a. stmts_of (past text p.names) (parts_of a).body) (sym tree_same) ∙ other.body in
    let ins = inner own.derived in
    let known = know_stmts (length p.names) (past text p.names) ins.derived (ap (stmts_fit (length p.names)) body_past ∙ w.body) in
    let used : used_fault text p.names (leaves parts.body) ≡ None = ap (used_fault text p.names) (derived_leaves ins.derived) ∙ known_used text p.names ins.tokens known in
    let used_here : used_fault text (names_of text parts) (leaves parts.body) ≡ None = ap (λ m. used_fault text m (leaves parts.body)) own_said.names ∙ used in
    let declares : declared_fault text [] (declared parts) ≡ None = (let f = h.declares in f text (declared parts) own_said.names) in
    let known_name : sources.names_fault text parts ≡ None = ap (λ x. option_or x (used_fault text (names_of text parts) (leaves parts.body))) declares ∙ used_here in
    let whole_name : names_fault text parts ≡ None = ap (option_map raised) known_name in
    let proc_same : proc_of text parts ≡ p = (λ j. record { name = own_said.name j; names = own_said.names j; params = own_said.params j; body = own_said.body j }) in
    let forms_here : forms_fault text parts ≡ None = ap (λ (x : Proc). first_form (starts_of parts.body) (all_faults (length x.names) x.body)) proc_same ∙ (let f = h.forms in f (starts_of parts.body)) in
    let judged : judge_source text own.tree ≡ says p =
    ap (λ x. first_of x (first_of (forms_fault text parts) (says (proc_of text parts)))) whole_name
    ∙ (ap (λ x. first_of x (says (proc_of text parts))) forms_here ∙ ap says proc_same) in
    tree h.short own.tokens own.read own.tree (own.derived, shallow p w h.limited h.low mine) (sym judged)
