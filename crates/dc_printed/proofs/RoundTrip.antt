-- What the parser reads from a text it reads from the printed text again.
use Rattle.std.proofs.Common.{◌≡◌, ℕ, ◌+◌, ◌<◌, ◌≤◌, Bool, true, false, leb, List, [], ◌∷◌, ◌++◌, map, length, take, drop, get_or, Option, Some, None, refl, sym, ap, subst, ◌∙◌, arith, inl, inr}
use Rattle.std.specs.Prelude.{if◌then◌else◌, fold}
use Rattle.std.specs.Option.{unwrap_or, option_or, option_map}
use Rattle.std.specs.List.{AllByRecursion}
use Rattle.std.proofs.lemmas.Bool.{leb-true, leb-false}
use Rattle.dc_tokens.specs.declared.token.TokenKind.TheVariants as k
use Rattle.dc_tokens.specs.declared.token.Token.{Token}
use Rattle.dc_tokens.proofs.Readings.{one_reading}
use Rattle.dc_grammar.specs.Kinds.{is}
use Rattle.dc_grammar.specs.Grammar.{ref, many, Tree, Derives, token, name, both}
use Rattle.dc_grammar.specs.Language.{language, source, stmt}
use Rattle.dc_grammar.specs.Depth.{IsDeep, open_brackets, operators_so_far, brackets_with, operators_with}
use Rattle.dc_grammar.specs.Verdicts.{Shallow}
use Rattle.dc_grammar.proofs.Alone.{one_tree}
use Rattle.dc_grammar.proofs.LanguageReader.{language_ahead}
use Rattle.dc_grammar.proofs.AllKinds.{same_kind}
use Rattle.dc_syntax.specs.declared.tree.Proc.{Proc}
use Rattle.dc_syntax.specs.Names.{has_name, place_of}
use Rattle.dc_syntax.specs.Text.{text_of}
use Rattle.dc_affine.specs.declared.form.FormFault.{FormFault}
use Rattle.dc_descent.specs.Faults.{fault, declared_fault, missing, used_fault}
use Rattle.dc_descent.specs.Scopes.{spelled, place_in}
use Rattle.dc_descent.specs.Statements.{stmts_of, starts_of}
use Rattle.dc_descent.specs.Trees.{leaves}
use Rattle.dc_descent.specs.Sources.{parts_of, declared, names_of}
use Rattle.dc_descent.specs.Sources as sources
use Rattle.dc_parse.specs.Faults.{raised, names_fault}
use Rattle.dc_descent.proofs.Lists.{derived_leaves}
use Rattle.dc_descent.proofs.Positions.{found}
use Rattle.dc_program.specs.Programs.{IsProgram}
use Rattle.dc_program.specs.Limits.{all_limited}
use Rattle.dc_descent.specs.declared.fault.Kind.TheVariants.{TooManyNames, NameTwice}
use Rattle.dc_parse.specs.Outcomes.{says, first_of, tree}
use Rattle.dc_parse.specs.Forms.{all_faults, first_form}
use Rattle.dc_parse.specs.Judges.{proc_of, forms_fault, judge_source}
use Rattle.dc_parse.specs.Answers.{SourceOutcome}
use Rattle.dc_parse.proofs.Assembled.{raised_none}
use Rattle.dc_parse.proofs.Facts.{Known}
use Rattle.dc_parse.proofs.Naming.{none_both}
use Rattle.dc_parse.proofs.Said.{in_source, source_is_program}
use Rattle.dc_printed.specs.Brackets.{brackets_of, brackets_in}
use Rattle.dc_printed.specs.Fits.{IsName, IsWritable, stmts_fit}
use Rattle.dc_printed.specs.Laws.{HasTree}
use Rattle.dc_printed.proofs.Different.{AreDifferent, bytes_same, distinct_different}
use Rattle.dc_printed.proofs.Measures.{top, depth}
use Rattle.dc_printed.proofs.Depths.{front_below, top_reached}
use Rattle.dc_printed.proofs.Calm.{front_most, calm_source}
use Rattle.dc_printed.proofs.Exprs as exprs
use Rattle.dc_printed.proofs.Fewest.{need_proc, text_sized, no_fewer}
use Rattle.dc_printed.proofs.Knowing.{know_stmts}
use Rattle.dc_printed.proofs.Programs.{writable}
use Rattle.dc_printed.proofs.Sources.{AllNames, IsPrinted, printed, printed_by, different_before}
use Rattle.dc_printed.proofs.Spelled.{tokens_spelled, source_names, are_names}

-- ---- what the first text told

record Told (text : List ℕ) (p : Proc) : Type 0 where
  has : HasTree text p
  shallow : Shallow IsDeep has.tokens (length has.tokens)
  declares : declared_fault text [] (declared (parts_of has.tree)) ≡ None
  forms : first_form (starts_of (parts_of has.tree).body) (all_faults (length p.names) p.body) ≡ None

told : (text : List ℕ) (p : Proc) → SourceOutcome text (says p) → Told text p
told text p o =
    let i = in_source text p o in
    let s = i.is in
    record {
      has = record {
        tokens = i.tokens;
        tree = i.tree;
        read = i.read;
        derived = i.found.0;
        says = record { name = ap (λ x. x.name) s; params = ap (λ x. x.params) s; names = ap (λ x. x.names) s; body = ap (λ x. x.body) s };
      };
      shallow = i.found.1;
      declares = (none_both _ _ (raised_none (sources.names_fault text (parts_of i.tree)) i.names)).0;
      forms = subst (λ x. first_form (starts_of (parts_of i.tree).body) (all_faults (length x.names) x.body) ≡ None) s i.forms;
    }

-- ---- declared names, by their spelling

declared_same : (t u : List ℕ) (before : List (List ℕ)) (xs ys : List Token) → map (spelled t) xs ≡ map (spelled u) ys → declared_fault t before xs ≡ None → declared_fault u before ys ≡ None
declared_same t u before xs [] e h = refl
declared_same t u before [] (y ∷ ys) e h = absurd cc
declared_same t u before (x ∷ xs) (y ∷ ys) e h = go (leb 10 (length before)) (has_name before (spelled t x)) refl h (head_same e) (declared_same t u (before ++ spelled u y ∷ []) xs ys (tail_same e))
  where
    head_same : spelled t x ∷ map (spelled t) xs ≡ spelled u y ∷ map (spelled u) ys → spelled t x ≡ spelled u y
    head_same e = ap (λ l. get_or l 0 []) e

    tail_same : spelled t x ∷ map (spelled t) xs ≡ spelled u y ∷ map (spelled u) ys → map (spelled t) xs ≡ map (spelled u) ys
    tail_same e = ap (drop 1) e

    go : (a b : Bool) → has_name before (spelled t x) ≡ b
        → (if a then Some (fault TooManyNames x.at) else (if b then Some (fault NameTwice x.at) else declared_fault t (before ++ spelled t x ∷ []) xs)) ≡ None
        → spelled t x ≡ spelled u y
        → (declared_fault t (before ++ spelled u y ∷ []) xs ≡ None → declared_fault u (before ++ spelled u y ∷ []) ys ≡ None)
        → (if a then Some (fault TooManyNames y.at) else (if has_name before (spelled u y) then Some (fault NameTwice y.at) else declared_fault u (before ++ spelled u y ∷ []) ys)) ≡ None
    go true b f h s r = absurd cc
    go false true f h s r = absurd cc
    go false false f h s r =
        rw (sym (ap (has_name before) s) ∙ f) (r (subst (λ w. declared_fault t (before ++ w ∷ []) xs ≡ None) s h))

-- ---- used names

-- where a name has no place, it is put past the others
abbrev pub past : List ℕ → List (List ℕ) → Token → ℕ
past text ns t = unwrap_or (place_of ns (spelled text t)) (length ns)

pub finds_past : (text : List ℕ) (ns : List (List ℕ)) → AreDifferent ns → exprs.Finds (past text ns) text ns
finds_past text ns d i l t e =
    let f : Some i ≡ place_of ns (get_or ns i []) = found ns (get_or ns i []) i l (different_before ns i d l) (bytes_same (get_or ns i [])) in
    ap (λ n. unwrap_or (place_of ns n) (length ns)) e ∙ ap (λ o. unwrap_or o (length ns)) (sym f)

pub known_used : (text : List ℕ) (ns : List (List ℕ)) (ts : List Token) → AllByRecursion (Known (length ns) (past text ns)) ts → used_fault text ns ts ≡ None
known_used text ns [] h = refl
known_used text ns (t ∷ ts) h = rw (one (is k.Name t.kind) refl) (known_used text ns ts h.1)
  where
    placed : (o : Option ℕ) → unwrap_or o (length ns) < length ns → missing o t.at ≡ None
    placed None l = absurd (omega arith)
    placed (Some i) l = refl

    one : (b : Bool) → is k.Name t.kind ≡ b → (if b then missing (place_of ns (spelled text t)) t.at else None) ≡ None
    one false e = refl
    one true e = placed (place_of ns (spelled text t)) (h.0 (sym (same_kind k.Name t.kind e)))

-- the statements of a source, and their tokens
pub record Inner (a : Tree Token) : Type 0 where
  pub tokens : List Token
  pub derived : Derives language (many (ref stmt)) tokens (parts_of a).body

pub inner : {ts : List Token} {a : Tree Token} → Derives language (ref source) ts a → Inner a
inner (name (both (token h1) (both (token h2) (both (token h3) (both dp (both (token h4) (both (token h5) (both dl (both ds (token h6)))))))))) = record { tokens = _; derived = ds }

-- ---- forms: their faults do not hang on places

forms_anywhere : (ps qs : List ℕ) (fs : List (Option FormFault)) → first_form ps fs ≡ None → first_form qs fs ≡ None
forms_anywhere ps qs [] h = refl
forms_anywhere ps qs (None ∷ fs) h = forms_anywhere _ _ fs h
forms_anywhere ps qs (Some f ∷ fs) h = absurd cc

-- ---- depth

pub unfold_open : (ts : List Token) → open_brackets ts ≡ fold brackets_with 0 ts
unfolding open_brackets
unfold_open ts = refl

unfold_operators : (ts : List Token) → operators_so_far ts ≡ fold operators_with 0 ts
unfolding operators_so_far
unfold_operators ts = refl

-- the printed tokens nest no deeper than any others with the tree, and have as many operators in a row
shallow_again : (text : List ℕ) (p : Proc) → IsWritable p → (has : HasTree text p) → Shallow IsDeep has.tokens (length has.tokens) → (mine : IsPrinted p) → IsProgram p → Shallow IsDeep mine.has.tokens (length mine.has.tokens)
shallow_again text p w has sh mine g =
    let own = mine.has in
    let said = own.says in
    let low = no_fewer depth p text has in
    let size = text_sized depth p w in
    let deep : top 0 (brackets_in has.tokens) ≤ 64 = top_reached 0 64 has.tokens (λ j l. not_deep has.tokens j (sh j l)) in
    let high : top 0 (brackets_of (text_of p)) ≡ 0 + need_proc depth p.body = (let f = size.high in f 0) in
    let there : top 0 (brackets_in has.tokens) ≡ 0 + low.size = (let s = low.sized in let f = s.high in f 0) in
    let enough = low.enough in
    let here : top 0 (brackets_in own.tokens) ≡ top 0 (brackets_of (text_of p)) = ap (top 0) mine.same in
    let calm = calm_source (place_in (text_of p) (names_of (text_of p) (parts_of own.tree))) own.derived (ap all_limited said.body ∙ g.limited) in
    λ j l d. both_low own.tokens j (let f = front_below 0 own.tokens j in omega arith) (let f = front_most 0 own.tokens j in let c = calm.low in omega arith) d
  where
    not_deep : (ts : List Token) (j : ℕ) → (IsDeep (take j ts) → ⊥) → fold brackets_with 0 (take j ts) ≤ 64
    not_deep ts j h = go (leb (fold brackets_with 0 (take j ts)) 64) refl
      where
        go : (b : Bool) → leb (fold brackets_with 0 (take j ts)) 64 ≡ b → fold brackets_with 0 (take j ts) ≤ 64
        go true e = leb-true _ 64 e
        go false e = absurd (h (inl (let q = unfold_open (take j ts) in let r = leb-false (fold brackets_with 0 (take j ts)) 64 e in omega arith)))

    both_low : (ts : List Token) (j : ℕ) → fold brackets_with 0 (take j ts) ≤ 64 → fold operators_with 0 (take j ts) ≤ 64 → IsDeep (take j ts) → ⊥
    both_low ts j a b (inl d) = (let q = unfold_open (take j ts) in omega arith)
    both_low ts j a b (inr d) = (let q = unfold_operators (take j ts) in omega arith)

-- ---- the printed text

pub has_text : (text : List ℕ) (p : Proc) → SourceOutcome text (says p) → IsWritable p
has_text text p o =
    let g = source_is_program text p o in
    let t = told text p o in
    let has = t.has in
    let said = has.says in
    let ns = source_names text has.derived (tokens_spelled text has.read refl) in
    writable p g (subst IsName said.name ns.own) (are_names p.names (subst AllNames said.names ns.declared))

pub reads_back : (text : List ℕ) (p : Proc) → SourceOutcome text (says p) → length (text_of p) ≤ 65536 → SourceOutcome (text_of p) (says p)
reads_back text p o l =
    let g = source_is_program text p o in
    let t = told text p o in
    let has = t.has in
    let said = has.says in
    let w : IsWritable p = has_text text p o in
    let mine = printed p w in
    let own = mine.has in
    let own_said = own.says in
    let other = printed_by p (past (text_of p) p.names) w (finds_past (text_of p) p.names (distinct_different p.names w.different)) in
    let tokens_same : other.tokens ≡ own.tokens = (let r = one_reading (text_of p) in let f = r.one_list in f other.tokens own.tokens other.read own.read) in
    let tree_same : other.tree ≡ own.tree = one_tree language_ahead source own.tokens other.tree own.tree (subst (λ ts. Derives language (ref source) ts other.tree) tokens_same other.derived) own.derived in
    let body_past : stmts_of (past (text_of p) p.names) (parts_of own.tree).body ≡ p.body = ap (λ a. stmts_of (past (text_of p) p.names) (parts_of a).body) (sym tree_same) ∙ other.body in
    let ins = inner own.derived in
    let known = know_stmts (length p.names) (past (text_of p) p.names) ins.derived (ap (stmts_fit (length p.names)) body_past ∙ w.body) in
    let used : used_fault (text_of p) p.names (leaves (parts_of own.tree).body) ≡ None = ap (used_fault (text_of p) p.names) (derived_leaves ins.derived) ∙ known_used (text_of p) p.names ins.tokens known in
    let used_here : used_fault (text_of p) (names_of (text_of p) (parts_of own.tree)) (leaves (parts_of own.tree).body) ≡ None = ap (λ m. used_fault (text_of p) m (leaves (parts_of own.tree).body)) own_said.names ∙ used in
    let declares : declared_fault (text_of p) [] (declared (parts_of own.tree)) ≡ None = declared_same text (text_of p) [] (declared (parts_of has.tree)) (declared (parts_of own.tree)) (said.names ∙ sym own_said.names) t.declares in
    let known_name : sources.names_fault (text_of p) (parts_of own.tree) ≡ None = ap (λ x. option_or x (used_fault (text_of p) (names_of (text_of p) (parts_of own.tree)) (leaves (parts_of own.tree).body))) declares ∙ used_here in
    let whole_name : names_fault (text_of p) (parts_of own.tree) ≡ None = ap (option_map raised) known_name in
    let proc_same : proc_of (text_of p) (parts_of own.tree) ≡ p = (λ j. record { name = own_said.name j; names = own_said.names j; params = own_said.params j; body = own_said.body j }) in
    let forms_here : forms_fault (text_of p) (parts_of own.tree) ≡ None =
    ap (λ x. first_form (starts_of (parts_of own.tree).body) (all_faults (length x.names) x.body)) proc_same ∙ forms_anywhere _ _ (all_faults (length p.names) p.body) t.forms in
    let judged : judge_source (text_of p) own.tree ≡ says p =
    ap (λ x. first_of x (first_of (forms_fault (text_of p) (parts_of own.tree)) (says (proc_of (text_of p) (parts_of own.tree))))) whole_name
    ∙ (ap (λ x. first_of x (says (proc_of (text_of p) (parts_of own.tree)))) forms_here ∙ ap says proc_same) in
    tree l own.tokens own.read own.tree (own.derived, shallow_again text p w t.has t.shallow mine g) (sym judged)
