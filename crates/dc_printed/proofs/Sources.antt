-- The text of a procedure reads as the procedure.
use Rattle.std.proofs.Common.{◌≡◌, ℕ, zero, suc, ◌+◌, ◌<◌, Bool, true, false, List, [], ◌∷◌, ◌++◌, map, length, take, drop, get_or, Some, refl, sym, ap, subst, ◌∙◌, arith, append_assoc, append-nil}
use Rattle.std.proofs.lemmas.List.{take-append-drop, length-take, map-append, length-map}
use Rattle.std.specs.Option.{unwrap_or}
use Rattle.std.specs.Str.{bytes_eq}
use Rattle.dc_tokens.specs.declared.token.TokenKind.TheVariants as k
use Rattle.dc_tokens.specs.declared.token.Token.{Token}
use Rattle.dc_tokens.specs.Texts.{Tokens}
use Rattle.dc_tokens.proofs.Steps.{end_at}
use Rattle.dc_grammar.specs.Grammar.{ref, seq, many, tok, opt, Tree, pair, Derives, no_more, one_more}
use Rattle.dc_grammar.specs.Language.{language, source, names}
use Rattle.dc_syntax.specs.declared.tree.Proc.{Proc}
use Rattle.dc_syntax.specs.Names.{place_of}
use Rattle.dc_syntax.specs.Text.{listed, locals_text, stmts_text, text_of}
use Rattle.dc_descent.specs.Scopes.{spelled, place_in}
use Rattle.dc_descent.specs.Statements.{stmts_of}
use Rattle.dc_descent.specs.Sources.{more_names, names_in, params_in, locals_in, parts_of, names_of}
use Rattle.dc_descent.proofs.Positions.{NoneBefore, found}
use Rattle.dc_printed.specs.Laws.{HasTree}
use Rattle.dc_printed.specs.Brackets.{brackets_of, brackets_in}
use Rattle.dc_printed.specs.Fits.{IsName, AreNames, IsWritable}
use Rattle.dc_printed.proofs.Different.{AreDifferent, bytes_same, distinct_different}
use Rattle.dc_printed.proofs.Words as words
use Rattle.dc_printed.proofs.Words.{Reads, nothing_read, Breaks, token_of}
use Rattle.dc_printed.proofs.Signs as sign
use Rattle.dc_printed.proofs.Says.{Says, says_word}
use Rattle.dc_printed.proofs.Exprs.{Finds, later, here}
use Rattle.dc_printed.proofs.Stmts.{◌▷◌, sign_at, spaced_at, lined_at, ended, reworded, named, chosen, passed, nothing_says, name_says, at_offset, printed_stmts}
use Rattle.dc_parse.proofs.Equal.{equal}

-- ---- lists of names

-- the tokens of names at offsets of the whole, which spell them
pub record SaysNames (whole : List ℕ) (at : ℕ) (t rest : List ℕ) (ns : List (List ℕ)) : Type 0 where
  pub tokens : List Token
  pub tree : Tree Token
  pub says : Says at t rest (ref names) tokens tree
  pub spell : map (spelled whole) (names_in tree) ≡ ns

record SaysMore (whole : List ℕ) (at : ℕ) (t rest : List ℕ) (ns : List (List ℕ)) : Type 0 where
  tokens : List Token
  tree : Tree Token
  says : Says at t rest (many (seq (tok k.Comma) (tok k.Name))) tokens tree
  spell : map (spelled whole) (more_names tree) ≡ ns

-- `, ` and a name, again and again
abbrev commas : List (List ℕ) → List ℕ
commas [] = []
commas (n ∷ ns) = 44 ∷ 32 ∷ (n ++ commas ns)

listed-commas : (n : List ℕ) (ns : List (List ℕ)) → listed (n ∷ ns) ≡ n ++ commas ns
listed-commas n [] = sym (append-nil n)
listed-commas n (m ∷ ns) = ap (λ v. n ++ (44 ∷ 32 ∷ v)) (listed-commas m ns)

breaks_more : (ns : List (List ℕ)) (rest : List ℕ) → Breaks rest → Breaks (commas ns ++ rest)
breaks_more [] rest b = b
breaks_more (n ∷ ns) rest b = refl

abbrev pub AllNames : List (List ℕ) → Type 0
AllNames [] = Unit {0}
AllNames (n ∷ ns) = IsName n × AllNames ns

more_says : (whole : List ℕ) (at : ℕ) (ns : List (List ℕ)) (rest : List ℕ) → AllNames ns → drop at whole ≡ commas ns ++ rest → Breaks rest → SaysMore whole at (commas ns) rest ns
more_says whole at [] rest h q b = record { tokens = _; tree = _; says = record { reads = nothing_read at rest; derives = no_more }; spell = refl }
more_says whole at (n ∷ ns) rest h q b =
    let e = later whole (44 ∷ 32 ∷ []) (n ++ (commas ns ++ rest)) at (q ∙ ap (λ v. 44 ∷ 32 ∷ v) (append_assoc n (commas ns) rest)) in
    let m = more_says whole (at + 2 + length n) ns rest h.1 (later whole n (commas ns ++ rest) (at + 2) e) b in
    let d = sign_at {at = at} {b = 44} (sign.comma _) refl ▷ spaced_at (name_says (at + 1 + 1) n (commas ns ++ rest) h.0 (breaks_more ns rest b)) in
    let s : spelled whole (token_of (at + 1 + 1) k.Name n) ≡ n = here whole n (commas ns ++ rest) (at + 1 + 1) (at_offset whole (omega arith) e) in
    record {
      tokens = _;
      tree = pair _ m.tree;
      says = record {
        reads = words.joined at (44 ∷ 32 ∷ n) (commas ns) rest _ m.tokens d.reads (subst (λ i. Reads i (commas ns) rest m.tokens) (omega arith) m.says.reads);
        derives = one_more d.derives m.says.derives;
      };
      spell = λ j. s j ∷ m.spell j;
    }

pub names_say : (whole : List ℕ) (at : ℕ) (n : List ℕ) (ns : List (List ℕ)) (rest : List ℕ) → IsName n → AllNames ns → drop at whole ≡ listed (n ∷ ns) ++ rest → Breaks rest → SaysNames whole at (listed (n ∷ ns)) rest (n ∷ ns)
names_say whole at n ns rest h g q b =
    let e = q ∙ (ap (λ v. v ++ rest) (listed-commas n ns) ∙ append_assoc n (commas ns) rest) in
    let m = more_says whole (at + length n) ns rest g (later whole n (commas ns ++ rest) at e) b in
    let d = reworded (sym (listed-commas n ns)) (name_says at n (commas ns ++ rest) h (breaks_more ns rest b) ▷ m.says) in
    record { tokens = _; tree = _; says = named d; spell = λ j. here whole n (commas ns ++ rest) at e j ∷ m.spell j }

-- ---- the whole text

pub all_names : (ns : List (List ℕ)) → AreNames ns → AllNames ns
all_names [] h = tt
all_names (n ∷ ns) h = (h 0 (omega arith), all_names ns (λ i l. h (suc i) (omega arith)))

pub names-take : (i : ℕ) (ns : List (List ℕ)) → AllNames ns → AllNames (take i ns)
names-take zero ns h = tt
names-take (suc i) [] h = tt
names-take (suc i) (n ∷ ns) h = (h.0, names-take i ns h.1)

pub names-drop : (i : ℕ) (ns : List (List ℕ)) → AllNames ns → AllNames (drop i ns)
names-drop zero ns h = h
names-drop (suc i) [] h = tt
names-drop (suc i) (n ∷ ns) h = names-drop i ns h.1

record SaysParams (whole : List ℕ) (at : ℕ) (rest : List ℕ) (ns : List (List ℕ)) : Type 0 where
  tokens : List Token
  tree : Tree Token
  says : Says at (listed ns) rest (opt (ref names)) tokens tree
  spell : map (spelled whole) (params_in tree) ≡ ns

params_say : (whole : List ℕ) (at : ℕ) (ns : List (List ℕ)) (rest : List ℕ) → AllNames ns → drop at whole ≡ listed ns ++ rest → Breaks rest → SaysParams whole at rest ns
params_say whole at [] rest h q b = record { tokens = _; tree = _; says = passed (nothing_says at rest); spell = refl }
params_say whole at (n ∷ ns) rest h q b =
    let d = names_say whole at n ns rest h.0 h.1 q b in
    record { tokens = _; tree = _; says = chosen d.says; spell = d.spell }

record SaysLocals (whole : List ℕ) (at : ℕ) (rest : List ℕ) (ns : List (List ℕ)) : Type 0 where
  tokens : List Token
  tree : Tree Token
  says : Says at (locals_text ns) rest (opt (seq (tok k.Var) (seq (ref names) (tok k.Semi)))) tokens tree
  spell : map (spelled whole) (locals_in tree) ≡ ns

locals_say : (whole : List ℕ) (at : ℕ) (ns : List (List ℕ)) (rest : List ℕ) → AllNames ns → drop at whole ≡ locals_text ns ++ rest → SaysLocals whole at rest ns
locals_say whole at [] rest h q = record { tokens = _; tree = _; says = passed (nothing_says at rest); spell = refl }
locals_say whole at (n ∷ ns) rest h q =
    let e = later whole (118 ∷ 97 ∷ 114 ∷ 32 ∷ []) _ at q ∙ append_assoc (listed (n ∷ ns)) (59 ∷ 10 ∷ []) rest in
    let d = names_say whole (at + 3 + 1) n ns (59 ∷ 10 ∷ rest) h.0 h.1 (at_offset whole (omega arith) e) refl in
    let v = says_word at (118 ∷ 97 ∷ 114 ∷ []) ((32 ∷ (listed (n ∷ ns) ++ 59 ∷ [])) ++ 10 ∷ rest) k.Var refl sign.word-var (λ w. refl) refl refl in
    let all = reworded (ap (λ t. 118 ∷ 97 ∷ 114 ∷ 32 ∷ t) (append_assoc (listed (n ∷ ns)) (59 ∷ []) (10 ∷ []))) (ended (v ▷ spaced_at (d.says ▷ sign_at (sign.semi _) refl))) in
    record { tokens = _; tree = _; says = chosen all; spell = d.spell }

grouped_source : (n ps ls b : List ℕ) → (112 ∷ 114 ∷ 111 ∷ 99 ∷ 32 ∷ (n ++ (40 ∷ (ps ++ (41 ∷ 32 ∷ 123 ∷ 10 ∷ (ls ++ (b ++ 125 ∷ []))))))) ++ 10 ∷ []
    ≡ 112 ∷ 114 ∷ 111 ∷ 99 ∷ 32 ∷ (n ++ (40 ∷ (ps ++ (41 ∷ 32 ∷ 123 ∷ 10 ∷ (ls ++ (b ++ (125 ∷ 10 ∷ [])))))))
grouped_source n ps ls b = simp append_assoc refl

after_params : (ps ls b : List ℕ) → ps ++ (41 ∷ 32 ∷ 123 ∷ 10 ∷ (ls ++ (b ++ (125 ∷ 10 ∷ [])))) ≡ ps ++ ((41 ∷ 32 ∷ 123 ∷ 10 ∷ (ls ++ (b ++ 125 ∷ []))) ++ 10 ∷ [])
after_params ps ls b = simp append_assoc refl

after_locals : (ls b : List ℕ) → (41 ∷ 32 ∷ 123 ∷ 10 ∷ (ls ++ (b ++ 125 ∷ []))) ++ 10 ∷ [] ≡ (41 ∷ 32 ∷ 123 ∷ 10 ∷ []) ++ (ls ++ ((b ++ 125 ∷ []) ++ 10 ∷ []))
after_locals ls b = simp append_assoc refl

-- ---- the places of names

pub different_before : (ns : List (List ℕ)) (i : ℕ) → AreDifferent ns → i < length ns → NoneBefore ns (get_or ns i []) i
different_before ns i d l j h = not_equal (get_or ns i []) (get_or ns j []) (λ e. d j i h l (sym e))
  where
    not_equal : (a b : List ℕ) → (a ≡ b → ⊥) → bytes_eq a b ≡ false
    not_equal a b f = go (bytes_eq a b) refl
      where
        go : (z : Bool) → bytes_eq a b ≡ z → bytes_eq a b ≡ false
        go true e = absurd (f (equal a b e))
        go false e = e

finds_names : (whole : List ℕ) (ns : List (List ℕ)) → AreDifferent ns → Finds (place_in whole ns) whole ns
finds_names whole ns d i l t e =
    let f : Some i ≡ place_of ns (get_or ns i []) = found ns (get_or ns i []) i l (different_before ns i d l) (bytes_same (get_or ns i [])) in
    ap (λ n. unwrap_or (place_of ns n) 0) e ∙ ap (λ o. unwrap_or o 0) (sym f)

-- the tree of a printed text, whose tokens have the text's brackets
pub record IsPrinted (p : Proc) : Type 0 where
  pub has : HasTree (text_of p) p
  pub same : brackets_in has.tokens ≡ brackets_of (text_of p)

-- the same, where the places of names are told by any function that finds them
pub record IsPrintedBy (p : Proc) (q : Token → ℕ) : Type 0 where
  pub tokens : List Token
  pub tree : Tree Token
  pub read : Tokens 0 (text_of p) tokens
  pub derived : Derives language (ref source) tokens tree
  pub same : brackets_in tokens ≡ brackets_of (text_of p)
  pub name : spelled (text_of p) (parts_of tree).name ≡ p.name
  pub params : length (parts_of tree).params ≡ p.params
  pub names : names_of (text_of p) (parts_of tree) ≡ p.names
  pub body : stmts_of q (parts_of tree).body ≡ p.body

pub printed_by : (p : Proc) (q : Token → ℕ) → IsWritable p → Finds q (text_of p) p.names → IsPrintedBy p q
printed_by p place h finds =
    let whole : List ℕ = text_of p in
    let ps : List (List ℕ) = take p.params p.names in
    let ls : List (List ℕ) = drop p.params p.names in
    let b : List ℕ = stmts_text p.names p.body in
    let all = all_names p.names h.names in
    let q = later whole (112 ∷ 114 ∷ 111 ∷ 99 ∷ 32 ∷ []) (p.name ++ (40 ∷ (listed ps ++ (41 ∷ 32 ∷ 123 ∷ 10 ∷ (locals_text ls ++ (b ++ (125 ∷ 10 ∷ []))))))) 0 refl in
    let n5 : ℕ = 5 + length p.name in
    let r = later whole p.name _ 5 q in
    let u = later whole (40 ∷ []) _ n5 r ∙ after_params (listed ps) (locals_text ls) b in
    let v = later whole (listed ps) _ (n5 + 1) u ∙ after_locals (locals_text ls) b in
    let w = later whole (41 ∷ 32 ∷ 123 ∷ 10 ∷ []) _ (n5 + 1 + length (listed ps)) v in
    let x = later whole (locals_text ls) _ (n5 + 1 + length (listed ps) + 4) w ∙ append_assoc b (125 ∷ []) (10 ∷ []) in
    let m = params_say whole (0 + 4 + 1 + length p.name + 1) ps ((41 ∷ 32 ∷ 123 ∷ 10 ∷ (locals_text ls ++ (b ++ 125 ∷ []))) ++ 10 ∷ []) (names-take p.params p.names all) (at_offset whole {m = n5 + 1} (omega arith) u) refl in
    let n = locals_say whole (0 + 4 + 1 + length p.name + 1 + length (listed ps) + 1 + 1 + 1 + 1) ls ((b ++ 125 ∷ []) ++ 10 ∷ []) (names-drop p.params p.names all) (at_offset whole {m = n5 + 1 + length (listed ps) + 4} (omega arith) w) in
    let y = printed_stmts place whole p.names finds h.names p.body h.body (0 + 4 + 1 + length p.name + 1 + length (listed ps) + 1 + 1 + 1 + 1 + length (locals_text ls)) (125 ∷ 10 ∷ []) (at_offset whole {m = n5 + 1 + length (listed ps) + 4 + length (locals_text ls)} (omega arith) x) in
    let proc = says_word 0 (112 ∷ 114 ∷ 111 ∷ 99 ∷ []) ((32 ∷ (p.name ++ (40 ∷ (listed ps ++ (41 ∷ 32 ∷ 123 ∷ 10 ∷ (locals_text ls ++ (b ++ 125 ∷ []))))))) ++ 10 ∷ []) k.Proc refl sign.word-proc (λ w. refl) refl refl in
    let d = ended (proc ▷ spaced_at (name_says (0 + 4 + 1) p.name _ h.name refl ▷ sign_at (sign.open_paren _) refl ▷ m.says ▷ sign_at (sign.close_paren _) refl ▷ spaced_at (sign_at (sign.open_brace _) refl ▷ lined_at (n.says ▷ y.says ▷ sign_at (sign.close_brace _) refl)))) in
    let few : length ps ≡ p.params = (let l = length-take p.params p.names in let i = h.params in omega arith) in
    let e = named (reworded (grouped_source p.name (listed ps) (locals_text ls) b) d) in
    let z : map (spelled whole) (params_in m.tree ++ locals_in n.tree) ≡ p.names = map-append (spelled whole) (params_in m.tree) (locals_in n.tree) ∙ ((λ j. m.spell j ++ n.spell j) ∙ take-append-drop p.params p.names) in
    record {
      tokens = _;
      tree = _;
      read = whole_read whole _ e.reads;
      derived = e.derives;
      same = (let r = e.reads in r.same);
      name = here whole p.name _ (0 + 4 + 1) q;
      params = sym (length-map (params_in m.tree) (spelled whole)) ∙ (ap length m.spell ∙ few);
      names = z;
      body = y.is;
    }
  where
    whole_read : (t : List ℕ) (ts : List Token) → Reads 0 t [] ts → Tokens 0 t ts
    whole_read t ts h = subst (λ u. Tokens 0 u ts) (append-nil t) (subst (λ us. Tokens 0 (t ++ []) us) (append-nil ts) (h.read [] (end_at _ [] (omega arith))))

pub printed : (p : Proc) → IsWritable p → IsPrinted p
printed p h =
    let d = printed_by p (place_in (text_of p) p.names) h (finds_names (text_of p) p.names (distinct_different p.names h.different)) in
    record {
      has = record {
        tokens = d.tokens;
        tree = d.tree;
        read = d.read;
        derived = d.derived;
        says = record { name = d.name; params = d.params; names = d.names; body = ap (λ ns. stmts_of (place_in (text_of p) ns) (parts_of d.tree).body) d.names ∙ d.body };
      };
      same = d.same;
    }
