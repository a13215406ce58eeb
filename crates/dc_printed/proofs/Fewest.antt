-- No text with fewer brackets has the tree of a procedure.
use Rattle.std.proofs.Common.{◌≡◌, ℕ, ◌≤◌, List, [], ◌∷◌, ◌++◌, take, drop, refl, ap, subst, ◌∙◌, arith, append_assoc}
use Rattle.dc_tokens.specs.declared.token.TokenKind.TheVariants as k
use Rattle.dc_tokens.specs.declared.token.Token.{Token}
use Rattle.dc_tokens.proofs.Readings.{one_reading}
use Rattle.dc_grammar.specs.Grammar.{ref, seq, many, tok, opt, Tree, Derives, token, nothing, name, both, first, second, no_more, one_more}
use Rattle.dc_grammar.specs.Language.{language, source, names}
use Rattle.dc_grammar.proofs.AllKinds.{one_kind}
use Rattle.dc_syntax.specs.declared.tree.Stmt.{Stmt}
use Rattle.dc_syntax.specs.declared.tree.Proc.{Proc}
use Rattle.dc_syntax.specs.Text.{listed, locals_text, stmts_text, text_of}
use Rattle.dc_descent.specs.Statements.{stmts_of}
use Rattle.dc_descent.specs.Sources.{parts_of, names_of}
use Rattle.dc_descent.specs.Scopes.{place_in}
use Rattle.dc_printed.specs.Brackets.{bracket_of, brackets_of, brackets_in, opened}
use Rattle.dc_printed.specs.Fits.{IsWritable}
use Rattle.dc_printed.specs.Laws.{HasTree}
use Rattle.dc_printed.proofs.Words.{brackets_of-append, word_plain}
use Rattle.dc_printed.proofs.Measures.{Measure, number}
use Rattle.dc_printed.proofs.Needs.{TextSized, text_join, text_plain, plain_before, plain_after, text_round, text_brace}
use Rattle.dc_printed.proofs.Low.{AtLeast, at_none, at_join, at_after, at_before, at_round, at_brace}
use Rattle.dc_printed.proofs.StmtNeeds.{need_all, stmts_sized}
use Rattle.dc_printed.proofs.StmtLow.{low_stmts}
use Rattle.dc_printed.proofs.Sources.{AllNames, all_names, names-take, names-drop, printed}

-- ---- the text

plain-append : (t u : List ℕ) → brackets_of t ≡ [] → brackets_of u ≡ [] → brackets_of (t ++ u) ≡ []
plain-append t u h g = brackets_of-append t u ∙ (λ j. h j ++ g j)

listed_plain : (ns : List (List ℕ)) → AllNames ns → brackets_of (listed ns) ≡ []
listed_plain [] h = refl
listed_plain (n ∷ []) h = let i = h.0 in word_plain n i.word
listed_plain (n ∷ m ∷ ns) h = plain-append n (44 ∷ 32 ∷ listed (m ∷ ns)) (let i = h.0 in word_plain n i.word) (listed_plain (m ∷ ns) h.1)

locals_plain : (ns : List (List ℕ)) → AllNames ns → brackets_of (locals_text ns) ≡ []
locals_plain [] h = refl
locals_plain (n ∷ ns) h = plain-append (listed (n ∷ ns)) (59 ∷ 10 ∷ []) (listed_plain (n ∷ ns) h) refl

source_grouped : (n ps ls b : List ℕ) → 112 ∷ 114 ∷ 111 ∷ 99 ∷ 32 ∷ (n ++ ((40 ∷ (ps ++ 41 ∷ [])) ++ (32 ∷ ((123 ∷ ((10 ∷ (ls ++ b)) ++ 125 ∷ [])) ++ 10 ∷ []))))
    ≡ 112 ∷ 114 ∷ 111 ∷ 99 ∷ 32 ∷ (n ++ (40 ∷ (ps ++ (41 ∷ 32 ∷ 123 ∷ 10 ∷ (ls ++ (b ++ (125 ∷ 10 ∷ [])))))))
source_grouped n ps ls b =
    ap (λ v. 112 ∷ 114 ∷ 111 ∷ 99 ∷ 32 ∷ (n ++ (40 ∷ v)))
    (append_assoc ps (41 ∷ []) _ ∙ ap (λ v. ps ++ (41 ∷ 32 ∷ 123 ∷ 10 ∷ v)) (append_assoc (ls ++ b) (125 ∷ []) (10 ∷ []) ∙ append_assoc ls b (125 ∷ 10 ∷ [])))

-- what a procedure needs
abbrev pub need_proc : Measure → List Stmt → ℕ
need_proc M body = M.c 1 (M.b (need_all M body))

pub text_sized : (M : Measure) (p : Proc) → IsWritable p → TextSized M (text_of p) (need_proc M p.body)
text_sized M p h =
    let ps : List ℕ = listed (take p.params p.names) in
    let ls : List ℕ = locals_text (drop p.params p.names) in
    let b : List ℕ = stmts_text p.names p.body in
    let all = all_names p.names h.names in
    let n = h.name in
    let inner = plain_before M (10 ∷ ls) b (need_all M p.body) (locals_plain (drop p.params p.names) (names-drop p.params p.names all)) (stmts_sized M p.names h.names p.body h.body) in
    subst (λ t. TextSized M t (need_proc M p.body)) (source_grouped p.name ps ls b)
    (plain_before M (112 ∷ 114 ∷ 111 ∷ 99 ∷ 32 ∷ p.name) ((40 ∷ (ps ++ 41 ∷ [])) ++ (32 ∷ ((123 ∷ ((10 ∷ (ls ++ b)) ++ 125 ∷ [])) ++ 10 ∷ []))) (need_proc M p.body) (word_plain p.name n.word)
    (text_join M (40 ∷ (ps ++ 41 ∷ [])) (32 ∷ ((123 ∷ ((10 ∷ (ls ++ b)) ++ 125 ∷ [])) ++ 10 ∷ [])) 1 (M.b (need_all M p.body))
    (text_round M ps 0 (text_plain M ps (listed_plain (take p.params p.names) (names-take p.params p.names all))))
    (plain_after M (123 ∷ ((10 ∷ (ls ++ b)) ++ 125 ∷ [])) (10 ∷ []) (M.b (need_all M p.body)) refl (text_brace M (10 ∷ (ls ++ b)) (need_all M p.body) inner))))

-- ---- any derivation

module _ (M : Measure) (p : Token → ℕ) where
  low_more_names : {us : List Token} {a : Tree Token} → Derives language (many (seq (tok k.Comma) (tok k.Name))) us a → AtLeast M us 0
  low_more_names no_more = at_none M
  low_more_names (one_more (both (token {t = t} h) (token {t = n} g)) d) =
      at_after M t (ap bracket_of (one_kind k.Comma t.kind h)) (at_after M n (ap bracket_of (one_kind k.Name n.kind g)) (low_more_names d))

  low_names : {us : List Token} {a : Tree Token} → Derives language (ref names) us a → AtLeast M us 0
  low_names (name (both (token {t = t} h) d)) = at_after M t (ap bracket_of (one_kind k.Name t.kind h)) (low_more_names d)

  low_params : {us : List Token} {a : Tree Token} → Derives language (opt (ref names)) us a → AtLeast M us 0
  low_params (first d) = low_names d
  low_params (second nothing) = at_none M

  low_locals : {us : List Token} {a : Tree Token} → Derives language (opt (seq (tok k.Var) (seq (ref names) (tok k.Semi)))) us a → AtLeast M us 0
  low_locals (first (both (token {t = t} h) (both d (token {t = m} g)))) = at_after M t (ap bracket_of (one_kind k.Var t.kind h)) (at_before M m (ap bracket_of (one_kind k.Semi m.kind g)) (low_names d))
  low_locals (second nothing) = at_none M

  pub low_source : {us : List Token} {a : Tree Token} → Derives language (ref source) us a → AtLeast M us (need_proc M (stmts_of p (parts_of a).body))
  low_source (name (both (token {t = t} h) (both (token {t = n} e) (both (token {t = o} f) (both {u = u} d (both (token {t = c} g) (both (token {t = b} i) (both {u = v} dl (both {u = w} {a = x} ds (token {t = z} j)))))))))) =
      at_after M t (ap bracket_of (one_kind k.Proc t.kind h)) (at_after M n (ap bracket_of (one_kind k.Name n.kind e))
      (subst (λ y. AtLeast M y (need_proc M (stmts_of p x))) (ap (λ y. o ∷ y) (append_assoc u (c ∷ []) _ ∙ ap (λ y. u ++ (c ∷ b ∷ y)) (append_assoc v w (z ∷ []))))
      (at_join M (at_round M o c (one_kind k.LParen o.kind f) (one_kind k.RParen c.kind g) (low_params d))
      (at_brace M b z (one_kind k.LBrace b.kind i) (one_kind k.RBrace z.kind j)
      (subst (AtLeast M (v ++ w)) (let f = M.c-left in f (need_all M (stmts_of p x))) (at_join M (low_locals dl) (low_stmts M p ds)))))))

-- the brackets of any text with the tree measure at least as much as those of the printed one
pub no_fewer : (M : Measure) (p : Proc) (text : List ℕ) (h : HasTree text p) → AtLeast M h.tokens (need_proc M p.body)
no_fewer M p text h =
    let s = h.says in
    let q : Token → ℕ = place_in text (names_of text (parts_of h.tree)) in
    subst (λ A. AtLeast M h.tokens (need_proc M A)) s.body (low_source M q h.derived)

pub fewest_brackets : (p : Proc) → IsWritable p → (text : List ℕ) (other : HasTree text p) (printed : HasTree (text_of p) p) → opened (brackets_in printed.tokens) ≤ opened (brackets_in other.tokens)
fewest_brackets p h text other mine =
    let own = printed p h in
    let has = own.has in
    let reading = one_reading (text_of p) in
    let same : mine.tokens ≡ has.tokens = (let f = reading.one_list in f mine.tokens has.tokens mine.read has.read) in
    let size : opened (brackets_of (text_of p)) ≡ need_proc number p.body = text_sized number p h in
    let low = no_fewer number p text other in
    let e : opened (brackets_in other.tokens) ≡ low.size = low.sized in
    let g = low.enough in
    let d : opened (brackets_in mine.tokens) ≡ need_proc number p.body = ap (λ ts. opened (brackets_in ts)) same ∙ (ap opened own.same ∙ size) in
    omega arith
