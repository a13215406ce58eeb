-- The text of a condition reads as the condition.
use Rattle.std.proofs.Common.{◌≡◌, ℕ, suc, ◌+◌, Bool, true, false, ◌&&◌, List, [], ◌∷◌, ◌++◌, length, drop, refl, sym, ap, subst, ◌∙◌, arith, append_assoc, append-nil}
use Rattle.dc_tokens.specs.declared.token.TokenKind.{TokenKind}
use Rattle.dc_tokens.specs.declared.token.TokenKind.TheVariants as k
use Rattle.dc_tokens.specs.declared.token.Token.{Token}
use Rattle.dc_grammar.specs.Kinds.{is}
use Rattle.dc_grammar.specs.Grammar.{Rule, one, ref, seq, many, tok, Tree, leaf, none, pair, has, Derives, token, name, both, first, second, no_more, one_more}
use Rattle.dc_grammar.specs.Language.{Name, language, expr, cond, conj, fact}
use Rattle.dc_syntax.specs.declared.tree.Expr.{Expr}
use Rattle.dc_syntax.specs.declared.tree.Rel.{Rel}
use Rattle.dc_syntax.specs.declared.tree.Rel.TheVariants.{Lt, Le, Gt, Ge, Eq, Ne}
use Rattle.dc_syntax.specs.declared.tree.Cond.{Cond, Cond-F, roll-Cond}
use Rattle.dc_syntax.specs.declared.tree.Cond.TheVariants.{True, False, Cmp, Not, And, Or}
use Rattle.dc_syntax.specs.declared.tree.Cond.TheOpen as G
use Rattle.dc_syntax.specs.Trees.{EachCond}
use Rattle.dc_syntax.proofs.Inductions.{Cond-induction}
use Rattle.dc_syntax.specs.declared.layer.Layer.{Layer}
use Rattle.dc_syntax.specs.declared.layer.Layer.TheVariants.{Loose, Middle, Tight}
use Rattle.dc_syntax.specs.Text.{Written, is_within, in_squares, cond_in, written_cond, expr_text, rel_text}
use Rattle.dc_descent.specs.Trees.{fact_of, conj_of, conjuncts, cond_of, disjuncts, rel_of}
use Rattle.dc_tokens.proofs.Front.{and_left, and_right}
use Rattle.dc_printed.specs.Fits.{AreNames, fits, cond_fits}
use Rattle.dc_printed.proofs.Parts.{written-True, written-False, written-Cmp, written-Not, written-And, written-Or, fits-Cmp, fits-Not, fits-And, fits-Or}
use Rattle.dc_printed.proofs.Words.{joined, Breaks, token_of}
use Rattle.dc_printed.proofs.Signs as sign
use Rattle.dc_printed.proofs.Says.{Says, moved, followed, spaced, spaced_after, says_word, says_sign, says_long, with_last, one_more_last}
use Rattle.dc_printed.proofs.Exprs.{SaysExpr, Finds, later, printed_expr, all_tight}
use Rattle.dc_printed.proofs.Starts.{Starts, starts_cond}

abbrev pub rule_at : Layer → Name
rule_at Loose = cond
rule_at Middle = conj
rule_at Tight = fact

abbrev pub said : Layer → (Token → ℕ) → Tree Token → Cond
said Loose = cond_of
said Middle = conj_of
said Tight = fact_of

-- a text at an offset reads as a condition of a layer
pub record SaysCond (p : Token → ℕ) (asked : Layer) (at : ℕ) (t rest : List ℕ) (c : Cond) : Type 0 where
  pub tokens : List Token
  pub tree : Tree Token
  pub says : Says at t rest (ref (rule_at asked)) tokens tree
  pub is : said asked p tree ≡ c

to_conj : (p : Token → ℕ) (at : ℕ) (t rest : List ℕ) (c : Cond) → SaysCond p Tight at t rest c → SaysCond p Middle at t rest c
to_conj p at t rest c h = record {
  tokens = h.tokens;
  tree = pair h.tree none;
  says = record { reads = h.says.reads; derives = subst (λ u. Derives language (ref conj) u (pair h.tree none)) (append-nil h.tokens) (name (both h.says.derives no_more)) };
  is = h.is;
}

to_cond : (p : Token → ℕ) (at : ℕ) (t rest : List ℕ) (c : Cond) → SaysCond p Middle at t rest c → SaysCond p Loose at t rest c
to_cond p at t rest c h = record {
  tokens = h.tokens;
  tree = pair h.tree none;
  says = record { reads = h.says.reads; derives = subst (λ u. Derives language (ref cond) u (pair h.tree none)) (append-nil h.tokens) (name (both h.says.derives no_more)) };
  is = h.is;
}

pub lifted : (p : Token → ℕ) (have asked : Layer) (at : ℕ) (t rest : List ℕ) (c : Cond) → is_within have asked ≡ true → SaysCond p have at t rest c → SaysCond p asked at t rest c
lifted p Loose Loose at t rest c w h = h
lifted p Middle Loose at t rest c w h = to_cond p at t rest c h
lifted p Tight Loose at t rest c w h = to_cond p at t rest c (to_conj p at t rest c h)
lifted p Loose Middle at t rest c w h = absurd cc
lifted p Middle Middle at t rest c w h = h
lifted p Tight Middle at t rest c w h = to_conj p at t rest c h
lifted p Loose Tight at t rest c w h = absurd cc
lifted p Middle Tight at t rest c w h = absurd cc
lifted p Tight Tight at t rest c w h = h

bracketed : (p : Token → ℕ) (at : ℕ) (t rest : List ℕ) (c : Cond) → SaysCond p Loose (at + 1) t (93 ∷ rest) c → SaysCond p Tight at (in_squares t) rest c
bracketed p at t rest c h =
    let inner = followed (at + 1) t (93 ∷ []) rest (ref cond) (tok k.RBracket) _ _ _ _ h.says (says_sign (at + 1 + length t) 93 rest k.RBracket k.RBracket [] (sign.close_square _) refl) in
    let all = followed at (91 ∷ []) (t ++ 93 ∷ []) rest (tok k.LBracket) (seq (ref cond) (tok k.RBracket)) _ _ _ _ (says_sign at 91 _ k.LBracket k.LBracket [] (sign.open_square _) refl) inner in
    record { tokens = _; tree = _; says = record { reads = all.reads; derives = name (second (second (second (first all.derives)))) }; is = h.is }

-- ---- one more part at the end

disjuncts-last : (p : Token → ℕ) {v : List Token} {b : Tree Token} (f : Cond) (s : Token) (c : Tree Token) → Derives language (many (seq (tok k.Or) (ref conj))) v b
    → disjuncts p (with_last b (pair (leaf s) c)) f ≡ Or (disjuncts p b f) (conj_of p c)
disjuncts-last p f s c no_more = refl
disjuncts-last p f s c (one_more (both (token h) g) d) = disjuncts-last p (Or f _) s c d

conjuncts-last : (p : Token → ℕ) {v : List Token} {b : Tree Token} (f : Cond) (s : Token) (c : Tree Token) → Derives language (many (seq (tok k.And) (ref fact))) v b
    → conjuncts p (with_last b (pair (leaf s) c)) f ≡ And (conjuncts p b f) (fact_of p c)
conjuncts-last p f s c no_more = refl
conjuncts-last p f s c (one_more (both (token h) g) d) = conjuncts-last p (And f _) s c d

record IsOr (ts : List Token) (a : Tree Token) : Type 0 where
  u : List Token
  v : List Token
  first_part : Tree Token
  more_parts : Tree Token
  tokens_are : ts ≡ u ++ v
  tree_is : a ≡ pair first_part more_parts
  first_derives : Derives language (ref conj) u first_part
  more_derive : Derives language (many (seq (tok k.Or) (ref conj))) v more_parts

an_or : {ts : List Token} {a : Tree Token} → Derives language (ref cond) ts a → IsOr ts a
an_or (name (both h g)) = record { u = _; v = _; first_part = _; more_parts = _; tokens_are = refl; tree_is = refl; first_derives = h; more_derive = g }

record IsAnd (ts : List Token) (a : Tree Token) : Type 0 where
  u : List Token
  v : List Token
  first_part : Tree Token
  more_parts : Tree Token
  tokens_are : ts ≡ u ++ v
  tree_is : a ≡ pair first_part more_parts
  first_derives : Derives language (ref fact) u first_part
  more_derive : Derives language (many (seq (tok k.And) (ref fact))) v more_parts

an_and : {ts : List Token} {a : Tree Token} → Derives language (ref conj) ts a → IsAnd ts a
an_and (name (both h g)) = record { u = _; v = _; first_part = _; more_parts = _; tokens_are = refl; tree_is = refl; first_derives = h; more_derive = g }

pub or_more : (p : Token → ℕ) (at : ℕ) (t w rest : List ℕ) (x y : Cond)
    → SaysCond p Loose at t ((32 ∷ 124 ∷ 124 ∷ 32 ∷ w) ++ rest) x → SaysCond p Middle (at + length t + 4) w rest y
    → SaysCond p Loose at (t ++ (32 ∷ 124 ∷ 124 ∷ 32 ∷ w)) rest (Or x y)
or_more p at t w rest x y h g =
    let d = an_or h.says.derives in
    let s : Token = token_of (at + length t + 1) k.Or (124 ∷ 124 ∷ []) in
    let l = spaced (at + length t + 3) 32 w rest (ref conj) g.tokens g.tree refl (moved (omega arith) g.says) in
    let m = followed (at + length t + 1) (124 ∷ 124 ∷ []) (32 ∷ w) rest (tok k.Or) (ref conj) _ _ _ _ (says_long (at + length t + 1) 124 124 ((32 ∷ w) ++ rest) k.Or k.Or [] sign.or refl) (moved (omega arith) l) in
    let n = spaced (at + length t) 32 (124 ∷ 124 ∷ 32 ∷ w) rest (seq (tok k.Or) (ref conj)) _ _ refl (moved (omega arith) m) in
    let whole : Tree Token = pair d.first_part (with_last d.more_parts (pair (leaf s) g.tree)) in
    record {
      tokens = h.tokens ++ (s ∷ g.tokens);
      tree = whole;
      says = record {
        reads = joined at t (32 ∷ 124 ∷ 124 ∷ 32 ∷ w) rest h.tokens (s ∷ g.tokens) h.says.reads n.reads;
        derives = subst (λ ts. Derives language (ref cond) ts whole) (sym (append_assoc d.u d.v (s ∷ g.tokens)) ∙ ap (λ ts. ts ++ (s ∷ g.tokens)) (sym d.tokens_are))
            (name (both d.first_derives (one_more_last (pair (leaf s) g.tree) d.more_derive n.derives)));
      };
      is = disjuncts-last p (conj_of p d.first_part) s g.tree d.more_derive ∙ (λ j. Or ((sym (ap (cond_of p) d.tree_is) ∙ h.is) j) (g.is j));
    }

pub and_more : (p : Token → ℕ) (at : ℕ) (t w rest : List ℕ) (x y : Cond)
    → SaysCond p Middle at t ((32 ∷ 38 ∷ 38 ∷ 32 ∷ w) ++ rest) x → SaysCond p Tight (at + length t + 4) w rest y
    → SaysCond p Middle at (t ++ (32 ∷ 38 ∷ 38 ∷ 32 ∷ w)) rest (And x y)
and_more p at t w rest x y h g =
    let d = an_and h.says.derives in
    let s : Token = token_of (at + length t + 1) k.And (38 ∷ 38 ∷ []) in
    let l = spaced (at + length t + 3) 32 w rest (ref fact) g.tokens g.tree refl (moved (omega arith) g.says) in
    let m = followed (at + length t + 1) (38 ∷ 38 ∷ []) (32 ∷ w) rest (tok k.And) (ref fact) _ _ _ _ (says_long (at + length t + 1) 38 38 ((32 ∷ w) ++ rest) k.And k.And [] sign.and refl) (moved (omega arith) l) in
    let n = spaced (at + length t) 32 (38 ∷ 38 ∷ 32 ∷ w) rest (seq (tok k.And) (ref fact)) _ _ refl (moved (omega arith) m) in
    let whole : Tree Token = pair d.first_part (with_last d.more_parts (pair (leaf s) g.tree)) in
    record {
      tokens = h.tokens ++ (s ∷ g.tokens);
      tree = whole;
      says = record {
        reads = joined at t (32 ∷ 38 ∷ 38 ∷ 32 ∷ w) rest h.tokens (s ∷ g.tokens) h.says.reads n.reads;
        derives = subst (λ ts. Derives language (ref conj) ts whole) (sym (append_assoc d.u d.v (s ∷ g.tokens)) ∙ ap (λ ts. ts ++ (s ∷ g.tokens)) (sym d.tokens_are))
            (name (both d.first_derives (one_more_last (pair (leaf s) g.tree) d.more_derive n.derives)));
      };
      is = conjuncts-last p (fact_of p d.first_part) s g.tree d.more_derive ∙ (λ j. And ((sym (ap (conj_of p) d.tree_is) ∙ h.is) j) (g.is j));
    }

pub opposite : (p : Token → ℕ) (at : ℕ) (w rest : List ℕ) (x : Cond) → Starts w → SaysCond p Tight (suc at) w rest x → SaysCond p Tight at (33 ∷ w) rest (Not x)
opposite p at w rest x s h =
    let m = followed at (33 ∷ []) w rest (tok k.Bang) (ref fact) _ _ _ _ (says_sign at 33 (w ++ rest) k.Bang k.Bang [] (sign.bang _ (s rest)) refl) (moved (omega arith) h.says) in
    record { tokens = _; tree = _; says = record { reads = m.reads; derives = name (first m.derives) }; is = ap Not h.is }

-- `true` and `false`
pub always : (p : Token → ℕ) (at : ℕ) (rest : List ℕ) → Breaks rest → SaysCond p Tight at (116 ∷ 114 ∷ 117 ∷ 101 ∷ []) rest True
always p at rest b =
    let s = says_word at (116 ∷ 114 ∷ 117 ∷ 101 ∷ []) rest k.True refl sign.word-true (λ w. refl) refl b in
    record { tokens = _; tree = _; says = record { reads = s.reads; derives = name (second (first s.derives)) }; is = refl }

pub never : (p : Token → ℕ) (at : ℕ) (rest : List ℕ) → Breaks rest → SaysCond p Tight at (102 ∷ 97 ∷ 108 ∷ 115 ∷ 101 ∷ []) rest False
never p at rest b =
    let s = says_word at (102 ∷ 97 ∷ 108 ∷ 115 ∷ 101 ∷ []) rest k.False refl sign.word-false (λ w. refl) refl b in
    record { tokens = _; tree = _; says = record { reads = s.reads; derives = name (second (second (first s.derives))) }; is = refl }

-- ---- comparisons

abbrev pub rel_signs : Rule TokenKind Name
rel_signs = one k.Lt (k.Le ∷ k.Gt ∷ k.Ge ∷ k.Eq ∷ k.Ne ∷ [])

-- a comparing sign, with its spaces
pub record SaysRel (at : ℕ) (rest : List ℕ) (r : Rel) : Type 0 where
  pub sign : Token
  pub says : Says at (rel_text r) rest rel_signs (sign ∷ []) (leaf sign)
  pub is : rel_of sign.kind ≡ r

short_rel : (at b : ℕ) (rest : List ℕ) (kind : TokenKind) → sign.IsSign b kind 32 → has is (k.Lt ∷ k.Le ∷ k.Gt ∷ k.Ge ∷ k.Eq ∷ k.Ne ∷ []) kind ≡ true
    → Says at (32 ∷ b ∷ 32 ∷ []) rest rel_signs (token_of (at + 1) kind (b ∷ []) ∷ []) (leaf (token_of (at + 1) kind (b ∷ [])))
short_rel at b rest kind s i =
    spaced at 32 (b ∷ 32 ∷ []) rest rel_signs _ _ refl
    (moved (omega arith) (spaced_after (at + 1) 32 (b ∷ []) rest rel_signs _ _ refl (says_sign (at + 1) b (32 ∷ rest) kind k.Lt (k.Le ∷ k.Gt ∷ k.Ge ∷ k.Eq ∷ k.Ne ∷ []) s i)))

long_rel : (at a b : ℕ) (rest : List ℕ) (kind : TokenKind) → sign.IsLongSign a b kind → has is (k.Lt ∷ k.Le ∷ k.Gt ∷ k.Ge ∷ k.Eq ∷ k.Ne ∷ []) kind ≡ true
    → Says at (32 ∷ a ∷ b ∷ 32 ∷ []) rest rel_signs (token_of (at + 1) kind (a ∷ b ∷ []) ∷ []) (leaf (token_of (at + 1) kind (a ∷ b ∷ [])))
long_rel at a b rest kind s i =
    spaced at 32 (a ∷ b ∷ 32 ∷ []) rest rel_signs _ _ refl
    (moved (omega arith) (spaced_after (at + 1) 32 (a ∷ b ∷ []) rest rel_signs _ _ refl (says_long (at + 1) a b (32 ∷ rest) kind k.Lt (k.Le ∷ k.Gt ∷ k.Ge ∷ k.Eq ∷ k.Ne ∷ []) s i)))

pub rel_says : (at : ℕ) (rest : List ℕ) (r : Rel) → SaysRel at rest r
rel_says at rest Lt = record { sign = _; says = short_rel at 60 rest k.Lt sign.less refl; is = refl }
rel_says at rest Le = record { sign = _; says = long_rel at 60 61 rest k.Le sign.at_most refl; is = refl }
rel_says at rest Gt = record { sign = _; says = short_rel at 62 rest k.Gt sign.greater refl; is = refl }
rel_says at rest Ge = record { sign = _; says = long_rel at 62 61 rest k.Ge sign.at_least refl; is = refl }
rel_says at rest Eq = record { sign = _; says = long_rel at 61 61 rest k.Eq sign.same refl; is = refl }
rel_says at rest Ne = record { sign = _; says = long_rel at 33 61 rest k.Ne sign.other refl; is = refl }

breaks_rel : (r : Rel) (rest : List ℕ) → Breaks (rel_text r ++ rest)
breaks_rel Lt rest = refl
breaks_rel Le rest = refl
breaks_rel Gt rest = refl
breaks_rel Ge rest = refl
breaks_rel Eq rest = refl
breaks_rel Ne rest = refl

pub compared : (p : Token → ℕ) (at : ℕ) (t w rest : List ℕ) (x y : Expr) (r : Rel) → SaysExpr p Loose at t ((rel_text r ++ w) ++ rest) x → SaysExpr p Loose (at + length t + length (rel_text r)) w rest y
    → SaysCond p Tight at (t ++ (rel_text r ++ w)) rest (Cmp x r y)
compared p at t w rest x y r h g =
    let s = rel_says (at + length t) (w ++ rest) r in
    let m = followed (at + length t) (rel_text r) w rest rel_signs (ref expr) _ _ _ _ s.says g.says in
    let all = followed at t (rel_text r ++ w) rest (ref expr) (seq rel_signs (ref expr)) _ _ _ _ h.says m in
    record {
      tokens = _;
      tree = _;
      says = record { reads = all.reads; derives = name (second (second (second (second all.derives)))) };
      is = λ j. Cmp (h.is j) (s.is j) (g.is j);
    }

-- ---- the text of a condition

bare_text : (asked : Layer) (w : Written) → is_within w.layer asked ≡ true → cond_in asked w ≡ w.text
bare_text asked w h = rw h refl

bracketed_text : (asked : Layer) (w : Written) → is_within w.layer asked ≡ false → cond_in asked w ≡ in_squares w.text
bracketed_text asked w h = rw h refl

module _ (p : Token → ℕ) (whole : List ℕ) (names : List (List ℕ)) (finds : Finds p whole names) (are : AreNames names) where
  abbrev pub Bare : Cond → Type 0
  Bare c = cond_fits (length names) c ≡ true → (at : ℕ) (rest : List ℕ) → drop at whole ≡ (written_cond names c).text ++ rest → Breaks rest
      → SaysCond p (written_cond names c).layer at (written_cond names c).text rest c

  pub operand : (c : Cond) → Bare c → cond_fits (length names) c ≡ true → (asked : Layer) (at : ℕ) (rest : List ℕ) → drop at whole ≡ cond_in asked (written_cond names c) ++ rest → Breaks rest
      → SaysCond p asked at (cond_in asked (written_cond names c)) rest c
  operand c b f asked at rest s r = go (written_cond names c) (b f) s (is_within (written_cond names c).layer asked) refl
    where
      go : (w : Written) → ((at : ℕ) (rest : List ℕ) → drop at whole ≡ w.text ++ rest → Breaks rest → SaysCond p w.layer at w.text rest c)
          → drop at whole ≡ cond_in asked w ++ rest → (z : Bool) → is_within w.layer asked ≡ z → SaysCond p asked at (cond_in asked w) rest c
      go w h s true z =
          let x : cond_in asked w ≡ w.text = bare_text asked w z in
          subst (λ t. SaysCond p asked at t rest c) (sym x) (lifted p w.layer asked at w.text rest c z (h at rest (s ∙ ap (λ t. t ++ rest) x) r))
      go w h s false z =
          let x : cond_in asked w ≡ in_squares w.text = bracketed_text asked w z in
          let inner = h (at + 1) (93 ∷ rest) (later whole (91 ∷ []) (w.text ++ 93 ∷ rest) at (s ∙ (ap (λ t. t ++ rest) x ∙ ap (λ t. 91 ∷ t) (append_assoc w.text (93 ∷ []) rest)))) refl in
          subst (λ t. SaysCond p asked at t rest c) (sym x)
          (lifted p Tight asked at (in_squares w.text) rest c (all_tight asked) (bracketed p at w.text rest c (lifted p w.layer Loose (at + 1) w.text (93 ∷ rest) c refl inner)))

  bare-True : Bare True
  bare-True f at rest s r = rw (written-True names) (always p at rest r)

  bare-False : Bare False
  bare-False f at rest s r = rw (written-False names) (never p at rest r)

  bare-Cmp : (a : Expr) (o : Rel) (b : Expr) → Bare (Cmp a o b)
  bare-Cmp a o b f at rest s r =
      let e : (written_cond names (Cmp a o b)).text ≡ expr_text names a ++ (rel_text o ++ expr_text names b) = ap (λ w. w.text) (written-Cmp names a o b) in
      let q = s ∙ (ap (λ t. t ++ rest) e ∙ append_assoc (expr_text names a) (rel_text o ++ expr_text names b) rest) in
      let z : (fits (length names) a && fits (length names) b) ≡ true = sym (fits-Cmp (length names) a o b) ∙ f in
      let v = later whole (expr_text names a) _ at q in
      rw (written-Cmp names a o b)
      (compared p at (expr_text names a) (expr_text names b) rest a b o
      (printed_expr p whole names finds are a (and_left _ _ z) Loose at _ q (subst Breaks (sym (append_assoc (rel_text o) (expr_text names b) rest)) (breaks_rel o (expr_text names b ++ rest))))
      (printed_expr p whole names finds are b (and_right _ _ z) Loose (at + length (expr_text names a) + length (rel_text o)) rest
      (later whole (rel_text o) (expr_text names b ++ rest) (at + length (expr_text names a)) (v ∙ append_assoc (rel_text o) (expr_text names b) rest)) r))

  bare-Not : (a : Cond) → Bare a → Bare (Not a)
  bare-Not a h f at rest s r =
      let e : (written_cond names (Not a)).text ≡ 33 ∷ cond_in Tight (written_cond names a) = ap (λ w. w.text) (written-Not names a) in
      rw (written-Not names a)
      (opposite p at (cond_in Tight (written_cond names a)) rest a (starts_cond names are a (sym (fits-Not (length names) a) ∙ f) Tight)
      (operand a h (sym (fits-Not (length names) a) ∙ f) Tight (suc at) rest (ap (λ n. drop n whole) (let q : suc at ≡ at + 1 = omega arith in q) ∙ later whole (33 ∷ []) _ at (s ∙ ap (λ t. t ++ rest) e)) r))

  bare-Or : (a b : Cond) → Bare a → Bare b → Bare (Or a b)
  bare-Or a b h g f at rest s r =
      let t : List ℕ = (written_cond names a).text in
      let w : List ℕ = cond_in Middle (written_cond names b) in
      let e : (written_cond names (Or a b)).text ≡ t ++ (32 ∷ 124 ∷ 124 ∷ 32 ∷ w) = ap (λ w. w.text) (written-Or names a b) in
      let q = s ∙ (ap (λ t. t ++ rest) e ∙ append_assoc t (32 ∷ 124 ∷ 124 ∷ 32 ∷ w) rest) in
      let z : (cond_fits (length names) a && cond_fits (length names) b) ≡ true = sym (fits-Or (length names) a b) ∙ f in
      rw (written-Or names a b)
      (or_more p at t w rest a b
      (operand a h (and_left _ _ z) Loose at _ q refl)
      (operand b g (and_right _ _ z) Middle (at + length t + 4) rest (later whole (32 ∷ 124 ∷ 124 ∷ 32 ∷ []) (w ++ rest) (at + length t) (later whole t _ at q)) r))

  bare-And : (a b : Cond) → Bare a → Bare b → Bare (And a b)
  bare-And a b h g f at rest s r =
      let t : List ℕ = cond_in Middle (written_cond names a) in
      let w : List ℕ = cond_in Tight (written_cond names b) in
      let e : (written_cond names (And a b)).text ≡ t ++ (32 ∷ 38 ∷ 38 ∷ 32 ∷ w) = ap (λ w. w.text) (written-And names a b) in
      let q = s ∙ (ap (λ t. t ++ rest) e ∙ append_assoc t (32 ∷ 38 ∷ 38 ∷ 32 ∷ w) rest) in
      let z : (cond_fits (length names) a && cond_fits (length names) b) ≡ true = sym (fits-And (length names) a b) ∙ f in
      rw (written-And names a b)
      (and_more p at t w rest a b
      (operand a h (and_left _ _ z) Middle at _ q refl)
      (operand b g (and_right _ _ z) Tight (at + length t + 4) rest (later whole (32 ∷ 38 ∷ 38 ∷ 32 ∷ []) (w ++ rest) (at + length t) (later whole t _ at q)) r))

  bare_layer : (L : Cond-F Cond) → EachCond Bare L → Bare (roll-Cond L)
  unfolding roll-Cond denote.Hole.Carrier.roll
  bare_layer G.True h = bare-True
  bare_layer G.False h = bare-False
  bare_layer (G.Cmp a o b) h = bare-Cmp a o b
  bare_layer (G.Not a) h = bare-Not a h
  bare_layer (G.And a b) h = bare-And a b h.0 h.1
  bare_layer (G.Or a b) h = bare-Or a b h.0 h.1

  pub bare : (c : Cond) → Bare c
  bare c = Cond-induction Bare bare_layer c

  -- a whole condition
  pub printed_cond : (c : Cond) → cond_fits (length names) c ≡ true → (at : ℕ) (rest : List ℕ) → drop at whole ≡ (written_cond names c).text ++ rest → Breaks rest
      → SaysCond p Loose at (written_cond names c).text rest c
  printed_cond c f at rest s r = lifted p (written_cond names c).layer Loose at (written_cond names c).text rest c refl (bare c f at rest s r)
