-- The text of an expression reads as the expression.
use Rattle.std.proofs.Common.{◌≡◌, ℕ, zero, suc, ◌+◌, ◌-◌, ◌<◌, ◌≤◌, Bool, true, false, ◌&&◌, List, [], ◌∷◌, ◌++◌, length, take, drop, refl, sym, ap, subst, ◌∙◌, arith, append_assoc, append-nil}
use Rattle.std.specs.Prelude.{slice_range, slice_index_or}
use Rattle.std.specs.Fmt.{decimal}
use Rattle.dc_tokens.specs.declared.token.TokenKind.{TokenKind}
use Rattle.dc_tokens.specs.declared.token.TokenKind.TheVariants as k
use Rattle.dc_tokens.specs.declared.token.Token.{Token}
use Rattle.dc_grammar.specs.Kinds.{is}
use Rattle.dc_grammar.specs.Grammar.{Rule, one, ref, seq, many, tok, Tree, leaf, none, pair, has, Derives, token, name, both, first, second, no_more, one_more}
use Rattle.dc_grammar.specs.Language.{Name, language, expr, term, unary}
use Rattle.dc_syntax.specs.declared.tree.Expr.{Expr}
use Rattle.dc_syntax.specs.declared.tree.Expr.TheVariants.{Num, Var, Neg, Add, Sub, Mul}
use Rattle.dc_syntax.specs.declared.layer.Layer.{Layer}
use Rattle.dc_syntax.specs.declared.layer.Layer.TheVariants.{Loose, Middle, Tight}
use Rattle.dc_syntax.specs.Text.{Written, is_within, in_parens, expr_in, written_expr}
use Rattle.dc_descent.specs.Trees.{unary_of, term_of, factors, expr_of, summands, sum_by}
use Rattle.std.proofs.Math.Seq.{take-append_seam, drop-append_seam}
use Rattle.dc_printed.proofs.Words.{joined, Breaks, token_of}
use Rattle.dc_syntax.specs.declared.tree.Expr.{Expr-F, roll-Expr}
use Rattle.dc_syntax.specs.declared.tree.Expr.TheOpen as F
use Rattle.dc_syntax.specs.Trees.{EachExpr}
use Rattle.dc_syntax.proofs.Inductions.{Expr-induction}
use Rattle.dc_tokens.proofs.Front.{and_left, and_right}
use Rattle.dc_printed.proofs.Parts.{number_in_range, below, written-Num, written-Var, written-Neg, written-Add, written-Sub, written-Mul, fits-Num, fits-Var, fits-Neg, fits-Add, fits-Sub, fits-Mul}
use Rattle.dc_printed.specs.Fits.{IsName, AreNames, fits}
use Rattle.dc_printed.proofs.Decimals.{is_number-decimal, number_value-decimal}
use Rattle.dc_printed.proofs.Signs.{open_paren, close_paren, plus, minus, star}
use Rattle.dc_printed.proofs.Says.{Says, IsSign, moved, says_number, says_word, followed, spaced, says_sign, with_last, one_more_last}

-- what an expression of a layer derives from, and what its derivation says
abbrev pub rule_at : Layer → Name
rule_at Loose = expr
rule_at Middle = term
rule_at Tight = unary

abbrev pub said : Layer → (Token → ℕ) → Tree Token → Expr
said Loose = expr_of
said Middle = term_of
said Tight = unary_of

-- a text at an offset reads as an expression of a layer
pub record SaysExpr (p : Token → ℕ) (asked : Layer) (at : ℕ) (t rest : List ℕ) (e : Expr) : Type 0 where
  pub tokens : List Token
  pub tree : Tree Token
  pub says : Says at t rest (ref (rule_at asked)) tokens tree
  pub is : said asked p tree ≡ e

-- an expression of a tighter layer stands wherever a looser one is asked
to_term : (p : Token → ℕ) (at : ℕ) (t rest : List ℕ) (e : Expr) → SaysExpr p Tight at t rest e → SaysExpr p Middle at t rest e
to_term p at t rest e h = record {
  tokens = h.tokens;
  tree = pair h.tree none;
  says = record { reads = h.says.reads; derives = subst (λ u. Derives language (ref term) u (pair h.tree none)) (append-nil h.tokens) (name (both h.says.derives no_more)) };
  is = h.is;
}

to_expr : (p : Token → ℕ) (at : ℕ) (t rest : List ℕ) (e : Expr) → SaysExpr p Middle at t rest e → SaysExpr p Loose at t rest e
to_expr p at t rest e h = record {
  tokens = h.tokens;
  tree = pair h.tree none;
  says = record { reads = h.says.reads; derives = subst (λ u. Derives language (ref expr) u (pair h.tree none)) (append-nil h.tokens) (name (both h.says.derives no_more)) };
  is = h.is;
}

pub lifted : (p : Token → ℕ) (have asked : Layer) (at : ℕ) (t rest : List ℕ) (e : Expr) → is_within have asked ≡ true → SaysExpr p have at t rest e → SaysExpr p asked at t rest e
lifted p Loose Loose at t rest e w h = h
lifted p Middle Loose at t rest e w h = to_expr p at t rest e h
lifted p Tight Loose at t rest e w h = to_expr p at t rest e (to_term p at t rest e h)
lifted p Loose Middle at t rest e w h = absurd cc
lifted p Middle Middle at t rest e w h = h
lifted p Tight Middle at t rest e w h = to_term p at t rest e h
lifted p Loose Tight at t rest e w h = absurd cc
lifted p Middle Tight at t rest e w h = absurd cc
lifted p Tight Tight at t rest e w h = h

-- in brackets it is tight
bracketed : (p : Token → ℕ) (at : ℕ) (t rest : List ℕ) (e : Expr) → SaysExpr p Loose (at + 1) t (41 ∷ rest) e → SaysExpr p Tight at (in_parens t) rest e
bracketed p at t rest e h =
    let inner = followed (at + 1) t (41 ∷ []) rest (ref expr) (tok k.RParen) _ _ _ _ h.says (says_sign (at + 1 + length t) 41 rest k.RParen k.RParen [] (close_paren _) refl) in
    let all = followed at (40 ∷ []) (t ++ 41 ∷ []) rest (tok k.LParen) (seq (ref expr) (tok k.RParen)) _ _ _ _ (says_sign at 40 _ k.LParen k.LParen [] (open_paren _) refl) inner in
    record { tokens = _; tree = _; says = record { reads = all.reads; derives = name (second (second (second all.derives))) }; is = h.is }

-- ---- sums and products: one more part at the end

abbrev sum_signs : Rule TokenKind Name
sum_signs = one k.Plus (k.Minus ∷ [])

summands-last : (p : Token → ℕ) {v : List Token} {b : Tree Token} (f : Expr) (sign : Token) (c : Tree Token) → Derives language (many (seq sum_signs (ref term))) v b
    → summands p (with_last b (pair (leaf sign) c)) f ≡ sum_by sign.kind (summands p b f) (term_of p c)
summands-last p f sign c no_more = refl
summands-last p f sign c (one_more (both (token h) g) d) = summands-last p (sum_by _ f _) sign c d

factors-last : (p : Token → ℕ) {v : List Token} {b : Tree Token} (f : Expr) (star : Token) (c : Tree Token) → Derives language (many (seq (tok k.Star) (ref unary))) v b
    → factors p (with_last b (pair (leaf star) c)) f ≡ Mul (factors p b f) (unary_of p c)
factors-last p f star c no_more = refl
factors-last p f star c (one_more (both (token h) g) d) = factors-last p (Mul f _) star c d

-- a sum, taken apart
record IsSum (p : Token → ℕ) (ts : List Token) (a : Tree Token) : Type 0 where
  u : List Token
  v : List Token
  first_part : Tree Token
  more_parts : Tree Token
  tokens_are : ts ≡ u ++ v
  tree_is : a ≡ pair first_part more_parts
  first_derives : Derives language (ref term) u first_part
  more_derive : Derives language (many (seq sum_signs (ref term))) v more_parts

a_sum : (p : Token → ℕ) {ts : List Token} {a : Tree Token} → Derives language (ref expr) ts a → IsSum p ts a
a_sum p (name (both h g)) = record { u = _; v = _; first_part = _; more_parts = _; tokens_are = refl; tree_is = refl; first_derives = h; more_derive = g }

record IsProduct (p : Token → ℕ) (ts : List Token) (a : Tree Token) : Type 0 where
  u : List Token
  v : List Token
  first_part : Tree Token
  more_parts : Tree Token
  tokens_are : ts ≡ u ++ v
  tree_is : a ≡ pair first_part more_parts
  first_derives : Derives language (ref unary) u first_part
  more_derive : Derives language (many (seq (tok k.Star) (ref unary))) v more_parts

a_product : (p : Token → ℕ) {ts : List Token} {a : Tree Token} → Derives language (ref term) ts a → IsProduct p ts a
a_product p (name (both h g)) = record { u = _; v = _; first_part = _; more_parts = _; tokens_are = refl; tree_is = refl; first_derives = h; more_derive = g }

-- " + t" or " - t" after a sum
pub summed : (p : Token → ℕ) (at : ℕ) (t w rest : List ℕ) (x y : Expr) (b : ℕ) (kind : TokenKind) → IsSign b kind 32 → has is (k.Plus ∷ k.Minus ∷ []) kind ≡ true
    → SaysExpr p Loose at t ((32 ∷ b ∷ 32 ∷ w) ++ rest) x → SaysExpr p Middle (at + length t + 3) w rest y
    → SaysExpr p Loose at (t ++ (32 ∷ b ∷ 32 ∷ w)) rest (sum_by kind x y)
summed p at t w rest x y b kind s i h g =
    let d = a_sum p h.says.derives in
    let sign : Token = token_of (at + length t + 1) kind (b ∷ []) in
    let l = spaced (at + length t + 2) 32 w rest (ref term) g.tokens g.tree refl (moved (omega arith) g.says) in
    let m = followed (at + length t + 1) (b ∷ []) (32 ∷ w) rest sum_signs (ref term) _ _ _ _ (says_sign (at + length t + 1) b ((32 ∷ w) ++ rest) kind k.Plus (k.Minus ∷ []) s i) (moved (omega arith) l) in
    let n = spaced (at + length t) 32 (b ∷ 32 ∷ w) rest (seq sum_signs (ref term)) _ _ refl (moved (omega arith) m) in
    let whole : Tree Token = pair d.first_part (with_last d.more_parts (pair (leaf sign) g.tree)) in
    record {
      tokens = h.tokens ++ (sign ∷ g.tokens);
      tree = whole;
      says = record {
        reads = joined at t (32 ∷ b ∷ 32 ∷ w) rest h.tokens (sign ∷ g.tokens) h.says.reads n.reads;
        derives = subst (λ ts. Derives language (ref expr) ts whole) (sym (append_assoc d.u d.v (sign ∷ g.tokens)) ∙ ap (λ ts. ts ++ (sign ∷ g.tokens)) (sym d.tokens_are))
            (name (both d.first_derives (one_more_last (pair (leaf sign) g.tree) d.more_derive n.derives)));
      };
      is = summands-last p (term_of p d.first_part) sign g.tree d.more_derive ∙ (λ j. sum_by kind ((sym (ap (expr_of p) d.tree_is) ∙ h.is) j) (g.is j));
    }

-- " * t" after a product
pub multiplied : (p : Token → ℕ) (at : ℕ) (t w rest : List ℕ) (x y : Expr)
    → SaysExpr p Middle at t ((32 ∷ 42 ∷ 32 ∷ w) ++ rest) x → SaysExpr p Tight (at + length t + 3) w rest y
    → SaysExpr p Middle at (t ++ (32 ∷ 42 ∷ 32 ∷ w)) rest (Mul x y)
multiplied p at t w rest x y h g =
    let d = a_product p h.says.derives in
    let sign : Token = token_of (at + length t + 1) k.Star (42 ∷ []) in
    let l = spaced (at + length t + 2) 32 w rest (ref unary) g.tokens g.tree refl (moved (omega arith) g.says) in
    let m = followed (at + length t + 1) (42 ∷ []) (32 ∷ w) rest (tok k.Star) (ref unary) _ _ _ _ (says_sign (at + length t + 1) 42 ((32 ∷ w) ++ rest) k.Star k.Star [] (star 32) refl) (moved (omega arith) l) in
    let n = spaced (at + length t) 32 (42 ∷ 32 ∷ w) rest (seq (tok k.Star) (ref unary)) _ _ refl (moved (omega arith) m) in
    let whole : Tree Token = pair d.first_part (with_last d.more_parts (pair (leaf sign) g.tree)) in
    record {
      tokens = h.tokens ++ (sign ∷ g.tokens);
      tree = whole;
      says = record {
        reads = joined at t (32 ∷ 42 ∷ 32 ∷ w) rest h.tokens (sign ∷ g.tokens) h.says.reads n.reads;
        derives = subst (λ ts. Derives language (ref term) ts whole) (sym (append_assoc d.u d.v (sign ∷ g.tokens)) ∙ ap (λ ts. ts ++ (sign ∷ g.tokens)) (sym d.tokens_are))
            (name (both d.first_derives (one_more_last (pair (leaf sign) g.tree) d.more_derive n.derives)));
      };
      is = factors-last p (unary_of p d.first_part) sign g.tree d.more_derive ∙ (λ j. Mul ((sym (ap (term_of p) d.tree_is) ∙ h.is) j) (g.is j));
    }

pub negated : (p : Token → ℕ) (at : ℕ) (w rest : List ℕ) (x : Expr) → SaysExpr p Tight (suc at) w rest x → SaysExpr p Tight at (45 ∷ w) rest (Neg x)
negated p at w rest x h =
    let m = followed at (45 ∷ []) w rest (tok k.Minus) (ref unary) _ _ _ _ (says_sign at 45 (w ++ rest) k.Minus k.Minus [] (minus _) refl) (moved (omega arith) h.says) in
    record { tokens = _; tree = _; says = record { reads = m.reads; derives = name (first m.derives) }; is = ap Neg h.is }

pub a_number : (p : Token → ℕ) (at n : ℕ) (rest : List ℕ) → n ≤ 2147483647 → Breaks rest → SaysExpr p Tight at (decimal n) rest (Num n)
a_number p at n rest l b =
    let s = says_number at (decimal n) rest (is_number-decimal n (omega arith)) (let v = number_value-decimal n (omega arith) in omega arith) b in
    record { tokens = _; tree = _; says = record { reads = s.reads; derives = name (second (first s.derives)) }; is = ap Num (number_value-decimal n (omega arith)) }

pub a_variable : (p : Token → ℕ) (at i : ℕ) (w rest : List ℕ) → IsName w → p (token_of at k.Name w) ≡ i → Breaks rest → SaysExpr p Tight at w rest (Var i)
a_variable p at i w rest h e b =
    let s = says_word at w rest k.Name h.word h.no_keyword (λ w. refl) refl b in
    record { tokens = _; tree = _; says = record { reads = s.reads; derives = name (second (second (first s.derives))) }; is = ap Var e }

-- ---- the text of an expression

-- the place function finds each name where it is spelled
abbrev pub Finds : (Token → ℕ) → List ℕ → List (List ℕ) → Type 0
Finds p whole names = (i : ℕ) → i < length names → (t : Token) → slice_range whole t.at t.end ≡ slice_index_or names i [] → p t ≡ i

nothing_left : (n : ℕ) → drop {A = ℕ} n [] ≡ []
nothing_left zero = refl
nothing_left (suc n) = refl

pub drop_sum : (m n : ℕ) (xs : List ℕ) → drop (m + n) xs ≡ drop n (drop m xs)
drop_sum zero n xs = ap (λ k. drop k xs) (let e : 0 + n ≡ n = omega arith in e)
drop_sum (suc m) n [] = nothing_left (suc m + n) ∙ sym (nothing_left n)
drop_sum (suc m) n (x ∷ xs) = ap (λ k. drop k (x ∷ xs)) (let e : suc m + n ≡ suc (m + n) = omega arith in e) ∙ drop_sum m n xs

-- after a part, the rest of the whole
pub later : (whole t u : List ℕ) (at : ℕ) → drop at whole ≡ t ++ u → drop (at + length t) whole ≡ u
later whole t u at h = drop_sum at (length t) whole ∙ (ap (drop (length t)) h ∙ drop-append_seam t u)

pub here : (whole w u : List ℕ) (at : ℕ) → drop at whole ≡ w ++ u → slice_range whole at (at + length w) ≡ w
here whole w u at h = ap (λ n. take n (drop at whole)) (let e : at + length w - at ≡ length w = omega arith in e) ∙ (ap (take (length w)) h ∙ take-append_seam w u)

bare_text : (asked : Layer) (w : Written) → is_within w.layer asked ≡ true → expr_in asked w ≡ w.text
bare_text asked w h = rw h refl

bracketed_text : (asked : Layer) (w : Written) → is_within w.layer asked ≡ false → expr_in asked w ≡ in_parens w.text
bracketed_text asked w h = rw h refl

pub all_tight : (asked : Layer) → is_within Tight asked ≡ true
all_tight Loose = refl
all_tight Middle = refl
all_tight Tight = refl

module _ (p : Token → ℕ) (whole : List ℕ) (names : List (List ℕ)) (finds : Finds p whole names) (are : AreNames names) where
  -- the bare text of an expression, wherever it stands
  abbrev pub Bare : Expr → Type 0
  Bare e = fits (length names) e ≡ true → (at : ℕ) (rest : List ℕ) → drop at whole ≡ (written_expr names e).text ++ rest → Breaks rest
      → SaysExpr p (written_expr names e).layer at (written_expr names e).text rest e

  pub operand : (e : Expr) → Bare e → fits (length names) e ≡ true → (asked : Layer) (at : ℕ) (rest : List ℕ) → drop at whole ≡ expr_in asked (written_expr names e) ++ rest → Breaks rest
      → SaysExpr p asked at (expr_in asked (written_expr names e)) rest e
  operand e b f asked at rest s r = go (written_expr names e) (b f) s (is_within (written_expr names e).layer asked) refl
    where
      go : (w : Written) → ((at : ℕ) (rest : List ℕ) → drop at whole ≡ w.text ++ rest → Breaks rest → SaysExpr p w.layer at w.text rest e)
          → drop at whole ≡ expr_in asked w ++ rest → (z : Bool) → is_within w.layer asked ≡ z → SaysExpr p asked at (expr_in asked w) rest e
      go w h s true z =
          let x : expr_in asked w ≡ w.text = bare_text asked w z in
          subst (λ t. SaysExpr p asked at t rest e) (sym x) (lifted p w.layer asked at w.text rest e z (h at rest (s ∙ ap (λ t. t ++ rest) x) r))
      go w h s false z =
          let x : expr_in asked w ≡ in_parens w.text = bracketed_text asked w z in
          let inner = h (at + 1) (41 ∷ rest) (later whole (40 ∷ []) (w.text ++ 41 ∷ rest) at (s ∙ (ap (λ t. t ++ rest) x ∙ ap (λ t. 40 ∷ t) (append_assoc w.text (41 ∷ []) rest)))) refl in
          subst (λ t. SaysExpr p asked at t rest e) (sym x)
          (lifted p Tight asked at (in_parens w.text) rest e (all_tight asked) (bracketed p at w.text rest e (lifted p w.layer Loose (at + 1) w.text (41 ∷ rest) e refl inner)))

  bare-Num : (n : ℕ) → Bare (Num n)
  bare-Num n f at rest s r = rw (written-Num names n) (a_number p at n rest (number_in_range n (sym (fits-Num (length names) n) ∙ f)) r)

  bare-Var : (i : ℕ) → Bare (Var i)
  bare-Var i f at rest s r =
      let l : i < length names = below (sym (fits-Var (length names) i) ∙ f) in
      let e : (written_expr names (Var i)).text ≡ slice_index_or names i [] = ap (λ w. w.text) (written-Var names i) in
      rw (written-Var names i)
      (a_variable p at i (slice_index_or names i []) rest (are i l) (finds i l (token_of at k.Name (slice_index_or names i [])) (here whole (slice_index_or names i []) rest at (s ∙ ap (λ t. t ++ rest) e))) r)

  bare-Neg : (a : Expr) → Bare a → Bare (Neg a)
  bare-Neg a h f at rest s r =
      let e : (written_expr names (Neg a)).text ≡ 45 ∷ expr_in Tight (written_expr names a) = ap (λ w. w.text) (written-Neg names a) in
      rw (written-Neg names a)
      (negated p at (expr_in Tight (written_expr names a)) rest a
      (operand a h (sym (fits-Neg (length names) a) ∙ f) Tight (suc at) rest (ap (λ n. drop n whole) (let q : suc at ≡ at + 1 = omega arith in q) ∙ later whole (45 ∷ []) _ at (s ∙ ap (λ t. t ++ rest) e)) r))

  bare-Add : (a b : Expr) → Bare a → Bare b → Bare (Add a b)
  bare-Add a b h g f at rest s r =
      let e : (written_expr names (Add a b)).text ≡ (written_expr names a).text ++ (32 ∷ 43 ∷ 32 ∷ expr_in Middle (written_expr names b)) = ap (λ w. w.text) (written-Add names a b) in
      let q = s ∙ (ap (λ t. t ++ rest) e ∙ append_assoc (written_expr names a).text (32 ∷ 43 ∷ 32 ∷ expr_in Middle (written_expr names b)) rest) in
      let z : (fits (length names) a && fits (length names) b) ≡ true = sym (fits-Add (length names) a b) ∙ f in
      rw (written-Add names a b)
      (summed p at (written_expr names a).text (expr_in Middle (written_expr names b)) rest a b 43 k.Plus (plus 32) refl
      (operand a h (and_left _ _ z) Loose at _ q refl)
      (operand b g (and_right _ _ z) Middle (at + length (written_expr names a).text + 3) rest
      (later whole (32 ∷ 43 ∷ 32 ∷ []) (expr_in Middle (written_expr names b) ++ rest) (at + length (written_expr names a).text) (later whole (written_expr names a).text _ at q)) r))

  bare-Sub : (a b : Expr) → Bare a → Bare b → Bare (Sub a b)
  bare-Sub a b h g f at rest s r =
      let e : (written_expr names (Sub a b)).text ≡ (written_expr names a).text ++ (32 ∷ 45 ∷ 32 ∷ expr_in Middle (written_expr names b)) = ap (λ w. w.text) (written-Sub names a b) in
      let q = s ∙ (ap (λ t. t ++ rest) e ∙ append_assoc (written_expr names a).text (32 ∷ 45 ∷ 32 ∷ expr_in Middle (written_expr names b)) rest) in
      let z : (fits (length names) a && fits (length names) b) ≡ true = sym (fits-Sub (length names) a b) ∙ f in
      rw (written-Sub names a b)
      (summed p at (written_expr names a).text (expr_in Middle (written_expr names b)) rest a b 45 k.Minus (minus 32) refl
      (operand a h (and_left _ _ z) Loose at _ q refl)
      (operand b g (and_right _ _ z) Middle (at + length (written_expr names a).text + 3) rest
      (later whole (32 ∷ 45 ∷ 32 ∷ []) (expr_in Middle (written_expr names b) ++ rest) (at + length (written_expr names a).text) (later whole (written_expr names a).text _ at q)) r))

  bare-Mul : (a b : Expr) → Bare a → Bare b → Bare (Mul a b)
  bare-Mul a b h g f at rest s r =
      let t : List ℕ = expr_in Middle (written_expr names a) in
      let e : (written_expr names (Mul a b)).text ≡ t ++ (32 ∷ 42 ∷ 32 ∷ expr_in Tight (written_expr names b)) = ap (λ w. w.text) (written-Mul names a b) in
      let q = s ∙ (ap (λ t. t ++ rest) e ∙ append_assoc t (32 ∷ 42 ∷ 32 ∷ expr_in Tight (written_expr names b)) rest) in
      let z : (fits (length names) a && fits (length names) b) ≡ true = sym (fits-Mul (length names) a b) ∙ f in
      rw (written-Mul names a b)
      (multiplied p at t (expr_in Tight (written_expr names b)) rest a b
      (operand a h (and_left _ _ z) Middle at _ q refl)
      (operand b g (and_right _ _ z) Tight (at + length t + 3) rest
      (later whole (32 ∷ 42 ∷ 32 ∷ []) (expr_in Tight (written_expr names b) ++ rest) (at + length t) (later whole t _ at q)) r))

  bare_layer : (L : Expr-F Expr) → EachExpr Bare L → Bare (roll-Expr L)
  unfolding roll-Expr denote.Hole.Carrier.roll
  bare_layer (F.Num n) h = bare-Num n
  bare_layer (F.Var i) h = bare-Var i
  bare_layer (F.Neg a) h = bare-Neg a h
  bare_layer (F.Add a b) h = bare-Add a b h.0 h.1
  bare_layer (F.Sub a b) h = bare-Sub a b h.0 h.1
  bare_layer (F.Mul a b) h = bare-Mul a b h.0 h.1

  pub bare : (e : Expr) → Bare e
  bare e = Expr-induction Bare bare_layer e

  -- an expression where a layer is asked
  pub printed_expr : (e : Expr) → fits (length names) e ≡ true → (asked : Layer) (at : ℕ) (rest : List ℕ) → drop at whole ≡ expr_in asked (written_expr names e) ++ rest → Breaks rest
      → SaysExpr p asked at (expr_in asked (written_expr names e)) rest e
  printed_expr e f = operand e (bare e) f
