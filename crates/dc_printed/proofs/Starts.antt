-- No text of an expression or a condition begins with `=`.
use Rattle.std.proofs.Common.{◌≡◌, ℕ, Bool, true, false, nat_eq, List, [], ◌∷◌, ◌++◌, length, get_or, refl, sym, subst, ◌∙◌, arith, append_assoc}
use Rattle.std.specs.Prelude.{slice_index_or, if◌then◌else◌}
use Rattle.std.specs.Fmt.{decimal}
use Rattle.std.proofs.lemmas.Bool.Decides.{nat_tests}
use Rattle.dc_tokens.specs.Spelling.{is_letter, is_digit, is_word, is_number}
use Rattle.dc_tokens.proofs.Front.{and_left}
use Rattle.dc_syntax.specs.declared.tree.Expr.{Expr, Expr-F, roll-Expr}
use Rattle.dc_syntax.specs.declared.tree.Expr.TheOpen as F
use Rattle.dc_syntax.specs.declared.tree.Cond.{Cond, Cond-F, roll-Cond}
use Rattle.dc_syntax.specs.declared.tree.Cond.TheOpen as G
use Rattle.dc_syntax.specs.Trees.{EachExpr, EachCond}
use Rattle.dc_syntax.specs.declared.layer.Layer.{Layer}
use Rattle.dc_syntax.specs.declared.layer.Layer.TheVariants.{Middle}
use Rattle.dc_syntax.specs.Text.{Written, is_within, in_parens, in_squares, expr_in, written_expr, expr_text, cond_in, written_cond}
use Rattle.dc_syntax.proofs.Inductions.{Expr-induction, Cond-induction}
use Rattle.dc_printed.specs.Fits.{AreNames, fits, cond_fits}
use Rattle.dc_printed.proofs.Decimals.{is_number-decimal}
use Rattle.dc_printed.proofs.Parts.{number_in_range, below, written-Num, written-Var, written-Neg, written-Add, written-Sub, written-Mul, fits-Num, fits-Var, fits-Add, fits-Sub, fits-Mul, written-True, written-False, written-Cmp, written-Not, written-And, written-Or, fits-Cmp, fits-And, fits-Or}

abbrev pub Starts : List ℕ → Type 0
Starts t = (rest : List ℕ) → nat_eq (get_or (t ++ rest) 0 0) 61 ≡ false

more : (t u : List ℕ) → Starts t → Starts (t ++ u)
more t u h rest = subst (λ v. nat_eq (get_or v 0 0) 61 ≡ false) (sym (append_assoc t u rest)) (h (u ++ rest))

letter_starts : (b : ℕ) → is_letter b ≡ true → nat_eq b 61 ≡ false
letter_starts b h = grind (arith, nat_tests)

digit_starts : (b : ℕ) → is_digit b ≡ true → nat_eq b 61 ≡ false
digit_starts b h = grind (arith, nat_tests)

word_starts : (w : List ℕ) → is_word w ≡ true → Starts w
word_starts [] h rest = absurd cc
word_starts (b ∷ w) h rest = letter_starts b (and_left (is_letter b) _ h)

number_starts : (w : List ℕ) → is_number w ≡ true → Starts w
number_starts [] h rest = absurd cc
number_starts (b ∷ w) h rest = digit_starts b (and_left (is_digit b) _ h)

in_expr : (asked : Layer) (w : Written) → Starts w.text → Starts (expr_in asked w)
in_expr asked w h = go (is_within w.layer asked)
  where
    go : (z : Bool) → Starts (if z then w.text else in_parens w.text)
    go true = h
    go false = λ rest. refl

in_cond : (asked : Layer) (w : Written) → Starts w.text → Starts (cond_in asked w)
in_cond asked w h = go (is_within w.layer asked)
  where
    go : (z : Bool) → Starts (if z then w.text else in_squares w.text)
    go true = h
    go false = λ rest. refl

module _ (names : List (List ℕ)) (are : AreNames names) where
  abbrev pub ExprStarts : Expr → Type 0
  ExprStarts e = fits (length names) e ≡ true → Starts (written_expr names e).text

  from_text : (e : Expr) (w : Written) → written_expr names e ≡ w → Starts w.text → Starts (written_expr names e).text
  from_text e w h s = subst (λ v. Starts v.text) (sym h) s

  expr_layer : (L : Expr-F Expr) → EachExpr ExprStarts L → ExprStarts (roll-Expr L)
  unfolding roll-Expr denote.Hole.Carrier.roll
  expr_layer (F.Num n) h f = from_text _ _ (written-Num names n) (number_starts (decimal n) (is_number-decimal n (let l = number_in_range n (sym (fits-Num (length names) n) ∙ f) in omega arith)))
  expr_layer (F.Var i) h f = let n = are i (below (sym (fits-Var (length names) i) ∙ f)) in from_text _ _ (written-Var names i) (word_starts (slice_index_or names i []) n.word)
  expr_layer (F.Neg a) h f = from_text _ _ (written-Neg names a) (λ rest. refl)
  expr_layer (F.Add a b) h f = from_text _ _ (written-Add names a b) (more (written_expr names a).text _ (h.0 (and_left _ _ (sym (fits-Add (length names) a b) ∙ f))))
  expr_layer (F.Sub a b) h f = from_text _ _ (written-Sub names a b) (more (written_expr names a).text _ (h.0 (and_left _ _ (sym (fits-Sub (length names) a b) ∙ f))))
  expr_layer (F.Mul a b) h f = from_text _ _ (written-Mul names a b) (more (expr_in Middle (written_expr names a)) _ (in_expr Middle (written_expr names a) (h.0 (and_left _ _ (sym (fits-Mul (length names) a b) ∙ f)))))

  pub starts_expr : (e : Expr) → fits (length names) e ≡ true → Starts (expr_text names e)
  starts_expr e = Expr-induction ExprStarts expr_layer e

  abbrev pub CondStarts : Cond → Type 0
  CondStarts c = cond_fits (length names) c ≡ true → Starts (written_cond names c).text

  from_cond : (c : Cond) (w : Written) → written_cond names c ≡ w → Starts w.text → Starts (written_cond names c).text
  from_cond c w h s = subst (λ v. Starts v.text) (sym h) s

  cond_layer : (L : Cond-F Cond) → EachCond CondStarts L → CondStarts (roll-Cond L)
  unfolding roll-Cond denote.Hole.Carrier.roll
  cond_layer G.True h f = from_cond _ _ (written-True names) (λ rest. refl)
  cond_layer G.False h f = from_cond _ _ (written-False names) (λ rest. refl)
  cond_layer (G.Cmp a o b) h f = from_cond _ _ (written-Cmp names a o b) (more (expr_text names a) _ (starts_expr a (and_left _ _ (sym (fits-Cmp (length names) a o b) ∙ f))))
  cond_layer (G.Not a) h f = from_cond _ _ (written-Not names a) (λ rest. refl)
  cond_layer (G.And a b) h f = from_cond _ _ (written-And names a b) (more (cond_in Middle (written_cond names a)) _ (in_cond Middle (written_cond names a) (h.0 (and_left _ _ (sym (fits-And (length names) a b) ∙ f)))))
  cond_layer (G.Or a b) h f = from_cond _ _ (written-Or names a b) (more (written_cond names a).text _ (h.0 (and_left _ _ (sym (fits-Or (length names) a b) ∙ f))))

  pub starts_cond : (c : Cond) → cond_fits (length names) c ≡ true → (asked : Layer) → Starts (cond_in asked (written_cond names c))
  starts_cond c f asked = in_cond asked (written_cond names c) (Cond-induction CondStarts cond_layer c f)
