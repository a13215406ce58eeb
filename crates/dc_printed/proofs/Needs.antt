-- The brackets that an expression or a condition needs, by a measure; its text has no others.
use Rattle.std.proofs.Common.{◌≡◌, ℕ, suc, Bool, true, false, ◌&&◌, List, [], ◌∷◌, ◌++◌, length, refl, sym, ap, subst, ◌∙◌, arith, append-nil}
use Rattle.std.specs.Prelude.{if◌then◌else◌, slice_index_or}
use Rattle.std.specs.Fmt.{decimal}
use Rattle.dc_syntax.specs.declared.tree.Expr.{Expr, Expr-F, Num, Var, Neg, Add, Sub, Mul, roll-Expr, fold-Expr, fold-roll-Expr}
use Rattle.dc_syntax.specs.declared.tree.Expr.TheOpen as F
use Rattle.dc_syntax.specs.declared.tree.Rel.{Rel}
use Rattle.dc_syntax.specs.declared.tree.Rel.TheVariants.{Lt, Le, Gt, Ge, Eq, Ne}
use Rattle.dc_syntax.specs.declared.tree.Cond.{Cond, Cond-F, True, False, Cmp, Not, And, Or, roll-Cond, fold-Cond, fold-roll-Cond}
use Rattle.dc_syntax.specs.declared.tree.Cond.TheOpen as G
use Rattle.dc_syntax.specs.Trees.{EachExpr, EachCond}
use Rattle.dc_syntax.specs.declared.layer.Layer.{Layer}
use Rattle.dc_syntax.specs.declared.layer.Layer.TheVariants.{Loose, Middle, Tight}
use Rattle.dc_syntax.specs.Text.{Written, is_within, in_parens, in_squares, expr_in, written_expr, expr_text, rel_text, cond_in, written_cond}
use Rattle.dc_syntax.proofs.Inductions.{Expr-induction, Cond-induction}
use Rattle.dc_tokens.proofs.Front.{and_left, and_right}
use Rattle.dc_printed.specs.Fits.{AreNames, fits, cond_fits}
use Rattle.dc_printed.specs.Brackets.{brackets_of}
use Rattle.dc_printed.proofs.Words.{brackets_of-append, word_plain, number_plain}
use Rattle.dc_printed.proofs.Decimals.{is_number-decimal}
use Rattle.dc_printed.proofs.Measures.{Measure}
use Rattle.dc_printed.proofs.Parts.{number_in_range, below, written-Num, written-Var, written-Neg, written-Add, written-Sub, written-Mul, fits-Num, fits-Var, fits-Neg, fits-Add, fits-Sub, fits-Mul, written-True, written-False, written-Cmp, written-Not, written-And, written-Or, fits-Cmp, fits-Not, fits-And, fits-Or}

-- what a part needs, and how tightly it binds
pub record Part : Type 0 where
  pub need : ℕ
  pub layer : Layer

-- where a layer is asked
abbrev pub need_in : Layer → Part → ℕ
need_in asked w = if is_within w.layer asked then w.need else suc w.need

module _ (M : Measure) where
  abbrev pub part_step : Expr-F Part → Part
  part_step (F.Num n) = record { need = 0; layer = Tight }
  part_step (F.Var i) = record { need = 0; layer = Tight }
  part_step (F.Neg a) = record { need = need_in Tight a; layer = Tight }
  part_step (F.Add a b) = record { need = M.c a.need (need_in Middle b); layer = Loose }
  part_step (F.Sub a b) = record { need = M.c a.need (need_in Middle b); layer = Loose }
  part_step (F.Mul a b) = record { need = M.c (need_in Middle a) (need_in Tight b); layer = Middle }

  pub part : Expr → Part
  part e = fold-Expr Part part_step e

  abbrev pub cond_step : Cond-F Part → Part
  cond_step G.True = record { need = 0; layer = Tight }
  cond_step G.False = record { need = 0; layer = Tight }
  cond_step (G.Cmp a r b) = record { need = M.c (part a).need (part b).need; layer = Tight }
  cond_step (G.Not a) = record { need = need_in Tight a; layer = Tight }
  cond_step (G.And a b) = record { need = M.c (need_in Middle a) (need_in Tight b); layer = Middle }
  cond_step (G.Or a b) = record { need = M.c a.need (need_in Middle b); layer = Loose }

  pub cond_part : Cond → Part
  cond_part c = fold-Cond Part cond_step c

  -- ---- by the parts

  pub part-Num : (n : ℕ) → part (Num n) ≡ record { need = 0; layer = Tight }
  unfolding part roll-Expr denote.Hole.Carrier.roll
  part-Num n = fold-roll-Expr Part part_step (F.Num n)

  pub part-Var : (i : ℕ) → part (Var i) ≡ record { need = 0; layer = Tight }
  unfolding part roll-Expr denote.Hole.Carrier.roll
  part-Var i = fold-roll-Expr Part part_step (F.Var i)

  pub part-Neg : (a : Expr) → part (Neg a) ≡ record { need = need_in Tight (part a); layer = Tight }
  unfolding part roll-Expr denote.Hole.Carrier.roll
  part-Neg a = fold-roll-Expr Part part_step (F.Neg a)

  pub part-Add : (a b : Expr) → part (Add a b) ≡ record { need = M.c (part a).need (need_in Middle (part b)); layer = Loose }
  unfolding part roll-Expr denote.Hole.Carrier.roll
  part-Add a b = fold-roll-Expr Part part_step (F.Add a b)

  pub part-Sub : (a b : Expr) → part (Sub a b) ≡ record { need = M.c (part a).need (need_in Middle (part b)); layer = Loose }
  unfolding part roll-Expr denote.Hole.Carrier.roll
  part-Sub a b = fold-roll-Expr Part part_step (F.Sub a b)

  pub part-Mul : (a b : Expr) → part (Mul a b) ≡ record { need = M.c (need_in Middle (part a)) (need_in Tight (part b)); layer = Middle }
  unfolding part roll-Expr denote.Hole.Carrier.roll
  part-Mul a b = fold-roll-Expr Part part_step (F.Mul a b)

  pub part-True : cond_part True ≡ record { need = 0; layer = Tight }
  unfolding cond_part roll-Cond denote.Hole.Carrier.roll
  part-True = fold-roll-Cond Part cond_step G.True

  pub part-False : cond_part False ≡ record { need = 0; layer = Tight }
  unfolding cond_part roll-Cond denote.Hole.Carrier.roll
  part-False = fold-roll-Cond Part cond_step G.False

  pub part-Cmp : (a : Expr) (r : Rel) (b : Expr) → cond_part (Cmp a r b) ≡ record { need = M.c (part a).need (part b).need; layer = Tight }
  unfolding cond_part roll-Cond denote.Hole.Carrier.roll
  part-Cmp a r b = fold-roll-Cond Part cond_step (G.Cmp a r b)

  pub part-Not : (a : Cond) → cond_part (Not a) ≡ record { need = need_in Tight (cond_part a); layer = Tight }
  unfolding cond_part roll-Cond denote.Hole.Carrier.roll
  part-Not a = fold-roll-Cond Part cond_step (G.Not a)

  pub part-And : (a b : Cond) → cond_part (And a b) ≡ record { need = M.c (need_in Middle (cond_part a)) (need_in Tight (cond_part b)); layer = Middle }
  unfolding cond_part roll-Cond denote.Hole.Carrier.roll
  part-And a b = fold-roll-Cond Part cond_step (G.And a b)

  pub part-Or : (a b : Cond) → cond_part (Or a b) ≡ record { need = M.c (cond_part a).need (need_in Middle (cond_part b)); layer = Loose }
  unfolding cond_part roll-Cond denote.Hole.Carrier.roll
  part-Or a b = fold-roll-Cond Part cond_step (G.Or a b)

  -- ---- texts

  -- the brackets of a text measure so much
  abbrev pub TextSized : List ℕ → ℕ → Type 0
  TextSized t i = M.Sized (brackets_of t) i

  pub text_join : (t u : List ℕ) (i j : ℕ) → TextSized t i → TextSized u j → TextSized (t ++ u) (M.c i j)
  text_join t u i j h g = subst (λ v. M.Sized v (M.c i j)) (sym (brackets_of-append t u)) (let f = M.join in f (brackets_of t) (brackets_of u) i j h g)

  pub text_plain : (t : List ℕ) → brackets_of t ≡ [] → TextSized t 0
  text_plain t h = subst (λ v. M.Sized v 0) (sym h) M.empty

  -- a text without brackets before or after another
  pub plain_before : (t u : List ℕ) (i : ℕ) → brackets_of t ≡ [] → TextSized u i → TextSized (t ++ u) i
  plain_before t u i h g = subst (λ v. M.Sized v i) (sym (brackets_of-append t u ∙ ap (λ v. v ++ brackets_of u) h)) g

  pub plain_after : (t u : List ℕ) (i : ℕ) → brackets_of u ≡ [] → TextSized t i → TextSized (t ++ u) i
  plain_after t u i h g = subst (λ v. M.Sized v i) (sym (brackets_of-append t u ∙ (ap (λ v. brackets_of t ++ v) h ∙ append-nil (brackets_of t)))) g

  pub text_round : (t : List ℕ) (i : ℕ) → TextSized t i → TextSized (40 ∷ (t ++ 41 ∷ [])) (suc i)
  text_round t i h = subst (λ v. M.Sized (40 ∷ v) (suc i)) (sym (brackets_of-append t (41 ∷ []))) (let f = M.round in f (brackets_of t) i h)

  pub text_square : (t : List ℕ) (i : ℕ) → TextSized t i → TextSized (91 ∷ (t ++ 93 ∷ [])) (suc i)
  text_square t i h = subst (λ v. M.Sized (91 ∷ v) (suc i)) (sym (brackets_of-append t (93 ∷ []))) (let f = M.square in f (brackets_of t) i h)

  pub text_brace : (t : List ℕ) (i : ℕ) → TextSized t i → TextSized (123 ∷ (t ++ 125 ∷ [])) (M.b i)
  text_brace t i h = subst (λ v. M.Sized (123 ∷ v) (M.b i)) (sym (brackets_of-append t (125 ∷ []))) (let f = M.brace in f (brackets_of t) i h)

  -- in brackets, or bare
  in_expr : (asked : Layer) (w : Written) (v : Part) → w.layer ≡ v.layer → TextSized w.text v.need → TextSized (expr_in asked w) (need_in asked v)
  in_expr asked w v e h = subst (λ l. TextSized (expr_in asked w) (if is_within l asked then v.need else suc v.need)) e (go (is_within w.layer asked))
    where
      go : (z : Bool) → TextSized (if z then w.text else in_parens w.text) (if z then v.need else suc v.need)
      go true = h
      go false = text_round w.text v.need h

  in_cond : (asked : Layer) (w : Written) (v : Part) → w.layer ≡ v.layer → TextSized w.text v.need → TextSized (cond_in asked w) (need_in asked v)
  in_cond asked w v e h = subst (λ l. TextSized (cond_in asked w) (if is_within l asked then v.need else suc v.need)) e (go (is_within w.layer asked))
    where
      go : (z : Bool) → TextSized (if z then w.text else in_squares w.text) (if z then v.need else suc v.need)
      go true = h
      go false = text_square w.text v.need h

  module _ (names : List (List ℕ)) (are : AreNames names) where
    -- the text and the need of one expression
    pub record Agrees (w : Written) (v : Part) : Type 0 where
      pub layer : w.layer ≡ v.layer
      pub size : TextSized w.text v.need

    agrees : (w x : Written) (v y : Part) → w ≡ x → v ≡ y → Agrees x y → Agrees w v
    agrees w x v y e f h = subst (λ z. Agrees z v) (sym e) (subst (Agrees x) (sym f) h)

    abbrev Matches : Expr → Type 0
    Matches e = fits (length names) e ≡ true → Agrees (written_expr names e) (part e)

    expr_layer : (L : Expr-F Expr) → EachExpr Matches L → Matches (roll-Expr L)
    unfolding roll-Expr denote.Hole.Carrier.roll
    expr_layer (F.Num n) h f = agrees _ _ _ _ (written-Num names n) (part-Num n)
        (record { layer = refl; size = text_plain (decimal n) (number_plain (decimal n) (is_number-decimal n (let l = number_in_range n (sym (fits-Num (length names) n) ∙ f) in omega arith))) })
    expr_layer (F.Var i) h f = agrees _ _ _ _ (written-Var names i) (part-Var i)
        (record { layer = refl; size = let n = are i (below (sym (fits-Var (length names) i) ∙ f)) in text_plain (slice_index_or names i []) (word_plain (slice_index_or names i []) n.word) })
    expr_layer (F.Neg a) h f =
        let g = h (sym (fits-Neg (length names) a) ∙ f) in
        agrees _ _ _ _ (written-Neg names a) (part-Neg a) (record { layer = refl; size = in_expr Tight (written_expr names a) (part a) g.layer g.size })
    expr_layer (F.Add a b) h f =
        let z : (fits (length names) a && fits (length names) b) ≡ true = sym (fits-Add (length names) a b) ∙ f in
        let g = h.0 (and_left _ _ z) in let k = h.1 (and_right _ _ z) in
        agrees _ _ _ _ (written-Add names a b) (part-Add a b)
        (record { layer = refl; size = text_join (written_expr names a).text (32 ∷ 43 ∷ 32 ∷ expr_in Middle (written_expr names b)) _ _ g.size (plain_before (32 ∷ 43 ∷ 32 ∷ []) (expr_in Middle (written_expr names b)) _ refl (in_expr Middle (written_expr names b) (part b) k.layer k.size)) })
    expr_layer (F.Sub a b) h f =
        let z : (fits (length names) a && fits (length names) b) ≡ true = sym (fits-Sub (length names) a b) ∙ f in
        let g = h.0 (and_left _ _ z) in let k = h.1 (and_right _ _ z) in
        agrees _ _ _ _ (written-Sub names a b) (part-Sub a b)
        (record { layer = refl; size = text_join (written_expr names a).text (32 ∷ 45 ∷ 32 ∷ expr_in Middle (written_expr names b)) _ _ g.size (plain_before (32 ∷ 45 ∷ 32 ∷ []) (expr_in Middle (written_expr names b)) _ refl (in_expr Middle (written_expr names b) (part b) k.layer k.size)) })
    expr_layer (F.Mul a b) h f =
        let z : (fits (length names) a && fits (length names) b) ≡ true = sym (fits-Mul (length names) a b) ∙ f in
        let g = h.0 (and_left _ _ z) in let k = h.1 (and_right _ _ z) in
        agrees _ _ _ _ (written-Mul names a b) (part-Mul a b)
        (record {
          layer = refl;
          size = text_join (expr_in Middle (written_expr names a)) (32 ∷ 42 ∷ 32 ∷ expr_in Tight (written_expr names b)) _ _ (in_expr Middle (written_expr names a) (part a) g.layer g.size)
              (plain_before (32 ∷ 42 ∷ 32 ∷ []) (expr_in Tight (written_expr names b)) _ refl (in_expr Tight (written_expr names b) (part b) k.layer k.size));
        })

    pub expr_sized : (e : Expr) → fits (length names) e ≡ true → TextSized (expr_text names e) (part e).need
    expr_sized e f = let h = Expr-induction Matches expr_layer e f in h.size

    rel_plain : (r : Rel) → brackets_of (rel_text r) ≡ []
    rel_plain Lt = refl
    rel_plain Le = refl
    rel_plain Gt = refl
    rel_plain Ge = refl
    rel_plain Eq = refl
    rel_plain Ne = refl

    abbrev CondMatches : Cond → Type 0
    CondMatches c = cond_fits (length names) c ≡ true → Agrees (written_cond names c) (cond_part c)

    cond_layer : (L : Cond-F Cond) → EachCond CondMatches L → CondMatches (roll-Cond L)
    unfolding roll-Cond denote.Hole.Carrier.roll
    cond_layer G.True h f = agrees _ _ _ _ (written-True names) part-True (record { layer = refl; size = M.empty })
    cond_layer G.False h f = agrees _ _ _ _ (written-False names) part-False (record { layer = refl; size = M.empty })
    cond_layer (G.Cmp a o b) h f =
        let z : (fits (length names) a && fits (length names) b) ≡ true = sym (fits-Cmp (length names) a o b) ∙ f in
        agrees _ _ _ _ (written-Cmp names a o b) (part-Cmp a o b)
        (record { layer = refl; size = text_join (expr_text names a) (rel_text o ++ expr_text names b) _ _ (expr_sized a (and_left _ _ z)) (plain_before (rel_text o) (expr_text names b) _ (rel_plain o) (expr_sized b (and_right _ _ z))) })
    cond_layer (G.Not a) h f =
        let g = h (sym (fits-Not (length names) a) ∙ f) in
        agrees _ _ _ _ (written-Not names a) (part-Not a) (record { layer = refl; size = in_cond Tight (written_cond names a) (cond_part a) g.layer g.size })
    cond_layer (G.And a b) h f =
        let z : (cond_fits (length names) a && cond_fits (length names) b) ≡ true = sym (fits-And (length names) a b) ∙ f in
        let g = h.0 (and_left _ _ z) in let k = h.1 (and_right _ _ z) in
        agrees _ _ _ _ (written-And names a b) (part-And a b)
        (record {
          layer = refl;
          size = text_join (cond_in Middle (written_cond names a)) (32 ∷ 38 ∷ 38 ∷ 32 ∷ cond_in Tight (written_cond names b)) _ _ (in_cond Middle (written_cond names a) (cond_part a) g.layer g.size)
              (plain_before (32 ∷ 38 ∷ 38 ∷ 32 ∷ []) (cond_in Tight (written_cond names b)) _ refl (in_cond Tight (written_cond names b) (cond_part b) k.layer k.size));
        })
    cond_layer (G.Or a b) h f =
        let z : (cond_fits (length names) a && cond_fits (length names) b) ≡ true = sym (fits-Or (length names) a b) ∙ f in
        let g = h.0 (and_left _ _ z) in let k = h.1 (and_right _ _ z) in
        agrees _ _ _ _ (written-Or names a b) (part-Or a b)
        (record {
          layer = refl;
          size = text_join (written_cond names a).text (32 ∷ 124 ∷ 124 ∷ 32 ∷ cond_in Middle (written_cond names b)) _ _ g.size
              (plain_before (32 ∷ 124 ∷ 124 ∷ 32 ∷ []) (cond_in Middle (written_cond names b)) _ refl (in_cond Middle (written_cond names b) (cond_part b) k.layer k.size));
        })

    pub cond_sized : (c : Cond) → cond_fits (length names) c ≡ true → TextSized (written_cond names c).text (cond_part c).need
    cond_sized c f = let h = Cond-induction CondMatches cond_layer c f in h.size
