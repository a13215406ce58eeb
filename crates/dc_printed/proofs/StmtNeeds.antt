-- The brackets that statements need, by a measure; their text has no others.
use Rattle.std.specs.List.{AllByRecursion}
use Rattle.std.proofs.Common.{◌≡◌, ℕ, suc, ◌<◌, true, ◌&&◌, ltb, List, [], ◌∷◌, ◌++◌, map, length, refl, sym, ap, subst, ◌∙◌, append_assoc}
use Rattle.std.specs.Prelude.{slice_index_or}
use Rattle.dc_syntax.specs.declared.tree.Expr.{Expr}
use Rattle.dc_syntax.specs.declared.tree.Cond.{Cond}
use Rattle.dc_syntax.specs.declared.tree.Stmt.{Stmt, Stmt-F, roll-Stmt, fold-Stmt, fold-roll-Stmt}
use Rattle.dc_syntax.specs.declared.tree.Stmt.TheVariants as s
use Rattle.dc_syntax.specs.declared.tree.Stmt.TheOpen as G
use Rattle.dc_syntax.specs.Trees.{EachStmt}
use Rattle.dc_syntax.proofs.Inductions.{Stmt-induction}
use Rattle.dc_syntax.specs.Text.{expr_text, cond_text, stmt_text, stmts_text}
use Rattle.dc_tokens.proofs.Front.{and_left, and_right}
use Rattle.dc_printed.specs.Fits.{AreNames, fits, cond_fits, stmt_fits, stmts_fit}
use Rattle.dc_printed.specs.Brackets.{brackets_of}
use Rattle.dc_printed.proofs.Words.{word_plain}
use Rattle.dc_printed.proofs.Measures.{Measure}
use Rattle.dc_printed.proofs.Parts.{below}
use Rattle.dc_printed.proofs.Needs.{part, cond_part, TextSized, text_join, plain_before, plain_after, text_round, text_brace, expr_sized, cond_sized}
use Rattle.dc_printed.proofs.StmtParts.{text-Skip, text-Assign, text-AnyOf, text-Between, text-Tick, text-Assume, text-If, text-IfAny, text-While, text-WhileAny, fits-Assign, fits-AnyOf, fits-Between, fits-Tick, fits-Assume, fits-If, fits-IfAny, fits-While, fits-WhileAny}

between_grouped : (w t u : List ℕ) → w ++ (32 ∷ 61 ∷ 32 ∷ 97 ∷ 110 ∷ 121 ∷ (40 ∷ ((t ++ (44 ∷ 32 ∷ u)) ++ 41 ∷ [])) ++ 59 ∷ 10 ∷ []) ≡ w ++ (32 ∷ 61 ∷ 32 ∷ 97 ∷ 110 ∷ 121 ∷ 40 ∷ (t ++ (44 ∷ 32 ∷ (u ++ (41 ∷ 59 ∷ 10 ∷ [])))))
between_grouped w t u = simp append_assoc refl

branch_grouped : (c x y : List ℕ) → 105 ∷ 102 ∷ 32 ∷ ((40 ∷ (c ++ 41 ∷ [])) ++ (32 ∷ ((123 ∷ (10 ∷ x ++ 125 ∷ [])) ++ (32 ∷ 101 ∷ 108 ∷ 115 ∷ 101 ∷ 32 ∷ ((123 ∷ (10 ∷ y ++ 125 ∷ [])) ++ 10 ∷ [])))))
    ≡ 105 ∷ 102 ∷ 32 ∷ 40 ∷ (c ++ (41 ∷ 32 ∷ 123 ∷ 10 ∷ (x ++ (125 ∷ 32 ∷ 101 ∷ 108 ∷ 115 ∷ 101 ∷ 32 ∷ 123 ∷ 10 ∷ (y ++ (125 ∷ 10 ∷ []))))))
branch_grouped c x y =
    ap (λ v. 105 ∷ 102 ∷ 32 ∷ 40 ∷ v)
    (append_assoc c (41 ∷ []) _ ∙ ap (λ v. c ++ (41 ∷ 32 ∷ 123 ∷ 10 ∷ v))
    (append_assoc x (125 ∷ []) _ ∙ ap (λ v. x ++ (125 ∷ 32 ∷ 101 ∷ 108 ∷ 115 ∷ 101 ∷ 32 ∷ 123 ∷ 10 ∷ v)) (append_assoc y (125 ∷ []) (10 ∷ []))))

loop_grouped : (c x : List ℕ) → 119 ∷ 104 ∷ 105 ∷ 108 ∷ 101 ∷ 32 ∷ ((40 ∷ (c ++ 41 ∷ [])) ++ (32 ∷ ((123 ∷ (10 ∷ x ++ 125 ∷ [])) ++ 10 ∷ []))) ≡ 119 ∷ 104 ∷ 105 ∷ 108 ∷ 101 ∷ 32 ∷ 40 ∷ (c ++ (41 ∷ 32 ∷ 123 ∷ 10 ∷ (x ++ (125 ∷ 10 ∷ []))))
loop_grouped c x = simp append_assoc refl

assume_grouped : (c : List ℕ) → 97 ∷ 115 ∷ 115 ∷ 117 ∷ 109 ∷ 101 ∷ 32 ∷ ((40 ∷ (c ++ 41 ∷ [])) ++ 59 ∷ 10 ∷ []) ≡ 97 ∷ 115 ∷ 115 ∷ 117 ∷ 109 ∷ 101 ∷ 32 ∷ 40 ∷ (c ++ 41 ∷ 59 ∷ 10 ∷ [])
assume_grouped c = simp append_assoc refl

module _ (M : Measure) where
  abbrev pub together : List ℕ → ℕ
  together [] = 0
  together (n ∷ ns) = M.c n (together ns)

  abbrev pub need_step : Stmt-F ℕ → ℕ
  need_step G.Skip = 0
  need_step (G.Assign i e) = (part M e).need
  need_step (G.AnyOf i) = 0
  need_step (G.Between i a b) = suc (M.c (part M a).need (part M b).need)
  need_step (G.Tick e) = (part M e).need
  need_step (G.Assume c) = suc (cond_part M c).need
  need_step (G.If c A B) = M.c (suc (cond_part M c).need) (M.c (M.b (together A)) (M.b (together B)))
  need_step (G.IfAny A B) = M.c 1 (M.c (M.b (together A)) (M.b (together B)))
  need_step (G.While c A) = M.c (suc (cond_part M c).need) (M.b (together A))
  need_step (G.WhileAny A) = M.c 1 (M.b (together A))

  pub need_of : Stmt → ℕ
  need_of S = fold-Stmt ℕ need_step S

  abbrev pub need_all : List Stmt → ℕ
  need_all A = together (map need_of A)

  pub need-Skip : need_of s.Skip ≡ 0
  unfolding need_of roll-Stmt denote.Hole.Carrier.roll
  need-Skip = fold-roll-Stmt ℕ need_step G.Skip

  pub need-Assign : (i : ℕ) (e : Expr) → need_of (s.Assign i e) ≡ (part M e).need
  unfolding need_of roll-Stmt denote.Hole.Carrier.roll
  need-Assign i e = fold-roll-Stmt ℕ need_step (G.Assign i e)

  pub need-AnyOf : (i : ℕ) → need_of (s.AnyOf i) ≡ 0
  unfolding need_of roll-Stmt denote.Hole.Carrier.roll
  need-AnyOf i = fold-roll-Stmt ℕ need_step (G.AnyOf i)

  pub need-Between : (i : ℕ) (a b : Expr) → need_of (s.Between i a b) ≡ suc (M.c (part M a).need (part M b).need)
  unfolding need_of roll-Stmt denote.Hole.Carrier.roll
  need-Between i a b = fold-roll-Stmt ℕ need_step (G.Between i a b)

  pub need-Tick : (e : Expr) → need_of (s.Tick e) ≡ (part M e).need
  unfolding need_of roll-Stmt denote.Hole.Carrier.roll
  need-Tick e = fold-roll-Stmt ℕ need_step (G.Tick e)

  pub need-Assume : (c : Cond) → need_of (s.Assume c) ≡ suc (cond_part M c).need
  unfolding need_of roll-Stmt denote.Hole.Carrier.roll
  need-Assume c = fold-roll-Stmt ℕ need_step (G.Assume c)

  pub need-If : (c : Cond) (A B : List Stmt) → need_of (s.If c A B) ≡ M.c (suc (cond_part M c).need) (M.c (M.b (need_all A)) (M.b (need_all B)))
  unfolding need_of roll-Stmt denote.Hole.Carrier.roll
  need-If c A B = fold-roll-Stmt ℕ need_step (G.If c A B)

  pub need-IfAny : (A B : List Stmt) → need_of (s.IfAny A B) ≡ M.c 1 (M.c (M.b (need_all A)) (M.b (need_all B)))
  unfolding need_of roll-Stmt denote.Hole.Carrier.roll
  need-IfAny A B = fold-roll-Stmt ℕ need_step (G.IfAny A B)

  pub need-While : (c : Cond) (A : List Stmt) → need_of (s.While c A) ≡ M.c (suc (cond_part M c).need) (M.b (need_all A))
  unfolding need_of roll-Stmt denote.Hole.Carrier.roll
  need-While c A = fold-roll-Stmt ℕ need_step (G.While c A)

  pub need-WhileAny : (A : List Stmt) → need_of (s.WhileAny A) ≡ M.c 1 (M.b (need_all A))
  unfolding need_of roll-Stmt denote.Hole.Carrier.roll
  need-WhileAny A = fold-roll-Stmt ℕ need_step (G.WhileAny A)

  -- ---- texts

  sized_as : (t u : List ℕ) (m n : ℕ) → t ≡ u → m ≡ n → TextSized M u n → TextSized M t m
  sized_as t u m n e f h = subst (λ v. TextSized M v m) (sym e) (subst (TextSized M u) (sym f) h)

  block_sized : (x : List ℕ) (i : ℕ) → TextSized M x i → TextSized M (123 ∷ (10 ∷ x ++ 125 ∷ [])) (M.b i)
  block_sized x i h = text_brace M (10 ∷ x) i h

  branch_sized : (c x y : List ℕ) (i j m : ℕ) → TextSized M c i → TextSized M x j → TextSized M y m
      → TextSized M (105 ∷ 102 ∷ 32 ∷ 40 ∷ (c ++ (41 ∷ 32 ∷ 123 ∷ 10 ∷ (x ++ (125 ∷ 32 ∷ 101 ∷ 108 ∷ 115 ∷ 101 ∷ 32 ∷ 123 ∷ 10 ∷ (y ++ (125 ∷ 10 ∷ []))))))) (M.c (suc i) (M.c (M.b j) (M.b m)))
  branch_sized c x y i j m h g f = subst (λ v. TextSized M v (M.c (suc i) (M.c (M.b j) (M.b m)))) (branch_grouped c x y)
      (text_join M (40 ∷ (c ++ 41 ∷ [])) (32 ∷ ((123 ∷ (10 ∷ x ++ 125 ∷ [])) ++ (32 ∷ 101 ∷ 108 ∷ 115 ∷ 101 ∷ 32 ∷ ((123 ∷ (10 ∷ y ++ 125 ∷ [])) ++ 10 ∷ [])))) (suc i) _ (text_round M c i h)
      (text_join M (123 ∷ (10 ∷ x ++ 125 ∷ [])) (32 ∷ 101 ∷ 108 ∷ 115 ∷ 101 ∷ 32 ∷ ((123 ∷ (10 ∷ y ++ 125 ∷ [])) ++ 10 ∷ [])) (M.b j) (M.b m) (block_sized x j g)
      (plain_after M (123 ∷ (10 ∷ y ++ 125 ∷ [])) (10 ∷ []) (M.b m) refl (block_sized y m f))))

  loop_sized : (c x : List ℕ) (i j : ℕ) → TextSized M c i → TextSized M x j
      → TextSized M (119 ∷ 104 ∷ 105 ∷ 108 ∷ 101 ∷ 32 ∷ 40 ∷ (c ++ (41 ∷ 32 ∷ 123 ∷ 10 ∷ (x ++ (125 ∷ 10 ∷ []))))) (M.c (suc i) (M.b j))
  loop_sized c x i j h g = subst (λ v. TextSized M v (M.c (suc i) (M.b j))) (loop_grouped c x)
      (text_join M (40 ∷ (c ++ 41 ∷ [])) (32 ∷ ((123 ∷ (10 ∷ x ++ 125 ∷ [])) ++ 10 ∷ [])) (suc i) (M.b j) (text_round M c i h)
      (plain_after M (123 ∷ (10 ∷ x ++ 125 ∷ [])) (10 ∷ []) (M.b j) refl (block_sized x j g)))

  module _ (names : List (List ℕ)) (are : AreNames names) where
    abbrev Matches : Stmt → Type 0
    Matches S = stmt_fits (length names) S ≡ true → TextSized M (stmt_text names S) (need_of S)

    abbrev MatchesAll : List Stmt → Type 0
    MatchesAll A = stmts_fit (length names) A ≡ true → TextSized M (stmts_text names A) (need_all A)

    all_sized : (A : List Stmt) → AllByRecursion Matches A → MatchesAll A
    all_sized [] h f = M.empty
    all_sized (S ∷ A) h f = text_join M (stmt_text names S) (stmts_text names A) (need_of S) (need_all A) (h.0 (and_left _ _ f)) (all_sized A h.1 (and_right _ _ f))

    name_plain : (i : ℕ) → i < length names → brackets_of (slice_index_or names i []) ≡ []
    name_plain i l = let n = are i l in word_plain (slice_index_or names i []) n.word

    stmt_layer : (L : Stmt-F Stmt) → EachStmt Matches L → Matches (roll-Stmt L)
    unfolding roll-Stmt denote.Hole.Carrier.roll
    stmt_layer G.Skip h f = sized_as _ _ _ _ (text-Skip names) need-Skip M.empty
    stmt_layer (G.Assign i e) h f =
        let z : (ltb i (length names) && fits (length names) e) ≡ true = sym (fits-Assign (length names) i e) ∙ f in
        sized_as _ _ _ _ (text-Assign names i e) (need-Assign i e)
        (plain_before M (slice_index_or names i []) _ _ (name_plain i (below (and_left _ _ z))) (plain_after M (expr_text names e) (59 ∷ 10 ∷ []) _ refl (expr_sized M names are e (and_right _ _ z))))
    stmt_layer (G.AnyOf i) h f =
        sized_as _ _ _ _ (text-AnyOf names i) (need-AnyOf i)
        (plain_before M (slice_index_or names i []) (32 ∷ 61 ∷ 32 ∷ 97 ∷ 110 ∷ 121 ∷ 59 ∷ 10 ∷ []) 0 (name_plain i (below (sym (fits-AnyOf (length names) i) ∙ f))) M.empty)
    stmt_layer (G.Between i a b) h f =
        let z : (ltb i (length names) && (fits (length names) a && fits (length names) b)) ≡ true = sym (fits-Between (length names) i a b) ∙ f in
        let y : (fits (length names) a && fits (length names) b) ≡ true = and_right _ _ z in
        let t : List ℕ = expr_text names a in
        let u : List ℕ = expr_text names b in
        sized_as _ _ _ _ (text-Between names i a b ∙ sym (between_grouped (slice_index_or names i []) t u)) (need-Between i a b)
        (plain_before M (slice_index_or names i []) (32 ∷ 61 ∷ 32 ∷ 97 ∷ 110 ∷ 121 ∷ (40 ∷ ((t ++ (44 ∷ 32 ∷ u)) ++ 41 ∷ [])) ++ 59 ∷ 10 ∷ []) _ (name_plain i (below (and_left _ _ z)))
        (plain_after M (40 ∷ ((t ++ (44 ∷ 32 ∷ u)) ++ 41 ∷ [])) (59 ∷ 10 ∷ []) _ refl (text_round M (t ++ (44 ∷ 32 ∷ u)) _ (text_join M t (44 ∷ 32 ∷ u) _ _ (expr_sized M names are a (and_left _ _ y)) (expr_sized M names are b (and_right _ _ y))))))
    stmt_layer (G.Tick e) h f =
        sized_as _ _ _ _ (text-Tick names e) (need-Tick e) (plain_after M (expr_text names e) (59 ∷ 10 ∷ []) _ refl (expr_sized M names are e (sym (fits-Tick (length names) e) ∙ f)))
    stmt_layer (G.Assume c) h f =
        sized_as _ _ _ _ (text-Assume names c ∙ sym (assume_grouped (cond_text names c))) (need-Assume c)
        (plain_after M (40 ∷ (cond_text names c ++ 41 ∷ [])) (59 ∷ 10 ∷ []) _ refl (text_round M (cond_text names c) _ (cond_sized M names are c (sym (fits-Assume (length names) c) ∙ f))))
    stmt_layer (G.If c A B) h f =
        let z : (cond_fits (length names) c && (stmts_fit (length names) A && stmts_fit (length names) B)) ≡ true = sym (fits-If (length names) c A B) ∙ f in
        let y : (stmts_fit (length names) A && stmts_fit (length names) B) ≡ true = and_right _ _ z in
        sized_as _ _ _ _ (text-If names c A B) (need-If c A B)
        (branch_sized (cond_text names c) (stmts_text names A) (stmts_text names B) _ _ _ (cond_sized M names are c (and_left _ _ z)) (all_sized A h.0 (and_left _ _ y)) (all_sized B h.1 (and_right _ _ y)))
    stmt_layer (G.IfAny A B) h f =
        let y : (stmts_fit (length names) A && stmts_fit (length names) B) ≡ true = sym (fits-IfAny (length names) A B) ∙ f in
        sized_as _ _ _ _ (text-IfAny names A B) (need-IfAny A B)
        (branch_sized (42 ∷ []) (stmts_text names A) (stmts_text names B) 0 _ _ M.empty (all_sized A h.0 (and_left _ _ y)) (all_sized B h.1 (and_right _ _ y)))
    stmt_layer (G.While c A) h f =
        let z : (cond_fits (length names) c && stmts_fit (length names) A) ≡ true = sym (fits-While (length names) c A) ∙ f in
        sized_as _ _ _ _ (text-While names c A) (need-While c A)
        (loop_sized (cond_text names c) (stmts_text names A) _ _ (cond_sized M names are c (and_left _ _ z)) (all_sized A h (and_right _ _ z)))
    stmt_layer (G.WhileAny A) h f =
        sized_as _ _ _ _ (text-WhileAny names A) (need-WhileAny A) (loop_sized (42 ∷ []) (stmts_text names A) 0 _ M.empty (all_sized A h (sym (fits-WhileAny (length names) A) ∙ f)))

    one_sized : (S : Stmt) → Matches S
    one_sized S = Stmt-induction Matches stmt_layer S

    each_sized : (A : List Stmt) → AllByRecursion Matches A
    each_sized [] = tt
    each_sized (S ∷ A) = (one_sized S, each_sized A)

    pub stmts_sized : (A : List Stmt) → MatchesAll A
    stmts_sized A = all_sized A (each_sized A)
