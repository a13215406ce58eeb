-- What the parser gives fits, so that it has a text.
use Rattle.std.specs.List.{AllByRecursion}
use Rattle.std.proofs.Common.{◌≡◌, ℕ, Bool, true, ◌&&◌, ltb, List, [], ◌∷◌, map, length, refl, sym, ◌∙◌}
use Rattle.std.proofs.lemmas.Bool.{and_from}
use Rattle.dc_tokens.proofs.Front.{and_left, and_right}
use Rattle.dc_syntax.specs.declared.tree.Expr.{Expr}
use Rattle.dc_syntax.specs.declared.tree.Cond.{Cond}
use Rattle.dc_syntax.specs.declared.tree.Stmt.{Stmt, Stmt-F, roll-Stmt}
use Rattle.dc_syntax.specs.declared.tree.Stmt.TheOpen as H
use Rattle.dc_syntax.specs.Trees.{EachStmt}
use Rattle.dc_syntax.proofs.Inductions.{Stmt-induction}
use Rattle.dc_affine.specs.Forms.{is_below}
use Rattle.dc_affine.specs.Atoms.{cond_is_below}
use Rattle.dc_affine.specs.Whole.{statement_passes, pass_step, all_pass}
use Rattle.dc_affine.specs.Whole as whole
use Rattle.dc_program.specs.Limits.{is_limited, cond_is_limited, statement_limited, limits_step, stmt_is_limited, all_limited}
use Rattle.dc_program.specs.Programs.{IsProgram}
use Rattle.dc_syntax.specs.declared.tree.Proc.{Proc}
use Rattle.dc_parse.proofs.Folds.{at_assign, at_any_of, at_between, at_tick, at_assume, at_if, at_if_any, at_while, at_while_any}
use Rattle.dc_printed.specs.Fits.{IsName, AreNames, IsWritable, fits, cond_fits, stmt_fits, stmts_fit}
use Rattle.dc_printed.proofs.StmtParts.{fits-Skip, fits-Assign, fits-AnyOf, fits-Between, fits-Tick, fits-Assume, fits-If, fits-IfAny, fits-While, fits-WhileAny}

module _ (n : ℕ) where
  -- what is below and limited fits
  one_fits : (e : Expr) → is_below n e ≡ true → is_limited e ≡ true → fits n e ≡ true
  one_fits e f l = and_from _ _ f (and_left _ _ l)

  one_cond_fits : (c : Cond) → cond_is_below n c ≡ true → cond_is_limited c ≡ true → cond_fits n c ≡ true
  one_cond_fits c f l = and_from _ _ f (and_left _ _ l)

  abbrev StmtFits : Stmt → Type 0
  StmtFits S = statement_passes n S ≡ true → stmt_is_limited S ≡ true → stmt_fits n S ≡ true

  -- the first of three tests, and the last
  first_of : (a b c : Bool) → (a && b && c) ≡ true → a ≡ true
  first_of a b c h = and_left a b (and_left _ c h)

  last_of : (a b c : Bool) → (a && b && c) ≡ true → c ≡ true
  last_of a b c h = and_right _ c h

  -- the tests of the statements inside one
  passes_inside : (L : Stmt-F Bool) → pass_step n L ≡ true → whole.inner L ≡ true
  passes_inside L h = last_of (whole.statement_below n L) (whole.no_fault (whole.statement_fault n L)) (whole.inner L) h

  limited_inside : (L : Stmt-F Bool) → limits_step L ≡ true → whole.inner L ≡ true
  limited_inside L h = and_right (statement_limited L) (whole.inner L) h

  all_fit : (A : List Stmt) → AllByRecursion StmtFits A → whole.each (map (statement_passes n) A) ≡ true → whole.each (map stmt_is_limited A) ≡ true → stmts_fit n A ≡ true
  all_fit [] h f l = refl
  all_fit (S ∷ A) h f l = and_from _ _ (h.0 (and_left _ _ f) (and_left _ _ l)) (all_fit A h.1 (and_right _ _ f) (and_right _ _ l))

  stmt_layer : (L : Stmt-F Stmt) → EachStmt StmtFits L → StmtFits (roll-Stmt L)
  unfolding roll-Stmt denote.Hole.Carrier.roll
  stmt_layer H.Skip h f l = fits-Skip n
  stmt_layer (H.Assign i e) h f l =
      let z = first_of _ _ _ (sym (at_assign Bool (pass_step n) i e) ∙ f) in
      fits-Assign n i e ∙ and_from _ _ (and_left _ _ z) (one_fits e (and_right _ _ z) (and_left _ _ (sym (at_assign Bool limits_step i e) ∙ l)))
  stmt_layer (H.AnyOf i) h f l = fits-AnyOf n i ∙ first_of _ _ _ (sym (at_any_of Bool (pass_step n) i) ∙ f)
  stmt_layer (H.Between i a b) h f l =
      let z : (ltb i n && is_below n a && is_below n b) ≡ true = first_of _ _ _ (sym (at_between Bool (pass_step n) i a b) ∙ f) in
      let w = and_left _ _ z in
      let y : (is_limited a && is_limited b) ≡ true = and_left _ _ (sym (at_between Bool limits_step i a b) ∙ l) in
      fits-Between n i a b ∙ and_from _ _ (and_left _ _ w) (and_from _ _ (one_fits a (and_right _ _ w) (and_left _ _ y)) (one_fits b (and_right _ _ z) (and_right _ _ y)))
  stmt_layer (H.Tick e) h f l = fits-Tick n e ∙ one_fits e (first_of _ _ _ (sym (at_tick Bool (pass_step n) e) ∙ f)) (and_left _ _ (sym (at_tick Bool limits_step e) ∙ l))
  stmt_layer (H.Assume c) h f l = fits-Assume n c ∙ one_cond_fits c (first_of _ _ _ (sym (at_assume Bool (pass_step n) c) ∙ f)) (and_left _ _ (sym (at_assume Bool limits_step c) ∙ l))
  stmt_layer (H.If c A B) h f l =
      let z = sym (at_if Bool (pass_step n) c A B) ∙ f in
      let w = passes_inside (H.If c (map (statement_passes n) A) (map (statement_passes n) B)) z in
      let y = sym (at_if Bool limits_step c A B) ∙ l in
      let x = limited_inside (H.If c (map stmt_is_limited A) (map stmt_is_limited B)) y in
      fits-If n c A B ∙ and_from _ _ (one_cond_fits c (first_of _ _ _ z) (and_left _ _ y)) (and_from _ _ (all_fit A h.0 (and_left _ _ w) (and_left _ _ x)) (all_fit B h.1 (and_right _ _ w) (and_right _ _ x)))
  stmt_layer (H.IfAny A B) h f l =
      let w = passes_inside (H.IfAny (map (statement_passes n) A) (map (statement_passes n) B)) (sym (at_if_any Bool (pass_step n) A B) ∙ f) in
      let x = limited_inside (H.IfAny (map stmt_is_limited A) (map stmt_is_limited B)) (sym (at_if_any Bool limits_step A B) ∙ l) in
      fits-IfAny n A B ∙ and_from _ _ (all_fit A h.0 (and_left _ _ w) (and_left _ _ x)) (all_fit B h.1 (and_right _ _ w) (and_right _ _ x))
  stmt_layer (H.While c A) h f l =
      let z = sym (at_while Bool (pass_step n) c A) ∙ f in
      let y = sym (at_while Bool limits_step c A) ∙ l in
      fits-While n c A ∙ and_from _ _ (one_cond_fits c (first_of _ _ _ z) (and_left _ _ y)) (all_fit A h (passes_inside (H.While c (map (statement_passes n) A)) z) (limited_inside (H.While c (map stmt_is_limited A)) y))
  stmt_layer (H.WhileAny A) h f l =
      fits-WhileAny n A ∙ all_fit A h (passes_inside (H.WhileAny (map (statement_passes n) A)) (sym (at_while_any Bool (pass_step n) A) ∙ f)) (limited_inside (H.WhileAny (map stmt_is_limited A)) (sym (at_while_any Bool limits_step A) ∙ l))

  every : (A : List Stmt) → AllByRecursion StmtFits A
  every [] = tt
  every (S ∷ A) = (Stmt-induction StmtFits stmt_layer S, every A)

  passes_each : (A : List Stmt) → all_pass n A ≡ true → whole.each (map (statement_passes n) A) ≡ true
  passes_each [] h = refl
  passes_each (S ∷ A) h = and_from _ _ (and_left _ _ h) (passes_each A (and_right _ _ h))

  pub body_fits : (A : List Stmt) → all_pass n A ≡ true → all_limited A ≡ true → stmts_fit n A ≡ true
  body_fits A f l = all_fit A (every A) (passes_each A f) l

pub writable : (p : Proc) → IsProgram p → IsName p.name → AreNames p.names → IsWritable p
writable p h n are = record {
  name = n;
  names = are;
  different = h.different;
  params = h.params;
  body = body_fits (length p.names) p.body h.forms h.limited;
}
