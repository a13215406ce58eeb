-- Statements without a fault pass.
use Rattle.std.specs.List.{AllByRecursion}
use Rattle.std.proofs.Common.{◌≡◌, ℕ, Bool, true, false, ◌&&◌, List, [], ◌∷◌, ◌++◌, map, refl, sym, ap, ◌∙◌, Some, None}
use Rattle.std.specs.declared.option.Option.{Option}
use Rattle.std.proofs.lemmas.Bool.{and_parts, and_from}
use Rattle.dc_syntax.specs.declared.tree.Stmt.{Stmt, Stmt-F, roll-Stmt, map-Stmt, fold-roll-Stmt}
use Rattle.dc_syntax.specs.declared.tree.Stmt.TheOpen.{Skip, Assign, AnyOf, Between, Tick, Assume, If, IfAny, While, WhileAny}
use Rattle.dc_syntax.specs.Trees.{EachStmt}
use Rattle.dc_syntax.proofs.Inductions.{Stmt-induction}
use Rattle.dc_affine.specs.declared.form.FormFault.{FormFault}
use Rattle.dc_affine.specs.Whole.{statement_fault, statement_below, no_fault, each, inner, pass_step, statement_passes, all_pass}
use Rattle.dc_parse.specs.Forms.{faults_step, faults_in, all_faults, first_form, below_step, stmt_below, all_below}
use Rattle.dc_parse.specs.Steps.{after_all}
use Rattle.dc_parse.proofs.Layers.{inside, faults_layer}
use Rattle.dc_parse.proofs.Naming.{none_both}
use Rattle.dc_parse.proofs.Stopping.{first_both}

module _ (n : ℕ) where
  -- where it starts anywhere, without a fault
  abbrev Passes : Stmt → Type 0
  Passes S = (ps : List ℕ) → stmt_below n S ≡ true → first_form ps (faults_in n S) ≡ None → statement_passes n S ≡ true

  list_passes : (A : List Stmt) → AllByRecursion Passes A → (ps : List ℕ) → all_below n A ≡ true → first_form ps (all_faults n A) ≡ None → each (map (statement_passes n) A) ≡ true
  list_passes [] h ps b f = refl
  list_passes (S ∷ R) h ps b f =
      let p : _ = and_parts (stmt_below n S) (all_below n R) b in
      let q : _ = none_both (first_form ps (faults_in n S)) (first_form (after_all (faults_in n S) ps) (all_faults n R)) (sym (first_both (faults_in n S) (all_faults n R) ps) ∙ f) in
      and_from _ _ (h.0 ps p.0 q.0) (list_passes R h.1 (after_all (faults_in n S) ps) p.1 q.1)

  inner_passes : (L : Stmt-F Stmt) → EachStmt Passes L → (ps : List ℕ) → inner (map-Stmt Stmt Bool (stmt_below n) L) ≡ true → first_form ps (inside n L) ≡ None → inner (map-Stmt Stmt Bool (statement_passes n) L) ≡ true
  inner_passes (If c A B) h ps b f =
      let p : _ = and_parts (all_below n A) (all_below n B) b in
      let q : _ = none_both (first_form ps (all_faults n A)) (first_form (after_all (all_faults n A) ps) (all_faults n B)) (sym (first_both (all_faults n A) (all_faults n B) ps) ∙ f) in
      and_from _ _ (list_passes A h.0 ps p.0 q.0) (list_passes B h.1 (after_all (all_faults n A) ps) p.1 q.1)
  inner_passes (IfAny A B) h ps b f =
      let p : _ = and_parts (all_below n A) (all_below n B) b in
      let q : _ = none_both (first_form ps (all_faults n A)) (first_form (after_all (all_faults n A) ps) (all_faults n B)) (sym (first_both (all_faults n A) (all_faults n B) ps) ∙ f) in
      and_from _ _ (list_passes A h.0 ps p.0 q.0) (list_passes B h.1 (after_all (all_faults n A) ps) p.1 q.1)
  inner_passes (While c A) h ps b f = list_passes A h ps b f
  inner_passes (WhileAny A) h ps b f = list_passes A h ps b f
  inner_passes Skip h ps b f = refl
  inner_passes (Assign k e) h ps b f = refl
  inner_passes (AnyOf k) h ps b f = refl
  inner_passes (Between k a c) h ps b f = refl
  inner_passes (Tick e) h ps b f = refl
  inner_passes (Assume c) h ps b f = refl

  -- the layers of tests say the same of a statement alone
  same_below : (L : Stmt-F Stmt) → statement_below n (map-Stmt Stmt Bool (stmt_below n) L) ≡ statement_below n (map-Stmt Stmt Bool (statement_passes n) L)
  same_below (If c A B) = refl
  same_below (IfAny A B) = refl
  same_below (While c A) = refl
  same_below (WhileAny A) = refl
  same_below Skip = refl
  same_below (Assign k e) = refl
  same_below (AnyOf k) = refl
  same_below (Between k a c) = refl
  same_below (Tick e) = refl
  same_below (Assume c) = refl

  same_fault : (L : Stmt-F Stmt) → statement_fault n L ≡ statement_fault n (map-Stmt Stmt Bool (statement_passes n) L)
  same_fault (If c A B) = refl
  same_fault (IfAny A B) = refl
  same_fault (While c A) = refl
  same_fault (WhileAny A) = refl
  same_fault Skip = refl
  same_fault (Assign k e) = refl
  same_fault (AnyOf k) = refl
  same_fault (Between k a c) = refl
  same_fault (Tick e) = refl
  same_fault (Assume c) = refl

  own_none : (o : Option FormFault) (ps : List ℕ) → first_form ps (o ∷ []) ≡ None → no_fault o ≡ true
  own_none None ps h = refl
  own_none (Some f) ps h = absurd cc

  three : (a b c : Bool) → a ≡ true → b ≡ true → c ≡ true → (a && b && c) ≡ true
  three true true true e f g = refl
  three false b c e f g = absurd cc
  three true false c e f g = absurd cc
  three true true false e f g = absurd cc

  layer_passes : (L : Stmt-F Stmt) → EachStmt Passes L → Passes (roll-Stmt L)
  layer_passes L h ps b f =
      let s : stmt_below n (roll-Stmt L) ≡ below_step n (map-Stmt Stmt Bool (stmt_below n) L) = fold-roll-Stmt Bool (below_step n) L in
      let g : faults_in n (roll-Stmt L) ≡ (statement_fault n L ∷ []) ++ inside n L = fold-roll-Stmt (List (Option FormFault)) (faults_step n) L ∙ faults_layer n L in
      let p : _ = and_parts (statement_below n (map-Stmt Stmt Bool (stmt_below n) L)) (inner (map-Stmt Stmt Bool (stmt_below n) L)) (sym s ∙ b) in
      let q : _ = none_both (first_form ps (statement_fault n L ∷ [])) (first_form (after_all (statement_fault n L ∷ []) ps) (inside n L)) (sym (first_both (statement_fault n L ∷ []) (inside n L) ps) ∙ (ap (first_form ps) (sym g) ∙ f)) in
      fold-roll-Stmt Bool (pass_step n) L
      ∙ three (statement_below n (map-Stmt Stmt Bool (statement_passes n) L)) (no_fault (statement_fault n (map-Stmt Stmt Bool (statement_passes n) L))) (inner (map-Stmt Stmt Bool (statement_passes n) L))
      (sym (same_below L) ∙ p.0) (ap no_fault (sym (same_fault L)) ∙ own_none (statement_fault n L) ps q.0) (inner_passes L h (after_all (statement_fault n L ∷ []) ps) p.1 q.1)

  stmt_passes : (S : Stmt) → Passes S
  stmt_passes = Stmt-induction Passes layer_passes

  all_stmts : (A : List Stmt) → AllByRecursion Passes A
  all_stmts [] = tt
  all_stmts (S ∷ R) = (stmt_passes S, all_stmts R)

  all_pass_each : (A : List Stmt) → all_pass n A ≡ each (map (statement_passes n) A)
  all_pass_each [] = refl
  all_pass_each (S ∷ R) = ap (λ z. statement_passes n S && z) (all_pass_each R)

  pub forms_pass : (A : List Stmt) (ps : List ℕ) → all_below n A ≡ true → first_form ps (all_faults n A) ≡ None → all_pass n A ≡ true
  forms_pass A ps b f = all_pass_each A ∙ list_passes A (all_stmts A) ps b f
