-- What a statement that passes has, by its kind.
use Rattle.std.specs.Prelude.{◌≡◌, ℕ, ◌+◌, ◌<◌, Bool, true, false, ◌&&◌, ltb, List, [], ◌∷◌, map, length, Some, None, refl}
use Rattle.std.specs.declared.option.Option.{Option}
use Rattle.std.proofs.Common.{sym, ◌∙◌, ap, drop, get_or}
use Rattle.std.proofs.lemmas.Bool.{ltb-true, and_parts}
use Rattle.std.proofs.lemmas.List.{drop_more}
use Rattle.dc_syntax.specs.declared.tree.Expr.{Expr}
use Rattle.dc_syntax.specs.declared.tree.Cond.{Cond}
use Rattle.dc_syntax.specs.declared.tree.Stmt.{Stmt, Stmt-F, out-Stmt, map-Stmt, fold_out-Stmt}
use Rattle.dc_syntax.specs.declared.tree.Stmt.TheOpen.{Assign, AnyOf, Between, Tick, Assume, If, IfAny, While, WhileAny}
use Rattle.dc_syntax.specs.declared.tree.Stmt.TheVariants as v
use Rattle.dc_affine.specs.declared.form.FormFault.{FormFault}
use Rattle.dc_affine.specs.Forms.{is_below, fault_of, affine_fault}
use Rattle.dc_affine.specs.Atoms.{cond_is_below, dnf_fault}
use Rattle.dc_affine.specs.Whole.{statement_fault, statement_below, no_fault, each, inner, pass_step, statement_passes, all_pass}
use Rattle.dc_affine.proofs.FormLaws.{none_parts}

pub passes_in : (n : ℕ) (S : Stmt) (L : Stmt-F Stmt) → out-Stmt S ≡ L → statement_passes n S ≡ true → pass_step n (map-Stmt Stmt Bool (statement_passes n) L) ≡ true
passes_in n S L o h = ap (λ l. pass_step n (map-Stmt Stmt Bool (statement_passes n) l)) (sym o) ∙ sym (fold_out-Stmt Bool (pass_step n) S) ∙ h

none_of : (o : Option FormFault) → no_fault o ≡ true → o ≡ None
none_of None h = refl
none_of (Some f) h = cc

pub each_all : (n : ℕ) (A : List Stmt) → each (map (statement_passes n) A) ≡ all_pass n A
each_all n [] = refl
each_all n (S ∷ R) = ap (λ b. statement_passes n S && b) (each_all n R)

-- its own part, and that of the statements inside it
pub record Parts (n : ℕ) (L : Stmt-F Bool) : Type 0 where
  pub below : statement_below n L ≡ true
  pub faultless : statement_fault n L ≡ None
  pub inside : inner L ≡ true

pub parts : (n : ℕ) (L : Stmt-F Bool) → pass_step n L ≡ true → Parts n L
parts n L h =
    let p = and_parts (statement_below n L && no_fault (statement_fault n L)) (inner L) h in
    let q = and_parts (statement_below n L) (no_fault (statement_fault n L)) p.0 in
    record { below = q.0; faultless = none_of (statement_fault n L) q.1; inside = p.1 }

abbrev PartsOf : ℕ → Stmt-F Stmt → Type 0
PartsOf n L = Parts n (map-Stmt Stmt Bool (statement_passes n) L)

parts_of : (n : ℕ) (S : Stmt) (L : Stmt-F Stmt) → out-Stmt S ≡ L → statement_passes n S ≡ true → PartsOf n L
parts_of n S L o h = parts n (map-Stmt Stmt Bool (statement_passes n) L) (passes_in n S L o h)

pub record AssignPasses (n x : ℕ) (e : Expr) : Type 0 where
  pub target : x < n
  pub below : is_below n e ≡ true
  pub faultless : fault_of n e ≡ None

pub passes-Assign : (n : ℕ) (S : Stmt) (x : ℕ) (e : Expr) → S ≡ v.Assign x e → statement_passes n S ≡ true → AssignPasses n x e
passes-Assign n S x e q h =
    let r = parts_of n S (Assign x e) (ap out-Stmt q ∙ v.outs-Assign x e) h in
    let b = and_parts (ltb x n) (is_below n e) r.below in
    record { target = ltb-true x n b.0; below = b.1; faultless = r.faultless }

pub passes-AnyOf : (n : ℕ) (S : Stmt) (x : ℕ) → S ≡ v.AnyOf x → statement_passes n S ≡ true → x < n
passes-AnyOf n S x q h = let r = parts_of n S (AnyOf x) (ap out-Stmt q ∙ v.outs-AnyOf x) h in ltb-true x n r.below

pub record BetweenPasses (n x : ℕ) (a b : Expr) : Type 0 where
  pub target : x < n
  pub below : (is_below n a ≡ true) × (is_below n b ≡ true)
  pub faultless : (affine_fault n a ≡ None) × (affine_fault n b ≡ None)

pub passes-Between : (n : ℕ) (S : Stmt) (x : ℕ) (a b : Expr) → S ≡ v.Between x a b → statement_passes n S ≡ true → BetweenPasses n x a b
passes-Between n S x a b q h =
    let r = parts_of n S (Between x a b) (ap out-Stmt q ∙ v.outs-Between x a b) h in
    let p = and_parts (ltb x n && is_below n a) (is_below n b) r.below in
    let o = and_parts (ltb x n) (is_below n a) p.0 in
    record { target = ltb-true x n o.0; below = (o.1, p.1); faultless = none_parts (affine_fault n a) (affine_fault n b) r.faultless }

pub record TickPasses (n : ℕ) (e : Expr) : Type 0 where
  pub below : is_below n e ≡ true
  pub faultless : fault_of n e ≡ None

pub passes-Tick : (n : ℕ) (S : Stmt) (e : Expr) → S ≡ v.Tick e → statement_passes n S ≡ true → TickPasses n e
passes-Tick n S e q h = let r = parts_of n S (Tick e) (ap out-Stmt q ∙ v.outs-Tick e) h in record { below = r.below; faultless = r.faultless }

pub record TestPasses (n : ℕ) (c : Cond) : Type 0 where
  pub below : cond_is_below n c ≡ true
  pub faultless : dnf_fault n c false ≡ None

pub passes-Assume : (n : ℕ) (S : Stmt) (c : Cond) → S ≡ v.Assume c → statement_passes n S ≡ true → TestPasses n c
passes-Assume n S c q h = let r = parts_of n S (Assume c) (ap out-Stmt q ∙ v.outs-Assume c) h in record { below = r.below; faultless = r.faultless }

pub record ChoicePasses (n : ℕ) (c : Cond) : Type 0 where
  pub below : cond_is_below n c ≡ true
  pub yes : dnf_fault n c false ≡ None
  pub no : dnf_fault n c true ≡ None

pub passes-If : (n : ℕ) (S : Stmt) (c : Cond) (A B : List Stmt) → S ≡ v.If c A B → statement_passes n S ≡ true → ChoicePasses n c × (all_pass n A ≡ true) × (all_pass n B ≡ true)
passes-If n S c A B q h =
    let r = parts_of n S (If c A B) (ap out-Stmt q ∙ v.outs-If c A B) h in
    let p = none_parts (dnf_fault n c false) (dnf_fault n c true) r.faultless in
    let i = and_parts (each (map (statement_passes n) A)) (each (map (statement_passes n) B)) r.inside in
    (record { below = r.below; yes = p.0; no = p.1 }, sym (each_all n A) ∙ i.0, sym (each_all n B) ∙ i.1)

pub passes-IfAny : (n : ℕ) (S : Stmt) (A B : List Stmt) → S ≡ v.IfAny A B → statement_passes n S ≡ true → (all_pass n A ≡ true) × (all_pass n B ≡ true)
passes-IfAny n S A B q h =
    let r = parts_of n S (IfAny A B) (ap out-Stmt q ∙ v.outs-IfAny A B) h in
    let i = and_parts (each (map (statement_passes n) A)) (each (map (statement_passes n) B)) r.inside in
    (sym (each_all n A) ∙ i.0, sym (each_all n B) ∙ i.1)

pub passes-While : (n : ℕ) (S : Stmt) (c : Cond) (A : List Stmt) → S ≡ v.While c A → statement_passes n S ≡ true → ChoicePasses n c × (all_pass n A ≡ true)
passes-While n S c A q h =
    let r = parts_of n S (While c A) (ap out-Stmt q ∙ v.outs-While c A) h in
    let p = none_parts (dnf_fault n c false) (dnf_fault n c true) r.faultless in
    (record { below = r.below; yes = p.0; no = p.1 }, sym (each_all n A) ∙ r.inside)

pub passes-WhileAny : (n : ℕ) (S : Stmt) (A : List Stmt) → S ≡ v.WhileAny A → statement_passes n S ≡ true → all_pass n A ≡ true
passes-WhileAny n S A q h = let r = parts_of n S (WhileAny A) (ap out-Stmt q ∙ v.outs-WhileAny A) h in sym (each_all n A) ∙ r.inside

-- the statement at an index of a body, and those behind it
pub passes_at : (n i : ℕ) (body : List Stmt) (d : Stmt) → i < length body → d ≡ get_or body i d → all_pass n (drop i body) ≡ true → (statement_passes n d ≡ true) × (all_pass n (drop (i + 1) body) ≡ true)
passes_at n i body d h e k =
    let p = and_parts (statement_passes n (get_or body i d)) (all_pass n (drop (i + 1) body)) (sym (ap (all_pass n) (drop_more body i d h)) ∙ k) in
    (ap (statement_passes n) e ∙ p.0, p.1)
