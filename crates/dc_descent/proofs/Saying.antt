-- What a source says, by its parts.
use Rattle.std.proofs.Common.{◌≡◌, ℕ, List, [], ◌++◌, length, map, refl, sym, ap, ◌∙◌, subst, Some, None}
use Rattle.std.specs.declared.option.Option.{Option}
use Rattle.std.specs.Option.{option_or}
use Rattle.dc_tokens.specs.declared.token.Token.{Token}
use Rattle.dc_grammar.specs.Grammar.{Tree, leaf, pair}
use Rattle.dc_syntax.specs.declared.tree.Stmt.{Stmt}
use Rattle.dc_descent.specs.declared.fault.Fault.{Fault}
use Rattle.dc_descent.specs.declared.sources.Body.{Body}
use Rattle.dc_descent.specs.Trees.{leaves}
use Rattle.dc_descent.specs.Scopes.{spelled, place_in}
use Rattle.dc_descent.specs.Statements.{stmts_of, starts_of, IsWith}
use Rattle.dc_descent.specs.Faults.{declared_fault, used_fault}
use Rattle.dc_descent.specs.Sources.{params_in, locals_in, IsBody, IsSource}

same_or : (d u v : Option Fault) → (d ≡ None → u ≡ v) → option_or d u ≡ option_or d v
same_or None u v h = h refl
same_or (Some f) u v h = refl

none_first : (d u : Option Fault) → option_or d u ≡ None → d ≡ None
none_first None u h = refl
none_first (Some f) u h = absurd cc

-- the fault of the declarations, or else that of the uses, with the names as they were declared
pub body_says : (text : List ℕ) (ts : List Token) (a : Tree Token) (d : Option Fault) (names known : List (List ℕ)) (x : Body) (old new : List ℕ) (s : List Stmt)
    → d ≡ declared_fault text [] ts → (d ≡ None → names ≡ map (spelled text) ts) → known ≡ names
    → x.names ≡ names → x.fault ≡ option_or d (used_fault text known (leaves a))
    → IsWith (stmts_of (place_in text known)) starts_of old new a s → x.stmts ≡ s → old ≡ [] → x.starts.items ≡ new
    → IsBody text ts a x
body_says text ts a d names known x old new s h g k n e w m o q =
    let said : d ≡ None → known ≡ map (spelled text) ts = λ z. k ∙ g z in
    let first : x.fault ≡ None → d ≡ None = λ z. none_first d (used_fault text known (leaves a)) (sym e ∙ z) in
    record {
      fault = e ∙ (same_or d (used_fault text known (leaves a)) (used_fault text (map (spelled text) ts) (leaves a)) (λ z. ap (λ v. used_fault text v (leaves a)) (said z))
          ∙ ap (λ z. option_or z (used_fault text (map (spelled text) ts) (leaves a))) h);
      names = λ z. n ∙ g (first z);
      stmts = λ z. m ∙ (sym w.said ∙ ap (λ v. stmts_of (place_in text v) a) (said (first z)));
      starts = q ∙ (w.begun ∙ ap (λ z. z ++ starts_of a) o);
    }

pub or_some : (d : Option Fault) (f : Fault) (u x : Option Fault) → d ≡ Some f → x ≡ Some f → x ≡ option_or d u
or_some d f u x e h = h ∙ ap (λ z. option_or z u) (sym e)

pub or_none : (d u v x : Option Fault) → d ≡ None → x ≡ v → v ≡ u → x ≡ option_or d u
or_none d u v x e h g = h ∙ (g ∙ ap (λ z. option_or z u) (sym e))

pub source_says : (text : List ℕ) (t1 t2 t3 t4 t5 t6 : Token) (ps ls ss : Tree Token) (f0 f1 f2 ts : List Token) (count : ℕ) (b : Body)
    → f0 ≡ [] → f1 ≡ f0 ++ params_in ps → f2 ≡ f1 ++ locals_in ls → ts ≡ f2 → count ≡ length f1 → IsBody text ts ss b
    → IsSource text (pair (leaf t1) (pair (leaf t2) (pair (leaf t3) (pair ps (pair (leaf t4) (pair (leaf t5) (pair ls (pair ss (leaf t6))))))))) (record { name = t2; params = count; body = b })
source_says text t1 t2 t3 t4 t5 t6 ps ls ss f0 f1 f2 ts count b e f g h n i =
    let p : f1 ≡ params_in ps = f ∙ ap (λ z. z ++ params_in ps) e in
    let q : ts ≡ params_in ps ++ locals_in ls = h ∙ (g ∙ ap (λ z. z ++ locals_in ls) p) in
    let j : IsBody text (params_in ps ++ locals_in ls) ss b = subst (λ v. IsBody text v ss b) q i in
    record { name = refl; params = n ∙ ap length p; fault = j.fault; names = j.names; stmts = j.stmts; starts = j.starts }
