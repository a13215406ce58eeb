-- The edges that the code pushes, one after another.
use Rattle.std.specs.Prelude.{◌≡◌, ℕ, zero, suc, ◌+◌, List, [], ◌∷◌, ◌++◌, map, length, refl}
use Rattle.std.proofs.Common.{sym, ◌∙◌, ap, ap₂, add-one}
use Rattle.std.proofs.lemmas.List.{append_assoc, length_push}
use Rattle.std.specs.declared.vec.Vec.{Vec}
use Rattle.std.specs.declared.alloc.Global.{Global}
use Rattle.dc_affine.specs.declared.atom.Atom.{Atom}
use Rattle.dc_affine.specs.Atoms.{cases_of}
use Rattle.dc_poly.specs.Terms.{Polynomial}
use Rattle.dc_poly.specs.Sums.{variable}
use Rattle.dc_system.specs.declared.edges.Edge.{Edge}
use Rattle.dc_system.specs.Edges.{variables, test_edge, test_edges}

pub variables_next : (m k : ℕ) (o p : List Polynomial) (x : Polynomial) → x ≡ variable k m → p ≡ o ++ x ∷ [] → o ≡ variables m k → p ≡ variables m (k + 1)
variables_next m k o p x e f g = f ∙ ap₂ (λ y z. y ++ z ∷ []) g e ∙ ap (variables m) (sym (add-one k))

pub length-variables : (m k : ℕ) → length (variables m k) ≡ k
length-variables m zero = refl
length-variables m (suc k) = length_push (variables m k) (variable k m) ∙ add-one (length (variables m k)) ∙ ap suc (length-variables m k)

pub map-push : {A B : Type 0} (f : A → B) (xs : List A) (x : A) → map f (xs ++ x ∷ []) ≡ map f xs ++ f x ∷ []
map-push f [] x = refl
map-push f (y ∷ xs) x = ap (λ z. f y ∷ z) (map-push f xs x)

pub branch_next : (n k l : ℕ) (o p q : List Edge) (gs : List (Vec Atom Global)) (g : Vec Atom Global) (e : Edge) → e ≡ test_edge n k l g.items → q ≡ p ++ e ∷ [] → p ≡ o ++ test_edges n k l (cases_of gs) → q ≡ o ++ test_edges n k l (cases_of (gs ++ g ∷ []))
branch_next n k l o p q gs g e a b c =
    b ∙ ap₂ (λ y z. y ++ z ∷ []) c a ∙ append_assoc o (test_edges n k l (cases_of gs)) (test_edge n k l g.items ∷ [])
    ∙ ap (λ y. o ++ y) (sym (ap (map (test_edge n k l)) (map-push (λ (v : Vec Atom Global). v.items) gs g) ∙ map-push (test_edge n k l) (cases_of gs) g.items))

pub ruleset branching = (branch_next)
