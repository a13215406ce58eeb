-- The steps of the loops that cross lists of cases.
use Rattle.std.specs.Prelude.{◌≡◌, ℕ, ◌+◌, ◌<◌, ◌≤◌, List, [], ◌∷◌, ◌++◌, length, get_or, drop, refl}
use Rattle.std.specs.declared.vec.Vec.{Vec}
use Rattle.std.specs.declared.alloc.Global.{Global}
use Rattle.std.proofs.Common.{sym, ◌∙◌, ap}
use Rattle.std.proofs.lemmas.List.{append_assoc, append-nil, drop_more, drop_all}
use Rattle.dc_affine.specs.declared.atom.Atom.{Atom}
use Rattle.dc_affine.specs.Table.{after, crossed}
use Rattle.dc_affine.specs.Atoms.{cases_of}

abbrev Case : Type 0
Case = Vec Atom Global

pub cases-++ : (v w : List Case) → cases_of (v ++ w) ≡ cases_of v ++ cases_of w
cases-++ [] w = refl
cases-++ (x ∷ v) w = ap (λ y. x.items ∷ y) (cases-++ v w)

pub cases-drop : (i : ℕ) (cs : List Case) (v : Case) → i < length cs → v ≡ get_or cs i v → cases_of (drop i cs) ≡ v.items ∷ cases_of (drop (i + 1) cs)
cases-drop i cs v h e = ap cases_of (drop_more cs i v h ∙ ap (λ y. y ∷ drop (i + 1) cs) (sym e))

pub extended_step : (i : ℕ) (cs o p : List Case) (v b : Case) (f : List Atom) (r : List (List Atom)) → i < length cs → v ≡ get_or cs i v → b.items ≡ f ++ v.items → p ≡ o ++ b ∷ []
    → cases_of o ++ after f (cases_of (drop i cs)) ≡ r → cases_of p ++ after f (cases_of (drop (i + 1) cs)) ≡ r
extended_step i cs o p v b f r h e g k x =
    ap (λ y. y ++ after f (cases_of (drop (i + 1) cs))) (ap cases_of k ∙ cases-++ o (b ∷ []) ∙ ap (λ y. cases_of o ++ y ∷ []) g)
    ∙ append_assoc (cases_of o) ((f ++ v.items) ∷ []) (after f (cases_of (drop (i + 1) cs)))
    ∙ ap (λ y. cases_of o ++ after f y) (sym (cases-drop i cs v h e)) ∙ x

pub extended_done : (i : ℕ) (cs o : List Case) (f : List Atom) (r : List (List Atom)) → length cs ≤ i → cases_of o ++ after f (cases_of (drop i cs)) ≡ r → cases_of o ≡ r
extended_done i cs o f r h x = sym (append-nil (cases_of o)) ∙ ap (λ y. cases_of o ++ after f (cases_of y)) (sym (drop_all i cs h)) ∙ x

pub cross_step : (i : ℕ) (cs : List Case) (o p : List Case) (v : Case) (g r : List (List Atom)) → i < length cs → v ≡ get_or cs i v → cases_of p ≡ cases_of o ++ after v.items g
    → cases_of o ++ crossed (cases_of (drop i cs)) g ≡ r → cases_of p ++ crossed (cases_of (drop (i + 1) cs)) g ≡ r
cross_step i cs o p v g r h e k x =
    ap (λ y. y ++ crossed (cases_of (drop (i + 1) cs)) g) k
    ∙ append_assoc (cases_of o) (after v.items g) (crossed (cases_of (drop (i + 1) cs)) g)
    ∙ ap (λ y. cases_of o ++ crossed y g) (sym (cases-drop i cs v h e)) ∙ x

pub cross_done : (i : ℕ) (cs o : List Case) (g r : List (List Atom)) → length cs ≤ i → cases_of o ++ crossed (cases_of (drop i cs)) g ≡ r → cases_of o ≡ r
cross_done i cs o g r h x = sym (append-nil (cases_of o)) ∙ ap (λ y. cases_of o ++ crossed (cases_of y) g) (sym (drop_all i cs h)) ∙ x

pub ruleset crossing = (extended_step, extended_done, cross_step, cross_done, cases-++)
