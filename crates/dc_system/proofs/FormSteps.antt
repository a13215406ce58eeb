-- What putting values into forms wants, and the steps of the loops that do.
use Rattle.std.specs.Prelude.{◌≡◌, ℕ, ◌+◌, ◌*◌, ◌^◌, ◌≤◌, ◌<◌, true, false, ◌&&◌, List, [], ◌∷◌, ◌++◌, drop, length, get_or}
use Rattle.std.specs.List.{AllByRecursion}
use Rattle.std.proofs.Common.{sym, ◌∙◌, ap, subst, arith}
use Rattle.std.proofs.lemmas.List.{append_assoc, append-nil, drop_more, drop_all}
use Rattle.dc_math.specs.Members.{each_is}
use Rattle.dc_poly.specs.Terms.{degree_of, weight, Polynomial}
use Rattle.dc_poly.specs.Sums.{composition_of, places_of}
use Rattle.dc_poly.specs.Conditions.{HavePlaces, composed_weight, CanSubst, CanAdd}
use Rattle.dc_poly.proofs.Degrees.{AllLow, degree-composed}
use Rattle.dc_poly.proofs.Sizes.{AllLight, mul_both, power_more, weight-composed, composed_weight_light}
use Rattle.dc_poly.specs.NormalForm.{most}
use Rattle.dc_system.specs.Shapes.{IsForm}
use Rattle.dc_system.specs.Composed.{forms_at, form_fits, forms_fit}
use Rattle.dc_system.specs.Small.{AreValues}
use Rattle.dc_poly.proofs.FewTerms.{normal_light}

pub form_light : (m : ℕ) (p : Polynomial) → IsForm m p → weight p.terms ≤ 78 * most
form_light m p h = normal_light p.places p.terms h.kind.few h.kind.in_order h.kind.padded h.narrow

pub have_places : (m : ℕ) (vs : List Polynomial) → AllByRecursion (IsForm m) vs → HavePlaces m vs
have_places m [] h = tt
have_places m (v ∷ vs) h = (h.0.has_places, have_places m vs h.1)

all_low : (m : ℕ) (vs : List Polynomial) → AllByRecursion (IsForm m) vs → AllLow 2 vs
all_low m [] h = tt
all_low m (v ∷ vs) h = (h.0.narrow.low, all_low m vs h.1)

all_light : (m : ℕ) (vs : List Polynomial) → AllByRecursion (IsForm m) vs → AllLight (78 * most) vs
all_light m [] h = tt
all_light m (v ∷ vs) h = (form_light m v h.0, all_light m vs h.1)

same_places : (m : ℕ) (vs : List Polynomial) → AllByRecursion (IsForm m) vs → HavePlaces (places_of vs) vs
same_places m [] h = tt
same_places m (v ∷ vs) h = have_places v.places (v ∷ vs) (subst (λ k. AllByRecursion (IsForm k) (v ∷ vs)) (sym h.0.has_places) h)

-- the composition of forms is light: at most the cube of a form's weight
cube : (m : ℕ) (p : Polynomial) (vs : List Polynomial) → IsForm m p → AllByRecursion (IsForm m) vs → composed_weight p.terms vs ≤ 78 * most * (78 * most * (78 * most * 1))
cube m p vs h k =
    let a = composed_weight_light (78 * most) p.terms vs (omega arith) (all_light m vs k) in
    let b = power_more (78 * most) (degree_of p.terms) 2 (omega arith) h.narrow.low in
    let d = form_light m p h in
    let e = mul_both (weight p.terms) (78 * most) ((78 * most) ^ degree_of p.terms) ((78 * most) ^ 2) d b in
    omega arith

pub can_put : (m : ℕ) (p : Polynomial) (vs : List Polynomial) → IsForm m p → AreValues m vs → CanSubst p vs
can_put m p vs h k = record {
  one_each = k.one_each ∙ sym h.has_places;
  same_places = same_places m vs k.forms;
  low = (let a = degree-composed 2 (places_of vs) p.terms vs (all_low m vs k.forms) in let b = h.narrow.low in omega arith);
  light = (let a = cube m p vs h k.forms in omega arith);
}

pub can_cost : (m : ℕ) (p q r : Polynomial) (vs : List Polynomial) → IsForm m p → IsForm m q → AreValues m vs → 1 ≤ m → r ≡ composition_of q vs → CanAdd p r
can_cost m p q r vs h j k o e = subst (CanAdd p) (sym e) (record {
  same_places = first_places vs k ∙ sym h.has_places;
  light = (let a = cube m q vs j k.forms in let b = weight-composed (places_of vs) q.terms vs in let d = form_light m p h in omega arith);
})
  where
    first_places : (vs : List Polynomial) → AreValues m vs → places_of vs ≡ m
    first_places [] k = let l = k.one_each in absurd (omega arith)
    first_places (v ∷ vs) k = k.forms.0.has_places

-- ---- the loop over forms
pub record Forming (ps vs : List Polynomial) (k : ℕ) (o : List Polynomial) : Type 0 where
  pub fits : forms_fit (forms_at ps vs) ≡ forms_fit (forms_at (drop k ps) vs)
  pub so_far : o ++ forms_at (drop k ps) vs ≡ forms_at ps vs

pub form_more : (ps vs : List Polynomial) (k : ℕ) (o q : List Polynomial) (p r : Polynomial) → k < length ps → p ≡ get_or ps k p → r ≡ composition_of p vs → form_fits r ≡ true → q ≡ o ++ r ∷ [] → Forming ps vs k o → Forming ps vs (k + 1) q
form_more ps vs k o q p r h e f t g w =
    let d : drop k ps ≡ p ∷ drop (k + 1) ps = drop_more ps k p h ∙ ap (λ y. y ∷ drop (k + 1) ps) (sym e) in
    record {
      fits = w.fits ∙ ap (λ y. forms_fit (forms_at y vs)) d ∙ ap (λ b. b && forms_fit (forms_at (drop (k + 1) ps) vs)) (ap form_fits (sym f) ∙ t);
      so_far = ap (λ y. y ++ forms_at (drop (k + 1) ps) vs) g ∙ append_assoc o (r ∷ []) (forms_at (drop (k + 1) ps) vs) ∙ ap (λ y. o ++ y ∷ forms_at (drop (k + 1) ps) vs) f ∙ ap (λ y. o ++ forms_at y vs) (sym d) ∙ w.so_far;
    }

pub form_bars : (ps vs : List Polynomial) (k : ℕ) (o : List Polynomial) (p r : Polynomial) → k < length ps → p ≡ get_or ps k p → r ≡ composition_of p vs → form_fits r ≡ false → Forming ps vs k o → forms_fit (forms_at ps vs) ≡ false
form_bars ps vs k o p r h e f t w =
    let d : drop k ps ≡ p ∷ drop (k + 1) ps = drop_more ps k p h ∙ ap (λ y. y ∷ drop (k + 1) ps) (sym e) in
    w.fits ∙ ap (λ y. forms_fit (forms_at y vs)) d ∙ ap (λ b. b && forms_fit (forms_at (drop (k + 1) ps) vs)) (ap form_fits (sym f) ∙ t)

pub form_done : (ps vs : List Polynomial) (k : ℕ) (o : List Polynomial) → length ps ≤ k → Forming ps vs k o → (forms_fit (forms_at ps vs) ≡ true) × (o ≡ forms_at ps vs)
form_done ps vs k o h w = let d = drop_all k ps h in (w.fits ∙ ap (λ y. forms_fit (forms_at y vs)) d, sym (append-nil o) ∙ ap (λ y. o ++ forms_at y vs) (sym d) ∙ w.so_far)

pub ruleset forming = (form_more, form_bars, form_done, each_is)
