-- What the code of a composition answers.
use Rattle.std.specs.Prelude.{◌≡◌, ◌↔◌, ℕ, ◌+◌, ◌≤◌, ◌<◌, Bool, true, false, not, ◌&&◌, ◌||◌, leb, if◌then◌else◌, List, [], ◌∷◌, ◌++◌, length, ℤ, Some, None, IfSome, refl}
use Rattle.std.specs.declared.option.Option.{Option}
use Rattle.std.specs.List.{AllByRecursion}
use Rattle.std.proofs.Common.{sym, ◌∙◌, ap, ap₂, subst}
use Rattle.std.proofs.lemmas.Bool.{le-leb, lt-leb, and_right}
use Rattle.std.proofs.lemmas.List.{length_push}
use Rattle.dc_math.specs.Members.{each-weaker, each-++}
use Rattle.dc_syntax.specs.Value.{State}
use Rattle.dc_syntax.specs.Table.{Then}
use Rattle.dc_poly.specs.Terms.{Polynomial}
use Rattle.dc_poly.specs.Sums.{composition_of, sum_of}
use Rattle.dc_affine.specs.declared.atom.Atom.{Atom}
use Rattle.dc_system.specs.declared.edges.Edge.{Edge}
use Rattle.dc_system.specs.Shapes.{IsEdge, IsForm}
use Rattle.dc_system.specs.Edges.{chosen}
use Rattle.dc_system.specs.Composed.{after, atoms_at, forms_at, composed, all_flat, atoms_fit, form_fits, forms_fit, can_compose, compose_of, Crosses}
use Rattle.dc_system.specs.Small.{IsSmall, AreValues}
use Rattle.dc_system.proofs.Shape.{variable_form}
use Rattle.dc_system.proofs.Crossings.{composed_crosses}
use Rattle.dc_system.proofs.Composite.{compose_edge}
use Rattle.dc_affine.proofs.Fits.{coef_fits}

-- ---- the values
form_small : (m : ℕ) (p : Polynomial) → IsForm m p → IsSmall p
form_small m p h = record { coefs = λ u. coef_fits p.terms u h.kind.in_order h.narrow.fits }

pub after_values : (n : ℕ) (e : Edge) (vs : List Polynomial) → n ≤ 10 → IsEdge n e → vs ≡ after n e → AreValues (n + 1) vs
after_values n e vs h j q = subst (AreValues (n + 1)) (sym q) (record {
  one_each = length_push e.update (chosen n) ∙ ap (λ k. k + 1) j.one_each;
  forms = each-++ (IsForm (n + 1)) e.update (chosen n ∷ []) j.updates (variable_form n n h, tt);
})

pub after_small : (n : ℕ) (e : Edge) (vs : List Polynomial) → n ≤ 10 → IsEdge n e → vs ≡ after n e → AllByRecursion IsSmall vs
after_small n e vs h j q = each-weaker (IsForm (n + 1)) IsSmall (form_small (n + 1)) vs (after_values n e vs h j q).forms

-- ---- the answer
when : (n : ℕ) (e f : Edge) (b : Bool) (o : Option Edge) → can_compose n e f ≡ b → o ≡ (if b then Some (composed n e f) else None) → o ≡ compose_of n e f
when n e f b o q r = r ∙ ap (λ t. if t then Some (composed n e f) else None) (sym q)

-- six tests, of which one fails
abbrev six : Bool → Bool → Bool → Bool → Bool → Bool → Bool
six a b c d f g = a && (b && (c && (d && (f && g))))

first_false : (a b : Bool) → a ≡ false → (a && b) ≡ false
first_false true b h = cc
first_false false b h = refl

bars₁ : (a b c d f g : Bool) → a ≡ false → six a b c d f g ≡ false
bars₁ a b c d f g h = first_false a (b && (c && (d && (f && g)))) h

bars₂ : (a b c d f g : Bool) → b ≡ false → six a b c d f g ≡ false
bars₂ a b c d f g h = and_right a (b && (c && (d && (f && g)))) (first_false b (c && (d && (f && g))) h)

bars₃ : (a b c d f g : Bool) → c ≡ false → six a b c d f g ≡ false
bars₃ a b c d f g h = and_right a (b && (c && (d && (f && g)))) (and_right b (c && (d && (f && g))) (first_false c (d && (f && g)) h))

bars₄ : (a b c d f g : Bool) → d ≡ false → six a b c d f g ≡ false
bars₄ a b c d f g h = inner_bars a b (c && (d && (f && g))) (and_right c (d && (f && g)) (first_false d (f && g) h))
  where
    inner_bars : (a b x : Bool) → x ≡ false → (a && (b && x)) ≡ false
    inner_bars a b x h = and_right a (b && x) (and_right b x h)

bars₅ : (a b c d f g : Bool) → f ≡ false → six a b c d f g ≡ false
bars₅ a b c d f g h = inner_bars a b c (d && (f && g)) (and_right d (f && g) (first_false f g h))
  where
    inner_bars : (a b c x : Bool) → x ≡ false → (a && (b && (c && x))) ≡ false
    inner_bars a b c x h = and_right a (b && (c && x)) (and_right b (c && x) (and_right c x h))

bars₆ : (a b c d f g : Bool) → g ≡ false → six a b c d f g ≡ false
bars₆ a b c d f g h = inner_bars a b c d (f && g) (and_right f g h)
  where
    inner_bars : (a b c d x : Bool) → x ≡ false → (a && (b && (c && (d && x)))) ≡ false
    inner_bars a b c d x h = and_right a (b && (c && (d && x))) (and_right b (c && (d && x)) (and_right c (d && x) (and_right d x h)))

module _ (n : ℕ) (e f : Edge) where
  abbrev one_choice : Bool
  one_choice = not (e.any && f.any)

  abbrev flat : Bool
  flat = all_flat e.update

  abbrev few : Bool
  few = leb (length e.guard + length f.guard) 256

  abbrev atoms : Bool
  atoms = atoms_fit (atoms_at (n + 1) f.guard (after n e))

  abbrev updates : Bool
  updates = forms_fit (forms_at f.update (after n e))

  abbrev cost : Bool
  cost = form_fits (sum_of e.cost (composition_of f.cost (after n e)))

  pub none_choice : (e.any && f.any) ≡ true → None ≡ compose_of n e f
  none_choice h = when n e f false None (bars₁ one_choice flat few atoms updates cost (ap not h)) refl

  pub none_bent : (us : List Polynomial) → us ≡ e.update → all_flat us ≡ false → None ≡ compose_of n e f
  none_bent us q h = when n e f false None (bars₂ one_choice flat few atoms updates cost (ap all_flat (sym q) ∙ h)) refl

  pub none_crowded : 256 < length e.guard + length f.guard → None ≡ compose_of n e f
  none_crowded h = when n e f false None (bars₃ one_choice flat few atoms updates cost (lt-leb (length e.guard + length f.guard) 256 h)) refl

  pub none_atoms : (gs : List Atom) (vs : List Polynomial) → gs ≡ f.guard → vs ≡ after n e → atoms_fit (atoms_at (n + 1) gs vs) ≡ false → None ≡ compose_of n e f
  none_atoms gs vs p q h = when n e f false None (bars₄ one_choice flat few atoms updates cost (ap₂ (λ x y. atoms_fit (atoms_at (n + 1) x y)) (sym p) (sym q) ∙ h)) refl

  pub none_updates : (us vs : List Polynomial) → us ≡ f.update → vs ≡ after n e → forms_fit (forms_at us vs) ≡ false → None ≡ compose_of n e f
  none_updates us vs p q h = when n e f false None (bars₅ one_choice flat few atoms updates cost (ap₂ (λ x y. forms_fit (forms_at x y)) (sym p) (sym q) ∙ h)) refl

  pub none_cost : (c : Polynomial) (vs : List Polynomial) → vs ≡ after n e → c ≡ sum_of e.cost (composition_of f.cost vs) → form_fits c ≡ false → None ≡ compose_of n e f
  none_cost c vs q g h = when n e f false None (bars₆ one_choice flat few atoms updates cost (ap form_fits (sym (g ∙ ap (λ v. sum_of e.cost (composition_of f.cost v)) q)) ∙ h)) refl

five : (a b c d f g : Bool) → a ≡ true → b ≡ true → c ≡ true → d ≡ true → f ≡ true → g ≡ true → (a && (b && (c && (d && (f && g))))) ≡ true
five true true true true true true h i j k l m = refl
five false b c d f g h i j k l m = cc
five true false c d f g h i j k l m = cc
five true true false d f g h i j k l m = cc
five true true true false f g h i j k l m = cc
five true true true true false g h i j k l m = cc
five true true true true true false h i j k l m = cc

not_both : (a b : Bool) → (a && b) ≡ false → not (a && b) ≡ true
not_both a b h = ap not h

pub some_edge : (n : ℕ) (e f g : Edge) (us vs ws : List Polynomial) (gs hs : List Atom) → (e.any && f.any) ≡ false → us ≡ e.update → all_flat us ≡ true → length e.guard + length f.guard ≤ 256 → vs ≡ after n e → gs ≡ f.guard → hs ≡ e.guard
    → atoms_fit (atoms_at (n + 1) gs vs) ≡ true → g.guard ≡ hs ++ atoms_at (n + 1) gs vs → ws ≡ f.update → forms_fit (forms_at ws vs) ≡ true → g.update ≡ forms_at ws vs → g.cost ≡ sum_of e.cost (composition_of f.cost vs) → form_fits g.cost ≡ true
    → g.from ≡ e.from → g.to ≡ f.to → g.any ≡ (e.any || f.any) → Some g ≡ compose_of n e f
some_edge n e f g us vs ws gs hs a b c d q p r s t u v w x y z i j =
    let k : g ≡ composed n e f =
    same g (composed n e f) z i
    (t ∙ ap₂ (λ l m. l ++ m) r (ap₂ (λ l m. atoms_at (n + 1) l m) p q))
    (w ∙ ap₂ forms_at u q) j (x ∙ ap (λ l. sum_of e.cost (composition_of f.cost l)) q) in
    when n e f true (Some g)
    (five _ _ _ _ _ _ (not_both e.any f.any a) (ap all_flat (sym b) ∙ c) (le-leb (length e.guard + length f.guard) 256 d) (ap₂ (λ l m. atoms_fit (atoms_at (n + 1) l m)) (sym p) (sym q) ∙ s) (ap₂ (λ l m. forms_fit (forms_at l m)) (sym u) (sym q) ∙ v) (ap form_fits (sym (x ∙ ap (λ l. sum_of e.cost (composition_of f.cost l)) q)) ∙ y))
    (ap Some k)
  where
    edge : ℕ → ℕ → List Atom → List Polynomial → Bool → Polynomial → Edge
    edge a b c d e f = record { from = a; to = b; guard = c; update = d; any = e; cost = f }

    same : (g h : Edge) → g.from ≡ h.from → g.to ≡ h.to → g.guard ≡ h.guard → g.update ≡ h.update → g.any ≡ h.any → g.cost ≡ h.cost → g ≡ h
    same g h a b c d e f =
        ap (λ x. edge x g.to g.guard g.update g.any g.cost) a ∙ ap (λ x. edge h.from x g.guard g.update g.any g.cost) b ∙ ap (λ x. edge h.from h.to x g.update g.any g.cost) c
        ∙ ap (λ x. edge h.from h.to h.guard x g.any g.cost) d ∙ ap (λ x. edge h.from h.to h.guard h.update x g.cost) e ∙ ap (λ x. edge h.from h.to h.guard h.update h.any x) f

-- ---- its laws
pub compose_kept : (n : ℕ) (e f : Edge) (o : Option Edge) → n ≤ 10 → IsEdge n e → IsEdge n f → o ≡ compose_of n e f → IfSome o (λ g. IsEdge n g)
compose_kept n e f None h j k q = tt
compose_kept n e f (Some g) h j k q = compose_edge n e f g h j k (sym q)

pub compose_crosses : (n : ℕ) (e f : Edge) (o : Option Edge) → IsEdge n e → IsEdge n f → o ≡ compose_of n e f → IfSome o (λ g. (s : State) (c : ℤ) (t : State) → length s ≡ n → Crosses g s c t ↔ Then (Crosses e) (Crosses f) s c t)
compose_crosses n e f None j k q = tt
compose_crosses n e f (Some g) j k q = composed_crosses n e f g j k (sym q)

pub ruleset composing = (after_values, after_small, none_choice, none_bent, none_crowded, none_atoms, none_updates, none_cost, compose_kept, compose_crosses)
