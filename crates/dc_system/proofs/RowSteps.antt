-- A sum of coefficients times polynomials, one after another.
use Rattle.std.specs.Prelude.{◌≡◌, ℕ, zero, suc, ◌+◌, ◌*◌, ◌≤◌, ◌<◌, min, Bool, true, leb, List, [], ◌∷◌, drop, map, length, get_or, ℤ, pos, negsuc, ◌+ℤ◌, ◌*ℤ◌, unsigned_abs, refl}
use Rattle.std.proofs.Common.{sym, ◌∙◌, ap, ap₂, subst, arith, SFits}
use Rattle.std.specs.Int.{w128}
use Rattle.std.proofs.lemmas.Int.{fits_signed_from_abs}
use Rattle.std.proofs.Math.IntN.{+ℤ_idl, +ℤ_idr}
use Rattle.dc_math.specs.WholeRing.{ring, reads, read_nat, same_form}
use Rattle.dc_poly.specs.Terms.{Exponents, TermList, term, coef, weight, degree_of, Places, Polynomial, polynomial, IsPolynomial}
use Rattle.dc_poly.specs.Sums.{zeros, constant, constant_of, plus, shifted, times, times_mono, sum_of, product_of, values}
use Rattle.dc_poly.specs.Conditions.{CanAdd, CanMul}
use Rattle.dc_poly.specs.Affine.{units}
use Rattle.dc_math.specs.WholeVectors.{dot_ℤ}
use Rattle.dc_poly.proofs.Values.{coef-plus}
use Rattle.dc_poly.proofs.Canon.{canonical_unique}
use Rattle.dc_poly.proofs.Degrees.{degree-times, degree-constant}
use Rattle.dc_poly.proofs.Sizes.{weight-plus, weight-times, weight-constant, mul_both}
use Rattle.dc_poly.specs.NormalForm.{most}
use Rattle.dc_system.specs.declared.edges.Edge.{Edge}
use Rattle.dc_system.specs.declared.rows.RowAfter.{RowAfter}
use Rattle.dc_system.specs.Shapes.{IsForm, IsEdge}
use Rattle.dc_system.specs.Composed.{coef_at}
use Rattle.dc_system.specs.After.{weighted, is_affine_after, row_after_of}
use Rattle.dc_system.proofs.Sums.{dot_step, dot_end}
use Rattle.dc_system.proofs.FormSteps.{form_light}
use Rattle.dc_system.proofs.AfterValues.{coef-shifted, coef-weighted, Canonical-weighted, row_value}

pub coef_fits_128 : (c : ℤ) → unsigned_abs c ≤ most → SFits w128 c
coef_fits_128 c h = fits_signed_from_abs w128 c (omega arith)

-- ---- a polynomial times a constant
times_mono-zeros : (n : ℕ) (m : Exponents) → length m ≡ n → times_mono (zeros n) m ≡ m
times_mono-zeros zero [] h = refl
times_mono-zeros zero (e ∷ m) h = absurd (omega arith)
times_mono-zeros (suc n) [] h = absurd (omega arith)
times_mono-zeros (suc n) (e ∷ m) h = ap₂ ◌∷◌ (plain e) (times_mono-zeros n m (omega arith))
  where
    plain : (e : ℕ) → 0 + e ≡ e
    plain e = omega arith

shifted-zeros : (n : ℕ) (c : ℤ) (p : TermList) → Places n p → shifted (zeros n) c p ≡ shifted [] c p
shifted-zeros n c [] h = refl
shifted-zeros n c (t ∷ p) h = ap₂ (λ m q. term m (c *ℤ t.coef) ∷ q) (times_mono-zeros n t.mono h.0) (shifted-zeros n c p h.1)

one_term : (n : ℕ) (c : ℤ) (p : TermList) (u : Exponents) → Places n p → coef (plus (shifted (zeros n) c p) []) u ≡ c *ℤ coef p u
one_term n c p u h = coef-plus (shifted (zeros n) c p) [] u ∙ +ℤ_idr (coef (shifted (zeros n) c p) u) ∙ ap (λ q. coef q u) (shifted-zeros n c p h) ∙ coef-shifted c p u

coef-constant_times : (c : ℤ) (n : ℕ) (p : TermList) (u : Exponents) → Places n p → coef (times (constant_of c n) p) u ≡ c *ℤ coef p u
coef-constant_times (pos zero) n p u h = none (coef p u)
  where
    none : (x : ℤ) → pos 0 ≡ pos 0 *ℤ x
    none x = ring (x ∷ []) (λ ρ i. simp (i, read_nat ρ, reads) (same_form _ _ _ refl))
coef-constant_times (pos (suc k)) n p u h = one_term n (pos (suc k)) p u h
coef-constant_times (negsuc k) n p u h = one_term n (negsuc k) p u h

light_times : (c : ℤ) (n m : ℕ) (v : Polynomial) → unsigned_abs c ≤ most → IsForm m v → weight (constant_of c n) * weight v.terms ≤ most * (78 * most)
light_times c n m v h f = let a = weight-constant c n in let b = form_light m v f in mul_both (weight (constant_of c n)) most (weight v.terms) (78 * most) (omega arith) b

pub can_times : (c : ℤ) (n : ℕ) (f v : Polynomial) → f ≡ constant c n → unsigned_abs c ≤ most → IsForm n v → CanMul f v
can_times c n f v e h w = subst (λ (g : Polynomial). CanMul g v) (sym e) (record {
  same_places = w.has_places;
  low = (let a = degree-times (constant_of c n) v.terms in let b = degree-constant c n in let d = w.narrow.low in omega arith);
  light = (let a = light_times c n n v h w in omega arith);
})

weight_product : (c : ℤ) (n : ℕ) (f v p : Polynomial) → f ≡ constant c n → p ≡ product_of f v → unsigned_abs c ≤ most → IsForm n v → weight p.terms ≤ most * (78 * most)
weight_product c n f v p e g h w =
    let q : weight p.terms ≡ weight (times (constant_of c n) v.terms) = ap (λ (x : Polynomial). weight x.terms) (g ∙ ap (λ (x : Polynomial). product_of x v) e) in
    let a = weight-times (constant_of c n) v.terms in
    let b = light_times c n n v h w in
    omega arith

pub can_plus : (c : ℤ) (n : ℕ) (s f v p : Polynomial) → n ≡ s.places → weight s.terms ≤ 10 * (most * (78 * most)) → f ≡ constant c n → p ≡ product_of f v → unsigned_abs c ≤ most → IsForm n v → CanAdd s p
can_plus c n s f v p o l e g h w = record {
  same_places = ap (λ (x : Polynomial). x.places) g ∙ ap (λ (x : Polynomial). x.places) e ∙ o;
  light = (let a = weight_product c n f v p e g h w in omega arith);
}

pub coefs_plus : (c : ℤ) (n : ℕ) (s f v p r : Polynomial) → f ≡ constant c n → p ≡ product_of f v → r ≡ sum_of s p → IsForm n v → (u : Exponents) → coef r.terms u ≡ coef s.terms u +ℤ c *ℤ coef v.terms u
coefs_plus c n s f v p r e g i w u =
    ap (λ (x : Polynomial). coef x.terms u) i ∙ coef-plus s.terms p.terms u
    ∙ ap (λ y. coef s.terms u +ℤ y) (ap (λ (x : Polynomial). coef x.terms u) (g ∙ ap (λ (x : Polynomial). product_of x v) e) ∙ coef-constant_times c n v.terms u (subst (λ k. Places k v.terms) w.has_places w.kind.padded))

pub weight_more : (c : ℤ) (n : ℕ) (s f v p r : Polynomial) → f ≡ constant c n → p ≡ product_of f v → r ≡ sum_of s p → unsigned_abs c ≤ most → IsForm n v → weight r.terms ≤ weight s.terms + most * (78 * most)
weight_more c n s f v p r e g i h w =
    let q : weight r.terms ≡ weight (plus s.terms p.terms) = ap (λ (x : Polynomial). weight x.terms) i in
    let a = weight-plus s.terms p.terms in
    let b = weight_product c n f v p e g h w in
    omega arith

pub ruleset adding = (can_times, can_plus, coefs_plus, weight_more)

-- ---- the loop
pub record Summing (m : ℕ) (cs : List ℤ) (vs : List Polynomial) (k : ℕ) (p : Polynomial) : Type 0 where
  pub kind : IsPolynomial p
  pub same_places : p.places ≡ m
  pub light : weight p.terms ≤ k * (most * (78 * most))
  pub coefs : (u : Exponents) → coef p.terms u +ℤ coef_at (drop k cs) (drop k vs) u ≡ coef_at cs vs u

pub sum_start : (m : ℕ) (cs : List ℤ) (vs : List Polynomial) (p : Polynomial) → p ≡ constant (pos 0) m → IsPolynomial p → Summing m cs vs 0 p
sum_start m cs vs p e h = record {
  kind = h;
  same_places = ap (λ (x : Polynomial). x.places) e;
  light = (let a : weight p.terms ≡ 0 = ap (λ (x : Polynomial). weight x.terms) e in omega arith);
  coefs = λ u. ap (λ (x : Polynomial). coef x.terms u +ℤ coef_at cs vs u) e ∙ +ℤ_idl (coef_at cs vs u);
}

pub sum_more : (m : ℕ) (cs : List ℤ) (vs : List Polynomial) (k : ℕ) (c : ℤ) (v o p : Polynomial) → k < length cs → k < length vs → c ≡ get_or cs k (pos 0) → v ≡ get_or vs k v → IsPolynomial p → p.places ≡ o.places
    → ((u : Exponents) → coef p.terms u ≡ coef o.terms u +ℤ c *ℤ coef v.terms u) → weight p.terms ≤ weight o.terms + most * (78 * most) → Summing m cs vs k o → Summing m cs vs (k + 1) p
sum_more m cs vs k c v o p h g a b d q f l S = record {
  kind = d;
  same_places = q ∙ S.same_places;
  light = (let w = S.light in omega arith);
  coefs = λ u. dot_step cs vs k c v u (coef o.terms u) (c *ℤ coef v.terms u) (coef p.terms u) (coef_at cs vs u) h g a b refl (f u) (S.coefs u);
}

pub sum_done : (m : ℕ) (cs : List ℤ) (vs : List Polynomial) (k : ℕ) (p : Polynomial) → min (length cs) (length vs) ≤ k → Summing m cs vs k p → p ≡ polynomial m (weighted cs vs)
sum_done m cs vs k p h S =
    ap₂ polynomial S.same_places
    (canonical_unique p.terms (weighted cs vs) S.kind.in_order (Canonical-weighted cs vs) (λ u. dot_end cs vs k u (coef p.terms u) (coef_at cs vs u) h (S.coefs u) ∙ sym (coef-weighted cs vs u)))

pub ruleset summing = (sum_start, sum_more, sum_done)

-- ---- the whole
map_same : (f g : Exponents → ℤ) → ((u : Exponents) → f u ≡ g u) → (us : List Exponents) → map f us ≡ map g us
map_same f g e [] = refl
map_same f g e (u ∷ us) = ap₂ ◌∷◌ (e u) (map_same f g e us)

-- a sum in place, and what is read of it
pub record IsRead (n : ℕ) (e : Edge) (row : List ℤ) (k : ℤ) (cs : List ℤ) (d : ℕ) (s : Polynomial) : Type 0 where
  pub sum : s ≡ polynomial (n + 1) (weighted row e.update)
  pub constant_of_sum : k ≡ coef s.terms (zeros s.places)
  pub coefs_of_sum : cs ≡ map (coef s.terms) (units s.places)
  pub degree_of_sum : d ≡ degree_of s.terms

module _ (n : ℕ) (e : Edge) (row : List ℤ) (k : ℤ) (cs : List ℤ) (d : ℕ) (s : Polynomial) (r : IsRead n e row k cs d s) where
  constant_is : k ≡ coef_at row e.update (zeros (n + 1))
  constant_is = r.constant_of_sum ∙ ap (λ (x : Polynomial). coef x.terms (zeros x.places)) r.sum ∙ coef-weighted row e.update (zeros (n + 1))

  coefs_are : cs ≡ map (coef_at row e.update) (units (n + 1))
  coefs_are =
      r.coefs_of_sum ∙ ap (λ (x : Polynomial). map (coef x.terms) (units x.places)) r.sum
      ∙ map_same (coef (weighted row e.update)) (coef_at row e.update) (coef-weighted row e.update) (units (n + 1))

  affine_is : leb d 1 ≡ is_affine_after e row
  affine_is = ap (λ y. leb y 1) (r.degree_of_sum ∙ ap (λ (x : Polynomial). degree_of x.terms) r.sum)

  abbrev pub row_of : ℤ → List ℤ → Bool → RowAfter
  row_of a b t = record { constant = a; coefs = b; is_affine = t }

  pub row_whole : row_of k cs (leb d 1) ≡ row_after_of n e row
  row_whole = λ j. row_of (constant_is j) (coefs_are j) (affine_is j)

  pub row_means : IsEdge n e → leb d 1 ≡ true → (x : List ℤ) → k +ℤ dot_ℤ cs x ≡ dot_ℤ row (values e.update x)
  row_means h t x = ap₂ (λ y z. y +ℤ dot_ℤ z x) constant_is coefs_are ∙ row_value n e row x h (sym affine_is ∙ t)
