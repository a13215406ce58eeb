-- The difference of a form and the chosen value: its coefficients, and its atom.
use Rattle.std.specs.Prelude.{◌≡◌, ℕ, ◌+◌, ◌≤◌, Bool, true, false, cond, ℤ, pos, neg_ℤ, ◌+ℤ◌, unsigned_abs, refl}
use Rattle.std.proofs.Common.{sym, ◌∙◌, ap, ap₂, subst, arith}
use Rattle.std.proofs.lemmas.Int.{ints}
use Rattle.dc_syntax.specs.declared.tree.Expr.{Expr}
use Rattle.dc_syntax.specs.declared.tree.Expr.TheVariants.{Var}
use Rattle.dc_poly.specs.Terms.{Exponents, same_mono, coef, Polynomial, IsPolynomial}
use Rattle.dc_poly.specs.Sums.{plus, negated, unit_at, variable_of, variable, sum_of, negation_of}
use Rattle.dc_poly.specs.Conditions.{CanAdd}
use Rattle.dc_poly.proofs.Values.{coef-plus}
use Rattle.dc_poly.proofs.Same.{coef-negated}
use Rattle.dc_poly.proofs.Closed.{is_variable}
use Rattle.dc_poly.proofs.Degrees.{degree-unit_at}
use Rattle.dc_affine.specs.declared.atom.Atom.{Atom}
use Rattle.dc_poly.specs.NormalForm.{IsNormalForm}
use Rattle.dc_affine.specs.Forms.{formed, form_of}
use Rattle.dc_affine.specs.Table.{fact}
use Rattle.dc_affine.specs.Atoms.{gap_of, at_least, atom_of}
use Rattle.dc_affine.proofs.FormLaws.{formed-Var}
use Rattle.dc_affine.proofs.Fits.{coef_fits}
use Rattle.dc_affine.proofs.Narrow.{can_subtract}
use Rattle.dc_system.specs.Guards.{CanDiffer}

pub variable_narrow : (k n : ℕ) → IsNormalForm (variable_of k n)
variable_narrow k n = record { low = (let d = degree-unit_at n k in omega arith); fits = refl }

one_at_most : (k n : ℕ) (m : Exponents) → unsigned_abs (coef (variable_of k n) m) ≤ 1
one_at_most k n m = by (same_mono (unit_at n k) m)
  where
    by : (b : Bool) → unsigned_abs (cond b (pos 1) (pos 0) +ℤ pos 0) ≤ 1
    by true = omega arith
    by false = omega arith

pub can_rise : (k n : ℕ) (p q : Polynomial) → n ≤ 11 → p ≡ variable k n → IsPolynomial q → IsNormalForm q.terms → q.places ≡ n → CanDiffer p q
can_rise k n p q h e i j l = subst (λ x. CanDiffer x q) (sym e) (record {
  same_places = l;
  kinds = (is_variable k n h, i);
  narrow = (variable_narrow k n, j);
  small = λ m. let a = one_at_most k n m in let b = coef_fits q.terms m i.in_order j.fits in omega arith;
})

pub can_fall : (k n : ℕ) (p q : Polynomial) → n ≤ 11 → q ≡ variable k n → IsPolynomial p → IsNormalForm p.terms → p.places ≡ n → CanDiffer p q
can_fall k n p q h e i j l = subst (λ x. CanDiffer p x) (sym e) (record {
  same_places = sym l;
  kinds = (i, is_variable k n h);
  narrow = (j, variable_narrow k n);
  small = λ m. let a = one_at_most k n m in let b = coef_fits p.terms m i.in_order j.fits in omega arith;
})

-- what the code of a difference wants
pub differ_adds : (p q r : Polynomial) → CanDiffer p q → r ≡ negation_of q → CanAdd p r
differ_adds p q r h e = can_subtract p q r h.same_places h.kinds h.narrow e

pub differ_small : (p q r s : Polynomial) → CanDiffer p q → r ≡ negation_of q → s ≡ sum_of p r → (m : Exponents) → unsigned_abs (coef s.terms m) ≤ 2147483648
differ_small p q r s h e f m =
    let a : coef s.terms m ≡ coef (plus p.terms (negated q.terms)) m = ap (λ (x : Polynomial). coef x.terms m) (f ∙ ap (sum_of p) e) in
    let b = coef-plus p.terms (negated q.terms) m in
    let c = coef-negated q.terms m in
    let d = h.small m in
    last (coef s.terms m) (coef (plus p.terms (negated q.terms)) m) (coef p.terms m) (coef (negated q.terms) m) (coef q.terms m) a b c d
  where
    last : (s g p n q : ℤ) → s ≡ g → g ≡ p +ℤ n → n ≡ neg_ℤ q → unsigned_abs p + unsigned_abs q ≤ 2147483648 → unsigned_abs s ≤ 2147483648
    last s g p n q a b c d = omega (arith, ints)

pub differ_atom : (p q r s : Polynomial) (a : Atom) → r ≡ negation_of q → s ≡ sum_of p r → a ≡ at_least s.places s.terms 0 → a ≡ at_least p.places (plus p.terms (negated q.terms)) 0
differ_atom p q r s a e f g = g ∙ ap (λ (x : Polynomial). at_least x.places x.terms 0) (f ∙ ap (sum_of p) e)

-- the two atoms of a chosen value
gap_low : (n m : ℕ) (a : Expr) → gap_of m (Var n) a ≡ plus (variable_of n m) (negated (formed m a).terms)
gap_low n m a = ap (λ x. plus x (negated (formed m a).terms)) (ap (λ x. x.terms) (formed-Var m n))

gap_high : (n m : ℕ) (b : Expr) → gap_of m b (Var n) ≡ plus (formed m b).terms (negated (variable_of n m))
gap_high n m b = ap (λ x. plus (formed m b).terms (negated x)) (ap (λ x. x.terms) (formed-Var m n))

pub low_atom : (n : ℕ) (a : Expr) (x p : Polynomial) (t : Atom) → x ≡ variable n (n + 1) → p ≡ form_of (n + 1) a → t ≡ at_least x.places (plus x.terms (negated p.terms)) 0 → t ≡ atom_of (n + 1) (fact (Var n) a 0)
low_atom n a x p t e f g = g ∙ ap₂ (λ (y z : Polynomial). at_least y.places (plus y.terms (negated z.terms)) 0) e f ∙ ap (λ y. at_least (n + 1) y 0) (sym (gap_low n (n + 1) a))

pub high_atom : (n : ℕ) (b : Expr) (x p : Polynomial) (t : Atom) → x ≡ variable n (n + 1) → p ≡ form_of (n + 1) b → t ≡ at_least p.places (plus p.terms (negated x.terms)) 0 → t ≡ atom_of (n + 1) (fact b (Var n) 0)
high_atom n b x p t e f g = g ∙ ap₂ (λ (y z : Polynomial). at_least z.places (plus z.terms (negated y.terms)) 0) e f ∙ ap (λ y. at_least (n + 1) y 0) (sym (gap_high n (n + 1) b))

pub ruleset differences = (differ_atom, low_atom, high_atom)
