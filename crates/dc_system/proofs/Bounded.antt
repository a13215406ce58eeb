-- The bounds of forms without faults, over the chosen value too.
use Rattle.std.specs.Prelude.{◌≡◌, ℕ, ◌+◌, ◌≤◌, Bool, true, false, ltb, if◌then◌else◌, Some, None, refl}
use Rattle.std.specs.Option.{option_or}
use Rattle.std.proofs.Common.{sym, ◌∙◌, ap, subst, ltb-false}
use Rattle.dc_syntax.specs.declared.tree.Expr.{Expr, Expr-F, roll-Expr, map-Expr, fold-roll-Expr}
use Rattle.dc_syntax.specs.declared.tree.Expr.TheOpen as F
use Rattle.dc_syntax.proofs.Inductions.{Expr-induction}
use Rattle.dc_poly.specs.Terms.{TermList, degree_of}
use Rattle.dc_affine.specs.declared.form.FormFault.TheVariants.{DegreeTooHigh, CoefficientRange, NotAffine}
use Rattle.dc_poly.specs.NormalForm.{coefs_fit, IsNormalForm}
use Rattle.dc_affine.specs.Forms.{Formed, formed, form_step, is_below, fault_of, own_fault, bend, affine_fault}
use Rattle.dc_affine.proofs.FormLaws.{none_parts}
use Rattle.dc_system.proofs.Wider.{fault_wider, affine_fault_wider}

own_narrow : (p : TermList) → own_fault p ≡ None → IsNormalForm p
own_narrow p e = by (ltb 2 (degree_of p)) refl (coefs_fit p) refl e
  where
    by : (b : Bool) → ltb 2 (degree_of p) ≡ b → (t : Bool) → coefs_fit p ≡ t → (if b then Some DegreeTooHigh else (if t then None else Some CoefficientRange)) ≡ None → IsNormalForm p
    by true q t r e = cc
    by false q true r e = record { low = ltb-false 2 (degree_of p) q; fits = r }
    by false q false r e = cc

-- the last fault is that of the whole
last_of : (n : ℕ) (L : Expr-F Formed) → (form_step n L).fault ≡ None → own_fault (form_step n L).terms ≡ None
last_of n (F.Num k) e = (none_parts None _ e).1
last_of n (F.Var k) e = (none_parts None _ e).1
last_of n (F.Neg a) e = (none_parts a.fault _ e).1
last_of n (F.Add a b) e = (none_parts (option_or a.fault b.fault) _ e).1
last_of n (F.Sub a b) e = (none_parts (option_or a.fault b.fault) _ e).1
last_of n (F.Mul a b) e = (none_parts (option_or a.fault b.fault) _ e).1

pub form_narrow : (n : ℕ) (e : Expr) → fault_of n e ≡ None → IsNormalForm (formed n e).terms
form_narrow n e = Expr-induction (λ e. fault_of n e ≡ None → IsNormalForm (formed n e).terms) (λ L h k.
    let f : formed n (roll-Expr L) ≡ form_step n (map-Expr Expr Formed (formed n) L) = fold-roll-Expr Formed (form_step n) L in
    subst (λ (x : Formed). IsNormalForm x.terms) (sym f) (own_narrow _ (last_of n (map-Expr Expr Formed (formed n) L) (ap (λ (x : Formed). x.fault) (sym f) ∙ k)))) e

bend_low : (p : TermList) → bend p ≡ None → degree_of p ≤ 1
bend_low p e = by (ltb 1 (degree_of p)) refl e
  where
    by : (b : Bool) → ltb 1 (degree_of p) ≡ b → (if b then Some NotAffine else None) ≡ None → degree_of p ≤ 1
    by true q e = cc
    by false q e = ltb-false 1 (degree_of p) q

pub wide_narrow : (n : ℕ) (e : Expr) → is_below n e ≡ true → fault_of n e ≡ None → IsNormalForm (formed (n + 1) e).terms
wide_narrow n e b h = form_narrow (n + 1) e (fault_wider n e b ∙ h)

pub affine_narrow : (n : ℕ) (e : Expr) → is_below n e ≡ true → affine_fault n e ≡ None → IsNormalForm (formed (n + 1) e).terms × (degree_of (formed (n + 1) e).terms ≤ 1)
affine_narrow n e b h =
    let p = none_parts (fault_of (n + 1) e) (bend (formed (n + 1) e).terms) (affine_fault_wider n e b ∙ h) in
    (form_narrow (n + 1) e p.0, bend_low (formed (n + 1) e).terms p.1)
