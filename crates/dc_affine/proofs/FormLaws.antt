-- The form of each expression and its first fault by the operands; its value; that it is canonical and padded.
use Rattle.std.specs.Prelude.{◌≡◌, Some, ℕ, ◌<◌, Bool, true, ltb, T, ℤ, pos, neg_ℤ, ◌+ℤ◌, ◌-ℤ◌, ◌*ℤ◌, None, refl}
use Rattle.std.specs.declared.option.Option.{Option}
use Rattle.std.specs.Option.{option_or}
use Rattle.std.proofs.Common.{sym, ◌∙◌, ap, ap₂, subst, arith}
use Rattle.std.proofs.Math.Dec.{ltb→lt}
use Rattle.std.proofs.lemmas.Int.{ints}
use Rattle.std.proofs.lemmas.Bool.{and_parts}
use Rattle.dc_syntax.specs.declared.tree.Expr.{Expr, Num, Var, Neg, Add, Sub, Mul, Expr-F, roll-Expr, map-Expr, fold-roll-Expr}
use Rattle.dc_syntax.specs.declared.tree.Expr.TheOpen as F
use Rattle.dc_syntax.specs.Value as tree
use Rattle.dc_syntax.specs.Value.{State, value_step}
use Rattle.dc_syntax.specs.Trees.{EachExpr}
use Rattle.dc_syntax.proofs.Inductions.{Expr-induction}
use Rattle.dc_poly.specs.Terms.{TermList, value, Canonical, Places, Polynomial, polynomial}
use Rattle.dc_poly.specs.Sums.{plus, negated, times, constant_of, variable_of, constant, variable, sum_of, negation_of, product_of}
use Rattle.dc_poly.proofs.Values.{value-plus, value-times, value-constant, value-variable, Canonical-plus, Canonical-times, Canonical-constant}
use Rattle.dc_poly.proofs.Same.{value-negated}
use Rattle.dc_poly.proofs.Closed.{Canonical-negated}
use Rattle.dc_poly.proofs.Padded.{Places-constant, Places-variable, Places-plus, Places-negated, Places-times}
use Rattle.dc_affine.specs.declared.form.FormFault.{FormFault}
use Rattle.dc_affine.specs.Forms.{Formed, judged, form_step, formed, form_of, fault_of, own_fault, below_step, is_below}

pub formed-Num : (n k : ℕ) → formed n (Num k) ≡ judged None (constant_of (pos k) n)
unfolding roll-Expr denote.Hole.Carrier.roll
formed-Num n k = fold-roll-Expr Formed (form_step n) (F.Num k)

pub formed-Var : (n k : ℕ) → formed n (Var k) ≡ judged None (variable_of k n)
unfolding roll-Expr denote.Hole.Carrier.roll
formed-Var n k = fold-roll-Expr Formed (form_step n) (F.Var k)

pub formed-Neg : (n : ℕ) (a : Expr) → formed n (Neg a) ≡ judged (formed n a).fault (negated (formed n a).terms)
unfolding roll-Expr denote.Hole.Carrier.roll
formed-Neg n a = fold-roll-Expr Formed (form_step n) (F.Neg a)

pub formed-Add : (n : ℕ) (a b : Expr) → formed n (Add a b) ≡ judged (option_or (formed n a).fault (formed n b).fault) (plus (formed n a).terms (formed n b).terms)
unfolding roll-Expr denote.Hole.Carrier.roll
formed-Add n a b = fold-roll-Expr Formed (form_step n) (F.Add a b)

pub formed-Sub : (n : ℕ) (a b : Expr) → formed n (Sub a b) ≡ judged (option_or (formed n a).fault (formed n b).fault) (plus (formed n a).terms (negated (formed n b).terms))
unfolding roll-Expr denote.Hole.Carrier.roll
formed-Sub n a b = fold-roll-Expr Formed (form_step n) (F.Sub a b)

pub formed-Mul : (n : ℕ) (a b : Expr) → formed n (Mul a b) ≡ judged (option_or (formed n a).fault (formed n b).fault) (times (formed n a).terms (formed n b).terms)
unfolding roll-Expr denote.Hole.Carrier.roll
formed-Mul n a b = fold-roll-Expr Formed (form_step n) (F.Mul a b)

-- ---- the polynomials
abbrev of_formed : ℕ → Formed → Polynomial
of_formed n f = polynomial n f.terms

pub form-Num : (n k : ℕ) → form_of n (Num k) ≡ constant (pos k) n
form-Num n k = ap (of_formed n) (formed-Num n k)

pub form-Var : (n k : ℕ) → form_of n (Var k) ≡ variable k n
form-Var n k = ap (of_formed n) (formed-Var n k)

pub form-Neg : (n : ℕ) (a : Expr) → form_of n (Neg a) ≡ negation_of (form_of n a)
form-Neg n a = ap (of_formed n) (formed-Neg n a)

pub form-Add : (n : ℕ) (a b : Expr) → form_of n (Add a b) ≡ sum_of (form_of n a) (form_of n b)
form-Add n a b = ap (of_formed n) (formed-Add n a b)

pub form-Sub : (n : ℕ) (a b : Expr) → form_of n (Sub a b) ≡ sum_of (form_of n a) (negation_of (form_of n b))
form-Sub n a b = ap (of_formed n) (formed-Sub n a b)

pub form-Mul : (n : ℕ) (a b : Expr) → form_of n (Mul a b) ≡ product_of (form_of n a) (form_of n b)
form-Mul n a b = ap (of_formed n) (formed-Mul n a b)

-- ---- no fault
pub none_parts : (o p : Option FormFault) → option_or o p ≡ None → (o ≡ None) × (p ≡ None)
none_parts None p e = (refl, e)
none_parts (Some f) p e = cc

-- ---- the first faults: `by` reads a fault off where the form is known
by : (f : Formed) (o : Option FormFault) (p : TermList) → f ≡ judged o p → f.fault ≡ option_or o (own_fault f.terms)
by f o p e = ap (λ g. g.fault) e ∙ ap (λ g. option_or o (own_fault g.terms)) (sym e)

pub fault-Num : (n k : ℕ) → fault_of n (Num k) ≡ own_fault (form_of n (Num k)).terms
fault-Num n k = by (formed n (Num k)) None (constant_of (pos k) n) (formed-Num n k)

pub fault-Var : (n k : ℕ) → fault_of n (Var k) ≡ own_fault (form_of n (Var k)).terms
fault-Var n k = by (formed n (Var k)) None (variable_of k n) (formed-Var n k)

pub fault-Neg : (n : ℕ) (a : Expr) → fault_of n (Neg a) ≡ option_or (fault_of n a) (own_fault (form_of n (Neg a)).terms)
fault-Neg n a = by (formed n (Neg a)) (fault_of n a) (negated (formed n a).terms) (formed-Neg n a)

pub fault-Add : (n : ℕ) (a b : Expr) → fault_of n (Add a b) ≡ option_or (option_or (fault_of n a) (fault_of n b)) (own_fault (form_of n (Add a b)).terms)
fault-Add n a b = by (formed n (Add a b)) (option_or (fault_of n a) (fault_of n b)) (plus (formed n a).terms (formed n b).terms) (formed-Add n a b)

pub fault-Sub : (n : ℕ) (a b : Expr) → fault_of n (Sub a b) ≡ option_or (option_or (fault_of n a) (fault_of n b)) (own_fault (form_of n (Sub a b)).terms)
fault-Sub n a b = by (formed n (Sub a b)) (option_or (fault_of n a) (fault_of n b)) (plus (formed n a).terms (negated (formed n b).terms)) (formed-Sub n a b)

pub fault-Mul : (n : ℕ) (a b : Expr) → fault_of n (Mul a b) ≡ option_or (option_or (fault_of n a) (fault_of n b)) (own_fault (form_of n (Mul a b)).terms)
fault-Mul n a b = by (formed n (Mul a b)) (option_or (fault_of n a) (fault_of n b)) (times (formed n a).terms (formed n b).terms) (formed-Mul n a b)

-- ---- values

abbrev HasValue : ℕ → Expr → Type 0
HasValue n e = is_below n e ≡ true → (s : State) → value (formed n e).terms s ≡ tree.value e s

lt_from : (k n : ℕ) → ltb k n ≡ true → k < n
lt_from k n h = ltb→lt k n (subst T (sym h) tt)

value_layer : (n : ℕ) (L : Expr-F Expr) → EachExpr (HasValue n) L → below_step n (map-Expr Expr Bool (is_below n) L) ≡ true → (s : State)
    → value (form_step n (map-Expr Expr Formed (formed n) L)).terms s ≡ value_step (map-Expr Expr (State → ℤ) tree.value L) s
value_layer n (F.Num k) h b s = value-constant (pos k) n s
value_layer n (F.Var k) h b s = value-variable k n s (lt_from k n b)
value_layer n (F.Neg a) h b s = value-negated (formed n a).terms s ∙ ap neg_ℤ (h b s)
value_layer n (F.Add x y) h b s = let p = and_parts (is_below n x) (is_below n y) b in value-plus (formed n x).terms (formed n y).terms s ∙ ap₂ ◌+ℤ◌ (h.0 p.0 s) (h.1 p.1 s)
value_layer n (F.Sub x y) h b s =
    let p = and_parts (is_below n x) (is_below n y) b in
    value-plus (formed n x).terms (negated (formed n y).terms) s ∙ ap₂ ◌+ℤ◌ (h.0 p.0 s) (value-negated (formed n y).terms s ∙ ap neg_ℤ (h.1 p.1 s)) ∙ minus (tree.value x s) (tree.value y s)
  where
    minus : (u v : ℤ) → u +ℤ neg_ℤ v ≡ u -ℤ v
    minus u v = omega (arith, ints)
value_layer n (F.Mul x y) h b s = let p = and_parts (is_below n x) (is_below n y) b in value-times (formed n x).terms (formed n y).terms s ∙ ap₂ ◌*ℤ◌ (h.0 p.0 s) (h.1 p.1 s)

pub form_value : (n : ℕ) (e : Expr) → HasValue n e
form_value n e = Expr-induction (HasValue n) (λ L h b s.
    let t : tree.value (roll-Expr L) ≡ value_step (map-Expr Expr (State → ℤ) tree.value L) = fold-roll-Expr (State → ℤ) value_step L in
    let f : formed n (roll-Expr L) ≡ form_step n (map-Expr Expr Formed (formed n) L) = fold-roll-Expr Formed (form_step n) L in
    let g : is_below n (roll-Expr L) ≡ below_step n (map-Expr Expr Bool (is_below n) L) = fold-roll-Expr Bool (below_step n) L in
    ap (λ x. value x.terms s) f ∙ value_layer n L h (sym g ∙ b) s ∙ sym (ap (λ x. x s) t)) e

-- ---- graded order and places
pub record IsProper (n : ℕ) (p : TermList) : Type 0 where
  pub in_order : Canonical p
  pub padded : Places n p

abbrev Proper : ℕ → Expr → Type 0
Proper n e = IsProper n (formed n e).terms

proper_layer : (n : ℕ) (L : Expr-F Expr) → EachExpr (Proper n) L → IsProper n (form_step n (map-Expr Expr Formed (formed n) L)).terms
proper_layer n (F.Num k) h = record { in_order = Canonical-constant (pos k) n; padded = Places-constant (pos k) n }
proper_layer n (F.Var k) h = record { in_order = ((λ e. omega (arith, ints)), tt, tt); padded = Places-variable k n }
proper_layer n (F.Neg a) h = record { in_order = Canonical-negated (formed n a).terms h.in_order; padded = Places-negated n (formed n a).terms h.padded }
proper_layer n (F.Add x y) h = record {
  in_order = Canonical-plus (formed n x).terms (formed n y).terms h.1.in_order;
  padded = Places-plus n (formed n x).terms (formed n y).terms h.0.padded h.1.padded;
}
proper_layer n (F.Sub x y) h = record {
  in_order = Canonical-plus (formed n x).terms (negated (formed n y).terms) (Canonical-negated (formed n y).terms h.1.in_order);
  padded = Places-plus n (formed n x).terms (negated (formed n y).terms) h.0.padded (Places-negated n (formed n y).terms h.1.padded);
}
proper_layer n (F.Mul x y) h = record {
  in_order = Canonical-times (formed n x).terms (formed n y).terms;
  padded = Places-times n (formed n x).terms (formed n y).terms h.0.padded h.1.padded;
}

pub form_proper : (n : ℕ) (e : Expr) → IsProper n (formed n e).terms
form_proper n e = Expr-induction (Proper n) (λ L h.
    let f : formed n (roll-Expr L) ≡ form_step n (map-Expr Expr Formed (formed n) L) = fold-roll-Expr Formed (form_step n) L in
    subst (λ x. IsProper n x.terms) (sym f) (proper_layer n L h)) e
