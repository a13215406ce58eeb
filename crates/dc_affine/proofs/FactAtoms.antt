-- Facts whose difference is affine: what their atoms say, and that the atoms are within their sizes.
use Rattle.std.specs.Prelude.{◌≡◌, ℕ, ◌≤◌, true, ◌&&◌, List, [], ◌∷◌, map, length, ℤ, pos, neg_ℤ, ◌+ℤ◌, ◌-ℤ◌, int_le, unsigned_abs, refl}
use Rattle.std.specs.List.{AllByRecursion}
use Rattle.std.proofs.Common.{◌∙◌, ap, ap₂, arith}
use Rattle.std.proofs.lemmas.Int.{ints}
use Rattle.std.proofs.lemmas.List.{length-map}
use Rattle.dc_math.specs.WholeVectors.{dot_ℤ}
use Rattle.dc_syntax.specs.declared.tree.Expr.{Expr}
use Rattle.dc_syntax.specs.Value as tree
use Rattle.dc_syntax.specs.Value.{State}
use Rattle.dc_poly.specs.Terms.{Exponents, TermList, value, coef, degree_of, Canonical, Places}
use Rattle.dc_poly.specs.Sums.{negated, zeros}
use Rattle.dc_poly.specs.Affine.{units}
use Rattle.dc_poly.specs.NormalForm.{most}
use Rattle.dc_poly.proofs.Values.{value-plus, Canonical-plus}
use Rattle.dc_poly.proofs.Same.{value-negated}
use Rattle.dc_poly.proofs.Closed.{Canonical-negated}
use Rattle.dc_poly.proofs.Padded.{Places-plus, Places-negated}
use Rattle.dc_affine.specs.Forms.{formed, is_below}
use Rattle.dc_affine.specs.Table.{Fact, fact_true, all_of}
use Rattle.dc_affine.specs.Atoms.{holds_at, all_hold, most_constant, AllFit, IsAtom, IsFullAtom, gap_of, atom_of}
use Rattle.dc_affine.proofs.FormLaws.{form_value, form_proper}
use Rattle.dc_affine.proofs.Units.{read_value, length-units}

-- ---- the difference of the sides of a fact
pub gap_canonical : (n : ℕ) (a b : Expr) → Canonical (gap_of n a b)
gap_canonical n a b = Canonical-plus (formed n a).terms (negated (formed n b).terms) (Canonical-negated (formed n b).terms (form_proper n b).in_order)

pub gap_padded : (n : ℕ) (a b : Expr) → Places n (gap_of n a b)
gap_padded n a b = Places-plus n (formed n a).terms (negated (formed n b).terms) (form_proper n a).padded (Places-negated n (formed n b).terms (form_proper n b).padded)

-- affine over n places, with coefficients within their bounds
pub record IsAffineFact (n : ℕ) (f : Fact) : Type 0 where
  pub big_below : is_below n f.big ≡ true
  pub small_below : is_below n f.small ≡ true
  pub low : degree_of (gap_of n f.big f.small) ≤ 1
  pub small : (u : Exponents) → unsigned_abs (coef (gap_of n f.big f.small) u) ≤ most
  pub little : f.less ≤ 1

-- ---- what the atoms say
pub atom_says : (n : ℕ) (f : Fact) (s : State) → IsAffineFact n f → holds_at (atom_of n f) s ≡ fact_true f s
atom_says n f s h =
    let r = read_value n (gap_of n f.big f.small) s (gap_padded n f.big f.small) h.low in
    let v = value-plus (formed n f.big).terms (negated (formed n f.small).terms) s in
    let w = value-negated (formed n f.small).terms s in
    let x = form_value n f.big h.big_below s in
    let y = form_value n f.small h.small_below s in
    ap (int_le (pos 0)) (shape (coef (gap_of n f.big f.small) (zeros n)) (dot_ℤ (map (coef (gap_of n f.big f.small)) (units n)) s) (pos f.less) (value (gap_of n f.big f.small) s) (value (formed n f.big).terms s) (value (negated (formed n f.small).terms) s) (value (formed n f.small).terms s) (tree.value f.big s) (tree.value f.small s) r v w x y)
  where
    shape : (c d k g p q r u v : ℤ) → c +ℤ d ≡ g → g ≡ p +ℤ q → q ≡ neg_ℤ r → p ≡ u → r ≡ v → (c -ℤ k) +ℤ d ≡ u -ℤ v -ℤ k
    shape c d k g p q r u v e f h i j = omega (arith, ints)

pub all_say : (n : ℕ) (fs : List Fact) (s : State) → AllByRecursion (IsAffineFact n) fs → all_hold (map (atom_of n) fs) s ≡ all_of fs s
all_say n [] s h = refl
all_say n (f ∷ fs) s h = ap₂ ◌&&◌ (atom_says n f s h.0) (all_say n fs s h.1)

-- ---- their sizes
all_fit : (p : TermList) (us : List Exponents) → ((u : Exponents) → unsigned_abs (coef p u) ≤ most) → AllFit (map (coef p) us)
all_fit p [] h = tt
all_fit p (u ∷ us) h = (h u, all_fit p us h)

pub atom_full : (n : ℕ) (f : Fact) → IsAffineFact n f → IsFullAtom n (atom_of n f)
atom_full n f h =
    let g = gap_of n f.big f.small in
    let l : length (map (coef g) (units n)) ≡ n = length-map (units n) (coef g) ∙ length-units n in
    record {
      one_each = l;
      within = record {
        few = omega arith;
        coefs_within = all_fit g (units n) h.small;
        constant_within = less (coef g (zeros n)) f.less (h.small (zeros n)) h.little;
      };
    }
  where
    less : (x : ℤ) (k : ℕ) → unsigned_abs x ≤ most → k ≤ 1 → unsigned_abs (x -ℤ pos k) ≤ most_constant
    less x k h l = omega (arith, ints)

pub all_full : (n : ℕ) (fs : List Fact) → AllByRecursion (IsAffineFact n) fs → AllByRecursion (IsFullAtom n) (map (atom_of n) fs)
all_full n [] h = tt
all_full n (f ∷ fs) h = (atom_full n f h.0, all_full n fs h.1)

pub all_within : (n : ℕ) (fs : List Fact) → AllByRecursion (IsAffineFact n) fs → AllByRecursion (IsAtom n) (map (atom_of n) fs)
all_within n [] h = tt
all_within n (f ∷ fs) h = ((atom_full n f h.0).within, all_within n fs h.1)
