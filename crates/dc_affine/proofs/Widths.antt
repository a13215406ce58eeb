-- The number of conjunctions, counted up to 65.
use Rattle.std.specs.Prelude.{◌≡◌, ◌⊎◌, ℕ, zero, suc, ◌+◌, ◌*◌, ◌≤◌, ◌<◌, min, Bool, true, false, not, if◌then◌else◌, ltb, Some, None, List, [], ◌∷◌, length, refl}
use Rattle.std.proofs.Common.{sym, ◌∙◌, ap, ap₂, arith, inl, inr, length-append, le-ltb, lt-ltb}
use Rattle.std.proofs.lemmas.Bool.{cases_lt}
use Rattle.std.specs.Option.{option_or}
use Rattle.dc_poly.proofs.Sizes.{mul_both}
use Rattle.dc_syntax.specs.declared.tree.Cond.{Cond, True, False, Cmp, Not, And, Or}
use Rattle.dc_syntax.specs.declared.tree.Expr.{Expr}
use Rattle.dc_syntax.specs.declared.tree.Rel.{Rel}
use Rattle.dc_affine.specs.declared.form.FormFault.TheVariants.{ConditionTooWide}
use Rattle.dc_affine.specs.Atoms.{comparison_fault, dnf_fault}
use Rattle.dc_affine.specs.declared.form.FormFault.{FormFault}
use Rattle.std.specs.declared.option.Option.{Option}
use Rattle.dc_affine.specs.Forms.{IsCause}
use Rattle.dc_affine.proofs.CaseLaws.{cases_full}
use Rattle.dc_affine.specs.Table.{Fact, after, crossed, relation, opposite, facts_of}
use Rattle.dc_affine.proofs.TableLaws.{joined, facts-True, facts-False, facts-Cmp, facts-Not, facts-And, facts-Or}

at_most : (x y : ℕ) → 65 ≤ x → 65 ≤ y → min x 65 ≡ min y 65
at_most x y h k = omega arith

at_least : (a b : ℕ) → 65 ≤ a → 1 ≤ b → 65 ≤ a * b
at_least a b h k = let r = mul_both 65 a 1 b h k in omega arith

turn : (a b : ℕ) → a * b ≡ b * a
turn a b = omega arith

large : (m n : ℕ) → 65 < m → min (min m 65 * min n 65) 65 ≡ min (m * n) 65
large m zero h = omega arith
large m (suc n) h = at_most (min m 65 * min (suc n) 65) (m * suc n) (at_least (min m 65) (min (suc n) 65) (omega arith) (omega arith)) (at_least m (suc n) (omega arith) (omega arith))

pub capped_product : (m n : ℕ) → min (min m 65 * min n 65) 65 ≡ min (m * n) 65
capped_product m n = by (cases_lt 65 m) (cases_lt 65 n)
  where
    by : (65 < m) ⊎ (m ≤ 65) → (65 < n) ⊎ (n ≤ 65) → min (min m 65 * min n 65) 65 ≡ min (m * n) 65
    by (inl h) k = large m n h
    by (inr h) (inl k) = ap (λ x. min x 65) (turn (min m 65) (min n 65)) ∙ large n m k ∙ ap (λ x. min x 65) (turn n m)
    by (inr h) (inr k) = (let e : min m 65 ≡ m = omega arith in let f : min n 65 ≡ n = omega arith in ap₂ (λ x y. min (x * y) 65) e f)

pub capped_sum : (m n : ℕ) → min (min m 65 + min n 65) 65 ≡ min (m + n) 65
capped_sum m n = omega arith

-- what a product and a sum of capped numbers are, capped
pub product_capped : (l r m n : ℕ) → l ≡ min m 65 → r ≡ min n 65 → min (l * r) 65 ≡ min (m * n) 65
product_capped l r m n e f = ap₂ (λ x y. min (x * y) 65) e f ∙ capped_product m n

pub sum_capped : (l r m n : ℕ) → l ≡ min m 65 → r ≡ min n 65 → min (l + r) 65 ≡ min (m + n) 65
sum_capped l r m n e f = ap₂ (λ x y. min (x + y) 65) e f ∙ capped_sum m n

-- ---- lengths
length-after : (f : List Fact) (gs : List (List Fact)) → length (after f gs) ≡ length gs
length-after f [] = refl
length-after f (g ∷ gs) = ap suc (length-after f gs)

length-crossed : (fs gs : List (List Fact)) → length (crossed fs gs) ≡ length fs * length gs
length-crossed [] gs = omega arith
length-crossed (f ∷ fs) gs =
    length-append (after f gs) (crossed fs gs) ∙ ap₂ (λ x y. x + y) (length-after f gs) (length-crossed fs gs) ∙ next (length gs) (length fs)
  where
    next : (x y : ℕ) → x + y * x ≡ suc y * x
    next x y = omega arith

length-joined : (b : Bool) (f g : List (List Fact)) → (if b then length f * length g else length f + length g) ≡ length (joined b f g)
length-joined true f g = sym (length-crossed f g)
length-joined false f g = sym (length-append f g)

-- ---- of each condition
pub width-joined : (whole : List (List Fact)) (b : Bool) (f g : List (List Fact)) (r : ℕ) → whole ≡ joined b f g → r ≡ min (if b then length f * length g else length f + length g) 65 → r ≡ min (length whole) 65
width-joined whole b f g r e h = h ∙ ap (λ x. min x 65) (length-joined b f g ∙ ap length (sym e))

pub width-True : (b : Bool) → 1 ≡ min (length (facts_of True b)) 65
width-True true = ap (λ f. min (length f) 65) (sym (facts-True true))
width-True false = ap (λ f. min (length f) 65) (sym (facts-True false))

pub width-False : (b : Bool) → 1 ≡ min (length (facts_of False b)) 65
width-False true = ap (λ f. min (length f) 65) (sym (facts-False true))
width-False false = ap (λ f. min (length f) 65) (sym (facts-False false))

pub width-Cmp : (a : Expr) (r : Rel) (b : Expr) (n : Bool) (w : ℕ) → w ≤ 2 → w ≡ length (relation a (if n then opposite r else r) b) → w ≡ min (length (facts_of (Cmp a r b) n)) 65
width-Cmp a r b n w h e = (let f : w ≡ min w 65 = omega arith in f) ∙ ap (λ x. min x 65) (e ∙ ap length (sym (facts-Cmp a r b n)))

pub width-Not : (c : Cond) (n : Bool) (w : ℕ) → w ≡ min (length (facts_of c (not n))) 65 → w ≡ min (length (facts_of (Not c) n)) 65
width-Not c n w e = e ∙ ap (λ f. min (length f) 65) (sym (facts-Not c n))

pub width-And : (x c d e f : Cond) (n : Bool) (l r w : ℕ) → x ≡ And c d → e ≡ c → f ≡ d → l ≡ min (length (facts_of e n)) 65 → r ≡ min (length (facts_of f n)) 65
    → ((m k : ℕ) → l ≡ min m 65 → r ≡ min k 65 → w ≡ min (if not n then m * k else m + k) 65) → w ≡ min (length (facts_of x n)) 65
width-And x c d e f n l r w q g h i j k =
    width-joined (facts_of x n) (not n) (facts_of c n) (facts_of d n) w (ap (λ y. facts_of y n) q ∙ facts-And c d n) (k (length (facts_of c n)) (length (facts_of d n)) (i ∙ ap (λ y. min (length (facts_of y n)) 65) g) (j ∙ ap (λ y. min (length (facts_of y n)) 65) h))

pub width-Or : (x c d e f : Cond) (n : Bool) (l r w : ℕ) → x ≡ Or c d → e ≡ c → f ≡ d → l ≡ min (length (facts_of e n)) 65 → r ≡ min (length (facts_of f n)) 65
    → ((m k : ℕ) → l ≡ min m 65 → r ≡ min k 65 → w ≡ min (if n then m * k else m + k) 65) → w ≡ min (length (facts_of x n)) 65
width-Or x c d e f n l r w q g h i j k =
    width-joined (facts_of x n) n (facts_of c n) (facts_of d n) w (ap (λ y. facts_of y n) q ∙ facts-Or c d n) (k (length (facts_of c n)) (length (facts_of d n)) (i ∙ ap (λ y. min (length (facts_of y n)) 65) g) (j ∙ ap (λ y. min (length (facts_of y n)) 65) h))

-- ---- the limit, after the comparisons
pub cause_first : (f : FormFault) (o p : Option FormFault) → IsCause f o → IsCause f (option_or o p)
cause_first f o p (inl e) = inl e
cause_first f o p (inr e) = inr (ap (λ x. option_or x p) e)

narrow : (k : ℕ) → k ≤ 64 → (if ltb 64 k then Some ConditionTooWide else None) ≡ None
narrow k h = ap (λ b. if b then Some ConditionTooWide else None) (le-ltb 64 k h)

wide : (k : ℕ) → 64 < k → (if ltb 64 k then Some ConditionTooWide else None) ≡ Some ConditionTooWide
wide k h = ap (λ b. if b then Some ConditionTooWide else None) (lt-ltb 64 k h)

pub dnf_passes : (n : ℕ) (c : Cond) (t : Bool) (w : ℕ) → comparison_fault n c ≡ None → w ≡ min (length (facts_of c t)) 65 → w ≤ 64 → dnf_fault n c t ≡ None
dnf_passes n c t w e f h = ap₂ option_or e (narrow (length (facts_of c t)) (omega arith))

pub dnf_wide : (n : ℕ) (c : Cond) (t : Bool) (w : ℕ) → comparison_fault n c ≡ None → w ≡ min (length (facts_of c t)) 65 → 64 < w → dnf_fault n c t ≡ Some ConditionTooWide
dnf_wide n c t w e f h = ap₂ option_or e (wide (length (facts_of c t)) (omega arith))

pub ruleset capping = (product_capped, sum_capped)

pub ruleset widest = (dnf_passes, dnf_wide, cause_first, cases_full)
