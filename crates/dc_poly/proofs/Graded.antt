-- Graded order decides between any two monomials.
use Rattle.std.specs.Prelude.{◌≡◌, ◌⊎◌, ◌≤◌, ◌<◌, Bool, true, false, cond, ltb, [], ◌∷◌, refl}
use Rattle.std.proofs.Common.{◌∙◌, ap, ap₂, subst, arith, inl, inr}
use Rattle.std.specs.declared.cmp.Ordering.{Ordering}
use Rattle.std.specs.declared.cmp.Ordering.TheVariants as std_order
use Rattle.std.proofs.lemmas.Bool.{cases_lt, ltb-true, ltb-false}
use Rattle.dc_math.specs.OrderedLists.{IsStrict}
use Rattle.dc_poly.specs.Terms.{Exponents, TermList, degree, Greater, Before, lower, level, Ahead}
use Rattle.dc_poly.specs.Order.{by_first, graded, Told}

Greater-not : (m : Exponents) → Greater m m → ⊥
Greater-not [] h = h
Greater-not (e ∷ m) (inl h) = omega arith
Greater-not (e ∷ m) (inr h) = Greater-not m h.1

Greater-trans : (m k l : Exponents) → Greater m k → Greater k l → Greater m l
Greater-trans [] [] l h g = absurd h
Greater-trans [] (f ∷ k) [] h g = absurd g
Greater-trans [] (f ∷ k) (i ∷ l) h g = tt
Greater-trans (e ∷ m) [] l h g = absurd h
Greater-trans (e ∷ m) (f ∷ k) [] h g = absurd g
Greater-trans (e ∷ m) (f ∷ k) (i ∷ l) (inl h) (inl g) = inl (omega arith)
Greater-trans (e ∷ m) (f ∷ k) (i ∷ l) (inl h) (inr g) = inl (let q = g.0 in omega arith)
Greater-trans (e ∷ m) (f ∷ k) (i ∷ l) (inr h) (inl g) = inl (let q = h.0 in omega arith)
Greater-trans (e ∷ m) (f ∷ k) (i ∷ l) (inr h) (inr g) = inr (h.0 ∙ g.0, Greater-trans m k l h.1 g.1)

pub Before-not : (m : Exponents) → Before m m → ⊥
Before-not m h = at_same m m h refl
  where
    at_same : (m k : Exponents) → Before m k → m ≡ k → ⊥
    at_same m k (lower h) e = let d = ap degree e in omega arith
    at_same m k (level d h) e = Greater-not k (subst (λ x. Greater x k) e h)

pub Before-trans : (m k l : Exponents) → Before m k → Before k l → Before m l
Before-trans m k l (lower h) (lower g) = lower (omega arith)
Before-trans m k l (lower h) (level d g) = lower (omega arith)
Before-trans m k l (level d h) (lower g) = lower (omega arith)
Before-trans m k l (level d h) (level f g) = level (d ∙ f) (Greater-trans m k l h g)

pub data Order (m k : Exponents) : Type 0 where
  before : Before m k → Order m k
  same : m ≡ k → Order m k
  after : Before k m → Order m k

data Lex (m k : Exponents) : Type 0 where
  greater : Greater m k → Lex m k
  equal : m ≡ k → Lex m k
  less : Greater k m → Lex m k

lex : (m k : Exponents) → Lex m k
lex [] [] = equal refl
lex [] (f ∷ k) = greater tt
lex (e ∷ m) [] = less tt
lex (e ∷ m) (f ∷ k) = by (lex m k) (cases_lt e f) (cases_lt f e)
  where
    by : Lex m k → (e < f) ⊎ (f ≤ e) → (f < e) ⊎ (e ≤ f) → Lex (e ∷ m) (f ∷ k)
    by r (inl h) q = less (inl h)
    by r (inr h) (inl g) = greater (inl g)
    by (greater r) (inr h) (inr g) = greater (inr (omega arith, r))
    by (equal r) (inr h) (inr g) = (let d : e ≡ f = omega arith in equal (ap₂ ◌∷◌ d r))
    by (less r) (inr h) (inr g) = less (inr (omega arith, r))

pub order : (m k : Exponents) → Order m k
order m k = by (lex m k) (cases_lt (degree m) (degree k)) (cases_lt (degree k) (degree m))
  where
    by : Lex m k → (degree m < degree k) ⊎ (degree k ≤ degree m) → (degree k < degree m) ⊎ (degree m ≤ degree k) → Order m k
    by r (inl h) q = before (lower h)
    by r (inr h) (inl g) = after (lower g)
    by (greater r) (inr h) (inr g) = before (level (omega arith) r)
    by (equal r) (inr h) (inr g) = same r
    by (less r) (inr h) (inr g) = after (level (omega arith) r)

abbrev First : Exponents → Exponents → Ordering → Type 0
First m k std_order.Less = Greater m k
First m k std_order.Equal = m ≡ k
First m k std_order.Greater = Greater k m

first_told : (m k : Exponents) → First m k (by_first m k)
first_told [] [] = refl
first_told [] (f ∷ k) = tt
first_told (e ∷ m) [] = tt
first_told (e ∷ m) (f ∷ k) = by (ltb f e) refl (ltb e f) refl (by_first m k) (first_told m k)
  where
    by : (a : Bool) → ltb f e ≡ a → (b : Bool) → ltb e f ≡ b → (o : Ordering) → First m k o → First (e ∷ m) (f ∷ k) (cond a std_order.Less (cond b std_order.Greater o))
    by true p b q o t = inl (ltb-true f e p)
    by false p true q o t = inl (ltb-true e f q)
    by false p false q std_order.Less t = (let x = ltb-false f e p in let y = ltb-false e f q in inr (omega arith, t))
    by false p false q std_order.Equal t = (let x = ltb-false f e p in let y = ltb-false e f q in let d : e ≡ f = omega arith in ap₂ ◌∷◌ d t)
    by false p false q std_order.Greater t = (let x = ltb-false f e p in let y = ltb-false e f q in inr (omega arith, t))

pub graded_told : (m k : Exponents) → Told m k (graded m k)
graded_told m k = by (ltb (degree m) (degree k)) refl (ltb (degree k) (degree m)) refl (by_first m k) (first_told m k)
  where
    by : (a : Bool) → ltb (degree m) (degree k) ≡ a → (b : Bool) → ltb (degree k) (degree m) ≡ b → (o : Ordering) → First m k o → Told m k (cond a std_order.Less (cond b std_order.Greater o))
    by true p b q o t = lower (ltb-true (degree m) (degree k) p)
    by false p true q o t = lower (ltb-true (degree k) (degree m) q)
    by false p false q std_order.Less t = (let x = ltb-false (degree m) (degree k) p in let y = ltb-false (degree k) (degree m) q in level (omega arith) t)
    by false p false q std_order.Equal t = t
    by false p false q std_order.Greater t = (let x = ltb-false (degree m) (degree k) p in let y = ltb-false (degree k) (degree m) q in level (omega arith) t)

pub Ahead-more : (m k : Exponents) (p : TermList) → Before m k → Ahead k p → Ahead m p
Ahead-more m k [] b h = tt
Ahead-more m k (t ∷ p) b h = (Before-trans m k t.mono b h.0, Ahead-more m k p b h.1)

pub strict : IsStrict Before
strict = record { not = Before-not; trans = Before-trans }
