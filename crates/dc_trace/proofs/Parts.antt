-- The numbers of an expression and of a condition, by the tree.
use Rattle.std.specs.Prelude.{◌≡◌, ℕ, ◌<◌, ◌^◌, List, [], ◌∷◌, ◌++◌, slice_index_or, ℤ, pos, ◌+ℤ◌, ◌-ℤ◌, ◌*ℤ◌, neg_ℤ, Bool, true, false, not, ◌&&◌, ◌||◌, int_le, Option, Some, None, refl}
use Rattle.std.proofs.Common.{sym, ◌∙◌, ap, ap₂, subst, arith}
use Rattle.std.proofs.lemmas.Bool.{lt-ltb}
use Rattle.std.proofs.Math.Bool.{and_assoc, and-false}
use Rattle.dc_syntax.specs.declared.tree.Expr.{Expr, Num, Var, Neg, Add, Sub, Mul, Expr-F, roll-Expr, fold-Expr, fold-roll-Expr}
use Rattle.dc_syntax.specs.declared.tree.Expr.TheOpen as F
use Rattle.dc_syntax.specs.declared.tree.Rel.{Rel}
use Rattle.dc_syntax.specs.declared.tree.Cond.{Cond, True, False, Cmp, Not, And, Or, roll-Cond, fold-roll-Cond}
use Rattle.dc_syntax.specs.declared.tree.Cond.TheOpen as G
use Rattle.dc_syntax.specs.Trees.{EachExpr}
use Rattle.dc_syntax.specs.Value.{State, value, compared, truth}
use Rattle.dc_syntax.proofs.Inductions.{Expr-induction}
use Rattle.dc_syntax.proofs.Parts.{value-Num, value-Var, value-Neg, value-Add, value-Sub, value-Mul, truth-True, truth-False, truth-Cmp, truth-Not, truth-And, truth-Or}
use Rattle.dc_trace.specs.Parts.{Parts, all_parts, parts_step, subexpressions, compared_step, compared_parts}
use Rattle.dc_trace.specs.Replay.{all_fit, is_small}
use Rattle.dc_trace.specs.Tests.{Gives, expr_fits, cond_fits, range_fits, Evaluates, Judges, IsWithin}
use Rattle.dc_trace.proofs.Given.{and_true, gives_same, gives_none, two_made, two_left, two_right}

-- ---- an expression is the first of its subexpressions
abbrev parts : Expr → Parts
parts e = fold-Expr Parts parts_step e

whole_of : (L : Expr-F Expr) → EachExpr (λ e. (parts e).whole ≡ e) L → (parts (roll-Expr L)).whole ≡ roll-Expr L
unfolding roll-Expr denote.Hole.Carrier.roll
whole_of (F.Num n) h = ap (λ p. p.whole) (fold-roll-Expr Parts parts_step (F.Num n))
whole_of (F.Var k) h = ap (λ p. p.whole) (fold-roll-Expr Parts parts_step (F.Var k))
whole_of (F.Neg a) h = ap (λ p. p.whole) (fold-roll-Expr Parts parts_step (F.Neg a)) ∙ ap Neg h
whole_of (F.Add a b) h = ap (λ p. p.whole) (fold-roll-Expr Parts parts_step (F.Add a b)) ∙ ap₂ Add h.0 h.1
whole_of (F.Sub a b) h = ap (λ p. p.whole) (fold-roll-Expr Parts parts_step (F.Sub a b)) ∙ ap₂ Sub h.0 h.1
whole_of (F.Mul a b) h = ap (λ p. p.whole) (fold-roll-Expr Parts parts_step (F.Mul a b)) ∙ ap₂ Mul h.0 h.1

whole_is : (e : Expr) → (parts e).whole ≡ e
whole_is e = Expr-induction (λ e. (parts e).whole ≡ e) whole_of e

subs-Num : (n : ℕ) → subexpressions (Num n) ≡ Num n ∷ []
unfolding subexpressions roll-Expr denote.Hole.Carrier.roll
subs-Num n = ap all_parts (fold-roll-Expr Parts parts_step (F.Num n))

subs-Var : (k : ℕ) → subexpressions (Var k) ≡ Var k ∷ []
unfolding subexpressions roll-Expr denote.Hole.Carrier.roll
subs-Var k = ap all_parts (fold-roll-Expr Parts parts_step (F.Var k))

subs-Neg : (a : Expr) → subexpressions (Neg a) ≡ Neg a ∷ subexpressions a
unfolding subexpressions roll-Expr denote.Hole.Carrier.roll
subs-Neg a = ap all_parts (fold-roll-Expr Parts parts_step (F.Neg a)) ∙ ap (λ x. Neg x ∷ all_parts (parts a)) (whole_is a)

subs-Add : (a b : Expr) → subexpressions (Add a b) ≡ Add a b ∷ (subexpressions a ++ subexpressions b)
unfolding subexpressions roll-Expr denote.Hole.Carrier.roll
subs-Add a b = ap all_parts (fold-roll-Expr Parts parts_step (F.Add a b)) ∙ ap₂ (λ x y. Add x y ∷ (all_parts (parts a) ++ all_parts (parts b))) (whole_is a) (whole_is b)

subs-Sub : (a b : Expr) → subexpressions (Sub a b) ≡ Sub a b ∷ (subexpressions a ++ subexpressions b)
unfolding subexpressions roll-Expr denote.Hole.Carrier.roll
subs-Sub a b = ap all_parts (fold-roll-Expr Parts parts_step (F.Sub a b)) ∙ ap₂ (λ x y. Sub x y ∷ (all_parts (parts a) ++ all_parts (parts b))) (whole_is a) (whole_is b)

subs-Mul : (a b : Expr) → subexpressions (Mul a b) ≡ Mul a b ∷ (subexpressions a ++ subexpressions b)
unfolding subexpressions roll-Expr denote.Hole.Carrier.roll
subs-Mul a b = ap all_parts (fold-roll-Expr Parts parts_step (F.Mul a b)) ∙ ap₂ (λ x y. Mul x y ∷ (all_parts (parts a) ++ all_parts (parts b))) (whole_is a) (whole_is b)

-- ---- those of a condition's comparisons
parts-True : compared_parts True ≡ []
unfolding compared_parts roll-Cond denote.Hole.Carrier.roll
parts-True = fold-roll-Cond (List Expr) compared_step G.True

parts-False : compared_parts False ≡ []
unfolding compared_parts roll-Cond denote.Hole.Carrier.roll
parts-False = fold-roll-Cond (List Expr) compared_step G.False

parts-Cmp : (a : Expr) (r : Rel) (b : Expr) → compared_parts (Cmp a r b) ≡ subexpressions a ++ subexpressions b
unfolding compared_parts roll-Cond denote.Hole.Carrier.roll
parts-Cmp a r b = fold-roll-Cond (List Expr) compared_step (G.Cmp a r b)

parts-Not : (c : Cond) → compared_parts (Not c) ≡ compared_parts c
unfolding compared_parts roll-Cond denote.Hole.Carrier.roll
parts-Not c = fold-roll-Cond (List Expr) compared_step (G.Not c)

parts-And : (c d : Cond) → compared_parts (And c d) ≡ compared_parts c ++ compared_parts d
unfolding compared_parts roll-Cond denote.Hole.Carrier.roll
parts-And c d = fold-roll-Cond (List Expr) compared_step (G.And c d)

parts-Or : (c d : Cond) → compared_parts (Or c d) ≡ compared_parts c ++ compared_parts d
unfolding compared_parts roll-Cond denote.Hole.Carrier.roll
parts-Or c d = fold-roll-Cond (List Expr) compared_step (G.Or c d)

-- ---- what fits
pub all_fit-append : (f : ℤ → Bool) (s : State) (xs ys : List Expr) → all_fit f s (xs ++ ys) ≡ (all_fit f s xs && all_fit f s ys)
all_fit-append f s [] ys = refl
all_fit-append f s (x ∷ xs) ys = ap (λ t. f (value x s) && t) (all_fit-append f s xs ys) ∙ sym (and_assoc (f (value x s)) (all_fit f s xs) (all_fit f s ys))

two_fit : (s : State) (e a b : Expr) (v : ℤ) → subexpressions e ≡ e ∷ (subexpressions a ++ subexpressions b) → value e s ≡ v → expr_fits s e ≡ (is_small v && (expr_fits s a && expr_fits s b))
two_fit s e a b v p q = ap (all_fit is_small s) p ∙ ap₂ ◌&&◌ (ap is_small q) (all_fit-append is_small s (subexpressions a) (subexpressions b))

fits-Add : (s : State) (a b : Expr) → expr_fits s (Add a b) ≡ (is_small (value a s +ℤ value b s) && (expr_fits s a && expr_fits s b))
fits-Add s a b = two_fit s (Add a b) a b (value a s +ℤ value b s) (subs-Add a b) (value-Add a b s)

fits-Sub : (s : State) (a b : Expr) → expr_fits s (Sub a b) ≡ (is_small (value a s -ℤ value b s) && (expr_fits s a && expr_fits s b))
fits-Sub s a b = two_fit s (Sub a b) a b (value a s -ℤ value b s) (subs-Sub a b) (value-Sub a b s)

fits-Mul : (s : State) (a b : Expr) → expr_fits s (Mul a b) ≡ (is_small (value a s *ℤ value b s) && (expr_fits s a && expr_fits s b))
fits-Mul s a b = two_fit s (Mul a b) a b (value a s *ℤ value b s) (subs-Mul a b) (value-Mul a b s)

-- ---- the arms of `evaluate`: e is what is evaluated, x and y what its operands are read as
pub made-Num : (s : State) (e : Expr) (n : ℕ) (z : ℤ) → e ≡ Num n → n < 2 ^ 32 → z ≡ pos n → Evaluates (Some z) s e
made-Num s e n z i l q =
    subst (Evaluates (Some z) s) (sym i)
    (gives_same (Some z) (expr_fits s (Num n)) true (value (Num n) s) (pos n) (ap (all_fit is_small s) (subs-Num n) ∙ and_true (is_small (value (Num n) s)) ∙ ap is_small (value-Num n s) ∙ lt-ltb n (2 ^ 127) (omega arith)) (value-Num n s) (refl, q))

pub made-Var : (r : Option ℤ) (s : State) (e : Expr) (k : ℕ) (z : ℤ) → e ≡ Var k → z ≡ slice_index_or s k (pos 0) → Gives r (is_small z) z → Evaluates r s e
made-Var r s e k z i q g =
    let v : value (Var k) s ≡ z = value-Var k s ∙ sym q in
    subst (Evaluates r s) (sym i) (gives_same r (expr_fits s (Var k)) (is_small z) (value (Var k) s) z (ap (all_fit is_small s) (subs-Var k) ∙ and_true (is_small (value (Var k) s)) ∙ ap is_small v) v g)

fits-Neg : (s : State) (a : Expr) → expr_fits s (Neg a) ≡ (is_small (neg_ℤ (value a s)) && expr_fits s a)
fits-Neg s a = ap (all_fit is_small s) (subs-Neg a) ∙ ap (λ v. is_small v && expr_fits s a) (value-Neg a s)

pub made-Neg : (r : Option ℤ) (s : State) (e a x : Expr) (z : ℤ) → e ≡ Neg a → x ≡ a → Evaluates (Some z) s x → Gives r (is_small (neg_ℤ z)) (neg_ℤ z) → Evaluates r s e
made-Neg r s e a x z i j h g =
    let k = subst (Evaluates (Some z) s) j h in
    subst (Evaluates r s) (sym i)
    (gives_same r (expr_fits s (Neg a)) (is_small (neg_ℤ z)) (value (Neg a) s) (neg_ℤ z)
    (fits-Neg s a ∙ ap₂ (λ v t. is_small (neg_ℤ v) && t) (sym k.1) k.0 ∙ and_true (is_small (neg_ℤ z))) (value-Neg a s ∙ ap neg_ℤ (sym k.1)) g)

pub none-Neg : (r : Option ℤ) (s : State) (e a x : Expr) → r ≡ None → e ≡ Neg a → x ≡ a → expr_fits s x ≡ false → Evaluates r s e
none-Neg r s e a x n i j h =
    subst (Evaluates r s) (sym i)
    (gives_none r (expr_fits s (Neg a)) (value (Neg a) s) n (fits-Neg s a ∙ ap (λ t. is_small (neg_ℤ (value a s)) && t) (subst (λ y. expr_fits s y ≡ false) j h) ∙ and-false (is_small (neg_ℤ (value a s)))))

-- two operands, by the operation on their values and the equations of the operator
module _ (op : ℤ → ℤ → ℤ) (s : State) (m : Expr → Expr → Expr) (f : (a b : Expr) → expr_fits s (m a b) ≡ (is_small (op (value a s) (value b s)) && (expr_fits s a && expr_fits s b))) (v : (a b : Expr) → value (m a b) s ≡ op (value a s) (value b s)) where
  made-two : (r : Option ℤ) (e a b x y : Expr) (p q : ℤ) → e ≡ m a b → x ≡ a → y ≡ b → Evaluates (Some p) s x → Evaluates (Some q) s y → Gives r (is_small (op p q)) (op p q) → Evaluates r s e
  made-two r e a b x y p q i j k h l g =
      let h' = subst (Evaluates (Some p) s) j h in
      let l' = subst (Evaluates (Some q) s) k l in
      subst (Evaluates r s) (sym i)
      (two_made r (expr_fits s (m a b)) (is_small (op p q)) (expr_fits s a) (expr_fits s b) (value (m a b) s) (op p q)
      (f a b ∙ ap₂ (λ u w. is_small (op u w) && (expr_fits s a && expr_fits s b)) (sym h'.1) (sym l'.1)) (v a b ∙ ap₂ op (sym h'.1) (sym l'.1)) h'.0 l'.0 g)

  left-two : (r : Option ℤ) (e a b x : Expr) → r ≡ None → e ≡ m a b → x ≡ a → expr_fits s x ≡ false → Evaluates r s e
  left-two r e a b x n i j h =
      subst (Evaluates r s) (sym i) (two_left r (expr_fits s (m a b)) (is_small (op (value a s) (value b s))) (expr_fits s a) (expr_fits s b) (value (m a b) s) (f a b) n (subst (λ y. expr_fits s y ≡ false) j h))

  right-two : (r : Option ℤ) (e a b y : Expr) → r ≡ None → e ≡ m a b → y ≡ b → expr_fits s y ≡ false → Evaluates r s e
  right-two r e a b y n i j h =
      subst (Evaluates r s) (sym i) (two_right r (expr_fits s (m a b)) (is_small (op (value a s) (value b s))) (expr_fits s a) (expr_fits s b) (value (m a b) s) (f a b) n (subst (λ y. expr_fits s y ≡ false) j h))

pub made-Add : (s : State) (r : Option ℤ) (e a b x y : Expr) (p q : ℤ) → e ≡ Add a b → x ≡ a → y ≡ b → Evaluates (Some p) s x → Evaluates (Some q) s y → Gives r (is_small (p +ℤ q)) (p +ℤ q) → Evaluates r s e
made-Add s = made-two ◌+ℤ◌ s Add (fits-Add s) (λ a b. value-Add a b s)

pub left-Add : (s : State) (r : Option ℤ) (e a b x : Expr) → r ≡ None → e ≡ Add a b → x ≡ a → expr_fits s x ≡ false → Evaluates r s e
left-Add s = left-two ◌+ℤ◌ s Add (fits-Add s) (λ a b. value-Add a b s)

pub right-Add : (s : State) (r : Option ℤ) (e a b y : Expr) → r ≡ None → e ≡ Add a b → y ≡ b → expr_fits s y ≡ false → Evaluates r s e
right-Add s = right-two ◌+ℤ◌ s Add (fits-Add s) (λ a b. value-Add a b s)

pub made-Sub : (s : State) (r : Option ℤ) (e a b x y : Expr) (p q : ℤ) → e ≡ Sub a b → x ≡ a → y ≡ b → Evaluates (Some p) s x → Evaluates (Some q) s y → Gives r (is_small (p -ℤ q)) (p -ℤ q) → Evaluates r s e
made-Sub s = made-two ◌-ℤ◌ s Sub (fits-Sub s) (λ a b. value-Sub a b s)

pub left-Sub : (s : State) (r : Option ℤ) (e a b x : Expr) → r ≡ None → e ≡ Sub a b → x ≡ a → expr_fits s x ≡ false → Evaluates r s e
left-Sub s = left-two ◌-ℤ◌ s Sub (fits-Sub s) (λ a b. value-Sub a b s)

pub right-Sub : (s : State) (r : Option ℤ) (e a b y : Expr) → r ≡ None → e ≡ Sub a b → y ≡ b → expr_fits s y ≡ false → Evaluates r s e
right-Sub s = right-two ◌-ℤ◌ s Sub (fits-Sub s) (λ a b. value-Sub a b s)

pub made-Mul : (s : State) (r : Option ℤ) (e a b x y : Expr) (p q : ℤ) → e ≡ Mul a b → x ≡ a → y ≡ b → Evaluates (Some p) s x → Evaluates (Some q) s y → Gives r (is_small (p *ℤ q)) (p *ℤ q) → Evaluates r s e
made-Mul s = made-two ◌*ℤ◌ s Mul (fits-Mul s) (λ a b. value-Mul a b s)

pub left-Mul : (s : State) (r : Option ℤ) (e a b x : Expr) → r ≡ None → e ≡ Mul a b → x ≡ a → expr_fits s x ≡ false → Evaluates r s e
left-Mul s = left-two ◌*ℤ◌ s Mul (fits-Mul s) (λ a b. value-Mul a b s)

pub right-Mul : (s : State) (r : Option ℤ) (e a b y : Expr) → r ≡ None → e ≡ Mul a b → y ≡ b → expr_fits s y ≡ false → Evaluates r s e
right-Mul s = right-two ◌*ℤ◌ s Mul (fits-Mul s) (λ a b. value-Mul a b s)

-- ---- the arms of `judge`
pub judged-True : (s : State) (c : Cond) (t : Bool) → c ≡ True → t ≡ true → Judges (Some t) s c
judged-True s c t i q = subst (Judges (Some t) s) (sym i) (ap (all_fit is_small s) parts-True, q ∙ sym (truth-True s))

pub judged-False : (s : State) (c : Cond) (t : Bool) → c ≡ False → t ≡ false → Judges (Some t) s c
judged-False s c t i q = subst (Judges (Some t) s) (sym i) (ap (all_fit is_small s) parts-False, q ∙ sym (truth-False s))

cmp_fit : (s : State) (a : Expr) (rel : Rel) (b : Expr) → cond_fits s (Cmp a rel b) ≡ (true && (expr_fits s a && expr_fits s b))
cmp_fit s a rel b = ap (all_fit is_small s) (parts-Cmp a rel b) ∙ all_fit-append is_small s (subexpressions a) (subexpressions b)

pub judged-Cmp : (s : State) (c : Cond) (a : Expr) (rel : Rel) (b : Expr) (p q : ℤ) (t : Bool) → c ≡ Cmp a rel b → Evaluates (Some p) s a → Evaluates (Some q) s b → t ≡ compared rel p q → Judges (Some t) s c
judged-Cmp s c a rel b p q t i h k e =
    subst (Judges (Some t) s) (sym i)
    (two_made (Some t) (cond_fits s (Cmp a rel b)) true (expr_fits s a) (expr_fits s b) (truth (Cmp a rel b) s) t (cmp_fit s a rel b) (truth-Cmp a rel b s ∙ ap₂ (compared rel) (sym h.1) (sym k.1) ∙ sym e) h.0 k.0 (refl, refl))

pub left-Cmp : (r : Option Bool) (s : State) (c : Cond) (a : Expr) (rel : Rel) (b : Expr) → r ≡ None → c ≡ Cmp a rel b → expr_fits s a ≡ false → Judges r s c
left-Cmp r s c a rel b n i h = subst (Judges r s) (sym i) (two_left r (cond_fits s (Cmp a rel b)) true (expr_fits s a) (expr_fits s b) (truth (Cmp a rel b) s) (cmp_fit s a rel b) n h)

pub right-Cmp : (r : Option Bool) (s : State) (c : Cond) (a : Expr) (rel : Rel) (b : Expr) → r ≡ None → c ≡ Cmp a rel b → expr_fits s b ≡ false → Judges r s c
right-Cmp r s c a rel b n i h = subst (Judges r s) (sym i) (two_right r (cond_fits s (Cmp a rel b)) true (expr_fits s a) (expr_fits s b) (truth (Cmp a rel b) s) (cmp_fit s a rel b) n h)

pub judged-Not : (s : State) (c d x : Cond) (u t : Bool) → c ≡ Not d → x ≡ d → Judges (Some u) s x → t ≡ not u → Judges (Some t) s c
judged-Not s c d x u t i j h e =
    let k = subst (Judges (Some u) s) j h in
    subst (Judges (Some t) s) (sym i) (ap (all_fit is_small s) (parts-Not d) ∙ k.0, e ∙ ap not k.1 ∙ sym (truth-Not d s))

pub none-Not : (r : Option Bool) (s : State) (c d x : Cond) → r ≡ None → c ≡ Not d → x ≡ d → cond_fits s x ≡ false → Judges r s c
none-Not r s c d x n i j h =
    subst (Judges r s) (sym i) (gives_none r (cond_fits s (Not d)) (truth (Not d) s) n (ap (all_fit is_small s) (parts-Not d) ∙ subst (λ y. cond_fits s y ≡ false) j h))

module _ (op : Bool → Bool → Bool) (s : State) (m : Cond → Cond → Cond) (f : (a b : Cond) → cond_fits s (m a b) ≡ (true && (cond_fits s a && cond_fits s b))) (v : (a b : Cond) → truth (m a b) s ≡ op (truth a s) (truth b s)) where
  judged-two : (c a b x y : Cond) (p q t : Bool) → c ≡ m a b → x ≡ a → y ≡ b → Judges (Some p) s x → Judges (Some q) s y → t ≡ op p q → Judges (Some t) s c
  judged-two c a b x y p q t i j k h l e =
      let h' = subst (Judges (Some p) s) j h in
      let l' = subst (Judges (Some q) s) k l in
      subst (Judges (Some t) s) (sym i) (two_made (Some t) (cond_fits s (m a b)) true (cond_fits s a) (cond_fits s b) (truth (m a b) s) t (f a b) (v a b ∙ ap₂ op (sym h'.1) (sym l'.1) ∙ sym e) h'.0 l'.0 (refl, refl))

  unjudged-left : (r : Option Bool) (c a b x : Cond) → r ≡ None → c ≡ m a b → x ≡ a → cond_fits s x ≡ false → Judges r s c
  unjudged-left r c a b x n i j h =
      subst (Judges r s) (sym i) (two_left r (cond_fits s (m a b)) true (cond_fits s a) (cond_fits s b) (truth (m a b) s) (f a b) n (subst (λ y. cond_fits s y ≡ false) j h))

  unjudged-right : (r : Option Bool) (c a b y : Cond) → r ≡ None → c ≡ m a b → y ≡ b → cond_fits s y ≡ false → Judges r s c
  unjudged-right r c a b y n i j h =
      subst (Judges r s) (sym i) (two_right r (cond_fits s (m a b)) true (cond_fits s a) (cond_fits s b) (truth (m a b) s) (f a b) n (subst (λ y. cond_fits s y ≡ false) j h))

and_fit : (s : State) (a b : Cond) → cond_fits s (And a b) ≡ (true && (cond_fits s a && cond_fits s b))
and_fit s a b = ap (all_fit is_small s) (parts-And a b) ∙ all_fit-append is_small s (compared_parts a) (compared_parts b)

or_fit : (s : State) (a b : Cond) → cond_fits s (Or a b) ≡ (true && (cond_fits s a && cond_fits s b))
or_fit s a b = ap (all_fit is_small s) (parts-Or a b) ∙ all_fit-append is_small s (compared_parts a) (compared_parts b)

pub judged-And : (s : State) (c a b x y : Cond) (p q t : Bool) → c ≡ And a b → x ≡ a → y ≡ b → Judges (Some p) s x → Judges (Some q) s y → t ≡ (p && q) → Judges (Some t) s c
judged-And s = judged-two ◌&&◌ s And (and_fit s) (λ a b. truth-And a b s)

pub left-And : (s : State) (r : Option Bool) (c a b x : Cond) → r ≡ None → c ≡ And a b → x ≡ a → cond_fits s x ≡ false → Judges r s c
left-And s = unjudged-left ◌&&◌ s And (and_fit s) (λ a b. truth-And a b s)

pub right-And : (s : State) (r : Option Bool) (c a b y : Cond) → r ≡ None → c ≡ And a b → y ≡ b → cond_fits s y ≡ false → Judges r s c
right-And s = unjudged-right ◌&&◌ s And (and_fit s) (λ a b. truth-And a b s)

pub judged-Or : (s : State) (c a b x y : Cond) (p q t : Bool) → c ≡ Or a b → x ≡ a → y ≡ b → Judges (Some p) s x → Judges (Some q) s y → t ≡ (p || q) → Judges (Some t) s c
judged-Or s = judged-two ◌||◌ s Or (or_fit s) (λ a b. truth-Or a b s)

pub left-Or : (s : State) (r : Option Bool) (c a b x : Cond) → r ≡ None → c ≡ Or a b → x ≡ a → cond_fits s x ≡ false → Judges r s c
left-Or s = unjudged-left ◌||◌ s Or (or_fit s) (λ a b. truth-Or a b s)

pub right-Or : (s : State) (r : Option Bool) (c a b y : Cond) → r ≡ None → c ≡ Or a b → y ≡ b → cond_fits s y ≡ false → Judges r s c
right-Or s = unjudged-right ◌||◌ s Or (or_fit s) (λ a b. truth-Or a b s)

-- ---- the arms of `is_within`
range_fit : (s : State) (a b : Expr) → range_fits s a b ≡ (true && (expr_fits s a && expr_fits s b))
range_fit s a b = all_fit-append is_small s (subexpressions a) (subexpressions b)

pub within-range : (s : State) (a : Expr) (z : ℤ) (b : Expr) (p q : ℤ) (t : Bool) → Evaluates (Some p) s a → Evaluates (Some q) s b → t ≡ (int_le p z && int_le z q) → IsWithin (Some t) s a z b
within-range s a z b p q t h k e =
    two_made (Some t) (range_fits s a b) true (expr_fits s a) (expr_fits s b) (int_le (value a s) z && int_le z (value b s)) t (range_fit s a b) (ap₂ (λ x y. int_le x z && int_le z y) (sym h.1) (sym k.1) ∙ sym e) h.0 k.0 (refl, refl)

pub left-range : (r : Option Bool) (s : State) (a : Expr) (z : ℤ) (b : Expr) → r ≡ None → expr_fits s a ≡ false → IsWithin r s a z b
left-range r s a z b n h = two_left r (range_fits s a b) true (expr_fits s a) (expr_fits s b) (int_le (value a s) z && int_le z (value b s)) (range_fit s a b) n h

pub right-range : (r : Option Bool) (s : State) (a : Expr) (z : ℤ) (b : Expr) → r ≡ None → expr_fits s b ≡ false → IsWithin r s a z b
right-range r s a z b n h = two_right r (range_fits s a b) true (expr_fits s a) (expr_fits s b) (int_le (value a s) z && int_le z (value b s)) (range_fit s a b) n h
