-- The facts of a condition: they mention declared variables, and a conjunction has few of them.
use Rattle.std.specs.Prelude.{◌≡◌, ℕ, ◌+◌, ◌*◌, ◌≤◌, Bool, true, false, List, [], ◌∷◌, ◌++◌, length, None}
use Rattle.std.specs.List.{AllByRecursion}
use Rattle.std.proofs.Common.{sym, ◌∙◌, subst, arith, length-append}
use Rattle.std.proofs.lemmas.Bool.{and_parts}
use Rattle.dc_math.specs.Members.{each-weaker, each-++}
use Rattle.dc_syntax.specs.declared.tree.Expr.{Expr, Num}
use Rattle.dc_syntax.specs.declared.tree.Expr.TheOpen as F
use Rattle.dc_syntax.specs.declared.tree.Rel.{Rel}
use Rattle.dc_syntax.specs.declared.tree.Rel.TheVariants.{Lt, Le, Gt, Ge, Eq, Ne}
use Rattle.dc_syntax.specs.declared.tree.Cond.{Cond, Cond-F, roll-Cond, map-Cond, fold-roll-Cond}
use Rattle.dc_syntax.specs.declared.tree.Cond.TheOpen as G
use Rattle.dc_syntax.specs.Trees.{EachCond}
use Rattle.dc_syntax.proofs.Inductions.{Cond-induction}
use Rattle.dc_affine.specs.Forms.{is_below}
use Rattle.dc_affine.specs.Table.{Fact, fact, falsity, after, crossed, relation, opposite, facts_of, facts_step}
use Rattle.dc_affine.specs.Atoms.{cond_is_below, cond_below_step, comparison_fault, width_fault, dnf_fault}
use Rattle.dc_program.specs.Limits.{operators, cond_operators, cond_operators_step}
use Rattle.dc_system.proofs.Wider.{cond_below_wider, comparison_wider}
use Rattle.dc_affine.proofs.FactAtoms.{IsAffineFact}
use Rattle.dc_affine.proofs.CaseLaws.{cases_affine, below-Num}
use Rattle.dc_affine.proofs.FormLaws.{none_parts}
use Rattle.dc_system.proofs.Points.{FactBelow, IsCase}

abbrev Facts : Type 0
Facts = List (List Fact)

-- ---- declared variables
abbrev Below : ℕ → Facts → Type 0
Below n fs = AllByRecursion (AllByRecursion (FactBelow n)) fs

below-after : (n : ℕ) (f : List Fact) (gs : Facts) → AllByRecursion (FactBelow n) f → Below n gs → Below n (after f gs)
below-after n f [] h k = tt
below-after n f (g ∷ gs) h k = (each-++ (FactBelow n) f g h k.0, below-after n f gs h k.1)

below-crossed : (n : ℕ) (fs gs : Facts) → Below n fs → Below n gs → Below n (crossed fs gs)
below-crossed n [] gs h k = tt
below-crossed n (f ∷ fs) gs h k = each-++ (AllByRecursion (FactBelow n)) (after f gs) (crossed fs gs) (below-after n f gs h.0 k) (below-crossed n fs gs h.1 k)

facing : (n : ℕ) (a b : Expr) (k : ℕ) → is_below n a ≡ true → is_below n b ≡ true → FactBelow n (fact a b k)
facing n a b k p q = record { big = p; small = q }

below-relation : (n : ℕ) (a : Expr) (r : Rel) (b : Expr) → is_below n a ≡ true → is_below n b ≡ true → Below n (relation a r b)
below-relation n a Le b p q = ((facing n b a 0 q p, tt), tt)
below-relation n a Lt b p q = ((facing n b a 1 q p, tt), tt)
below-relation n a Ge b p q = ((facing n a b 0 p q, tt), tt)
below-relation n a Gt b p q = ((facing n a b 1 p q, tt), tt)
below-relation n a Eq b p q = ((facing n b a 0 q p, (facing n a b 0 p q, tt)), tt)
below-relation n a Ne b p q = ((facing n b a 1 q p, tt), ((facing n a b 1 p q, tt), tt))

below-falsity : (n : ℕ) → Below n ((falsity ∷ []) ∷ [])
below-falsity n = ((facing n (Num 0) (Num 0) 1 (below-Num n 0) (below-Num n 0), tt), tt)

abbrev BothBelow : ℕ → Cond → Type 0
BothBelow n c = cond_is_below n c ≡ true → Below n (facts_of c false) × Below n (facts_of c true)

below_layer : (n : ℕ) (L : Cond-F Cond) → EachCond (BothBelow n) L → cond_below_step n (map-Cond Cond Bool (cond_is_below n) L) ≡ true
    → Below n (facts_step (map-Cond Cond _ facts_of L) false) × Below n (facts_step (map-Cond Cond _ facts_of L) true)
below_layer n G.True h b = ((tt, tt), below-falsity n)
below_layer n G.False h b = (below-falsity n, (tt, tt))
below_layer n (G.Cmp x r y) h b = let p = and_parts (is_below n x) (is_below n y) b in (below-relation n x r y p.0 p.1, below-relation n x (opposite r) y p.0 p.1)
below_layer n (G.Not c) h b = let q = h b in (q.1, q.0)
below_layer n (G.And c d) h b =
    let p = and_parts (cond_is_below n c) (cond_is_below n d) b in
    let q = h.0 p.0 in
    let r = h.1 p.1 in
    (below-crossed n (facts_of c false) (facts_of d false) q.0 r.0, each-++ (AllByRecursion (FactBelow n)) (facts_of c true) (facts_of d true) q.1 r.1)
below_layer n (G.Or c d) h b =
    let p = and_parts (cond_is_below n c) (cond_is_below n d) b in
    let q = h.0 p.0 in
    let r = h.1 p.1 in
    (each-++ (AllByRecursion (FactBelow n)) (facts_of c false) (facts_of d false) q.0 r.0, below-crossed n (facts_of c true) (facts_of d true) q.1 r.1)

facts_below : (n : ℕ) (c : Cond) → BothBelow n c
facts_below n c = Cond-induction (BothBelow n) (λ L h b.
    let e : facts_of (roll-Cond L) ≡ facts_step (map-Cond Cond _ facts_of L) = fold-roll-Cond (Bool → Facts) facts_step L in
    let t : cond_is_below n (roll-Cond L) ≡ cond_below_step n (map-Cond Cond Bool (cond_is_below n) L) = fold-roll-Cond Bool (cond_below_step n) L in
    let p : _ = below_layer n L h (sym t ∙ b) in
    (subst (λ f. Below n (f false)) (sym e) p.0, subst (λ f. Below n (f true)) (sym e) p.1)) c

-- ---- few facts: at most two for each comparison, and one comparison more than operators that join them
abbrev Short : ℕ → List Fact → Type 0
Short k f = length f ≤ 2 * (k + 1)

short_weaker : (i k : ℕ) (fs : Facts) → i ≤ k → AllByRecursion (Short i) fs → AllByRecursion (Short k) fs
short_weaker i k fs h = each-weaker (Short i) (Short k) (λ f g. omega arith) fs

short-after : (i k : ℕ) (f : List Fact) (gs : Facts) → Short i f → AllByRecursion (Short k) gs → AllByRecursion (Short (i + (1 + k))) (after f gs)
short-after i k f [] h g = tt
short-after i k f (x ∷ gs) h g = ((let a = length-append f x in let b = g.0 in omega arith), short-after i k f gs h g.1)

short-crossed : (i k : ℕ) (fs gs : Facts) → AllByRecursion (Short i) fs → AllByRecursion (Short k) gs → AllByRecursion (Short (i + (1 + k))) (crossed fs gs)
short-crossed i k [] gs h g = tt
short-crossed i k (f ∷ fs) gs h g = each-++ (Short (i + (1 + k))) (after f gs) (crossed fs gs) (short-after i k f gs h.0 g) (short-crossed i k fs gs h.1 g)

short-++ : (i k : ℕ) (fs gs : Facts) → AllByRecursion (Short i) fs → AllByRecursion (Short k) gs → AllByRecursion (Short (i + (1 + k))) (fs ++ gs)
short-++ i k fs gs h g = each-++ (Short (i + (1 + k))) fs gs (short_weaker i (i + (1 + k)) fs (omega arith) h) (short_weaker k (i + (1 + k)) gs (omega arith) g)

short-relation : (k : ℕ) (a : Expr) (r : Rel) (b : Expr) → AllByRecursion (Short k) (relation a r b)
short-relation k a Le b = (omega arith, tt)
short-relation k a Lt b = (omega arith, tt)
short-relation k a Ge b = (omega arith, tt)
short-relation k a Gt b = (omega arith, tt)
short-relation k a Eq b = (omega arith, tt)
short-relation k a Ne b = (omega arith, (omega arith, tt))

abbrev BothShort : Cond → Type 0
BothShort c = AllByRecursion (Short (cond_operators c)) (facts_of c false) × AllByRecursion (Short (cond_operators c)) (facts_of c true)

short_layer : (L : Cond-F Cond) → EachCond BothShort L
    → AllByRecursion (Short (cond_operators_step (map-Cond Cond ℕ cond_operators L))) (facts_step (map-Cond Cond _ facts_of L) false) × AllByRecursion (Short (cond_operators_step (map-Cond Cond ℕ cond_operators L))) (facts_step (map-Cond Cond _ facts_of L) true)
short_layer G.True h = ((omega arith, tt), (omega arith, tt))
short_layer G.False h = ((omega arith, tt), (omega arith, tt))
short_layer (G.Cmp x r y) h = (short-relation (operators x + operators y) x r y, short-relation (operators x + operators y) x (opposite r) y)
short_layer (G.Not c) h = (short_weaker (cond_operators c) (1 + cond_operators c) (facts_of c true) (omega arith) h.1, short_weaker (cond_operators c) (1 + cond_operators c) (facts_of c false) (omega arith) h.0)
short_layer (G.And c d) h = (short-crossed (cond_operators c) (cond_operators d) (facts_of c false) (facts_of d false) h.0.0 h.1.0, short-++ (cond_operators c) (cond_operators d) (facts_of c true) (facts_of d true) h.0.1 h.1.1)
short_layer (G.Or c d) h = (short-++ (cond_operators c) (cond_operators d) (facts_of c false) (facts_of d false) h.0.0 h.1.0, short-crossed (cond_operators c) (cond_operators d) (facts_of c true) (facts_of d true) h.0.1 h.1.1)

facts_short : (c : Cond) → BothShort c
facts_short c = Cond-induction BothShort (λ L h.
    let e : facts_of (roll-Cond L) ≡ facts_step (map-Cond Cond _ facts_of L) = fold-roll-Cond (Bool → Facts) facts_step L in
    let t : cond_operators (roll-Cond L) ≡ cond_operators_step (map-Cond Cond ℕ cond_operators L) = fold-roll-Cond ℕ cond_operators_step L in
    let p : _ = short_layer L h in (
      subst (λ f. AllByRecursion (Short (cond_operators (roll-Cond L))) (f false)) (sym e) (subst (λ k. AllByRecursion (Short k) (facts_step (map-Cond Cond _ facts_of L) false)) (sym t) p.0),
      subst (λ f. AllByRecursion (Short (cond_operators (roll-Cond L))) (f true)) (sym e) (subst (λ k. AllByRecursion (Short k) (facts_step (map-Cond Cond _ facts_of L) true)) (sym t) p.1),
    )) c

-- ---- together

together : (n k : ℕ) (fs : Facts) → k ≤ 64 → Below n fs → AllByRecursion (AllByRecursion (IsAffineFact (n + 1))) fs → AllByRecursion (Short k) fs → AllByRecursion (IsCase n) fs
together n k [] h a b d = tt
together n k (f ∷ fs) h a b d = (record { below = a.0; affine = b.0; few = (let l = d.0 in omega arith) }, together n k fs h a.1 b.1 d.1)

pub cases_pass : (n : ℕ) (c : Cond) (t : Bool) → cond_is_below n c ≡ true → dnf_fault n c t ≡ None → cond_operators c ≤ 64 → AllByRecursion (IsCase n) (facts_of c t)
cases_pass n c t b e o =
    let w = comparison_wider n c b ∙ (none_parts (comparison_fault n c) (width_fault c t) e).0 in
    together n (cond_operators c) (facts_of c t) o (either t (facts_below n c b).0 (facts_below n c b).1) (cases_affine (n + 1) c t (cond_below_wider n c b) w) (short t (facts_short c).0 (facts_short c).1)
  where
    either : (t : Bool) → Below n (facts_of c false) → Below n (facts_of c true) → Below n (facts_of c t)
    either false p q = p
    either true p q = q

    short : (t : Bool) → AllByRecursion (Short (cond_operators c)) (facts_of c false) → AllByRecursion (Short (cond_operators c)) (facts_of c true) → AllByRecursion (Short (cond_operators c)) (facts_of c t)
    short false p q = p
    short true p q = q
