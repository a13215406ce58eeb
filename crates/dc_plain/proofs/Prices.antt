-- The system of a plain program has at each location a price: what is still to be paid. Each edge pays its fall.
use Rattle.std.specs.Prelude.{◌≡◌, ℕ, zero, suc, ◌+◌, ◌-◌, List, [], ◌∷◌, length, ℤ, pos, ◌-ℤ◌, Some, None}
use Rattle.std.specs.declared.option.Option.{Option}
use Rattle.std.proofs.Common.{refl, sym, ap, ◌∙◌, subst, arith, inl, inr}
use Rattle.std.proofs.lemmas.Int.{ints}
use Rattle.dc_math.specs.Members.{Among, among-one, among-++, Mapped, mapped_among}
use Rattle.dc_syntax.specs.declared.tree.Proc.{Proc}
use Rattle.dc_syntax.specs.declared.tree.Stmt.{Stmt, Stmt-F, out-Stmt}
use Rattle.dc_syntax.specs.declared.tree.Stmt.TheOpen.{Skip, Tick}
use Rattle.dc_syntax.specs.declared.tree.Expr.{Expr, Expr-F, out-Expr, fold_out-Expr}
use Rattle.dc_syntax.specs.declared.tree.Expr.TheOpen as F
use Rattle.dc_syntax.specs.Plain.{number_in, plain_in, plain_cost, HasPlainCost}
use Rattle.dc_syntax.proofs.PlainRuns.{both-parts}
use Rattle.dc_poly.specs.Terms.{value}
use Rattle.dc_poly.proofs.Values.{value-constant}
use Rattle.dc_affine.specs.Forms.{Formed, form_step, form_of}
use Rattle.dc_graph.specs.Labels.{Label, Arrow, arrow, idle, pays}
use Rattle.dc_graph.specs.Pieces.{Piece, sizes, first, all_arrows, piece, pieces, piece_in, exit_of, arrows_of}
use Rattle.dc_graph.proofs.Parts.{piece_out}
use Rattle.dc_system.specs.declared.edges.Edge.{Edge}
use Rattle.dc_system.specs.declared.edges.System.{System}
use Rattle.dc_system.specs.Edges.{cost_of, edge_of}
use Rattle.dc_system.specs.Systems.{system_of}
use Rattle.dc_claims.specs.Duties as duties

-- ---- priced systems
-- at each point, whatever its length, an edge costs the price of its source less that of its target
abbrev pub ArePaid : List Edge → (ℕ → ℤ) → Type 0
ArePaid es price = (e : Edge) → Among e es → (x : List ℤ) → value e.cost.terms x ≡ price e.from -ℤ price e.to

-- the price is c at the entry and 0 at the exit
pub record IsPaid (s : System) (c : ℤ) : Type 0 where
  pub price : ℕ → ℤ
  pub entry : price 0 ≡ c
  pub exit : price (duties.exit_of s) ≡ pos 0
  pub edges : ArePaid s.edges price

-- ---- one plain statement
form-number : (n : ℕ) (e : Expr) (l : Expr-F Expr) (k : ℕ) (x : List ℤ) → out-Expr e ≡ l → number_in l ≡ Some k → value (form_of n e).terms x ≡ pos k
form-number n e (F.Num j) k x o h =
    rw (fold_out-Expr Formed (form_step n) e, o) (value-constant (pos j) n x ∙ (let q : j ≡ k = cc in ap pos q))
form-number n e _ k x o h = cc

pub record IsPaying (n c : ℕ) (p : Piece) : Type 0 where
  pub label : Label
  pub size : p.size ≡ 1
  pub arrows : (k l : ℕ) → p.arrows k l ≡ arrow k l label ∷ []
  pub cost : (x : List ℤ) → value (cost_of n label).terms x ≡ pos c

paying_in : (n c : ℕ) (L : Stmt-F Stmt) → plain_in L ≡ Some c → IsPaying n c (piece_in L)
paying_in n c Skip h = record {
  label = idle;
  size = refl;
  arrows = λ k l. refl;
  cost = λ x. value-constant (pos 0) (n + 1) x ∙ (let q : 0 ≡ c = cc in ap pos q);
}
paying_in n c (Tick e) h = record {
  label = pays e;
  size = refl;
  arrows = λ k l. refl;
  cost = λ x. form-number (n + 1) e (out-Expr e) c x refl h;
}
paying_in n c _ h = cc

paying : (n c : ℕ) (S : Stmt) → plain_in (out-Stmt S) ≡ Some c → IsPaying n c (piece S)
paying n c S h = subst (IsPaying n c) (sym (piece_out S)) (paying_in n c (out-Stmt S) h)

-- ---- what is still to be paid at an index of a list
or_zero : Option ℕ → ℕ
or_zero (Some c) = c
or_zero None = 0

left : List Stmt → ℕ → ℕ
left [] i = 0
left (S ∷ R) zero = or_zero (plain_cost (S ∷ R))
left (S ∷ R) (suc i) = left R i

left_start : (A : List Stmt) (c : ℕ) → plain_cost A ≡ Some c → left A 0 ≡ c
unfolding left or_zero
left_start [] c h = cc
left_start (S ∷ R) c h = ap or_zero h

left_end : (n : ℕ) (A : List Stmt) (c : ℕ) → plain_cost A ≡ Some c → left A (sizes (pieces A)) ≡ 0
unfolding left
left_end n [] c h = refl
left_end n (S ∷ R) c h =
    let p : _ = both-parts (plain_in (out-Stmt S)) (plain_cost R) c h in
    let q : suc (sizes (pieces R)) ≡ sizes (pieces (S ∷ R)) = (let a = (paying n p.0 S p.2).size in omega arith) in
    subst (λ i. left (S ∷ R) i ≡ 0) q (left_end n R p.1 p.3)

-- the first index of a list that stands at k
first_price : (n : ℕ) (R : List Stmt) (b k l : ℕ) (price : ℕ → ℤ) → plain_cost R ≡ Some b → l ≡ k + sizes (pieces R)
    → ((i : ℕ) → price (k + i) ≡ pos (left R i)) → price (first (pieces R) k l) ≡ pos b
unfolding left
first_price n [] b k l price h e g =
    let q : k + 0 ≡ l = omega arith in
    let z : 0 ≡ b = cc in
    subst (λ i. price i ≡ pos b) q (g 0 ∙ ap pos z)
first_price n (S ∷ R) b k l price h e g =
    let q : k + 0 ≡ k = omega arith in
    subst (λ i. price i ≡ pos b) q (g 0 ∙ ap pos (left_start (S ∷ R) b h))

-- ---- the edges of a list that stands at k
edge_pays : (a b c : ℕ) (y u w : ℤ) → a + b ≡ c → y ≡ pos a → u ≡ pos c → w ≡ pos b → y ≡ u -ℤ w
edge_pays a b c y u w e f g h = omega (arith, ints)

laid_paid : (n : ℕ) (A : List Stmt) (c k l : ℕ) (price : ℕ → ℤ) → plain_cost A ≡ Some c → l ≡ k + sizes (pieces A)
    → ((i : ℕ) → price (k + i) ≡ pos (left A i))
    → (a : Arrow) → Among a (all_arrows (pieces A) k l) → (x : List ℤ) → value (cost_of n a.label).terms x ≡ price a.from -ℤ price a.to
unfolding left
laid_paid n [] c k l price h e g a i x = elim i [ ]
laid_paid n (S ∷ R) c k l price h e g a i x =
    let p : _ = both-parts (plain_in (out-Stmt S)) (plain_cost R) c h in
    let P = paying n p.0 S p.2 in
    let z : (piece S).size ≡ 1 = P.size in
    let next : ℕ = k + (piece S).size in
    let f : l ≡ next + sizes (pieces R) = omega arith in
    let r : (j : ℕ) → price (next + j) ≡ pos (left R j) = λ j. (let q : k + suc j ≡ next + j = omega arith in subst (λ m. price m ≡ pos (left R j)) q (g (suc j))) in
    elim (among-++ ((piece S).arrows k (first (pieces R) next l)) i) [
      | inl j ↦
          let q : arrow k (first (pieces R) next l) P.label ≡ a = sym (among-one (subst (Among a) (P.arrows k (first (pieces R) next l)) j)) in
          subst (λ (a : Arrow). value (cost_of n a.label).terms x ≡ price a.from -ℤ price a.to) q
          (edge_pays p.0 p.1 c _ _ _ p.4 (P.cost x)
          (let o : k + 0 ≡ k = omega arith in subst (λ m. price m ≡ pos c) o (g 0 ∙ ap pos (left_start (S ∷ R) c h)))
          (first_price n R p.1 next l price p.3 f r))
      | inr j ↦ laid_paid n R p.1 next l price p.3 f r a j x
    ]

-- ---- the system
pub system_paid : (p : Proc) (c : ℕ) → HasPlainCost p c → IsPaid (system_of p) (pos c)
system_paid p c h = record {
  price = λ i. pos (left p.body i);
  entry = ap pos (left_start p.body c h);
  exit = (let q : exit_of p.body ≡ exit_of p.body + 1 - 1 = omega arith in subst (λ i. pos (left p.body i) ≡ pos 0) q (ap pos (left_end (length p.names) p.body c h)));
  edges = λ e i x.
      let m : Mapped (edge_of (length p.names)) e (arrows_of p.body) = mapped_among (edge_of (length p.names)) (arrows_of p.body) i in
      subst (λ (e : Edge). value e.cost.terms x ≡ pos (left p.body e.from) -ℤ pos (left p.body e.to)) (sym m.is)
      (laid_paid (length p.names) p.body c 0 (exit_of p.body) (λ i. pos (left p.body i)) h (omega arith) (λ i. (let q : i ≡ 0 + i = omega arith in ap (λ j. pos (left p.body j)) (sym q))) m.of m.among x);
}
