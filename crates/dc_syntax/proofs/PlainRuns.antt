-- A plain list has one run from each state, and a plain program one cost.
use Rattle.std.proofs.Common.{◌≡◌, ◌∙◌, ap, subst, refl, arith, ℕ, ◌+◌, ℤ, pos, List, [], ◌∷◌, length, Some, None}
use Rattle.std.specs.Prelude.{◌↔◌, ◌-ℤ◌}
use Rattle.std.specs.declared.option.Option.{Option}
use Rattle.std.proofs.lemmas.Int.{ints}
use Rattle.dc_syntax.specs.declared.tree.Proc.{Proc}
use Rattle.dc_syntax.specs.declared.tree.Stmt.{Stmt, Stmt-F, out-Stmt}
use Rattle.dc_syntax.specs.declared.tree.Stmt.TheOpen.{Skip, Tick}
use Rattle.dc_syntax.specs.declared.tree.Stmt.TheVariants as v
use Rattle.dc_syntax.specs.declared.tree.Expr.{Expr, Expr-F, out-Expr, fold_out-Expr}
use Rattle.dc_syntax.specs.declared.tree.Expr.TheOpen as F
use Rattle.dc_syntax.specs.declared.tree.Expr.TheVariants as w
use Rattle.dc_syntax.specs.Value.{State, value, value_step}
use Rattle.dc_syntax.specs.Run.{One, Run, none, more, skip, tick}
use Rattle.dc_syntax.specs.Costs.{Costs, start_of}
use Rattle.dc_syntax.specs.Plain.{number_in, plain_in, both, plain_cost, HasPlainCost}

value-number : (e : Expr) (l : Expr-F Expr) (n : ℕ) (s : State) → out-Expr e ≡ l → number_in l ≡ Some n → value e s ≡ pos n
value-number e (F.Num k) n s o h = rw (fold_out-Expr (State → ℤ) value_step e, o) (let q : k ≡ n = cc in ap pos q)
value-number e _ n s o h = cc

pub both-parts : (o p : Option ℕ) (c : ℕ) → both o p ≡ Some c → (a b : ℕ) × (o ≡ Some a) × (p ≡ Some b) × (a + b ≡ c)
both-parts None p c h = cc
both-parts (Some a) None c h = cc
both-parts (Some a) (Some b) c h = (a, b, refl, refl, cc)

One-plain : {L : Stmt-F Stmt} {s t : State} {d : ℤ} (c : ℕ) → plain_in L ≡ Some c → One L s d t → (d ≡ pos c) × (t ≡ s)
One-plain c h skip = (let q : 0 ≡ c = cc in ap pos q, refl)
One-plain c h (tick {s = s} e) = (value-number e (out-Expr e) c s refl h, refl)
One-plain c h _ = cc

-- each finished run has the sum as its cost, and changes nothing
pub Run-plain : {A : List Stmt} {s t : State} {d : ℤ} (c : ℕ) → plain_cost A ≡ Some c → Run A s d t → (d ≡ pos c) × (t ≡ s)
Run-plain c h none = (let q : 0 ≡ c = cc in ap pos q, refl)
Run-plain c h (more {c = x} {d = y} S R one rest) =
    let p : _ = both-parts (plain_in (out-Stmt S)) (plain_cost R) c h in
    let e : _ = One-plain p.0 p.2 one in
    let f : _ = Run-plain p.1 p.3 rest in
    let e0 : x ≡ pos p.0 = e.0 in
    let f0 : y ≡ pos p.1 = f.0 in
    let g : p.0 + p.1 ≡ c = p.4 in
    (omega (arith, ints), f.1 ∙ e.1)

plain-One : (L : Stmt-F Stmt) (c : ℕ) → plain_in L ≡ Some c → (s : State) → One L s (pos c) s
plain-One Skip c h s = let q : 0 ≡ c = cc in subst (λ d. One Skip s (pos d) s) q skip
plain-One (Tick e) c h s = subst (λ d. One (Tick e) s d s) (value-number e (out-Expr e) c s refl h) (tick e)
plain-One _ c h s = cc

-- and there is such a run from each state
pub plain-Run : (A : List Stmt) (c : ℕ) → plain_cost A ≡ Some c → (s : State) → Run A s (pos c) s
plain-Run [] c h s = let q : 0 ≡ c = cc in subst (λ d. Run [] s (pos d) s) q none
plain-Run (S ∷ R) c h s =
    let p : _ = both-parts (plain_in (out-Stmt S)) (plain_cost R) c h in
    subst (λ d. Run (S ∷ R) s (pos d) s) p.4 (more S R (plain-One (out-Stmt S) p.0 p.2 s) (plain-Run R p.1 p.3 s))

pub plain-runs_once : (A : List Stmt) (n : ℕ) → plain_cost A ≡ Some n → (s : State) (c : ℤ) (t : State) → Run A s c t ↔ ((c ≡ pos n) × (t ≡ s))
plain-runs_once A n h s c t = ((λ r. Run-plain n h r), λ e. rw (e.0, e.1) (plain-Run A n h s))

pub plain-costs_once : (p : Proc) (n : ℕ) → HasPlainCost p n → (v : State) (c : ℤ) → Costs p v c ↔ ((length v ≡ p.params) × (c ≡ pos n))
plain-costs_once p n h v c =
    ((λ r. (r.0, (Run-plain n h r.2).0)), λ e. (e.0, start_of p v, rw e.1 (plain-Run p.body n h (start_of p v))))

-- every pair of finished runs differs by the difference of the sums
pub plain-costs_differ : (p q : Proc) (a b : ℕ) → HasPlainCost p a → HasPlainCost q b
    → (v : State) (c d : ℤ) → Costs p v c → Costs q v d → c -ℤ d ≡ pos a -ℤ pos b
plain-costs_differ p q a b h k v c d x y =
    let e : c ≡ pos a = (Run-plain a h x.2).0 in
    let f : d ≡ pos b = (Run-plain b k y.2).0 in
    cc
