-- Each cost of a list of statements is paid by a replay with some choices, where any whole number may occur.
use Rattle.std.specs.Prelude.{◌≡◌, ℕ, zero, suc, List, [], ◌∷◌, ◌++◌, slice_set, ℤ, pos, ◌+ℤ◌, ◌≤ℤ◌, ◌&&◌, int_le, Bool, true, false, if◌then◌else◌, T, Some, refl}
use Rattle.std.proofs.Common.{sym, ◌∙◌, ap, ap₂, subst, arith, append_assoc}
use Rattle.std.proofs.lemmas.List.{append-nil}
use Rattle.std.proofs.Math.IntN.{+ℤ_assoc, +ℤ_idl, +ℤ_idr}
use Rattle.dc_syntax.specs.declared.tree.Expr.{Expr}
use Rattle.dc_syntax.specs.declared.tree.Stmt.{Stmt, Stmt-F, out-Stmt}
use Rattle.dc_syntax.specs.declared.tree.Stmt.TheOpen.{Skip, Assign, AnyOf, Between, Tick, Assume, If, IfAny, While, WhileAny}
use Rattle.dc_syntax.specs.declared.tree.Proc.{Proc}
use Rattle.dc_syntax.specs.Value.{State, value}
use Rattle.dc_syntax.specs.Run.{One, Run, skip, assign, any_of, between, tick, assume, if_true, if_false, if_left, if_right, while_done, while_turn, any_done, any_turn, none, more}
use Rattle.dc_syntax.specs.Costs.{Costs, start_of}
use Rattle.dc_trace.specs.Parts.{parts_of}
use Rattle.dc_trace.specs.Replay.{Config, config, start, any_number, on, allowed, act, all_fit, cost_fits, limited, Leads}
use Rattle.dc_trace.specs.Ends.{Pays}

so : (b : Bool) → T b → b ≡ true
so true h = refl
so false h = absurd h

of_le : (a b : ℤ) → a ≤ℤ b → int_le a b ≡ true
of_le a b h = so (int_le a b) h.le

-- ---- every number fits
all_any : (s : State) (es : List Expr) → all_fit any_number s es ≡ true
all_any s [] = refl
all_any s (e ∷ es) = all_any s es

cost_any : (L : Stmt-F Stmt) (s : State) (c : ℤ) → cost_fits any_number L s c ≡ true
cost_any Skip s c = refl
cost_any (Assign k e) s c = refl
cost_any (AnyOf k) s c = refl
cost_any (Between k a b) s c = refl
cost_any (Tick e) s c = refl
cost_any (Assume b) s c = refl
cost_any (If b A B) s c = refl
cost_any (IfAny A B) s c = refl
cost_any (While b A) s c = refl
cost_any (WhileAny A) s c = refl

-- ---- some turns lead there
abbrev pub Gets : Config → Config → Type 0
Gets x y = (n : ℕ) × Leads any_number n x y

stays : (x y : Config) → x ≡ y → Gets x y
stays x y e = (zero, e)

join : (x y z : Config) (n : ℕ) → Gets x y → Leads any_number n y z → Gets x z
join x y z zero g l = subst (Gets x) l g
join x y z (suc n) g l = let q = join x y l.0 n g l.1 in (suc q.0, (l.0, q.1, l.2))

follow : (x y z : Config) → Gets x y → Gets y z → Gets x z
follow x y z g h = join x y z h.0 g h.1

-- one turn of the statement S
once : (S : Stmt) (L : Stmt-F Stmt) (R : List Stmt) (s : State) (c : ℤ) (zs : List ℤ) (y : Config) → out-Stmt S ≡ L → act S L R s c zs ≡ on y → Gets (config (S ∷ R) s c zs) y
once S L R s c zs y o e = (
  suc zero,
  (
    config (S ∷ R) s c zs,
    refl,
    ap (λ t. Some (limited t (act S (out-Stmt S) R s c zs))) (ap₂ ◌&&◌ (all_any s (parts_of (out-Stmt S))) (cost_any (out-Stmt S) s c)) ∙ ap (λ l. Some (act S l R s c zs)) o ∙ ap Some e,
  ),
)

-- ---- what a run says of a replay: some choices lead from where it begins to where it ends, whatever is to be done behind it
pub record OwesOne (L : Stmt-F Stmt) (s : State) (c : ℤ) (t : State) : Type 0 where
  pub choices : List ℤ
  pub gets : (S : Stmt) → out-Stmt S ≡ L → (R : List Stmt) (d : ℤ) (zs : List ℤ) → Gets (config (S ∷ R) s d (choices ++ zs)) (config R t (d +ℤ c) zs)

pub record OwesAll (A : List Stmt) (s : State) (c : ℤ) (t : State) : Type 0 where
  pub choices : List ℤ
  pub gets : (R : List Stmt) (d : ℤ) (zs : List ℤ) → Gets (config (A ++ R) s d (choices ++ zs)) (config R t (d +ℤ c) zs)

-- a turn at no cost
free : (R : List Stmt) (t : State) (d : ℤ) (zs : List ℤ) → on (config R t d zs) ≡ on (config R t (d +ℤ pos 0) zs)
free R t d zs = ap (λ x. on (config R t x zs)) (sym (+ℤ_idr d))

-- two lists of choices, and the costs of two parts
joined : (A R : List Stmt) (s t : State) (d a b : ℤ) (xs ys zs : List ℤ) → Gets (config A s d (xs ++ (ys ++ zs))) (config R t ((d +ℤ a) +ℤ b) zs) → Gets (config A s d ((xs ++ ys) ++ zs)) (config R t (d +ℤ (a +ℤ b)) zs)
joined A R s t d a b xs ys zs g =
    subst (λ l. Gets (config A s d l) (config R t (d +ℤ (a +ℤ b)) zs)) (sym (append_assoc xs ys zs)) (subst (λ x. Gets (config A s d (xs ++ (ys ++ zs))) (config R t x zs)) (+ℤ_assoc d a b) g)

mutual
  pub owes_one : {L : Stmt-F Stmt} {s t : State} {c : ℤ} → One L s c t → OwesOne L s c t
  owes_one (skip {s = s}) = record { choices = []; gets = λ S o R d zs. once S Skip R s d zs _ o (free R s d zs) }
  owes_one (assign {s = s} k e) = record { choices = []; gets = λ S o R d zs. once S (Assign k e) R s d zs _ o (free R (slice_set s k (value e s)) d zs) }
  owes_one (any_of {s = s} k z) = record { choices = z ∷ []; gets = λ S o R d zs. once S (AnyOf k) R s d (z ∷ zs) _ o (free R (slice_set s k z) d zs) }
  owes_one (between {s = s} k a b z h i) =
      record {
        choices = z ∷ [];
        gets = λ S o R d zs.
            once S (Between k a b) R s d (z ∷ zs) _ o
            (ap (λ t. allowed t (config R (slice_set s k z) d zs)) (ap₂ ◌&&◌ (of_le (value a s) z h) (of_le z (value b s) i)) ∙ free R (slice_set s k z) d zs);
      }
  owes_one (tick {s = s} e) = record { choices = []; gets = λ S o R d zs. once S (Tick e) R s d zs _ o refl }
  owes_one (assume {s = s} b h) = record { choices = []; gets = λ S o R d zs. once S (Assume b) R s d zs _ o (ap (λ t. allowed t (config R s d zs)) h ∙ free R s d zs) }
  owes_one (if_true {s = s} b A B h r) =
      let q = owes_all r in
      record {
        choices = q.choices;
        gets = λ S o R d zs.
            follow (config (S ∷ R) s d (q.choices ++ zs)) (config (A ++ R) s d (q.choices ++ zs)) _
            (once S (If b A B) R s d (q.choices ++ zs) _ o (ap (λ t. on (config ((if t then A else B) ++ R) s d (q.choices ++ zs))) h)) (q.gets R d zs);
      }
  owes_one (if_false {s = s} b A B h r) =
      let q = owes_all r in
      record {
        choices = q.choices;
        gets = λ S o R d zs.
            follow (config (S ∷ R) s d (q.choices ++ zs)) (config (B ++ R) s d (q.choices ++ zs)) _
            (once S (If b A B) R s d (q.choices ++ zs) _ o (ap (λ t. on (config ((if t then A else B) ++ R) s d (q.choices ++ zs))) h)) (q.gets R d zs);
      }
  owes_one (if_left {s = s} A B r) =
      let q = owes_all r in
      record {
        choices = pos 1 ∷ q.choices;
        gets = λ S o R d zs.
            follow (config (S ∷ R) s d (pos 1 ∷ (q.choices ++ zs))) (config (A ++ R) s d (q.choices ++ zs)) _ (once S (IfAny A B) R s d (pos 1 ∷ (q.choices ++ zs)) _ o refl) (q.gets R d zs);
      }
  owes_one (if_right {s = s} A B r) =
      let q = owes_all r in
      record {
        choices = pos 0 ∷ q.choices;
        gets = λ S o R d zs.
            follow (config (S ∷ R) s d (pos 0 ∷ (q.choices ++ zs))) (config (B ++ R) s d (q.choices ++ zs)) _ (once S (IfAny A B) R s d (pos 0 ∷ (q.choices ++ zs)) _ o refl) (q.gets R d zs);
      }
  owes_one (while_done {s = s} b A h) =
      record { choices = []; gets = λ S o R d zs. once S (While b A) R s d zs _ o (ap (λ t. on (config (if t then A ++ S ∷ R else R) s d zs)) h ∙ free R s d zs) }
  owes_one (while_turn {s = s} {m = m} {t = t} {c = a} {d = b'} b A h r rest) =
      let q = owes_all r in
      let p = owes_one rest in
      record {
        choices = q.choices ++ p.choices;
        gets = λ S o R d zs.
            joined (S ∷ R) R s t d a b' q.choices p.choices zs
            (follow (config (S ∷ R) s d (q.choices ++ (p.choices ++ zs))) (config (A ++ S ∷ R) s d (q.choices ++ (p.choices ++ zs))) _
            (once S (While b A) R s d (q.choices ++ (p.choices ++ zs)) _ o (ap (λ t. on (config (if t then A ++ S ∷ R else R) s d (q.choices ++ (p.choices ++ zs)))) h))
            (follow (config (A ++ S ∷ R) s d (q.choices ++ (p.choices ++ zs))) (config (S ∷ R) m (d +ℤ a) (p.choices ++ zs)) _ (q.gets (S ∷ R) d (p.choices ++ zs)) (p.gets S o R (d +ℤ a) zs)));
      }
  owes_one (any_done {s = s} A) = record { choices = pos 0 ∷ []; gets = λ S o R d zs. once S (WhileAny A) R s d (pos 0 ∷ zs) _ o (free R s d zs) }
  owes_one (any_turn {s = s} {m = m} {t = t} {c = a} {d = b'} A r rest) =
      let q = owes_all r in
      let p = owes_one rest in
      record {
        choices = pos 1 ∷ (q.choices ++ p.choices);
        gets = λ S o R d zs.
            joined (S ∷ R) R s t d a b' (pos 1 ∷ q.choices) p.choices zs
            (follow (config (S ∷ R) s d (pos 1 ∷ (q.choices ++ (p.choices ++ zs)))) (config (A ++ S ∷ R) s d (q.choices ++ (p.choices ++ zs))) _
            (once S (WhileAny A) R s d (pos 1 ∷ (q.choices ++ (p.choices ++ zs))) _ o refl)
            (follow (config (A ++ S ∷ R) s d (q.choices ++ (p.choices ++ zs))) (config (S ∷ R) m (d +ℤ a) (p.choices ++ zs)) _ (q.gets (S ∷ R) d (p.choices ++ zs)) (p.gets S o R (d +ℤ a) zs)));
      }

  pub owes_all : {A : List Stmt} {s t : State} {c : ℤ} → Run A s c t → OwesAll A s c t
  owes_all (none {s = s}) = record { choices = []; gets = λ R d zs. stays (config R s d zs) _ (ap (λ x. config R s x zs) (sym (+ℤ_idr d))) }
  owes_all (more {s = s} {m = m} {t = t} {c = a} {d = b} S R' one rest) =
      let p = owes_one one in
      let q = owes_all rest in
      record {
        choices = p.choices ++ q.choices;
        gets = λ R d zs.
            joined (S ∷ (R' ++ R)) R s t d a b p.choices q.choices zs
            (follow (config (S ∷ (R' ++ R)) s d (p.choices ++ (q.choices ++ zs))) (config (R' ++ R) m (d +ℤ a) (q.choices ++ zs)) _ (p.gets S refl (R' ++ R) d (q.choices ++ zs)) (q.gets R (d +ℤ a) zs));
      }

pub cost_is_paid : (p : Proc) (v : State) (c : ℤ) → Costs p v c → (zs : List ℤ) × (turns : ℕ) × Pays any_number turns (start p v zs) c
cost_is_paid p v c h =
    let q = owes_all h.2 in
    let g : Gets (start p v (q.choices ++ [])) (config [] h.1 (pos 0 +ℤ c) []) = subst (λ A. Gets (config A (start_of p v) (pos 0) (q.choices ++ [])) (config [] h.1 (pos 0 +ℤ c) [])) (append-nil p.body) (q.gets [] (pos 0) []) in
    (q.choices ++ [], g.0, (config [] h.1 (pos 0 +ℤ c) [], record { count = g.0; within = omega arith; leads = g.1; done = refl }, refl, +ℤ_idl c))
