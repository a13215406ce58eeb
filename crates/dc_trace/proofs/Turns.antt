-- Turns lead to one state.
use Rattle.std.specs.Prelude.{◌≡◌, ◌⊎◌, ℕ, zero, suc, ◌<◌, ◌≤◌, eqb, List, [], ◌∷◌, length, ℤ, pos, negsuc, ◌&&◌, slice_set, ◌++◌, ◌+ℤ◌, if◌then◌else◌, int_le, Bool, true, false, Some, None, refl}
use Rattle.std.proofs.Common.{sym, ◌∙◌, ap, subst, arith, inl, inr}
use Rattle.std.proofs.lemmas.Bool.{eqb-true, eqb-false}
use Rattle.dc_syntax.specs.declared.tree.Stmt.{Stmt, Stmt-F, out-Stmt}
use Rattle.dc_syntax.specs.declared.tree.Stmt.TheOpen.{Skip, Assign, AnyOf, Between, Tick, Assume, If, IfAny, While, WhileAny}
use Rattle.dc_syntax.specs.Value.{State, value, truth}
use Rattle.dc_trace.specs.Replay.{Config, config, Why, no_choice, bad_choice, past, blocked, Turn, on, stop, chosen, allowed, act, turn_fits, limited, turn_of, turn_in, turn, Leads}

pub on_same : (y z : Config) → on y ≡ on z → y ≡ z
on_same y z e = cc

some_same : (y z : Config) → Some (on y) ≡ Some (on z) → y ≡ z
some_same y z e = cc

pub stop_not : (w : Why) (z : Config) → ¬ (stop w ≡ on z)
stop_not w z e = cc

pub allowed_on : (t : Bool) (z y : Config) → allowed t z ≡ on y → (t ≡ true) × (on z ≡ on y)
allowed_on true z y e = (refl, e)
allowed_on false z y e = absurd (stop_not blocked y e)

-- what is let pass is what was done
pub limited_on : (t : Bool) (T : Turn) (y : Config) → limited t T ≡ on y → T ≡ on y
limited_on true T y e = e
limited_on false (stop no_choice) y e = absurd (stop_not no_choice y e)
limited_on false (stop bad_choice) y e = absurd (stop_not bad_choice y e)
limited_on false (stop past) y e = absurd (stop_not past y e)
limited_on false (stop blocked) y e = absurd (stop_not past y e)
limited_on false (on z) y e = absurd (stop_not past y e)

module _ (fits : ℤ → Bool) where
  -- a turn is due where something is to be done
  pub no_turn : (A : List Stmt) (s : State) (c : ℤ) (zs : List ℤ) → turn_in fits A s c zs ≡ None → A ≡ []
  no_turn [] s c zs e = refl
  no_turn (S ∷ R) s c zs e = cc

  pub some_turn : (A : List Stmt) (s : State) (c : ℤ) (zs : List ℤ) (t : Turn) → turn_in fits A s c zs ≡ Some t → ¬ (A ≡ [])
  some_turn [] s c zs t e q = cc
  some_turn (S ∷ R) s c zs t e q = cc

  -- ---- the same number of turns leads to one state
  pub leads_one : (n : ℕ) (x y z : Config) → Leads fits n x y → Leads fits n x z → y ≡ z
  leads_one zero x y z a b = sym a ∙ b
  leads_one (suc n) x y z a b = some_same y z (sym a.2 ∙ ap (turn fits) (leads_one n x a.0 b.0 a.1 b.1) ∙ b.2)

  -- nothing comes after it
  abbrev pub Halted : Config → Type 0
  Halted y = (w : Config) → ¬ (turn fits y ≡ Some (on w))

  before_last : (n m : ℕ) → n < suc m → (n ≡ m) ⊎ (n < m)
  before_last n m h = by (eqb n m) refl
    where
      by : (t : Bool) → eqb n m ≡ t → (n ≡ m) ⊎ (n < m)
      by true e = inl (eqb-true n m e)
      by false e = inr (let k = eqb-false n m e in omega (arith, k))

  -- where more turns are made, what was reached before goes on
  pub goes_before : (n m : ℕ) (x y z : Config) → n < m → Leads fits n x y → Leads fits m x z → (w : Config) × (turn fits y ≡ Some (on w))
  goes_before n zero x y z h a b = absurd (omega arith)
  goes_before n (suc m) x y z h a b = by (before_last n m h) (λ l. goes_before n m x y b.0 l a b.1)
    where
      by : (n ≡ m) ⊎ (n < m) → (n < m → (w : Config) × (turn fits y ≡ Some (on w))) → (w : Config) × (turn fits y ≡ Some (on w))
      by (inl e) f = (z, ap (turn fits) (leads_one m x y b.0 (subst (λ k. Leads fits k x y) e a) b.1) ∙ b.2)
      by (inr l) f = f l

  -- an end within some turns: it is halted, or all turns are made
  pub record Last (turns : ℕ) (x : Config) (n : ℕ) (y : Config) : Type 0 where
    pub within : n ≤ turns
    pub leads : Leads fits n x y
    pub halted : n < turns → Halted y

  not_before : (turns n m : ℕ) (x y z : Config) → Last turns x n y → Last turns x m z → ¬ (n < m)
  not_before turns n m x y z a b h = let g = goes_before n m x y z h a.leads b.leads in let k = b.within in a.halted (omega arith) g.0 g.1

  pub one_count : (turns n m : ℕ) (x y z : Config) → Last turns x n y → Last turns x m z → n ≡ m
  one_count turns n m x y z a b = let p = not_before turns n m x y z a b in let q = not_before turns m n x z y b a in omega (arith, p, q)

  pub one_last : (turns n m : ℕ) (x y z : Config) → Last turns x n y → Last turns x m z → y ≡ z
  one_last turns n m x y z a b = leads_one m x y z (subst (λ k. Leads fits k x y) (one_count turns n m x y z a b) a.leads) b.leads

  -- ---- no turn makes choices more
  fewer : (z : ℤ) (zs : List ℤ) → length zs ≤ length (z ∷ zs)
  fewer z zs = (let e : length (z ∷ zs) ≡ suc (length zs) = refl in omega arith)

  to_fewer : (A : List Stmt) (s : State) (c : ℤ) (zs : List ℤ) (n : ℕ) (y : Config) → on (config A s c zs) ≡ on y → length zs ≤ n → length y.choices ≤ n
  to_fewer A s c zs n y e h = subst (λ x. length x.choices ≤ n) (on_same (config A s c zs) y e) h

  chosen_fewer : (z : ℤ) (A B : List Stmt) (s : State) (c : ℤ) (zs : List ℤ) (n : ℕ) (y : Config) → chosen z (config A s c zs) (config B s c zs) ≡ on y → length zs ≤ n → length y.choices ≤ n
  chosen_fewer (pos zero) A B s c zs n y e h = to_fewer B s c zs n y e h
  chosen_fewer (pos (suc zero)) A B s c zs n y e h = to_fewer A s c zs n y e h
  chosen_fewer (pos (suc (suc k))) A B s c zs n y e h = absurd (stop_not bad_choice y e)
  chosen_fewer (negsuc k) A B s c zs n y e h = absurd (stop_not bad_choice y e)

  act_fewer : (S : Stmt) (L : Stmt-F Stmt) (R : List Stmt) (s : State) (c : ℤ) (zs : List ℤ) (y : Config) → act S L R s c zs ≡ on y → length y.choices ≤ length zs
  act_fewer S Skip R s c zs y e = to_fewer R s c zs (length zs) y e (omega arith)
  act_fewer S (Assign k a) R s c zs y e = to_fewer R _ c zs (length zs) y e (omega arith)
  act_fewer S (AnyOf k) R s c [] y e = absurd (stop_not no_choice y e)
  act_fewer S (AnyOf k) R s c (z ∷ zs) y e = to_fewer R _ c zs (length (z ∷ zs)) y e (fewer z zs)
  act_fewer S (Between k a b) R s c [] y e = absurd (stop_not no_choice y e)
  act_fewer S (Between k a b) R s c (z ∷ zs) y e = to_fewer R (slice_set s k z) c zs (length (z ∷ zs)) y (allowed_on (int_le (value a s) z && int_le z (value b s)) (config R (slice_set s k z) c zs) y e).1 (fewer z zs)
  act_fewer S (Tick a) R s c zs y e = to_fewer R s (c +ℤ value a s) zs (length zs) y e (omega arith)
  act_fewer S (Assume b) R s c zs y e = to_fewer R s c zs (length zs) y (allowed_on (truth b s) (config R s c zs) y e).1 (omega arith)
  act_fewer S (If b A B) R s c zs y e = to_fewer ((if truth b s then A else B) ++ R) s c zs (length zs) y e (omega arith)
  act_fewer S (IfAny A B) R s c [] y e = absurd (stop_not no_choice y e)
  act_fewer S (IfAny A B) R s c (z ∷ zs) y e = chosen_fewer z (A ++ R) (B ++ R) s c zs (length (z ∷ zs)) y e (fewer z zs)
  act_fewer S (While b A) R s c zs y e = to_fewer (if truth b s then A ++ S ∷ R else R) s c zs (length zs) y e (omega arith)
  act_fewer S (WhileAny A) R s c [] y e = absurd (stop_not no_choice y e)
  act_fewer S (WhileAny A) R s c (z ∷ zs) y e = chosen_fewer z (A ++ S ∷ R) R s c zs (length (z ∷ zs)) y e (fewer z zs)

  turn_fewer : (A : List Stmt) (s : State) (c : ℤ) (zs : List ℤ) (y : Config) → turn_in fits A s c zs ≡ Some (on y) → length y.choices ≤ length zs
  turn_fewer [] s c zs y e = cc
  turn_fewer (S ∷ R) s c zs y e = act_fewer S (out-Stmt S) R s c zs y (limited_on (turn_fits fits (out-Stmt S) s c) (act S (out-Stmt S) R s c zs) y (same_turn e))
    where
      same_turn : Some (turn_of fits S (out-Stmt S) R s c zs) ≡ Some (on y) → turn_of fits S (out-Stmt S) R s c zs ≡ on y
      same_turn e = cc

  pub leads_fewer : (n : ℕ) (x y : Config) → Leads fits n x y → length y.choices ≤ length x.choices
  leads_fewer zero x y h = (let e = ap (λ z. length z.choices) h in omega arith)
  leads_fewer (suc n) x y h = (let a = leads_fewer n x h.0 h.1 in let b = turn_fewer h.0.todo h.0.state h.0.cost h.0.choices y h.2 in omega arith)
