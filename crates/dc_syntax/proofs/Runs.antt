-- Runs of statements by the table, runs of joined lists, and the length of a run's states.
use Rattle.std.proofs.Common.{◌≡◌, ◌∙◌, sym, inl, inr, refl, arith, ℤ, pos, List, [], ◌∷◌, ◌++◌, length}
use Rattle.std.specs.Prelude.{◌↔◌, ◌+ℤ◌}
use Rattle.std.proofs.lemmas.Int.{ints}
use Rattle.std.proofs.Math.IntN.{+ℤ_assoc, +ℤ_idl}
use Rattle.std.proofs.Math.ListN.{length-set}
use Rattle.dc_syntax.specs.declared.tree.Stmt.{Stmt, Stmt-F}
use Rattle.dc_syntax.specs.declared.tree.Stmt.TheOpen.{Skip, Assign, AnyOf, Between, Tick, Assume, If, IfAny, While, WhileAny}
use Rattle.dc_syntax.specs.Value.{State}
use Rattle.dc_syntax.specs.Run.{One, Run, skip, assign, any_of, between, tick, assume, if_true, if_false, if_left, if_right, while_done, while_turn, any_done, any_turn, none, more}
use Rattle.dc_syntax.specs.Table.{Then, Does, DoesAll}

-- what a derivation says, by its last rule
pub One-does : {L : Stmt-F Stmt} {s t : State} {c : ℤ} → One L s c t → Does L s c t
One-does skip = (refl, refl)
One-does (assign k e) = (refl, refl)
One-does (any_of k z) = (z, (refl, refl))
One-does (between k a b z h i) = (z, h, i, (refl, refl))
One-does (tick e) = (refl, refl)
One-does (assume b h) = (h, (refl, refl))
One-does (if_true b A B h r) = inl (h, r)
One-does (if_false b A B h r) = inr (h, r)
One-does (if_left A B r) = inl r
One-does (if_right A B r) = inr r
One-does (while_done b A h) = inl (h, (refl, refl))
One-does (while_turn {m = m} {c = c} {d = d} b A h r rest) = inr (h, (m, c, d, r, rest, refl))
One-does (any_done A) = inl (refl, refl)
One-does (any_turn {m = m} {c = c} {d = d} A r rest) = inr (m, c, d, r, rest, refl)

-- and back: what the table says has a derivation
pub does-One : (L : Stmt-F Stmt) (s : State) (c : ℤ) (t : State) → Does L s c t → One L s c t
does-One Skip s c t h = rw (h.0, h.1) skip
does-One (Assign k e) s c t h = rw (h.0, h.1) (assign k e)
does-One (AnyOf k) s c t h = rw (h.1.0, h.1.1) (any_of k h.0)
does-One (Between k a b) s c t h = rw (h.3.0, h.3.1) (between k a b h.0 h.1 h.2)
does-One (Tick e) s c t h = rw (h.0, h.1) (tick e)
does-One (Assume b) s c t h = rw (h.1.0, h.1.1) (assume b h.0)
does-One (If b A B) s c t (inl h) = if_true b A B h.0 h.1
does-One (If b A B) s c t (inr h) = if_false b A B h.0 h.1
does-One (IfAny A B) s c t (inl h) = if_left A B h
does-One (IfAny A B) s c t (inr h) = if_right A B h
does-One (While b A) s c t (inl h) = rw (h.1.0, h.1.1) (while_done b A h.0)
does-One (While b A) s c t (inr h) = rw h.1.5 (while_turn b A h.0 h.1.3 h.1.4)
does-One (WhileAny A) s c t (inl h) = rw (h.0, h.1) (any_done A)
does-One (WhileAny A) s c t (inr h) = rw h.5 (any_turn A h.3 h.4)

pub One-by_table : (L : Stmt-F Stmt) (s : State) (c : ℤ) (t : State) → One L s c t ↔ Does L s c t
One-by_table L s c t = ((λ r. One-does r), does-One L s c t)

pub Run-does : {A : List Stmt} {s t : State} {c : ℤ} → Run A s c t → DoesAll A s c t
Run-does none = (refl, refl)
Run-does (more {m = m} {c = c} {d = d} S R one rest) = (m, c, d, one, rest, refl)

pub does-Run : (A : List Stmt) (s : State) (c : ℤ) (t : State) → DoesAll A s c t → Run A s c t
does-Run [] s c t h = rw (h.0, h.1) none
does-Run (S ∷ R) s c t h = rw h.5 (more S R h.3 h.4)

pub Run-by_table : (A : List Stmt) (s : State) (c : ℤ) (t : State) → Run A s c t ↔ DoesAll A s c t
Run-by_table A s c t = ((λ r. Run-does r), does-Run A s c t)

-- a run of a joined list is a run of the first part and then one of the second
pub Run-split : (A B : List Stmt) {s t : State} {c : ℤ} → Run (A ++ B) s c t → Then (Run A) (Run B) s c t
Run-split [] B {s} {t} {c} r = (s, pos 0, c, none, r, sym (+ℤ_idl c))
Run-split (S ∷ A) B (more {m = m} {t = t} {c = c} {d = d} S' R one rest) =
    let q : Then (Run A) (Run B) m d t = Run-split A B rest in
    (q.0, c +ℤ q.1, q.2, more S A one q.3, q.4, omega (arith, ints, q.5))

pub Run-join : (A B : List Stmt) {s m t : State} {c d : ℤ} → Run A s c m → Run B m d t → Run (A ++ B) s (c +ℤ d) t
Run-join [] B {t = t} {d = d} none r = rw +ℤ_idl r
Run-join (S ∷ A) B {t = t} {d = d} (more S' R one rest) r = rw +ℤ_assoc (more S (A ++ B) one (Run-join A B rest r))

pub Run-of_joined : (A B : List Stmt) (s : State) (c : ℤ) (t : State) → Run (A ++ B) s c t ↔ Then (Run A) (Run B) s c t
Run-of_joined A B s c t = ((λ r. Run-split A B r), λ h. rw h.5 (Run-join A B h.3 h.4))

-- a run keeps the number of places
mutual
  pub One-length : {L : Stmt-F Stmt} {s t : State} {c : ℤ} → One L s c t → length t ≡ length s
  One-length skip = refl
  One-length (assign {s = s} k e) = length-set s k _
  One-length (any_of {s = s} k z) = length-set s k z
  One-length (between {s = s} k a b z h i) = length-set s k z
  One-length (tick e) = refl
  One-length (assume b h) = refl
  One-length (if_true b A B h r) = Run-length r
  One-length (if_false b A B h r) = Run-length r
  One-length (if_left A B r) = Run-length r
  One-length (if_right A B r) = Run-length r
  One-length (while_done b A h) = refl
  One-length (while_turn b A h r rest) = One-length rest ∙ Run-length r
  One-length (any_done A) = refl
  One-length (any_turn A r rest) = One-length rest ∙ Run-length r

  pub Run-length : {A : List Stmt} {s t : State} {c : ℤ} → Run A s c t → length t ≡ length s
  Run-length none = refl
  Run-length (more S R one rest) = Run-length rest ∙ One-length one
