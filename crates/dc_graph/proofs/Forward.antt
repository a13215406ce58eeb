-- A run of a list is a walk through every graph that has its edges.
use Rattle.std.specs.Prelude.{◌≡◌, ℕ, zero, suc, ◌+◌, List, [], ◌∷◌, Bool, true, false, not, ◌||◌, ℤ, pos, ◌+ℤ◌, refl}
use Rattle.std.proofs.Common.{sym, ◌∙◌, ap, subst}
use Rattle.std.proofs.Math.IntN.{+ℤ_assoc, +ℤ_idl, +ℤ_comm}
use Rattle.dc_math.specs.Members.{Among, head, tail, among-left, among-right}
use Rattle.dc_syntax.specs.declared.tree.Stmt.{Stmt, Stmt-F}
use Rattle.dc_syntax.specs.declared.tree.Cond.{Cond}
use Rattle.dc_syntax.specs.Value.{State, truth}
use Rattle.dc_syntax.specs.Run.{One, Run, skip, assign, any_of, between, tick, assume, if_true, if_false, if_left, if_right, while_done, while_turn, any_done, any_turn, none, more}
use Rattle.dc_affine.specs.Table.{Fact, all_of, some_of, facts_of}
use Rattle.dc_affine.proofs.TableLaws.{facts_tell}
use Rattle.dc_graph.specs.Labels.{Label, Arrow, arrow, branch, idle, sets, picks, picks_in, pays, tests}
use Rattle.dc_graph.specs.Pieces.{Piece, sizes, first, all_arrows, piece, pieces, piece_in}
use Rattle.dc_graph.specs.Walks.{Acts, idles, set, picked, picked_in, paid, tested, Walk, done, step, Walks}
use Rattle.dc_graph.proofs.Parts.{piece_out}

-- every arrow of the list is one of the system's
abbrev pub Has : List Arrow → List Arrow → Type 0
Has E es = (e : Arrow) → Among e es → Among e E

at_cost : {E : List Arrow} {n k l : ℕ} {s t : State} {c d : ℤ} → c ≡ d → Walk E n k s c l t → Walk E n k s d l t
at_cost {E} {n} {k} {l} {s} {t} e p = subst (λ x. Walk E n k s x l t) e p

pub walk_join : {E : List Arrow} {n k j l : ℕ} {s m t : State} {c d : ℤ} → Walk E n k s c j m → Walks E j m d l t → Walks E k s (c +ℤ d) l t
walk_join {d = d} done q = (q.0, at_cost (sym (+ℤ_idl d)) q.1)
walk_join {d = d} (step {c = a} {d = b} j x i h p) q =
    let r = walk_join p q in
    (suc r.0, at_cost (sym (+ℤ_assoc a b d)) (step j x i h r.1))

-- one step and nothing more
one_step : {E : List Arrow} {k l : ℕ} {s t : State} {c : ℤ} (a : Label) → Among (arrow k l a) E → Acts a s c t → Walks E k s c l t
one_step {l = l} {c = c} a i h = (suc zero, at_cost (+ℤ_comm c (pos 0) ∙ +ℤ_idl c) (step l a i h done))

-- a step without a cost, and a walk
then_walk : {E : List Arrow} {k j l : ℕ} {s m t : State} {d : ℤ} (a : Label) → Among (arrow k j a) E → Acts a s (pos 0) m → Walks E j m d l t → Walks E k s d l t
then_walk {j = j} {d = d} a i h q = (suc q.0, at_cost (+ℤ_idl d) (step j a i h q.1))

-- the arrow of a conjunction that is true
pub record Open (k j : ℕ) (fs : List (List Fact)) (s : State) : Type 0 where
  pub conj : List Fact
  pub holds : all_of conj s ≡ true
  pub among : Among (arrow k j (tests conj)) (branch k j fs)

pub open_branch : (k j : ℕ) (fs : List (List Fact)) (s : State) → some_of fs s ≡ true → Open k j fs s
open_branch k j [] s h = cc
open_branch k j (f ∷ fs) s h = by (open_branch k j fs s) (all_of f s) refl h
  where
    by : (some_of fs s ≡ true → Open k j fs s) → (b : Bool) → all_of f s ≡ b → (b || some_of fs s) ≡ true → Open k j (f ∷ fs) s
    by go true e h = record { conj = f; holds = e; among = head }
    by go false e h = let r = go h in record { conj = r.conj; holds = r.holds; among = tail r.among }

true_facts : (c : Cond) (s : State) → truth c s ≡ true → some_of (facts_of c false) s ≡ true
true_facts c s h = facts_tell c false s ∙ h

false_facts : (c : Cond) (s : State) → truth c s ≡ false → some_of (facts_of c true) s ≡ true
false_facts c s h = facts_tell c true s ∙ ap not h

-- into a branch
into : {E : List Arrow} {k j l : ℕ} {s t : State} {d : ℤ} (fs : List (List Fact)) → Has E (branch k j fs) → some_of fs s ≡ true → Walks E j s d l t → Walks E k s d l t
into {E} {k} {j} {l} {s} fs h e q =
    let o = open_branch k j fs s e in
    then_walk (tests o.conj) (h _ o.among) (tested o.conj o.holds) q

mutual
  pub One-walk : {L : Stmt-F Stmt} {s t : State} {c : ℤ} → One L s c t → (E : List Arrow) (k l : ℕ) → Has E ((piece_in L).arrows k l) → Walks E k s c l t
  One-walk skip E k l h = one_step idle (h _ head) idles
  One-walk (assign x e) E k l h = one_step (sets x e) (h _ head) (set x e)
  One-walk (any_of x z) E k l h = one_step (picks x) (h _ head) (picked x z)
  One-walk (between x a b z p q) E k l h = one_step (picks_in x a b) (h _ head) (picked_in x a b z p q)
  One-walk (tick e) E k l h = one_step (pays e) (h _ head) (paid e)
  One-walk (assume {s = s} b p) E k l h = into (facts_of b false) h (true_facts b s p) (0, done)
  One-walk (if_true {s = s} b A B p r) E k l h =
      into (facts_of b false) (λ e i. h e (among-left _ (among-left _ i))) (true_facts b s p)
      (Run-walk r E (k + 1) l (λ e i. h e (among-right _ (among-left _ i))))
  One-walk (if_false {s = s} b A B p r) E k l h =
      into (facts_of b true) (λ e i. h e (among-left _ (among-right _ i))) (false_facts b s p)
      (Run-walk r E (k + 1 + sizes (pieces A)) l (λ e i. h e (among-right _ (among-right _ i))))
  One-walk (if_left A B r) E k l h =
      then_walk idle (h _ head) idles (Run-walk r E (k + 1) l (λ e i. h e (tail (tail (among-left _ i)))))
  One-walk (if_right A B r) E k l h =
      then_walk idle (h _ (tail head)) idles (Run-walk r E (k + 1 + sizes (pieces A)) l (λ e i. h e (tail (tail (among-right _ i)))))
  One-walk (while_done {s = s} b A p) E k l h = into (facts_of b true) (λ e i. h e (among-left _ (among-right _ i))) (false_facts b s p) (0, done)
  One-walk (while_turn {s = s} b A p r rest) E k l h =
      into (facts_of b false) (λ e i. h e (among-left _ (among-left _ i))) (true_facts b s p)
      (walk_join (Run-walk r E (k + 1) k (λ e i. h e (among-right _ i))).1 (One-walk rest E k l h))
  One-walk (any_done A) E k l h = one_step idle (h _ (tail head)) idles
  One-walk (any_turn A r rest) E k l h =
      then_walk idle (h _ head) idles (walk_join (Run-walk r E (k + 1) k (λ e i. h e (tail (tail i)))).1 (One-walk rest E k l h))

  pub Run-walk : {A : List Stmt} {s t : State} {c : ℤ} → Run A s c t → (E : List Arrow) (k l : ℕ) → Has E (all_arrows (pieces A) k l) → Walks E (first (pieces A) k l) s c l t
  Run-walk none E k l h = (0, done)
  Run-walk (more S R one rest) E k l h =
      let j = k + (piece S).size in
      walk_join
      (One-walk one E k (first (pieces R) j l) (subst (λ (p : Piece). Has E (p.arrows k (first (pieces R) j l))) (piece_out S) (λ e i. h e (among-left _ i)))).1
      (Run-walk rest E j l (λ e i. h e (among-right _ i)))
