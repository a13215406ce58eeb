-- Where the flags are right, the duties that they name are those that are owed, each once.
use Rattle.std.specs.Prelude.{◌≡◌, ℕ, zero, suc, ◌+◌, ◌≤◌, ◌<◌, Bool, true, false, cond, eqb, List, [], ◌∷◌, map, length, slice_index_or, pos}
use Rattle.std.specs.List.{AllByRecursion}
use Rattle.std.proofs.Common.{refl, sym, ◌∙◌, ap, ap₂, subst, arith}
use Rattle.std.proofs.lemmas.List.{length-map, get_or-map}
use Rattle.std.proofs.lemmas.Bool.{ne_eqb}
use Rattle.dc_math.specs.Members.{each-++, each-map}
use Rattle.dc_math.specs.Rational.{ℚ, ◌+ℚ◌, of_ℤ, zero-+ℚ, +ℚ-zero}
use Rattle.dc_syntax.specs.declared.tree.Side.{Side}
use Rattle.dc_syntax.specs.declared.tree.Side.TheVariants.{New, Old}
use Rattle.dc_affine.specs.declared.atom.Atom.{Atom}
use Rattle.dc_points.specs.Points.{IsDead}
use Rattle.dc_points.specs.Shown.{IsFlag, AreFlags}
use Rattle.dc_claims.specs.Duties.{Pair, system_of, no_edge, edge_atoms, atoms_of, IsOwed, Flags, numbers_set, duties_along, duty_at_exit, duties_of, AreRight, same_duty}
use Rattle.dc_claims.specs.declared.duty.Duty.{Duty}
use Rattle.dc_claims.specs.declared.duty.Duty.TheVariants.{Along, AtExit, AtEntry}
use Rattle.dc_claims.proofs.Counting.{passing, passing-++, passing-map, none_mapped}
use Rattle.dc_claims.proofs.Totals.{total, eqb_same, eqb_is}

-- ---- duties that are the same
pub same_duty_refl : (o : Duty) → same_duty o o ≡ true
same_duty_refl (Along New n) = eqb_same n
same_duty_refl (Along Old n) = eqb_same n
same_duty_refl (AtExit New) = refl
same_duty_refl (AtExit Old) = refl
same_duty_refl (AtEntry n) = eqb_same n

pub same_duty_is : (o c : Duty) → same_duty o c ≡ true → o ≡ c
same_duty_is (Along New m) (Along New n) h = ap (Along New) (eqb_is m n h)
same_duty_is (Along Old m) (Along Old n) h = ap (Along Old) (eqb_is m n h)
same_duty_is (Along New m) (Along Old n) h = cc
same_duty_is (Along Old m) (Along New n) h = cc
same_duty_is (AtExit New) (AtExit New) h = refl
same_duty_is (AtExit Old) (AtExit Old) h = refl
same_duty_is (AtExit New) (AtExit Old) h = cc
same_duty_is (AtExit Old) (AtExit New) h = cc
same_duty_is (AtEntry m) (AtEntry n) h = ap AtEntry (eqb_is m n h)
same_duty_is (Along s m) (AtExit u) h = cc
same_duty_is (Along s m) (AtEntry n) h = cc
same_duty_is (AtExit s) (Along u n) h = cc
same_duty_is (AtExit s) (AtEntry n) h = cc
same_duty_is (AtEntry m) (Along u n) h = cc
same_duty_is (AtEntry m) (AtExit u) h = cc

-- how often a duty stands in a list
abbrev pub occurs : Duty → List Duty → ℕ
occurs o os = passing (same_duty o) os

occurs_count : (o : Duty) (n : ℕ) (g : ℕ → Duty) (ms : List ℕ) → ((m : ℕ) → same_duty o (g m) ≡ eqb n m) → occurs o (map g ms) ≡ passing (eqb n) ms
occurs_count o n g ms h = passing-map (same_duty o) g (eqb n) ms h

occurs_none : (o : Duty) (g : ℕ → Duty) (ms : List ℕ) → ((m : ℕ) → same_duty o (g m) ≡ false) → occurs o (map g ms) ≡ 0
occurs_none o g ms h = none_mapped (same_duty o) g ms h

occurs_at_exit : (o : Duty) (side : Side) (b : Bool) → same_duty o (AtExit side) ≡ false → occurs o (duty_at_exit side b) ≡ 0
occurs_at_exit o side true h = ap (λ b. cond b 1 0 + 0) h
occurs_at_exit o side false h = refl

-- each that occurs once holds what each holds
pub once_each : (P : Duty → Type 0) (o : Duty) (os : List Duty) → occurs o os ≡ 1 → AllByRecursion P os → P o
once_each P o [] h e = absurd (omega arith)
once_each P o (c ∷ cs) h e = by (once_each P o cs) (same_duty o c) refl h
  where
    by : (occurs o cs ≡ 1 → AllByRecursion P cs → P o) → (b : Bool) → same_duty o c ≡ b → cond b 1 0 + occurs o cs ≡ 1 → P o
    by r true q h = subst P (sym (same_duty_is o c q)) e.0
    by r false q h = r (omega arith) e.1

-- a sum to which only one duty adds, where it occurs once
total_none : (h : Duty → ℚ) (o : Duty) (os : List Duty) → ((c : Duty) → same_duty o c ≡ false → h c ≡ of_ℤ (pos 0)) → occurs o os ≡ 0 → total h os ≡ of_ℤ (pos 0)
total_none h o [] z e = refl
total_none h o (c ∷ cs) z e = by (total_none h o cs z) (same_duty o c) refl e
  where
    by : (occurs o cs ≡ 0 → total h cs ≡ of_ℤ (pos 0)) → (b : Bool) → same_duty o c ≡ b → cond b 1 0 + occurs o cs ≡ 0 → h c +ℚ total h cs ≡ of_ℤ (pos 0)
    by r true q e = absurd (omega arith)
    by r false q e = ap₂ ◌+ℚ◌ (z c q) (r (omega arith)) ∙ +ℚ-zero (of_ℤ (pos 0))

pub total_once : (h : Duty → ℚ) (o : Duty) (os : List Duty) → ((c : Duty) → same_duty o c ≡ false → h c ≡ of_ℤ (pos 0)) → occurs o os ≡ 1 → total h os ≡ h o
total_once h o [] z e = absurd (omega arith)
total_once h o (c ∷ cs) z e = by (total_once h o cs z) (same_duty o c) refl e
  where
    by : (occurs o cs ≡ 1 → total h cs ≡ h o) → (b : Bool) → same_duty o c ≡ b → cond b 1 0 + occurs o cs ≡ 1 → h c +ℚ total h cs ≡ h o
    by r true q e = ap₂ ◌+ℚ◌ (ap h (sym (same_duty_is o c q))) (total_none h o cs z (omega arith)) ∙ +ℚ-zero (h o)
    by r false q e = ap (λ y. y +ℚ total h cs) (z c q) ∙ zero-+ℚ (total h cs) ∙ r (omega arith)

-- ---- the numbers of the flags that are set
count_past : (n k : ℕ) (bs : List Bool) → n < k → passing (eqb n) (numbers_set k bs) ≡ 0
count_past n k [] h = refl
count_past n k (true ∷ bs) h = ap₂ (λ b j. cond b 1 0 + j) (ne_eqb n k (λ e. omega arith)) (count_past n (suc k) bs (omega arith))
count_past n k (false ∷ bs) h = count_past n (suc k) bs (omega arith)

count_set : (k i : ℕ) (bs : List Bool) (hs : List (List Atom)) → AreFlags bs hs → i < length hs → ¬ IsDead (slice_index_or hs i []) → passing (eqb (k + i)) (numbers_set k bs) ≡ 1
count_set k i [] [] f l n = absurd (omega arith)
count_set k i [] (h ∷ hs) f l n = absurd f
count_set k i (b ∷ bs) [] f l n = absurd f
count_set k zero (true ∷ bs) (h ∷ hs) f l n =
    let e : k + 0 ≡ k = omega arith in
    ap (λ j. cond (eqb j k) 1 0 + passing (eqb j) (numbers_set (suc k) bs)) e ∙ ap₂ (λ b j. cond b 1 0 + j) (eqb_same k) (count_past k (suc k) bs (omega arith))
count_set k zero (false ∷ bs) (h ∷ hs) f l n = absurd (let c : false ≡ true = f.0.1 n in cc)
count_set k (suc i) (b ∷ bs) (h ∷ hs) f l n = by b (let e : suc k + i ≡ k + suc i = omega arith in subst (λ j. passing (eqb j) (numbers_set (suc k) bs) ≡ 1) e (count_set (suc k) i bs hs f.1 (omega arith) n))
  where
    by : (b : Bool) → passing (eqb (k + suc i)) (numbers_set (suc k) bs) ≡ 1 → passing (eqb (k + suc i)) (numbers_set k (b ∷ bs)) ≡ 1
    by true r = ap₂ (λ b j. cond b 1 0 + j) (ne_eqb (k + suc i) k (λ e. omega arith)) r
    by false r = r

each_set : (P : ℕ → Type 0) (k : ℕ) (bs : List Bool) (hs : List (List Atom)) → AreFlags bs hs → ((i : ℕ) → i < length hs → ¬ IsDead (slice_index_or hs i []) → P (k + i)) → AllByRecursion P (numbers_set k bs)
each_set P k [] [] f g = tt
each_set P k [] (h ∷ hs) f g = absurd f
each_set P k (b ∷ bs) [] f g = absurd f
each_set P k (b ∷ bs) (h ∷ hs) f g =
    by b (f.0.0) (each_set P (suc k) bs hs f.1 (λ i l n. subst P (let e : k + suc i ≡ suc k + i = omega arith in e) (g (suc i) (omega arith) n)))
  where
    by : (b : Bool) → (b ≡ true → ¬ IsDead h) → AllByRecursion P (numbers_set (suc k) bs) → AllByRecursion P (numbers_set k (b ∷ bs))
    by true l r = (subst P (let e : k + 0 ≡ k = omega arith in e) (g 0 (omega arith) (l refl)), r)
    by false l r = r

-- by the five parts of the list
in_parts : (f : Flags) (o : Duty) (a b c d e : ℕ) → occurs o (duties_along New f.new_edges) ≡ a → occurs o (duty_at_exit New f.new_exit) ≡ b → occurs o (duties_along Old f.old_edges) ≡ c
    → occurs o (duty_at_exit Old f.old_exit) ≡ d → occurs o (map AtEntry (numbers_set 0 f.cases)) ≡ e → occurs o (duties_of f) ≡ a + (b + (c + (d + e)))
in_parts f o a b c d e ha hb hc hd he =
    passing-++ (same_duty o) (duties_along New f.new_edges) _
    ∙ ap₂ (λ x y. x + y) ha (passing-++ (same_duty o) (duty_at_exit New f.new_exit) _
    ∙ ap₂ (λ x y. x + y) hb (passing-++ (same_duty o) (duties_along Old f.old_edges) _
    ∙ ap₂ (λ x y. x + y) hc (passing-++ (same_duty o) (duty_at_exit Old f.old_exit) (map AtEntry (numbers_set 0 f.cases)) ∙ ap₂ (λ x y. x + y) hd he)))

-- how often a duty occurs, by its own part
abbrev in_part : Flags → Duty → ℕ
in_part f (Along New n) = passing (eqb n) (numbers_set 0 f.new_edges)
in_part f (Along Old n) = passing (eqb n) (numbers_set 0 f.old_edges)
in_part f (AtExit New) = occurs (AtExit New) (duty_at_exit New f.new_exit)
in_part f (AtExit Old) = occurs (AtExit Old) (duty_at_exit Old f.old_exit)
in_part f (AtEntry n) = passing (eqb n) (numbers_set 0 f.cases)

occurs_is : (f : Flags) (o : Duty) → occurs o (duties_of f) ≡ in_part f o
occurs_is f (Along New n) =
    in_parts f (Along New n) (passing (eqb n) (numbers_set 0 f.new_edges)) 0 0 0 0 (occurs_count (Along New n) n (Along New) (numbers_set 0 f.new_edges) (λ m. refl)) (occurs_at_exit (Along New n) New f.new_exit refl)
    (occurs_none (Along New n) (Along Old) (numbers_set 0 f.old_edges) (λ m. refl)) (occurs_at_exit (Along New n) Old f.old_exit refl) (occurs_none (Along New n) AtEntry (numbers_set 0 f.cases) (λ m. refl)) ∙ omega arith
occurs_is f (Along Old n) =
    in_parts f (Along Old n) 0 0 (passing (eqb n) (numbers_set 0 f.old_edges)) 0 0 (occurs_none (Along Old n) (Along New) (numbers_set 0 f.new_edges) (λ m. refl)) (occurs_at_exit (Along Old n) New f.new_exit refl)
    (occurs_count (Along Old n) n (Along Old) (numbers_set 0 f.old_edges) (λ m. refl)) (occurs_at_exit (Along Old n) Old f.old_exit refl) (occurs_none (Along Old n) AtEntry (numbers_set 0 f.cases) (λ m. refl)) ∙ omega arith
occurs_is f (AtExit New) =
    in_parts f (AtExit New) 0 (in_part f (AtExit New)) 0 0 0 (occurs_none (AtExit New) (Along New) (numbers_set 0 f.new_edges) (λ m. refl)) refl
    (occurs_none (AtExit New) (Along Old) (numbers_set 0 f.old_edges) (λ m. refl)) (occurs_at_exit (AtExit New) Old f.old_exit refl) (occurs_none (AtExit New) AtEntry (numbers_set 0 f.cases) (λ m. refl)) ∙ omega arith
occurs_is f (AtExit Old) =
    in_parts f (AtExit Old) 0 0 0 (in_part f (AtExit Old)) 0 (occurs_none (AtExit Old) (Along New) (numbers_set 0 f.new_edges) (λ m. refl)) (occurs_at_exit (AtExit Old) New f.new_exit refl)
    (occurs_none (AtExit Old) (Along Old) (numbers_set 0 f.old_edges) (λ m. refl)) refl (occurs_none (AtExit Old) AtEntry (numbers_set 0 f.cases) (λ m. refl)) ∙ omega arith
occurs_is f (AtEntry n) =
    in_parts f (AtEntry n) 0 0 0 0 (passing (eqb n) (numbers_set 0 f.cases)) (occurs_none (AtEntry n) (Along New) (numbers_set 0 f.new_edges) (λ m. refl)) (occurs_at_exit (AtEntry n) New f.new_exit refl)
    (occurs_none (AtEntry n) (Along Old) (numbers_set 0 f.old_edges) (λ m. refl)) (occurs_at_exit (AtEntry n) Old f.old_exit refl) (occurs_count (AtEntry n) n AtEntry (numbers_set 0 f.cases) (λ m. refl)) ∙ omega arith

-- at most once, whatever the flags
count_once : (n k : ℕ) (bs : List Bool) → passing (eqb n) (numbers_set k bs) ≤ 1
count_once n k [] = omega arith
count_once n k (false ∷ bs) = count_once n (suc k) bs
count_once n k (true ∷ bs) = by (count_once n (suc k) bs) (count_past n (suc k) bs) (eqb n k) refl
  where
    by : passing (eqb n) (numbers_set (suc k) bs) ≤ 1 → (n < suc k → passing (eqb n) (numbers_set (suc k) bs) ≡ 0) → (b : Bool) → eqb n k ≡ b → cond b 1 0 + passing (eqb n) (numbers_set (suc k) bs) ≤ 1
    by r z true q = let e = eqb_is n k q in let i = z (omega arith) in omega arith
    by r z false q = omega arith

exit_at_most : (o : Duty) (side : Side) (b : Bool) → occurs o (duty_at_exit side b) ≤ 1
exit_at_most o side false = omega arith
exit_at_most o side true = by (same_duty o (AtExit side))
  where
    by : (b : Bool) → cond b 1 0 + 0 ≤ 1
    by true = omega arith
    by false = omega arith

pub occurs_at_most : (f : Flags) (o : Duty) → occurs o (duties_of f) ≤ 1
occurs_at_most f o = subst (λ n. n ≤ 1) (sym (occurs_is f o)) (by o)
  where
    by : (o : Duty) → in_part f o ≤ 1
    by (Along New n) = count_once n 0 f.new_edges
    by (Along Old n) = count_once n 0 f.old_edges
    by (AtExit New) = exit_at_most (AtExit New) New f.new_exit
    by (AtExit Old) = exit_at_most (AtExit Old) Old f.old_exit
    by (AtEntry n) = count_once n 0 f.cases

module _ (p : Pair) (f : Flags) (right : AreRight p f) where
  -- the atoms of an edge, by its number
  edge_numbered : (side : Side) (n : ℕ) → n < length (system_of p side).edges → slice_index_or (map (edge_atoms p side) (system_of p side).edges) n [] ≡ atoms_of p (Along side n)
  edge_numbered side n h = get_or-map (edge_atoms p side) (system_of p side).edges n no_edge [] h

  edge_flags : Side → List Bool
  edge_flags New = f.new_edges
  edge_flags Old = f.old_edges

  right_edges : (side : Side) → AreFlags (edge_flags side) (map (edge_atoms p side) (system_of p side).edges)
  unfolding edge_flags
  right_edges New = right.new_edges
  right_edges Old = right.old_edges

  edges_counted : (side : Side) (n : ℕ) → IsOwed p (Along side n) → passing (eqb n) (numbers_set 0 (edge_flags side)) ≡ 1
  edges_counted side n o =
      let e : 0 + n ≡ n = omega arith in
      subst (λ j. passing (eqb j) (numbers_set 0 (edge_flags side)) ≡ 1) e
      (count_set 0 n (edge_flags side) (map (edge_atoms p side) (system_of p side).edges) (right_edges side) (let t = o.there in let l = length-map (system_of p side).edges (edge_atoms p side) in omega arith)
      (λ dead. o.live (subst IsDead (edge_numbered side n o.there) dead)))

  each_edge : (side : Side) → AllByRecursion (IsOwed p) (duties_along side (edge_flags side))
  each_edge side = each-map (IsOwed p) (Along side) (numbers_set 0 (edge_flags side))
      (each_set (λ n. IsOwed p (Along side n)) 0 (edge_flags side) (map (edge_atoms p side) (system_of p side).edges) (right_edges side)
      (λ i l n. let e : i ≡ 0 + i = omega arith in
      let h : i < length (system_of p side).edges = (let q = length-map (system_of p side).edges (edge_atoms p side) in omega arith) in
      subst (λ j. IsOwed p (Along side j)) e (record { there = h; live = λ dead. n (subst IsDead (sym (edge_numbered side i h)) dead) })))

  each_exit : (side : Side) (b : Bool) → IsFlag b (atoms_of p (AtExit side)) → AllByRecursion (IsOwed p) (duty_at_exit side b)
  each_exit side true h = (record { there = tt; live = h.0 refl }, tt)
  each_exit side false h = tt

  exit_once : (side : Side) (b : Bool) → IsFlag b (atoms_of p (AtExit side)) → IsOwed p (AtExit side) → occurs (AtExit side) (duty_at_exit side b) ≡ 1
  exit_once New true h o = refl
  exit_once Old true h o = refl
  exit_once side false h o = absurd (let c : false ≡ true = h.1 o.live in cc)

  pub each_owed : AllByRecursion (IsOwed p) (duties_of f)
  unfolding edge_flags
  each_owed =
      each-++ (IsOwed p) (duties_along New f.new_edges) _ (each_edge New)
      (each-++ (IsOwed p) (duty_at_exit New f.new_exit) _ (each_exit New f.new_exit right.new_exit)
      (each-++ (IsOwed p) (duties_along Old f.old_edges) _ (each_edge Old)
      (each-++ (IsOwed p) (duty_at_exit Old f.old_exit) _ (each_exit Old f.old_exit right.old_exit)
      (each-map (IsOwed p) AtEntry (numbers_set 0 f.cases)
      (each_set (λ n. IsOwed p (AtEntry n)) 0 f.cases p.cases right.cases
      (λ i l n. let e : i ≡ 0 + i = omega arith in subst (λ j. IsOwed p (AtEntry j)) e (record { there = l; live = n })))))))

  pub owed_once : (o : Duty) → IsOwed p o → occurs o (duties_of f) ≡ 1
  unfolding edge_flags
  owed_once o w = occurs_is f o ∙ by o w
    where
      by : (o : Duty) → IsOwed p o → in_part f o ≡ 1
      by (Along New n) w = edges_counted New n w
      by (Along Old n) w = edges_counted Old n w
      by (AtExit New) w = exit_once New f.new_exit right.new_exit w
      by (AtExit Old) w = exit_once Old f.old_exit right.old_exit w
      by (AtEntry n) w = let e : 0 + n ≡ n = omega arith in subst (λ j. passing (eqb j) (numbers_set 0 f.cases) ≡ 1) e (count_set 0 n f.cases p.cases right.cases w.there w.live)
