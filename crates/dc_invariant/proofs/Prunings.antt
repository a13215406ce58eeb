-- Pruning at one location, and at all of them.
use Rattle.std.specs.Prelude.{◌≡◌, ◌⊎◌, ℕ, zero, suc, ◌+◌, ◌-◌, ◌<◌, ◌≤◌, Bool, true, false, cond, is_some, List, [], ◌∷◌, ◌++◌, map, filter, take, drop, remove, length, slice_index_or, pos, unsigned_abs, Option, Some, None}
use Rattle.std.specs.Option.{option_map}
use Rattle.std.specs.List.{AllByRecursion, range_with_len}
use Rattle.std.proofs.Common.{refl, sym, ◌∙◌, ap, ap₂, subst, inl, inr, arith, append_assoc, append-nil, length-append}
use Rattle.std.proofs.lemmas.Bool.{cases_Bool, cases_lt, cases_eq}
use Rattle.std.proofs.lemmas.List.{take_all, length-take-le, length-drop, get_or_default, get_or-drop, map-append}
use Rattle.dc_math.specs.Members.{Among, each_is, among_range_back}
use Rattle.dc_affine.specs.declared.atom.Atom.{Atom}
use Rattle.dc_affine.specs.Atoms.{IsFullAtom}
use Rattle.dc_system.specs.Shapes.{IsWellFormed}
use Rattle.dc_entail.specs.declared.answer.Site.TheVariants as site
use Rattle.dc_entail.specs.Asked.{Asked, ask, IsDone, AllDone}
use Rattle.dc_points.specs.Stated.{atom_number, sup_problem}
use Rattle.dc_points.specs.Points.{IsDead, Entails}
use Rattle.dc_rows.specs.declared.kinds.Candidates.{Candidates}
use Rattle.dc_rows.specs.Bounds.{largest_bound}
use Rattle.dc_rows.specs.Candidate.{row_at, bound_at, IsRow, AreCandidates}
use Rattle.dc_families.specs.Graphs.{graph_of}
use Rattle.dc_families.specs.Families.{Family, never, bounded, or_zero, least_in, kept_rows, least_atom, atoms_at}
use Rattle.dc_families.specs.Printed.{Question, atoms_of, Pruned, done, drops, keeps, IsPrinted, ArePrinted}
use Rattle.dc_families.specs.Rounds.{IsHonest}
use Rattle.dc_families.proofs.Decided.{entailment_is_decided}
use Rattle.dc_families.proofs.Lists.{differ}
use Rattle.dc_families.proofs.Prunes.{has_printed}
use Rattle.dc_greatest.specs.declared.family.LocFamily.{LocFamily}
use Rattle.dc_greatest.specs.declared.family.InvFault.{InvFault}
use Rattle.dc_greatest.specs.Kept.{stands_for, IsShaped, IsBelow}
use Rattle.dc_greatest.specs.Answers.{IsFault}
use Rattle.dc_greatest.proofs.Shapes.{nowhere}
use Rattle.dc_greatest.proofs.Bridges.{never_there, least_is_number}
use Rattle.dc_greatest.proofs.Unchanged.{both_done}
use Rattle.dc_invariant.specs.declared.pruning.Pruning.{Pruning}
use Rattle.dc_invariant.specs.Prunes.{questions_asked, PrunesAsk}
use Rattle.dc_invariant.specs.Answers.{TellsPrinted}
use Rattle.dc_invariant.specs.Lent.{Only, family, question, one_asked, IsOneStep, IsPruning, IsListed, RowsAsk, ArePruned, HasLeast, kept_atom, rows_with, LocationAsks, TellsLocation}
use Rattle.dc_invariant.proofs.Faults.{fault_to, fault_before}
use Rattle.dc_invariant.proofs.Steps.{split_at, remove_at, number_at, filter_same, all_filter, map_same_on, all_mapped, all_without, live_without}

module _ (t : Pruning) (l : ℕ) where
  abbrev c : Candidates
  c = t.candidates.now

  abbrev J : Family
  J = family t

  abbrev atom : ℕ → Atom
  atom r = least_atom c J l r

  -- ---- what is left to be looked at
  pub record IsLeft (rows : List ℕ) (k : ℕ) (atoms : List Atom) : Type 0 where
    pub few : k ≤ length rows
    pub back : List ℕ
    pub asked : List Question
    pub atoms_are : atoms ≡ map atom (take k rows ++ back)
    pub kind : AllByRecursion (IsFullAtom t.system.now.vars) atoms
    pub live : ¬ IsDead atoms
    pub then : (left : List ℕ) (qs : List Question) → Pruned c J l (take k rows) back qs left → Pruned c J l rows [] (asked ++ qs) left
    pub done : AllDone t.budget (map (question t l) asked)

  pub left_start : (rows : List ℕ) (atoms : List Atom) (k : ℕ) → k ≡ length rows → IsListed t l rows atoms → IsLeft rows k atoms
  left_start rows atoms k e h =
      let w : take k rows ≡ rows = take_all k rows (omega arith) in
      record {
        few = omega arith;
        back = [];
        asked = [];
        atoms_are = h.atoms_are ∙ ap (map atom) (sym (append-nil rows) ∙ ap (λ xs. xs ++ []) (sym w));
        kind = h.kind;
        live = h.live;
        then = λ left qs p. subst (λ xs. Pruned c J l xs [] qs left) w p;
        done = tt;
      }

  pub left_end : (rows : List ℕ) (atoms : List Atom) (k : ℕ) → k ≡ 0 → IsLeft rows k atoms → ArePruned t l rows atoms
  left_end rows atoms k e h =
      let w : take k rows ≡ [] = ap (λ j. take j rows) e in
      record {
        left = h.back;
        questions = h.asked ++ [];
        pruned = h.then h.back [] (subst (λ xs. Pruned c J l xs h.back [] h.back) (sym w) done);
        atoms_are = h.atoms_are ∙ ap (λ xs. map atom (xs ++ h.back)) w;
        done = subst (λ qs. AllDone t.budget (map (question t l) qs)) (sym (append-nil h.asked)) h.done;
      }

  -- the rest is always decided
  has_rest : (rows : List ℕ) (k : ℕ) → k ≤ length rows → (back : List ℕ) → (left : List ℕ) × (qs : List Question) × Pruned c J l (take k rows) back qs left
  has_rest rows zero h back = (back, [], done)
  has_rest rows (suc k) h back =
      let r = slice_index_or rows k 0 in
      let s = split_at rows k r 0 (omega arith) (get_or_default rows k 0 r (omega arith)) in
      by r s (λ b. has_rest rows k (omega arith) b) (entailment_is_decided (map atom (take k rows ++ back)) (atom r))
    where
      by : (r : ℕ) → take (suc k) rows ≡ take k rows ++ r ∷ [] → ((b : List ℕ) → (left : List ℕ) × (qs : List Question) × Pruned c J l (take k rows) b qs left)
          → Entails (map atom (take k rows ++ back)) (atom r) ⊎ (¬ Entails (map atom (take k rows ++ back)) (atom r))
          → (left : List ℕ) × (qs : List Question) × Pruned c J l (take (suc k) rows) back qs left
      by r s rest (inl y) = let x = rest back in (x.0, (record { row = r; others = take k rows ++ back }) ∷ x.1, drops r s y x.2)
      by r s rest (inr y) = let x = rest (r ∷ back) in (x.0, (record { row = r; others = take k rows ++ back }) ∷ x.1, keeps r s y x.2)

  -- one more is looked at
  module _ (rows : List ℕ) (k r : ℕ) (inside : k < length rows) (read : r ≡ slice_index_or rows k r) (atoms : List Atom) (h : IsLeft rows (suc k) atoms) where
    abbrev fs : List ℕ
    fs = take k rows

    split : take (suc k) rows ≡ fs ++ r ∷ []
    split = split_at rows k r 0 inside read

    whole : atoms ≡ map atom (fs ++ r ∷ h.back)
    whole = h.atoms_are ∙ ap (λ xs. map atom (xs ++ h.back)) split ∙ ap (map atom) (append_assoc fs (r ∷ []) h.back)

    long : length fs ≡ k
    long = length-take-le k rows (omega arith)

    without : remove atoms k ≡ map atom (fs ++ h.back)
    without = ap (λ xs. remove xs k) whole ∙ remove_at atom fs r h.back k long

    taken : atom_number atoms k ≡ atom r
    taken = ap (λ xs. atom_number xs k) whole ∙ number_at atom fs r h.back k long

    abbrev q : Question
    q = record { row = r; others = fs ++ h.back }

    same_question : one_asked (site.Prune t.side l r) k atoms ≡ question t l q
    same_question = ap₂ (λ hs (a : Atom). ask (site.Prune t.side l r) (sup_problem hs a.coefs)) without taken

    decided : Entails (remove atoms k) (atom_number atoms k) → Entails (map atom (fs ++ h.back)) (atom r)
    decided e = subst (λ hs. Entails hs (atom r)) without (subst (Entails (remove atoms k)) taken e)

    back_decided : Entails (map atom (fs ++ h.back)) (atom r) → Entails (remove atoms k) (atom_number atoms k)
    back_decided e = subst (Entails (remove atoms k)) (sym taken) (subst (λ hs. Entails hs (atom r)) (sym without) e)

    more_done : IsDone t.budget (one_asked (site.Prune t.side l r) k atoms) → AllDone t.budget (map (question t l) (h.asked ++ q ∷ []))
    more_done d =
        subst (AllDone t.budget) (sym (map-append (question t l) h.asked (q ∷ [])))
        (both_done t.budget (map (question t l) h.asked) (question t l q ∷ []) h.done (subst (IsDone t.budget) same_question d, tt))

    pub left_next : (new : List Atom) → IsOneStep (site.Prune t.side l r) k t.budget atoms new → IsLeft rows k new
    left_next new s = by s.step
      where
        by : (Entails (remove atoms k) (atom_number atoms k) × (new ≡ remove atoms k)) ⊎ ((¬ Entails (remove atoms k) (atom_number atoms k)) × (new ≡ atoms)) → IsLeft rows k new
        by (inl y) = record {
          few = omega arith;
          back = h.back;
          asked = h.asked ++ q ∷ [];
          atoms_are = y.1 ∙ without;
          kind = subst (AllByRecursion (IsFullAtom t.system.now.vars)) (sym y.1) (all_without (IsFullAtom t.system.now.vars) atoms k h.kind);
          live = subst (λ xs. ¬ IsDead xs) (sym y.1) (live_without atoms k h.live);
          then = λ left qs p. subst (λ ps. Pruned c J l rows [] ps left) (sym (append_assoc h.asked (q ∷ []) qs)) (h.then left (q ∷ qs) (drops r split (decided y.0) p));
          done = more_done s.done;
        }
        by (inr y) = record {
          few = omega arith;
          back = r ∷ h.back;
          asked = h.asked ++ q ∷ [];
          atoms_are = y.1 ∙ whole;
          kind = subst (AllByRecursion (IsFullAtom t.system.now.vars)) (sym y.1) h.kind;
          live = subst (λ xs. ¬ IsDead xs) (sym y.1) h.live;
          then = λ left qs p. subst (λ ps. Pruned c J l rows [] ps left) (sym (append_assoc h.asked (q ∷ []) qs)) (h.then left (q ∷ qs) (keeps r split (λ e. y.0 (back_decided e)) p));
          done = more_done s.done;
        }

    -- what is asked after it
    rest_asked : (asked : List Asked) → Only (one_asked (site.Prune t.side l r) k atoms ∷ []) asked → (after : List Asked) × RowsAsk t l rows (map (question t l) h.asked ++ (asked ++ after))
    rest_asked asked e = by (entailment_is_decided (map atom (fs ++ h.back)) (atom r))
      where
        told : (qs : List Question) → map (question t l) h.asked ++ (asked ++ map (question t l) qs) ≡ map (question t l) (h.asked ++ (q ∷ qs))
        told qs =
            ap (λ xs. map (question t l) h.asked ++ (xs ++ map (question t l) qs)) (e ∙ ap (λ x. x ∷ []) same_question)
            ∙ sym (map-append (question t l) h.asked (q ∷ qs))

        by : Entails (map atom (fs ++ h.back)) (atom r) ⊎ (¬ Entails (map atom (fs ++ h.back)) (atom r)) → (after : List Asked) × RowsAsk t l rows (map (question t l) h.asked ++ (asked ++ after))
        by (inl y) =
            let x = has_rest rows k (omega arith) h.back in
            (map (question t l) x.1, (x.0, h.asked ++ (q ∷ x.1), h.then x.0 (q ∷ x.1) (drops r split y x.2), told x.1))
        by (inr y) =
            let x = has_rest rows k (omega arith) (r ∷ h.back) in
            (map (question t l) x.1, (x.0, h.asked ++ (q ∷ x.1), h.then x.0 (q ∷ x.1) (keeps r split y x.2), told x.1))

    pub left_fault : (f : InvFault) → IsFault t.budget (Only (one_asked (site.Prune t.side l r) k atoms ∷ [])) f → IsFault t.budget (RowsAsk t l rows) f
    left_fault f i = fault_before t.budget (map (question t l) h.asked) (Only (one_asked (site.Prune t.side l r) k atoms ∷ [])) (RowsAsk t l rows) h.done rest_asked f i

  -- ---- the rows and atoms of a location
  module _ (lent : IsPruning t) (inside : l < t.system.now.locs) where
    abbrev here : LocFamily
    here = slice_index_or t.at.now l nowhere

    long_least : length here.least ≡ length c.rows
    long_least = lent.shape.rows l nowhere inside

    some_same : (o : Option ℕ) → is_some o ≡ is_some (option_map (bound_at c) o)
    some_same None = refl
    some_same (Some k) = refl

    in_range : (r n : ℕ) → Among r (range_with_len 0 n) → r < n
    in_range r n m = let b = among_range_back r 0 n m in omega arith

    pub rows_are : rows_with here.least ≡ kept_rows c J l
    rows_are =
        filter_same (λ r. is_some (slice_index_or here.least r None)) (λ r. is_some (least_in c J l r)) (range_with_len 0 (length here.least))
        (λ r m. some_same (slice_index_or here.least r None)
        ∙ ap is_some (sym (least_is_number t.system.now.vars t.system.now.locs c t.at.now lent.kind lent.shape l inside r (let b = in_range r (length here.least) m in let e = long_least in omega arith))))
        ∙ ap (λ n. filter (λ r. is_some (least_in c J l r)) (range_with_len 0 n)) long_least

    -- each of them has a least bound
    some_bound : (r : ℕ) (o : Option ℕ) → slice_index_or here.least r None ≡ o → is_some o ≡ true → r < length c.rows → (k : ℕ) × (slice_index_or here.least r None ≡ Some k) × (k < length c.bounds)
    some_bound r None e s h = differ (sym s)
    some_bound r (Some k) e s h = (k, e, subst (IsBelow (length c.bounds)) e (lent.shape.bounds l r nowhere inside h))

    pub have_least : AllByRecursion (HasLeast c here.least) (rows_with here.least)
    have_least = all_filter (HasLeast c here.least) (λ r. is_some (slice_index_or here.least r None)) (range_with_len 0 (length here.least))
        (λ r m s.
        let b = in_range r (length here.least) m in
        let i : r < length c.rows = let e = long_least in omega arith in
        (b, i, some_bound r (slice_index_or here.least r None) refl s i))

    least_same : (r : ℕ) → HasLeast c here.least r → kept_atom c here.least r ≡ atom r
    least_same r h = ap (λ o. bounded (row_at c r) (or_zero o)) (sym (least_is_number t.system.now.vars t.system.now.locs c t.at.now lent.kind lent.shape l inside r h.1))

    bound_small : (k : ℕ) → k < length c.bounds → unsigned_abs (bound_at c k) ≤ 2147483648
    bound_small k h = each_is (λ b. unsigned_abs b ≤ largest_bound) c.bounds k (bound_at c k) lent.kind.bounds_within h (get_or_default c.bounds k (pos 0) (bound_at c k) h)

    full : (r : ℕ) → HasLeast c here.least r → IsFullAtom t.system.now.vars (kept_atom c here.least r)
    full r h =
        let row = each_is (IsRow t.system.now.vars) c.rows r (row_at c r) lent.kind.rows h.1 (get_or_default c.rows r [] (row_at c r) h.1) in
        record {
          one_each = row.one_each;
          within = record {
            few = (let e = row.one_each in omega arith);
            coefs_within = row.within;
            constant_within = subst (λ o. unsigned_abs (or_zero (option_map (bound_at c) o)) ≤ 2147483648) (sym h.2.1) (bound_small h.2.0 h.2.2);
          };
        }

    never_false : here.dead ≡ false → J l (never t.system.now.vars) ≡ false
    never_false e = elim (cases_Bool (J l (never t.system.now.vars))) [
      | inl s ↦ differ (sym ((never_there t.system.now.vars c lent.kind t.at.now l (let k = lent.shape.one_each in omega arith)).0 s) ∙ e)
      | inr s ↦ s
    ]

    pub listed : here.dead ≡ false → (atoms : List Atom) → atoms ≡ map (kept_atom c here.least) (rows_with here.least) → IsListed t l (rows_with here.least) atoms
    listed e atoms s =
        let m : map (kept_atom c here.least) (rows_with here.least) ≡ map atom (rows_with here.least) = map_same_on (HasLeast c here.least) (kept_atom c here.least) atom (rows_with here.least) have_least least_same in
        let n = never_false e in
        record {
          atoms_are = s ∙ m;
          kind = subst (AllByRecursion (IsFullAtom t.system.now.vars)) (sym s) (all_mapped (HasLeast c here.least) (IsFullAtom t.system.now.vars) (kept_atom c here.least) (rows_with here.least) have_least full);
          live = λ d. lent.honest l inside n (subst IsDead (s ∙ m ∙ ap (map atom) rows_are ∙ sym (whole n)) d);
        }
      where
        whole : J l (never t.system.now.vars) ≡ false → atoms_at t.system.now.vars c J l ≡ map atom (kept_rows c J l)
        whole n = ap (λ b. cond b (never t.system.now.vars ∷ []) (map atom (kept_rows c J l))) n

    pub location_pruned : here.dead ≡ false → (atoms : List Atom) → ArePruned t l (rows_with here.least) atoms → TellsLocation t l atoms
    location_pruned e atoms h = record {
      questions = h.questions;
      printed_is = record {
        dead = λ s. differ (sym s ∙ never_false e);
        other = λ s. record { left = h.left; pruned = subst (λ rows. Pruned c J l rows [] h.questions h.left) rows_are h.pruned; is = h.atoms_are };
      };
      done = h.done;
    }

    pub location_dead : here.dead ≡ true → (atoms : List Atom) → atoms ≡ never t.system.now.vars ∷ [] → TellsLocation t l atoms
    location_dead e atoms s =
        let n : J l (never t.system.now.vars) ≡ true = (never_there t.system.now.vars c lent.kind t.at.now l (let k = lent.shape.one_each in omega arith)).1 e in
        record {
          questions = [];
          printed_is = record { dead = λ k. (s, refl); other = λ k. differ (sym n ∙ k) };
          done = tt;
        }

    rows_location : here.dead ≡ false → (asked : List Asked) → RowsAsk t l (rows_with here.least) asked → LocationAsks t l asked
    rows_location e asked h = (
      atoms_of c J l h.0,
      h.1,
      record {
        dead = λ s. differ (sym s ∙ never_false e);
        other = λ s. record { left = h.0; pruned = subst (λ rows. Pruned c J l rows [] h.1 h.0) rows_are h.2; is = refl };
      },
      h.3,
    )

    pub location_fault : here.dead ≡ false → (f : InvFault) → IsFault t.budget (RowsAsk t l (rows_with here.least)) f → IsFault t.budget (LocationAsks t l) f
    location_fault e f h = fault_to t.budget (RowsAsk t l (rows_with here.least)) (LocationAsks t l) (rows_location e) f h

    -- the same by what is read of the location
    module _ (d : LocFamily) where
      abbrev f : LocFamily
      f = slice_index_or t.at.now l d

      here_is : f ≡ here
      here_is = get_or_default t.at.now l d nowhere (let k = lent.shape.one_each in omega arith)

      now_dead : (b : Bool) → f.dead ≡ b → here.dead ≡ b
      now_dead b e = sym (ap (λ (g : LocFamily). g.dead) here_is) ∙ e

      pub at_dead : f.dead ≡ true → (atoms : List Atom) → atoms ≡ never t.system.now.vars ∷ [] → TellsLocation t l atoms
      at_dead e atoms s = location_dead (now_dead true e) atoms s

      module _ (least : List (Option ℕ)) (rows : List ℕ) (first : least ≡ f.least) (second : rows ≡ rows_with least) where
        least_is : least ≡ here.least
        least_is = first ∙ ap (λ (g : LocFamily). g.least) here_is

        rows_is : rows ≡ rows_with here.least
        rows_is = second ∙ ap rows_with least_is

        pub at_least : AllByRecursion (HasLeast c least) rows
        at_least = subst (λ o. AllByRecursion (HasLeast c o) rows) (sym least_is) (subst (AllByRecursion (HasLeast c here.least)) (sym rows_is) have_least)

        pub at_listed : f.dead ≡ false → (atoms : List Atom) → atoms ≡ map (kept_atom c least) rows → IsListed t l rows atoms
        at_listed e atoms s =
            subst (λ rs. IsListed t l rs atoms) (sym rows_is)
            (listed (now_dead false e) atoms (s ∙ ap (λ o. map (kept_atom c o) rows) least_is ∙ ap (map (kept_atom c here.least)) rows_is))

        pub at_pruned : f.dead ≡ false → (atoms : List Atom) → ArePruned t l rows atoms → TellsLocation t l atoms
        at_pruned e atoms h = location_pruned (now_dead false e) atoms (subst (λ rs. ArePruned t l rs atoms) rows_is h)

        pub at_fault : f.dead ≡ false → (x : InvFault) → IsFault t.budget (RowsAsk t l rows) x → IsFault t.budget (LocationAsks t l) x
        at_fault e x h = location_fault (now_dead false e) x (subst (λ rs. IsFault t.budget (RowsAsk t l rs) x) rows_is h)

-- ---- location by location
module _ (t : Pruning) where
  pub record ArePrintedFirst (k : ℕ) (printed : List (List Atom)) : Type 0 where
    pub questions : List (List Question)
    pub one_each : length printed ≡ k
    pub one_part_each : length questions ≡ k
    pub each : (l : ℕ) → l < k → IsPrinted t.candidates.now (family t) l t.system.now.vars (slice_index_or printed l []) (slice_index_or questions l [])
    pub done : AllDone t.budget (questions_asked t.side t.candidates.now (family t) 0 questions)

  questions_joined : (l : ℕ) (xs ys : List (List Question)) → questions_asked t.side t.candidates.now (family t) l (xs ++ ys)
      ≡ questions_asked t.side t.candidates.now (family t) l xs ++ questions_asked t.side t.candidates.now (family t) (l + length xs) ys
  questions_joined l [] ys = let e : l ≡ l + 0 = omega arith in ap (λ k. questions_asked t.side t.candidates.now (family t) k ys) e
  questions_joined l (x ∷ xs) ys =
      let e : suc l + length xs ≡ l + suc (length xs) = omega arith in
      ap (λ zs. map (question t l) x ++ zs) (questions_joined (suc l) xs ys ∙ ap (λ k. questions_asked t.side t.candidates.now (family t) (suc l) xs ++ questions_asked t.side t.candidates.now (family t) k ys) e)
      ∙ sym (append_assoc (map (question t l) x) (questions_asked t.side t.candidates.now (family t) (suc l) xs) (questions_asked t.side t.candidates.now (family t) (l + suc (length xs)) ys))

  pub printed_start : ArePrintedFirst 0 []
  printed_start = record { questions = []; one_each = refl; one_part_each = refl; each = λ l h. absurd (omega arith); done = tt }

  at_left : {A : Type 0} (xs ys : List A) (i : ℕ) (d : A) → i < length xs → slice_index_or (xs ++ ys) i d ≡ slice_index_or xs i d
  at_left [] ys i d h = absurd (omega arith)
  at_left (x ∷ xs) ys zero d h = refl
  at_left (x ∷ xs) ys (suc i) d h = at_left xs ys i d (omega arith)

  at_right : {A : Type 0} (xs ys : List A) (k i : ℕ) (d : A) → length xs ≡ k → slice_index_or (xs ++ ys) (k + i) d ≡ slice_index_or ys i d
  at_right [] ys zero i d h = let e : 0 + i ≡ i = omega arith in ap (λ j. slice_index_or ys j d) e
  at_right [] ys (suc k) i d h = absurd (omega arith)
  at_right (x ∷ xs) ys zero i d h = absurd (omega arith)
  at_right (x ∷ xs) ys (suc k) i d h = let e : suc k + i ≡ suc (k + i) = omega arith in ap (λ j. slice_index_or (x ∷ (xs ++ ys)) j d) e ∙ at_right xs ys k i d (omega arith)

  long_push : {A : Type 0} (xs : List A) (x : A) → length (xs ++ x ∷ []) ≡ suc (length xs)
  long_push [] x = refl
  long_push (y ∷ xs) x = ap suc (long_push xs x)

  pub printed_next : (k : ℕ) (printed new : List (List Atom)) (atoms : List Atom) → ArePrintedFirst k printed → TellsLocation t k atoms → new ≡ printed ++ atoms ∷ [] → ArePrintedFirst (suc k) new
  printed_next k printed new atoms h a e = record {
    questions = h.questions ++ a.questions ∷ [];
    one_each = ap length e ∙ long_push printed atoms ∙ ap suc h.one_each;
    one_part_each = long_push h.questions a.questions ∙ ap suc h.one_part_each;
    each = λ l i. elim (cases_lt l k) [
      | inl s ↦ subst (λ xs. IsPrinted t.candidates.now (family t) l t.system.now.vars xs (slice_index_or (h.questions ++ a.questions ∷ []) l []))
          (sym (ap (λ xs. slice_index_or xs l []) e ∙ at_left printed (atoms ∷ []) l [] (let m = h.one_each in omega arith)))
          (subst (IsPrinted t.candidates.now (family t) l t.system.now.vars (slice_index_or printed l [])) (sym (at_left h.questions (a.questions ∷ []) l [] (let m = h.one_part_each in omega arith))) (h.each l s))
      | inr s ↦
          let q : l ≡ k + 0 = omega arith in
          let w : l ≡ k = omega arith in
          subst (λ xs. IsPrinted t.candidates.now (family t) l t.system.now.vars xs (slice_index_or (h.questions ++ a.questions ∷ []) l []))
          (sym (ap (λ xs. slice_index_or xs l []) e ∙ ap (λ j. slice_index_or (printed ++ atoms ∷ []) j []) q ∙ at_right printed (atoms ∷ []) k 0 [] h.one_each))
          (subst (IsPrinted t.candidates.now (family t) l t.system.now.vars atoms) (sym (ap (λ j. slice_index_or (h.questions ++ a.questions ∷ []) j []) q ∙ at_right h.questions (a.questions ∷ []) k 0 [] h.one_part_each))
          (subst (λ j. IsPrinted t.candidates.now (family t) j t.system.now.vars atoms a.questions) (sym w) a.printed_is))
    ];
    done = subst (AllDone t.budget) (sym (questions_joined 0 h.questions (a.questions ∷ [])))
        (both_done t.budget (questions_asked t.side t.candidates.now (family t) 0 h.questions) _ h.done
        (subst (AllDone t.budget) (sym (append-nil (map (question t (0 + length h.questions)) a.questions)))
        (subst (λ j. AllDone t.budget (map (question t j) a.questions)) (let m = h.one_part_each in let z : k ≡ 0 + length h.questions = omega arith in z) a.done)));
  }

  pub printed_end : (k : ℕ) (printed : List (List Atom)) → k ≡ t.system.now.locs → ArePrintedFirst k printed → TellsPrinted t.side (graph_of t.system.now) t.candidates.now (family t) t.budget printed
  printed_end k printed e h = record {
    questions = h.questions;
    printed_is = record { one_each = h.one_each ∙ e; one_part_each = h.one_part_each ∙ e; each = λ l i. h.each l (omega arith) };
    through = h.done;
  }

  behind : {A : Type 0} (xs ys : List A) (y d : A) (k l : ℕ) → length xs ≡ k → k < l → slice_index_or (xs ++ y ∷ drop (suc k) ys) l d ≡ slice_index_or ys l d
  behind xs ys y d k l e h =
      let q : l ≡ k + suc (l - suc k) = omega arith in
      let w : suc k + (l - suc k) ≡ l = omega arith in
      ap (λ j. slice_index_or (xs ++ y ∷ drop (suc k) ys) j d) q ∙ at_right xs (y ∷ drop (suc k) ys) k (suc (l - suc k)) d e
      ∙ get_or-drop (suc k) ys (l - suc k) d ∙ ap (λ j. slice_index_or ys j d) w

  here_now : {A : Type 0} (xs ys : List A) (y d : A) (k : ℕ) → length xs ≡ k → slice_index_or (xs ++ y ∷ ys) k d ≡ y
  here_now xs ys y d k e = let q : k ≡ k + 0 = omega arith in ap (λ j. slice_index_or (xs ++ y ∷ ys) j d) q ∙ at_right xs (y ∷ ys) k 0 d e

  long_whole : {A : Type 0} (xs ys : List A) (y : A) (k n : ℕ) → length xs ≡ k → length ys ≡ n → k < n → length (xs ++ y ∷ drop (suc k) ys) ≡ n
  long_whole xs ys y k n e f h = let a = length-append xs (y ∷ drop (suc k) ys) in let b = length-drop (suc k) ys in omega arith

  -- a refusal at a location, and what would be asked at those behind it
  pub printed_fault : (k : ℕ) (printed : List (List Atom)) → k < t.system.now.locs → ArePrintedFirst k printed → (f : InvFault) → IsFault t.budget (LocationAsks t k) f
      → IsFault t.budget (PrunesAsk t.side t.candidates.now (family t) (graph_of t.system.now)) f
  printed_fault k printed i h f x =
      fault_before t.budget (questions_asked t.side t.candidates.now (family t) 0 h.questions) (LocationAsks t k) (PrunesAsk t.side t.candidates.now (family t) (graph_of t.system.now)) h.done rest f x
    where
      each : (ps : List (List Atom)) (qs : List (List Question)) → ArePrinted (graph_of t.system.now) t.candidates.now (family t) ps qs → (p : List Atom) (q : List Question)
          → IsPrinted t.candidates.now (family t) k t.system.now.vars p q → (l : ℕ) → l < t.system.now.locs
          → IsPrinted t.candidates.now (family t) l t.system.now.vars (slice_index_or (printed ++ p ∷ drop (suc k) ps) l []) (slice_index_or (h.questions ++ q ∷ drop (suc k) qs) l [])
      each ps qs a p q w l j = elim (cases_lt l k) [
        | inl s ↦ subst (λ xs. IsPrinted t.candidates.now (family t) l t.system.now.vars xs (slice_index_or (h.questions ++ q ∷ drop (suc k) qs) l []))
            (sym (at_left printed (p ∷ drop (suc k) ps) l [] (let m = h.one_each in omega arith)))
            (subst (IsPrinted t.candidates.now (family t) l t.system.now.vars (slice_index_or printed l [])) (sym (at_left h.questions (q ∷ drop (suc k) qs) l [] (let m = h.one_part_each in omega arith))) (h.each l s))
        | inr s ↦ elim (cases_eq l k) [
          | inl e ↦ subst (λ xs. IsPrinted t.candidates.now (family t) l t.system.now.vars xs (slice_index_or (h.questions ++ q ∷ drop (suc k) qs) l []))
              (sym (ap (λ j. slice_index_or (printed ++ p ∷ drop (suc k) ps) j []) e ∙ here_now printed (drop (suc k) ps) p [] k h.one_each))
              (subst (IsPrinted t.candidates.now (family t) l t.system.now.vars p) (sym (ap (λ j. slice_index_or (h.questions ++ q ∷ drop (suc k) qs) j []) e ∙ here_now h.questions (drop (suc k) qs) q [] k h.one_part_each))
              (subst (λ j. IsPrinted t.candidates.now (family t) j t.system.now.vars p q) (sym e) w))
          | inr e ↦ subst (λ xs. IsPrinted t.candidates.now (family t) l t.system.now.vars xs (slice_index_or (h.questions ++ q ∷ drop (suc k) qs) l []))
              (sym (behind printed ps p [] k l h.one_each (omega arith)))
              (subst (IsPrinted t.candidates.now (family t) l t.system.now.vars (slice_index_or ps l [])) (sym (behind h.questions qs q [] k l h.one_part_each (omega arith))) (a.each l j))
        ]
      ]

      told : (qs : List (List Question)) (q : List Question) (asked : List Asked) → asked ≡ map (question t k) q
          → questions_asked t.side t.candidates.now (family t) 0 h.questions ++ (asked ++ questions_asked t.side t.candidates.now (family t) (suc k) (drop (suc k) qs))
          ≡ questions_asked t.side t.candidates.now (family t) 0 (h.questions ++ q ∷ drop (suc k) qs)
      told qs q asked e =
          let z : 0 + length h.questions ≡ k = let m = h.one_part_each in omega arith in
          ap (λ xs. questions_asked t.side t.candidates.now (family t) 0 h.questions ++ (xs ++ questions_asked t.side t.candidates.now (family t) (suc k) (drop (suc k) qs))) e
          ∙ sym (questions_joined 0 h.questions (q ∷ drop (suc k) qs) ∙ ap (λ j. questions_asked t.side t.candidates.now (family t) 0 h.questions ++ questions_asked t.side t.candidates.now (family t) j (q ∷ drop (suc k) qs)) z)

      rest : (asked : List Asked) → LocationAsks t k asked → (after : List Asked) × PrunesAsk t.side t.candidates.now (family t) (graph_of t.system.now) (questions_asked t.side t.candidates.now (family t) 0 h.questions ++ (asked ++ after))
      rest asked y =
          let all = has_printed (graph_of t.system.now) t.candidates.now (family t) in (
            questions_asked t.side t.candidates.now (family t) (suc k) (drop (suc k) all.1),
            (
              printed ++ y.0 ∷ drop (suc k) all.0,
              h.questions ++ y.1 ∷ drop (suc k) all.1,
              record {
                one_each = long_whole printed all.0 y.0 k t.system.now.locs h.one_each all.2.one_each i;
                one_part_each = long_whole h.questions all.1 y.1 k t.system.now.locs h.one_part_each all.2.one_part_each i;
                each = each all.0 all.1 all.2 y.0 y.1 y.2;
              },
              told all.1 y.1 asked y.3,
            ),
          )

-- ---- from what `prune` requires
pub pruning_lent : (t : Pruning) (at : List LocFamily) → t.at.now ≡ at → IsWellFormed t.system.now → AreCandidates t.system.now.vars t.candidates.now → IsShaped t.system.now.locs t.candidates.now at
    → IsHonest (graph_of t.system.now) t.candidates.now (stands_for t.system.now.vars t.candidates.now at) → IsPruning t
pruning_lent t at e w k s h = record {
  system = w;
  kind = k;
  shape = subst (IsShaped t.system.now.locs t.candidates.now) (sym e) s;
  honest = subst (λ gs. IsHonest (graph_of t.system.now) t.candidates.now (stands_for t.system.now.vars t.candidates.now gs)) (sym e) h;
}
