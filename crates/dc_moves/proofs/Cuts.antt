-- Guards at the places of their edge.
use Rattle.std.specs.Prelude.{◌≡◌, ℕ, zero, suc, ◌+◌, ◌<◌, ◌≤◌, Bool, true, false, cond, eqb, ltb, List, [], ◌∷◌, ◌++◌, map, length, take, slice_index_or, ℤ, pos, ◌+ℤ◌, ◌*ℤ◌, ◌≤ℤ◌}
use Rattle.std.specs.List.{AllByRecursion}
use Rattle.std.proofs.Common.{refl, sym, ◌∙◌, ap, ap₂, subst, inl, inr, arith}
use Rattle.std.proofs.lemmas.Bool.{cases_lt, le-ltb}
use Rattle.std.proofs.lemmas.List.{length-map, length-take, take_all, get_or-take}
use Rattle.dc_math.specs.Members.{each-++, each_left, each_right}
use Rattle.dc_math.specs.WholeVectors.{dot_ℤ}
use Rattle.dc_math.specs.WholeRing.{ring, reads, read_nat, same_form}
use Rattle.dc_math.specs.Rational.{ℚ, ◌*ℚ◌, ◌≤ℚ◌, of_ℤ}
use Rattle.dc_math.specs.Sums.{sum_ℚ, sum_ℚ_same}
use Rattle.dc_lp.specs.Linear.{Linear, combined}
use Rattle.dc_affine.specs.declared.atom.Atom.{Atom}
use Rattle.dc_affine.specs.Atoms.{IsAtom}
use Rattle.dc_affine.proofs.Within.{take_fits}
use Rattle.dc_system.specs.declared.edges.Edge.{Edge}
use Rattle.dc_system.specs.Shapes.{AtomSkips}
use Rattle.dc_points.specs.Points.{Point, left_at, MeetsAt}
use Rattle.dc_points.specs.Stated.{rational, atom_number, coefficient_of}
use Rattle.dc_points.specs.Shown.{sum_at, constant_sum, CombinesTo, ShowsLive}
use Rattle.dc_points.proofs.Same.{same_problem}
use Rattle.dc_families.specs.Moves.{edge_places}
use Rattle.dc_moves.specs.Cuts.{cut_to, with_guard}
use Rattle.dc_moves.specs.Laws.{CutsAskTheSame, CutsAskTheSameForms, CutsSayTheSame, CutsAreAtoms}

-- ---- one atom
-- a last coefficient of 0 adds nothing
pub dot-cut : (n : ℕ) (cs xs : List ℤ) → length cs ≤ suc n → slice_index_or cs n (pos 0) ≡ pos 0 → dot_ℤ (take n cs) xs ≡ dot_ℤ cs xs
dot-cut zero [] xs l h = refl
dot-cut (suc n) [] xs l h = refl
dot-cut zero (c ∷ []) [] l h = refl
dot-cut zero (c ∷ []) (x ∷ xs) l h = sym (rw h (ring (x ∷ []) (λ ρ i. simp (i, read_nat ρ, reads) (same_form _ _ _ refl))))
dot-cut zero (c ∷ d ∷ cs) xs l h = absurd (omega arith)
dot-cut (suc n) (c ∷ cs) [] l h = refl
dot-cut (suc n) (c ∷ cs) (x ∷ xs) l h = ap (λ s. c *ℤ x +ℤ s) (dot-cut n cs xs (omega arith) h)

-- at the places of an edge
pub dot-places : (n : ℕ) (b : Bool) (cs xs : List ℤ) → length cs ≤ n + 1 → (b ≡ false → slice_index_or cs n (pos 0) ≡ pos 0) → dot_ℤ (take (cond b (n + 1) n) cs) xs ≡ dot_ℤ cs xs
dot-places n true cs xs l h = ap (λ ys. dot_ℤ ys xs) (take_all (n + 1) cs l)
dot-places n false cs xs l h = dot-cut n cs xs (omega arith) (h refl)

left-cut : (n : ℕ) (e : Edge) (a : Atom) (p : Point) → length a.coefs ≤ n + 1 → (e.any ≡ false → AtomSkips n a) → left_at (cut_to (edge_places n e) a) p ≡ left_at a p
left-cut n e a p l h = ap (λ s. a.c0 *ℤ p.denominator +ℤ s) (dot-places n e.any a.coefs p.numbers l h)

-- ---- points
module _ (k : ℕ) (p : Point) where
  abbrev AreLeft : List Atom → Type 0
  AreLeft gs = AllByRecursion (λ a. left_at (cut_to k a) p ≡ left_at a p) gs

  cut_met : (gs : List Atom) → AreLeft gs → AllByRecursion (MeetsAt p) (map (cut_to k) gs) → AllByRecursion (MeetsAt p) gs
  cut_met [] h m = tt
  cut_met (g ∷ gs) h m = (subst (λ (x : ℤ). pos 0 ≤ℤ x) h.0 m.0, cut_met gs h.1 m.1)

  met_cut : (gs : List Atom) → AreLeft gs → AllByRecursion (MeetsAt p) gs → AllByRecursion (MeetsAt p) (map (cut_to k) gs)
  met_cut [] h m = tt
  met_cut (g ∷ gs) h m = (subst (λ (x : ℤ). pos 0 ≤ℤ x) (sym h.0) m.0, met_cut gs h.1 m.1)

guard_left : (n : ℕ) (e : Edge) (p : Point) (gs : List Atom) → AllByRecursion (IsAtom (n + 1)) gs → (e.any ≡ false → AllByRecursion (AtomSkips n) gs) → AreLeft (edge_places n e) p gs
guard_left n e p [] h k = tt
guard_left n e p (g ∷ gs) h k = (left-cut n e g p h.0.few (λ t. (k t).0), guard_left n e p gs h.1 (λ t. (k t).1))

pub cuts_say_the_same : CutsSayTheSame
cuts_say_the_same n e atoms p h =
    let left = guard_left n e p e.guard h.atoms (λ t. (h.unchosen t).guard) in
    let P : Atom → Type 0 = MeetsAt p in
    let cut : List Atom = map (cut_to (edge_places n e)) e.guard in (
      (λ m. each-++ P atoms e.guard (each_left P atoms cut m) (cut_met (edge_places n e) p e.guard left (each_right P atoms cut m))),
      (λ m. each-++ P atoms cut (each_left P atoms e.guard m) (met_cut (edge_places n e) p e.guard left (each_right P atoms e.guard m))),
    )

-- ---- problems
constant_same : (k : ℕ) (atoms gs : List Atom) (j : ℕ) → (atom_number (atoms ++ map (cut_to k) gs) j).c0 ≡ (atom_number (atoms ++ gs) j).c0
constant_same k [] [] j = refl
constant_same k [] (g ∷ gs) zero = refl
constant_same k [] (g ∷ gs) (suc j) = constant_same k [] gs j
constant_same k (a ∷ atoms) gs zero = refl
constant_same k (a ∷ atoms) gs (suc j) = constant_same k atoms gs j

coefficient_same : (k : ℕ) (atoms gs : List Atom) (j i : ℕ) → i < k → coefficient_of (atom_number (atoms ++ map (cut_to k) gs) j) i ≡ coefficient_of (atom_number (atoms ++ gs) j) i
coefficient_same k [] [] j i l = refl
coefficient_same k [] (g ∷ gs) zero i l = get_or-take k g.coefs i (pos 0) l
coefficient_same k [] (g ∷ gs) (suc j) i l = coefficient_same k [] gs j i l
coefficient_same k (a ∷ atoms) gs zero i l = refl
coefficient_same k (a ∷ atoms) gs (suc j) i l = coefficient_same k atoms gs j i l

many_same : (k : ℕ) (atoms gs : List Atom) → length (atoms ++ map (cut_to k) gs) ≡ length (atoms ++ gs)
many_same k [] gs = length-map gs (cut_to k)
many_same k (a ∷ atoms) gs = ap suc (many_same k atoms gs)

entry_same : (k : ℕ) (atoms gs : List Atom) (i j : ℕ)
    → cond (ltb i k) (coefficient_of (atom_number (atoms ++ map (cut_to k) gs) j) i) (pos 0) ≡ cond (ltb i k) (coefficient_of (atom_number (atoms ++ gs) j) i) (pos 0)
entry_same k atoms gs i j = elim (cases_lt i k) [
  | inl l ↦ ap (λ x. cond (ltb i k) x (pos 0)) (coefficient_same k atoms gs j i l)
  | inr l ↦ rw (le-ltb i k l) refl
]

pub cuts_ask_the_same : CutsAskTheSame
cuts_ask_the_same n atoms e =
    same_problem _ _ refl (many_same n atoms e.guard)
    (λ i j. ap₂ (λ x y. cond (eqb i n) x y) (constant_same n atoms e.guard j) (entry_same n atoms e.guard i j))
    (λ i. refl) (λ j. refl)

pub cuts_ask_the_same_forms : CutsAskTheSameForms
cuts_ask_the_same_forms atoms e form =
    same_problem _ _ refl (many_same (length form) atoms e.guard) (λ i j. entry_same (length form) atoms e.guard i j)
    (λ i. refl) (λ j. constant_same (length form) atoms e.guard j)

-- and one that the other kind of multipliers combine
sums_same : (k : ℕ) (atoms gs : List Atom) (x : ℕ → ℚ) (i : ℕ) → i < k → sum_at (atoms ++ map (cut_to k) gs) x i ≡ sum_at (atoms ++ gs) x i
sums_same k atoms gs x i l =
    sum_ℚ_same (length (atoms ++ map (cut_to k) gs)) _ _ (λ j h. ap (λ c. of_ℤ c *ℚ x j) (coefficient_same k atoms gs j i l))
    ∙ ap (λ m. sum_ℚ m (λ j. of_ℤ (coefficient_of (atom_number (atoms ++ gs) j) i) *ℚ x j)) (many_same k atoms gs)

constants_same : (k : ℕ) (atoms gs : List Atom) (x : ℕ → ℚ) → constant_sum (atoms ++ map (cut_to k) gs) x ≡ constant_sum (atoms ++ gs) x
constants_same k atoms gs x =
    sum_ℚ_same (length (atoms ++ map (cut_to k) gs)) _ _ (λ j h. ap (λ c. of_ℤ c *ℚ x j) (constant_same k atoms gs j))
    ∙ ap (λ m. sum_ℚ m (λ j. of_ℤ ((atom_number (atoms ++ gs) j).c0) *ℚ x j)) (many_same k atoms gs)

pub combines-cut : (k : ℕ) (atoms : List Atom) (e : Edge) (form : ℕ → ℤ) (c : ℚ) (x : ℕ → ℚ) → CombinesTo (with_guard k atoms e) k form c x → CombinesTo (atoms ++ e.guard) k form c x
combines-cut k atoms e form c x h = record {
  signs = λ j l. h.signs j (let m = many_same k atoms e.guard in omega arith);
  coefficients = λ i l. sym (sums_same k atoms e.guard x i l) ∙ h.coefficients i l;
  constant = sym (constants_same k atoms e.guard x) ∙ h.constant;
}

pub live-cut : (k : ℕ) (atoms : List Atom) (e : Edge) (y : ℕ → ℚ) → ShowsLive (with_guard k atoms e) k y → ShowsLive (atoms ++ e.guard) k y
live-cut k atoms e y h = record {
  columns = λ j l. subst (λ (p : Linear ℤ). combined (rational p) y j ≤ℚ of_ℤ (pos 0)) (cuts_ask_the_same k atoms e) (h.columns j (let m = many_same k atoms e.guard in omega arith));
  last = h.last;
}

-- ---- sizes

wider : (n : ℕ) (b : Bool) (atoms : List Atom) → AllByRecursion (IsAtom n) atoms → AllByRecursion (IsAtom (cond b (n + 1) n)) atoms
wider n b [] h = tt
wider n true (a ∷ atoms) h = (record { few = let f = h.0.few in omega arith; coefs_within = h.0.coefs_within; constant_within = h.0.constant_within }, wider n true atoms h.1)
wider n false (a ∷ atoms) h = (h.0, wider n false atoms h.1)

cut_atoms : (k m : ℕ) (gs : List Atom) → AllByRecursion (IsAtom m) gs → AllByRecursion (IsAtom k) (map (cut_to k) gs)
cut_atoms k m [] h = tt
cut_atoms k m (g ∷ gs) h =
    (record { few = omega (arith, length-take k g.coefs); coefs_within = take_fits k g.coefs h.0.coefs_within; constant_within = h.0.constant_within }, cut_atoms k m gs h.1)

pub cuts_are_atoms : CutsAreAtoms
cuts_are_atoms n e atoms h k =
    each-++ (IsAtom (edge_places n e)) atoms (map (cut_to (edge_places n e)) e.guard) (wider n e.any atoms k) (cut_atoms (edge_places n e) (n + 1) e.guard h.atoms)
