-- Lists of keeps, and the problems that they answer, one after another.
use Rattle.std.specs.Prelude.{◌≡◌, ℕ, zero, suc, ◌+◌, ◌<◌, ◌≤◌, Bool, cond, List, [], ◌∷◌, ◌++◌, map, take, drop, length, slice_index_or, ℤ}
use Rattle.std.proofs.Common.{sym, ◌∙◌, ap, ap₂, subst, arith, append_assoc, append-nil}
use Rattle.std.proofs.lemmas.List.{take_all, length-take-le}
use Rattle.dc_affine.specs.declared.atom.Atom.{Atom}
use Rattle.dc_system.specs.declared.edges.Edge.{Edge}
use Rattle.dc_cert.specs.declared.sparse.Sparse.{Sparse}
use Rattle.dc_entail.specs.Asked.{Asked, IsDone, AllDone}
use Rattle.dc_points.specs.Shown.{IsFlag, AreFlags}
use Rattle.dc_greatest.specs.declared.family.InvFault.{InvFault}
use Rattle.dc_greatest.specs.Answers.{IsFault}
use Rattle.dc_greatest.specs.Parts.{for_live, for_edges}
use Rattle.dc_greatest.proofs.Unchanged.{both_done}
use Rattle.dc_invariant.specs.Shown.{IsKeep, AreKeeps}
use Rattle.dc_invariant.specs.Keeps.{numbered}
use Rattle.dc_invariant.specs.Lent.{Only}
use Rattle.dc_invariant.proofs.Faults.{fault_part}

-- ---- numbered lists
pub numbered_join : {A B : Type 0} (f : ℕ → A → B) (k : ℕ) (xs ys : List A) → numbered f k (xs ++ ys) ≡ numbered f k xs ++ numbered f (k + length xs) ys
numbered_join f k [] ys = let e : k ≡ k + 0 = omega arith in ap (λ j. numbered f j ys) e
numbered_join f k (x ∷ xs) ys =
    let e : suc k + length xs ≡ k + suc (length xs) = omega arith in
    ap (λ zs. f k x ∷ zs) (numbered_join f (suc k) xs ys ∙ ap (λ j. numbered f (suc k) xs ++ numbered f j ys) e)

pub cut_at : {A : Type 0} (xs : List A) (k : ℕ) (x : A) → k < length xs → x ≡ slice_index_or xs k x → xs ≡ take k xs ++ x ∷ drop (suc k) xs
cut_at [] k x l e = absurd (omega arith)
cut_at (y ∷ xs) zero x l e = ap (λ z. z ∷ xs) (sym e)
cut_at (y ∷ xs) (suc k) x l e = ap (λ zs. y ∷ zs) (cut_at xs k x (omega arith) e)

pub next_at : {A : Type 0} (xs : List A) (k : ℕ) (x : A) → k < length xs → x ≡ slice_index_or xs k x → take (suc k) xs ≡ take k xs ++ x ∷ []
next_at [] k x l e = absurd (omega arith)
next_at (y ∷ xs) zero x l e = ap (λ z. z ∷ []) (sym e)
next_at (y ∷ xs) (suc k) x l e = ap (λ zs. y ∷ zs) (next_at xs k x (omega arith) e)

-- ---- keeps of the atoms of a list
module _ (hyps : List Atom) (n : ℕ) (form : Atom → List ℤ) (shown : Atom → Atom) (budget : ℕ) (f : ℕ → Atom → Asked) where
  keeps_push : (xs : List Atom) (ks : List Sparse) (a : Atom) (k : Sparse) → AreKeeps hyps n form shown budget xs ks → IsKeep hyps n (form a) (shown a) budget k
      → AreKeeps hyps n form shown budget (xs ++ a ∷ []) (ks ++ k ∷ [])
  keeps_push [] [] a k h i = (i, tt)
  keeps_push [] (x ∷ ks) a k h i = absurd h
  keeps_push (x ∷ xs) [] a k h i = absurd h
  keeps_push (x ∷ xs) (y ∷ ks) a k h i = (h.0, keeps_push xs ks a k h.1 i)

  pub record AreKeptFirst (atoms : List Atom) (i : ℕ) (ks : List Sparse) : Type 0 where
    pub keeps : AreKeeps hyps n form shown budget (take i atoms) ks
    pub done : AllDone budget (numbered f 0 (take i atoms))

  pub kept_start : (atoms : List Atom) → AreKeptFirst atoms 0 []
  kept_start atoms = record { keeps = tt; done = tt }

  module _ (atoms : List Atom) (i : ℕ) (a : Atom) (inside : i < length atoms) (read : a ≡ slice_index_or atoms i a) where
    long : 0 + length (take i atoms) ≡ i
    long = let e = length-take-le i atoms (omega arith) in omega arith

    pub kept_next : (ks new : List Sparse) (k : Sparse) → AreKeptFirst atoms i ks → IsKeep hyps n (form a) (shown a) budget k → IsDone budget (f i a) → new ≡ ks ++ k ∷ [] → AreKeptFirst atoms (suc i) new
    kept_next ks new k h w d e =
        let s = next_at atoms i a inside read in
        record {
          keeps = subst (λ xs. AreKeeps hyps n form shown budget xs new) (sym s) (subst (AreKeeps hyps n form shown budget (take i atoms ++ a ∷ [])) (sym e) (keeps_push (take i atoms) ks a k h.keeps w));
          done = subst (λ xs. AllDone budget (numbered f 0 xs)) (sym s)
              (subst (AllDone budget) (sym (numbered_join f 0 (take i atoms) (a ∷ []) ∙ ap (λ j. numbered f 0 (take i atoms) ++ f j a ∷ []) long))
              (both_done budget (numbered f 0 (take i atoms)) (f i a ∷ []) h.done (d, tt)));
        }

    pub kept_fault : (ks : List Sparse) → AreKeptFirst atoms i ks → (x : InvFault) → IsFault budget (Only (f i a ∷ [])) x → IsFault budget (Only (numbered f 0 atoms)) x
    kept_fault ks h x r =
        fault_part budget (numbered f 0 (take i atoms)) (numbered f (suc i) (drop (suc i) atoms)) (Only (f i a ∷ [])) (Only (numbered f 0 atoms)) h.done
        (λ asked e. ap (λ zs. numbered f 0 (take i atoms) ++ (zs ++ numbered f (suc i) (drop (suc i) atoms))) e ∙ sym whole) x r
      where
        whole : numbered f 0 atoms ≡ numbered f 0 (take i atoms) ++ f i a ∷ numbered f (suc i) (drop (suc i) atoms)
        whole =
            ap (numbered f 0) (cut_at atoms i a inside read) ∙ numbered_join f 0 (take i atoms) (a ∷ drop (suc i) atoms)
            ∙ ap (λ j. numbered f 0 (take i atoms) ++ f j a ∷ numbered f (suc j) (drop (suc i) atoms)) long

  pub kept_end : (atoms : List Atom) (i : ℕ) (ks : List Sparse) → length atoms ≤ i → AreKeptFirst atoms i ks → AreKeptFirst atoms (length atoms) ks
  kept_end atoms i ks l h =
      let e : take i atoms ≡ take (length atoms) atoms = take_all i atoms l ∙ sym (take_all (length atoms) atoms (omega arith)) in
      record { keeps = subst (λ xs. AreKeeps hyps n form shown budget xs ks) e h.keeps; done = subst (λ xs. AllDone budget (numbered f 0 xs)) e h.done }

  pub kept_keeps : (atoms : List Atom) (i : ℕ) (ks : List Sparse) → length atoms ≤ i → AreKeptFirst atoms i ks → AreKeeps hyps n form shown budget atoms ks
  kept_keeps atoms i ks l h = subst (λ xs. AreKeeps hyps n form shown budget xs ks) (take_all i atoms l) h.keeps

  pub kept_done : (atoms : List Atom) (i : ℕ) (ks : List Sparse) → length atoms ≤ i → AreKeptFirst atoms i ks → AllDone budget (numbered f 0 atoms)
  kept_done atoms i ks l h = subst (λ xs. AllDone budget (numbered f 0 xs)) (take_all i atoms l) h.done

-- ---- flags

pub flag_at : (bs : List Bool) (hs : List (List Atom)) (i : ℕ) (b : Bool) (h : List Atom) → AreFlags bs hs → i < length hs → b ≡ slice_index_or bs i b → h ≡ slice_index_or hs i h → IsFlag b h
flag_at [] [] i b h f l e g = absurd (omega arith)
flag_at [] (x ∷ hs) i b h f l e g = absurd f
flag_at (d ∷ bs) [] i b h f l e g = absurd f
flag_at (d ∷ bs) (x ∷ hs) zero b h f l e g = subst (λ y. IsFlag y h) (sym e) (subst (IsFlag d) (sym g) f.0)
flag_at (d ∷ bs) (x ∷ hs) (suc i) b h f l e g = flag_at bs hs i b h f.1 (omega arith) e g

module _ (h : Edge → List Atom) where
  pub flags_join : (es : List Edge) (fs : List Bool) (ds : List Edge) (gs : List Bool) → AreFlags fs (map h es) → AreFlags gs (map h ds) → AreFlags (fs ++ gs) (map h (es ++ ds))
  flags_join [] [] ds gs a b = b
  flags_join [] (f ∷ fs) ds gs a b = absurd a
  flags_join (e ∷ es) [] ds gs a b = absurd a
  flags_join (e ∷ es) (f ∷ fs) ds gs a b = (a.0, flags_join es fs ds gs a.1 b)

  pub edges_join : (f : ℕ → Edge → Bool → List Asked) (k : ℕ) (es : List Edge) (fs : List Bool) (ds : List Edge) (gs : List Bool) → AreFlags fs (map h es)
      → for_edges f k (es ++ ds) (fs ++ gs) ≡ for_edges f k es fs ++ for_edges f (k + length es) ds gs
  edges_join f k [] [] ds gs a = let z : k ≡ k + 0 = omega arith in ap (λ j. for_edges f j ds gs) z
  edges_join f k [] (b ∷ fs) ds gs a = absurd a
  edges_join f k (e ∷ es) [] ds gs a = absurd a
  edges_join f k (e ∷ es) (b ∷ fs) ds gs a =
      let z : suc k + length es ≡ k + suc (length es) = omega arith in
      ap (λ xs. f k e b ++ xs) (edges_join f (suc k) es fs ds gs a.1 ∙ ap (λ j. for_edges f (suc k) es fs ++ for_edges f j ds gs) z)
      ∙ sym (append_assoc (f k e b) (for_edges f (suc k) es fs) (for_edges f (k + suc (length es)) ds gs))

-- ---- live cases
abbrev pub one_live : (ℕ → List Atom → List Asked) → ℕ → List Atom → Bool → List Asked
one_live f k case b = cond b (f k case) []

pub live_cut : (f : ℕ → List Atom → List Asked) (k : ℕ) (cases : List (List Atom)) (live : List Bool) (i : ℕ) (case : List Atom) (b : Bool) → length live ≡ length cases → i < length cases
    → case ≡ slice_index_or cases i case → b ≡ slice_index_or live i b
    → for_live f k cases live ≡ for_live f k (take i cases) (take i live) ++ (one_live f (k + i) case b ++ for_live f (suc (k + i)) (drop (suc i) cases) (drop (suc i) live))
live_cut f k [] live i case b e l r s = absurd (omega arith)
live_cut f k (d ∷ cases) [] i case b e l r s = absurd (omega arith)
live_cut f k (d ∷ cases) (g ∷ live) zero case b e l r s =
    let z : k ≡ k + 0 = omega arith in
    ap₂ (λ x y. one_live f k x y ++ for_live f (suc k) cases live) (sym r) (sym s) ∙ ap (λ j. one_live f j case b ++ for_live f (suc j) cases live) z
live_cut f k (d ∷ cases) (g ∷ live) (suc i) case b e l r s =
    let z : suc k + i ≡ k + suc i = omega arith in
    ap (λ xs. one_live f k d g ++ xs)
    (live_cut f (suc k) cases live i case b (omega arith) (omega arith) r s
    ∙ ap (λ j. for_live f (suc k) (take i cases) (take i live) ++ (one_live f j case b ++ for_live f (suc j) (drop (suc i) cases) (drop (suc i) live))) z)
    ∙ sym (append_assoc (one_live f k d g) (for_live f (suc k) (take i cases) (take i live)) (one_live f (k + suc i) case b ++ for_live f (suc (k + suc i)) (drop (suc i) cases) (drop (suc i) live)))

pub live_next : (f : ℕ → List Atom → List Asked) (k : ℕ) (cases : List (List Atom)) (live : List Bool) (i : ℕ) (case : List Atom) (b : Bool) → length live ≡ length cases → i < length cases
    → case ≡ slice_index_or cases i case → b ≡ slice_index_or live i b → for_live f k (take (suc i) cases) (take (suc i) live) ≡ for_live f k (take i cases) (take i live) ++ one_live f (k + i) case b
live_next f k [] live i case b e l r s = absurd (omega arith)
live_next f k (d ∷ cases) [] i case b e l r s = absurd (omega arith)
live_next f k (d ∷ cases) (g ∷ live) zero case b e l r s =
    let z : k ≡ k + 0 = omega arith in
    ap₂ (λ x y. one_live f k x y ++ []) (sym r) (sym s) ∙ append-nil (one_live f k case b) ∙ ap (λ j. one_live f j case b) z
live_next f k (d ∷ cases) (g ∷ live) (suc i) case b e l r s =
    let z : suc k + i ≡ k + suc i = omega arith in
    ap (λ xs. one_live f k d g ++ xs) (live_next f (suc k) cases live i case b (omega arith) (omega arith) r s ∙ ap (λ j. for_live f (suc k) (take i cases) (take i live) ++ one_live f j case b) z)
    ∙ sym (append_assoc (one_live f k d g) (for_live f (suc k) (take i cases) (take i live)) (one_live f (k + suc i) case b))
