-- The steps of the loops that put values into atoms.
use Rattle.std.specs.Prelude.{◌≡◌, ℕ, zero, suc, ◌+◌, ◌*◌, ◌≤◌, ◌<◌, Bool, true, false, ◌&&◌, leb, if◌then◌else◌, List, [], ◌∷◌, ◌++◌, map, take, drop, length, get_or, ℤ, ◌+ℤ◌, unsigned_abs, Some, None, refl}
use Rattle.std.specs.declared.option.Option.{Option}
use Rattle.std.proofs.Common.{sym, ◌∙◌, ap, ap₂, subst, arith, SFits}
use Rattle.std.specs.Int.{w128}
use Rattle.std.proofs.lemmas.Int.{ints, fits_signed_from_abs}
use Rattle.std.proofs.lemmas.Bool.{le-leb, lt-leb, and_right}
use Rattle.std.proofs.lemmas.List.{append_assoc, append-nil, drop_more, drop_all}
use Rattle.dc_math.specs.Members.{each_is}
use Rattle.dc_poly.specs.Terms.{Exponents, Polynomial}
use Rattle.dc_poly.specs.Sums.{zeros, unit_at}
use Rattle.dc_poly.specs.Affine.{units}
use Rattle.dc_affine.specs.declared.atom.Atom.{Atom}
use Rattle.dc_poly.specs.NormalForm.{most}
use Rattle.dc_affine.proofs.Units.{units_done}
use Rattle.dc_system.specs.Composed.{coef_at, atom_at, atoms_at, numbers_fit, atom_fits, atoms_fit}

pub numbers_push : (cs : List ℤ) (c : ℤ) → numbers_fit cs ≡ true → unsigned_abs c ≤ most → numbers_fit (cs ++ c ∷ []) ≡ true
numbers_push [] c h k = rw (le-leb (unsigned_abs c) most k) refl
numbers_push (x ∷ cs) c h k = by (leb (unsigned_abs x) most) h (λ g. numbers_push cs c g k)
  where
    by : (b : Bool) → (b && numbers_fit cs) ≡ true → (numbers_fit cs ≡ true → numbers_fit (cs ++ c ∷ []) ≡ true) → (b && numbers_fit (cs ++ c ∷ [])) ≡ true
    by true h r = r h
    by false h r = cc

-- a number that does not fit, among those read at the variables
unit_bars : (f : Exponents → ℤ) (m k : ℕ) → k < m → most < unsigned_abs (f (unit_at m k)) → numbers_fit (map f (units m)) ≡ false
unit_bars f zero k h g = absurd (omega arith)
unit_bars f (suc m) zero h g = rw (lt-leb (unsigned_abs (f (unit_at (suc m) zero))) most g) refl
unit_bars f (suc m) (suc k) h g = either (leb (unsigned_abs (f (unit_at (suc m) zero))) most) (behind f (units m) ∙ unit_bars (λ u. f (0 ∷ u)) m k (omega arith) g)
  where
    behind : (f : Exponents → ℤ) (us : List Exponents) → numbers_fit (map f (map (λ u. 0 ∷ u) us)) ≡ numbers_fit (map (λ u. f (0 ∷ u)) us)
    behind f [] = refl
    behind f (u ∷ us) = ap (λ b. leb (unsigned_abs (f (0 ∷ u))) most && b) (behind f us)

    either : (b : Bool) → numbers_fit (map f (map (λ u. 0 ∷ u) (units m))) ≡ false → (b && numbers_fit (map f (map (λ u. 0 ∷ u) (units m)))) ≡ false
    either true e = e
    either false e = refl

chosen_atom : (m : ℕ) (a : Atom) (vs : List Polynomial) (b : Bool) (o : Option Atom) → atom_fits (atom_at m a vs) ≡ b → o ≡ (if b then Some (atom_at m a vs) else None) → o ≡ (if atom_fits (atom_at m a vs) then Some (atom_at m a vs) else None)
chosen_atom m a vs b o e f = f ∙ ap (λ t. if t then Some (atom_at m a vs) else None) (sym e)

-- ---- what the code answers
pub constant_bars : (m : ℕ) (a : Atom) (vs : List Polynomial) (c s : ℤ) (u : Exponents) → u ≡ zeros m → s ≡ coef_at a.coefs vs u → c ≡ a.c0 +ℤ s → 2147483648 < unsigned_abs c → None ≡ (if atom_fits (atom_at m a vs) then Some (atom_at m a vs) else None)
constant_bars m a vs c s u e f g h =
    let q : c ≡ a.c0 +ℤ coef_at a.coefs vs (zeros m) = g ∙ ap (λ x. a.c0 +ℤ x) (f ∙ ap (coef_at a.coefs vs) e) in
    let l : 2147483648 < unsigned_abs (a.c0 +ℤ coef_at a.coefs vs (zeros m)) = subst (λ (x : ℤ). 2147483648 < unsigned_abs x) q h in
    chosen_atom m a vs false None (rw (lt-leb (unsigned_abs (a.c0 +ℤ coef_at a.coefs vs (zeros m))) 2147483648 l) refl) refl

pub coef_bars : (m k : ℕ) (a : Atom) (vs : List Polynomial) (c : ℤ) (u : Exponents) → k < m → u ≡ unit_at m k → c ≡ coef_at a.coefs vs u → most < unsigned_abs c → None ≡ (if atom_fits (atom_at m a vs) then Some (atom_at m a vs) else None)
coef_bars m k a vs c u h e f g =
    let q : c ≡ coef_at a.coefs vs (unit_at m k) = f ∙ ap (coef_at a.coefs vs) e in
    chosen_atom m a vs false None (and_right _ _ (unit_bars (coef_at a.coefs vs) m k h (subst (λ (x : ℤ). most < unsigned_abs x) q g))) refl

pub atom_made : (m k : ℕ) (a b : Atom) (vs : List Polynomial) (s : ℤ) (u : Exponents) (cs : List ℤ) → u ≡ zeros m → s ≡ coef_at a.coefs vs u → m ≤ k → cs ≡ map (coef_at a.coefs vs) (take k (units m)) → numbers_fit cs ≡ true → unsigned_abs (a.c0 +ℤ s) ≤ 2147483648 → b ≡ record { c0 = a.c0 +ℤ s; coefs = cs }
    → Some b ≡ (if atom_fits (atom_at m a vs) then Some (atom_at m a vs) else None)
atom_made m k a b vs s u cs e f h i j l g =
    let q : a.c0 +ℤ s ≡ a.c0 +ℤ coef_at a.coefs vs (zeros m) = ap (λ x. a.c0 +ℤ x) (f ∙ ap (coef_at a.coefs vs) e) in
    let p : cs ≡ map (coef_at a.coefs vs) (units m) = units_done (coef_at a.coefs vs) m k cs h i in
    let x : unsigned_abs (a.c0 +ℤ coef_at a.coefs vs (zeros m)) ≤ 2147483648 = subst (λ (y : ℤ). unsigned_abs y ≤ 2147483648) q l in
    let y : numbers_fit (map (coef_at a.coefs vs) (units m)) ≡ true = sym (ap numbers_fit p) ∙ j in
    chosen_atom m a vs true (Some b) (rw (le-leb (unsigned_abs (a.c0 +ℤ coef_at a.coefs vs (zeros m))) 2147483648 x) y) (ap Some (g ∙ ap₂ (λ (v : ℤ) (w : List ℤ). atom v w) q p))
  where
    atom : ℤ → List ℤ → Atom
    atom x y = record { c0 = x; coefs = y }

pub atom_written : (m k : ℕ) (a : Atom) (vs : List Polynomial) (s c d : ℤ) (u : Exponents) (cs ds : List ℤ) → u ≡ zeros m → s ≡ coef_at a.coefs vs u → m ≤ k → cs ≡ map (coef_at a.coefs vs) (take k (units m)) → numbers_fit cs ≡ true → c ≡ a.c0 +ℤ s → unsigned_abs c ≤ 2147483648 → d ≡ c → ds ≡ cs
    → Some (record { c0 = d; coefs = ds }) ≡ (if atom_fits (atom_at m a vs) then Some (atom_at m a vs) else None)
atom_written m k a vs s c d u cs ds e f h i j l g o p =
    atom_made m k a (atom d ds) vs s u cs e f h i j (subst (λ (z : ℤ). unsigned_abs z ≤ 2147483648) l g) (ap₂ (λ (x : ℤ) (y : List ℤ). atom x y) (o ∙ l) p)
  where
    atom : ℤ → List ℤ → Atom
    atom x y = record { c0 = x; coefs = y }

pub ruleset reading = (constant_bars, coef_bars)

-- ---- the loop over a guard
-- what is left to be read decides, and what was read stands there
pub record Guarding (m : ℕ) (first gs : List Atom) (vs : List Polynomial) (k : ℕ) (o : List Atom) : Type 0 where
  pub fits : atoms_fit (atoms_at m gs vs) ≡ atoms_fit (atoms_at m (drop k gs) vs)
  pub so_far : o ++ atoms_at m (drop k gs) vs ≡ first ++ atoms_at m gs vs

some_is : (t : Bool) (x y : Atom) → Some x ≡ (if t then Some y else None) → (t ≡ true) × (x ≡ y)
some_is true x y e = (refl, cc)
some_is false x y e = cc

none_is : (t : Bool) (y : Atom) → None ≡ (if t then Some y else None) → t ≡ false
none_is true y e = cc
none_is false y e = refl

pub guard_more : (m : ℕ) (first gs : List Atom) (vs : List Polynomial) (k : ℕ) (o p : List Atom) (a b : Atom) → k < length gs → a ≡ get_or gs k a → Some b ≡ (if atom_fits (atom_at m a vs) then Some (atom_at m a vs) else None) → p ≡ o ++ b ∷ [] → Guarding m first gs vs k o → Guarding m first gs vs (k + 1) p
guard_more m first gs vs k o p a b h e f g w =
    let d : drop k gs ≡ a ∷ drop (k + 1) gs = drop_more gs k a h ∙ ap (λ y. y ∷ drop (k + 1) gs) (sym e) in
    let s = some_is (atom_fits (atom_at m a vs)) b (atom_at m a vs) f in
    record {
      fits = w.fits ∙ ap (λ y. atoms_fit (atoms_at m y vs)) d ∙ ap (λ t. t && atoms_fit (atoms_at m (drop (k + 1) gs) vs)) s.0;
      so_far = ap₂ (λ y z. y ++ atoms_at m z vs) g refl ∙ append_assoc o (b ∷ []) (atoms_at m (drop (k + 1) gs) vs) ∙ ap (λ y. o ++ y ∷ atoms_at m (drop (k + 1) gs) vs) s.1 ∙ ap (λ y. o ++ atoms_at m y vs) (sym d) ∙ w.so_far;
    }

pub guard_bars : (m : ℕ) (first gs : List Atom) (vs : List Polynomial) (k : ℕ) (o : List Atom) (a : Atom) → k < length gs → a ≡ get_or gs k a → None ≡ (if atom_fits (atom_at m a vs) then Some (atom_at m a vs) else None) → Guarding m first gs vs k o → atoms_fit (atoms_at m gs vs) ≡ false
guard_bars m first gs vs k o a h e f w =
    let d : drop k gs ≡ a ∷ drop (k + 1) gs = drop_more gs k a h ∙ ap (λ y. y ∷ drop (k + 1) gs) (sym e) in
    w.fits ∙ ap (λ y. atoms_fit (atoms_at m y vs)) d ∙ ap (λ t. t && atoms_fit (atoms_at m (drop (k + 1) gs) vs)) (none_is (atom_fits (atom_at m a vs)) (atom_at m a vs) f)

pub guard_done : (m : ℕ) (first gs : List Atom) (vs : List Polynomial) (k : ℕ) (o : List Atom) → length gs ≤ k → Guarding m first gs vs k o → (atoms_fit (atoms_at m gs vs) ≡ true) × (o ≡ first ++ atoms_at m gs vs)
guard_done m first gs vs k o h w =
    let d = drop_all k gs h in
    (w.fits ∙ ap (λ y. atoms_fit (atoms_at m y vs)) d, sym (append-nil o) ∙ ap (λ y. o ++ atoms_at m y vs) (sym d) ∙ w.so_far)

pub guard_begins : (m : ℕ) (first gs : List Atom) (vs : List Polynomial) (o : List Atom) → o ≡ first → Guarding m first gs vs 0 o
guard_begins m first gs vs o e = record { fits = refl; so_far = ap (λ y. y ++ atoms_at m gs vs) e }

pub ruleset guarding = (guard_more, guard_bars, guard_done, guard_begins, each_is)

-- ---- 128 bits are enough
pub sum_fits : (s : ℤ) → unsigned_abs s ≤ 11 * (most * most) → SFits w128 s
sum_fits s h = fits_signed_from_abs w128 s (omega arith)

pub constant_fits : (c k s : ℤ) → c ≡ k +ℤ s → unsigned_abs k ≤ 2147483648 → unsigned_abs s ≤ 11 * (most * most) → SFits w128 c
constant_fits c k s e h g = fits_signed_from_abs w128 c (omega (arith, ints))
