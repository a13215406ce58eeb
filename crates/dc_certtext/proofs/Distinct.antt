-- At each stage a line is taken in one way at most.
use Rattle.std.specs.Prelude.{◌≡◌, ℕ, suc, ◌≤◌, Bool, true, false, cond, eqb, List, [], ◌∷◌, ◌++◌, codes, refl, ℤ, unsigned_abs}
use Rattle.std.proofs.Common.{sym, ◌∙◌, ap, ap₂, subst, arith, inl, inr}
use Rattle.std.proofs.lemmas.Bool.{eq-eqb}
use Rattle.std.proofs.lemmas.List.{append-nil}
use Rattle.std.specs.Fmt.{decimal, signed_decimal}
use Rattle.dc_affine.specs.declared.atom.Atom.{Atom}
use Rattle.dc_affine.specs.Atoms.{IsAtom, AllFit}
use Rattle.dc_cert.specs.declared.sparse.Item.{Item}
use Rattle.dc_cert.specs.declared.sparse.Sparse.{Sparse}
use Rattle.dc_cert.specs.declared.certificate.Liveness.{Liveness}
use Rattle.dc_cert.specs.declared.certificate.Liveness.TheVariants.{Dead, Live}
use Rattle.dc_cert.specs.Vectors.{AreItems, IsVector}
use Rattle.dc_cert.specs.Ranges.{IsShown}
use Rattle.dc_certtext.specs.declared.stage.Stage.{Stage}
use Rattle.dc_certtext.specs.declared.stage.Stage.TheVariants.{Start, Whole, Version, Sizes, Cases, Heads, Opened, Locations, Entries, Edges, Between, Closed, Main, End, Done}
use Rattle.dc_lines.specs.Bytes.{Bytes, spaced}
use Rattle.dc_certtext.specs.Words.{item_text, frac_text, vector_text, atom_text}
use Rattle.dc_lines.proofs.Cutting.{cancel, same_cut, spaced-starts}
use Rattle.dc_lines.proofs.Numerals.{decimal_one, whole_lacks, whole_one, digits-lack, decimal_digits}
use Rattle.dc_certtext.proofs.Fractions.{item-lacks, item_one, frac_one}
use Rattle.dc_certtext.specs.Text.{shown_text}
use Rattle.dc_certtext.specs.Offers.{Then, plain, vector, shown, atom, fraction, number, sizes, Offer, Takes, Any}
use Rattle.dc_certtext.specs.Stages.{offers}

-- ---- the words of a stage differ before one of them ends
abbrev pub apart : Bytes → Bytes → Bool
apart [] l = false
apart (x ∷ k) [] = false
apart (x ∷ k) (y ∷ l) = cond (eqb x y) (apart k l) true

apart_not : (k l x y : Bytes) → apart k l ≡ true → k ++ x ≡ l ++ y → ⊥
apart_not [] l x y h e = (let q : false ≡ true = h in cc)
apart_not (a ∷ k) [] x y h e = (let q : false ≡ true = h in cc)
apart_not (a ∷ k) (b ∷ l) x y h e = by (eqb a b) refl h (apart_not k l x y)
  where
    by : (t : Bool) → eqb a b ≡ t → cond t (apart k l) true ≡ true → (apart k l ≡ true → k ++ x ≡ l ++ y → ⊥) → ⊥
    by true q h r = r h (let f : a ∷ (k ++ x) ≡ b ∷ (l ++ y) = e in cc)
    by false q h r = (let f : a ∷ (k ++ x) ≡ b ∷ (l ++ y) = e in let g : a ≡ b = cc in let i : eqb a b ≡ true = ap (λ z. eqb a z) (sym g) ∙ eq-eqb a a refl in cc)

-- each word from those behind it
abbrev pub Apart : Bytes → List Offer → Type 0
Apart k [] = Unit {0}
Apart k (o ∷ os) = (apart k o.key ≡ true) × Apart k os

abbrev pub Distinct : List Offer → Type 0
Distinct [] = Unit {0}
Distinct (o ∷ os) = Apart o.key os × Distinct os

begins : (k : Bytes) (t : Then) (b : Bytes) (s : Stage) → Takes k t b s → (x : Bytes) × (k ++ x ≡ b)
begins k (plain f) b s h = ([], append-nil k ∙ h.0)
begins k (vector f) b s h = (vector_text h.0, h.2)
begins k (shown f) b s h = (shown_text h.0, h.2)
begins k (atom f) b s h = (atom_text h.0, h.2)
begins k (fraction f) b s h = (frac_text h.0, h.2)
begins k (number low high f) b s h = (decimal h.0, h.2)
begins k (sizes f) b s h = (decimal h.0 ++ (codes " products " ++ decimal h.1), h.3)

-- ---- one way behind one word
items_same : (low : ℕ) (is js : List Item) → AreItems low is → AreItems low js → spaced item_text is ≡ spaced item_text js → is ≡ js
items_same low [] [] h k e = refl
items_same low [] (j ∷ js) h k e = (let f : [] ≡ 32 ∷ (item_text j ++ spaced item_text js) = e in cc)
items_same low (i ∷ is) [] h k e = (let f : 32 ∷ (item_text i ++ spaced item_text is) ≡ [] = e in cc)
items_same low (i ∷ is) (j ∷ js) h k e =
    let c = same_cut 32 (item_text i) (item_text j) (spaced item_text is) (spaced item_text js) (item-lacks i h.1) (item-lacks j k.1) (spaced-starts item_text is) (spaced-starts item_text js)
    (let f : 32 ∷ (item_text i ++ spaced item_text is) ≡ 32 ∷ (item_text j ++ spaced item_text js) = e in cc) in
    let m = item_one i j h.1 k.1 c.0 in
    ap₂ ◌∷◌ m (items_same (suc j.index) is js (subst (λ (x : Item). AreItems (suc x.index) is) m h.2) k.2 c.1)

pub vector_same : (v w : Sparse) → IsVector v → IsVector w → vector_text v ≡ vector_text w → v ≡ w
vector_same v w h k e = ap (λ is. record { items = is }) (items_same 0 v.items w.items h k e)

pub shown_same : (l m : Liveness) → IsShown l → IsShown m → shown_text l ≡ shown_text m → l ≡ m
shown_same (Dead v) (Dead w) h k e = ap Dead (vector_same v w h k (cancel (codes " dead") (vector_text v) (vector_text w) e))
shown_same (Dead v) (Live w) h k e = absurd (apart_not (codes " dead") (codes " live") (vector_text v) (vector_text w) refl e)
shown_same (Live v) (Dead w) h k e = absurd (apart_not (codes " live") (codes " dead") (vector_text v) (vector_text w) refl e)
shown_same (Live v) (Live w) h k e = ap Live (vector_same v w h k (cancel (codes " live") (vector_text v) (vector_text w) e))

abbrev pub Small : List ℤ → Type 0
Small [] = Unit {0}
Small (z ∷ zs) = (unsigned_abs z ≤ 2147483648) × Small zs

numbers_same : (ys zs : List ℤ) → Small ys → Small zs → spaced signed_decimal ys ≡ spaced signed_decimal zs → ys ≡ zs
numbers_same [] [] h k e = refl
numbers_same [] (z ∷ zs) h k e = (let f : [] ≡ 32 ∷ (signed_decimal z ++ spaced signed_decimal zs) = e in cc)
numbers_same (y ∷ ys) [] h k e = (let f : 32 ∷ (signed_decimal y ++ spaced signed_decimal ys) ≡ [] = e in cc)
numbers_same (y ∷ ys) (z ∷ zs) h k e =
    let c = same_cut 32 (signed_decimal y) (signed_decimal z) (spaced signed_decimal ys) (spaced signed_decimal zs) (whole_lacks 32 y (inl (inl (omega arith))) (omega (arith, h.0))) (whole_lacks 32 z (inl (inl (omega arith))) (omega (arith, k.0)))
    (spaced-starts signed_decimal ys) (spaced-starts signed_decimal zs) (let f : 32 ∷ (signed_decimal y ++ spaced signed_decimal ys) ≡ 32 ∷ (signed_decimal z ++ spaced signed_decimal zs) = e in cc) in
    ap₂ ◌∷◌ (whole_one y z (omega (arith, h.0)) (omega (arith, k.0)) c.0) (numbers_same ys zs h.1 k.1 c.1)

pub atom_same : (a b : Atom) → IsAtom 10 a → IsAtom 10 b → atom_text a ≡ atom_text b → a ≡ b
atom_same a b h k e =
    let q = numbers_same (a.c0 ∷ a.coefs) (b.c0 ∷ b.coefs) (h.constant_within, small a.coefs h.coefs_within) (k.constant_within, small b.coefs k.coefs_within) e in
    let x : a.c0 ≡ b.c0 = cc in
    let y : a.coefs ≡ b.coefs = cc in
    ap₂ (λ c cs. record { c0 = c; coefs = cs }) x y
  where
    small : (cs : List ℤ) → AllFit cs → Small cs
    small [] h = tt
    small (c ∷ cs) h = ((let l = h.0 in omega arith), small cs h.1)

one_taken : (k : Bytes) (t : Then) (b : Bytes) (s u : Stage) → Takes k t b s → Takes k t b u → s ≡ u
one_taken k (plain f) b s u h g = h.1 ∙ sym g.1
one_taken k (vector f) b s u h g = h.3 ∙ ap f (vector_same h.0 g.0 h.1 g.1 (cancel k _ _ (h.2 ∙ sym g.2))) ∙ sym g.3
one_taken k (shown f) b s u h g = h.3 ∙ ap f (shown_same h.0 g.0 h.1 g.1 (cancel k _ _ (h.2 ∙ sym g.2))) ∙ sym g.3
one_taken k (atom f) b s u h g = h.3 ∙ ap f (atom_same h.0 g.0 h.1 g.1 (cancel k _ _ (h.2 ∙ sym g.2))) ∙ sym g.3
one_taken k (fraction f) b s u h g = h.3 ∙ ap f (frac_one h.0 g.0 h.1 g.1 (cancel k _ _ (h.2 ∙ sym g.2))) ∙ sym g.3
one_taken k (number low high f) b s u h g = h.3 ∙ ap f (decimal_one h.0 g.0 (let x = h.1.2 in omega arith) (let x = g.1.2 in omega arith) (cancel k _ _ (h.2 ∙ sym g.2))) ∙ sym g.3
one_taken k (sizes f) b s u h g = h.4 ∙ sizes_by h.0 h.1 g.0 g.1 h.2 g.2 (cancel k _ _ (h.3 ∙ sym g.3)) ∙ sym g.4
  where
    sizes_by : (d n e m : ℕ) → (d ≤ 3) × (1 ≤ n) × (n ≤ 3) → (e ≤ 3) × (1 ≤ m) × (m ≤ 3) → decimal d ++ (codes " products " ++ decimal n) ≡ decimal e ++ (codes " products " ++ decimal m) → f d n ≡ f e m
    sizes_by d n e m h g q =
        let c = same_cut 32 (decimal d) (decimal e) (codes " products " ++ decimal n) (codes " products " ++ decimal m) (digits-lack 32 (decimal d) (inl (omega arith)) (decimal_digits d (let x = h.0 in omega arith)))
        (digits-lack 32 (decimal e) (inl (omega arith)) (decimal_digits e (let x = g.0 in omega arith))) refl refl q in
        ap₂ f (decimal_one d e (let x = h.0 in omega arith) (let x = g.0 in omega arith) c.0) (decimal_one n m (let x = h.2 in omega arith) (let x = g.2 in omega arith) (cancel (codes " products ") (decimal n) (decimal m) c.1))

pub other_taken : (k : Bytes) (t : Then) (os : List Offer) (b : Bytes) (s u : Stage) → Apart k os → Takes k t b s → Any os b u → ⊥
other_taken k t [] b s u a h g = g
other_taken k t (o ∷ os) b s u a h (inl g) = let x = begins k t b s h in let y = begins o.key o.next b u g.1 in apart_not k o.key x.0 y.0 a.0 (x.1 ∙ sym y.1)
other_taken k t (o ∷ os) b s u a h (inr g) = other_taken k t os b s u a.1 h g

pub one_way : (os : List Offer) (b : Bytes) (s u : Stage) → Distinct os → Any os b s → Any os b u → s ≡ u
one_way [] b s u d h g = absurd h
one_way (o ∷ os) b s u d (inl h) (inl g) = one_taken o.key o.next b s u h.1 g.1
one_way (o ∷ os) b s u d (inl h) (inr g) = absurd (other_taken o.key o.next os b s u d.0 h.1 g)
one_way (o ∷ os) b s u d (inr h) (inl g) = absurd (other_taken o.key o.next os b u s d.0 g.1 h)
one_way (o ∷ os) b s u d (inr h) (inr g) = one_way os b s u d.1 h g

-- ---- the words of each stage
pub distinct : (s : Stage) → Distinct (offers s)
distinct Start = ((refl, (refl, tt)), ((refl, tt), (tt, tt)))
distinct (Whole t) = (tt, tt)
distinct (Version c) = (tt, tt)
distinct (Sizes c v) = (tt, tt)
distinct (Cases c d k) = (tt, tt)
distinct (Heads h) = ((refl, tt), (tt, tt))
distinct (Opened f) = (tt, tt)
distinct (Locations f done last) = ((refl, (refl, tt)), ((refl, tt), (tt, tt)))
distinct (Entries f fam done last) = ((refl, (refl, (refl, tt))), ((refl, (refl, tt)), ((refl, tt), (tt, tt))))
distinct (Edges f fam ents done live last) = ((refl, (refl, tt)), ((refl, tt), (tt, tt)))
distinct (Between h n) = (tt, tt)
distinct (Closed h n o) = (tt, tt)
distinct (Main h n o found) = (tt, tt)
distinct (End c) = (tt, tt)
distinct (Done c) = tt
