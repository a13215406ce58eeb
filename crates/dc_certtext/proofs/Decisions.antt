-- At each stage it is decided whether a line is taken.
use Rattle.std.specs.Prelude.{◌≡◌, ◌⊎◌, ℕ, suc, ◌≤◌, ◌<◌, ◌^◌, true, false, List, [], ◌∷◌, ◌++◌, length, codes, ℤ, pos, negsuc, ◌≤ℤ◌, unsigned_abs, refl}
use Rattle.std.proofs.Common.{sym, ◌∙◌, ap, subst, arith, inl, inr}
use Rattle.std.proofs.lemmas.Int.{ints}
use Rattle.std.specs.Fmt.{decimal, signed_decimal}
use Rattle.dc_math.specs.Gcd.{gcd}
use Rattle.dc_math.specs.Tests.{is_zero}
use Rattle.dc_frac.specs.declared.Frac.{Frac}
use Rattle.dc_frac.specs.Fits.{IsSmall}
use Rattle.dc_frac.specs.Value.{value}
use Rattle.dc_affine.specs.declared.atom.Atom.{Atom}
use Rattle.dc_affine.specs.Atoms.{IsAtom, AllFit}
use Rattle.dc_cert.specs.declared.sparse.Item.{Item}
use Rattle.dc_cert.specs.declared.sparse.Sparse.{Sparse}
use Rattle.dc_cert.specs.declared.certificate.Certificate.{Certificate}
use Rattle.dc_cert.specs.declared.certificate.Liveness.{Liveness}
use Rattle.dc_cert.specs.declared.certificate.Liveness.TheVariants.{Dead, Live}
use Rattle.dc_cert.specs.Vectors.{IsItem, AreItems, IsVector}
use Rattle.dc_cert.specs.Ranges.{IsShown}
use Rattle.dc_cert.proofs.SameParts.{make, same_parts}
use Rattle.dc_lines.specs.Bytes.{Bytes, spaced}
use Rattle.dc_lines.proofs.Cutting.{cancel}
use Rattle.dc_lines.proofs.Decided.{Decided, decide_front, decide_same, decide_both, decide_either, decide_most, decide_equal, decide_bool, decide_bytes, decide_below, decide_whole, decide_behind, Chain, Spaced, decide_spaced, spaced_few}
use Rattle.dc_lines.proofs.Outcome.{Judge}
use Rattle.dc_certtext.specs.declared.stage.Stage.{Stage}
use Rattle.dc_certtext.specs.declared.stage.Stage.TheVariants.{Start, Whole, Version, Sizes, Cases, Heads, Opened, Locations, Entries, Edges, Between, Closed, Main, End, Done}
use Rattle.dc_certtext.specs.Words.{frac_text, item_text, vector_text, atom_text}
use Rattle.dc_certtext.specs.Text.{shown_text}
use Rattle.dc_certtext.specs.Offers.{Then, plain, vector, shown, atom, fraction, number, sizes, Offer, Takes, Any}
use Rattle.dc_certtext.specs.Stages.{offers}
use Rattle.dc_certtext.proofs.Paths.{Step}
use Rattle.dc_certtext.proofs.Machine.{Ends}

-- ---- some fraction
record Parts (Q : Frac → Type 0) (z : ℤ) (n : ℕ) : Type 0 where
  positive : pos 1 ≤ℤ pos n
  reduced : gcd (unsigned_abs z) n ≡ 1
  small : unsigned_abs z < 2 ^ 127
  holds : Q (make z (pos n) positive reduced small)

decide_parts : (Q : Frac → Type 0) → ((x : Frac) → Decided (Q x)) → (z : ℤ) (n : ℕ) → Decided ((unsigned_abs z < 2 ^ 127) × Parts Q z n)
unfolding make
decide_parts Q d z n = by (decide_below_bound z) (decide_most 1 n) (decide_equal (gcd (unsigned_abs z) n) 1)
  where
    decide_below_bound : (z : ℤ) → Decided (unsigned_abs z < 2 ^ 127)
    decide_below_bound z = decide_same (λ h. omega arith) (λ h. omega arith) (decide_most (suc (unsigned_abs z)) (2 ^ 127))

    at : (p : pos 1 ≤ℤ pos n) (r : gcd (unsigned_abs z) n ≡ 1) (s : unsigned_abs z < 2 ^ 127) → Decided (Q (make z (pos n) p r s)) → Decided ((unsigned_abs z < 2 ^ 127) × Parts Q z n)
    at p r s (inl h) = inl (s, record { positive = p; reduced = r; small = s; holds = h })
    at p r s (inr m) =
        inr (λ h. m (subst Q (same_parts (make z (pos n) h.1.positive h.1.reduced h.1.small) (make z (pos n) p r s) refl refl) h.1.holds))

    by : Decided (unsigned_abs z < 2 ^ 127) → Decided (1 ≤ n) → Decided (gcd (unsigned_abs z) n ≡ 1) → Decided ((unsigned_abs z < 2 ^ 127) × Parts Q z n)
    by (inl s) (inl l) (inl r) = let p : pos 1 ≤ℤ pos n = omega (arith, ints) in at p r s (d (make z (pos n) p r s))
    by (inr m) a b = inr (λ h. m h.0)
    by (inl s) (inr m) b = inr (λ h. m (let p = h.1.positive in omega (arith, ints)))
    by (inl s) (inl l) (inr m) = inr (λ h. m h.1.reduced)

denominator_is : (d : ℤ) → pos 1 ≤ℤ d → d ≡ pos (unsigned_abs d)
denominator_is (pos n) h = refl
denominator_is (negsuc n) h = absurd (omega (arith, ints))

decide_fraction : (Q : Frac → Type 0) → ((x : Frac) → Decided (Q x)) → Decided ((x : Frac) × IsSmall x.den × Q x)
unfolding make
decide_fraction Q d =
    decide_same found lost (decide_whole (2 ^ 127) Some (λ z. decide_below (2 ^ 127) (λ n. (unsigned_abs z < 2 ^ 127) × Parts Q z n) (λ n. decide_parts Q d z n)))
  where
    Some : ℤ → Type 0
    Some z = (n : ℕ) × (n < 2 ^ 127) × ((unsigned_abs z < 2 ^ 127) × Parts Q z n)

    found : (z : ℤ) × (unsigned_abs z < 2 ^ 127) × Some z → (x : Frac) × IsSmall x.den × Q x
    found h = let p = h.2.2.1 in (make h.0 (pos h.2.0) p.positive p.reduced p.small, h.2.1, p.holds)

    lost : (x : Frac) × IsSmall x.den × Q x → (z : ℤ) × (unsigned_abs z < 2 ^ 127) × Some z
    lost h =
        let x = h.0 in
        let p : pos 1 ≤ℤ pos (unsigned_abs x.den) = subst (λ y. pos 1 ≤ℤ y) (denominator_is x.den x.positive) x.positive in
        (x.num, x.small, (unsigned_abs x.den, h.1, (x.small, record { positive = p; reduced = x.reduced; small = x.small; holds = subst Q (same_parts x (make x.num (pos (unsigned_abs x.den)) p x.reduced x.small) refl (denominator_is x.den x.positive)) h.2 })))

-- ---- some item, and some vector
entry : ℕ → Frac → Item
entry k f = record { index = k; value = f }

decide_item : (Q : Item → Type 0) → ((i : Item) → Decided (Q i)) → Decided ((i : Item) × IsItem i × Q i)
unfolding entry
decide_item Q d = decide_same found lost (decide_below 8192 Some (λ k. decide_fraction (λ f. (is_zero (value f) ≡ false) × Q (entry k f)) (λ f. decide_both (decide_bool (is_zero (value f)) false) (d (entry k f)))))
  where
    Some : ℕ → Type 0
    Some k = (f : Frac) × IsSmall f.den × ((is_zero (value f) ≡ false) × Q (entry k f))

    found : (k : ℕ) × (k < 8192) × Some k → (i : Item) × IsItem i × Q i
    found h = (entry h.0 h.2.0, record { low = (let l = h.1 in omega arith); nonzero = h.2.2.0; small = h.2.1 }, h.2.2.1)

    lost : (i : Item) × IsItem i × Q i → (k : ℕ) × (k < 8192) × Some k
    lost h = (h.0.index, (let l = h.1.low in omega arith), (h.0.value, h.1.small, (h.1.nonzero, h.2)))

FitsBehind : ℕ → Item → Type 0
FitsBehind low i = (low ≤ i.index) × IsItem i

after : Item → ℕ
after i = suc i.index

decide_next_item : (low : ℕ) (Q : Item → Type 0) → ((i : Item) → Decided (Q i)) → Decided ((i : Item) × FitsBehind low i × Q i)
unfolding FitsBehind
decide_next_item low Q d = decide_same (λ h. (h.0, (h.2.0, h.1), h.2.1)) (λ h. (h.0, h.1.1, (h.1.0, h.2))) (decide_item (λ i. (low ≤ i.index) × Q i) (λ i. decide_both (decide_most low i.index) (d i)))

chain_items : (low : ℕ) (is : List Item) → Chain item_text FitsBehind after low is → AreItems low is
unfolding FitsBehind after
chain_items low [] h = tt
chain_items low (i ∷ is) h = (h.0.0, h.0.1, chain_items (suc i.index) is h.1)

items_chain : (low : ℕ) (is : List Item) → AreItems low is → Chain item_text FitsBehind after low is
unfolding FitsBehind after
items_chain low [] h = tt
items_chain low (i ∷ is) h = ((h.0, h.1), items_chain (suc i.index) is h.2)

decide_vector : (t : Bytes) → Decided ((s : Sparse) × IsVector s × (vector_text s ≡ t))
decide_vector t = decide_same found lost (decide_spaced item_text FitsBehind after decide_next_item (length t) 0 t)
  where
    found : Spaced item_text FitsBehind after (length t) 0 t → (s : Sparse) × IsVector s × (vector_text s ≡ t)
    found h = (record { items = h.list }, chain_items 0 h.list h.chain, h.is)

    lost : (s : Sparse) × IsVector s × (vector_text s ≡ t) → Spaced item_text FitsBehind after (length t) 0 t
    lost h = record {
      list = h.0.items;
      few = (let q = spaced_few item_text FitsBehind after h.0.items in let e = ap length h.2 in omega arith);
      chain = items_chain 0 h.0.items h.1;
      is = h.2;
    }

decide_shown : (t : Bytes) → Decided ((l : Liveness) × IsShown l × (shown_text l ≡ t))
decide_shown t = decide_same found lost (decide_either (decide_behind IsVector vector_text decide_vector (codes " dead") t) (decide_behind IsVector vector_text decide_vector (codes " live") t))
  where
    found : ((s : Sparse) × IsVector s × (codes " dead" ++ vector_text s ≡ t)) ⊎ ((s : Sparse) × IsVector s × (codes " live" ++ vector_text s ≡ t)) → (l : Liveness) × IsShown l × (shown_text l ≡ t)
    found (inl h) = (Dead h.0, h.1, h.2)
    found (inr h) = (Live h.0, h.1, h.2)

    kind : (l : Liveness) → IsShown l → shown_text l ≡ t → ((s : Sparse) × IsVector s × (codes " dead" ++ vector_text s ≡ t)) ⊎ ((s : Sparse) × IsVector s × (codes " live" ++ vector_text s ≡ t))
    kind (Dead s) h e = inl (s, h, e)
    kind (Live s) h e = inr (s, h, e)

    lost : (l : Liveness) × IsShown l × (shown_text l ≡ t) → ((s : Sparse) × IsVector s × (codes " dead" ++ vector_text s ≡ t)) ⊎ ((s : Sparse) × IsVector s × (codes " live" ++ vector_text s ≡ t))
    lost h = kind h.0 h.1 h.2

-- ---- some atom
FitsCoef : ℕ → ℤ → Type 0
FitsCoef low z = unsigned_abs z ≤ 2147483647

no_order : ℤ → ℕ
no_order z = 0

decide_coef : (low : ℕ) (Q : ℤ → Type 0) → ((z : ℤ) → Decided (Q z)) → Decided ((z : ℤ) × FitsCoef low z × Q z)
unfolding FitsCoef
decide_coef low Q d = decide_same (λ h. (h.0, (let l = h.1 in omega arith), h.2)) (λ h. (h.0, (let l = h.1 in omega arith), h.2)) (decide_whole 2147483648 Q d)

chain_coefs : (low : ℕ) (zs : List ℤ) → Chain signed_decimal FitsCoef no_order low zs → AllFit zs
unfolding FitsCoef no_order
chain_coefs low [] h = tt
chain_coefs low (z ∷ zs) h = (h.0, chain_coefs 0 zs h.1)

coefs_chain : (low : ℕ) (zs : List ℤ) → AllFit zs → Chain signed_decimal FitsCoef no_order low zs
unfolding FitsCoef no_order
coefs_chain low [] h = tt
coefs_chain low (z ∷ zs) h = (h.0, coefs_chain 0 zs h.1)

CoefsIn : Bytes → Type 0
CoefsIn t = Spaced signed_decimal FitsCoef no_order 10 0 t

HasCoefs : Bytes → ℤ → Type 0
HasCoefs t z = (r : Bytes) × ((32 ∷ signed_decimal z) ++ r ≡ t) × CoefsIn r

decide_atom : (t : Bytes) → Decided ((a : Atom) × IsAtom 10 a × (atom_text a ≡ t))
unfolding HasCoefs CoefsIn
decide_atom t = decide_same found lost (decide_whole 2147483649 (HasCoefs t) decide_coefs)
  where
    decide_coefs : (z : ℤ) → Decided (HasCoefs t z)
    decide_coefs z = by (decide_front (32 ∷ signed_decimal z) t)
      where
        at : (r : Bytes) → (32 ∷ signed_decimal z) ++ r ≡ t → Decided (CoefsIn r) → Decided (HasCoefs t z)
        at r e (inl s) = inl (r, e, s)
        at r e (inr n) = inr (λ h. n (subst CoefsIn (cancel (32 ∷ signed_decimal z) h.0 r (h.1 ∙ sym e)) h.2))

        by : Decided ((r : Bytes) × ((32 ∷ signed_decimal z) ++ r ≡ t)) → Decided (HasCoefs t z)
        by (inl h) = at h.0 h.1 (decide_spaced signed_decimal FitsCoef no_order decide_coef 10 0 h.0)
        by (inr n) = inr (λ h. n (h.0, h.1))

    found : (z : ℤ) × (unsigned_abs z < 2147483649) × HasCoefs t z → (a : Atom) × IsAtom 10 a × (atom_text a ≡ t)
    found h =
        let c = h.2.2 in (
          record { c0 = h.0; coefs = c.list },
          record { few = c.few; coefs_within = chain_coefs 0 c.list c.chain; constant_within = (let l = h.1 in omega arith) },
          ap (λ r. 32 ∷ (signed_decimal h.0 ++ r)) c.is ∙ h.2.1,
        )

    lost : (a : Atom) × IsAtom 10 a × (atom_text a ≡ t) → (z : ℤ) × (unsigned_abs z < 2147483649) × HasCoefs t z
    lost h = (
      h.0.c0,
      (let l = h.1.constant_within in omega arith),
      (spaced signed_decimal h.0.coefs, h.2, record { list = h.0.coefs; few = h.1.few; chain = coefs_chain 0 h.0.coefs h.1.coefs_within; is = refl }),
    )

-- ---- numbers of a line
InRange : ℕ → ℕ → ℕ → Type 0
InRange low high n = (low ≤ n) × (n ≤ high) × (n ≤ 64)

decide_number : (low high : ℕ) (t : Bytes) → Decided ((n : ℕ) × InRange low high n × (decimal n ≡ t))
unfolding InRange
decide_number low high t =
    decide_same (λ h. (h.0, (h.2.0, h.2.1.0, (let l = h.1 in omega arith)), h.2.1.1)) (λ h. (h.0, (let l = h.1.2 in omega arith), (h.1.0, (h.1.1, h.2))))
    (decide_below 65 (λ n. (low ≤ n) × ((n ≤ high) × (decimal n ≡ t))) (λ n. decide_both (decide_most low n) (decide_both (decide_most n high) (decide_bytes (decimal n) t))))

two_numbers : ℕ → ℕ → Bytes
two_numbers d n = decimal d ++ (codes " products " ++ decimal n)

decide_sizes : (k t : Bytes) → Decided ((d : ℕ) × (d < 4) × ((n : ℕ) × (n < 4) × ((1 ≤ n) × (k ++ two_numbers d n ≡ t))))
decide_sizes k t =
    decide_below 4 (λ d. (n : ℕ) × (n < 4) × ((1 ≤ n) × (k ++ two_numbers d n ≡ t))) (λ d. decide_below 4 (λ n. (1 ≤ n) × (k ++ two_numbers d n ≡ t)) (λ n. decide_both (decide_most 1 n) (decide_bytes (k ++ two_numbers d n) t)))

-- ---- offers
decide_then : (k : Bytes) (n : Then) (b : Bytes) → Decided ((t : Stage) × Takes k n b t)
unfolding InRange two_numbers
decide_then k (plain s) b = decide_same (λ e. (s, (e, refl))) (λ h. h.1.0) (decide_bytes k b)
decide_then k (vector f) b = decide_same (λ h. (f h.0, (h.0, h.1, h.2, refl))) (λ h. (h.1.0, h.1.1, h.1.2)) (decide_behind IsVector vector_text decide_vector k b)
decide_then k (shown f) b = decide_same (λ h. (f h.0, (h.0, h.1, h.2, refl))) (λ h. (h.1.0, h.1.1, h.1.2)) (decide_behind IsShown shown_text decide_shown k b)
decide_then k (atom f) b = decide_same (λ h. (f h.0, (h.0, h.1, h.2, refl))) (λ h. (h.1.0, h.1.1, h.1.2)) (decide_behind (IsAtom 10) atom_text decide_atom k b)
decide_then k (fraction f) b =
    decide_same (λ h. (f h.0, (h.0, h.1, h.2, refl))) (λ h. (h.1.0, h.1.1, h.1.2)) (decide_fraction (λ x. k ++ frac_text x ≡ b) (λ x. decide_bytes (k ++ frac_text x) b))
decide_then k (number low high f) b = decide_same (λ h. (f h.0, (h.0, h.1, h.2, refl))) (λ h. (h.1.0, h.1.1, h.1.2)) (decide_behind (InRange low high) decimal (decide_number low high) k b)
decide_then k (sizes f) b =
    decide_same (λ h. (f h.0 h.2.0, (h.0, h.2.0, ((let l = h.1 in omega arith), h.2.2.0, (let l = h.2.1 in omega arith)), h.2.2.1, refl)))
    (λ h. (h.1.0, (let l = h.1.2.0 in omega arith), (h.1.1, (let l = h.1.2.2 in omega arith), (h.1.2.1, h.1.3)))) (decide_sizes k b)

decide_any : (os : List Offer) (b : Bytes) → Decided ((t : Stage) × Any os b t)
decide_any [] b = inr (λ h. h.1)
decide_any (o ∷ os) b = by (decide_both (decide_bool o.guard true) (decide_then o.key o.next b)) (decide_any os b)
  where
    by : Decided ((o.guard ≡ true) × ((t : Stage) × Takes o.key o.next b t)) → Decided ((t : Stage) × Any os b t) → Decided ((t : Stage) × Any (o ∷ os) b t)
    by (inl h) d = inl (h.1.0, inl (h.0, h.1.1))
    by (inr n) (inl h) = inl (h.0, inr h.1)
    by (inr n) (inr m) = inr (λ h. no h.0 h.1)
      where
        no : (t : Stage) → Any (o ∷ os) b t → ⊥
        no t (inl g) = n (g.0, (t, g.1))
        no t (inr g) = m (t, g)

decide_end : (s : Stage) → ((c : Certificate) × Ends s c) ⊎ ((c : Certificate) → ¬ Ends s c)
decide_end Start = inr (λ c e. cc)
decide_end (Whole t) = inr (λ c e. cc)
decide_end (Version c) = inr (λ x e. cc)
decide_end (Sizes c v) = inr (λ x e. cc)
decide_end (Cases c d k) = inr (λ x e. cc)
decide_end (Heads h) = inr (λ x e. cc)
decide_end (Opened f) = inr (λ x e. cc)
decide_end (Locations f done last) = inr (λ x e. cc)
decide_end (Entries f fam done last) = inr (λ x e. cc)
decide_end (Edges f fam ents done live last) = inr (λ x e. cc)
decide_end (Between h n) = inr (λ x e. cc)
decide_end (Closed h n o) = inr (λ x e. cc)
decide_end (Main h n o found) = inr (λ x e. cc)
decide_end (End c) = inr (λ x e. cc)
decide_end (Done c) = inl (c, refl)

decide_step : (s : Stage) (b : Bytes) → ((t : Stage) × Step s b t) ⊎ ((t : Stage) → ¬ Step s b t)
decide_step s b = by (decide_any (offers s) b)
  where
    by : Decided ((t : Stage) × Any (offers s) b t) → ((t : Stage) × Step s b t) ⊎ ((t : Stage) → ¬ Step s b t)
    by (inl h) = inl h
    by (inr n) = inr (λ t h. n (t, h))

pub certificate_judge : Judge Step Ends
certificate_judge = record { step = decide_step; finish = decide_end }
