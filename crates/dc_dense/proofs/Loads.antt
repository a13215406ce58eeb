-- The starting table in one list.
use Rattle.std.proofs.Common.{◌≡◌, ℕ, zero, suc, ◌+◌, ◌*◌, ◌<◌, true, false, List, [], ◌∷◌, ◌++◌, length, refl, sym, ◌∙◌, ap, subst, arith, below_more, None}
use Rattle.std.proofs.Math.ListN.{length-append}
use Rattle.dc_math.specs.Rational.{ℚ}
use Rattle.dc_frac.specs.declared.Frac.{Frac}
use Rattle.dc_frac.specs.Value.{value}
use Rattle.dc_lp.specs.declared.Problem.{Problem}
use Rattle.dc_lp.specs.Problems.{columns}
use Rattle.dc_lp.specs.Tables as tables
use Rattle.dc_lp.specs.Tables.{made}
use Rattle.dc_lp.specs.Meanings.{Meaning, resting, start}
use Rattle.dc_dense.specs.Flat.{item, flat}
use Rattle.dc_start.specs.Starts.{width, start_value}
use Rattle.dc_dense.specs.Rows.{HasRows}
use Rattle.dc_dense.proofs.Indices.{index_below}
use Rattle.dc_dense.proofs.Links.{made-same}

-- ---- one number more in the list

item-append : (xs : List Frac) (v : Frac) (q : ℕ) → q < length xs → item (xs ++ v ∷ []) q ≡ item xs q
unfolding item
item-append [] v q lt = absurd (omega arith)
item-append (x ∷ xs) v zero lt = refl
item-append (x ∷ xs) v (suc q) lt = item-append xs v q (omega arith)

item-last : (xs : List Frac) (v : Frac) → item (xs ++ v ∷ []) (length xs) ≡ value v
unfolding item
item-last [] v = refl
item-last (x ∷ xs) v = item-last xs v

pub rows-start : (p : Problem) → HasRows p 0 0 []
rows-start p = record { long = omega arith; rows = λ i l. absurd (omega arith); part = λ k l. absurd (omega arith) }

before : (i k n w j : ℕ) → i < n → k < w → i * w + k < n * w + j
before i k n w j l m = grind (arith, index_below i k n w l m)

pub rows-more : (p : Problem) (n j : ℕ) (xs ys : List Frac) (v : Frac) → HasRows p n j xs → ys ≡ xs ++ v ∷ [] → value v ≡ start_value p n j → HasRows p n (j + 1) ys
rows-more p n j xs ys v h e f =
    let long : length xs ≡ n * width p + j = h.long in
    rw e (record {
      long = omega (arith, length-append xs (v ∷ []));
      rows = λ i l k m. item-append xs v (i * width p + k) (rw long (before i k n (width p) j l m)) ∙ h.rows i l k m;
      part = below_more (λ k. item (xs ++ v ∷ []) (n * width p + k) ≡ start_value p n k) j
          (λ k l. item-append xs v (n * width p + k) (omega arith) ∙ h.part k l)
          (ap (item (xs ++ v ∷ [])) (sym long) ∙ item-last xs v ∙ f);
    })

pub rows-next : (p : Problem) (n : ℕ) (xs : List Frac) → HasRows p n (width p) xs → HasRows p (n + 1) 0 xs
rows-next p n xs h =
    let long : length xs ≡ n * width p + width p = h.long in
    record {
      long = grind arith;
      rows = below_more (λ i. (k : ℕ) → k < width p → item xs (i * width p + k) ≡ start_value p i k) n h.rows h.part;
      part = λ k l. absurd (omega arith);
    }

-- the whole table
pub rows-all : (p : Problem) (xs : List Frac) → HasRows p (p.rows + 2) 0 xs → flat (p.rows + 2) (width p) xs ≡ (start p).rows
unfolding flat tables.start
rows-all p xs h = made-same (p.rows + 2) (λ i. made (width p) (λ k. item xs (i * width p + k))) (λ i. made (width p) (λ k. start_value p i k)) (λ i li. made-same (width p) (λ k. item xs (i * width p + k)) (λ k. start_value p i k) (λ k lk. h.rows i li k lk))

-- the meaning of what was loaded
pub loaded : (p : Problem) (xs : List Frac) (bs : List ℕ) → HasRows p (p.rows + 2) 0 xs → bs ≡ made p.rows (λ i. columns p + i)
    → ◌≡◌ {A = Meaning} (record { loaded = true; broken = false; ready = None; table = record { real = columns p; rows = flat (p.rows + 2) (width p) xs; basis = bs } }) (resting (start p))
unfolding tables.start
loaded p xs bs h e =
    let M : List (List ℚ) → List ℕ → Meaning = λ rs ks. record { loaded = true; broken = false; ready = None; table = record { real = columns p; rows = rs; basis = ks } } in
    ap (λ rs. M rs bs) (rows-all p xs h) ∙ ap (M (start p).rows) e

-- the same where n is the number of columns
pub loaded-at : (p : Problem) (n : ℕ) (xs : List Frac) (bs : List ℕ) → n ≡ columns p → HasRows p (p.rows + 2) 0 xs → bs ≡ made p.rows (λ i. n + i)
    → ◌≡◌ {A = Meaning} (record { loaded = true; broken = false; ready = None; table = record { real = n; rows = flat (p.rows + 2) (n + p.rows + 1) xs; basis = bs } }) (resting (start p))
loaded-at p n xs bs e h k =
    subst (λ m. bs ≡ made p.rows (λ i. m + i) → ◌≡◌ {A = Meaning} (record { loaded = true; broken = false; ready = None; table = record { real = m; rows = flat (p.rows + 2) (m + p.rows + 1) xs; basis = bs } }) (resting (start p)))
    (sym e) (loaded p xs bs h) k

pub ruleset loads = (rows-start, rows-more, rows-next)
