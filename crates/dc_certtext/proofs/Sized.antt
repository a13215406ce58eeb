-- The line with the degree and the number of factors, and numbers out of their range.
use Rattle.std.specs.Prelude.{◌≡◌, ◌⊎◌, ℕ, ◌≤◌, ◌<◌, ◌^◌, true, [], ◌∷◌, ◌++◌, codes, refl}
use Rattle.std.proofs.Common.{sym, ◌∙◌, ap, ap₂, arith, inl, inr}
use Rattle.std.specs.Fmt.{decimal}
use Rattle.dc_certtext.specs.declared.stage.Stage.{Stage}
use Rattle.dc_lines.specs.Bytes.{Bytes}
use Rattle.dc_lines.specs.Cuts.{until, onward}
use Rattle.dc_lines.proofs.Cutting.{until-append, onward-append, cut_whole, cancel}
use Rattle.dc_lines.proofs.Numerals.{digits-lack, decimal_digits, decimal_one}
use Rattle.dc_certtext.specs.Text.{sizes_line}
use Rattle.dc_certtext.specs.Offers.{number, offer}
use Rattle.dc_certtext.specs.Stages.{None_taken}

sizes_cut : (l rest front back : Bytes) (d n : ℕ) → l ≡ codes "degree " ++ rest → front ≡ until 32 rest → back ≡ onward 32 rest → d ≤ 3 → sizes_line d n ≡ l → (decimal d ≡ front) × (codes " products " ++ decimal n ≡ back)
sizes_cut l rest front back d n e a b h q =
    let r : decimal d ++ (codes " products " ++ decimal n) ≡ rest = cancel (codes "degree ") (decimal d ++ (codes " products " ++ decimal n)) rest (q ∙ e) in
    let k = digits-lack 32 (decimal d) (inl (omega arith)) (decimal_digits d (omega arith)) in
    (sym (until-append 32 (decimal d) (codes " products " ++ decimal n) k refl) ∙ ap (until 32) r ∙ sym a, sym (onward-append 32 (decimal d) (codes " products " ++ decimal n) k refl) ∙ ap (onward 32) r ∙ sym b)

pub no_degree : (l rest front back : Bytes) → l ≡ codes "degree " ++ rest → front ≡ until 32 rest → back ≡ onward 32 rest → ((m : ℕ) → m < 2 ^ 127 → ¬ (decimal m ≡ front)) → (d n : ℕ) → d ≤ 3 → 1 ≤ n → n ≤ 3 → ¬ (sizes_line d n ≡ l)
no_degree l rest front back e a b g d n h i j q = g d (omega arith) (sizes_cut l rest front back d n e a b h q).0

pub high_degree : (l rest front back : Bytes) (m : ℕ) → l ≡ codes "degree " ++ rest → front ≡ until 32 rest → back ≡ onward 32 rest → m < 2 ^ 127 → decimal m ≡ front → 3 < m → (d n : ℕ) → d ≤ 3 → 1 ≤ n → n ≤ 3 → ¬ (sizes_line d n ≡ l)
high_degree l rest front back m e a b f k g d n h i j q = let x = decimal_one d m (omega arith) f ((sizes_cut l rest front back d n e a b h q).0 ∙ sym k) in omega arith

pub no_products : (l rest front back : Bytes) → l ≡ codes "degree " ++ rest → front ≡ until 32 rest → back ≡ onward 32 rest → ((m : ℕ) → m < 2 ^ 127 → ¬ (codes " products " ++ decimal m ≡ back)) → (d n : ℕ) → d ≤ 3 → 1 ≤ n → n ≤ 3
    → ¬ (sizes_line d n ≡ l)
no_products l rest front back e a b g d n h i j q = g n (omega arith) (sizes_cut l rest front back d n e a b h q).1

pub far_products : (l rest front back : Bytes) (m : ℕ) → l ≡ codes "degree " ++ rest → front ≡ until 32 rest → back ≡ onward 32 rest → m < 2 ^ 127 → codes " products " ++ decimal m ≡ back → (m < 1) ⊎ (3 < m) → (d n : ℕ) → d ≤ 3 → 1 ≤ n → n ≤ 3
    → ¬ (sizes_line d n ≡ l)
far_products l rest front back m e a b f k g d n h i j q =
    let x = decimal_one n m (omega arith) f (cancel (codes " products ") (decimal n) (decimal m) ((sizes_cut l rest front back d n e a b h q).1 ∙ sym k)) in omega (arith, g)

pub sizes_are : (l rest front back : Bytes) (d n : ℕ) → l ≡ codes "degree " ++ rest → front ≡ until 32 rest → back ≡ onward 32 rest → decimal d ≡ front → codes " products " ++ decimal n ≡ back → sizes_line d n ≡ l
sizes_are l rest front back d n e a b h k = ap (λ x. codes "degree " ++ x) (ap₂ ◌++◌ (h ∙ a) (k ∙ b) ∙ cut_whole 32 rest) ∙ sym e

-- a number that is there, but not in its range
pub far_number : (k b : Bytes) (n low high : ℕ) (f : ℕ → Stage) → n < 2 ^ 127 → k ++ decimal n ≡ b → (n < low) ⊎ (high < n) → None_taken (offer true k (number low high f) ∷ []) b
far_number k b n low high f l e o t (inl h) = let x = decimal_one h.1.0 n (let y = h.1.1.2 in omega arith) l (cancel k (decimal h.1.0) (decimal n) (h.1.2 ∙ sym e)) in let y = h.1.1.0 in let z = h.1.1.1 in omega (arith, o)
far_number k b n low high f l e o t (inr h) = h
