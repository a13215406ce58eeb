-- Decimal numbers: their bytes, and that each number has one spelling.
use Rattle.std.specs.Prelude.{◌≡◌, ◌⊎◌, ℕ, zero, suc, ◌+◌, ◌-◌, ◌*◌, ◌/◌, ◌%◌, ◌^◌, ◌≤◌, ◌<◌, Bool, true, false, cond, eqb, ltb, List, [], ◌∷◌, ◌++◌, length, ℤ, pos, negsuc, neg_ℤ, unsigned_abs, refl}
use Rattle.std.proofs.Common.{sym, ◌∙◌, ap, ap₂, subst, arith, get_or, take, inl, inr, length-append}
use Rattle.std.specs.Fmt.{decimal, signed_decimal, digits, digits_onto, digit_glyph}
use Rattle.std.specs.Str.Parse.{digits_value}
use Rattle.std.proofs.lemmas.Fmt.{decimal_is_IsNumeral_wide, decimal_digit, decimal_step_wide, decimal_by_steps_wide}
use Rattle.std.proofs.lemmas.Str.Parse.{digits_value-take-le}
use Rattle.std.proofs.lemmas.List.{take_more, take_all}
use Rattle.dc_lines.specs.Bytes.{Bytes, spaced}
use Rattle.dc_lines.specs.Cuts.{Lacks}
use Rattle.dc_lines.proofs.Cutting.{lacks-append}

-- each byte is a digit
abbrev pub Digits : Bytes → Type 0
Digits [] = Unit {0}
Digits (x ∷ xs) = ((48 ≤ x) × (x ≤ 57)) × Digits xs

digits-append : (xs ys : Bytes) → Digits xs → Digits ys → Digits (xs ++ ys)
digits-append [] ys h k = k
digits-append (x ∷ xs) ys h k = (h.0, digits-append xs ys h.1 k)

pub digits-lack : (b : ℕ) (xs : Bytes) → (b < 48) ⊎ (57 < b) → Digits xs → Lacks b xs
digits-lack b [] o h = tt
digits-lack b (x ∷ xs) o h = ((λ e. omega (arith, o, h.0)), digits-lack b xs o h.1)

wide : (n : ℕ) → n < 2 ^ 127 → n < 10 ^ 64
wide n h = omega arith

-- ---- what a decimal number is made of
pub decimal_digits : (n : ℕ) → n < 2 ^ 127 → Digits (decimal n)
decimal_digits n h =
    decimal_by_steps_wide (λ m ds. Digits ds) (λ m k. ((omega arith, omega arith), tt)) (λ m ds k r. digits-append ds ((48 + m % 10) ∷ []) r ((omega arith, omega arith), tt)) n (wide n h)

pub decimal_some : (n : ℕ) → n < 2 ^ 127 → 0 < length (decimal n)
decimal_some n h = decimal_by_steps_wide (λ m ds. 0 < length ds) (λ m k. omega arith) (λ m ds k r. simp length-append (omega arith)) n (wide n h)

first-append : (xs ys : Bytes) → 0 < length xs → get_or (xs ++ ys) 0 0 ≡ get_or xs 0 0
first-append [] ys h = absurd (omega arith)
first-append (x ∷ xs) ys h = refl

pub record Leads (n : ℕ) (ds : Bytes) : Type 0 where
  pub some : 0 < length ds
  pub first : 0 < n → 48 < get_or ds 0 0

-- no leading zero
pub decimal_leads : (n : ℕ) → n < 2 ^ 127 → Leads n (decimal n)
decimal_leads n h = decimal_by_steps_wide Leads one more n (wide n h)
  where
    one : (m : ℕ) → m < 10 → Leads m ((48 + m) ∷ [])
    one m k = record { some = omega arith; first = λ p. omega arith }

    more : (m : ℕ) (ds : Bytes) → 10 ≤ m → Leads (m / 10) ds → Leads m (ds ++ ((48 + m % 10) ∷ []))
    more m ds k r = record { some = simp length-append (omega arith); first = λ p. rw (first-append ds ((48 + m % 10) ∷ []) r.some) (r.first (omega arith)) }

pub decimal_value : (n : ℕ) → n < 2 ^ 127 → digits_value 10 (decimal n) ≡ n
decimal_value n h = (decimal_is_IsNumeral_wide n (wide n h)).1

pub decimal_one : (m n : ℕ) → m < 2 ^ 127 → n < 2 ^ 127 → decimal m ≡ decimal n → m ≡ n
decimal_one m n h k e = sym (decimal_value m h) ∙ ap (digits_value 10) e ∙ decimal_value n k

-- one digit more
pub decimal_more : (n d : ℕ) → 1 ≤ n → d < 10 → 10 * n + d < 2 ^ 127 → decimal (10 * n + d) ≡ decimal n ++ ((48 + d) ∷ [])
decimal_more n d h k l =
    decimal_step_wide (10 * n + d) (omega arith) (wide (10 * n + d) l)
    ∙ ap₂ (λ a b. decimal a ++ ((48 + b) ∷ [])) (let q : (10 * n + d) / 10 ≡ n = omega arith in q) (let q : (10 * n + d) % 10 ≡ d = omega arith in q)

-- a number is at least the one that its first digits spell
pub decimal_front : (m n i : ℕ) → m < 2 ^ 127 → n < 10 ^ 64 → decimal n ≡ take i (decimal m) → n ≤ m
decimal_front m n i h k e =
    let a = digits_value-take-le 10 (decimal m) i (omega arith) in
    let b = decimal_value m h in
    let d : digits_value 10 (decimal n) ≡ n = (decimal_is_IsNumeral_wide n k).1 in
    let f = ap (digits_value 10) e in
    omega arith

-- ---- signed numbers

pub whole_lacks : (b : ℕ) (z : ℤ) → ((b < 45) ⊎ (57 < b)) ⊎ (b ≡ 47) → unsigned_abs z < 2 ^ 127 → Lacks b (signed_decimal z)
whole_lacks b (pos n) o h = digits-lack b (decimal n) (outside o) (decimal_digits n h)
  where
    outside : ((b < 45) ⊎ (57 < b)) ⊎ (b ≡ 47) → (b < 48) ⊎ (57 < b)
    outside (inl (inl x)) = inl (omega arith)
    outside (inl (inr x)) = inr x
    outside (inr x) = inl (omega arith)
whole_lacks b (negsuc n) o h = ((λ e. omega (arith, o)), digits-lack b (decimal (suc n)) (outside o) (decimal_digits (suc n) h))
  where
    outside : ((b < 45) ⊎ (57 < b)) ⊎ (b ≡ 47) → (b < 48) ⊎ (57 < b)
    outside (inl (inl x)) = inl (omega arith)
    outside (inl (inr x)) = inr x
    outside (inr x) = inl (omega arith)

first_digit : (n : ℕ) (r : Bytes) → n < 2 ^ 127 → decimal n ≡ 45 ∷ r → ⊥
first_digit n r h e = let d = subst Digits e (decimal_digits n h) in omega (arith, d.0)

pub whole_one : (y z : ℤ) → unsigned_abs y < 2 ^ 127 → unsigned_abs z < 2 ^ 127 → signed_decimal y ≡ signed_decimal z → y ≡ z
whole_one (pos m) (pos n) h k e = ap pos (decimal_one m n h k e)
whole_one (pos m) (negsuc n) h k e = absurd (first_digit m (decimal (suc n)) h e)
whole_one (negsuc m) (pos n) h k e = absurd (first_digit n (decimal (suc m)) k (sym e))
whole_one (negsuc m) (negsuc n) h k e = ap negsuc (let q = decimal_one (suc m) (suc n) h k (tail e) in omega arith)
  where
    tail : 45 ∷ decimal (suc m) ≡ 45 ∷ decimal (suc n) → decimal (suc m) ≡ decimal (suc n)
    tail e = cc

abbrev pub greatest : ℕ
greatest = 170141183460469231731687303715884105727

-- ---- the first digits of a word, as they are read
pub data Front (w : Bytes) (k n : ℕ) : Type 0 where
  none : k ≡ 0 → n ≡ 0 → Front w k n
  some : 0 < k → decimal n ≡ take k w → Front w k n

pub record IsRead (w : Bytes) (k n : ℕ) : Type 0 where
  pub front : Front w k n
  pub small : n < 2 ^ 127

pub read_start : (w : Bytes) → IsRead w 0 0
read_start w = record { front = none refl refl; small = omega arith }

pub read_digit : (w : Bytes) (k n x : ℕ) → k < length w → x ≡ get_or w k 0 → 48 ≤ x → x ≤ 57 → ¬ ((0 < k) × (n ≡ 0)) → n ≤ (greatest - (x - 48)) / 10 → IsRead w k n → IsRead w (k + 1) (10 * n + (x - 48))
read_digit w k n x h e a b z s r = record { front = some (omega arith) (by r.front); small = omega arith }
  where
    by : Front w k n → decimal (10 * n + (x - 48)) ≡ take (k + 1) w
    by (none p q) =
        ap decimal (let y : 10 * n + (x - 48) ≡ x - 48 = omega arith in y) ∙ decimal_digit (x - 48) (omega arith)
        ∙ ap (λ y. y ∷ []) ((let y : 48 + (x - 48) ≡ x = omega arith in y) ∙ e ∙ ap (λ j. get_or w j 0) p)
        ∙ sym (ap (λ j. take (j + 1) w) p ∙ take_more w 0 0 (omega arith))
    by (some p q) =
        decimal_more n (x - 48) (positive n z) (omega arith) (omega arith) ∙ ap₂ (λ l y. l ++ (y ∷ [])) q ((let y : 48 + (x - 48) ≡ x = omega arith in y) ∙ e) ∙ sym (take_more w k 0 h)
      where
        positive : (n : ℕ) → ¬ ((0 < k) × (n ≡ 0)) → 1 ≤ n
        positive zero z = absurd (z (p, refl))
        positive (suc n) z = omega arith

pub read_end : (w : Bytes) (k n : ℕ) → 0 < length w → length w ≤ k → IsRead w k n → decimal n ≡ w
read_end w k n s h r = by r.front
  where
    by : Front w k n → decimal n ≡ w
    by (none p q) = absurd (omega arith)
    by (some p q) = q ∙ take_all k w h

-- ---- why a word is refused
digit_there : (w : Bytes) (k : ℕ) → Digits w → k < length w → (48 ≤ get_or w k 0) × (get_or w k 0 ≤ 57)
digit_there [] k d h = absurd (omega arith)
digit_there (x ∷ w) zero d h = d.0
digit_there (x ∷ w) (suc k) d h = digit_there w k d.1 (omega arith)

pub refuse_empty : (w : Bytes) → length w ≡ 0 → (m : ℕ) → m < 2 ^ 127 → ¬ (decimal m ≡ w)
refuse_empty w h m l e = let a = decimal_some m l in let b = ap length e in omega arith

pub refuse_byte : (w : Bytes) (k x : ℕ) → k < length w → x ≡ get_or w k 0 → (x < 48) ⊎ (57 < x) → (m : ℕ) → m < 2 ^ 127 → ¬ (decimal m ≡ w)
refuse_byte w k x h q o m l e = let d = digit_there w k (subst Digits e (decimal_digits m l)) h in omega (arith, o, d.0, d.1)

pub refuse_zero : (w : Bytes) (k n : ℕ) → k < length w → 0 < k → n ≡ 0 → IsRead w k n → (m : ℕ) → m < 2 ^ 127 → ¬ (decimal m ≡ w)
refuse_zero w k n h p z r m l e = by r.front
  where
    zero_front : (w : Bytes) (k : ℕ) → 0 < k → k < length w → 48 ∷ [] ≡ take k w → (get_or w 0 0 ≡ 48) × (1 < length w)
    zero_front [] k p h e = absurd (omega arith)
    zero_front (x ∷ w) zero p h e = absurd (omega arith)
    zero_front (x ∷ w) (suc k) p h e = (ap (λ l. get_or l 0 0) (sym e), omega arith)

    by : Front w k n → ⊥
    by (none a b) = omega arith
    by (some a b) =
        let f = zero_front w k p h (sym (ap decimal z ∙ decimal_digit 0 (omega arith)) ∙ b) in
        let g = decimal_leads m l in
        let i = subst (λ v. 0 < m → 48 < get_or v 0 0) e g.first in
        let j = subst (λ v. 1 < length v) (sym e) f.1 in
        both m j i f.0
      where
        both : (m : ℕ) → 1 < length (decimal m) → (0 < m → 48 < get_or w 0 0) → get_or w 0 0 ≡ 48 → ⊥
        both zero j i q = let s = ap length (decimal_digit 0 (omega arith)) in omega arith
        both (suc m) j i q = let s = i (omega arith) in omega arith

pub refuse_large : (w : Bytes) (k n x : ℕ) → k < length w → x ≡ get_or w k 0 → 48 ≤ x → x ≤ 57 → ¬ ((0 < k) × (n ≡ 0)) → (greatest - (x - 48)) / 10 < n → IsRead w k n → (m : ℕ) → m < 2 ^ 127 → ¬ (decimal m ≡ w)
refuse_large w k n x h q a b z s r m l e = by r.front
  where
    by : Front w k n → ⊥
    by (none i j) = omega arith
    by (some i j) =
        let t = r.small in
        let f = decimal_front m (10 * n + (x - 48)) (k + 1) l (omega arith)
        (decimal_step_wide (10 * n + (x - 48)) (omega arith) (omega arith)
        ∙ ap₂ (λ a b. decimal a ++ ((48 + b) ∷ [])) (let y : (10 * n + (x - 48)) / 10 ≡ n = omega arith in y) (let y : (10 * n + (x - 48)) % 10 ≡ x - 48 = omega arith in y)
        ∙ ap₂ (λ l y. l ++ (y ∷ [])) j ((let y : 48 + (x - 48) ≡ x = omega arith in y) ∙ q) ∙ sym (take_more w k 0 h) ∙ ap (take (k + 1)) (sym e)) in
        omega arith

pub ruleset reading = (read_start, read_digit, read_end, refuse_empty, refuse_byte, refuse_zero, refuse_large)

-- ---- signed numbers, as they are read
pub whole_minus : (n : ℕ) (w r : Bytes) → 0 < n → decimal n ≡ r → w ≡ 45 ∷ r → signed_decimal (neg_ℤ (pos n)) ≡ w
whole_minus zero w r h e q = absurd (omega arith)
whole_minus (suc n) w r h e q = ap (λ l. 45 ∷ l) e ∙ sym q

pub refuse_minus : (w r : Bytes) → w ≡ 45 ∷ r → ((n : ℕ) → n < 2 ^ 127 → ¬ (decimal n ≡ r)) → (z : ℤ) → unsigned_abs z < 2 ^ 127 → ¬ (signed_decimal z ≡ w)
refuse_minus w r q k (pos n) h e = let d = subst Digits (e ∙ q) (decimal_digits n h) in omega (arith, d.0)
refuse_minus w r q k (negsuc n) h e = k (suc n) h (tail (e ∙ q))
  where
    tail : 45 ∷ decimal (suc n) ≡ 45 ∷ r → decimal (suc n) ≡ r
    tail e = cc

pub refuse_minus_zero : (w r : Bytes) (n : ℕ) → w ≡ 45 ∷ r → n ≡ 0 → decimal n ≡ r → (z : ℤ) → unsigned_abs z < 2 ^ 127 → ¬ (signed_decimal z ≡ w)
refuse_minus_zero w r n q i k (pos m) h e = let d = subst Digits (e ∙ q) (decimal_digits m h) in omega (arith, d.0)
refuse_minus_zero w r n q i k (negsuc m) h e = let f = decimal_one (suc m) n h (omega arith) (tail (e ∙ q) ∙ sym k) in omega arith
  where
    tail : 45 ∷ decimal (suc m) ≡ 45 ∷ r → decimal (suc m) ≡ r
    tail e = cc

pub refuse_plain : (w : Bytes) → ((r : Bytes) → ¬ (w ≡ 45 ∷ r)) → ((n : ℕ) → n < 2 ^ 127 → ¬ (decimal n ≡ w)) → (z : ℤ) → unsigned_abs z < 2 ^ 127 → ¬ (signed_decimal z ≡ w)
refuse_plain w k g (pos n) h e = g n h e
refuse_plain w k g (negsuc n) h e = k (decimal (suc n)) (sym e)

pub ruleset wholes = (whole_minus, refuse_minus, refuse_minus_zero, refuse_plain)

-- ---- numbers of any size lack a line feed
digit_kept : (n : ℕ) → n < 10 → ¬ (digit_glyph false n ≡ 10)
digit_kept n h e = by (ltb n 10) e
  where
    by : (t : Bool) → cond t (48 + n) (87 + n) ≡ 10 → ⊥
    by true q = omega arith
    by false q = omega arith

onto-lacks : (k n : ℕ) (acc : Bytes) → Lacks 10 acc → Lacks 10 (digits_onto k 10 false n acc)
onto-lacks zero n acc h = h
onto-lacks (suc k) n acc h = by (onto-lacks k (n / 10) (digit_glyph false (n % 10) ∷ acc) (digit_kept (n % 10) (omega arith), h)) (eqb (n / 10) 0)
  where
    by : Lacks 10 (digits_onto k 10 false (n / 10) (digit_glyph false (n % 10) ∷ acc)) → (t : Bool) → Lacks 10 (cond t (digit_glyph false (n % 10) ∷ acc) (digits_onto k 10 false (n / 10) (digit_glyph false (n % 10) ∷ acc)))
    by r true = (digit_kept (n % 10) (omega arith), h)
    by r false = r

pub number-lacks : (n : ℕ) → Lacks 10 (decimal n)
unfolding digits
number-lacks n = onto-lacks 64 n [] tt

pub signed-lacks : (z : ℤ) → Lacks 10 (signed_decimal z)
signed-lacks (pos n) = number-lacks n
signed-lacks (negsuc n) = ((λ e. omega arith), number-lacks (suc n))

pub numbers-lack : (zs : List ℤ) → Lacks 10 (spaced signed_decimal zs)
numbers-lack [] = tt
numbers-lack (z ∷ zs) = ((λ e. omega arith), lacks-append 10 (signed_decimal z) (spaced signed_decimal zs) (signed-lacks z) (numbers-lack zs))
