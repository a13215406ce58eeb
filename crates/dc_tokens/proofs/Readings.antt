-- A text has one reading.
use Rattle.std.proofs.Common.{◌≡◌, ℕ, zero, suc, ◌+◌, ◌<◌, ◌≤◌, ◌⊎◌, inl, inr, Bool, true, false, nat_eq, nat_lt, nat_le, List, [], ◌∷◌, length, take, drop, get_or, Option, Some, None, refl, ap, sym, ◌∙◌, subst, arith, length-drop}
use Rattle.std.proofs.lemmas.Bool.Decides.{nat_tests}
use Rattle.std.proofs.lemmas.Bool.{ltb-true}
use Rattle.std.proofs.lemmas.Option.{same_Some}
use Rattle.dc_tokens.specs.declared.token.TokenKind.{TokenKind}
use Rattle.dc_tokens.specs.declared.token.TokenKind.TheVariants as k
use Rattle.dc_tokens.specs.declared.token.Token.{Token}
use Rattle.dc_tokens.specs.declared.token.LexFault.{LexFault}
use Rattle.dc_tokens.specs.declared.token.LexFault.TheVariants.{NotAscii, LiteralTooWide}
use Rattle.dc_tokens.specs.Spelling.{kind_of, value_of, number_value}
use Rattle.dc_tokens.specs.Pieces.{is_separator, NoToken, Longest, BeginsComment, is_comment_byte, IsCommentFront, IsComment, IsBadComment, Piece, separator, comment, token, Wrong, not_ascii, not_ascii_in_comment, bad_character, too_wide}
use Rattle.dc_tokens.specs.Texts.{with_token, Tokens, end, piece, Fails, here, after, HasOneReading}
use Rattle.dc_tokens.proofs.Front.{no_sign, sign_text}
use Rattle.dc_tokens.proofs.Fronts.{comment_at, bad_comment_at}

clash : {A : Type 0} {b : Bool} → b ≡ true → b ≡ false → A
clash p q = absurd (let e : true ≡ false = sym p ∙ q in cc)

-- ---- which bytes begin no token

empty_kind : kind_of [] ≡ None
unfolding kind_of
empty_kind = refl

is_high : ℕ → Bool
is_high b = nat_le 128 b

high_kind : (b : ℕ) → 128 ≤ b → (v : List ℕ) → kind_of (b ∷ v) ≡ None
unfolding is_high
high_kind b h v = sign_text b v (grind (arith, nat_tests)) (grind (arith, nat_tests)) ∙ no_sign is_high b (grind (arith, nat_tests)) refl v

separator_kind : (b : ℕ) → is_separator b ≡ true → (v : List ℕ) → kind_of (b ∷ v) ≡ None
separator_kind b h v = sign_text b v (grind (arith, nat_tests)) (grind (arith, nat_tests)) ∙ no_sign is_separator b h refl v

is_slash : ℕ → Bool
is_slash b = nat_eq b 47

slash_kind : (v : List ℕ) → kind_of (47 ∷ v) ≡ None
unfolding is_slash
slash_kind v = sign_text 47 v refl refl ∙ no_sign is_slash 47 refl refl v

-- ---- a token takes a byte, and a text that begins with such a byte begins with no token

pub longest_some : (bs : List ℕ) (n : ℕ) (kind : TokenKind) → Longest bs n kind → 0 < n
longest_some bs zero kind l = absurd (let e : None ≡ Some kind = sym empty_kind ∙ l.spelled in cc)
longest_some bs (suc n) kind l = omega arith

no_longest : {A : Type 0} (b : ℕ) (w : List ℕ) (n : ℕ) (kind : TokenKind) → ((v : List ℕ) → kind_of (b ∷ v) ≡ None) → Longest (b ∷ w) n kind → A
no_longest b w zero kind h l = absurd (let e : None ≡ Some kind = sym empty_kind ∙ l.spelled in cc)
no_longest b w (suc n) kind h l = absurd (let e : None ≡ Some kind = sym (h (take n w)) ∙ l.spelled in cc)

one_longest : (bs : List ℕ) (n m : ℕ) (j k : TokenKind) → Longest bs n j → Longest bs m k → n ≡ m
one_longest bs n m j k l h = omega (arith, not_less l h, not_less h l)
  where
    not_less : {n m : ℕ} {j k : TokenKind} → Longest bs n j → Longest bs m k → n < m → ⊥
    not_less {n} {m} {j} {k} l h g = let e : None ≡ Some k = sym (l.longest m g h.within) ∙ h.spelled in cc

one_kind : (bs : List ℕ) (n m : ℕ) (j k : TokenKind) → n ≡ m → Longest bs n j → Longest bs m k → j ≡ k
one_kind bs n m j k e l h = same_Some _ _ (sym l.spelled ∙ (ap (λ i. kind_of (take i bs)) e ∙ h.spelled))

-- a comment's first byte
slash_first : (bs : List ℕ) → BeginsComment bs → (w : List ℕ) × (bs ≡ 47 ∷ w)
slash_first [] h = cc
slash_first (b ∷ w) h = (w, let e : b ≡ 47 = go w h in cc)
  where
    go : (w : List ℕ) → take 2 (b ∷ w) ≡ 47 ∷ 47 ∷ [] → b ≡ 47
    go [] h = cc
    go (c ∷ w) h = cc

comment_token : {A : Type 0} (bs : List ℕ) (n : ℕ) (kind : TokenKind) → BeginsComment bs → Longest bs n kind → A
comment_token bs n kind h l =
    let s = slash_first bs h in
    no_longest 47 s.0 n kind slash_kind (subst (λ v. Longest v n kind) s.1 l)

-- where a comment begins, its byte
first_is : (b : ℕ) (w : List ℕ) → BeginsComment (b ∷ w) → b ≡ 47
first_is b w h = let s = slash_first (b ∷ w) h in cc

separator_comment : {A : Type 0} (b : ℕ) (w : List ℕ) → is_separator b ≡ true → BeginsComment (b ∷ w) → A
separator_comment b w h g = clash (subst (λ x. is_separator x ≡ true) (first_is b w g) h) refl

high_comment : {A : Type 0} (b : ℕ) (w : List ℕ) → 128 ≤ b → BeginsComment (b ∷ w) → A
high_comment b w h g = absurd (omega (arith, first_is b w g))

high_separator : {A : Type 0} (b : ℕ) → 128 ≤ b → is_separator b ≡ true → A
high_separator b h g = absurd (omega (arith, low))
  where
    low : b < 128
    low = grind (arith, nat_tests)

-- a byte inside a comment neither ends it nor is wrong in it
inside_feed : {A : Type 0} (b : ℕ) → is_comment_byte b ≡ true → b ≡ 10 → A
inside_feed b h e = clash (subst (λ x. is_comment_byte x ≡ true) e h) refl

inside_high : {A : Type 0} (b : ℕ) → is_comment_byte b ≡ true → 128 ≤ b → A
inside_high b h g = absurd (omega (arith, low))
  where
    low : b < 128
    low = grind (arith, nat_tests)

one_comment : (bs : List ℕ) (n m : ℕ) → IsComment bs n → IsComment bs m → n ≡ m
one_comment bs n m f g = omega (arith, not_less n m f g, not_less m n g f)
  where
    not_less : (n m : ℕ) → IsComment bs n → IsComment bs m → n < m → ⊥
    not_less n m f g l = inside_feed (get_or bs n 0) (g.front.inside n f.front.long l) (f.ends (omega (arith, g.front.within)))

one_bad_comment : (bs : List ℕ) (n m : ℕ) → IsBadComment bs n → IsBadComment bs m → n ≡ m
one_bad_comment bs n m f g = omega (arith, not_less n m f g, not_less m n g f)
  where
    not_less : (n m : ℕ) → IsBadComment bs n → IsBadComment bs m → n < m → ⊥
    not_less n m f g l = inside_high (get_or bs n 0) (g.front.inside n f.front.long l) f.high

comment_or_bad : (bs : List ℕ) (n m : ℕ) → IsComment bs n → IsBadComment bs m → ⊥
comment_or_bad bs n m f g = equal (omega (arith, less, more))
  where
    less : n < m → ⊥
    less l = inside_feed (get_or bs n 0) (g.front.inside n f.front.long l) (f.ends (omega (arith, g.front.within)))

    more : m < n → ⊥
    more l = inside_high (get_or bs m 0) (f.front.inside m g.front.long l) g.high

    equal : n ≡ m → ⊥
    equal e = absurd (omega (arith, g.high, g.more, ap (λ i. get_or bs i 0) e, f.ends))

-- ---- one piece, or one fault

abbrev made : ℕ → List ℕ → ℕ → TokenKind → Option Token
made at bs n kind = Some (record { kind = kind; at = at; end = at + n; value = value_of kind (take n bs) })

one_piece : {at n m : ℕ} {bs : List ℕ} {o p : Option Token} → Piece at bs o n → Piece at bs p m → (o ≡ p) × (n ≡ m)
one_piece (separator h) (separator g) = (refl, refl)
one_piece (separator {b = b} {bs = w} h) (comment g) = separator_comment b w h g.front.slashes
one_piece (separator {b = b} {bs = w} h) (token {n = n} {kind = kind} l v) = no_longest b w n kind (separator_kind b h) l
one_piece (comment g) (separator {b = b} {bs = w} h) = separator_comment b w h g.front.slashes
one_piece (comment {n = n} {bs = bs} h) (comment {n = m} g) = (refl, one_comment bs n m h g)
one_piece (comment {bs = bs} h) (token {n = n} {kind = kind} l v) = comment_token bs n kind h.front.slashes l
one_piece (token {n = n} {kind = kind} l v) (separator {b = b} {bs = w} h) = no_longest b w n kind (separator_kind b h) l
one_piece (token {n = n} {bs = bs} {kind = kind} l v) (comment h) = comment_token bs n kind h.front.slashes l
one_piece (token {at = at} {n = n} {bs = bs} {kind = j} l v) (token {n = m} {kind = k} h w) =
    let e = one_longest bs n m j k l h in
    (ap (λ i. made at bs i j) e ∙ ap (made at bs m) (one_kind bs n m j k e l h), e)

one_wrong : {at : ℕ} {bs : List ℕ} {f g : LexFault} → Wrong at bs f → Wrong at bs g → f ≡ g
one_wrong (not_ascii h) (not_ascii g) = refl
one_wrong (not_ascii {b = b} {bs = w} h) (not_ascii_in_comment g) = high_comment b w h g.front.slashes
one_wrong (not_ascii h) (bad_character l s c n) = absurd (omega arith)
one_wrong (not_ascii {b = b} {bs = w} h) (too_wide {n = n} l v) = no_longest b w n k.Number (high_kind b h) l
one_wrong (not_ascii_in_comment g) (not_ascii {b = b} {bs = w} h) = high_comment b w h g.front.slashes
one_wrong (not_ascii_in_comment {at = at} {n = n} {bs = bs} g) (not_ascii_in_comment {n = m} h) = ap (λ i. NotAscii (at + i)) (one_bad_comment bs n m g h)
one_wrong (not_ascii_in_comment g) (bad_character l s c n) = absurd (c g.front.slashes)
one_wrong (not_ascii_in_comment {bs = bs} g) (too_wide {n = n} l v) = comment_token bs n k.Number g.front.slashes l
one_wrong (bad_character l s c n) (not_ascii h) = absurd (omega arith)
one_wrong (bad_character l s c n) (not_ascii_in_comment g) = absurd (c g.front.slashes)
one_wrong (bad_character l s c n) (bad_character l' s' c' n') = refl
one_wrong (bad_character l s c n) (too_wide {n = m} g v) = absurd (let e : None ≡ Some k.Number = sym (n m g.within) ∙ g.spelled in cc)
one_wrong (too_wide {n = n} l v) (not_ascii {b = b} {bs = w} h) = no_longest b w n k.Number (high_kind b h) l
one_wrong (too_wide {n = n} {bs = bs} l v) (not_ascii_in_comment g) = comment_token bs n k.Number g.front.slashes l
one_wrong (too_wide {n = m} g v) (bad_character l s c n) = absurd (let e : None ≡ Some k.Number = sym (n m g.within) ∙ g.spelled in cc)
one_wrong (too_wide l v) (too_wide h w) = refl

piece_or_wrong : {at n : ℕ} {bs : List ℕ} {o : Option Token} {f : LexFault} → Piece at bs o n → Wrong at bs f → ⊥
piece_or_wrong (separator {b = b} h) (not_ascii g) = high_separator b g h
piece_or_wrong (separator {b = b} {bs = w} h) (not_ascii_in_comment g) = separator_comment b w h g.front.slashes
piece_or_wrong (separator h) (bad_character l s c n) = clash h s
piece_or_wrong (separator {b = b} {bs = w} h) (too_wide {n = n} l v) = no_longest b w n k.Number (separator_kind b h) l
piece_or_wrong (comment h) (not_ascii {b = b} {bs = w} g) = high_comment b w g h.front.slashes
piece_or_wrong (comment {n = n} {bs = bs} h) (not_ascii_in_comment {n = m} g) = comment_or_bad bs n m h g
piece_or_wrong (comment h) (bad_character l s c n) = c h.front.slashes
piece_or_wrong (comment {bs = bs} h) (too_wide {n = n} l v) = comment_token bs n k.Number h.front.slashes l
piece_or_wrong (token {n = n} {kind = kind} l v) (not_ascii {b = b} {bs = w} h) = no_longest b w n kind (high_kind b h) l
piece_or_wrong (token {n = n} {bs = bs} {kind = kind} l v) (not_ascii_in_comment g) = comment_token bs n kind g.front.slashes l
piece_or_wrong (token {n = m} {kind = kind} g v) (bad_character l s c n) = let e : None ≡ Some kind = sym (n m g.within) ∙ g.spelled in cc
piece_or_wrong (token {n = n} {bs = bs} {kind = kind} l v) (too_wide {n = m} h w) =
    let e = one_longest bs n m kind k.Number l h in
    let i : kind ≡ k.Number = one_kind bs n m kind k.Number e l h in
    let u : value_of kind (take n bs) ≡ number_value (take m bs) = ap (λ j. value_of j (take n bs)) i ∙ ap (λ j. number_value (take j bs)) e in
    absurd (omega arith)

-- ---- one list of tokens, or one first fault

not_wrong_end : {at : ℕ} {f : LexFault} → Wrong at [] f → ⊥
not_wrong_end (not_ascii_in_comment g) = absurd (omega (arith, g.more))
not_wrong_end (too_wide {n = n} l v) = absurd (omega (arith, l.within, longest_some [] n k.Number l))

pub piece_some : {at n : ℕ} {bs : List ℕ} {o : Option Token} → Piece at bs o n → (0 < n) × (n ≤ length bs)
piece_some (separator h) = (omega arith, omega arith)
piece_some (comment g) = (omega (arith, g.front.long), g.front.within)
piece_some (token {n = n} {bs = bs} {kind = kind} l v) = (longest_some bs n kind l, l.within)

one_list : {at : ℕ} {bs : List ℕ} {ts us : List Token} → Tokens at bs ts → Tokens at bs us → ts ≡ us
one_list end end = refl
one_list end (piece l p d) = absurd (omega arith)
one_list (piece l p d) end = absurd (omega arith)
one_list (piece {at} {n} {bs} {found = o} {ts} l p d) (piece {n = m} {found = o'} {ts = us} h q e) =
    let s = one_piece p q in
    let r : ts ≡ us = one_list d (subst (λ i. Tokens (at + i) (drop i bs) us) (sym s.1) e) in
    ap (λ x. with_token x ts) s.0 ∙ ap (with_token o') r

one_fault : {at : ℕ} {bs : List ℕ} {f g : LexFault} → Fails at bs f → Fails at bs g → f ≡ g
one_fault (here w) (here v) = one_wrong w v
one_fault (here w) (after p d) = absurd (piece_or_wrong p w)
one_fault (after p d) (here w) = absurd (piece_or_wrong p w)
one_fault (after {at} {n} {bs} p d) (after {n = m} {f = g} q e) =
    let s = one_piece p q in
    one_fault d (subst (λ i. Fails (at + i) (drop i bs) g) (sym s.1) e)

not_both : {at : ℕ} {bs : List ℕ} {ts : List Token} {f : LexFault} → Tokens at bs ts → Fails at bs f → ⊥
not_both end (here w) = not_wrong_end w
not_both end (after p d) = absurd (omega (arith, (piece_some p).0, (piece_some p).1))
not_both (piece l p d) (here w) = piece_or_wrong p w
not_both (piece {at} {n} {bs} l p d) (after {n = m} {f = f} q e) =
    let s = one_piece p q in
    not_both d (subst (λ i. Fails (at + i) (drop i bs) f) (sym s.1) e)

-- ---- there is a reading

data Front (at : ℕ) (bs : List ℕ) : Type 0 where
  is_piece : {n : ℕ} {o : Option Token} → Piece at bs o n → Front at bs
  is_wrong : {f : LexFault} → Wrong at bs f → Front at bs

data Cut (bs : List ℕ) : Type 0 where
  is_token : {n : ℕ} {kind : TokenKind} → Longest bs n kind → Cut bs
  is_none : NoToken bs → Cut bs

same_or_above : (n m : ℕ) → n ≤ m → (m ≡ n) ⊎ (suc n ≤ m)
same_or_above zero zero h = inl refl
same_or_above zero (suc m) h = inr (omega arith)
same_or_above (suc n) zero h = absurd (omega arith)
same_or_above (suc n) (suc m) h = elim (same_or_above n m (omega arith)) [ inl e ↦ inl (ap suc e) | inr g ↦ inr (omega arith) ]

-- no front of n bytes or more is a token
cut_below : (bs : List ℕ) (n : ℕ) → n ≤ suc (length bs) → ((m : ℕ) → n ≤ m → m ≤ length bs → kind_of (take m bs) ≡ None) → Cut bs
cut_below bs zero l h = is_none (λ m g. h m (omega arith) g)
cut_below bs (suc n) l h = go (kind_of (take n bs)) refl (cut_below bs n (omega arith))
  where
    more : kind_of (take n bs) ≡ None → (m : ℕ) → (m ≡ n) ⊎ (suc n ≤ m) → m ≤ length bs → kind_of (take m bs) ≡ None
    more e m (inl q) i = ap (λ j. kind_of (take j bs)) q ∙ e
    more e m (inr q) i = h m q i

    go : (o : Option TokenKind) → kind_of (take n bs) ≡ o → (((m : ℕ) → n ≤ m → m ≤ length bs → kind_of (take m bs) ≡ None) → Cut bs) → Cut bs
    go (Some kind) e again = is_token (record { within = omega arith; spelled = e; longest = h })
    go None e again = again (λ m g i. more e m (same_or_above n m g) i)

cut_of : (bs : List ℕ) → Cut bs
cut_of bs = cut_below bs (suc (length bs)) (omega arith) (λ m g i. absurd (omega arith))

-- ---- as far as a comment's front goes

record Stops (bs : List ℕ) (n : ℕ) : Type 0 where
  front : IsCommentFront bs n
  stops : n < length bs → is_comment_byte (get_or bs n 0) ≡ false

not_below : (n m : ℕ) → nat_lt n m ≡ false → n < m → ⊥
not_below n m h g = grind (arith, nat_tests)

one_more : (bs : List ℕ) (n : ℕ) → IsCommentFront bs n → n < length bs → is_comment_byte (get_or bs n 0) ≡ true → IsCommentFront bs (suc n)
one_more bs n h l e = record {
  slashes = h.slashes;
  long = omega (arith, h.long);
  within = omega arith;
  inside = λ i g j. go i g (same_or_above i n (omega arith));
}
  where
    go : (i : ℕ) → 2 ≤ i → (n ≡ i) ⊎ (suc i ≤ n) → is_comment_byte (get_or bs i 0) ≡ true
    go i g (inl q) = ap (λ j. is_comment_byte (get_or bs j 0)) (sym q) ∙ e
    go i g (inr q) = h.inside i g q

comment_end : (f : ℕ) (bs : List ℕ) (n : ℕ) → IsCommentFront bs n → length bs ≤ f + n → (m : ℕ) × Stops bs m
comment_end zero bs n h l = (n, record { front = h; stops = λ g. absurd (omega arith) })
comment_end (suc f) bs n h l = go (nat_lt n (length bs)) refl (is_comment_byte (get_or bs n 0)) refl (λ g. comment_end f bs (suc n) g (omega arith))
  where
    go : (s : Bool) → nat_lt n (length bs) ≡ s → (t : Bool) → is_comment_byte (get_or bs n 0) ≡ t → (IsCommentFront bs (suc n) → (m : ℕ) × Stops bs m) → (m : ℕ) × Stops bs m
    go false e t d again = (n, record { front = h; stops = λ g. absurd (not_below n (length bs) e g) })
    go true e false d again = (n, record { front = h; stops = λ g. d })
    go true e true d again = again (one_more bs n h (ltb-true n (length bs) e) d)

feed_or_not : (b : ℕ) → (b ≡ 10) ⊎ (b ≡ 10 → ⊥)
feed_or_not b = go (nat_eq b 10) refl
  where
    go : (t : Bool) → nat_eq b 10 ≡ t → (b ≡ 10) ⊎ (b ≡ 10 → ⊥)
    go true e = inl (grind (arith, nat_tests))
    go false e = inr (λ h. grind (arith, nat_tests))

comment_front : (at : ℕ) (bs : List ℕ) (n : ℕ) → Stops bs n → Front at bs
comment_front at bs n h = go (nat_lt n (length bs)) refl (feed_or_not (get_or bs n 0))
  where
    go : (s : Bool) → nat_lt n (length bs) ≡ s → (get_or bs n 0 ≡ 10) ⊎ (get_or bs n 0 ≡ 10 → ⊥) → Front at bs
    go false e f = is_piece (comment_at at bs n h.front (λ l. absurd (not_below n (length bs) e l)))
    go true e (inl f) = is_piece (comment_at at bs n h.front (λ l. f))
    go true e (inr f) = is_wrong (bad_comment_at at bs n h.front (ltb-true n (length bs) e) (h.stops (ltb-true n (length bs) e)) f)

-- ---- what stands at the front

begins_or_not : (b : ℕ) (w : List ℕ) → BeginsComment (b ∷ w) ⊎ (BeginsComment (b ∷ w) → ⊥)
begins_or_not b [] = inr (λ h. cc)
begins_or_not b (c ∷ w) = go (nat_eq b 47) refl (nat_eq c 47) refl
  where
    equal : (a : ℕ) → nat_eq a 47 ≡ true → a ≡ 47
    equal a h = grind (arith, nat_tests)

    differ : (a : ℕ) → nat_eq a 47 ≡ false → a ≡ 47 → ⊥
    differ a h e = grind (arith, nat_tests)

    go : (s : Bool) → nat_eq b 47 ≡ s → (t : Bool) → nat_eq c 47 ≡ t → BeginsComment (b ∷ c ∷ w) ⊎ (BeginsComment (b ∷ c ∷ w) → ⊥)
    go true e true d = inl (ap (λ x. x ∷ c ∷ []) (equal b e) ∙ ap (λ x. 47 ∷ x ∷ []) (equal c d))
    go true e false d = inr (λ h. differ c d (let k : c ≡ 47 = cc in k))
    go false e t d = inr (λ h. differ b e (let k : b ≡ 47 = cc in k))

two_in : (b : ℕ) (w : List ℕ) → BeginsComment (b ∷ w) → 2 ≤ length (b ∷ w)
two_in b [] h = cc
two_in b (c ∷ w) h = omega arith

starts_comment : (b : ℕ) (w : List ℕ) → BeginsComment (b ∷ w) → IsCommentFront (b ∷ w) 2
starts_comment b w h = record { slashes = h; long = omega arith; within = two_in b w h; inside = λ i g j. absurd (omega arith) }

low_byte : (b : ℕ) → nat_lt b 128 ≡ true → b < 128
low_byte b h = grind (arith, nat_tests)

high_of : (b : ℕ) → nat_lt b 128 ≡ false → 128 ≤ b
high_of b h = grind (arith, nat_tests)

-- only a number has a value
wide_token : (at : ℕ) (bs : List ℕ) (n : ℕ) (kind : TokenKind) → Longest bs n kind → 2147483647 < value_of kind (take n bs) → Wrong at bs (LiteralTooWide at)
wide_token at bs n k.Number l h = too_wide l h
wide_token at bs n _ l h = absurd (omega arith)

token_front : (at : ℕ) (bs : List ℕ) (n : ℕ) (kind : TokenKind) → Longest bs n kind → Front at bs
token_front at bs n kind l = go (nat_le (value_of kind (take n bs)) 2147483647) refl
  where
    small : (v : ℕ) → nat_le v 2147483647 ≡ true → v ≤ 2147483647
    small v h = grind (arith, nat_tests)

    large : (v : ℕ) → nat_le v 2147483647 ≡ false → 2147483647 < v
    large v h = grind (arith, nat_tests)

    go : (t : Bool) → nat_le (value_of kind (take n bs)) 2147483647 ≡ t → Front at bs
    go true e = is_piece (token l (small (value_of kind (take n bs)) e))
    go false e = is_wrong (wide_token at bs n kind l (large (value_of kind (take n bs)) e))

front_of : (at : ℕ) (b : ℕ) (w : List ℕ) → Front at (b ∷ w)
front_of at b w = go (nat_lt b 128) refl (is_separator b) refl (begins_or_not b w) (cut_of (b ∷ w))
  where
    go : (s : Bool) → nat_lt b 128 ≡ s → (t : Bool) → is_separator b ≡ t → BeginsComment (b ∷ w) ⊎ (BeginsComment (b ∷ w) → ⊥) → Cut (b ∷ w) → Front at (b ∷ w)
    go false e t d c l = is_wrong (not_ascii (high_of b e))
    go true e true d c l = is_piece (separator d)
    go true e false d (inl c) l = let h = comment_end (length (b ∷ w)) (b ∷ w) 2 (starts_comment b w c) (omega arith) in comment_front at (b ∷ w) h.0 h.1
    go true e false d (inr c) (is_token {n = n} {kind = kind} l) = token_front at (b ∷ w) n kind l
    go true e false d (inr c) (is_none l) = is_wrong (bad_character (low_byte b e) d c l)

some_reading : (f at : ℕ) (bs : List ℕ) → length bs ≤ f → ((ts : List Token) × Tokens at bs ts) ⊎ ((g : LexFault) × Fails at bs g)
some_reading f at [] l = inl ([], end)
some_reading zero at (b ∷ w) l = absurd (omega arith)
some_reading (suc f) at (b ∷ w) l = go (front_of at b w) (some_reading f)
  where
    on : {n : ℕ} {o : Option Token} → Piece at (b ∷ w) o n → ((ts : List Token) × Tokens (at + n) (drop n (b ∷ w)) ts) ⊎ ((g : LexFault) × Fails (at + n) (drop n (b ∷ w)) g)
        → ((ts : List Token) × Tokens at (b ∷ w) ts) ⊎ ((g : LexFault) × Fails at (b ∷ w) g)
    on {o = o} p (inl r) = inl (with_token o r.0, piece (omega arith) p r.1)
    on p (inr r) = inr (r.0, after p r.1)

    go : Front at (b ∷ w) → ((at : ℕ) (bs : List ℕ) → length bs ≤ f → ((ts : List Token) × Tokens at bs ts) ⊎ ((g : LexFault) × Fails at bs g))
        → ((ts : List Token) × Tokens at (b ∷ w) ts) ⊎ ((g : LexFault) × Fails at (b ∷ w) g)
    go (is_wrong {f = g} h) again = inr (g, here h)
    go (is_piece {n = n} {o = o} p) again = on p (again (at + n) (drop n (b ∷ w)) (omega (arith, length-drop n (b ∷ w), (piece_some p).0)))

pub one_reading : (bs : List ℕ) → HasOneReading bs
one_reading bs = record {
  some = some_reading (length bs) 0 bs (omega arith);
  one_list = λ ts us d e. one_list d e;
  one_fault = λ f g d e. one_fault d e;
  not_both = λ ts f d e. not_both d e;
}
