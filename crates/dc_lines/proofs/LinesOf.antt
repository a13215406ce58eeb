-- Texts that are cut into their lines.
use Rattle.std.specs.Prelude.{◌≡◌, ℕ, zero, suc, ◌+◌, ◌≤◌, Bool, true, false, cond, eqb, List, [], ◌∷◌, ◌++◌, length, codes, refl}
use Rattle.std.specs.List.{AllByRecursion}
use Rattle.std.proofs.Common.{sym, ◌∙◌, ap, ap₂, subst, arith, append_assoc}
use Rattle.std.proofs.lemmas.Bool.{ne_eqb}
use Rattle.std.proofs.lemmas.List.{append-nil, length-append}
use Rattle.dc_lines.specs.Bytes.{Bytes, ended}
use Rattle.dc_lines.specs.Cuts.{Lacks, Starts, until, onward}
use Rattle.dc_lines.specs.Texts.{feeds, first_lines}
use Rattle.dc_lines.proofs.Cutting.{same_cut, cut_whole, until-lacks, onward-starts}

abbrev pub NoFeeds : List Bytes → Type 0
NoFeeds ls = AllByRecursion (Lacks 10) ls

pub no-feeds-last : (xs : List Bytes) (b : Bytes) → NoFeeds xs → Lacks 10 b → NoFeeds (xs ++ b ∷ [])
no-feeds-last [] b h l = (l, tt)
no-feeds-last (x ∷ xs) b h l = (h.0, no-feeds-last xs b h.1 l)

pub no-feeds-behind : (xs ys : List Bytes) → NoFeeds (xs ++ ys) → NoFeeds ys
no-feeds-behind [] ys h = h
no-feeds-behind (x ∷ xs) ys h = no-feeds-behind xs ys h.1

-- ---- lines in a text
ended-some : (y r : Bytes) → ¬ ([] ≡ y ++ 10 ∷ r)
ended-some [] r e = cc
ended-some (x ∷ y) r e = cc

pub ended-front : (xs ys : List Bytes) (r : Bytes) → NoFeeds xs → NoFeeds ys → ended xs ≡ ended ys ++ r → (more : List Bytes) × (xs ≡ ys ++ more) × (ended more ≡ r)
ended-front xs [] r h k e = (xs, refl, e)
ended-front [] (y ∷ ys) r h k e = absurd (ended-some y (ended ys ++ r) (e ∙ append_assoc y (10 ∷ ended ys) r))
ended-front (x ∷ xs) (y ∷ ys) r h k e =
    let c = same_cut 10 x y (10 ∷ ended xs) (10 ∷ (ended ys ++ r)) h.0 k.0 refl refl (e ∙ append_assoc y (10 ∷ ended ys) r) in
    let d : ended xs ≡ ended ys ++ r = tail c.1 in
    let q = ended-front xs ys r h.1 k.1 d in
    (q.0, ap₂ ◌∷◌ c.0 q.1, q.2)
  where
    tail : 10 ∷ ended xs ≡ 10 ∷ (ended ys ++ r) → ended xs ≡ ended ys ++ r
    tail e = cc

pub feeds-line : (y r : Bytes) → Lacks 10 y → feeds (y ++ 10 ∷ r) ≡ suc (feeds r)
feeds-line [] r h = refl
feeds-line (x ∷ y) r h = ap (λ t. cond t (suc (feeds (y ++ 10 ∷ r))) (feeds (y ++ 10 ∷ r))) (ne_eqb x 10 h.0) ∙ feeds-line y r h.1

pub feeds-none : (r : Bytes) → Lacks 10 r → feeds r ≡ 0
feeds-none [] h = refl
feeds-none (x ∷ r) h = ap (λ t. cond t (suc (feeds r)) (feeds r)) (ne_eqb x 10 h.0) ∙ feeds-none r h.1

pub feeds-ended : (ls : List Bytes) (r : Bytes) → NoFeeds ls → feeds (ended ls ++ r) ≡ length ls + feeds r
feeds-ended [] r h = (let q : feeds r ≡ 0 + feeds r = omega arith in q)
feeds-ended (l ∷ ls) r h = ap feeds (append_assoc l (10 ∷ ended ls) r) ∙ feeds-line l (ended ls ++ r) h.0 ∙ (let q = feeds-ended ls r h.1 in omega arith)

first-line : (k : ℕ) (y r : Bytes) → Lacks 10 y → first_lines (suc k) (y ++ 10 ∷ r) ≡ y ++ 10 ∷ first_lines k r
first-line k [] r h = refl
first-line k (x ∷ y) r h = ap (λ t. x ∷ cond t (first_lines k (y ++ 10 ∷ r)) (first_lines (suc k) (y ++ 10 ∷ r))) (ne_eqb x 10 h.0) ∙ ap (λ l. x ∷ l) (first-line k y r h.1)

first-none : (r : Bytes) → first_lines 0 r ≡ []
first-none r = refl

pub first-ended : (ls : List Bytes) (r : Bytes) → NoFeeds ls → first_lines (length ls) (ended ls ++ r) ≡ ended ls
first-ended [] r h = refl
first-ended (l ∷ ls) r h = ap (first_lines (suc (length ls))) (append_assoc l (10 ∷ ended ls) r) ∙ first-line (length ls) l (ended ls ++ r) h.0 ∙ ap (λ x. l ++ 10 ∷ x) (first-ended ls r h.1)

pub no_lines : (more : List Bytes) → ended more ≡ [] → more ≡ []
no_lines [] e = refl
no_lines (x ∷ more) e = absurd (not_empty x (ended more) e)
  where
    not_empty : (y r : Bytes) → ¬ (y ++ 10 ∷ r ≡ [])
    not_empty [] r e = cc
    not_empty (z ∷ y) r e = cc

-- ---- the beginnings of a text
pub lines_rest : (k : ℕ) (xs : Bytes) → (r : Bytes) × (xs ≡ first_lines k xs ++ r)
lines_rest zero xs = (xs, refl)
lines_rest (suc k) [] = ([], refl)
lines_rest (suc k) (x ∷ xs) = by (eqb x 10) (lines_rest k xs) (lines_rest (suc k) xs)
  where
    by : (b : Bool) → (r : Bytes) × (xs ≡ first_lines k xs ++ r) → (r : Bytes) × (xs ≡ first_lines (suc k) xs ++ r) → (r : Bytes) × (x ∷ xs ≡ (x ∷ cond b (first_lines k xs) (first_lines (suc k) xs)) ++ r)
    by true f g = (f.0, ap (λ l. x ∷ l) f.1)
    by false f g = (g.0, ap (λ l. x ∷ l) g.1)

pub lines_more : (j k : ℕ) (xs : Bytes) → j ≤ k → (r : Bytes) × (first_lines k xs ≡ first_lines j xs ++ r)
lines_more zero k xs h = (first_lines k xs, refl)
lines_more (suc j) zero xs h = absurd (omega arith)
lines_more (suc j) (suc k) [] h = ([], refl)
lines_more (suc j) (suc k) (x ∷ xs) h = by (eqb x 10) (lines_more j k xs (omega arith)) (lines_more (suc j) (suc k) xs h)
  where
    by : (b : Bool) → (r : Bytes) × (first_lines k xs ≡ first_lines j xs ++ r) → (r : Bytes) × (first_lines (suc k) xs ≡ first_lines (suc j) xs ++ r)
        → (r : Bytes) × (x ∷ cond b (first_lines k xs) (first_lines (suc k) xs) ≡ (x ∷ cond b (first_lines j xs) (first_lines (suc j) xs)) ++ r)
    by true f g = (f.0, ap (λ l. x ∷ l) f.1)
    by false f g = (g.0, ap (λ l. x ∷ l) g.1)

-- each line has its line feed, so there are no more lines than bytes
pub lines_short : (ls : List Bytes) → length ls ≤ length (ended ls)
lines_short [] = omega arith
lines_short (x ∷ ls) = (let q = lines_short ls in let e = length-append x (10 ∷ ended ls) in let f : length (10 ∷ ended ls) ≡ suc (length (ended ls)) = refl in omega arith)

-- ---- the first line of a text
pub first_is : (text front back rest : Bytes) → front ≡ until 10 text → back ≡ onward 10 text → back ≡ codes "\n" ++ rest → Lacks 10 front × (front ++ 10 ∷ rest ≡ text)
first_is text front back rest a b c = (subst (Lacks 10) (sym a) (until-lacks 10 text), ap₂ ◌++◌ a (sym c ∙ b) ∙ cut_whole 10 text)

pub no_line : (text back : Bytes) → back ≡ onward 10 text → ((r : Bytes) → ¬ (back ≡ codes "\n" ++ r)) → Lacks 10 text
no_line text back b n = by (onward 10 text) refl (onward-starts 10 text)
  where
    by : (w : Bytes) → onward 10 text ≡ w → Starts 10 w → Lacks 10 text
    by [] e h = subst (Lacks 10) (sym (append-nil (until 10 text)) ∙ ap (λ x. until 10 text ++ x) (sym e) ∙ cut_whole 10 text) (until-lacks 10 text)
    by (x ∷ w) e h = absurd (n w (b ∙ e ∙ ap (λ y. y ∷ w) h))

-- a text is its first line and what stands behind it, or has no line feed
pub data Piece (text : Bytes) : Type 0 where
  last_piece : Lacks 10 text → Piece text
  line_piece : (front next : Bytes) → Lacks 10 front → front ++ 10 ∷ next ≡ text → Piece text

pub pieces : (text : Bytes) → Piece text
pieces text = by (onward 10 text) refl (onward-starts 10 text)
  where
    by : (w : Bytes) → onward 10 text ≡ w → Starts 10 w → Piece text
    by [] e h = last_piece (subst (Lacks 10) (sym (append-nil (until 10 text)) ∙ ap (λ x. until 10 text ++ x) (sym e) ∙ cut_whole 10 text) (until-lacks 10 text))
    by (x ∷ w) e h = line_piece (until 10 text) w (until-lacks 10 text) (ap (λ y. until 10 text ++ y ∷ w) (sym h) ∙ ap (λ y. until 10 text ++ y) (sym e) ∙ cut_whole 10 text)
