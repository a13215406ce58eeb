-- Texts by lines: what a text says, and the line that is told where it says nothing. `T v text` is
-- what it is for the bytes to be the text of v, of any length; `limit` the greatest number of bytes
-- of a text.
use Rattle.std.specs.Prelude.{◌≡◌, ◌⊎◌, ℕ, zero, suc, ◌<◌, ◌≤◌, eqb, cond, [], ◌∷◌, ◌++◌, length, take, Option, MatchOption}
use Rattle.dc_lines.specs.Bytes.{Bytes}

-- the number of line feeds
abbrev pub feeds : Bytes → ℕ
feeds [] = 0
feeds (x ∷ xs) = cond (eqb x 10) (suc (feeds xs)) (feeds xs)

-- the first k lines with their line feeds, all of the text where there are fewer
abbrev pub first_lines : ℕ → Bytes → Bytes
first_lines zero xs = []
first_lines (suc k) [] = []
first_lines (suc k) (x ∷ xs) = x ∷ cond (eqb x 10) (first_lines k xs) (first_lines (suc k) xs)

module _ {V : Type 0} (T : V → Bytes → Type 0) where
  -- some text, of any length, begins so
  pub record Begins (front : Bytes) : Type 0 where
    pub value : V
    pub rest : Bytes
    pub text : T value (front ++ rest)

  -- line k is the first one with which no text goes on: the lines before it begin one, and with it
  -- there is none
  pub record IsFirstWrong (text : Bytes) (k : ℕ) : Type 0 where
    pub before : Begins (first_lines k text)
    pub wrong : ¬ Begins (first_lines (suc k) text)

  -- the line that is told of bytes within the limit: from 1 on, the first wrong one, else the one
  -- behind the last line feed
  pub data Told (text : Bytes) (line : ℕ) : Type 0 where
    wrong : (k : ℕ) → k < feeds text → IsFirstWrong text k → line ≡ suc k → Told text line
    short : Begins (first_lines (feeds text) text) → ((v : V) → ¬ T v text)
        → line ≡ suc (feeds text) → Told text line

  -- of bytes past the limit the beginning is judged, and the line on which the limit is passed
  -- decides where none before it is wrong
  pub data ToldLong (front : Bytes) (line : ℕ) : Type 0 where
    wrong_before : (k : ℕ) → k < feeds front → IsFirstWrong front k → line ≡ suc k → ToldLong front line
    passed : Begins (first_lines (feeds front) front) → line ≡ suc (feeds front) → ToldLong front line

  abbrev pub IsBadLine : ℕ → Bytes → ℕ → Type 0
  IsBadLine limit text line =
      ((length text ≤ limit) × Told text line)
      ⊎ ((limit < length text) × ToldLong (take limit text) line)

  -- what is answered for bytes within the limit: the value whose text they are, else the line
  abbrev pub IsReading : Bytes → ℕ → Option V → Type 0
  IsReading text line o =
      MatchOption o (Told text line)
      (λ v. T v text × Begins (first_lines (feeds text) text) × (line ≡ suc (feeds text)))

  -- bytes are one value's text, within the limit, or have one line; and never both
  pub record HasOneOutcome (limit : ℕ) (text : Bytes) : Type 0 where
    pub some_outcome : ((v : V) × T v text × (length text ≤ limit)) ⊎ ((k : ℕ) × IsBadLine limit text k)
    pub one_value : (v w : V) → T v text → T w text → v ≡ w
    pub one_line : (k l : ℕ) → IsBadLine limit text k → IsBadLine limit text l → k ≡ l
    pub not_both : (v : V) (l : ℕ) → T v text → length text ≤ limit → ¬ IsBadLine limit text l
