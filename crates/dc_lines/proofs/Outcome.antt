-- Each text has one outcome.
use Rattle.std.specs.Prelude.{◌≡◌, ◌⊎◌, ℕ, zero, suc, ◌+◌, ◌≤◌, ◌<◌, Bool, true, false, ltb, [], ◌∷◌, ◌++◌, length, take, Option, Some, None, refl}
use Rattle.std.proofs.Common.{sym, ◌∙◌, ap, subst, arith, append_assoc, inl, inr}
use Rattle.std.proofs.lemmas.List.{append-nil, length-append}
use Rattle.std.proofs.lemmas.Bool.{ltb-true, ltb-false}
use Rattle.dc_lines.specs.Bytes.{Bytes, ended}
use Rattle.dc_lines.specs.Cuts.{Lacks}
use Rattle.dc_lines.specs.Texts.{feeds, first_lines, Begins, IsFirstWrong, Told, wrong, short, ToldLong, wrong_before, passed, IsBadLine, IsReading, HasOneOutcome}
use Rattle.dc_lines.proofs.LinesOf.{Piece, last_piece, line_piece, pieces, ended-front, no_lines, lines_rest, lines_more}
use Rattle.dc_lines.proofs.Readers.{Runs, Reader, Reached, runs-lack, one_run, reached_start, reached_step, reached_wrong, reached_end, bad_long, bad_short}

-- ---- one line, whatever the texts are
module _ {V : Type 0} (T : V → Bytes → Type 0) where
  fewer_begin : (text : Bytes) (j k : ℕ) → j ≤ k → Begins T (first_lines k text) → Begins T (first_lines j text)
  fewer_begin text j k h b =
      let m = lines_more j k text h in
      record { value = b.value; rest = m.0 ++ b.rest; text = subst (T b.value) (ap (λ l. l ++ b.rest) m.1 ∙ append_assoc (first_lines j text) m.0 b.rest) b.text }

  whole_begins : (text : Bytes) (j : ℕ) (v : V) → T v text → Begins T (first_lines j text)
  whole_begins text j v h = let m = lines_rest j text in record { value = v; rest = m.0; text = subst (T v) m.1 h }

  wrong_below : (text : Bytes) (a b : ℕ) → IsFirstWrong T text a → IsFirstWrong T text b → ¬ (a < b)
  wrong_below text a b f g l = f.wrong (fewer_begin text (suc a) b l g.before)

  wrong_once : (text : Bytes) (j k : ℕ) → IsFirstWrong T text j → IsFirstWrong T text k → j ≡ k
  wrong_once text j k f g = let p = wrong_below text j k f g in let q = wrong_below text k j g f in omega (arith, p, q)

  wrong_stops : (text : Bytes) (k n : ℕ) → k < n → IsFirstWrong T text k → ¬ Begins T (first_lines n text)
  wrong_stops text k n h f b = f.wrong (fewer_begin text (suc k) n h b)

  one_told : (text : Bytes) (k l : ℕ) → Told T text k → Told T text l → k ≡ l
  one_told text k l (wrong i h f e) (wrong j g d q) = e ∙ ap suc (wrong_once text i j f d) ∙ sym q
  one_told text k l (wrong i h f e) (short b n q) = absurd (wrong_stops text i (feeds text) h f b)
  one_told text k l (short b n e) (wrong j g d q) = absurd (wrong_stops text j (feeds text) g d b)
  one_told text k l (short b n e) (short d m q) = e ∙ sym q

  one_told_long : (front : Bytes) (k l : ℕ) → ToldLong T front k → ToldLong T front l → k ≡ l
  one_told_long front k l (wrong_before i h f e) (wrong_before j g d q) = e ∙ ap suc (wrong_once front i j f d) ∙ sym q
  one_told_long front k l (wrong_before i h f e) (passed b q) = absurd (wrong_stops front i (feeds front) h f b)
  one_told_long front k l (passed b e) (wrong_before j g d q) = absurd (wrong_stops front j (feeds front) g d b)
  one_told_long front k l (passed b e) (passed d q) = e ∙ sym q

  one_line : (limit : ℕ) (text : Bytes) (k l : ℕ) → IsBadLine T limit text k → IsBadLine T limit text l → k ≡ l
  one_line limit text k l (inl h) (inl g) = one_told text k l h.1 g.1
  one_line limit text k l (inl h) (inr g) = absurd (let x = h.0 in let y = g.0 in omega arith)
  one_line limit text k l (inr h) (inl g) = absurd (let x = h.0 in let y = g.0 in omega arith)
  one_line limit text k l (inr h) (inr g) = one_told_long (take limit text) k l h.1 g.1

  not_told : (text : Bytes) (v : V) (l : ℕ) → T v text → ¬ Told T text l
  not_told text v l h (wrong k g f e) = f.wrong (whole_begins text (suc k) v h)
  not_told text v l h (short b n e) = n v h

  not_both : (limit : ℕ) (text : Bytes) (v : V) (l : ℕ) → T v text → length text ≤ limit → ¬ IsBadLine T limit text l
  not_both limit text v l h g (inl k) = not_told text v l h k.1
  not_both limit text v l h g (inr k) = let x = k.0 in omega arith

le_or : (m n : ℕ) → (m ≤ n) ⊎ (n < m)
le_or m n = by (ltb n m) refl
  where
    by : (t : Bool) → ltb n m ≡ t → (m ≤ n) ⊎ (n < m)
    by true e = inr (ltb-true n m e)
    by false e = inl (ltb-false n m e)

-- ---- a reader that can tell at each stage whether a line is taken, and whether the text may end
pub record Judge {S V : Type 0} (Step : S → Bytes → S → Type 0) (Ends : S → V → Type 0) : Type 0 where
  pub step : (s : S) (b : Bytes) → ((t : S) × Step s b t) ⊎ ((t : S) → ¬ Step s b t)
  pub finish : (s : S) → ((v : V) × Ends s v) ⊎ ((v : V) → ¬ Ends s v)

module _ {S V : Type 0} {start : S} {Step : S → Bytes → S → Type 0} {Ends : S → V → Type 0} {T : V → Bytes → Type 0} (M : Reader start Step Ends T) where
  one_value : (text : Bytes) (v w : V) → T v text → T w text → v ≡ w
  one_value text v w h k =
      let p = M.path v text h in
      let q = M.path w text k in
      let f = ended-front p.lines q.lines [] (runs-lack M start p.lines p.last p.runs) (runs-lack M start q.lines q.last q.runs) (p.whole ∙ sym q.whole ∙ sym (append-nil (ended q.lines))) in
      let e : p.lines ≡ q.lines = f.1 ∙ ap (λ m. q.lines ++ m) (no_lines f.0 f.2) ∙ append-nil q.lines in
      let s = one_run M start q.lines p.last q.last (subst (λ x. Runs Step start x p.last) e p.runs) q.runs in
      M.one_end q.last v w (subst (λ x. Ends x v) s p.ends) q.ends

  -- the reading of a text, from any line on
  Read : Bytes → Type 0
  Read text = (line : ℕ) × (o : Option V) × IsReading T text line o

  at_end : (J : Judge Step Ends) (text rest : Bytes) (s : S) (line : ℕ) → Lacks 10 rest → Reached start Step text rest s line → Read text
  unfolding Read
  at_end J text [] s line l r = by (J.finish s)
    where
      by : ((v : V) × Ends s v) ⊎ ((v : V) → ¬ Ends s v) → (k : ℕ) × (o : Option V) × IsReading T text k o
      by (inl f) = (line, Some f.0, reached_end M text [] s line (Some f.0) l (f.1, refl) r)
      by (inr n) = (line, None, reached_end M text [] s line None l (λ v e q. n v e) r)
  at_end J text (x ∷ rest) s line l r = (line, None, reached_end M text (x ∷ rest) s line None l (λ v e q. cc) r)

  read_piece : (J : Judge Step Ends) (text rest : Bytes) (s : S) (line : ℕ) → Reached start Step text rest s line
      → ((next : Bytes) (t : S) (k : ℕ) → length next < length rest → Reached start Step text next t k → Read text) → Piece rest → Read text
  unfolding Read
  read_piece J text rest s line r go (last_piece l) = at_end J text rest s line l r
  read_piece J text rest s line r go (line_piece front next l e) = by (J.step s front)
    where
      by : ((t : S) × Step s front t) ⊎ ((t : S) → ¬ Step s front t) → (k : ℕ) × (o : Option V) × IsReading T text k o
      by (inl f) =
          go next f.0 (line + 1) (let x = ap length e in let y = length-append front (10 ∷ next) in let z : length (10 ∷ next) ≡ suc (length next) = refl in omega arith)
          (reached_step start Step text rest front next s f.0 line e f.1 r)
      by (inr n) = (line, None, reached_wrong M text rest front next s line l e n r)

  read_from : (J : Judge Step Ends) (n : ℕ) (text rest : Bytes) (s : S) (line : ℕ) → length rest ≤ n → Reached start Step text rest s line → Read text
  read_from J zero text rest s line h r = read_piece J text rest s line r (λ next t k l q. absurd (omega arith)) (pieces rest)
  read_from J (suc n) text rest s line h r = read_piece J text rest s line r (λ next t k l q. read_from J n text next t k (omega arith) q) (pieces rest)

  read_whole : (J : Judge Step Ends) (text : Bytes) → Read text
  read_whole J text = read_from J (length text) text text start 1 (omega arith) (reached_start start Step text)

  some_outcome : (J : Judge Step Ends) (limit : ℕ) (text : Bytes) → ((v : V) × T v text × (length text ≤ limit)) ⊎ ((k : ℕ) × IsBadLine T limit text k)
  unfolding Read
  some_outcome J limit text = by (le_or (length text) limit)
    where
      short_by : length text ≤ limit → (k : ℕ) (o : Option V) → IsReading T text k o → ((v : V) × T v text × (length text ≤ limit)) ⊎ ((k : ℕ) × IsBadLine T limit text k)
      short_by l k None r = inr (k, bad_short T limit text k None l refl r)
      short_by l k (Some v) r = inl (v, r.0, l)

      by : (length text ≤ limit) ⊎ (limit < length text) → ((v : V) × T v text × (length text ≤ limit)) ⊎ ((k : ℕ) × IsBadLine T limit text k)
      by (inl l) = let r = read_whole J text in short_by l r.0 r.1 r.2
      by (inr l) = let r = read_whole J (take limit text) in inr (r.0, bad_long T limit text r.0 r.1 l r.2)

  pub has_one_outcome : (J : Judge Step Ends) (limit : ℕ) (text : Bytes) → HasOneOutcome T limit text
  has_one_outcome J limit text = record { some_outcome = some_outcome J limit text; one_value = one_value text; one_line = one_line T limit text; not_both = not_both T limit text }
