-- Texts that are read line by line, from stage to stage.
use Rattle.std.specs.Prelude.{◌≡◌, ℕ, suc, ◌+◌, ◌≤◌, ◌<◌, List, [], ◌∷◌, ◌++◌, length, take, Option, Some, None, MatchOption, refl}
use Rattle.std.proofs.Common.{sym, ◌∙◌, ap, subst, arith, append_assoc, inl, inr}
use Rattle.std.proofs.lemmas.List.{append-nil, length-append}
use Rattle.dc_lines.specs.Bytes.{Bytes, ended}
use Rattle.dc_lines.specs.Cuts.{Lacks}
use Rattle.dc_lines.specs.Texts.{feeds, first_lines, Begins, Told, wrong, short, ToldLong, wrong_before, passed, IsBadLine, IsReading}
use Rattle.dc_lines.proofs.Cutting.{length-more}
use Rattle.dc_lines.proofs.Lines.{ended-append}
use Rattle.dc_lines.proofs.LinesOf.{NoFeeds, no-feeds-last, no-feeds-behind, ended-front, feeds-line, feeds-none, feeds-ended, first-ended, lines_short}

-- ---- runs of lines, where `Step s b t` says that line b leads from stage s to stage t
module _ {S : Type 0} (Step : S → Bytes → S → Type 0) where
  abbrev pub Runs : S → List Bytes → S → Type 0
  Runs s [] t = s ≡ t
  Runs s (b ∷ bs) t = (m : S) × Step s b m × Runs m bs t

  pub runs-append : (s : S) (xs : List Bytes) (m : S) (ys : List Bytes) (t : S) → Runs s xs m → Runs m ys t → Runs s (xs ++ ys) t
  runs-append s [] m ys t r k = subst (λ x. Runs x ys t) (sym r) k
  runs-append s (x ∷ xs) m ys t r k = (r.0, r.1, runs-append r.0 xs m ys t r.2 k)

  pub split_run : (s : S) (xs ys : List Bytes) (t : S) → Runs s (xs ++ ys) t → (m : S) × Runs s xs m × Runs m ys t
  split_run s [] ys t r = (s, refl, r)
  split_run s (x ∷ xs) ys t r = let q = split_run r.0 xs ys t r.2 in (q.0, (r.0, r.1, q.1), q.2)

-- the run of a text, and what it ends with
pub record Path {S V : Type 0} (start : S) (Step : S → Bytes → S → Type 0) (Ends : S → V → Type 0) (v : V) (text : Bytes) : Type 0 where
  pub lines : List Bytes
  pub last : S
  pub runs : Runs Step start lines last
  pub ends : Ends last v
  pub whole : ended lines ≡ text

-- lines that lead from a stage to a value
pub record Completion {S V : Type 0} (Step : S → Bytes → S → Type 0) (Ends : S → V → Type 0) (s : S) : Type 0 where
  pub lines : List Bytes
  pub last : S
  pub value : V
  pub runs : Runs Step s lines last
  pub ends : Ends last value

-- a reader of the texts T: `start` is its first stage, and `Ends s v` says that behind stage s the value v is read
pub record Reader {S V : Type 0} (start : S) (Step : S → Bytes → S → Type 0) (Ends : S → V → Type 0) (T : V → Bytes → Type 0) : Type 0 where
  pub lacks : (s : S) (b : Bytes) (t : S) → Step s b t → Lacks 10 b
  pub one_way : (s : S) (b : Bytes) (t u : S) → Step s b t → Step s b u → t ≡ u
  pub one_end : (s : S) (v w : V) → Ends s v → Ends s w → v ≡ w
  pub path : (v : V) (text : Bytes) → T v text → Path start Step Ends v text
  pub read : (ls : List Bytes) (s : S) (v : V) → Runs Step start ls s → Ends s v → T v (ended ls)
  pub completes : (ls : List Bytes) (s : S) → Runs Step start ls s → Completion Step Ends s

-- a text under way
pub record Reached {S : Type 0} (start : S) (Step : S → Bytes → S → Type 0) (text rest : Bytes) (s : S) (line : ℕ) : Type 0 where
  pub lines : List Bytes
  pub runs : Runs Step start lines s
  pub whole : ended lines ++ rest ≡ text
  pub count : line ≡ suc (length lines)

module _ {S : Type 0} (start : S) (Step : S → Bytes → S → Type 0) where
  pub reached_start : (text : Bytes) → Reached start Step text text start 1
  reached_start text = record { lines = []; runs = refl; whole = refl; count = refl }

  pub reached_step : (text rest front next : Bytes) (s t : S) (line : ℕ) → front ++ 10 ∷ next ≡ rest → Step s front t → Reached start Step text rest s line → Reached start Step text next t (line + 1)
  reached_step text rest front next s t line e h r = record {
    lines = r.lines ++ front ∷ [];
    runs = runs-append Step start r.lines s (front ∷ []) t r.runs (t, h, refl);
    whole =
        ap (λ x. x ++ next) (ended-append r.lines (front ∷ [])) ∙ append_assoc (ended r.lines) (front ++ 10 ∷ []) next
        ∙ ap (λ x. ended r.lines ++ x) (append_assoc front (10 ∷ []) next ∙ e) ∙ r.whole;
    count = (let x = length-more r.lines front in let y = r.count in omega arith);
  }

  pub reached_few : (text rest : Bytes) (s : S) (line : ℕ) → Reached start Step text rest s line → line ≤ length text + 1
  reached_few text rest s line r = (let x = lines_short r.lines in let y = length-append (ended r.lines) rest in let z = ap length r.whole in let w = r.count in omega arith)

module _ {S V : Type 0} {start : S} {Step : S → Bytes → S → Type 0} {Ends : S → V → Type 0} {T : V → Bytes → Type 0} (M : Reader start Step Ends T) where
  pub runs-lack : (s : S) (ls : List Bytes) (t : S) → Runs Step s ls t → NoFeeds ls
  runs-lack s [] t r = tt
  runs-lack s (b ∷ bs) t r = (M.lacks s b r.0 r.1, runs-lack r.0 bs t r.2)

  pub one_run : (s : S) (ls : List Bytes) (t u : S) → Runs Step s ls t → Runs Step s ls u → t ≡ u
  one_run s [] t u r q = sym r ∙ q
  one_run s (b ∷ bs) t u r q = one_run r.0 bs t u r.2 (subst (λ x. Runs Step x bs u) (sym (M.one_way s b r.0 q.0 r.1 q.1)) q.2)

  -- ---- what a run shows
  begins_run : (ls : List Bytes) (s : S) → Runs Step start ls s → Begins T (ended ls)
  begins_run ls s r =
      let c = M.completes ls s r in
      record {
        value = c.value;
        rest = ended c.lines;
        text = subst (T c.value) (ended-append ls c.lines) (M.read (ls ++ c.lines) c.last c.value (runs-append Step start ls s c.lines c.last r c.runs) c.ends);
      }

  wrong_run : (ls : List Bytes) (s : S) (b : Bytes) → Runs Step start ls s → ((t : S) → ¬ Step s b t) → Lacks 10 b → ¬ Begins T (ended (ls ++ b ∷ []))
  wrong_run ls s b r n l g =
      let p = M.path g.value (ended (ls ++ b ∷ []) ++ g.rest) g.text in
      let f = ended-front p.lines (ls ++ b ∷ []) g.rest (runs-lack start p.lines p.last p.runs) (no-feeds-last ls b (runs-lack start ls s r) l) p.whole in
      let q = split_run Step start ls (b ∷ f.0) p.last (subst (λ x. Runs Step start x p.last) (f.1 ∙ append_assoc ls (b ∷ []) f.0) p.runs) in
      let e = one_run start ls s q.0 r q.1 in
      n q.2.0 (subst (λ x. Step x b q.2.0) (sym e) q.2.1)

  no_text : (ls : List Bytes) (s : S) (rest : Bytes) → Runs Step start ls s → Lacks 10 rest → ((v : V) → Ends s v → rest ≡ [] → ⊥) → (v : V) → ¬ T v (ended ls ++ rest)
  no_text ls s rest r l n v h =
      let p = M.path v (ended ls ++ rest) h in
      let f = ended-front p.lines ls rest (runs-lack start p.lines p.last p.runs) (runs-lack start ls s r) p.whole in
      by p f.0 f.1 f.2
    where
      by : (p : Path start Step Ends v (ended ls ++ rest)) (more : List Bytes) → p.lines ≡ ls ++ more → ended more ≡ rest → ⊥
      by p [] e q = n v (subst (λ x. Ends x v) (sym (one_run start ls s p.last r (subst (λ x. Runs Step start x p.last) (e ∙ append-nil ls) p.runs))) p.ends) (sym q)
      by p (x ∷ more) e q =
          let m : NoFeeds (x ∷ more) = no-feeds-behind ls (x ∷ more) (subst NoFeeds e (runs-lack start p.lines p.last p.runs)) in
          let a = feeds-line x (ended more) m.0 in
          let b = feeds-none rest l in
          let d = ap feeds q in
          omega arith

  -- ---- what a text under way shows
  pub reached_wrong : (text rest front next : Bytes) (s : S) (line : ℕ) → Lacks 10 front → front ++ 10 ∷ next ≡ rest → ((t : S) → ¬ Step s front t) → Reached start Step text rest s line → Told T text line
  reached_wrong text rest front next s line lack cut n r =
      wrong (length r.lines) few (record { before = subst (Begins T) (sym first) (begins_run r.lines s r.runs); wrong = λ g. wrong_run r.lines s front r.runs n lack (subst (Begins T) second g) }) r.count
    where
      first : first_lines (length r.lines) text ≡ ended r.lines
      first = ap (first_lines (length r.lines)) (sym r.whole) ∙ first-ended r.lines rest (runs-lack start r.lines s r.runs)

      whole : ended (r.lines ++ front ∷ []) ++ next ≡ text
      whole =
          ap (λ x. x ++ next) (ended-append r.lines (front ∷ [])) ∙ append_assoc (ended r.lines) (front ++ 10 ∷ []) next ∙ ap (λ x. ended r.lines ++ x) (append_assoc front (10 ∷ []) next ∙ cut) ∙ r.whole

      second : first_lines (suc (length r.lines)) text ≡ ended (r.lines ++ front ∷ [])
      second =
          ap (λ k. first_lines k text) (sym (length-more r.lines front)) ∙ ap (first_lines (length (r.lines ++ front ∷ []))) (sym whole)
          ∙ first-ended (r.lines ++ front ∷ []) next (no-feeds-last r.lines front (runs-lack start r.lines s r.runs) lack)

      few : length r.lines < feeds text
      few = (let x = ap feeds r.whole in let y = feeds-ended r.lines rest (runs-lack start r.lines s r.runs) in let z = ap feeds cut in let w = feeds-line front next lack in omega arith)

  feeds_are : (text rest : Bytes) (s : S) (line : ℕ) → Lacks 10 rest → (r : Reached start Step text rest s line) → feeds text ≡ length r.lines
  feeds_are text rest s line l r = let x = ap feeds r.whole in let y = feeds-ended r.lines rest (runs-lack start r.lines s r.runs) in let z = feeds-none rest l in omega arith

  all_before : (text rest : Bytes) (s : S) (line : ℕ) → Lacks 10 rest → Reached start Step text rest s line → Begins T (first_lines (feeds text) text)
  all_before text rest s line l r =
      subst (Begins T) (sym (ap (λ k. first_lines k text) (feeds_are text rest s line l r) ∙ ap (first_lines (length r.lines)) (sym r.whole) ∙ first-ended r.lines rest (runs-lack start r.lines s r.runs)))
      (begins_run r.lines s r.runs)

  pub reached_end : (text rest : Bytes) (s : S) (line : ℕ) (o : Option V) → Lacks 10 rest → MatchOption o ((v : V) → Ends s v → ¬ (rest ≡ [])) (λ v. Ends s v × (rest ≡ []))
      → Reached start Step text rest s line → IsReading T text line o
  reached_end text rest s line None l n r =
      short (all_before text rest s line l r) (subst (λ x. (d : V) → ¬ T d x) r.whole (no_text r.lines s rest r.runs l n)) (let x = feeds_are text rest s line l r in let y = r.count in omega arith)
  reached_end text rest s line (Some v) l d r = (
    subst (T v) (sym (append-nil (ended r.lines)) ∙ ap (λ x. ended r.lines ++ x) (sym d.1) ∙ r.whole) (M.read r.lines s v r.runs d.0),
    all_before text rest s line l r,
    (let x = feeds_are text rest s line l r in let y = r.count in omega arith),
  )

-- ---- from a reading to the line that is told
module _ {V : Type 0} (T : V → Bytes → Type 0) where
  -- the beginning of a text that is too long
  told_long : (front : Bytes) (line : ℕ) (o : Option V) → IsReading T front line o → ToldLong T front line
  told_long front line None (wrong k h f e) = wrong_before k h f e
  told_long front line None (short b n e) = passed b e
  told_long front line (Some v) h = passed h.1 h.2

  pub bad_long : (limit : ℕ) (text : Bytes) (line : ℕ) (o : Option V) → limit < length text → IsReading T (take limit text) line o → IsBadLine T limit text line
  bad_long limit text line o h r = inr (h, told_long (take limit text) line o r)

  pub bad_short : (limit : ℕ) (text : Bytes) (line : ℕ) (o : Option V) → length text ≤ limit → o ≡ None → IsReading T text line o → IsBadLine T limit text line
  bad_short limit text line o h e r = inl (h, subst (IsReading T text line) e r)
