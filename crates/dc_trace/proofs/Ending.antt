-- A replay has exactly one end.
use Rattle.std.specs.Prelude.{◌≡◌, ℕ, zero, suc, ◌+◌, ◌-◌, ◌<◌, ◌≤◌, eqb, List, [], ◌∷◌, length, ℤ, Bool, true, false, Option, Some, None, Result, Ok, Err, refl}
use Rattle.std.proofs.Common.{sym, ◌∙◌, ap, ap₂, subst, arith}
use Rattle.std.proofs.lemmas.Bool.{eq-eqb, ne_eqb}
use Rattle.dc_trace.specs.declared.run.TraceFault.{TraceFault}
use Rattle.dc_trace.specs.declared.run.TraceFault.TheVariants as T
use Rattle.dc_trace.specs.Replay.{Config, Why, no_choice, bad_choice, past, blocked, Turn, on, stop, turn_in, turn, Leads}
use Rattle.dc_trace.specs.Ends.{Finishes, Pays, LeavesOver, Stops, GoesOn, Ends}
use Rattle.dc_trace.proofs.Turns.{no_turn, some_turn, Last, one_count, one_last, leads_fewer}

-- the fault of turn k
abbrev fault : Why → ℕ → TraceFault
fault no_choice k = T.NoChoice k
fault bad_choice k = T.BadChoice k
fault past k = T.Past128 k
fault blocked k = T.Blocked k

-- what is answered where nothing is left to do
abbrev at_end : ℕ → List ℤ → ℤ → Result ℤ TraceFault
at_end given [] c = Ok c
at_end given (z ∷ zs) c = Err (T.LeftOver (given - length (z ∷ zs)))

-- what is answered where turn n + 1 would come to t
abbrev at_turn : ℕ → ℕ → Turn → Result ℤ TraceFault
at_turn turns n (stop w) = Err (fault w (suc n))
at_turn turns n (on y) = Err (T.Unfinished (suc n))

abbrev answered : (fits : ℤ → Bool) → ℕ → Config → ℕ → Config → Result ℤ TraceFault
answered fits turns x n y = elim (turn fits y) [ None ↦ at_end (length x.choices) y.choices y.cost | Some t ↦ (elim (eqb n turns) [ true ↦ Err (T.Unfinished (suc n)) | false ↦ at_turn turns n t ]) ]

-- a last state, and what is answered there
record Found (fits : ℤ → Bool) (turns : ℕ) (x : Config) (r : Result ℤ TraceFault) : Type 0 where
  count : ℕ
  end : Config
  last : Last fits turns x count end
  answer : r ≡ answered fits turns x count end

module _ (fits : ℤ → Bool) (turns : ℕ) (x : Config) where
  none_not : (y w : Config) → turn fits y ≡ None → ¬ (turn fits y ≡ Some (on w))
  none_not y w e q = no (sym e ∙ q)
    where
      no : None ≡ Some (on w) → ⊥
      no e = cc

  stop_halts : (y w : Config) (why : Why) → turn fits y ≡ Some (stop why) → ¬ (turn fits y ≡ Some (on w))
  stop_halts y w why e q = no (sym e ∙ q)
    where
      no : Some (stop why) ≡ Some (on w) → ⊥
      no e = cc

  done_turn : (y : Config) → y.todo ≡ [] → turn fits y ≡ None
  done_turn y e = ap (λ A. turn_in fits A y.state y.cost y.choices) e

  -- ---- each end is answered at a last state
  at_none : (n : ℕ) (y : Config) → turn fits y ≡ None → answered fits turns x n y ≡ at_end (length x.choices) y.choices y.cost
  at_none n y e = ap (λ (o : Option Turn). elim o as (λ _. Result ℤ TraceFault) [ None ↦ at_end (length x.choices) y.choices y.cost | Some t ↦ (elim (eqb n turns) [ true ↦ Err (T.Unfinished (suc n)) | false ↦ at_turn turns n t ]) ]) e

  at_some : (n : ℕ) (y : Config) (t : Turn) (b : Bool) → turn fits y ≡ Some t → eqb n turns ≡ b → answered fits turns x n y ≡ (elim b as (λ _. Result ℤ TraceFault) [ true ↦ Err (T.Unfinished (suc n)) | false ↦ at_turn turns n t ])
  at_some n y t b e q =
      ap₂ (λ (o : Option Turn) (c : Bool). elim o as (λ _. Result ℤ TraceFault) [ None ↦ at_end (length x.choices) y.choices y.cost | Some t ↦ (elim c as (λ _. Result ℤ TraceFault) [ true ↦ Err (T.Unfinished (suc n)) | false ↦ at_turn turns n t ]) ]) e q

  finish_last : (y : Config) → (f : Finishes fits turns x y) → Last fits turns x f.count y
  finish_last y f = record { within = f.within; leads = f.leads; halted = λ h w. none_not y w (done_turn y f.done) }

  paid_end : (given : ℕ) (zs : List ℤ) (c d : ℤ) → zs ≡ [] → c ≡ d → Ok d ≡ at_end given zs c
  paid_end given zs c d e q = ap Ok (sym q) ∙ ap (λ l. at_end given l c) (sym e)

  found_pays : (c : ℤ) → Pays fits turns x c → Found fits turns x (Ok c)
  found_pays c h = record {
    count = h.1.count;
    end = h.0;
    last = finish_last h.0 h.1;
    answer = paid_end (length x.choices) h.0.choices h.0.cost c h.2 h.3 ∙ sym (at_none h.1.count h.0 (done_turn h.0 h.1.done));
  }

  over_end : (given used : ℕ) (zs : List ℤ) (c : ℤ) → ¬ (zs ≡ []) → used + length zs ≡ given → Err (T.LeftOver used) ≡ at_end given zs c
  over_end given used [] c n e = absurd (n refl)
  over_end given used (z ∷ zs) c n e = ap (λ k. Err (T.LeftOver k)) (let q : used ≡ given - length (z ∷ zs) = omega arith in q)

  found_over : (used : ℕ) → LeavesOver fits turns x used → Found fits turns x (Err (T.LeftOver used))
  found_over used h = record {
    count = h.1.count;
    end = h.0;
    last = finish_last h.0 h.1;
    answer = over_end (length x.choices) used h.0.choices h.0.cost h.2 h.3 ∙ sym (at_none h.1.count h.0 (done_turn h.0 h.1.done));
  }

  found_stop : (why : Why) (k : ℕ) → Stops fits turns x why k → Found fits turns x (Err (fault why k))
  found_stop why k h = record {
    count = h.count;
    end = h.at;
    last = record { within = (let l = h.within in omega arith); leads = h.leads; halted = λ l w. stop_halts h.at w why h.stops };
    answer = ap (λ n. Err (fault why n)) h.number ∙ sym (at_some h.count h.at (stop why) false h.stops (ne_eqb h.count turns (λ e. let l = h.within in omega arith)));
  }

  found_unfinished : (k : ℕ) → GoesOn fits turns x k → Found fits turns x (Err (T.Unfinished k))
  found_unfinished k h = by (turn fits h.at) refl
    where
      by : (o : Option Turn) → turn fits h.at ≡ o → Found fits turns x (Err (T.Unfinished k))
      by None e = absurd (h.left (no_turn fits h.at.todo h.at.state h.at.cost h.at.choices e))
      by (Some t) e = record {
        count = turns;
        end = h.at;
        last = record { within = omega arith; leads = h.leads; halted = λ l w. absurd (omega arith) };
        answer = ap (λ n. Err (T.Unfinished n)) h.number ∙ sym (at_some turns h.at t true e (eq-eqb turns turns refl));
      }

  found : (r : Result ℤ TraceFault) → Ends fits turns x r → Found fits turns x r
  found (Ok c) h = found_pays c h
  found (Err (T.NoChoice k)) h = found_stop no_choice k h
  found (Err (T.BadChoice k)) h = found_stop bad_choice k h
  found (Err (T.Blocked k)) h = found_stop blocked k h
  found (Err (T.Past128 k)) h = found_stop past k h
  found (Err (T.Unfinished k)) h = found_unfinished k h
  found (Err (T.LeftOver used)) h = found_over used h
  found (Err T.NoMemory) h = absurd h

  one_found : (r q : Result ℤ TraceFault) → Found fits turns x r → Found fits turns x q → q ≡ r
  one_found r q a b =
      b.answer ∙ ap₂ (λ n y. answered fits turns x n y) (one_count fits turns b.count a.count x b.end a.end b.last a.last) (one_last fits turns b.count a.count x b.end a.end b.last a.last) ∙ sym a.answer

  one_end : (r q : Result ℤ TraceFault) → Ends fits turns x r → Ends fits turns x q → q ≡ r
  one_end r q a b = one_found r q (found r a) (found q b)

  -- ---- and there is an end
  SomeEnd : Type 0
  SomeEnd = (r : Result ℤ TraceFault) × Ends fits turns x r

  end_done : (n : ℕ) (y : Config) → n ≤ turns → Leads fits n x y → y.todo ≡ [] → (zs : List ℤ) → y.choices ≡ zs → SomeEnd
  unfolding SomeEnd
  end_done n y h l e [] q = (Ok y.cost, (y, record { count = n; within = h; leads = l; done = e }, q, refl))
  end_done n y h l e (z ∷ zs) q =
      (Err (T.LeftOver (length x.choices - length y.choices)), (y, record { count = n; within = h; leads = l; done = e }, (λ k. no (sym k ∙ q)), (let g = leads_fewer fits n x y l in omega arith)))
    where
      no : [] ≡ z ∷ zs → ⊥
      no e = cc

  end_stop : (n : ℕ) (y : Config) → n < turns → Leads fits n x y → (why : Why) → turn fits y ≡ Some (stop why) → SomeEnd
  unfolding SomeEnd
  end_stop n y h l no_choice e = (Err (T.NoChoice (suc n)), record { count = n; within = h; at = y; leads = l; stops = e; number = refl })
  end_stop n y h l bad_choice e = (Err (T.BadChoice (suc n)), record { count = n; within = h; at = y; leads = l; stops = e; number = refl })
  end_stop n y h l past e = (Err (T.Past128 (suc n)), record { count = n; within = h; at = y; leads = l; stops = e; number = refl })
  end_stop n y h l blocked e = (Err (T.Blocked (suc n)), record { count = n; within = h; at = y; leads = l; stops = e; number = refl })

  end_all : (n : ℕ) (y : Config) → n ≡ turns → Leads fits n x y → (o : Option Turn) → turn fits y ≡ o → SomeEnd
  unfolding SomeEnd
  end_all n y h l None e = end_done n y (omega arith) l (no_turn fits y.todo y.state y.cost y.choices e) y.choices refl
  end_all n y h l (Some t) e =
      (Err (T.Unfinished (suc turns)), record { at = y; leads = subst (λ k. Leads fits k x y) h l; left = some_turn fits y.todo y.state y.cost y.choices t e; number = refl })

  end_next : (n : ℕ) (y : Config) → n < turns → Leads fits n x y → ((z : Config) → turn fits y ≡ Some (on z) → SomeEnd) → (o : Option Turn) → turn fits y ≡ o → SomeEnd
  end_next n y h l go None e = end_done n y (omega arith) l (no_turn fits y.todo y.state y.cost y.choices e) y.choices refl
  end_next n y h l go (Some (stop w)) e = end_stop n y h l w e
  end_next n y h l go (Some (on z)) e = go z e

  end_from : (left n : ℕ) (y : Config) → n + left ≡ turns → Leads fits n x y → SomeEnd
  end_from zero n y h l = end_all n y (omega arith) l (turn fits y) refl
  end_from (suc k) n y h l = end_next n y (omega arith) l (λ z e. end_from k (suc n) z (omega arith) (y, l, e)) (turn fits y) refl

  some_end : SomeEnd
  some_end = end_from turns 0 x (omega arith) refl

pub ends_once : (fits : ℤ → Bool) (turns : ℕ) (x : Config) → (r : Result ℤ TraceFault) × Ends fits turns x r × ((q : Result ℤ TraceFault) → Ends fits turns x q → q ≡ r)
unfolding SomeEnd
ends_once fits turns x = let e = some_end fits turns x in (e.0, e.1, λ q h. one_end fits turns x e.0 q e.1 h)
