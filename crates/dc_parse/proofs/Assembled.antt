-- From the parts of a parser's answer to the outcome of the text.
use Rattle.std.proofs.Common.{◌≡◌, ◌⊎◌, inl, inr, ℕ, ◌≤◌, true, false, List, [], length, refl, sym, ap, ap₂, ◌∙◌, subst, Some, None, Result}
use Rattle.std.specs.Prelude.{IsErrAnd, IfErr}
use Rattle.std.proofs.lemmas.Result.{err_from_is_err_and}
use Rattle.dc_tokens.specs.declared.token.Token.{Token}
use Rattle.dc_tokens.specs.declared.token.LexFault.{LexFault}
use Rattle.dc_tokens.specs.Texts.{Tokens, Fails}
use Rattle.dc_grammar.specs.Grammar.{Tree}
use Rattle.dc_grammar.specs.Language.{Name, language, source, cond}
use Rattle.dc_grammar.specs.Depth.{IsDeep}
use Rattle.dc_grammar.specs.Verdicts.{Verdict, whole, Finds}
use Rattle.dc_syntax.specs.declared.tree.Proc.{Proc}
use Rattle.dc_syntax.specs.declared.tree.Cond.{Cond}
use Rattle.dc_syntax.specs.declared.tree.Stmt.{Stmt}
use Rattle.dc_affine.specs.declared.atom.Atom.{Atom}
use Rattle.dc_affine.specs.declared.form.FormFault.{FormFault}
use Rattle.dc_affine.specs.declared.form.FormFault.TheVariants as g
use Rattle.dc_affine.specs.Forms.{IsCause}
use Rattle.dc_affine.specs.Atoms.{dnf_fault, conjunctions_of, cond_is_below}
use Rattle.dc_program.specs.Limits.{cond_literals_fit, cond_operators, cond_is_limited}
use Rattle.dc_parse.specs.declared.fault.Fault.{Fault}
use Rattle.dc_parse.specs.declared.fault.Kind.TheVariants as k
use Rattle.dc_descent.specs.declared.sources.Source.{Source}
use Rattle.dc_descent.specs.declared.fault.Kind.TheVariants as low
use Rattle.dc_descent.specs.declared.fault.Fault.{Fault as DescentFault}
use Rattle.dc_descent.specs.Faults as descent
use Rattle.dc_descent.specs.Faults.{declared_fault}
use Rattle.dc_descent.specs.Sources as sources
use Rattle.std.specs.declared.option.Option.{Option}
use Rattle.std.specs.Option.{option_map}
use Rattle.std.specs.List.{AllByRecursion}
use Rattle.std.proofs.lemmas.Bool.{and_parts, leb-true}
use Rattle.dc_parse.specs.Faults.{fault, kind_of, raised, names_fault, used_fault, verdict_fault}
use Rattle.dc_descent.specs.Scopes.{spelled, place_in}
use Rattle.dc_descent.specs.Sources.{Parts, parts_of, declared, names_of, body_of, IsSource}
use Rattle.dc_descent.specs.Statements.{head_at, first_at}
use Rattle.dc_descent.specs.Trees.{leaves, cond_of}
use Rattle.dc_descent.proofs.Lists.{derived_leaves}
use Rattle.dc_parse.specs.Outcomes.{Outcome, says, refuses, lexed, IsOutcome, bytes, grammar, tree, first_of}
use Rattle.dc_parse.specs.Forms.{all_faults, first_form, all_below, form_kind}
use Rattle.dc_parse.specs.Judges.{proc_of, forms_fault, judge_parts, form_at, judge_condition}
use Rattle.dc_parse.specs.Answers.{SourceOutcome, ConditionOutcome}
use Rattle.dc_parse.proofs.Facts.{Known}
use Rattle.dc_parse.proofs.Naming.{none_both, GoodNames, declared_good, no_names, used_known}
use Rattle.dc_parse.proofs.Shallows.{small_tokens, few_of}
use Rattle.dc_parse.proofs.Sourced.{Inner, source_body}
use Rattle.dc_parse.proofs.Tame.{Goods, GoodCond, good_stmts, good_cond}

-- ---- faults that are handed on

pub handed_on : {X : Type 0} (P : Fault → Type 0) (r : Result X Fault) (e : Fault) → IsErrAnd r (λ y. y ≡ e) → P e → IfErr r P
handed_on P r e h p =
    let q = err_from_is_err_and r h in
    subst (λ x. IfErr x P) (sym q.1) (subst P (sym q.2) p)

-- want of memory, or the outcome
abbrev pub Faulty : {A : Type 0} → (Outcome A → Type 0) → Fault → Type 0
Faulty Of f = (f.kind ≡ k.NoMemory) ⊎ Of (refuses f)

pub bad_bytes : {A : Type 0} (x : Name) (judge : Tree Token → Outcome A) (text : List ℕ) (f : Fault) → length text ≤ 65536
    → (f.kind ≡ k.NoMemory) ⊎ ((e : LexFault) × Fails 0 text e × (f ≡ lexed e)) → Faulty (IsOutcome x judge text) f
bad_bytes x judge text f l (inl h) = inl h
bad_bytes x judge text f l (inr h) = inr (bytes l h.0 h.1 (ap refuses h.2))

pub bad_grammar : {A : Type 0} (x : Name) (judge : Tree Token → Outcome A) (text : List ℕ) (ts us : List Token) (f : Fault) → length text ≤ 65536 → Tokens 0 text ts → us ≡ ts
    → (f.kind ≡ k.NoMemory) ⊎ ((v : Verdict Token) × Finds language IsDeep x us v × (verdict_fault us (length text) v ≡ Some f)) → Faulty (IsOutcome x judge text) f
bad_grammar x judge text ts us f l t e (inl h) = inl h
bad_grammar x judge text ts us f l t e (inr h) = inr (grammar l us (subst (Tokens 0 text) (sym e) t) h.0 h.1 f h.2 refl)

-- ---- faults of the tokens and of the names

pub raised_none : (o : Option DescentFault) → option_map raised o ≡ None → o ≡ None
raised_none None h = refl
raised_none (Some f) h = absurd cc

pub raised_found : (x : Name) (ts : List Token) (end : ℕ) (e : DescentFault) (f : Fault) → f ≡ raised e
    → (e.kind ≡ low.NoMemory) ⊎ ((v : Verdict Token) × Finds language IsDeep x ts v × (descent.verdict_fault ts end v ≡ Some e))
    → (f.kind ≡ k.NoMemory) ⊎ ((v : Verdict Token) × Finds language IsDeep x ts v × (verdict_fault ts end v ≡ Some f))
raised_found x ts end e f q (inl h) = inl (ap (λ z. z.kind) q ∙ ap kind_of h)
raised_found x ts end e f q (inr h) = inr (h.0, h.1, ap (option_map raised) h.2 ∙ ap Some (sym q))

-- ---- sources

pub judged_says : (text : List ℕ) (p : Parts) → names_fault text p ≡ None → forms_fault text p ≡ None → judge_parts text p ≡ says (proc_of text p)
judged_says text p n f = ap (λ z. first_of z (first_of (forms_fault text p) (says (proc_of text p)))) n ∙ ap (λ z. first_of z (says (proc_of text p))) f

judged_names : (text : List ℕ) (p : Parts) (f : Fault) → names_fault text p ≡ Some f → judge_parts text p ≡ refuses f
judged_names text p f n = ap (λ z. first_of z (first_of (forms_fault text p) (says (proc_of text p)))) n

judged_forms : (text : List ℕ) (p : Parts) (f : Fault) → names_fault text p ≡ None → forms_fault text p ≡ Some f → judge_parts text p ≡ refuses f
judged_forms text p f n m = ap (λ z. first_of z (first_of (forms_fault text p) (says (proc_of text p)))) n ∙ ap (λ z. first_of z (says (proc_of text p))) m

-- a derivation of tokens that nest not too deep, and whose names have no fault
module _ (text : List ℕ) (ts : List Token) (a : Tree Token) where
  pub found_names : names_fault text (parts_of a) ≡ None → GoodNames (names_of text (parts_of a))
  found_names n =
      let d : _ = none_both (declared_fault text [] (declared (parts_of a))) (descent.used_fault text (names_of text (parts_of a)) (leaves (parts_of a).body)) (raised_none (sources.names_fault text (parts_of a)) n) in
      declared_good text [] (declared (parts_of a)) d.0 no_names

  pub found_goods : Tokens 0 text ts → Finds language IsDeep source ts (whole a) → names_fault text (parts_of a) ≡ None → Goods (length (names_of text (parts_of a))) (place_in text (names_of text (parts_of a))) (body_of text (parts_of a))
  found_goods t f n =
      let d : _ = none_both (declared_fault text [] (declared (parts_of a))) (descent.used_fault text (names_of text (parts_of a)) (leaves (parts_of a).body)) (raised_none (sources.names_fault text (parts_of a)) n) in
      let i : Inner a = source_body f.0 (few_of ts f.1) (small_tokens t) in
      good_stmts (length (names_of text (parts_of a))) (place_in text (names_of text (parts_of a))) i.derived (record {
        known = subst (AllByRecursion (Known (length (names_of text (parts_of a))) (place_in text (names_of text (parts_of a))))) (derived_leaves i.derived) (used_known text (names_of text (parts_of a)) (leaves (parts_of a).body) d.1);
        small = i.small;
        few = i.few;
      })

-- a source that was read
pub record Seen (text : List ℕ) (ts : List Token) (a : Tree Token) (x : Source) : Type 0 where
  pub short : length text ≤ 65536
  pub spelled : Tokens 0 text ts
  pub found : Finds language IsDeep source ts (whole a)
  pub source : IsSource text a x

-- and whose names have no fault
pub record Named (text : List ℕ) (ts : List Token) (a : Tree Token) (x : Source) : Type 0 where
  pub seen : Seen text ts a x
  pub good : x.body.fault ≡ None

module _ (text : List ℕ) (ts : List Token) (a : Tree Token) (x : Source) where
  pub bad_names : Seen text ts a x → (f : DescentFault) → x.body.fault ≡ Some f → Faulty (SourceOutcome text) (raised f)
  bad_names s f e = inr (tree s.short ts s.spelled a s.found (sym (judged_names text (parts_of a) (raised f) (ap (option_map raised) (sym s.source.fault ∙ e)))))

  pub names_none : Named text ts a x → names_fault text (parts_of a) ≡ None
  names_none n = ap (option_map raised) (sym n.seen.source.fault ∙ n.good)

  same_names : Named text ts a x → x.body.names ≡ names_of text (parts_of a)
  same_names n = n.seen.source.names n.good

  same_stmts : Named text ts a x → x.body.stmts ≡ body_of text (parts_of a)
  same_stmts n = n.seen.source.stmts n.good

  pub good_names : Named text ts a x → GoodNames x.body.names
  good_names n = subst GoodNames (sym (same_names n)) (found_names text ts a (names_none n))

  goods : Named text ts a x → Goods (length (names_of text (parts_of a))) (place_in text (names_of text (parts_of a))) (body_of text (parts_of a))
  goods n = found_goods text ts a n.seen.spelled n.seen.found (names_none n)

  pub source_below : Named text ts a x → (m : ℕ) (xs : List Stmt) → m ≡ length x.body.names → xs ≡ x.body.stmts → all_below m xs ≡ true
  source_below n m xs e f = ap₂ all_below (e ∙ ap length (same_names n)) (f ∙ same_stmts n) ∙ (goods n).below

  same_forms : Named text ts a x → (m : ℕ) (xs : List Stmt) (ps : List ℕ) → m ≡ length x.body.names → xs ≡ x.body.stmts → ps ≡ x.body.starts.items
      → first_form ps (all_faults m xs) ≡ forms_fault text (parts_of a)
  same_forms n m xs ps e f g = ap₂ first_form (g ∙ n.seen.source.starts) (ap₂ all_faults (e ∙ ap length (same_names n)) (f ∙ same_stmts n))

  pub bad_forms : Named text ts a x → (m : ℕ) (xs : List Stmt) (ps : List ℕ) → m ≡ length x.body.names → xs ≡ x.body.stmts → ps ≡ x.body.starts.items
      → (f : Fault) → (f.kind ≡ k.NoMemory) ⊎ (first_form ps (all_faults m xs) ≡ Some f) → Faulty (SourceOutcome text) f
  bad_forms n m xs ps e f g j (inl h) = inl h
  bad_forms n m xs ps e f g j (inr h) =
      inr (tree n.seen.short ts n.seen.spelled a n.seen.found (sym (judged_forms text (parts_of a) j (names_none n) (sym (same_forms n m xs ps e f g) ∙ h))))

  same_proc : (p q : Proc) → p.name ≡ q.name → p.names ≡ q.names → p.params ≡ q.params → p.body ≡ q.body → p ≡ q
  same_proc p q n m o b =
      ap (λ z. record { name = z; names = p.names; params = p.params; body = p.body }) n
      ∙ (ap (λ z. record { name = q.name; names = z; params = p.params; body = p.body }) m
      ∙ (ap (λ z. record { name = q.name; names = q.names; params = z; body = p.body }) o
      ∙ ap (λ z. record { name = q.name; names = q.names; params = q.params; body = z }) b))

  pub source_says : Named text ts a x → (m : ℕ) (xs : List Stmt) (ps : List ℕ) → m ≡ length x.body.names → xs ≡ x.body.stmts → ps ≡ x.body.starts.items
      → first_form ps (all_faults m xs) ≡ None → (p : Proc) → p.name ≡ spelled text x.name → p.names ≡ x.body.names → p.params ≡ x.params → p.body ≡ x.body.stmts → SourceOutcome text (says p)
  source_says n m xs ps e f g h p i1 i2 i3 i4 =
      tree n.seen.short ts n.seen.spelled a n.seen.found
      (ap says (same_proc p (proc_of text (parts_of a)) (i1 ∙ ap (spelled text) n.seen.source.name) (i2 ∙ same_names n) (i3 ∙ n.seen.source.params) (i4 ∙ same_stmts n))
      ∙ sym (judged_says text (parts_of a) (names_none n) (sym (same_forms n m xs ps e f g) ∙ h)))

-- ---- conditions

pub record Told (names : List (List ℕ)) (text : List ℕ) (ts : List Token) (a : Tree Token) (x : Cond) : Type 0 where
  pub short : length text ≤ 65536
  pub spelled : Tokens 0 text ts
  pub found : Finds language IsDeep cond ts (whole a)
  pub said : cond_of (place_in text names) a ≡ x

pub record ToldKnown (names : List (List ℕ)) (text : List ℕ) (ts : List Token) (a : Tree Token) (x : Cond) : Type 0 where
  pub told : Told names text ts a x
  pub good : descent.used_fault text names ts ≡ None

module _ (names : List (List ℕ)) (text : List ℕ) (ts : List Token) (a : Tree Token) (x : Cond) where
  leaves_are : Told names text ts a x → leaves a ≡ ts
  leaves_are s = derived_leaves s.found.0

  abbrev later : Cond → Outcome (List (List Atom))
  later c = first_of (form_at (first_at a) (dnf_fault (length names) c false)) (says (conjunctions_of (length names) c false))

  pub bad_use : Told names text ts a x → (f : DescentFault) → descent.used_fault text names ts ≡ Some f → Faulty (ConditionOutcome names text) (raised f)
  bad_use s f e =
      inr (tree s.short ts s.spelled a s.found (sym (ap (λ z. first_of z (later (cond_of (place_in text names) a))) (ap (used_fault text names) (leaves_are s) ∙ ap (option_map raised) e))))

  good_told : ToldKnown names text ts a x → GoodCond (length names) (place_in text names) (cond_of (place_in text names) a)
  good_told n = good_cond (length names) (place_in text names) n.told.found.0 (record {
    known = used_known text names ts n.good;
    small = small_tokens n.told.spelled;
    few = few_of ts n.told.found.1;
  })

  pub told_below : ToldKnown names text ts a x → (m : ℕ) → m ≡ length names → cond_is_below m x ≡ true
  told_below n m e = ap₂ cond_is_below e (sym n.told.said) ∙ (good_told n).below

  judged_later : ToldKnown names text ts a x → judge_condition names text a ≡ later x
  judged_later n =
      ap (λ z. first_of z (later (cond_of (place_in text names) a))) (ap (used_fault text names) (leaves_are n.told) ∙ ap (option_map raised) n.good) ∙ ap later n.told.said

  pub bad_condition : ToldKnown names text ts a x → (m at : ℕ) → m ≡ length names → at ≡ head_at ts → (f : FormFault) → IsCause f (dnf_fault m x false) → Faulty (ConditionOutcome names text) (fault (form_kind f) at)
  bad_condition n m at e h f (inl q) = inl (ap form_kind q)
  bad_condition n m at e h f (inr q) =
      inr (tree n.told.short ts n.told.spelled a n.told.found
      (sym (judged_later n ∙ (ap (λ z. first_of (form_at (first_at a) z) (says (conjunctions_of (length names) x false))) (ap (λ z. dnf_fault z x false) (sym e) ∙ q)
      ∙ ap (λ z. refuses (fault (form_kind f) z)) (ap head_at (leaves_are n.told) ∙ sym h)))))

  pub condition_says : ToldKnown names text ts a x → (m : ℕ) → m ≡ length names → dnf_fault m x false ≡ None → (cases : List (List Atom)) → cases ≡ conjunctions_of m x false → ConditionOutcome names text (says cases)
  condition_says n m e q cases c =
      tree n.told.short ts n.told.spelled a n.told.found
      (ap says (c ∙ ap (λ z. conjunctions_of z x false) e)
      ∙ sym (judged_later n ∙ ap (λ z. first_of (form_at (first_at a) z) (says (conjunctions_of (length names) x false))) (ap (λ z. dnf_fault z x false) (sym e) ∙ q)))

  pub few_operators : ToldKnown names text ts a x → cond_operators x ≤ 64
  few_operators n =
      leb-true (cond_operators x) 64 (and_parts (cond_literals_fit x) _ (ap cond_is_limited (sym n.told.said) ∙ (good_told n).limited)).1
