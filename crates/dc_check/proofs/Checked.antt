-- The steps of a check.
use Rattle.std.specs.Prelude.{◌≡◌, ℕ, ◌*◌, ◌≤◌, Bool, true, false, cond, ltb, if◌then◌else◌, List, [], ◌∷◌, length, ℤ, Option, Some, None, IsFalse}
use Rattle.std.proofs.Common.{refl, sym, ◌∙◌, ap, ap₂, subst, arith, inl, inr}
use Rattle.std.proofs.lemmas.Bool.{ltb-false}
use Rattle.std.proofs.lemmas.Option.{same_Some}
use Rattle.dc_frac.specs.Value.{value}
use Rattle.dc_syntax.specs.declared.tree.Proc.{Proc}
use Rattle.dc_syntax.specs.Params.{HaveSameParams}
use Rattle.dc_affine.specs.declared.atom.Atom.{Atom}
use Rattle.dc_program.specs.Programs.{IsProgram, IsCondition}
use Rattle.dc_lp.specs.declared.Problem.{Problem}
use Rattle.dc_lp.specs.Linear.{Linear}
use Rattle.dc_lp.specs.Problems.{linear_of}
use Rattle.dc_math.specs.Rational.{ℚ}
use Rattle.dc_points.specs.Stated.{rational}
use Rattle.dc_system.specs.declared.edges.System.{System}
use Rattle.dc_cert.specs.declared.certificate.Certificate.{Certificate}
use Rattle.dc_cert.specs.declared.certificate.Body.{Body}
use Rattle.dc_cert.specs.declared.certificate.Body.TheVariants.{Threshold, Nothing, Vacuous}
use Rattle.dc_cert.specs.Claims.{claim_of}
use Rattle.dc_cert.specs.Ranges.{IsCertificate}
use Rattle.dc_cert.specs.declared.certificate.Claim.{Claim}
use Rattle.dc_claims.specs.Duties.{Pair}
use Rattle.dc_claims.specs.Parts.{unknowns_of}
use Rattle.dc_claims.specs.Problems.{main_problem, columns_of}
use Rattle.dc_clauses.specs.declared.step.Step.{Step}
use Rattle.dc_clauses.specs.Steps.{Test, is_true, AllHold, step, first_failure}
use Rattle.dc_clauses.specs.Sides.{family_steps}
use Rattle.dc_clauses.specs.Mains as mains
use Rattle.dc_clauses.proofs.Walks.{all_hold}
use Rattle.dc_mainlines.specs.Laws.{ClaimOf}
use Rattle.dc_mainlines.specs.Paired.{IsPaired}
use Rattle.dc_mainlines.proofs.Mains.{main_problems_are_paired, steps_show_claims, problems_are_whole}
use Rattle.dc_syntax.specs.declared.tree.Count.TheVariants as count
use Rattle.dc_match.specs.declared.fault.MatchFault.{MatchFault}
use Rattle.dc_match.specs.declared.fault.MatchFault.TheVariants as match_fault
use Rattle.dc_check.specs.declared.fault.CheckFault.{CheckFault}
use Rattle.dc_check.specs.declared.fault.CheckFault.TheVariants.{Rejected, Past128, TooLarge, NoMemory}
use Rattle.dc_check.specs.Pairs.{pair, flags}
use Rattle.dc_check.specs.Systems.{HasSystems}
use Rattle.dc_check.specs.Claims.{ShowsClaim}
use Rattle.dc_check.specs.Laws.{SpeaksOfRuns}
use Rattle.dc_check.specs.Faults.{fault_of, fault_at, count_of}
use Rattle.dc_check.specs.Answers.{claim_steps, main_fault, IsReady, IsFirst, Accepts}
use Rattle.dc_check.specs.Refusals.{IsWidthFault, IsStepFault}
use Rattle.dc_check.proofs.Holding.{clauses_show_families}
use Rattle.dc_check.proofs.Fitting.{condition_cases, is_fit}
use Rattle.dc_check.proofs.Running.{well_formed, same_params, certificates_speak_of_runs}
use Rattle.dc_check.proofs.Counting.{unknowns-count}

-- ---- the first step that does not hold is not true
stops-false : (ss : List Step) (x : Step) → first_failure ss ≡ Some x → IsFalse (is_true x.test)
stops-false [] x e = absurd cc
stops-false (s ∷ ss) x e = by (is_true s.test) refl e (λ f. stops-false ss x f)
  where
    by : (b : Bool) → is_true s.test ≡ b → cond b (first_failure ss) (Some s) ≡ Some x → (first_failure ss ≡ Some x → IsFalse (is_true x.test)) → IsFalse (is_true x.test)
    by true q e r = r e
    by false q e r = ap (λ (y : Step). is_true y.test) (sym (same_Some s x e)) ∙ q

few_columns : (n : ℕ) (o : Option MatchFault) → (if ltb 8192 n then Some (match_fault.TooLarge count.Columns n) else o) ≡ None → n ≤ 8192
few_columns n o e = by (ltb 8192 n) refl e
  where
    by : (b : Bool) → ltb 8192 n ≡ b → (if b then Some (match_fault.TooLarge count.Columns n) else o) ≡ None → n ≤ 8192
    by true q f = absurd cc
    by false q f = ltb-false 8192 n q

module _ (s t : System) (cases : List (List Atom)) (c : Certificate) where
  raised : (x : Step) → IsFirst s t cases c x → IsFalse (is_true x.test) → IsStepFault s t cases c (fault_at x)
  raised x h f = by x.test refl f
    where
      is : (u : Test) → x.test ≡ u → x ≡ step x.clause x.index u
      is u q = ap (step x.clause x.index) q

      by : (u : Test) → x.test ≡ u → IsFalse (is_true u) → IsStepFault s t cases c (fault_of x.clause x.index u)
      by (Some true) q g = absurd cc
      by (Some false) q g = subst (IsFirst s t cases c) (is (Some false) q) h
      by None q g = subst (IsFirst s t cases c) (is None q) h

  pub family_fault : (x : Step) (o : Option Step) (f : CheckFault) → o ≡ Some x → o ≡ first_failure (family_steps s t cases c) → f ≡ fault_at x → IsStepFault s t cases c f
  family_fault x o f e q g = (let h : first_failure (family_steps s t cases c) ≡ Some x = sym q ∙ e in subst (IsStepFault s t cases c) (sym g) (raised x (inl h) (stops-false (family_steps s t cases c) x h)))

  pub families_hold : (o : Option Step) → o ≡ None → o ≡ first_failure (family_steps s t cases c) → AllHold (family_steps s t cases c)
  families_hold o e q = all_hold (family_steps s t cases c) (sym e ∙ q)

  pub width_fault : (f : CheckFault) → AllHold (family_steps s t cases c) → IsWidthFault s t cases c f → IsStepFault s t cases c f
  width_fault (Rejected k i) h w = absurd w
  width_fault (Past128 k i) h w = absurd w
  width_fault (TooLarge at what count) h w = (w.0, h, w.1)
  width_fault NoMemory h w = tt

  -- ---- the main problem that was made
  module _ (q : Problem) (u : ℕ) (m : linear_of q ≡ rational (main_problem (pair s t cases c) c.degree c.products (flags c))) (z : main_fault s t cases c ≡ None) where
    abbrev main : Linear ℤ
    main = main_problem (pair s t cases c) c.degree c.products (flags c)

    abbrev unknown : ℕ
    unknown = length (unknowns_of (pair s t cases c) c.degree)

    within : main.columns ≤ 8192
    within = few_columns (length (columns_of (pair s t cases c) c.degree c.products (flags c))) _ z

    paired : IsPaired main unknown
    paired = main_problems_are_paired (pair s t cases c) c.degree c.products (flags c)

    pub few_unknowns : count_of s t c.degree ≤ 8192
    few_unknowns = (let a = unknowns-count (pair s t cases c) c.degree in let b = paired.room in let d = within in omega arith)

    pub room : u ≡ count_of s t c.degree → u * 2 ≤ length q.columns.items
    room e = (let a = unknowns-count (pair s t cases c) c.degree in let b = paired.room in let d = ap (λ (l : Linear ℚ). l.columns) m in omega arith)

    whole : mains.whole_problem q ≡ main
    whole = problems_are_whole q main m

    same : u ≡ count_of s t c.degree → mains.claim_steps (mains.whole_problem q) u c.body ≡ claim_steps s t cases c
    same e = ap₂ (λ l n. mains.claim_steps l n c.body) whole (e ∙ sym (unknowns-count (pair s t cases c) c.degree))

    module _ (e : u ≡ count_of s t c.degree) (o : Option Step) (r : o ≡ first_failure (mains.claim_steps (mains.whole_problem q) u c.body)) where
      pub claim_fault : AllHold (family_steps s t cases c) → (x : Step) (f : CheckFault) → o ≡ Some x → f ≡ fault_at x → IsStepFault s t cases c f
      claim_fault h x f y g =
          let k : first_failure (claim_steps s t cases c) ≡ Some x = ap first_failure (sym (same e)) ∙ sym r ∙ y in
          subst (IsStepFault s t cases c) (sym g) (raised x (inr (record { families = h; size = z }, k)) (stops-false (claim_steps s t cases c) x k))

      pub claims_hold : o ≡ None → AllHold (claim_steps s t cases c)
      claims_hold y = all_hold (claim_steps s t cases c) (sym y ∙ r ∙ ap first_failure (same e))

-- ---- what is claimed is so
shows_claim : (new old : Proc) (cases : List (List Atom)) (p : Pair) (d k : ℕ) (b : Body) → SpeaksOfRuns new old cases p → ClaimOf p d k b → ShowsClaim new old cases p d k (claim_of b)
shows_claim new old cases p d k (Threshold t u l y) h g = record { bounds = h.bounds d k (value t) g.certified; least = g }
shows_claim new old cases p d k (Nothing y) h g = g
shows_claim new old cases p d k (Vacuous u l ru rl) h g = record { none = h.none d k g; every = g }

pub accepts : (new old : Proc) (s t : System) (cases : List (List Atom)) (c : Certificate) (k : Claim) → IsProgram new → IsProgram old → HaveSameParams new old → IsCondition new.params cases → IsCertificate c
    → HasSystems new old c.version s t → IsReady s t cases c → AllHold (claim_steps s t cases c) → k ≡ claim_of c.body → Accepts new old cases c k
accepts new old s t cases c k hn ho same ok cert y ready claims e =
    let ws = well_formed c.version new s hn y.new_size y.new_system in
    let wt = well_formed c.version old t ho y.old_size y.old_system in
    let ps = same_params c.version new s y.new_system in
    let params : s.params ≡ t.params = ps ∙ same.0 ∙ sym (same_params c.version old t y.old_system) in
    let os : IsCondition s.params cases = subst (λ n. IsCondition n cases) (sym ps) ok in
    let f = clauses_show_families s t cases c ws wt params (condition_cases s.params cases os.short os.atoms) cert ready.families in
    let fit = is_fit s t cases c ws wt params os cert ready.families in
    let runs = certificates_speak_of_runs new old c.version s t cases c hn ho same ok cert y ready.families in
    let g = steps_show_claims (pair s t cases c) c.degree c.products (flags c) c.body fit f.right claims in
    record {
      new_system = s;
      old_system = t;
      systems = y;
      ready = ready;
      claims = claims;
      claim = e;
      shows = subst (ShowsClaim new old cases (pair s t cases c) c.degree c.products) (sym e) (shows_claim new old cases (pair s t cases c) c.degree c.products c.body runs g);
    }
