-- An analysis has one first refusal or none, and then one certificate.
use Rattle.std.specs.Prelude.{◌≡◌, ◌⊎◌, ℕ, cond, List, [], ◌∷◌, ◌++◌, Option, Some, None}
use Rattle.std.proofs.Common.{refl, sym, ◌∙◌, ap, ap₂, subst, inl, inr, arith}
use Rattle.dc_math.specs.Rational.{ℚ}
use Rattle.dc_syntax.specs.declared.tree.Proc.{Proc}
use Rattle.dc_affine.specs.declared.atom.Atom.{Atom}
use Rattle.dc_lp.specs.Tables.{Table}
use Rattle.dc_lp.specs.Meanings.{resting}
use Rattle.dc_simplex.specs.Limits.{Answer, Done, Past, Out}
use Rattle.dc_simplex.proofs.OneAnswer.{has_answer, has_one_answer}
use Rattle.dc_points.specs.Stated.{rational}
use Rattle.dc_system.specs.declared.edges.System.{System}
use Rattle.dc_system.specs.Systems.{system_of}
use Rattle.dc_system.proofs.OneFold.{one_folded}
use Rattle.dc_cert.specs.declared.certificate.Certificate.{Certificate}
use Rattle.dc_cert.specs.declared.certificate.Claim.{Claim}
use Rattle.dc_cert.specs.Claims.{claim_of}
use Rattle.dc_entail.specs.declared.answer.Site.{Site}
use Rattle.dc_entail.specs.Asked.{Asked, Answers, IsDone, AllDone, IsRefusal as IsRefused, Refuses, HasRefusal}
use Rattle.dc_entail.proofs.Refusals.{refusals_join, excludes, done_or_refused}
use Rattle.dc_clauses.specs.declared.step.Step.{Step}
use Rattle.dc_clauses.specs.Steps.{is_true, step, AllHold, first_failure}
use Rattle.dc_clauses.specs.Sides.{family_steps}
use Rattle.dc_check.specs.Systems.{IsSystemOf}
use Rattle.dc_check.specs.Answers.{claim_steps, Accepts, IsFirst, FailsAt}
use Rattle.dc_session.specs.declared.fault.PastAt.TheVariants.{Pivot, Fold}
use Rattle.dc_session.specs.declared.fault.AnalyseFault.{AnalyseFault}
use Rattle.dc_session.specs.declared.fault.AnalyseFault.TheVariants.{TooLarge, Past128, Budget, NoMemory}
use Rattle.dc_session.specs.Session.{Input, Analysis, IsAnalysis, early_asked, main_asked, session_of}
use Rattle.dc_session.specs.Made.{IsMade}
use Rattle.dc_session.specs.Refusals.{Excess, early_excess, main_excess, IsThrough, Exceeds, RefusesAt, FoldsPast, IsRefusal}
use Rattle.dc_session.specs.Laws.{ThroughOrRefused, OneRefusal, OneCertificate, CertificatesExclude}
use Rattle.dc_session.proofs.Analyses.{has_analysis, one_analysis}
use Rattle.dc_session.proofs.Certificates.{one_made}

-- ---- lists of problems
both : (budget : ℕ) (q : Asked) (a : Answer) → IsRefused a → Answers budget q a → ¬ IsDone budget q
both budget q a r h (n, e, t, d) = subst IsRefused (has_one_answer (rational q.problem) budget a (Done n e t) h d) r

one_refused : (budget : ℕ) (ps : List Asked) (q z : Site) (a b : Answer) → Refuses budget ps q a → Refuses budget ps z b → (q ≡ z) × (a ≡ b)
one_refused budget [] q z a b h k = absurd h
one_refused budget (p ∷ ps) q z a b (inl h) (inl k) = (h.0 ∙ sym k.0, has_one_answer (rational p.problem) budget a b h.2 k.2)
one_refused budget (p ∷ ps) q z a b (inl h) (inr k) = absurd (both budget p a h.1 h.2 k.0)
one_refused budget (p ∷ ps) q z a b (inr h) (inl k) = absurd (both budget p b k.1 k.2 h.0)
one_refused budget (p ∷ ps) q z a b (inr h) (inr k) = one_refused budget ps q z a b h.1 k.1

early_done : (budget : ℕ) (ps qs : List Asked) → AllDone budget (ps ++ qs) → AllDone budget ps
early_done budget [] qs d = tt
early_done budget (p ∷ ps) qs d = (d.0, early_done budget ps qs d.1)

-- a refusal is of a pivot, or of the budget
pub is_past_or_out : (budget : ℕ) (ps : List Asked) (q : Site) (a : Answer) → Refuses budget ps q a → ((k : ℕ) × (a ≡ Past k)) ⊎ (a ≡ Out budget)
is_past_or_out budget [] q a h = absurd h
is_past_or_out budget (p ∷ ps) q (Done n e t) (inl h) = absurd h.1
is_past_or_out budget (p ∷ ps) q (Past k) (inl h) = inl (k, refl)
is_past_or_out budget (p ∷ ps) q (Out n) (inl h) = inr (ap Out h.2.1)
is_past_or_out budget (p ∷ ps) q a (inr h) = is_past_or_out budget ps q a h.1

-- ---- one refusal of each kind, and of one kind
pub some_same : {A : Type 0} (x : A) (y : A) (o : Option A) → o ≡ Some x → o ≡ Some y → x ≡ y
some_same x y o e f = cc

pub some_none : {A : Type 0} (x : A) (o : Option A) → o ≡ Some x → o ≡ None → ⊥
some_none x o e f = cc

past_out : (k n : ℕ) → ◌≡◌ {A = Answer} (Past k) (Out n) → ⊥
past_out k n e = cc

past_same : (k n : ℕ) → ◌≡◌ {A = Answer} (Past k) (Past n) → k ≡ n
past_same k n e = cc

-- ---- the checker fails at one step, or accepts
pub one_system : (version : ℕ) (p : Proc) (s t : System) → IsSystemOf version p s → IsSystemOf version p t → s ≡ t
one_system version p s t (inl h) (inl k) = h.1 ∙ sym k.1
one_system version p s t (inl (e, h)) (inr (f, k)) = absurd (omega arith)
one_system version p s t (inr (e, h)) (inl (f, k)) = absurd (omega arith)
one_system version p s t (inr h) (inr k) = one_folded (system_of p) s t h.1 k.1

pub holds_none : (ss : List Step) → AllHold ss → first_failure ss ≡ None
holds_none [] h = refl
holds_none (s ∷ ss) h = ap (λ t. cond (is_true t) (first_failure ss) (Some s)) h.0 ∙ holds_none ss h.1

module _ (new old : Proc) (cases : List (List Atom)) (c : Certificate) where
  first_same : (s t : System) (x y : Step) → IsFirst s t cases c x → IsFirst s t cases c y → x ≡ y
  first_same s t x y (inl h) (inl k) = some_same x y _ h k
  first_same s t x y (inl h) (inr (r, k)) = absurd (some_none x _ h (holds_none (family_steps s t cases c) r.families))
  first_same s t x y (inr (r, h)) (inl k) = absurd (some_none y _ k (holds_none (family_steps s t cases c) r.families))
  first_same s t x y (inr (r, h)) (inr (q, k)) = some_same x y _ h k

  moved : (s t y z : System) (x : Step) → s ≡ y → t ≡ z → IsFirst y z cases c x → IsFirst s t cases c x
  moved s t y z x e f h = subst (λ a. IsFirst a t cases c x) (sym e) (subst (λ b. IsFirst y b cases c x) (sym f) h)

  pub one_failure : (x y : Step) → FailsAt new old cases c x → FailsAt new old cases c y → x ≡ y
  one_failure x y h k =
      let e = one_system c.version new h.new_system k.new_system h.systems.new_system k.systems.new_system in
      let f = one_system c.version old h.old_system k.old_system h.systems.old_system k.systems.old_system in
      first_same h.new_system h.old_system x y h.first (moved h.new_system h.old_system k.new_system k.old_system y e f k.first)

  no_first : (s t : System) (x : Step) → IsFirst s t cases c x → AllHold (family_steps s t cases c) → AllHold (claim_steps s t cases c) → ⊥
  no_first s t x (inl h) f g = some_none x (first_failure (family_steps s t cases c)) h (holds_none (family_steps s t cases c) f)
  no_first s t x (inr (r, h)) f g = some_none x (first_failure (claim_steps s t cases c)) h (holds_none (claim_steps s t cases c) g)

  pub accepts_or_fails : (k : Claim) (x : Step) → Accepts new old cases c k → FailsAt new old cases c x → ⊥
  accepts_or_fails k x h g =
      let e = one_system c.version new h.new_system g.new_system h.systems.new_system g.systems.new_system in
      let f = one_system c.version old h.old_system g.old_system h.systems.old_system g.systems.old_system in
      no_first h.new_system h.old_system x (moved h.new_system h.old_system g.new_system g.old_system x e f g.first) h.ready.families h.claims

module _ (i : Input) where
  abbrev budget : ℕ
  budget = i.settings.pivots

  one_excess : (e d : Excess) → Exceeds i e → Exceeds i d → e ≡ d
  one_excess e d (inl h) (inl k) = some_same e d _ h k
  one_excess e d (inl h) (inr (b, k, y)) = absurd (some_none e _ h k.counts)
  one_excess e d (inr (a, h, x)) (inl k) = absurd (some_none d _ k h.counts)
  one_excess e d (inr (a, h, x)) (inr (b, k, y)) =
      some_same e d (main_excess i a) x (ap (main_excess i) (one_analysis i a b h.analysis k.analysis) ∙ y)

  excess_or_problem : (e : Excess) (q : Site) (r : Answer) → Exceeds i e → RefusesAt i q r → ⊥
  excess_or_problem e q r (inl h) k = some_none e _ h k.counts
  excess_or_problem e q r (inr (a, h, x)) k =
      let s = one_analysis i a k.analysis h.analysis k.right in
      some_none e (main_excess i a) x (ap (main_excess i) s ∙ k.main_counts (subst (λ b. AllDone budget (early_asked i b)) s h.through))

  excess_or_through : (e : Excess) (b : Analysis) → Exceeds i e → IsThrough i b → ⊥
  excess_or_through e b (inl h) k = some_none e _ h k.counts
  excess_or_through e b (inr (a, h, x)) k =
      some_none e (main_excess i a) x (ap (main_excess i) (one_analysis i a b h.analysis k.analysis) ∙ k.main_counts)

  one_problem : (q z : Site) (r s : Answer) → RefusesAt i q r → RefusesAt i z s → (q ≡ z) × (r ≡ s)
  one_problem q z r s h k =
      let e = one_analysis i h.analysis k.analysis h.right k.right in
      one_refused budget (session_of i h.analysis) q z r s h.refuses (subst (λ b. Refuses budget (session_of i b) z s) (sym e) k.refuses)

  problem_or_through : (q : Site) (r : Answer) (b : Analysis) → RefusesAt i q r → IsThrough i b → ⊥
  problem_or_through q r b h k =
      let e = one_analysis i h.analysis b h.right k.analysis in
      excludes has_one_answer budget (session_of i h.analysis) q r h.refuses (subst (λ x. AllDone budget (session_of i x)) (sym e) k.through)

  -- the certificate that is made is one, over whichever analysis
  one_certificate_of : (a b : Analysis) (t u : Table ℚ) (c d : Certificate) → IsThrough i a → IsThrough i b → IsMade i a t c → IsMade i b u d → (t ≡ u) × (c ≡ d)
  one_certificate_of a b t u c d h k m n =
      one_made i a t u c d m (subst (λ x. IsMade i x u d) (sym (one_analysis i a b h.analysis k.analysis)) n)

  folds_same : (c d k n : ℕ) → FoldsPast i c k → FoldsPast i d n → step c k None ≡ step d n None
  folds_same c d k n h g =
      let e = one_certificate_of h.analysis g.analysis h.table g.table h.certificate g.certificate h.through g.through h.made g.made in
      one_failure i.new i.old i.cases h.certificate (step c k None) (step d n None) h.fails
      (subst (λ x. FailsAt i.new i.old i.cases x (step d n None)) (sym e.1) g.fails)

  -- ---- one refusal
  pub one : (f g : AnalyseFault) → IsRefusal i f → IsRefusal i g → f ≡ g
  one (TooLarge s w n) (TooLarge t v m) h k =
      let e = one_excess _ _ h k in ap (λ (x : Excess). TooLarge x.side x.what x.count) e
  one (TooLarge s w n) (Past128 (Pivot q k)) h g = absurd (excess_or_problem _ q _ h g)
  one (TooLarge s w n) (Past128 (Fold c k)) h g = absurd (excess_or_through _ g.analysis h g.through)
  one (TooLarge s w n) (Budget q) h g = absurd (excess_or_problem _ q _ h g)
  one (TooLarge s w n) NoMemory h g = absurd g
  one (Past128 (Pivot q k)) (TooLarge t v m) h g = absurd (excess_or_problem _ q _ g h)
  one (Past128 (Pivot q k)) (Past128 (Pivot z l)) h g =
      let e = one_problem q z _ _ h g in ap₂ (λ x y. Past128 (Pivot x y)) e.0 (past_same k l e.1)
  one (Past128 (Pivot q k)) (Past128 (Fold c n)) h g = absurd (problem_or_through q _ g.analysis h g.through)
  one (Past128 (Pivot q k)) (Budget z) h g = absurd (past_out k _ (one_problem q z _ _ h g).1)
  one (Past128 (Pivot q k)) NoMemory h g = absurd g
  one (Past128 (Fold c k)) (TooLarge t v m) h g = absurd (excess_or_through _ h.analysis g h.through)
  one (Past128 (Fold c k)) (Past128 (Pivot z l)) h g = absurd (problem_or_through z _ h.analysis g h.through)
  one (Past128 (Fold c k)) (Past128 (Fold d n)) h g =
      let e = folds_same c d k n h g in ap (λ (s : Step). Past128 (Fold s.clause s.index)) e
  one (Past128 (Fold c k)) (Budget z) h g = absurd (problem_or_through z _ h.analysis g h.through)
  one (Past128 (Fold c k)) NoMemory h g = absurd g
  one (Budget q) (TooLarge t v m) h g = absurd (excess_or_problem _ q _ g h)
  one (Budget q) (Past128 (Pivot z l)) h g = absurd (past_out l _ (sym (one_problem q z _ _ h g).1))
  one (Budget q) (Past128 (Fold c n)) h g = absurd (problem_or_through q _ g.analysis h g.through)
  one (Budget q) (Budget z) h g = ap Budget (one_problem q z _ _ h g).0
  one (Budget q) NoMemory h g = absurd g
  one NoMemory g h k = absurd h

  -- ---- or every problem comes to its end
  abbrev Stops : Type 0
  Stops = (f : AnalyseFault) × IsRefusal i f

  stops_at : (q : Site) (r : Answer) → RefusesAt i q r → Stops
  stops_at q r h = by r h (is_past_or_out budget (session_of i h.analysis) q r h.refuses)
    where
      by : (r : Answer) → RefusesAt i q r → ((k : ℕ) × (r ≡ Past k)) ⊎ (r ≡ Out budget) → Stops
      by r h (inl (k, e)) = (Past128 (Pivot q k), subst (RefusesAt i q) e h)
      by r h (inr e) = (Budget q, subst (RefusesAt i q) e h)

  module _ (a : Analysis) (right : IsAnalysis i a) (counts : early_excess i ≡ None) where
    ends : main_excess i a ≡ None → AllDone budget (session_of i a) ⊎ HasRefusal budget (session_of i a) → ((b : Analysis) × IsThrough i b) ⊎ Stops
    ends e (inl d) = inl (a, record { analysis = right; counts = counts; main_counts = e; through = d })
    ends e (inr r) = inr (stops_at r.site r.answer (record { analysis = a; right = right; counts = counts; main_counts = λ d. e; refuses = r.refuses }))

    exceeds : (x : Excess) → main_excess i a ≡ Some x → AllDone budget (early_asked i a) ⊎ HasRefusal budget (early_asked i a) → Stops
    exceeds x e (inl d) =
        (TooLarge x.side x.what x.count, inr (a, record { analysis = right; counts = counts; through = d }, e))
    exceeds x e (inr r) = stops_at r.site r.answer (record {
      analysis = a;
      right = right;
      counts = counts;
      main_counts = λ d. absurd (excludes has_one_answer budget (early_asked i a) r.site r.answer r.refuses d);
      refuses = (refusals_join budget (early_asked i a) (main_asked i a ∷ []) r.site r.answer).1 (inl r.refuses);
    })

    through_or_stops : (o : Option Excess) → main_excess i a ≡ o → ((b : Analysis) × IsThrough i b) ⊎ Stops
    through_or_stops None e = ends e (done_or_refused has_answer budget (session_of i a))
    through_or_stops (Some x) e = inr (exceeds x e (done_or_refused has_answer budget (early_asked i a)))

pub one_refusal : OneRefusal
one_refusal i f g h k = one i f g h k

pub through_or_refused : ThroughOrRefused
through_or_refused i p q = by (early_excess i) refl
  where
    by : (o : Option Excess) → early_excess i ≡ o → ((a : Analysis) × IsThrough i a) ⊎ Stops i
    by (Some x) e = inr (TooLarge x.side x.what x.count, inl e)
    by None e = let a = has_analysis i p q e in through_or_stops i a.0 a.1 e (main_excess i a.0) refl

-- ---- answers
pub one_certificate : OneCertificate
one_certificate i l m c d h k =
    let e = one_certificate_of i h.analysis k.analysis h.table k.table c d h.through k.through h.made k.made in
    (h.rest ∙ ap resting e.0 ∙ sym k.rest, e.1)

pub certificates_exclude : CertificatesExclude
certificates_exclude i l c (TooLarge s w n) h k = excess_or_through i _ h.analysis k h.through
certificates_exclude i l c (Past128 (Pivot q p)) h k = problem_or_through i q _ h.analysis k h.through
certificates_exclude i l c (Past128 (Fold d n)) h k =
    let e = one_certificate_of i h.analysis k.analysis h.table k.table c k.certificate h.through k.through h.made k.made in
    accepts_or_fails i.new i.old i.cases c (claim_of c.body) (step d n None) h.accepted
    (subst (λ x. FailsAt i.new i.old i.cases x (step d n None)) (sym e.1) k.fails)
certificates_exclude i l c (Budget q) h k = problem_or_through i q _ h.analysis k h.through
certificates_exclude i l c NoMemory h k = k
