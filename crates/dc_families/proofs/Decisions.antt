-- Each family of candidates has a round, since every entailment is decided.
use Rattle.std.specs.Prelude.{◌≡◌, ℕ, Bool, true, false, ◌&&◌, List, [], ◌∷◌, ◌++◌, filter, ℤ, pos, negsuc, ◌*ℤ◌, ◌+ℤ◌, ◌≤ℤ◌}
use Rattle.std.proofs.Common.{refl, sym, ◌∙◌, inl, inr, arith}
use Rattle.std.proofs.lemmas.Bool.{and_parts, and_from, cases_eq}
use Rattle.std.proofs.lemmas.Int.{ints}
use Rattle.dc_math.specs.Members.{Among, head, tail, each-++, each_left, each_right, each_among, among_each, among_filter}
use Rattle.dc_affine.specs.declared.atom.Atom.{Atom}
use Rattle.dc_system.specs.declared.edges.Edge.{Edge}
use Rattle.dc_system.specs.After.{is_affine_after, atom_after}
use Rattle.dc_system.proofs.Filters.{in_kept}
use Rattle.dc_points.specs.Points.{Point, MeetsAt, MeetsAll, Entails, IsDead}
use Rattle.dc_points.specs.Flags.{IsFlag}
use Rattle.dc_points.proofs.Flags.{dead_flag, live_flag}
use Rattle.dc_rows.specs.declared.kinds.Candidates.{Candidates}
use Rattle.dc_families.specs.Graphs.{Graph}
use Rattle.dc_families.specs.Families.{Family, never, candidate_atoms}
use Rattle.dc_families.specs.Moves.{at_start}
use Rattle.dc_families.specs.Rounds.{MeetsFamily, CasesGive, EdgeGives, IsGiven, IsRound, HasCandidates}
use Rattle.dc_families.specs.Laws.{HasRound}
use Rattle.dc_families.proofs.Decided.{Decided, entailment_is_decided}
use Rattle.dc_families.proofs.Lists.{differ}
use Rattle.dc_families.proofs.Tests.{everything_is}

-- ---- a test for what is decided
abbrev pub answer : {P : Type 0} → Decided P → Bool
answer (inl p) = true
answer (inr p) = false

pub answer_true : {P : Type 0} (d : Decided P) → answer d ≡ true → P
answer_true (inl p) e = p
answer_true (inr p) e = differ (sym e)

pub true_answer : {P : Type 0} (d : Decided P) → P → answer d ≡ true
true_answer (inl p) q = refl
true_answer (inr p) q = absurd (p q)

-- ---- what each element of a list has
pub decide_each : {A : Type 0} (P : A → Type 0) → ((x : A) → Decided (P x)) → (xs : List A) → Decided ((x : A) → Among x xs → P x)
decide_each P d [] = inl (λ x m. elim m [ ])
decide_each {A = A} P d (y ∷ xs) = by (d y) (decide_each P d xs)
  where
    both : P y → ((x : A) → Among x xs → P x) → (x : A) → Among x (y ∷ xs) → P x
    both p f _ head = p
    both p f x (tail m) = f x m

    by : Decided (P y) → Decided ((x : A) → Among x xs → P x) → Decided ((x : A) → Among x (y ∷ xs) → P x)
    by (inl p) (inl f) = inl (both p f)
    by (inl p) (inr f) = inr (λ g. f (λ x m. g x (tail m)))
    by (inr p) f = inr (λ g. p (g y head))

decide_if : {P Q : Type 0} → Decided P → Decided Q → Decided (P → Q)
decide_if p (inl q) = inl (λ x. q)
decide_if (inl p) (inr q) = inr (λ f. q (f p))
decide_if (inr p) (inr q) = inl (λ x. absurd (p x))

decide_same : (m n : ℕ) → Decided (m ≡ n)
decide_same m n = elim (cases_eq m n) [ inl e ↦ inl e | inr e ↦ inr e ]

-- ---- the atoms of a location
abbrev pub all_held : ℕ → Candidates → Family → ℕ → List Atom
all_held n c J l = filter (J l) (candidate_atoms n c)

pub met_all : (n : ℕ) (c : Candidates) (J : Family) (l : ℕ) (p : Point) → MeetsFamily J l p → MeetsAll p (all_held n c J l)
met_all n c J l p m = among_each (MeetsAt p) _ (λ a k. m.each a (in_kept (J l) a (candidate_atoms n c) k).passes)

pub all_met : (s : Graph) (c : Candidates) (J : Family) (l : ℕ) (p : Point) → HasCandidates s c J → MeetsAll p (all_held s.vars c J l) → MeetsFamily J l p
all_met s c J l p h m = record { each = λ a j. each_among (MeetsAt p) m (among_filter (J l) a _ j (everything_is s c l a (h l a j)).1) }

-- ---- false is met nowhere
below_zero : (d : ℤ) → pos 1 ≤ℤ d → pos 0 ≤ℤ (negsuc 0 *ℤ d +ℤ pos 0) → ⊥
below_zero d h k = omega (arith, ints)

pub decide_dead : (hyps : List Atom) → Decided (IsDead hyps)
decide_dead hyps = elim (entailment_is_decided hyps (never 0)) [
  | inl e ↦ inl (λ p m. below_zero p.denominator p.positive (e p m))
  | inr e ↦ inr (λ d. e (λ p m. absurd (d p m)))
]

pub has_flag : (hyps : List Atom) → (b : Bool) × IsFlag b hyps
has_flag hyps = elim (decide_dead hyps) [
  | inl d ↦ (false, dead_flag hyps d)
  | inr n ↦ (true, live_flag hyps n)
]

module _ (s : Graph) (cases : List (List Atom)) (c : Candidates) (J : Family) (h : HasCandidates s c J) where
  decide_edge : (e : Edge) (a : Atom) → Decided (EdgeGives s J e a)
  decide_edge e a = by (is_affine_after e a.coefs) refl
    where
      atoms : List Atom
      atoms = all_held s.vars c J e.from ++ e.guard

      there : (p : Point) → MeetsFamily J e.from p → MeetsAll p e.guard → MeetsAll p atoms
      there p m g = each-++ (MeetsAt p) _ e.guard (met_all s.vars c J e.from p m) g

      back : (p : Point) → MeetsAll p atoms → MeetsFamily J e.from p
      back p m = all_met s c J e.from p h (each_left (MeetsAt p) _ e.guard m)

      guard : (p : Point) → MeetsAll p atoms → MeetsAll p e.guard
      guard p m = each_right (MeetsAt p) (all_held s.vars c J e.from) e.guard m

      by : (b : Bool) → is_affine_after e a.coefs ≡ b → Decided (EdgeGives s J e a)
      by true t = elim (entailment_is_decided atoms (atom_after s.vars e a)) [
        | inl d ↦ inl (λ p m g. (t, d p (there p m g)))
        | inr d ↦ inr (λ f. d (λ p m. (f p (back p m) (guard p m)).1))
      ]
      by false t = elim (decide_dead atoms) [
        | inl d ↦ inl (λ p m g. absurd (d p (there p m g)))
        | inr d ↦ inr (λ f. d (λ p m. differ (sym (f p (back p m) (guard p m)).0 ∙ t)))
      ]

  pub decide_given : (l : ℕ) (a : Atom) → Decided (IsGiven s cases J l a)
  decide_given l a =
      let entry = decide_if (decide_same l 0) (decide_each (λ case. Entails case (at_start s.params a)) (λ case. entailment_is_decided case (at_start s.params a)) cases) in
      let edges = decide_each (λ e. e.to ≡ l → EdgeGives s J e a) (λ e. decide_if (decide_same e.to l) (decide_edge e a)) s.edges in
      by entry edges
    where
      by : Decided (l ≡ 0 → CasesGive s cases a) → Decided ((e : Edge) → Among e s.edges → e.to ≡ l → EdgeGives s J e a) → Decided (IsGiven s cases J l a)
      by (inl x) (inl y) = inl (record { entry = x; edges = y })
      by (inl x) (inr y) = inr (λ g. y g.edges)
      by (inr x) y = inr (λ g. x g.entry)

  abbrev pub after_round : Family
  after_round l a = J l a && answer (decide_given l a)

  pub is_round : IsRound s cases J after_round
  is_round l a = (
    (λ k. let b = and_parts _ _ k in (b.0, answer_true (decide_given l a) b.1)),
    (λ k. and_from _ _ k.0 (true_answer (decide_given l a) k.1)),
  )

pub has_round : HasRound
has_round s cases c J h = (after_round s cases c J h, is_round s cases c J h)
