-- All folds of both programs: over the printed atoms of the folded systems nothing is lost.
use Rattle.std.specs.Prelude.{◌≡◌, ℕ, ◌-◌, ◌<◌, Bool, true, false, List, [], ◌∷◌, ◌++◌, length, slice_index_or}
use Rattle.std.proofs.Common.{refl, sym, ap, ◌∙◌, subst, arith, inl, inr, append-nil}
use Rattle.std.proofs.lemmas.Bool.{cases_lt}
use Rattle.dc_math.specs.Members.{Among, head, among_each, none_among, among_cons, among-left, among-right, among-++, mapped_among}
use Rattle.dc_math.specs.Rational.{ℚ}
use Rattle.dc_syntax.specs.declared.tree.Side.TheVariants.{New, Old}
use Rattle.dc_affine.specs.declared.atom.Atom.{Atom}
use Rattle.dc_system.specs.declared.edges.Edge.{Edge}
use Rattle.dc_system.specs.declared.edges.System.{System}
use Rattle.dc_system.specs.Folded.{IsFolded, numbers_below}
use Rattle.dc_system.specs.Shapes.{IsWellFormed}
use Rattle.dc_system.specs.Spots.{Net}
use Rattle.dc_system.proofs.EveryFold.{every_folded}
use Rattle.dc_system.proofs.OneFold.{one_folded}
use Rattle.dc_system.proofs.Renumbered.{foldings_keep, starts}
use Rattle.dc_points.specs.Points.{Point, MeetsAt, MeetsAll}
use Rattle.dc_rows.specs.declared.kinds.Candidates.{Candidates}
use Rattle.dc_rows.specs.Candidate.{AreCandidates}
use Rattle.dc_families.specs.Graphs.{graph_of}
use Rattle.dc_families.specs.Families.{Family, never, has_atom, family_of, least_atom}
use Rattle.dc_families.specs.Printed.{Question, Pruned, done, drops, keeps, IsPrinted, ArePrinted}
use Rattle.dc_families.specs.Rounds.{IsOver, IsInductive, IsWithin, HasCandidates}
use Rattle.dc_families.proofs.Fixed.{has_greatest}
use Rattle.dc_families.proofs.Folds.{systems_are_graphs}
use Rattle.dc_families.proofs.Greatest.{one_greatest}
use Rattle.dc_families.proofs.Lists.{differ, past_none}
use Rattle.dc_families.proofs.Prunes.{has_printed, one_printed_each, printed_say_lists, printed_are_inductive}
use Rattle.dc_families.proofs.Reached.{candidates_over}
use Rattle.dc_families.proofs.Tests.{has_among, among_has, in_everything, everything_is}
use Rattle.dc_families.proofs.Upward.{least_is, lists_are_families}
use Rattle.dc_claims.specs.Duties.{Pair}
use Rattle.dc_claims.specs.Claims.{IsCertified}
use Rattle.dc_folding.specs.Folds.{IsFoldable, without_location, lists_without, HasPrintedAtoms, IsFoldOf}
use Rattle.dc_folding.specs.Laws.{AreStronger, AreFormed, SomeFold, OneFoldOf, FoldingLosesNothing, LeastNeverRises}
use Rattle.dc_folding.proofs.Stronger.{stronger_atoms}
use Rattle.dc_folding.proofs.OneFold.{one_fold}
use Rattle.dc_folding.proofs.Foldings.{Folds, folds}
use Rattle.dc_folding.proofs.Numbers.{with_side, numbered, lists_now, below_length, stood, numbered_inductive, new_renumbered, old_renumbered}

-- ---- printed atoms are of the family
module _ (c : Candidates) (J : Family) (l : ℕ) where
  still_rows : {rows back left : List ℕ} {asked : List Question} → Pruned c J l rows back asked left → (r : ℕ) → Among r left → Among r (rows ++ back)
  still_rows done r m = m
  still_rows {back = back} (drops {front = f} t e n rest) r m = elim (among-++ f (still_rows rest r m)) [
    | inl k ↦ among-left back (subst (Among r) (sym e) (among-left (t ∷ []) k))
    | inr k ↦ among-right _ k
  ]
  still_rows {back = back} (keeps {front = f} t e n rest) r m = elim (among-++ f (still_rows rest r m)) [
    | inl k ↦ among-left back (subst (Among r) (sym e) (among-left (t ∷ []) k))
    | inr k ↦ elim (among_cons k) [
      | inl s ↦ among-left back (subst (Among r) (sym e) (among-right f (subst (λ x. Among x (t ∷ [])) (sym s) head)))
      | inr i ↦ among-right _ i
    ]
  ]

  printed_there : (n : ℕ) (printed : List Atom) (asked : List Question) → IsPrinted c J l n printed asked → (a : Atom) → Among a printed → J l a ≡ true
  printed_there n printed asked h a m = by (J l (never n)) refl
    where
      by : (b : Bool) → J l (never n) ≡ b → J l a ≡ true
      by true e = elim (among_cons (subst (Among a) (h.dead e).0 m)) [ inl s ↦ ap (J l) s ∙ e | inr z ↦ none_among z ]
      by false e =
          let x = h.other e in
          let f = mapped_among (least_atom c J l) x.left (subst (Among a) x.is m) in
          ap (J l) f.is ∙ least_is c J l f.of (subst (Among f.of) (append-nil _) (still_rows x.pruned f.of f.among))

module _ (s : System) (cases : List (List Atom)) (c : Candidates) (printed : List (List Atom)) (h : HasPrintedAtoms s cases c printed) where
  printed_within : IsWithin (family_of printed) h.family
  printed_within l a t = elim (cases_lt l s.locs) [
    | inl i ↦ printed_there c h.family l s.vars _ _ (h.is.each l i) a (has_among _ a t)
    | inr i ↦ let e : slice_index_or printed l [] ≡ [] = past_none printed l [] (let k = h.is.one_each in omega arith) in differ (sym (subst (λ xs. has_atom xs a ≡ true) e t))
  ]

  printed_candidates : HasCandidates (graph_of s) c (family_of printed)
  printed_candidates l a t = h.greatest.candidates l a (printed_within l a t)

  module _ (w : IsWellFormed s) (kind : AreCandidates s.vars c) where
    printed_over : IsOver s.vars (family_of printed)
    printed_over = candidates_over (graph_of s) c (family_of printed) kind printed_candidates

    printed_inductive : IsInductive (graph_of s) cases (family_of printed)
    printed_inductive = printed_are_inductive (graph_of s) cases c h.family printed h.asked (systems_are_graphs s w) kind h.greatest h.is

  -- they entail the lists of each inductive family of candidates
  printed_entail : AreCandidates s.vars c → (lists : List (List Atom)) → HasCandidates (graph_of s) c (family_of lists) → IsInductive (graph_of s) cases (family_of lists)
      → (l : ℕ) (x : Point) → MeetsAll x (slice_index_or printed l []) → MeetsAll x (slice_index_or lists l [])
  printed_entail kind lists g i l x m = among_each (MeetsAt x) (slice_index_or lists l []) (λ a j. by a (among_has a (slice_index_or lists l []) j))
    where
      by : (a : Atom) → family_of lists l a ≡ true → MeetsAt x a
      by a t =
          let b = (everything_is (graph_of s) c l a (g l a t)).0 in
          let f = (lists_are_families (graph_of s) c h.family l x kind h.greatest.candidates).0 ((printed_say_lists (graph_of s) c h.family printed h.asked l x h.is b).0 m) in
          f.each a (h.greatest.contains (family_of lists) g i l a t)

-- ---- one side
module _ (s t : System) (cases : List (List Atom)) (c : Candidates) (printed : List (List Atom)) (w : IsWellFormed s) (kind : AreCandidates s.vars c) (F : IsFolded s t)
    (h : HasPrintedAtoms s cases c printed) (Keeps : System → List (List Atom) → Type 0)
    (step : (s : System) (lists : List (List Atom)) (l : ℕ) (c : Edge) → IsWellFormed s → IsOver s.vars (family_of lists) → IsFoldable s l c
    → IsInductive (graph_of s) cases (family_of lists) → Keeps s lists → Keeps (without_location l c s) (lists_without l lists))
    (renumber : (s : System) (lists : List (List Atom)) (left : List ℕ) (net : Net s.vars (s.locs - 1) left s.edges) → Keeps s lists → Keeps (numbered s left net) (lists_now s left net lists))
    (kept : Keeps s printed) where
  last : Folds s cases printed Keeps step F.edges
  last = folds s cases printed Keeps step w (printed_over s cases c printed h w kind) (printed_inductive s cases c printed h w kind) kept F.folding

  abbrev folded_system : System
  folded_system = record { vars = s.vars; params = s.params; locs = s.locs; edges = F.edges; literals = s.literals }

  net : Net s.vars (s.locs - 1) F.left F.edges
  net = (foldings_keep s.vars (s.locs - 1) (numbers_below s.locs) s.edges w.few_vars (starts s w) F.folding).net

  pub record Carried : Type 0 where
    pub lists : List (List Atom)
    pub inductive : IsInductive (graph_of t) cases (family_of lists)
    pub candidates : HasCandidates (graph_of t) c (family_of lists)
    pub keeps : Keeps t lists

  abbrev lists_there : List (List Atom)
  lists_there = lists_now folded_system F.left net last.now

  carried_candidates : HasCandidates (graph_of (numbered folded_system F.left net)) c (family_of lists_there)
  carried_candidates m a v =
      let o = stood folded_system F.left net last.now m a v in
      let b = everything_is (graph_of s) c o.location a (printed_candidates s cases c printed h o.location a (last.within o.location a o.has)) in
      in_everything (graph_of (numbered folded_system F.left net)) c m a
      (subst (λ k. k < length F.left) o.number (below_length folded_system F.left net o.location o.stays)) b.1

  pub carried : Carried
  carried = record {
    lists = lists_there;
    inductive = subst (λ t. IsInductive (graph_of t) cases (family_of lists_there)) (sym F.is) (numbered_inductive folded_system F.left net last.now cases last.inductive);
    candidates = subst (λ t. HasCandidates (graph_of t) c (family_of lists_there)) (sym F.is) carried_candidates;
    keeps = subst (λ t. Keeps t lists_there) (sym F.is) (renumber folded_system last.now F.left net last.kept);
  }

-- ---- both sides
same_vars : (s t : System) → IsFolded s t → t.vars ≡ s.vars
same_vars s t F = ap (λ (x : System). x.vars) F.is

module _ (q p : Pair) (c e : Candidates) (g : AreFormed p c e) (f : IsFoldOf q p c e) (d k : ℕ) (t : ℚ) (certified : IsCertified p d k t) where
  new_side : Carried p.new q.new p.cases c p.new_atoms g.new g.new_candidates f.new_folded f.before.new
      (λ s lists. IsCertified (with_side New s lists p) d k t)
      (λ s lists l g w o h i v. one_fold (with_side New s lists p) d k New l g t (record { formed = w; over = o; inductive = i }) h v)
      (λ s lists left net v. new_renumbered (with_side New s lists p) d k t left net v) certified
  new_side = carried p.new q.new p.cases c p.new_atoms g.new g.new_candidates f.new_folded f.before.new
      (λ s lists. IsCertified (with_side New s lists p) d k t)
      (λ s lists l g w o h i v. one_fold (with_side New s lists p) d k New l g t (record { formed = w; over = o; inductive = i }) h v)
      (λ s lists left net v. new_renumbered (with_side New s lists p) d k t left net v) certified

  abbrev between : Pair
  between = with_side New q.new new_side.lists p

  old_side : Carried p.old q.old p.cases e p.old_atoms g.old g.old_candidates f.old_folded f.before.old
      (λ s lists. IsCertified (with_side Old s lists between) d k t)
      (λ s lists l g w o h i v. one_fold (with_side Old s lists between) d k Old l g t (record { formed = w; over = o; inductive = i }) h v)
      (λ s lists left net v. old_renumbered (with_side Old s lists between) d k t left net v) new_side.keeps
  old_side = carried p.old q.old p.cases e p.old_atoms g.old g.old_candidates f.old_folded f.before.old
      (λ s lists. IsCertified (with_side Old s lists between) d k t)
      (λ s lists l g w o h i v. one_fold (with_side Old s lists between) d k Old l g t (record { formed = w; over = o; inductive = i }) h v)
      (λ s lists left net v. old_renumbered (with_side Old s lists between) d k t left net v) new_side.keeps

  abbrev both : Pair
  both = with_side Old q.old old_side.lists between

  new_printed : HasPrintedAtoms q.new p.cases c q.new_atoms
  new_printed = subst (λ cases. HasPrintedAtoms q.new cases c q.new_atoms) f.cases f.after.new

  old_printed : HasPrintedAtoms q.old p.cases e q.old_atoms
  old_printed = subst (λ cases. HasPrintedAtoms q.old cases e q.old_atoms) f.cases f.after.old

  stronger : AreStronger q.new_atoms q.old_atoms both
  stronger New l x m =
      printed_entail q.new p.cases c q.new_atoms new_printed (subst (λ n. AreCandidates n c) (sym (same_vars p.new q.new f.new_folded)) g.new_candidates)
      new_side.lists new_side.candidates new_side.inductive l x m
  stronger Old l x m =
      printed_entail q.old p.cases e q.old_atoms old_printed (subst (λ n. AreCandidates n e) (sym (same_vars p.old q.old f.old_folded)) g.old_candidates)
      old_side.lists old_side.candidates old_side.inductive l x m

  certified_after : IsCertified q d k t
  certified_after =
      subst (λ cases. IsCertified (record { new = q.new; new_atoms = q.new_atoms; old = q.old; old_atoms = q.old_atoms; cases = cases }) d k t) (sym f.cases)
      (stronger_atoms both q.new_atoms q.old_atoms d k t stronger old_side.keeps)

pub folding_loses_nothing : FoldingLosesNothing
folding_loses_nothing q p d k c e t g f v = certified_after q p c e g f d k t v

pub least_never_rises : LeastNeverRises
least_never_rises q p d k c e g f = record {
  least = λ t u h i. i.least t (folding_loses_nothing q p d k c e t g f h.certified);
  none = λ n t v. n t (folding_loses_nothing q p d k c e t g f v);
  every = λ v t. folding_loses_nothing q p d k c e t g f (v t);
}

-- ---- the folded pair
printed_for : (s : System) (cases : List (List Atom)) (c : Candidates) → (printed : List (List Atom)) × HasPrintedAtoms s cases c printed
printed_for s cases c =
    let G = has_greatest (graph_of s) cases c in
    let P = has_printed (graph_of s) c G.0 in
    (P.0, record { family = G.0; greatest = G.1; asked = P.1; is = P.2 })

pub some_fold : SomeFold
some_fold p c e g h =
    let n = every_folded p.new g.new in
    let o = every_folded p.old g.old in
    let a = printed_for n.0 p.cases c in
    let b = printed_for o.0 p.cases e in (
      record { new = n.0; new_atoms = a.0; old = o.0; old_atoms = b.0; cases = p.cases },
      record { new_folded = n.1; old_folded = o.1; cases = refl; before = h; after = record { new = a.1; old = b.1 } },
    )

same_printed : (s t : System) (cases cases' : List (List Atom)) (c : Candidates) (xs ys : List (List Atom)) → s ≡ t → cases ≡ cases' → HasPrintedAtoms s cases c xs → HasPrintedAtoms t cases' c ys → xs ≡ ys
same_printed s t cases cases' c xs ys e f h k = by h (subst (λ s. HasPrintedAtoms s cases c ys) (sym e) (subst (λ cases. HasPrintedAtoms t cases c ys) (sym f) k))
  where
    by : HasPrintedAtoms s cases c xs → HasPrintedAtoms s cases c ys → xs ≡ ys
    by h k =
        let J = one_greatest (graph_of s) cases c k.family h.family k.greatest h.greatest in
        (one_printed_each (graph_of s) c h.family xs ys h.asked k.asked h.is (subst (λ J. ArePrinted (graph_of s) c J ys k.asked) J k.is)).0

pub one_fold_of : OneFoldOf
one_fold_of q r p c e f g =
    let n = one_folded p.new q.new r.new f.new_folded g.new_folded in
    let o = one_folded p.old q.old r.old f.old_folded g.old_folded in
    let v = f.cases ∙ sym g.cases in
    let a = same_printed q.new r.new q.cases r.cases c q.new_atoms r.new_atoms n v f.after.new g.after.new in
    let b = same_printed q.old r.old q.cases r.cases e q.old_atoms r.old_atoms o v f.after.old g.after.old in
    (λ i. record { new = n i; new_atoms = a i; old = o i; old_atoms = b i; cases = v i })
