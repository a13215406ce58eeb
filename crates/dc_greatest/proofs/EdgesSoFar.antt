-- The edges of a round one after another.
use Rattle.std.specs.Prelude.{◌≡◌, ◌↔◌, ◌⊎◌, ℕ, zero, suc, ◌+◌, ◌<◌, ◌≤◌, Bool, true, false, List, [], ◌∷◌, ◌++◌, map, take, drop, set, length, slice_index_or}
use Rattle.std.specs.List.{AllByRecursion}
use Rattle.std.proofs.Common.{refl, sym, ◌∙◌, ap, subst, inl, inr, arith, append-nil, append_assoc}
use Rattle.std.proofs.lemmas.Bool.{cases_eq}
use Rattle.std.proofs.lemmas.List.{take_all, get_or_default}
use Rattle.dc_math.specs.Members.{Among, head, none_among, among_cons, among-left, among-right, among-++, at_among}
use Rattle.dc_syntax.specs.declared.tree.Side.{Side}
use Rattle.dc_affine.specs.declared.atom.Atom.{Atom}
use Rattle.dc_simplex.specs.Limits.{Answer, Past, Out}
use Rattle.dc_system.specs.declared.edges.Edge.{Edge}
use Rattle.dc_system.specs.declared.edges.System.{System}
use Rattle.dc_system.specs.Shapes.{IsWellFormed, IsWithin as EndsWithin}
use Rattle.dc_points.specs.Points.{IsDead}
use Rattle.dc_points.specs.Shown.{IsFlag, AreFlags}
use Rattle.dc_entail.specs.Asked.{Asked, AllDone, Refuses}
use Rattle.dc_entail.specs.declared.answer.Site.{Site}
use Rattle.dc_entail.proofs.Refusals.{refusals_join}
use Rattle.dc_rows.specs.declared.kinds.Candidates.{Candidates}
use Rattle.dc_families.specs.Graphs.{Graph, with_edges}
use Rattle.dc_families.specs.Families.{Family}
use Rattle.dc_families.specs.Rounds.{EdgeGives, IsGiven, IsRound}
use Rattle.dc_families.proofs.Decisions.{decide_dead}
use Rattle.dc_families.proofs.Lists.{differ}
use Rattle.dc_greatest.specs.declared.family.LocFamily.{LocFamily}
use Rattle.dc_greatest.specs.declared.family.InvFault.{InvFault}
use Rattle.dc_greatest.specs.declared.family.InvFault.TheVariants.{Past128, Budget, NoMemory}
use Rattle.dc_greatest.specs.Kept.{stands_for, IsFit, IsShaped}
use Rattle.dc_greatest.specs.Parts.{for_edges, edge_atoms, edge_asked}
use Rattle.dc_greatest.specs.Answers.{IsFault}
use Rattle.dc_greatest.specs.Searches.{first_edges, EdgesAsk, EdgeAsks, IsSettledEdge, IsEdgeTaken, AreFirstTaken, AreEdgesTaken}
use Rattle.dc_greatest.proofs.Ends.{has_flags}
use Rattle.dc_greatest.proofs.Setting.{shaped_set, set_here, set_other}
use Rattle.dc_greatest.proofs.Shapes.{nowhere}
use Rattle.dc_greatest.proofs.Unchanged.{both_done}

-- ---- lists that are joined
take_next : (es : List Edge) (k : ℕ) (e : Edge) → k < length es → slice_index_or es k e ≡ e → take (suc k) es ≡ take k es ++ e ∷ []
take_next [] k e l s = absurd (omega arith)
take_next (g ∷ es) zero e l s = ap (λ x. x ∷ []) s
take_next (g ∷ es) (suc k) e l s = ap (λ xs. g ∷ xs) (take_next es k e (omega arith) s)

cut_at : (es : List Edge) (k : ℕ) (e : Edge) → k < length es → slice_index_or es k e ≡ e → es ≡ take k es ++ e ∷ drop (suc k) es
cut_at [] k e l s = absurd (omega arith)
cut_at (g ∷ es) zero e l s = ap (λ x. x ∷ es) s
cut_at (g ∷ es) (suc k) e l s = ap (λ xs. g ∷ xs) (cut_at es k e (omega arith) s)

long_take : (es : List Edge) (k : ℕ) → k ≤ length es → length (take k es) ≡ k
long_take es zero h = refl
long_take [] (suc k) h = absurd (omega arith)
long_take (e ∷ es) (suc k) h = ap suc (long_take es k (omega arith))

module _ (h : Edge → List Atom) where
  flags_join : (es : List Edge) (fs : List Bool) (ds : List Edge) (gs : List Bool) → AreFlags fs (map h es) → AreFlags gs (map h ds) → AreFlags (fs ++ gs) (map h (es ++ ds))
  flags_join [] [] ds gs a b = b
  flags_join [] (f ∷ fs) ds gs a b = absurd a
  flags_join (e ∷ es) [] ds gs a b = absurd a
  flags_join (e ∷ es) (f ∷ fs) ds gs a b = (a.0, flags_join es fs ds gs a.1 b)

  asked_join : (f : ℕ → Edge → Bool → List Asked) (k : ℕ) (es : List Edge) (fs : List Bool) (ds : List Edge) (gs : List Bool) → AreFlags fs (map h es)
      → for_edges f k (es ++ ds) (fs ++ gs) ≡ for_edges f k es fs ++ for_edges f (k + length es) ds gs
  asked_join f k [] [] ds gs a = let z : k ≡ k + 0 = omega arith in ap (λ j. for_edges f j ds gs) z
  asked_join f k [] (b ∷ fs) ds gs a = absurd a
  asked_join f k (e ∷ es) [] ds gs a = absurd a
  asked_join f k (e ∷ es) (b ∷ fs) ds gs a =
      let z : suc k + length es ≡ k + suc (length es) = omega arith in
      ap (λ xs. f k e b ++ xs) (asked_join f (suc k) es fs ds gs a.1 ∙ ap (λ j. for_edges f (suc k) es fs ++ for_edges f j ds gs) z)
      ∙ sym (append_assoc (f k e b) (for_edges f (suc k) es fs) (for_edges f (k + suc (length es)) ds gs))

module _ (side : Side) (s : Graph) (cases : List (List Atom)) (live : List Bool) (c : Candidates) (J : Family) (budget : ℕ) where
  abbrev atoms : Edge → List Atom
  atoms e = edge_atoms s c J e

  abbrev asks : ℕ → Edge → Bool → List Asked
  asks k e b = edge_asked side s c J k e b

  pub so_far_start : (fs : List LocFamily) → IsShaped s.locs c fs → IsRound (first_edges 0 s) cases J (stands_for s.vars c fs) → AreFirstTaken side s cases live c J budget 0 fs
  so_far_start fs shape r = record { shape = shape; round = r; flags = []; right = tt; done = tt }

  -- the problems of one more
  module _ (k : ℕ) (e : Edge) (fs : List LocFamily) (h : AreFirstTaken side s cases live c J budget k fs) (l : k < length s.edges) (i : slice_index_or s.edges k e ≡ e) (b : Bool) (t : IsFlag b (atoms e)) where
    more_right : AreFlags (h.flags ++ b ∷ []) (map atoms (take (suc k) s.edges))
    more_right = subst (λ es. AreFlags (h.flags ++ b ∷ []) (map atoms es)) (sym (take_next s.edges k e l i)) (flags_join atoms (take k s.edges) h.flags (e ∷ []) (b ∷ []) h.right (t, tt))

    more_done : AllDone budget (asks k e b) → AllDone budget (for_edges asks 0 (take (suc k) s.edges) (h.flags ++ b ∷ []))
    more_done d =
        let z : 0 + length (take k s.edges) ≡ k = let q = long_take s.edges k (omega arith) in omega arith in
        let j = asked_join atoms asks 0 (take k s.edges) h.flags (e ∷ []) (b ∷ []) h.right in
        let n : for_edges asks (0 + length (take k s.edges)) (e ∷ []) (b ∷ []) ≡ asks k e b = append-nil _ ∙ ap (λ x. asks x e b) z in
        subst (λ es. AllDone budget (for_edges asks 0 es (h.flags ++ b ∷ []))) (sym (take_next s.edges k e l i))
        (subst (AllDone budget) (sym j) (both_done budget _ _ h.done (subst (AllDone budget) (sym n) d)))

  -- an edge more is given
  given_more : (k : ℕ) (e : Edge) → k < length s.edges → slice_index_or s.edges k e ≡ e → (l : ℕ) (a : Atom) → IsGiven (first_edges k s) cases J l a → (e.to ≡ l → EdgeGives s J e a) → IsGiven (first_edges (suc k) s) cases J l a
  given_more k e j i l a g h = record {
    entry = g.entry;
    edges = λ d m t. elim (among-++ (take k s.edges) (subst (Among d) (take_next s.edges k e j i) m)) [
      | inl n ↦ g.edges d n t
      | inr n ↦ elim (among_cons n) [ inl q ↦ subst (λ x. EdgeGives s J x a) (sym q) (h (sym (ap (λ (x : Edge). x.to) q) ∙ t)) | inr z ↦ none_among z ]
    ];
  }

  given_less : (k : ℕ) (e : Edge) → k < length s.edges → slice_index_or s.edges k e ≡ e → (l : ℕ) (a : Atom) → IsGiven (first_edges (suc k) s) cases J l a → IsGiven (first_edges k s) cases J l a × (e.to ≡ l → EdgeGives s J e a)
  given_less k e j i l a g = (
    record { entry = g.entry; edges = λ d m t. g.edges d (subst (Among d) (sym (take_next s.edges k e j i)) (among-left (e ∷ []) m)) t },
    (λ t. g.edges e (subst (Among e) (sym (take_next s.edges k e j i)) (among-right (take k s.edges) head)) t),
  )

  -- ---- a settled edge is skipped
  flag_of : (hs : List Atom) → IsDead hs ⊎ (¬ IsDead hs) → (b : Bool) × IsFlag b hs
  flag_of hs (inl d) = (false, ((λ t. differ (sym t)), (λ n. absurd (n d))))
  flag_of hs (inr n) = (true, ((λ t. n), (λ m. refl)))

  pub so_far_skip : (k : ℕ) (e : Edge) (fs : List LocFamily) → AreFirstTaken side s cases live c J budget k fs → k < length s.edges → slice_index_or s.edges k e ≡ e
      → IsSettledEdge side s cases live c J budget k e → AreFirstTaken side s cases live c J budget (suc k) fs
  so_far_skip k e fs h l i g =
      let f = flag_of (atoms e) (decide_dead (atoms e)) in
      record {
        shape = h.shape;
        round = λ m a. (
          (λ t. let x = (h.round m a).0 t in (x.0, given_more k e l i m a x.1 (λ q. g.gives a (subst (λ n. J n a ≡ true) (sym q) x.0)))),
          (λ t. (h.round m a).1 (t.0, (given_less k e l i m a t.1).0)),
        );
        flags = h.flags ++ f.0 ∷ [];
        right = more_right k e fs h l i f.0 f.1;
        done = more_done k e fs h l i f.0 f.1 (g.done f.0 f.1);
      }

  -- ---- an edge is taken at its target
  pub so_far_take : (k : ℕ) (e : Edge) (fs : List LocFamily) (old new : LocFamily) → AreFirstTaken side s cases live c J budget k fs → k < length s.edges → slice_index_or s.edges k e ≡ e
      → e.to < s.locs → slice_index_or fs e.to nowhere ≡ old → IsEdgeTaken side s cases live c J budget k e old new → AreFirstTaken side s cases live c J budget (suc k) (set fs e.to new)
  so_far_take k e fs old new h l i inside was g =
      let f = g.through.1 in
      record {
        shape = shaped_set s.vars s.locs c fs e.to new h.shape inside g.taken.fit;
        round = λ m a. elim (cases_eq e.to m) [
          | inl q ↦ subst (λ x. stands_for s.vars c (set fs e.to new) x a ≡ true ↔ ((J x a ≡ true) × IsGiven (first_edges (suc k) s) cases J x a)) q (
              let x = set_here s.vars s.locs c fs e.to new h.shape inside (EdgeGives s J e) old was g.taken a in (
                (λ t. let v = x.0 t in let w = (h.round e.to a).0 v.0 in (w.0, given_more k e l i e.to a w.1 (λ y. v.1))),
                (λ t. let w = given_less k e l i e.to a t.1 in x.1 ((h.round e.to a).1 (t.0, w.0), w.1 refl)),
              ))
          | inr n ↦
              let x = set_other s.vars s.locs c fs e.to new h.shape inside m a n in (
                (λ t. let w = (h.round m a).0 (x.0 t) in (w.0, given_more k e l i m a w.1 (λ q. absurd (n q)))),
                (λ t. x.1 ((h.round m a).1 (t.0, (given_less k e l i m a t.1).0))),
              )
        ];
        flags = h.flags ++ f.0 ∷ [];
        right = more_right k e fs h l i f.0 f.1;
        done = more_done k e fs h l i f.0 f.1 (subst (AllDone budget) f.2 g.through.2);
      }

  -- ---- after all of them
  pub so_far_end : (k : ℕ) (fs : List LocFamily) → k ≡ length s.edges → AreFirstTaken side s cases live c J budget k fs → AreEdgesTaken side s cases live c J budget fs
  so_far_end k fs e h =
      let q : take k s.edges ≡ s.edges = take_all k s.edges (omega arith) in
      record {
        shape = h.shape;
        round = subst (λ es. IsRound (with_edges es s) cases J (stands_for s.vars c fs)) q h.round;
        through = (for_edges asks 0 s.edges h.flags, (h.flags, subst (λ es. AreFlags h.flags (map atoms es)) q h.right, refl), subst (λ es. AllDone budget (for_edges asks 0 es h.flags)) q h.done);
      }

  -- ---- a refusal at an edge
  refused_at : (k : ℕ) (e : Edge) (fs : List LocFamily) → AreFirstTaken side s cases live c J budget k fs → k < length s.edges → slice_index_or s.edges k e ≡ e
      → (asked : List Asked) → EdgeAsks side s cases live c J k e asked → (site : Site) (a : Answer) → Refuses budget asked site a → (whole : List Asked) × EdgesAsk side s cases live c J whole × Refuses budget whole site a
  refused_at k e fs h l i asked q site a r =
      let rest = drop (suc k) s.edges in
      let f = has_flags (map atoms rest) in
      let w = cut_at s.edges k e l i in
      let flags = h.flags ++ q.0 ∷ f.0 in
      let right : AreFlags flags (map atoms s.edges) = subst (λ es. AreFlags flags (map atoms es)) (sym w) (flags_join atoms (take k s.edges) h.flags (e ∷ rest) (q.0 ∷ f.0) h.right (q.1, f.1)) in
      let z : 0 + length (take k s.edges) ≡ k = let p = long_take s.edges k (omega arith) in omega arith in
      let last = for_edges asks (suc k) rest f.0 in
      let j : for_edges asks 0 s.edges flags ≡ for_edges asks 0 (take k s.edges) h.flags ++ (asked ++ last) =
      ap (λ es. for_edges asks 0 es flags) w ∙ asked_join atoms asks 0 (take k s.edges) h.flags (e ∷ rest) (q.0 ∷ f.0) h.right
      ∙ ap (λ n. for_edges asks 0 (take k s.edges) h.flags ++ for_edges asks n (e ∷ rest) (q.0 ∷ f.0)) z
      ∙ ap (λ xs. for_edges asks 0 (take k s.edges) h.flags ++ (xs ++ last)) (sym q.2) in
      let here : Refuses budget (asked ++ last) site a = (refusals_join budget asked last site a).1 (inl r) in
      (for_edges asks 0 s.edges flags, (flags, right, refl), subst (λ xs. Refuses budget xs site a) (sym j) ((refusals_join budget (for_edges asks 0 (take k s.edges) h.flags) (asked ++ last) site a).1 (inr (h.done, here))))

  pub so_far_fault : (k : ℕ) (e : Edge) (fs : List LocFamily) → AreFirstTaken side s cases live c J budget k fs → k < length s.edges → slice_index_or s.edges k e ≡ e
      → (f : InvFault) → IsFault budget (EdgeAsks side s cases live c J k e) f → IsFault budget (EdgesAsk side s cases live c J) f
  so_far_fault k e fs h l i (Past128 site n) (asked, q, r) = refused_at k e fs h l i asked q site (Past n) r
  so_far_fault k e fs h l i (Budget site) (asked, q, r) = refused_at k e fs h l i asked q site (Out budget) r
  so_far_fault k e fs h l i NoMemory q = tt

-- ---- edges of a well formed system
pub edge_inside : (s : System) (k : ℕ) (e : Edge) → IsWellFormed s → k < length s.edges → slice_index_or s.edges k e ≡ e → (e.from < s.locs) × (e.to < s.locs)
edge_inside s k e w l i = by s.edges k w.ends l i
  where
    by : (es : List Edge) (k : ℕ) → AllByRecursion (EndsWithin s.locs) es → k < length es → slice_index_or es k e ≡ e → (e.from < s.locs) × (e.to < s.locs)
    by [] k h l i = absurd (omega arith)
    by (g ∷ es) zero h l i = subst (λ (x : Edge). (x.from < s.locs) × (x.to < s.locs)) i (h.0.from, h.0.to)
    by (g ∷ es) (suc k) h l i = by es k h.1 (omega arith) i

pub edge_among : (es : List Edge) (k : ℕ) (e : Edge) → k < length es → slice_index_or es k e ≡ e → Among e es
edge_among es k e l i = subst (λ x. Among x es) i (at_among e es k l)

pub shape_fit : (locs : ℕ) (c : Candidates) (fs : List LocFamily) (l : ℕ) (d : LocFamily) → IsShaped locs c fs → l < locs → IsFit c (slice_index_or fs l d)
shape_fit locs c fs l d h i = record { rows = h.rows l d i; bounds = λ r o. h.bounds l r d i o }

pub edge_at : (es : List Edge) (k : ℕ) → k < length es → (e : Edge) × (slice_index_or es k e ≡ e)
edge_at [] k l = absurd (omega arith)
edge_at (e ∷ es) zero l = (e, refl)
edge_at (e ∷ es) (suc k) l = edge_at es k (omega arith)

pub slot : (locs : ℕ) (c : Candidates) (fs : List LocFamily) (l : ℕ) (old : LocFamily) → IsShaped locs c fs → l < locs → old ≡ slice_index_or fs l old → slice_index_or fs l nowhere ≡ old
slot locs c fs l old h i e = get_or_default fs l nowhere old (let q = h.one_each in omega arith) ∙ sym e
