-- What the search for the greatest family keeps: the problems of the rounds so far have come to their end, and the rest of the rounds is
-- that of the family at hand.
use Rattle.std.specs.Prelude.{◌≡◌, ℕ, zero, suc, ◌+◌, ◌<◌, Bool, true, false, List, [], ◌∷◌, ◌++◌, map, length, slice_index_or}
use Rattle.std.proofs.Common.{refl, sym, ◌∙◌, ap, subst, inl, inr, arith, append_assoc, append-nil}
use Rattle.std.specs.Cmp.{both_ways}
use mathlib.Core.Path.{fun_ext}
use Rattle.dc_math.specs.Members.{Among, at_among}
use Rattle.dc_syntax.specs.declared.tree.Side.{Side}
use Rattle.dc_affine.specs.declared.atom.Atom.{Atom}
use Rattle.dc_simplex.specs.Limits.{Answer, Past, Out}
use Rattle.dc_system.specs.declared.edges.Edge.{Edge}
use Rattle.dc_points.specs.Shown.{IsFlag, AreFlags}
use Rattle.dc_entail.specs.Asked.{Asked, AllDone, Refuses}
use Rattle.dc_entail.specs.declared.answer.Site.{Site}
use Rattle.dc_entail.proofs.Refusals.{refusals_join}
use Rattle.dc_rows.specs.declared.kinds.Candidates.{Candidates}
use Rattle.dc_rows.specs.Candidate.{AreCandidates}
use Rattle.dc_families.specs.Graphs.{Graph}
use Rattle.dc_families.specs.Families.{Family, everything, atoms_at, candidate_atoms}
use Rattle.dc_families.specs.Rounds.{IsRound, IsWithin, IsGreatest}
use Rattle.dc_families.proofs.Lists.{differ}
use Rattle.dc_families.proofs.Greatest.{round_within, IsAbove, above_round, above_stable}
use Rattle.dc_families.proofs.Weights.{weight, all_or_fewer}
use Rattle.dc_greatest.specs.declared.family.LocFamily.{LocFamily}
use Rattle.dc_greatest.specs.declared.family.InvFault.{InvFault}
use Rattle.dc_greatest.specs.declared.family.InvFault.TheVariants.{Past128, Budget, NoMemory}
use Rattle.dc_greatest.specs.Kept.{stands_for, IsShaped}
use Rattle.dc_greatest.specs.Parts.{for_live, for_edges, edge_atoms, entry_rows, edge_asked, round_asked, Rounds, last, next, RoundsAsk}
use Rattle.dc_greatest.specs.Answers.{IsThrough, IsFault}
use Rattle.dc_worklist.specs.Listed.{is_listed}
use Rattle.dc_greatest.specs.Searches.{RoundAsks, IsSettledEdge, AreSettled, IsSettledEntry, IsRoundTo, HasChanged}
use Rattle.dc_greatest.proofs.Bridges.{one_shape}
use Rattle.dc_greatest.proofs.Shapes.{IsKept, stands_is, is_stands, nowhere}
use Rattle.dc_greatest.proofs.Unchanged.{both_done, unchanged_give, unchanged_ask, entries_ask_once}
use Rattle.dc_families.proofs.Fixed.{above_all}
use Rattle.dc_greatest.proofs.Ends.{flag_same, flags_same, ends}

-- ---- parts of lists of problems
pub done_parts : (budget : ℕ) (ps qs : List Asked) → AllDone budget (ps ++ qs) → AllDone budget ps × AllDone budget qs
done_parts budget [] qs d = (tt, d)
done_parts budget (p ∷ ps) qs d = let r = done_parts budget ps qs d.1 in ((d.0, r.0), r.1)

live_done : (budget : ℕ) (f g : ℕ → List Atom → List Asked) → ((k : ℕ) (case : List Atom) → AllDone budget (f k case) → AllDone budget (g k case))
    → (k : ℕ) (cases : List (List Atom)) (live : List Bool) → AllDone budget (for_live f k cases live) → AllDone budget (for_live g k cases live)
live_done budget f g h k [] live d = tt
live_done budget f g h k (case ∷ cases) [] d = tt
live_done budget f g h k (case ∷ cases) (true ∷ live) d =
    let r = done_parts budget (f k case) _ d in both_done budget (g k case) _ (h k case r.0) (live_done budget f g h (suc k) cases live r.1)
live_done budget f g h k (case ∷ cases) (false ∷ live) d = live_done budget f g h (suc k) cases live d

edge_done : (budget : ℕ) (f : ℕ → Edge → Bool → List Asked) (h : Edge → List Atom) (k : ℕ) (es : List Edge) (flags : List Bool) → AreFlags flags (map h es) → AllDone budget (for_edges f k es flags)
    → (i : ℕ) (e : Edge) → i < length es → slice_index_or es i e ≡ e → (b : Bool) → IsFlag b (h e) → AllDone budget (f (k + i) e b)
edge_done budget f h k [] flags a d i e l s b t = absurd (omega arith)
edge_done budget f h k (g ∷ es) [] a d i e l s b t = absurd a
edge_done budget f h k (g ∷ es) (v ∷ flags) a d zero e l s b t =
    let z : k ≡ k + 0 = omega arith in
    let q = flag_same v b (h e) (subst (λ x. IsFlag v (h x)) s a.0) t in
    subst (λ j. AllDone budget (f j e b)) z (subst (λ x. AllDone budget (f k e x)) q (subst (λ x. AllDone budget (f k x v)) s (done_parts budget (f k g v) _ d).0))
edge_done budget f h k (g ∷ es) (v ∷ flags) a d (suc i) e l s b t =
    let z : suc k + i ≡ k + suc i = omega arith in
    subst (λ j. AllDone budget (f j e b)) z (edge_done budget f h (suc k) es flags a.1 (done_parts budget (f k g v) _ d).1 i e (omega arith) s b t)

among_slice : (es : List Edge) (k : ℕ) (e : Edge) → k < length es → slice_index_or es k e ≡ e → Among e es
among_slice es k e l s = subst (λ x. Among x es) s (at_among e es k l)

module _ (side : Side) (s : Graph) (cases : List (List Atom)) (live : List Bool) (c : Candidates) (budget : ℕ) where
  abbrev pub family : List LocFamily → Family
  family fs = stands_for s.vars c fs

  abbrev pub start : Family
  start = everything s c

  pub record IsSearching (fs : List LocFamily) (fresh : Bool) (numbers : List ℕ) : Type 0 where
    pub shape : IsShaped s.locs c fs
    pub above : IsAbove s cases c (family fs)
    pub done : List Asked
    pub through : AllDone budget done
    pub then : (asked : List Asked) (L : Family) → Rounds side s cases live c (family fs) asked L → Rounds side s cases live c start (done ++ asked) L
    pub entry : fresh ≡ false → IsSettledEntry side s cases live c (family fs) budget
    pub settled : AreSettled side s cases live c (family fs) budget numbers

  abbrev pub size : List LocFamily → ℕ
  size fs = weight (family fs) (candidate_atoms s.vars c) s.locs

  -- ---- at first
  pub searching_start : (fs : List LocFamily) (numbers : List ℕ) → IsShaped s.locs c fs → family fs ≡ start → ((k : ℕ) → k < length s.edges → is_listed k numbers ≡ true) → IsSearching fs true numbers
  searching_start fs numbers shape e all = record {
    shape = shape;
    above = subst (IsAbove s cases c) (sym e) (above_all s cases c);
    done = [];
    through = tt;
    then = λ asked L r. subst (λ J. Rounds side s cases live c J asked L) e r;
    entry = λ f. differ f;
    settled = λ k g l i no'. differ (sym (all k l) ∙ no');
  }

  -- ---- after a round
  module _ (kind : AreCandidates s.vars c) (fs gs : List LocFamily) (fresh : Bool) (numbers : List ℕ) (h : IsSearching fs fresh numbers) (r : IsRoundTo side s cases live c (family fs) budget gs) where
    within : IsWithin (family gs) (family fs)
    within = round_within s cases (family fs) (family gs) r.round

    changes : ¬ (gs ≡ fs) → ¬ IsWithin (family fs) (family gs)
    changes n w = n (one_shape s.vars s.locs c gs fs kind r.shape h.shape within w)

    pub search_lighter : ¬ (gs ≡ fs) → size gs < size fs
    search_lighter n = elim (all_or_fewer s c (family fs) (family gs) h.above.candidates within) [ inl w ↦ absurd (changes n w) | inr l ↦ l ]

    -- the family of a location by its entry
    same_at : (l : ℕ) → slice_index_or gs l nowhere ≡ slice_index_or fs l nowhere → (a : Atom) → family fs l a ≡ true → family gs l a ≡ true
    same_at l e a t =
        let k = stands_is s.vars c fs l a t in
        is_stands s.vars c gs l a (let x = r.shape.one_each in let y = h.shape.one_each in let z = k.0 in omega arith) (subst (λ f. IsKept s.vars c f a) (sym e) k.1)

    asked_done : (k : ℕ) (e : Edge) → k < length s.edges → slice_index_or s.edges k e ≡ e → (b : Bool) → IsFlag b (edge_atoms s c (family fs) e) → AllDone budget (edge_asked side s c (family fs) k e b)
    asked_done k e l i b t =
        let f = r.through.1 in
        let d = subst (AllDone budget) f.2 r.through.2 in
        let z : 0 + k ≡ k = omega arith in
        subst (λ j. AllDone budget (edge_asked side s c (family fs) j e b)) z
        (edge_done budget (edge_asked side s c (family fs)) (edge_atoms s c (family fs)) 0 s.edges f.0 f.1 (done_parts budget (for_live (entry_rows side s c (family fs)) 0 cases live) _ d).1 k e l i b t)

    entry_done : AllDone budget (for_live (entry_rows side s c (family fs)) 0 cases live)
    entry_done = let f = r.through.1 in (done_parts budget (for_live (entry_rows side s c (family fs)) 0 cases live) _ (subst (AllDone budget) f.2 r.through.2)).0

    same_list : (e : Edge) → slice_index_or gs e.from nowhere ≡ slice_index_or fs e.from nowhere → edge_atoms s c (family gs) e ≡ edge_atoms s c (family fs) e
    same_list e q = ap (λ (f : Atom → Bool). atoms_at s.vars c (λ l. f) e.from ++ e.guard) (fun_ext (λ a. both_ways _ _ (within e.from a) (same_at e.from q a)))

    settled_edge : (k : ℕ) (e : Edge) → k < length s.edges → slice_index_or s.edges k e ≡ e → slice_index_or gs e.from nowhere ≡ slice_index_or fs e.from nowhere → IsSettledEdge side s cases live c (family gs) budget k e
    settled_edge k e l i q = record {
      gives = λ a t. unchanged_give s cases (family fs) (family gs) e a r.round (same_at e.from q) (among_slice s.edges k e l i) t;
      done = λ b t. unchanged_ask side s cases c (family fs) (family gs) budget k e b r.round (same_at e.from q) (asked_done k e l i b (subst (IsFlag b) (same_list e q) t));
    }

    settled_entry : IsSettledEntry side s cases live c (family gs) budget
    settled_entry = record {
      gives = λ case a m t. ((r.round 0 a).0 t).1.entry refl case m;
      done = live_done budget (entry_rows side s c (family fs)) (entry_rows side s c (family gs)) (λ k case d. entries_ask_once side s cases c (family fs) (family gs) budget k case r.round d) 0 cases live entry_done;
    }

    pub searching_next : ¬ (gs ≡ fs) → (ks : List ℕ) → HasChanged s fs gs ks → IsSearching gs false ks
    searching_next n ks new = record {
      shape = r.shape;
      above = above_round s cases c (family fs) (family gs) h.above r.round;
      done = h.done ++ r.through.0;
      through = both_done budget h.done r.through.0 h.through r.through.2;
      then = λ asked L t.
          let f = r.through.1 in
          subst (λ xs. Rounds side s cases live c start xs L) (sym (append_assoc h.done r.through.0 asked))
          (h.then (r.through.0 ++ asked) L (subst (λ xs. Rounds side s cases live c (family fs) (xs ++ asked) L) (sym f.2) (next f.0 f.1 r.round (changes n) t)));
      entry = λ f. settled_entry;
      settled = λ k e l i no'. settled_edge k e l i (new k e nowhere l i no');
    }

    -- ---- where it changes nothing
    pub searching_end : gs ≡ fs → IsGreatest s cases c (family fs) × IsThrough budget (RoundsAsk side s cases live c)
    searching_end e =
        let q : IsRound s cases (family fs) (family fs) = subst (λ x. IsRound s cases (family fs) (family x)) e r.round in
        let f = r.through.1 in (
          above_stable s cases c (family fs) h.above q,
          (h.done ++ r.through.0, (family fs, h.then r.through.0 (family fs) (subst (λ xs. Rounds side s cases live c (family fs) xs (family fs)) (sym f.2) (last f.0 f.1 q))), both_done budget h.done r.through.0 h.through r.through.2),
        )

  -- ---- a refusal in a round is one of the whole
  rounds_begin : (J K : Family) (asked : List Asked) → Rounds side s cases live c J asked K → (flags : List Bool) × AreFlags flags (map (edge_atoms s c J) s.edges) × ((rest : List Asked) × (asked ≡ round_asked side s c J cases live flags ++ rest))
  rounds_begin J _ _ (last flags a r) = (flags, a, ([], sym (append-nil _)))
  rounds_begin J K _ (next {asked = xs} flags a r n t) = (flags, a, (xs, refl))

  refused : (fs : List LocFamily) (fresh : Bool) (numbers : List ℕ) → IsSearching fs fresh numbers → (asked : List Asked) → RoundAsks side s cases live c (family fs) asked
      → (site : Site) (a : Answer) → Refuses budget asked site a → (whole : List Asked) × RoundsAsk side s cases live c whole × Refuses budget whole site a
  refused fs fresh numbers h asked q site a no' =
      let e = ends side s cases live c (suc (size fs)) (family fs) h.above (omega arith) in
      let b = rounds_begin (family fs) e.1 e.0 e.2 in
      let same : asked ++ b.2.0 ≡ e.0 = ap (λ xs. xs ++ b.2.0) (q.2 ∙ ap (round_asked side s c (family fs) cases live) (flags_same q.0 b.0 _ q.1 b.1)) ∙ sym b.2.1 in
      let here : Refuses budget e.0 site a = subst (λ xs. Refuses budget xs site a) same ((refusals_join budget asked b.2.0 site a).1 (inl no')) in
      (h.done ++ e.0, (e.1, h.then e.0 e.1 e.2), (refusals_join budget h.done e.0 site a).1 (inr (h.through, here)))

  pub searching_fault : (fs : List LocFamily) (fresh : Bool) (numbers : List ℕ) → IsSearching fs fresh numbers → (f : InvFault)
      → IsFault budget (RoundAsks side s cases live c (family fs)) f → IsFault budget (RoundsAsk side s cases live c) f
  searching_fault fs fresh numbers h (Past128 site k) (asked, q, no') = refused fs fresh numbers h asked q site (Past k) no'
  searching_fault fs fresh numbers h (Budget site) (asked, q, no') = refused fs fresh numbers h asked q site (Out budget) no'
  searching_fault fs fresh numbers h NoMemory q = tt
