-- The cases of the condition one after another.
use Rattle.std.specs.Prelude.{◌≡◌, ◌↔◌, ℕ, zero, suc, ◌+◌, ◌<◌, ◌≤◌, Bool, true, false, if◌then◌else◌, List, [], ◌∷◌, ◌++◌, take, drop, set, length, slice_index_or}
use Rattle.std.proofs.Common.{refl, sym, ◌∙◌, ap, subst, inl, inr, arith, append-nil, append_assoc}
use Rattle.std.proofs.lemmas.Bool.{cases_eq}
use Rattle.std.proofs.lemmas.List.{take_all}
use Rattle.dc_math.specs.Members.{Among, head, none_among, among_cons, among-left, among-right, among-++}
use Rattle.dc_syntax.specs.declared.tree.Side.{Side}
use Rattle.dc_affine.specs.declared.atom.Atom.{Atom}
use Rattle.dc_simplex.specs.Limits.{Answer, Past, Out}
use Rattle.dc_points.specs.Points.{Entails}
use Rattle.dc_points.specs.Shown.{AreFlags}
use Rattle.dc_points.proofs.Flags.{flags_many}
use Rattle.dc_entail.specs.Asked.{Asked, AllDone, Refuses}
use Rattle.dc_entail.specs.declared.answer.Site.{Site}
use Rattle.dc_entail.proofs.Refusals.{refusals_join}
use Rattle.dc_rows.specs.declared.kinds.Candidates.{Candidates}
use Rattle.dc_families.specs.Graphs.{Graph}
use Rattle.dc_families.specs.Families.{Family}
use Rattle.dc_families.specs.Moves.{at_start}
use Rattle.dc_families.specs.Rounds.{IsGiven}
use Rattle.dc_greatest.specs.declared.family.LocFamily.{LocFamily}
use Rattle.dc_greatest.specs.declared.family.InvFault.{InvFault}
use Rattle.dc_greatest.specs.declared.family.InvFault.TheVariants.{Past128, Budget, NoMemory}
use Rattle.dc_greatest.specs.Kept.{stands_for, IsShaped}
use Rattle.dc_greatest.specs.Parts.{for_live, entry_rows}
use Rattle.dc_greatest.specs.Answers.{IsFault}
use Rattle.dc_greatest.specs.Bounds.{IsTaken}
use Rattle.dc_greatest.specs.Searches.{first_edges, EntryAsks, AreCasesTaken, AreEntriesTaken}
use Rattle.dc_greatest.proofs.Shapes.{nowhere}
use Rattle.dc_greatest.proofs.Setting.{shaped_set, set_here, set_other}
use Rattle.dc_greatest.proofs.Unchanged.{both_done}

-- ---- lists that are cut at an index
pub take_next : {A : Type 0} (xs : List A) (k : ℕ) (d : A) → k < length xs → take (suc k) xs ≡ take k xs ++ slice_index_or xs k d ∷ []
take_next [] k d l = absurd (omega arith)
take_next (x ∷ xs) zero d l = refl
take_next (x ∷ xs) (suc k) d l = ap (λ ys. x ∷ ys) (take_next xs k d (omega arith))

module _ (f : ℕ → List Atom → List Asked) where
  abbrev one_case : ℕ → List Atom → Bool → List Asked
  one_case k case b = if b then f k case else []

  live_split : (a k : ℕ) (cases : List (List Atom)) (live : List Bool) → k < length cases → length live ≡ length cases
      → for_live f a cases live ≡ for_live f a (take k cases) (take k live) ++ (one_case (a + k) (slice_index_or cases k []) (slice_index_or live k false) ++ for_live f (a + suc k) (drop (suc k) cases) (drop (suc k) live))
  live_split a k [] live l e = absurd (omega arith)
  live_split a k (c ∷ cases) [] l e = absurd (omega arith)
  live_split a zero (c ∷ cases) (b ∷ live) l e =
      let z : a ≡ a + 0 = omega arith in
      let y : suc a ≡ a + suc 0 = omega arith in
      ap (λ i. one_case i c b ++ for_live f (suc a) cases live) z ∙ ap (λ i. one_case (a + 0) c b ++ for_live f i cases live) y
  live_split a (suc k) (c ∷ cases) (b ∷ live) l e =
      let z : suc a + k ≡ a + suc k = omega arith in
      let y : suc a + suc k ≡ a + suc (suc k) = omega arith in
      let rest = for_live f (a + suc (suc k)) (drop (suc k) cases) (drop (suc k) live) in
      ap (λ xs. one_case a c b ++ xs) (live_split (suc a) k cases live (omega arith) (omega arith)
      ∙ ap (λ i. for_live f (suc a) (take k cases) (take k live) ++ (one_case i (slice_index_or cases k []) (slice_index_or live k false) ++ for_live f (suc a + suc k) (drop (suc k) cases) (drop (suc k) live))) z
      ∙ ap (λ i. for_live f (suc a) (take k cases) (take k live) ++ (one_case (a + suc k) (slice_index_or cases k []) (slice_index_or live k false) ++ for_live f i (drop (suc k) cases) (drop (suc k) live))) y)
      ∙ sym (append_assoc (one_case a c b) (for_live f (suc a) (take k cases) (take k live)) (one_case (a + suc k) (slice_index_or cases k []) (slice_index_or live k false) ++ rest))

  live_next : (a k : ℕ) (cases : List (List Atom)) (live : List Bool) → k < length cases → length live ≡ length cases
      → for_live f a (take (suc k) cases) (take (suc k) live) ≡ for_live f a (take k cases) (take k live) ++ one_case (a + k) (slice_index_or cases k []) (slice_index_or live k false)
  live_next a k [] live l e = absurd (omega arith)
  live_next a k (c ∷ cases) [] l e = absurd (omega arith)
  live_next a zero (c ∷ cases) (b ∷ live) l e = let z : a ≡ a + 0 = omega arith in append-nil (one_case a c b) ∙ ap (λ i. one_case i c b) z
  live_next a (suc k) (c ∷ cases) (b ∷ live) l e =
      let z : suc a + k ≡ a + suc k = omega arith in
      ap (λ xs. one_case a c b ++ xs) (live_next (suc a) k cases live (omega arith) (omega arith)
      ∙ ap (λ i. for_live f (suc a) (take k cases) (take k live) ++ one_case i (slice_index_or cases k []) (slice_index_or live k false)) z)
      ∙ sym (append_assoc (one_case a c b) (for_live f (suc a) (take k cases) (take k live)) (one_case (a + suc k) (slice_index_or cases k []) (slice_index_or live k false)))

module _ (side : Side) (s : Graph) (cases : List (List Atom)) (live : List Bool) (c : Candidates) (J : Family) (budget : ℕ) (flags : AreFlags live cases) where
  abbrev asks : ℕ → List Atom → List Asked
  asks k case = entry_rows side s c J k case

  abbrev case_at : ℕ → List Atom
  case_at k = slice_index_or cases k []

  abbrev asked_at : ℕ → List Asked
  asked_at k = if slice_index_or live k false then asks k (case_at k) else []

  long : length live ≡ length cases
  long = flags_many live cases flags

  -- ---- at first
  pub cases_start : (fs : List LocFamily) → IsShaped s.locs c fs → J ≡ stands_for s.vars c fs → AreCasesTaken side s cases live c J budget 0 fs
  cases_start fs shape e = record {
    shape = shape;
    round = λ l a. (
      (λ t. (subst (λ F. F l a ≡ true) (sym e) t, record { entry = λ q case m. none_among m; edges = λ g m. none_among m })),
      (λ t. subst (λ F. F l a ≡ true) e t.0),
    );
    done = tt;
  }

  -- ---- a case more
  module _ (k : ℕ) (l : k < length cases) where
    next : take (suc k) cases ≡ take k cases ++ case_at k ∷ []
    next = take_next cases k [] l

    given_more : (m : ℕ) (a : Atom) → IsGiven (first_edges 0 s) (take k cases) J m a → (m ≡ 0 → Entails (case_at k) (at_start s.params a)) → IsGiven (first_edges 0 s) (take (suc k) cases) J m a
    given_more m a g h = record {
      entry = λ q case i. elim (among-++ (take k cases) (subst (Among case) next i)) [
        | inl j ↦ g.entry q case j
        | inr j ↦ elim (among_cons j) [ inl e ↦ subst (λ x. Entails x (at_start s.params a)) (sym e) (h q) | inr z ↦ none_among z ]
      ];
      edges = g.edges;
    }

    given_less : (m : ℕ) (a : Atom) → IsGiven (first_edges 0 s) (take (suc k) cases) J m a → IsGiven (first_edges 0 s) (take k cases) J m a × (m ≡ 0 → Entails (case_at k) (at_start s.params a))
    given_less m a g = (
      record { entry = λ q case i. g.entry q case (subst (Among case) (sym next) (among-left (case_at k ∷ []) i)); edges = g.edges },
      (λ q. g.entry q (case_at k) (subst (Among (case_at k)) (sym next) (among-right (take k cases) head))),
    )

    pub cases_more : (fs : List LocFamily) (old new : LocFamily) → AreCasesTaken side s cases live c J budget k fs → 0 < s.locs → slice_index_or fs 0 nowhere ≡ old
        → IsTaken (λ a. Entails (case_at k) (at_start s.params a)) s.vars c old new → AllDone budget (asked_at k) → AreCasesTaken side s cases live c J budget (suc k) (set fs 0 new)
    cases_more fs old new h inside was t d = record {
      shape = shaped_set s.vars s.locs c fs 0 new h.shape inside t.fit;
      round = λ m a. elim (cases_eq 0 m) [
        | inl q ↦ subst (λ x. stands_for s.vars c (set fs 0 new) x a ≡ true ↔ ((J x a ≡ true) × IsGiven (first_edges 0 s) (take (suc k) cases) J x a)) q (
            let x = set_here s.vars s.locs c fs 0 new h.shape inside (λ a. Entails (case_at k) (at_start s.params a)) old was t a in (
              (λ i. let v = x.0 i in let w = (h.round 0 a).0 v.0 in (w.0, given_more 0 a w.1 (λ y. v.1))),
              (λ i. let w = given_less 0 a i.1 in x.1 ((h.round 0 a).1 (i.0, w.0), w.1 refl)),
            ))
        | inr n ↦
            let x = set_other s.vars s.locs c fs 0 new h.shape inside m a n in (
              (λ i. let w = (h.round m a).0 (x.0 i) in (w.0, given_more m a w.1 (λ q. absurd (n (sym q))))),
              (λ i. x.1 ((h.round m a).1 (i.0, (given_less m a i.1).0))),
            )
      ];
      done =
          let z : 0 + k ≡ k = omega arith in
          subst (AllDone budget) (sym (live_next asks 0 k cases live l long)) (both_done budget (for_live asks 0 (take k cases) (take k live)) _ h.done (subst (λ i. AllDone budget (one_case asks i (case_at k) (slice_index_or live k false))) (sym z) d));
    }

    -- ---- a refusal at a case
    refused : (fs : List LocFamily) → AreCasesTaken side s cases live c J budget k fs → (site : Site) (a : Answer) → Refuses budget (asked_at k) site a
        → (whole : List Asked) × EntryAsks side s cases live c J whole × Refuses budget whole site a
    refused fs h site a r =
        let z : 0 + k ≡ k = omega arith in
        let first = for_live asks 0 (take k cases) (take k live) in
        let rest = for_live asks (0 + suc k) (drop (suc k) cases) (drop (suc k) live) in
        let here : Refuses budget (asked_at k ++ rest) site a = (refusals_join budget (asked_at k) rest site a).1 (inl r) in
        let there : Refuses budget (one_case asks (0 + k) (case_at k) (slice_index_or live k false) ++ rest) site a = subst (λ i. Refuses budget (one_case asks i (case_at k) (slice_index_or live k false) ++ rest) site a) (sym z) here in
        (for_live asks 0 cases live, refl, subst (λ xs. Refuses budget xs site a) (sym (live_split asks 0 k cases live l long)) ((refusals_join budget first (one_case asks (0 + k) (case_at k) (slice_index_or live k false) ++ rest) site a).1 (inr (h.done, there))))

    pub cases_fault : (fs : List LocFamily) → AreCasesTaken side s cases live c J budget k fs → (f : InvFault) → IsFault budget (λ asked. asked ≡ asked_at k) f → IsFault budget (EntryAsks side s cases live c J) f
    cases_fault fs h (Past128 site n) (asked, q, r) = refused fs h site (Past n) (subst (λ xs. Refuses budget xs site (Past n)) q r)
    cases_fault fs h (Budget site) (asked, q, r) = refused fs h site (Out budget) (subst (λ xs. Refuses budget xs site (Out budget)) q r)
    cases_fault fs h NoMemory q = tt

  -- ---- after all of them
  pub cases_end : (k : ℕ) (fs : List LocFamily) → length cases ≤ k → AreCasesTaken side s cases live c J budget k fs → AreEntriesTaken side s cases live c J budget fs
  cases_end k fs l h =
      let x : take k cases ≡ cases = take_all k cases l in
      let y : take k live ≡ live = take_all k live (let q = long in omega arith) in
      record {
        shape = h.shape;
        round = subst (λ cs. (m : ℕ) (a : Atom) → stands_for s.vars c fs m a ≡ true ↔ ((J m a ≡ true) × IsGiven (first_edges 0 s) cs J m a)) x h.round;
        done = subst (λ cs. AllDone budget (for_live asks 0 cs live)) x (subst (λ bs. AllDone budget (for_live asks 0 (take k cases) bs)) y h.done);
      }
