-- How cases and edges show printed atoms.
use Rattle.std.specs.Prelude.{◌≡◌, ℕ, zero, suc, ◌+◌, ◌-◌, ◌<◌, ◌≤◌, ◌^◌, Bool, true, false, cond, List, [], ◌∷◌, ◌++◌, map, take, drop, length, slice_index_or, sum_by, unsigned_abs, ℤ, pos}
use Rattle.std.specs.List.{AllByRecursion}
use Rattle.std.proofs.Common.{refl, sym, ◌∙◌, ap, ap₂, subst, arith, append_assoc, append-nil}
use Rattle.std.proofs.lemmas.List.{take_all, length-take-le, get_or-take, get_or_default}
use Rattle.std.proofs.lemmas.List.Sums.{sum_by-take-le}
use Rattle.dc_math.specs.Members.{Among, each_at_or, each_among, at_among}
use Rattle.dc_math.specs.Rational.{of_ℤ}
use Rattle.dc_affine.specs.declared.atom.Atom.{Atom}
use Rattle.dc_affine.specs.Atoms.{AllFit, IsAtom, IsFullAtom}
use Rattle.dc_affine.proofs.Within.{full_within}
use Rattle.dc_program.specs.Programs.{IsCondition}
use Rattle.dc_lp.specs.Problems.{whole_at}
use Rattle.dc_system.specs.declared.edges.Edge.{Edge}
use Rattle.dc_system.specs.After.{row_after_of, atom_after}
use Rattle.dc_system.specs.Shapes.{IsEdge, IsWithin as EndsWithin, IsWellFormed}
use Rattle.dc_cert.specs.declared.sparse.Sparse.{Sparse}
use Rattle.dc_cert.specs.declared.certificate.Liveness.{Liveness}
use Rattle.dc_cert.specs.declared.certificate.Liveness.TheVariants.{Dead, Live}
use Rattle.dc_cert.specs.declared.certificate.EdgeCert.{EdgeCert}
use Rattle.dc_cert.specs.declared.certificate.SideCert.{SideCert}
use Rattle.dc_cert.specs.Ranges.{is_live}
use Rattle.dc_cert.specs.Vectors.{entry_of}
use Rattle.dc_entail.specs.declared.answer.Site.{Site}
use Rattle.dc_entail.specs.declared.answer.Site.TheVariants as site
use Rattle.dc_entail.specs.Asked.{Asked, ask, IsDone, AllDone}
use Rattle.dc_points.specs.Points.{MeetsAt, MeetsAll, IsDead, Entails, EntailsFrom}
use Rattle.dc_points.specs.Stated.{coefficient_of, empty_problem, sup_problem}
use Rattle.dc_points.specs.Shown.{IsFlag, AreFlags, CombinesTo}
use Rattle.dc_points.proofs.Whole.{atoms_are_forms}
use Rattle.dc_points.proofs.Flags.{flags_many}
use Rattle.dc_families.specs.Graphs.{graph_of}
use Rattle.dc_families.specs.Families.{family_of}
use Rattle.dc_families.specs.Moves.{at_start, edge_places, form_after}
use Rattle.dc_families.specs.Rounds.{IsInductive}
use Rattle.dc_families.proofs.Tests.{has_among, among_has}
use Rattle.dc_moves.specs.Cuts.{with_guard}
use Rattle.dc_moves.proofs.Cuts.{cuts_ask_the_same, cuts_ask_the_same_forms, cuts_say_the_same, cuts_are_atoms, combines-cut, live-cut}
use Rattle.dc_moves.proofs.Forms.{row_is_light, forms_have_places, forms_are_light, forms_tell_atoms}
use Rattle.dc_greatest.specs.declared.family.InvFault.{InvFault}
use Rattle.dc_greatest.specs.Answers.{IsFault}
use Rattle.dc_greatest.specs.Parts.{for_live, for_edges}
use Rattle.dc_greatest.proofs.Ends.{has_flags}
use Rattle.dc_greatest.proofs.Unchanged.{both_done}
use Rattle.dc_invariant.specs.declared.keeping.Keeping.{Keeping}
use Rattle.dc_invariant.specs.Shown.{IsSolutionOf, IsRefutationOf, AreKeeps, IsLine}
use Rattle.dc_invariant.specs.Keeps as side
use Rattle.dc_invariant.specs.Keeps.{printed_at, kept_atoms, exit_atoms, numbered, atom_at_entry, entry_asked, atom_along, edge_dead, edge_asked, exit_asked, KeepsAsk}
use Rattle.dc_invariant.specs.Answers.{TellsKeeps}
use Rattle.dc_invariant.specs.Lent.{Only, IsLeastKeep, HasBound, IsKeeping, graph, IsEntryKeep, case_asked, IsCasePart, EntryAsks, AreEntryKeeps, IsKeepAlong, AlongAsks, AreKeepsAlong, EdgeAsks, IsEdgePart, EdgesAsk, AreEdgeParts}
use Rattle.dc_invariant.proofs.Faults.{fault_part, fault_before}
use Rattle.dc_invariant.proofs.Tells.{full_atoms, shown_keep, keep_done, line_done_dead, line_done_live}
use Rattle.dc_invariant.proofs.Kept.{AreKeptFirst, kept_start, kept_next, kept_fault, kept_keeps, kept_done, flag_at, flags_join, edges_join, next_at, cut_at, one_live, live_cut, live_next}

-- ---- what is shown so far
module _ (t : Keeping) where
  pub record AreCasesFirst (i : ℕ) (xs : List (List Sparse)) : Type 0 where
    pub keeps : side.AreEntryKeeps (graph t) t.printed.now t.budget (take i t.cases.now) (take i t.live.now) xs
    pub done : AllDone t.budget (for_live (entry_asked t.side (graph t) t.printed.now) 0 (take i t.cases.now) (take i t.live.now))

  pub record ArePartsFirst (i : ℕ) (xs : List EdgeCert) : Type 0 where
    pub flags : List Bool
    pub right : AreFlags flags (map (kept_atoms (graph t) t.printed.now) (take i t.system.now.edges))
    pub parts : side.AreEdgeParts (graph t) t.printed.now t.budget (take i t.system.now.edges) flags xs
    pub done : AllDone t.budget (for_edges (edge_asked t.side (graph t) t.printed.now) 0 (take i t.system.now.edges) flags)

  abbrev pub EntryKeepsFirst : ℕ → List Atom → List Atom → ℕ → List Sparse → Type 0
  EntryKeepsFirst k case atoms i ks =
      AreKeptFirst case t.system.now.params (λ a. (at_start t.system.now.params a).coefs) (at_start t.system.now.params) t.budget
      (atom_at_entry t.side (graph t) t.printed.now k case) atoms i ks

  abbrev pub EdgeKeepsFirst : ℕ → Edge → List Atom → ℕ → List Sparse → Type 0
  EdgeKeepsFirst k e atoms i ks =
      AreKeptFirst (kept_atoms (graph t) t.printed.now e) (edge_places t.system.now.vars e) (λ a. form_after t.system.now.vars e a.coefs) (atom_after t.system.now.vars e) t.budget
      (atom_along t.side (graph t) t.printed.now k e) atoms i ks

-- an element of a list that is read
pub among_read : (xs ys : List Atom) (i : ℕ) (a : Atom) → xs ≡ ys → i < length xs → a ≡ slice_index_or xs i a → Among a ys
among_read xs ys i a e l r = subst (Among a) e (subst (λ b. Among b xs) (sym r) (at_among a xs i l))

module _ (t : Keeping) (lent : IsKeeping t) where
  abbrev n : ℕ
  n = t.system.now.vars

  abbrev at : ℕ → List Atom
  at l = printed_at (graph t) t.printed.now l

  -- ---- printed atoms
  pub atoms_at : (l : ℕ) → AllByRecursion (IsFullAtom n) (at l)
  atoms_at l = each_at_or (AllByRecursion (IsFullAtom n)) t.printed.now l [] lent.atoms tt

  pub full_at : (l : ℕ) (a : Atom) → Among a (at l) → IsFullAtom n a
  full_at l a m = each_among (IsFullAtom n) (atoms_at l) m

  pub in_atoms : (l : ℕ) → AllByRecursion (IsAtom n) (at l)
  in_atoms l = full_within n (at l) (atoms_at l)

  -- the list of a location as it is read
  pub read_at : (l : ℕ) (d : List Atom) → l < t.system.now.locs → slice_index_or t.printed.now l d ≡ at l
  read_at l d h = get_or_default t.printed.now l d [] (let e = lent.one_each in omega arith)

  pub locs_some : 0 < t.system.now.locs
  locs_some = let s = lent.system.some_location in omega arith

  pub in_printed : (l : ℕ) → l < t.system.now.locs → l < length t.printed.now
  in_printed l h = let e = lent.one_each in omega arith

  -- ---- a case shows the atoms of the entry
  module _ (case : List Atom) (m : Among case t.cases.now) (a : Atom) (in_entry : Among a (at 0)) (form : List ℤ) (e : form ≡ take t.system.now.params a.coefs) where
    start_long : length form ≡ t.system.now.params
    start_long = ap length e ∙ length-take-le t.system.now.params a.coefs (let f = (full_at 0 a in_entry).one_each in let p = lent.system.params_first in omega arith)

    pub entry_atoms : AllByRecursion (IsAtom (length form)) case
    entry_atoms = full_atoms t.system.now.params (length form) case start_long (each_among (AllByRecursion (IsFullAtom t.system.now.params)) lent.condition.atoms m)

    pub entry_light : sum_by unsigned_abs form < 2 ^ 70
    entry_light =
        let f = full_at 0 a in_entry in
        let r = row_is_light a.coefs f.within.coefs_within (let o = f.one_each in let v = lent.system.few_vars in omega arith) in
        let s = sum_by-take-le unsigned_abs a.coefs t.system.now.params in
        subst (λ cs. sum_by unsigned_abs cs < 2 ^ 70) (sym e) (below (sum_by unsigned_abs (take t.system.now.params a.coefs)) (sum_by unsigned_abs a.coefs) s r)
      where
        below : (x y : ℕ) → x ≤ y → y < 2 ^ 70 → x < 2 ^ 70
        below x y h k = omega arith

    entry_from : EntailsFrom case form (of_ℤ a.c0)
    entry_from =
        let g = (lent.inductive 0 a (among_has a (at 0) in_entry)).entry refl case m in
        subst (λ cs. EntailsFrom case cs (of_ℤ a.c0)) (sym e) ((atoms_are_forms case (take t.system.now.params a.coefs) a.c0).0 g)

    pub entry_bounded : HasBound case form
    entry_bounded = (of_ℤ a.c0, entry_from)

    pub entry_kept : (k : Sparse) → IsLeastKeep case form t.budget k → IsEntryKeep t case a k
    entry_kept k h = record {
      vector = subst (λ cs. IsSolutionOf (sup_problem case cs) t.budget k) e h.vector;
      shows = shown_keep case t.system.now.params form (at_start t.system.now.params a) t.budget k start_long (λ i l. ap (λ cs. whole_at cs i) e) entry_from h;
    }

    pub entry_fault : (q : Site) (f : InvFault) → IsFault t.budget (Only (ask q (sup_problem case form) ∷ [])) f → IsFault t.budget (Only (ask q (sup_problem case (at_start t.system.now.params a).coefs) ∷ [])) f
    entry_fault q f h = subst (λ cs. IsFault t.budget (Only (ask q (sup_problem case cs) ∷ [])) f) e h

  -- one after another
  module _ (k : ℕ) (case : List Atom) (atoms : List Atom) (e : atoms ≡ at 0) where
    pub entry_first : EntryKeepsFirst t k case atoms 0 []
    entry_first = kept_start case t.system.now.params (λ a. (at_start t.system.now.params a).coefs) (at_start t.system.now.params) t.budget (atom_at_entry t.side (graph t) t.printed.now k case) atoms

    pub entry_next : (i : ℕ) (a : Atom) → i < length atoms → a ≡ slice_index_or atoms i a → (ks new : List Sparse) (x : Sparse) → EntryKeepsFirst t k case atoms i ks → IsEntryKeep t case a x → new ≡ ks ++ x ∷ []
        → EntryKeepsFirst t k case atoms (suc i) new
    entry_next i a l r ks new x h w q =
        kept_next case t.system.now.params (λ a. (at_start t.system.now.params a).coefs) (at_start t.system.now.params) t.budget (atom_at_entry t.side (graph t) t.printed.now k case) atoms i a l r ks new x h w
        (keep_done case t.system.now.params (at_start t.system.now.params a).coefs (at_start t.system.now.params a) t.budget x (site.KeptEntry t.side k i) w) q

    pub entry_end : (i : ℕ) (ks : List Sparse) → length atoms ≤ i → EntryKeepsFirst t k case atoms i ks → IsCasePart t k case true ks
    entry_end i ks l h = record {
      keeps = subst (λ xs. AreKeeps case t.system.now.params (λ a. (at_start t.system.now.params a).coefs) (at_start t.system.now.params) t.budget xs ks) e
          (kept_keeps case t.system.now.params (λ a. (at_start t.system.now.params a).coefs) (at_start t.system.now.params) t.budget (atom_at_entry t.side (graph t) t.printed.now k case) atoms i ks l h);
      done = subst (λ xs. AllDone t.budget (numbered (atom_at_entry t.side (graph t) t.printed.now k case) 0 xs)) e
          (kept_done case t.system.now.params (λ a. (at_start t.system.now.params a).coefs) (at_start t.system.now.params) t.budget (atom_at_entry t.side (graph t) t.printed.now k case) atoms i ks l h);
    }

    pub entry_stop : (i : ℕ) (a : Atom) → i < length atoms → a ≡ slice_index_or atoms i a → (ks : List Sparse) → EntryKeepsFirst t k case atoms i ks → (x : InvFault)
        → IsFault t.budget (Only (atom_at_entry t.side (graph t) t.printed.now k case i a ∷ [])) x → IsFault t.budget (Only (case_asked t k case true)) x
    entry_stop i a l r ks h x f =
        subst (λ xs. IsFault t.budget (Only (numbered (atom_at_entry t.side (graph t) t.printed.now k case) 0 xs)) x) e
        (kept_fault case t.system.now.params (λ a. (at_start t.system.now.params a).coefs) (at_start t.system.now.params) t.budget (atom_at_entry t.side (graph t) t.printed.now k case) atoms i a l r ks h x f)

  pub case_dead : (k : ℕ) (case : List Atom) (live : Bool) (ks : List Sparse) → live ≡ false → ks ≡ [] → IsCasePart t k case live ks
  case_dead k case live ks e q = subst (λ b. IsCasePart t k case b ks) (sym e) (subst (IsCasePart t k case false) (sym q) (record { keeps = tt; done = tt }))

  -- ---- edges
  module _ (e : Edge) (m : Among e t.system.now.edges) where
    abbrev places : ℕ
    places = edge_places n e

    abbrev cut : List Atom
    cut = with_guard places (at e.from) e

    abbrev kept : List Atom
    kept = kept_atoms (graph t) t.printed.now e

    pub is_edge : IsEdge n e
    is_edge = each_among (IsEdge n) lent.system.edges m

    pub is_within : EndsWithin t.system.now.locs e
    is_within = each_among (EndsWithin t.system.now.locs) lent.system.ends m

    pub places_few : places ≤ n + 1
    places_few = by e.any
      where
        by : (b : Bool) → cond b (n + 1) n ≤ n + 1
        by true = omega arith
        by false = omega arith

    pub cut_atoms : (hyps : List Atom) → hyps ≡ cut → AllByRecursion (IsAtom places) hyps
    cut_atoms hyps e' = subst (AllByRecursion (IsAtom places)) (sym e') (cuts_are_atoms n e (at e.from) is_edge (in_atoms e.from))

    pub cut_live : (hyps : List Atom) → hyps ≡ cut → ¬ IsDead kept → ¬ IsDead hyps
    cut_live hyps e' live d = live (λ p k. subst IsDead e' d p ((cuts_say_the_same n e (at e.from) p is_edge).1 k))

    pub cut_flag : (b : Bool) → IsFlag b cut → IsFlag b kept
    cut_flag b f = (
      (λ s d. f.0 s (λ p k. d p ((cuts_say_the_same n e (at e.from) p is_edge).0 k))),
      (λ l. f.1 (λ d. l (λ p k. d p ((cuts_say_the_same n e (at e.from) p is_edge).1 k)))),
    )

    -- lines
    pub line_kept : (l : Liveness) → IsLine cut places t.budget l → IsLine kept places t.budget l
    line_kept (Dead k) h = record {
      vector = subst (λ p. IsSolutionOf p t.budget k) (cuts_ask_the_same places (at e.from) e) h.vector;
      shows = combines-cut places (at e.from) e _ _ (entry_of k.items) h.shows;
    }
    line_kept (Live k) h = record {
      vector = subst (λ p. IsRefutationOf p t.budget k) (cuts_ask_the_same places (at e.from) e) h.vector;
      shows = live-cut places (at e.from) e (entry_of k.items) h.shows;
    }

    -- one atom of the target
    module _ (a : Atom) (in_target : Among a (at e.to)) where
      abbrev form : List ℤ
      form = form_after n e a.coefs

      pub along_long : length form ≡ places
      along_long = forms_have_places n e a.coefs

      pub short : length a.coefs ≤ n
      short = let f = (full_at e.to a in_target).one_each in omega arith

      pub fit : AllFit a.coefs
      fit = (full_at e.to a in_target).within.coefs_within

      pub form_light : sum_by unsigned_abs form < 2 ^ 70
      form_light = forms_are_light n e a.coefs lent.system.few_vars is_edge short fit

      -- its form as the code cuts it
      pub along_form : (k : ℕ) (xs cs : List ℤ) → k ≡ places → xs ≡ (row_after_of n e cs).coefs → cs ≡ a.coefs → take k xs ≡ form
      along_form k xs cs p q r = ap₂ take p (q ∙ ap (λ ys. (row_after_of n e ys).coefs) r)

      -- the edge's atoms entail it
      entailed : Entails kept (atom_after n e a)
      entailed p k =
          let g = (lent.inductive e.to a (among_has a (at e.to) in_target)).edges e m refl p in
          (g (record { each = λ b h. each_among (MeetsAt p) (left (at e.from) k) (has_among (at e.from) b h) }) (right (at e.from) k)).1
        where
          left : (xs : List Atom) → AllByRecursion (MeetsAt p) (xs ++ e.guard) → AllByRecursion (MeetsAt p) xs
          left [] h = tt
          left (x ∷ xs) h = (h.0, left xs h.1)

          right : (xs : List Atom) → AllByRecursion (MeetsAt p) (xs ++ e.guard) → AllByRecursion (MeetsAt p) e.guard
          right [] h = h
          right (x ∷ xs) h = right xs h.1

      from_kept : EntailsFrom kept form (of_ℤ (atom_after n e a).c0)
      from_kept = (forms_tell_atoms n e kept a is_edge).0 entailed

      pub along_bounded : (hyps : List Atom) → hyps ≡ cut → HasBound hyps form
      along_bounded hyps e' = (of_ℤ (atom_after n e a).c0, λ p k. from_kept p ((cuts_say_the_same n e (at e.from) p is_edge).0 (subst (MeetsAll p) e' k)))

      -- the same problem, with the same least number
      same_problem : sup_problem cut form ≡ sup_problem kept form
      same_problem = ap (λ k. sup_problem (with_guard k (at e.from) e) form) (sym along_long) ∙ cuts_ask_the_same_forms (at e.from) e form

      least_kept : (k : Sparse) → IsLeastKeep cut form t.budget k → IsLeastKeep kept form t.budget k
      least_kept k h = record {
        vector = subst (λ p. IsSolutionOf p t.budget k) same_problem h.vector;
        number = h.number;
        combines = subst (λ j. CombinesTo kept j (whole_at form) h.number (entry_of k.items)) (sym along_long)
            (combines-cut places (at e.from) e (whole_at form) h.number (entry_of k.items) (subst (λ j. CombinesTo cut j (whole_at form) h.number (entry_of k.items)) along_long h.combines));
        least = λ w. (
          (λ f. (h.least w).0 (λ p q. f p ((cuts_say_the_same n e (at e.from) p is_edge).0 q))),
          (λ l p q. (h.least w).1 l p ((cuts_say_the_same n e (at e.from) p is_edge).1 q)),
        );
      }

      coefficients_same : (i : ℕ) → i < places → whole_at form i ≡ coefficient_of (atom_after n e a) i
      coefficients_same i l = get_or-take places (row_after_of n e a.coefs).coefs i (pos 0) l

      pub along_kept : (hyps : List Atom) → hyps ≡ cut → (form' : List ℤ) → form' ≡ form → (k : Sparse) → IsLeastKeep hyps form' t.budget k → IsKeepAlong t e a k
      along_kept hyps e' form' s k h =
          let w = least_kept k (subst (λ hs. IsLeastKeep hs form t.budget k) e' (subst (λ cs. IsLeastKeep hyps cs t.budget k) s h)) in
          record { vector = w.vector; shows = shown_keep kept places form (atom_after n e a) t.budget k along_long coefficients_same from_kept w }

      pub along_fault : (hyps : List Atom) → hyps ≡ cut → (form' : List ℤ) → form' ≡ form → (q : Site) (f : InvFault)
          → IsFault t.budget (Only (ask q (sup_problem hyps form') ∷ [])) f → IsFault t.budget (Only (ask q (sup_problem kept form) ∷ [])) f
      along_fault hyps e' form' s q f h = subst (λ p. IsFault t.budget (Only (ask q p ∷ [])) f) (ap₂ sup_problem e' s ∙ same_problem) h

    -- ---- its keeps one after another
    module _ (k : ℕ) (atoms : List Atom) (q : atoms ≡ at e.to) where
      pub along_first : EdgeKeepsFirst t k e atoms 0 []
      along_first = kept_start kept places (λ c. form_after n e c.coefs) (atom_after n e) t.budget (atom_along t.side (graph t) t.printed.now k e) atoms

      pub along_next : (i : ℕ) (a : Atom) → i < length atoms → a ≡ slice_index_or atoms i a → (ks new : List Sparse) (x : Sparse) → EdgeKeepsFirst t k e atoms i ks → IsKeepAlong t e a x → new ≡ ks ++ x ∷ []
          → EdgeKeepsFirst t k e atoms (suc i) new
      along_next i a l r ks new x h w s =
          kept_next kept places (λ c. form_after n e c.coefs) (atom_after n e) t.budget (atom_along t.side (graph t) t.printed.now k e) atoms i a l r ks new x h w
          (keep_done kept places (form_after n e a.coefs) (atom_after n e a) t.budget x (site.KeptAtom t.side k i) w) s

      pub along_end : (i : ℕ) (ks : List Sparse) → length atoms ≤ i → EdgeKeepsFirst t k e atoms i ks → AreKeepsAlong t k e ks
      along_end i ks l h = record {
        keeps = subst (λ xs. AreKeeps kept places (λ c. form_after n e c.coefs) (atom_after n e) t.budget xs ks) q
            (kept_keeps kept places (λ c. form_after n e c.coefs) (atom_after n e) t.budget (atom_along t.side (graph t) t.printed.now k e) atoms i ks l h);
        done = subst (λ xs. AllDone t.budget (numbered (atom_along t.side (graph t) t.printed.now k e) 0 xs)) q
            (kept_done kept places (λ c. form_after n e c.coefs) (atom_after n e) t.budget (atom_along t.side (graph t) t.printed.now k e) atoms i ks l h);
      }

      pub along_stop : (i : ℕ) (a : Atom) → i < length atoms → a ≡ slice_index_or atoms i a → (ks : List Sparse) → EdgeKeepsFirst t k e atoms i ks → (x : InvFault)
          → IsFault t.budget (Only (atom_along t.side (graph t) t.printed.now k e i a ∷ [])) x → IsFault t.budget (AlongAsks t k e) x
      along_stop i a l r ks h x f =
          subst (λ xs. IsFault t.budget (Only (numbered (atom_along t.side (graph t) t.printed.now k e) 0 xs)) x) q
          (kept_fault kept places (λ c. form_after n e c.coefs) (atom_after n e) t.budget (atom_along t.side (graph t) t.printed.now k e) atoms i a l r ks h x f)

    -- ---- the line and the keeps of the edge
    pub edge_dead_done : (k : ℕ) (l : Liveness) → IsLine kept places t.budget l → IsDone t.budget (edge_dead t.side (graph t) t.printed.now k e)
    edge_dead_done k (Dead x) h = line_done_dead kept places t.budget x (site.KeptEdge t.side k) h
    edge_dead_done k (Live x) h = line_done_live kept places t.budget x (site.KeptEdge t.side k) h

    module _ (k : ℕ) (l : Liveness) (h : IsLine cut places t.budget l) (f : IsFlag (is_live l) cut) where
      pub dead_part : (x : EdgeCert) → x.live ≡ l → x.keeps ≡ [] → is_live l ≡ false → IsEdgePart t k e x
      dead_part x a b s = record {
        live = false;
        right = subst (λ d. IsFlag d kept) s (cut_flag (is_live l) f);
        part = record {
          flag = ap is_live a ∙ s;
          line = subst (IsLine kept places t.budget) (sym a) (line_kept l h);
          keeps = subst (AreKeeps kept places (λ c. form_after n e c.coefs) (atom_after n e) t.budget []) (sym b) tt;
        };
        done = (edge_dead_done k l (line_kept l h), tt);
      }

      pub live_part : (x : EdgeCert) (xs : List Sparse) → x.live ≡ l → x.keeps ≡ xs → is_live l ≡ true → AreKeepsAlong t k e xs → IsEdgePart t k e x
      live_part x xs a b s w = record {
        live = true;
        right = subst (λ d. IsFlag d kept) s (cut_flag (is_live l) f);
        part = record {
          flag = ap is_live a ∙ s;
          line = subst (IsLine kept places t.budget) (sym a) (line_kept l h);
          keeps = subst (AreKeeps kept places (λ c. form_after n e c.coefs) (atom_after n e) t.budget (at e.to)) (sym b) w.keeps;
        };
        done = (edge_dead_done k l (line_kept l h), w.done);
      }

      pub kept_live : is_live l ≡ true → ¬ IsDead kept
      kept_live s = (cut_flag (is_live l) f).0 s

      pub along_part_fault : is_live l ≡ true → (x : InvFault) → IsFault t.budget (AlongAsks t k e) x → IsFault t.budget (EdgeAsks t k e) x
      along_part_fault s x r =
          fault_before t.budget (edge_dead t.side (graph t) t.printed.now k e ∷ []) (AlongAsks t k e) (EdgeAsks t k e) (edge_dead_done k l (line_kept l h), tt)
          (λ asked q. ([], (true, subst (λ d. IsFlag d kept) s (cut_flag (is_live l) f), ap (λ zs. edge_dead t.side (graph t) t.printed.now k e ∷ zs) (append-nil asked ∙ q)))) x r

    -- the same by what the code has of them
    pub line_as : (hyps : List Atom) (p : ℕ) (l : Liveness) → hyps ≡ cut → p ≡ places → IsLine hyps p t.budget l → IsLine cut places t.budget l
    line_as hyps p l a b h = subst (λ k. IsLine cut k t.budget l) b (subst (λ hs. IsLine hs p t.budget l) a h)

    pub flag_as : (hyps : List Atom) (b : Bool) → hyps ≡ cut → IsFlag b hyps → IsFlag b cut
    flag_as hyps b a h = subst (IsFlag b) a h

    pub line_fault_as : (k : ℕ) (hyps : List Atom) (p : ℕ) (x : InvFault) → hyps ≡ cut → p ≡ places
        → IsFault t.budget (Only (ask (site.KeptEdge t.side k) (empty_problem hyps p) ∷ [])) x → IsFault t.budget (Only (ask (site.KeptEdge t.side k) (empty_problem cut places) ∷ [])) x
    line_fault_as k hyps p x a b h = subst (λ q. IsFault t.budget (Only (ask (site.KeptEdge t.side k) q ∷ [])) x) (ap₂ empty_problem a b) h

    -- a refusal of the line
    pub line_fault : (k : ℕ) (x : InvFault) → IsFault t.budget (Only (ask (site.KeptEdge t.side k) (empty_problem cut places) ∷ [])) x → IsFault t.budget (EdgeAsks t k e) x
    line_fault k x r =
        fault_before t.budget [] (Only (edge_dead t.side (graph t) t.printed.now k e ∷ [])) (EdgeAsks t k e) tt
        (λ asked q. by asked q (has_flags (kept ∷ []))) x
        (subst (λ p. IsFault t.budget (Only (ask (site.KeptEdge t.side k) p ∷ [])) x) (cuts_ask_the_same places (at e.from) e) r)
      where
        by : (asked : List Asked) → asked ≡ edge_dead t.side (graph t) t.printed.now k e ∷ [] → (bs : List Bool) × AreFlags bs (kept ∷ []) → (after : List Asked) × EdgeAsks t k e ([] ++ (asked ++ after))
        by asked q ([], g) = absurd g
        by asked q ((b ∷ bs), g) = (
          cond b (numbered (atom_along t.side (graph t) t.printed.now k e) 0 (at e.to)) [],
          (b, g.0, ap (λ zs. zs ++ cond b (numbered (atom_along t.side (graph t) t.printed.now k e) 0 (at e.to)) []) q),
        )

  -- ---- case by case
  pub cases_start : AreCasesFirst t 0 []
  cases_start = record { keeps = tt; done = tt }

  entry_push : (cases : List (List Atom)) (live : List Bool) (i : ℕ) (case : List Atom) (b : Bool) (xs : List (List Sparse)) (ks : List Sparse) → length live ≡ length cases → i < length cases
      → case ≡ slice_index_or cases i case → b ≡ slice_index_or live i b → side.AreEntryKeeps (graph t) t.printed.now t.budget (take i cases) (take i live) xs
      → side.AreCaseKeeps (graph t) t.printed.now t.budget case b ks → side.AreEntryKeeps (graph t) t.printed.now t.budget (take (suc i) cases) (take (suc i) live) (xs ++ ks ∷ [])
  entry_push [] live i case b xs ks e l r s h w = absurd (omega arith)
  entry_push (d ∷ cases) [] i case b xs ks e l r s h w = absurd (omega arith)
  entry_push (d ∷ cases) (g ∷ live) zero case b [] ks e l r s h w =
      (subst (λ c. side.AreCaseKeeps (graph t) t.printed.now t.budget c g ks) r (subst (λ y. side.AreCaseKeeps (graph t) t.printed.now t.budget case y ks) s w), tt)
  entry_push (d ∷ cases) (g ∷ live) zero case b (x ∷ xs) ks e l r s h w = absurd h
  entry_push (d ∷ cases) (g ∷ live) (suc i) case b [] ks e l r s h w = absurd h
  entry_push (d ∷ cases) (g ∷ live) (suc i) case b (x ∷ xs) ks e l r s h w = (h.0, entry_push cases live i case b xs ks (omega arith) (omega arith) r s h.1 w)

  pub many_flags : length t.live.now ≡ length t.cases.now
  many_flags = flags_many t.live.now t.cases.now lent.flags

  module _ (i : ℕ) (case : List Atom) (b : Bool) (inside : i < length t.cases.now) (read : case ≡ slice_index_or t.cases.now i case) (told : b ≡ slice_index_or t.live.now i b) where
    pub case_flag : IsFlag b case
    case_flag = flag_at t.live.now t.cases.now i b case lent.flags inside told read

    pub cases_next : (xs new : List (List Sparse)) (ks : List Sparse) → AreCasesFirst t i xs → IsCasePart t i case b ks → new ≡ xs ++ ks ∷ [] → AreCasesFirst t (suc i) new
    cases_next xs new ks h w e = record {
      keeps = subst (side.AreEntryKeeps (graph t) t.printed.now t.budget (take (suc i) t.cases.now) (take (suc i) t.live.now)) (sym e)
          (entry_push t.cases.now t.live.now i case b xs ks many_flags inside read told h.keeps w.keeps);
      done = subst (AllDone t.budget) (sym (live_next (entry_asked t.side (graph t) t.printed.now) 0 t.cases.now t.live.now i case b many_flags inside read told))
          (both_done t.budget (for_live (entry_asked t.side (graph t) t.printed.now) 0 (take i t.cases.now) (take i t.live.now)) _ h.done
          (subst (λ j. AllDone t.budget (one_live (entry_asked t.side (graph t) t.printed.now) j case b)) (let z : i ≡ 0 + i = omega arith in z) w.done));
    }

    pub cases_fault : (xs : List (List Sparse)) → AreCasesFirst t i xs → (x : InvFault) → IsFault t.budget (Only (case_asked t i case b)) x → IsFault t.budget (EntryAsks t) x
    cases_fault xs h x r =
        fault_part t.budget (for_live (entry_asked t.side (graph t) t.printed.now) 0 (take i t.cases.now) (take i t.live.now))
        (for_live (entry_asked t.side (graph t) t.printed.now) (suc (0 + i)) (drop (suc i) t.cases.now) (drop (suc i) t.live.now)) (Only (case_asked t i case b)) (EntryAsks t) h.done
        (λ asked q. ap (λ zs. for_live (entry_asked t.side (graph t) t.printed.now) 0 (take i t.cases.now) (take i t.live.now)
        ++ (zs ++ for_live (entry_asked t.side (graph t) t.printed.now) (suc (0 + i)) (drop (suc i) t.cases.now) (drop (suc i) t.live.now))) (q ∙ same)
        ∙ sym (live_cut (entry_asked t.side (graph t) t.printed.now) 0 t.cases.now t.live.now i case b many_flags inside read told)) x r
      where
        same : case_asked t i case b ≡ one_live (entry_asked t.side (graph t) t.printed.now) (0 + i) case b
        same = let z : i ≡ 0 + i = omega arith in ap (λ j. one_live (entry_asked t.side (graph t) t.printed.now) j case b) z

  pub cases_end : (i : ℕ) (xs : List (List Sparse)) → length t.cases.now ≤ i → AreCasesFirst t i xs → AreEntryKeeps t xs
  cases_end i xs l h =
      let a = take_all i t.cases.now l in
      let b = take_all i t.live.now (let m = many_flags in omega arith) in
      record {
        keeps = subst (λ bs. side.AreEntryKeeps (graph t) t.printed.now t.budget t.cases.now bs xs) b
            (subst (λ cs. side.AreEntryKeeps (graph t) t.printed.now t.budget cs (take i t.live.now) xs) a h.keeps);
        done = subst (λ bs. AllDone t.budget (for_live (entry_asked t.side (graph t) t.printed.now) 0 t.cases.now bs)) b
            (subst (λ cs. AllDone t.budget (for_live (entry_asked t.side (graph t) t.printed.now) 0 cs (take i t.live.now))) a h.done);
      }

  -- ---- edge by edge
  abbrev along : Edge → List Atom
  along e = kept_atoms (graph t) t.printed.now e

  abbrev asks : ℕ → Edge → Bool → List Asked
  asks k e b = edge_asked t.side (graph t) t.printed.now k e b

  pub parts_start : ArePartsFirst t 0 []
  parts_start = record { flags = []; right = tt; parts = tt; done = tt }

  parts_push : (es : List Edge) (fs : List Bool) (xs : List EdgeCert) (e : Edge) (b : Bool) (x : EdgeCert) → side.AreEdgeParts (graph t) t.printed.now t.budget es fs xs
      → side.IsEdgePart (graph t) t.printed.now t.budget e b x → AreFlags fs (map along es) → side.AreEdgeParts (graph t) t.printed.now t.budget (es ++ e ∷ []) (fs ++ b ∷ []) (xs ++ x ∷ [])
  parts_push [] [] [] e b x h w a = (w, tt)
  parts_push [] [] (y ∷ xs) e b x h w a = absurd h
  parts_push [] (d ∷ fs) xs e b x h w a = absurd a
  parts_push (g ∷ es) [] xs e b x h w a = absurd a
  parts_push (g ∷ es) (d ∷ fs) [] e b x h w a = absurd h
  parts_push (g ∷ es) (d ∷ fs) (y ∷ xs) e b x h w a = (h.0, parts_push es fs xs e b x h.1 w a.1)

  module _ (i : ℕ) (e : Edge) (inside : i < length t.system.now.edges) (read : e ≡ slice_index_or t.system.now.edges i e) where
    before_many : 0 + length (take i t.system.now.edges) ≡ i
    before_many = let q = length-take-le i t.system.now.edges (omega arith) in omega arith

    pub parts_next : (xs new : List EdgeCert) (x : EdgeCert) → ArePartsFirst t i xs → IsEdgePart t i e x → new ≡ xs ++ x ∷ [] → ArePartsFirst t (suc i) new
    parts_next xs new x h w q =
        let s = next_at t.system.now.edges i e inside read in
        record {
          flags = h.flags ++ w.live ∷ [];
          right = subst (λ es. AreFlags (h.flags ++ w.live ∷ []) (map along es)) (sym s) (flags_join along (take i t.system.now.edges) h.flags (e ∷ []) (w.live ∷ []) h.right (w.right, tt));
          parts = subst (λ es. side.AreEdgeParts (graph t) t.printed.now t.budget es (h.flags ++ w.live ∷ []) new) (sym s)
              (subst (side.AreEdgeParts (graph t) t.printed.now t.budget (take i t.system.now.edges ++ e ∷ []) (h.flags ++ w.live ∷ [])) (sym q)
              (parts_push (take i t.system.now.edges) h.flags xs e w.live x h.parts w.part h.right));
          done = subst (λ es. AllDone t.budget (for_edges asks 0 es (h.flags ++ w.live ∷ []))) (sym s)
              (subst (AllDone t.budget)
              (sym (edges_join along asks 0 (take i t.system.now.edges) h.flags (e ∷ []) (w.live ∷ []) h.right
              ∙ ap (λ j. for_edges asks 0 (take i t.system.now.edges) h.flags ++ (asks j e w.live ++ [])) before_many ∙ ap (λ zs. for_edges asks 0 (take i t.system.now.edges) h.flags ++ zs) (append-nil (asks i e w.live))))
              (both_done t.budget (for_edges asks 0 (take i t.system.now.edges) h.flags) (asks i e w.live) h.done w.done));
        }

    pub parts_fault : (xs : List EdgeCert) → ArePartsFirst t i xs → (x : InvFault) → IsFault t.budget (EdgeAsks t i e) x → IsFault t.budget (EdgesAsk t) x
    parts_fault xs h x r =
        fault_before t.budget (for_edges asks 0 (take i t.system.now.edges) h.flags) (EdgeAsks t i e) (EdgesAsk t) h.done rest x r
      where
        whole : (b : Bool) (gs : List Bool) → for_edges asks 0 t.system.now.edges (h.flags ++ b ∷ gs)
            ≡ for_edges asks 0 (take i t.system.now.edges) h.flags ++ (asks i e b ++ for_edges asks (suc i) (drop (suc i) t.system.now.edges) gs)
        whole b gs =
            ap (λ es. for_edges asks 0 es (h.flags ++ b ∷ gs)) (cut_at t.system.now.edges i e inside read)
            ∙ edges_join along asks 0 (take i t.system.now.edges) h.flags (e ∷ drop (suc i) t.system.now.edges) (b ∷ gs) h.right
            ∙ ap (λ j. for_edges asks 0 (take i t.system.now.edges) h.flags ++ (asks j e b ++ for_edges asks (suc j) (drop (suc i) t.system.now.edges) gs)) before_many

        rest : (asked : List Asked) → EdgeAsks t i e asked → (after : List Asked) × EdgesAsk t (for_edges asks 0 (take i t.system.now.edges) h.flags ++ (asked ++ after))
        rest asked y =
            let g = has_flags (map along (drop (suc i) t.system.now.edges)) in (
              for_edges asks (suc i) (drop (suc i) t.system.now.edges) g.0,
              (
                h.flags ++ y.0 ∷ g.0,
                subst (λ es. AreFlags (h.flags ++ y.0 ∷ g.0) (map along es)) (sym (cut_at t.system.now.edges i e inside read))
                    (flags_join along (take i t.system.now.edges) h.flags (e ∷ drop (suc i) t.system.now.edges) (y.0 ∷ g.0) h.right (y.1, g.1)),
                ap (λ zs. for_edges asks 0 (take i t.system.now.edges) h.flags ++ (zs ++ for_edges asks (suc i) (drop (suc i) t.system.now.edges) g.0)) y.2 ∙ sym (whole y.0 g.0),
              ),
            )

  pub parts_end : (i : ℕ) (xs : List EdgeCert) → length t.system.now.edges ≤ i → ArePartsFirst t i xs → AreEdgeParts t xs
  parts_end i xs l h =
      let a = take_all i t.system.now.edges l in
      record {
        flags = h.flags;
        right = subst (λ es. AreFlags h.flags (map along es)) a h.right;
        parts = subst (λ es. side.AreEdgeParts (graph t) t.printed.now t.budget es h.flags xs) a h.parts;
        done = subst (λ es. AllDone t.budget (for_edges asks 0 es h.flags)) a h.done;
      }

  -- ---- the exit, and all together
  pub exit_in : AllByRecursion (IsAtom n) (exit_atoms (graph t) t.printed.now)
  exit_in = in_atoms (t.system.now.locs - 1)

  exit_done : (l : Liveness) → IsLine (exit_atoms (graph t) t.printed.now) n t.budget l → IsDone t.budget (exit_asked t.side (graph t) t.printed.now)
  exit_done (Dead k) h = line_done_dead (exit_atoms (graph t) t.printed.now) n t.budget k (site.Exit t.side) h
  exit_done (Live k) h = line_done_live (exit_atoms (graph t) t.printed.now) n t.budget k (site.Exit t.side) h

  abbrev first_asked : List Asked
  first_asked = for_live (entry_asked t.side (graph t) t.printed.now) 0 t.cases.now t.live.now

  pub whole_side : (x : SideCert) → x.families ≡ t.printed.now → AreEntryKeeps t x.entry_keeps → AreEdgeParts t x.edges → IsLine (exit_atoms (graph t) t.printed.now) n t.budget x.exit_line
      → TellsKeeps t.side (graph t) t.cases.now t.live.now t.printed.now t.budget x
  whole_side x f a b l = record {
    flags = b.flags;
    right = b.right;
    part = record { families = f; entry_keeps = a.keeps; edges = b.parts; exit_line = l };
    through = both_done t.budget first_asked (for_edges asks 0 t.system.now.edges b.flags ++ exit_asked t.side (graph t) t.printed.now ∷ []) a.done
        (both_done t.budget (for_edges asks 0 t.system.now.edges b.flags) (exit_asked t.side (graph t) t.printed.now ∷ []) b.done (exit_done x.exit_line l, tt));
  }

  pub entry_side_fault : (x : InvFault) → IsFault t.budget (EntryAsks t) x → IsFault t.budget (KeepsAsk t.side (graph t) t.printed.now t.cases.now t.live.now) x
  entry_side_fault x r =
      let g = has_flags (map along t.system.now.edges) in
      fault_part t.budget [] (for_edges asks 0 t.system.now.edges g.0 ++ exit_asked t.side (graph t) t.printed.now ∷ []) (EntryAsks t) (KeepsAsk t.side (graph t) t.printed.now t.cases.now t.live.now) tt
      (λ asked q. (g.0, g.1, ap (λ zs. zs ++ (for_edges asks 0 t.system.now.edges g.0 ++ exit_asked t.side (graph t) t.printed.now ∷ [])) q)) x r

  pub edges_side_fault : (xs : List (List Sparse)) → AreEntryKeeps t xs → (x : InvFault) → IsFault t.budget (EdgesAsk t) x → IsFault t.budget (KeepsAsk t.side (graph t) t.printed.now t.cases.now t.live.now) x
  edges_side_fault xs a x r =
      fault_part t.budget first_asked (exit_asked t.side (graph t) t.printed.now ∷ []) (EdgesAsk t) (KeepsAsk t.side (graph t) t.printed.now t.cases.now t.live.now) a.done
      (λ asked y. (y.0, y.1, ap (λ zs. first_asked ++ (zs ++ exit_asked t.side (graph t) t.printed.now ∷ [])) y.2)) x r

  pub exit_side_fault : (xs : List (List Sparse)) (ys : List EdgeCert) → AreEntryKeeps t xs → AreEdgeParts t ys → (x : InvFault) → IsFault t.budget (Only (exit_asked t.side (graph t) t.printed.now ∷ [])) x
      → IsFault t.budget (KeepsAsk t.side (graph t) t.printed.now t.cases.now t.live.now) x
  exit_side_fault xs ys a b x r =
      fault_part t.budget (first_asked ++ for_edges asks 0 t.system.now.edges b.flags) [] (Only (exit_asked t.side (graph t) t.printed.now ∷ [])) (KeepsAsk t.side (graph t) t.printed.now t.cases.now t.live.now)
      (both_done t.budget first_asked (for_edges asks 0 t.system.now.edges b.flags) a.done b.done)
      (λ asked q. (
        b.flags,
        b.right,
        ap (λ zs. (first_asked ++ for_edges asks 0 t.system.now.edges b.flags) ++ zs) (append-nil asked ∙ q)
            ∙ append_assoc first_asked (for_edges asks 0 t.system.now.edges b.flags) (exit_asked t.side (graph t) t.printed.now ∷ []),
      )) x r

-- ---- from what `keep_proofs` requires
pub keeping_lent : (t : Keeping) (ps : List (List Atom)) → t.printed.now ≡ ps → IsWellFormed t.system.now → IsCondition t.system.now.params t.cases.now → AreFlags t.live.now t.cases.now
    → length ps ≡ t.system.now.locs → AllByRecursion (AllByRecursion (IsFullAtom t.system.now.vars)) ps → IsInductive (graph_of t.system.now) t.cases.now (family_of ps) → IsKeeping t
keeping_lent t ps e w k f o a i = record {
  system = w;
  condition = k;
  flags = f;
  one_each = ap length e ∙ o;
  atoms = subst (AllByRecursion (AllByRecursion (IsFullAtom t.system.now.vars))) (sym e) a;
  inductive = subst (λ qs. IsInductive (graph_of t.system.now) t.cases.now (family_of qs)) (sym e) i;
}

-- a case that is read
pub case_among : (cases : List (List Atom)) (i : ℕ) (case : List Atom) → i < length cases → case ≡ slice_index_or cases i case → Among case cases
case_among cases i case l r = subst (λ c. Among c cases) (sym r) (at_among case cases i l)

pub edge_among : (edges : List Edge) (i : ℕ) (e : Edge) → i < length edges → e ≡ slice_index_or edges i e → Among e edges
edge_among edges i e l r = subst (λ c. Among c edges) (sym r) (at_among e edges i l)
