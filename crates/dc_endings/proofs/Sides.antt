-- What shows the printed atoms of a version, where its problems come to their end.
use Rattle.std.specs.Prelude.{◌≡◌, ℕ, suc, ◌+◌, ◌-◌, ◌^◌, ◌<◌, ◌≤◌, Bool, true, false, cond, if◌then◌else◌, List, [], ◌∷◌, ◌++◌, map, take, length, sum_by, unsigned_abs, ℤ, pos}
use Rattle.std.specs.List.{AllByRecursion}
use Rattle.std.proofs.Common.{refl, sym, ◌∙◌, ap, subst, arith}
use Rattle.std.proofs.lemmas.List.{length-take-le, get_or-take}
use Rattle.std.proofs.lemmas.List.Sums.{sum_by-take-le}
use Rattle.dc_math.specs.Members.{Among, head, tail, each_at_or, each_among}
use Rattle.dc_math.specs.Rational.{of_ℤ}
use Rattle.dc_syntax.specs.declared.tree.Side.{Side}
use Rattle.dc_affine.specs.declared.atom.Atom.{Atom}
use Rattle.dc_affine.specs.Atoms.{IsAtom, IsFullAtom, AllCases}
use Rattle.dc_lp.specs.Problems.{whole_at}
use Rattle.dc_system.specs.declared.edges.Edge.{Edge}
use Rattle.dc_system.specs.declared.edges.System.{System}
use Rattle.dc_system.specs.After.{row_after_of, atom_after}
use Rattle.dc_system.specs.Shapes.{IsEdge, IsWellFormed}
use Rattle.dc_cert.specs.declared.sparse.Sparse.{Sparse}
use Rattle.dc_cert.specs.declared.certificate.Liveness.{Liveness}
use Rattle.dc_cert.specs.declared.certificate.Liveness.TheVariants.{Dead, Live}
use Rattle.dc_cert.specs.declared.certificate.EdgeCert.{EdgeCert}
use Rattle.dc_cert.specs.declared.certificate.SideCert.{SideCert}
use Rattle.dc_cert.specs.Ranges.{is_live}
use Rattle.dc_cert.specs.Vectors.{entry_of}
use Rattle.dc_entail.specs.declared.answer.Site.{Site}
use Rattle.dc_entail.specs.declared.answer.Site.TheVariants as site
use Rattle.dc_entail.specs.Asked.{Asked, ask, IsDone, AllDone}
use Rattle.dc_points.specs.Points.{MeetsAt, IsDead, Entails, EntailsFrom}
use Rattle.dc_points.specs.Stated.{coefficient_of, sup_problem}
use Rattle.dc_points.specs.Shown.{IsFlag, AreFlags, CombinesTo}
use Rattle.dc_points.proofs.Whole.{atoms_are_forms}
use Rattle.dc_families.specs.Graphs.{Graph, graph_of}
use Rattle.dc_families.specs.Families.{family_of}
use Rattle.dc_families.specs.Moves.{at_start, edge_places, form_after}
use Rattle.dc_families.specs.Rounds.{IsInductive}
use Rattle.dc_families.proofs.Tests.{has_among, among_has}
use Rattle.dc_moves.specs.Cuts.{with_guard}
use Rattle.dc_moves.proofs.Cuts.{cuts_ask_the_same, cuts_ask_the_same_forms, cuts_say_the_same, cuts_are_atoms, combines-cut, live-cut}
use Rattle.dc_moves.proofs.Forms.{row_is_light, forms_have_places, forms_are_light, forms_tell_atoms}
use Rattle.dc_greatest.specs.Parts.{for_live, for_edges}
use Rattle.dc_greatest.proofs.Ends.{flag_same}
use Rattle.dc_greatest.proofs.Searching.{done_parts}
use Rattle.dc_invariant.specs.Shown.{IsSolutionOf, IsRefutationOf, IsKeep, AreKeeps, IsLine}
use Rattle.dc_invariant.specs.Keeps as side
use Rattle.dc_invariant.specs.Keeps.{printed_at, kept_atoms, exit_atoms, AreLive, numbered, atom_at_entry, entry_asked, atom_along, edge_dead, edge_asked, exit_asked, keeps_asked, IsSidePart}
use Rattle.dc_invariant.specs.Lent.{IsLeastKeep}
use Rattle.dc_invariant.proofs.Tells.{full_atoms, shown_keep}
use Rattle.dc_session.specs.Made.{AreCaseLines}
use Rattle.dc_session.specs.Session.{case_asked}
use Rattle.dc_endings.proofs.Shown.{IsEnded, done_ended, HasLine, has_line, has_keep}

-- ---- lists

pub line_flag : (b : Bool) (hyps : List Atom) (n budget : ℕ) (l : HasLine hyps n budget) → IsFlag b hyps → is_live l.said ≡ b
line_flag b hyps n budget l f = flag_same (is_live l.said) b hyps l.flag f

-- ---- a line for each case
module _ (params budget : ℕ) (few : params ≤ 10) where
  pub case_lines : (k : ℕ) (cases : List (List Atom)) (live : List Bool) → AllCases (IsFullAtom params) cases → AreFlags live cases
      → AllDone budget (numbered (case_asked params) k cases) → (ws : List Liveness) × AreCaseLines params budget cases live ws
  case_lines k [] [] a f d = ([], tt)
  case_lines k [] (b ∷ live) a f d = absurd f
  case_lines k (case ∷ cases) [] a f d = absurd f
  case_lines k (case ∷ cases) (b ∷ live) a f d =
      let l = has_line case params budget (full_atoms params params case refl a.0) (omega arith) (done_ended budget (case_asked params k case) d.0) in
      let r = case_lines (suc k) cases live a.1 f.1 d.1 in
      (l.said ∷ r.0, (line_flag b case params budget l f.0, l.line, r.1))

-- ---- keeps of the atoms of a list
module _ (hyps : List Atom) (n : ℕ) (form : Atom → List ℤ) (shown : Atom → Atom) (budget : ℕ) (f : ℕ → Atom → Asked) where
  keeps_are : (k : ℕ) (atoms : List Atom)
      → ((j : ℕ) (a : Atom) → Among a atoms → IsDone budget (f j a) → (x : Sparse) × IsKeep hyps n (form a) (shown a) budget x)
      → AllDone budget (numbered f k atoms) → (ks : List Sparse) × AreKeeps hyps n form shown budget atoms ks
  keeps_are k [] h d = ([], tt)
  keeps_are k (a ∷ atoms) h d =
      let x = h k a head d.0 in
      let r = keeps_are (suc k) atoms (λ j b m. h j b (tail m)) d.1 in
      (x.0 ∷ r.0, (x.1, r.1))

-- ---- a version
module _ (version : Side) (s : System) (formed : IsWellFormed s) (cases : List (List Atom)) (condition : AllCases (IsFullAtom s.params) cases)
    (printed : List (List Atom)) (atoms : AllByRecursion (AllByRecursion (IsFullAtom s.vars)) printed)
    (inductive : IsInductive (graph_of s) cases (family_of printed)) (budget : ℕ) where
  abbrev g : Graph
  g = graph_of s

  abbrev n : ℕ
  n = s.vars

  abbrev at : ℕ → List Atom
  at l = printed_at g printed l

  atoms_at : (l : ℕ) → AllByRecursion (IsFullAtom n) (at l)
  atoms_at l = each_at_or (AllByRecursion (IsFullAtom n)) printed l [] atoms tt

  full_at : (l : ℕ) (a : Atom) → Among a (at l) → IsFullAtom n a
  full_at l a m = each_among (IsFullAtom n) (atoms_at l) m

  in_atoms : (l : ℕ) → AllByRecursion (IsAtom n) (at l)
  in_atoms l = full_atoms n n (at l) refl (atoms_at l)

  -- ---- a case shows the atoms of the entry
  module _ (case : List Atom) (m : Among case cases) (live : ¬ IsDead case) (a : Atom) (in_entry : Among a (at 0)) where
    abbrev start : List ℤ
    start = take s.params a.coefs

    start_long : length start ≡ s.params
    start_long = length-take-le s.params a.coefs (let f = (full_at 0 a in_entry).one_each in let p = formed.params_first in omega arith)

    start_atoms : AllByRecursion (IsAtom (length start)) case
    start_atoms = full_atoms s.params (length start) case start_long (each_among (AllByRecursion (IsFullAtom s.params)) condition m)

    start_light : sum_by unsigned_abs start < 2 ^ 70
    start_light =
        let f = full_at 0 a in_entry in
        let r = row_is_light a.coefs f.within.coefs_within (let o = f.one_each in let v = formed.few_vars in omega arith) in
        let t = sum_by-take-le unsigned_abs a.coefs s.params in
        below (sum_by unsigned_abs start) (sum_by unsigned_abs a.coefs) t r
      where
        below : (x y : ℕ) → x ≤ y → y < 2 ^ 70 → x < 2 ^ 70
        below x y h k = omega arith

    start_from : EntailsFrom case start (of_ℤ a.c0)
    start_from = (atoms_are_forms case start a.c0).0 ((inductive 0 a (among_has a (at 0) in_entry)).entry refl case m)

    entry_keep : (q : Site) → IsDone budget (ask q (sup_problem case (at_start s.params a).coefs))
        → (k : Sparse) × IsKeep case s.params (at_start s.params a).coefs (at_start s.params a) budget k
    entry_keep q d =
        let few : length start ≤ 1024 = (let l = start_long in let p = formed.params_first in let v = formed.few_vars in omega arith) in
        let r = has_keep case start budget start_atoms few start_light live (of_ℤ a.c0) start_from (done_ended budget (ask q (sup_problem case start)) d) in (
          r.0,
          record {
            vector = r.1.vector;
            shows = shown_keep case s.params start (at_start s.params a) budget r.0 start_long (λ i l. refl) start_from r.1;
          },
        )

  case_keeps : (k : ℕ) (case : List Atom) (b : Bool) → Among case cases → IsFlag b case → AllDone budget (if b then entry_asked version g printed k case else [])
      → (ks : List Sparse) × side.AreCaseKeeps g printed budget case b ks
  case_keeps k case true m f d =
      keeps_are case s.params (λ a. (at_start s.params a).coefs) (at_start s.params) budget (atom_at_entry version g printed k case) 0 (at 0)
      (λ j a i e. entry_keep case m (f.0 refl) a i (site.KeptEntry version k j) e) d
  case_keeps k case false m f d = ([], tt)

  entry_keeps : (k : ℕ) (cs : List (List Atom)) (bs : List Bool) → ((case : List Atom) → Among case cs → Among case cases) → AreFlags bs cs
      → AllDone budget (for_live (entry_asked version g printed) k cs bs) → (kss : List (List Sparse)) × side.AreEntryKeeps g printed budget cs bs kss
  entry_keeps k [] bs m f d = ([], tt)
  entry_keeps k (c ∷ cs) [] m f d = absurd f
  entry_keeps k (c ∷ cs) (b ∷ bs) m f d =
      let p = done_parts budget (if b then entry_asked version g printed k c else []) (for_live (entry_asked version g printed) (suc k) cs bs) d in
      let x = case_keeps k c b (m c head) f.0 p.0 in
      let r = entry_keeps (suc k) cs bs (λ y i. m y (tail i)) f.1 p.1 in
      (x.0 ∷ r.0, (x.1, r.1))

  -- ---- edges
  module _ (e : Edge) (m : Among e s.edges) where
    abbrev places : ℕ
    places = edge_places n e

    abbrev cut : List Atom
    cut = with_guard places (at e.from) e

    abbrev kept : List Atom
    kept = kept_atoms g printed e

    is_edge : IsEdge n e
    is_edge = each_among (IsEdge n) formed.edges m

    places_few : places ≤ 11
    places_few = by e.any
      where
        by : (b : Bool) → cond b (n + 1) n ≤ 11
        by true = let l = formed.few_vars in omega arith
        by false = let l = formed.few_vars in omega arith

    cut_atoms : AllByRecursion (IsAtom places) cut
    cut_atoms = cuts_are_atoms n e (at e.from) is_edge (in_atoms e.from)

    cut_live : ¬ IsDead kept → ¬ IsDead cut
    cut_live live d = live (λ p k. d p ((cuts_say_the_same n e (at e.from) p is_edge).1 k))

    cut_flag : (b : Bool) → IsFlag b cut → IsFlag b kept
    cut_flag b f = (
      (λ t d. f.0 t (λ p k. d p ((cuts_say_the_same n e (at e.from) p is_edge).0 k))),
      (λ l. f.1 (λ d. l (λ p k. d p ((cuts_say_the_same n e (at e.from) p is_edge).1 k)))),
    )

    line_kept : (l : Liveness) → IsLine cut places budget l → IsLine kept places budget l
    line_kept (Dead k) h = record {
      vector = subst (λ p. IsSolutionOf p budget k) (cuts_ask_the_same places (at e.from) e) h.vector;
      shows = combines-cut places (at e.from) e _ _ (entry_of k.items) h.shows;
    }
    line_kept (Live k) h = record {
      vector = subst (λ p. IsRefutationOf p budget k) (cuts_ask_the_same places (at e.from) e) h.vector;
      shows = live-cut places (at e.from) e (entry_of k.items) h.shows;
    }

    edge_line : (k : ℕ) → IsDone budget (edge_dead version g printed k e) → HasLine kept places budget
    edge_line k d =
        let ended = subst (λ p. IsEnded p budget) (sym (cuts_ask_the_same places (at e.from) e)) (done_ended budget (edge_dead version g printed k e) d) in
        let l = has_line cut places budget cut_atoms (let f = places_few in omega arith) ended in
        record { said = l.said; line = line_kept l.said l.line; flag = cut_flag (is_live l.said) l.flag }

    -- one atom of the target
    module _ (live : ¬ IsDead kept) (a : Atom) (in_target : Among a (at e.to)) where
      abbrev form : List ℤ
      form = form_after n e a.coefs

      form_long : length form ≡ places
      form_long = forms_have_places n e a.coefs

      form_light : sum_by unsigned_abs form < 2 ^ 70
      form_light =
          let f = full_at e.to a in_target in
          forms_are_light n e a.coefs formed.few_vars is_edge (let o = f.one_each in omega arith) f.within.coefs_within

      entailed : Entails kept (atom_after n e a)
      entailed p k =
          let i = (inductive e.to a (among_has a (at e.to) in_target)).edges e m refl p in
          (i (record { each = λ b h. each_among (MeetsAt p) (left (at e.from) k) (has_among (at e.from) b h) }) (right (at e.from) k)).1
        where
          left : (xs : List Atom) → AllByRecursion (MeetsAt p) (xs ++ e.guard) → AllByRecursion (MeetsAt p) xs
          left [] h = tt
          left (x ∷ xs) h = (h.0, left xs h.1)

          right : (xs : List Atom) → AllByRecursion (MeetsAt p) (xs ++ e.guard) → AllByRecursion (MeetsAt p) e.guard
          right [] h = h
          right (x ∷ xs) h = right xs h.1

      from_kept : EntailsFrom kept form (of_ℤ (atom_after n e a).c0)
      from_kept = (forms_tell_atoms n e kept a is_edge).0 entailed

      from_cut : EntailsFrom cut form (of_ℤ (atom_after n e a).c0)
      from_cut p k = from_kept p ((cuts_say_the_same n e (at e.from) p is_edge).0 k)

      same_problem : sup_problem cut form ≡ sup_problem kept form
      same_problem = ap (λ k. sup_problem (with_guard k (at e.from) e) form) (sym form_long) ∙ cuts_ask_the_same_forms (at e.from) e form

      least_kept : (k : Sparse) → IsLeastKeep cut form budget k → IsLeastKeep kept form budget k
      least_kept k h = record {
        vector = subst (λ p. IsSolutionOf p budget k) same_problem h.vector;
        number = h.number;
        combines = subst (λ j. CombinesTo kept j (whole_at form) h.number (entry_of k.items)) (sym form_long)
            (combines-cut places (at e.from) e (whole_at form) h.number (entry_of k.items) (subst (λ j. CombinesTo cut j (whole_at form) h.number (entry_of k.items)) form_long h.combines));
        least = λ w. (
          (λ f. (h.least w).0 (λ p q. f p ((cuts_say_the_same n e (at e.from) p is_edge).0 q))),
          (λ l p q. (h.least w).1 l p ((cuts_say_the_same n e (at e.from) p is_edge).1 q)),
        );
      }

      coefficients_same : (i : ℕ) → i < places → whole_at form i ≡ coefficient_of (atom_after n e a) i
      coefficients_same i l = get_or-take places (row_after_of n e a.coefs).coefs i (pos 0) l

      keep_along : (q : Site) → IsDone budget (ask q (sup_problem kept form)) → (k : Sparse) × IsKeep kept places form (atom_after n e a) budget k
      keep_along q d =
          let few : length form ≤ 1024 = (let l = form_long in let f = places_few in omega arith) in
          let r = has_keep cut form budget (subst (λ k. AllByRecursion (IsAtom k) cut) (sym form_long) cut_atoms) few form_light (cut_live live) (of_ℤ (atom_after n e a).c0) from_cut
          (subst (λ p. IsEnded p budget) (sym same_problem) (done_ended budget (ask q (sup_problem kept form)) d)) in
          let w = least_kept r.0 r.1 in
          (r.0, record { vector = w.vector; shows = shown_keep kept places form (atom_after n e a) budget r.0 form_long coefficients_same from_kept w })

    edge_keeps : (k : ℕ) (b : Bool) → IsFlag b kept → AllDone budget (if b then numbered (atom_along version g printed k e) 0 (at e.to) else [])
        → (ks : List Sparse) × AreKeeps kept places (λ a. form_after n e a.coefs) (atom_after n e) budget (if b then at e.to else []) ks
    edge_keeps k true f d =
        keeps_are kept places (λ a. form_after n e a.coefs) (atom_after n e) budget (atom_along version g printed k e) 0 (at e.to)
        (λ j a i x. keep_along (f.0 refl) a i (site.KeptAtom version k j) x) d
    edge_keeps k false f d = ([], tt)

    edge_part : (k : ℕ) (b : Bool) → IsFlag b kept → AllDone budget (edge_asked version g printed k e b) → (x : EdgeCert) × side.IsEdgePart g printed budget e b x
    edge_part k b f d =
        let l = edge_line k d.0 in
        let r = edge_keeps k b f d.1 in
        (record { live = l.said; keeps = r.0 }, record { flag = line_flag b kept places budget l f; line = l.line; keeps = r.1 })

  edge_parts : (k : ℕ) (es : List Edge) (fs : List Bool) → ((e : Edge) → Among e es → Among e s.edges) → AreFlags fs (map (kept_atoms g printed) es)
      → AllDone budget (for_edges (edge_asked version g printed) k es fs) → (xs : List EdgeCert) × side.AreEdgeParts g printed budget es fs xs
  edge_parts k [] fs m f d = ([], tt)
  edge_parts k (e ∷ es) [] m f d = absurd f
  edge_parts k (e ∷ es) (b ∷ fs) m f d =
      let p = done_parts budget (edge_asked version g printed k e b) (for_edges (edge_asked version g printed) (suc k) es fs) d in
      let x = edge_part e (m e head) k b f.0 p.0 in
      let r = edge_parts (suc k) es fs (λ y i. m y (tail i)) f.1 p.1 in
      (x.0 ∷ r.0, (x.1, r.1))

  -- ---- the side
  pub record HasSide (live flags : List Bool) (exit : Bool) : Type 0 where
    pub made : SideCert
    pub part : IsSidePart g printed budget cases live flags made
    pub exit_flag : is_live made.exit_line ≡ exit

  pub has_side : (live flags : List Bool) (exit : Bool) → AreFlags live cases → AreLive g printed flags → IsFlag exit (exit_atoms g printed)
      → AllDone budget (keeps_asked version g printed cases live flags) → HasSide live flags exit
  has_side live flags exit lf ff xf d =
      let p = done_parts budget (for_live (entry_asked version g printed) 0 cases live) (for_edges (edge_asked version g printed) 0 s.edges flags ++ exit_asked version g printed ∷ []) d in
      let q = done_parts budget (for_edges (edge_asked version g printed) 0 s.edges flags) (exit_asked version g printed ∷ []) p.1 in
      let x = entry_keeps 0 cases live (λ c m. m) lf p.0 in
      let y = edge_parts 0 s.edges flags (λ e m. m) ff q.0 in
      let l = has_line (exit_atoms g printed) n budget (in_atoms (s.locs - 1)) (let v = formed.few_vars in omega arith) (done_ended budget (exit_asked version g printed) q.1.0) in
      record {
        made = record { families = printed; entry_keeps = x.0; edges = y.0; exit_line = l.said };
        part = record { families = refl; entry_keeps = x.1; edges = y.1; exit_line = l.line };
        exit_flag = line_flag exit (exit_atoms g printed) n budget l xf;
      }
