-- What the lines of a certificate imply at points.
use Rattle.std.specs.Prelude.{◌≡◌, ℕ, ◌≤◌, true, List, [], ◌++◌, take, length, ℤ, pos, Some}
use Rattle.std.specs.List.{AllByRecursion}
use Rattle.std.proofs.Common.{refl, sym, subst, arith, get_or-take, length-take}
use Rattle.dc_affine.specs.declared.atom.Atom.{Atom}
use Rattle.dc_affine.specs.Atoms.{IsAtom}
use Rattle.dc_lp.specs.Linear.{Linear, IsSolution, IsRefutation}
use Rattle.dc_system.specs.declared.edges.Edge.{Edge}
use Rattle.dc_system.specs.Shapes.{IsEdge}
use Rattle.dc_system.specs.After.{atom_after}
use Rattle.dc_cert.specs.declared.sparse.Sparse.{Sparse}
use Rattle.dc_cert.specs.declared.certificate.Liveness.{Liveness}
use Rattle.dc_cert.specs.declared.certificate.Liveness.TheVariants.{Dead, Live}
use Rattle.dc_cert.specs.Ranges.{is_live}
use Rattle.dc_points.specs.Points.{Point, MeetsAt, MeetsAll, AreOver, IsDead, Entails}
use Rattle.dc_points.specs.Stated.{rational, empty_problem}
use Rattle.dc_points.specs.Shown.{ShowsAtom, ShowsDead, ShowsLive}
use Rattle.dc_points.specs.Flags.{IsFlag}
use Rattle.dc_points.proofs.Combinations.{empty_solutions_combine, refutations_show}
use Rattle.dc_points.proofs.Farkas.{dead_are_shown, live_are_named, shown_are_entailed}
use Rattle.dc_points.proofs.Whole.{atoms_are_forms, over_atoms}
use Rattle.dc_points.proofs.Flags.{dead_flag, live_flag}
use Rattle.dc_families.specs.Moves.{at_start, edge_places, form_after}
use Rattle.dc_moves.specs.Cuts.{with_guard}
use Rattle.dc_moves.proofs.Cuts.{cuts_ask_the_same, cuts_say_the_same, cuts_are_atoms}
use Rattle.dc_moves.proofs.Forms.{forms_have_places, forms_tell_atoms}
use Rattle.dc_clauses.specs.Steps.{Test, all_of}
use Rattle.dc_clauses.specs.Lines.{at, line_parts, keep_parts}
use Rattle.dc_check.proofs.Shown.{Shows, keep_shows, shows_atom, dead_shows, live_shows}

-- ---- flags

-- ---- a list over n places
pub line_flag : (hyps : List Atom) (n : ℕ) (line : Liveness) → AreOver n hyps → all_of (line_parts hyps n line) ≡ Some true → IsFlag (is_live line) hyps
line_flag hyps n (Dead v) o e = dead_flag hyps ((dead_are_shown hyps n o).1 (at v, dead_shows hyps n v e))
line_flag hyps n (Live y) o e = (let p = live_are_named hyps n (at y) o (live_shows hyps n y e) in live_flag hyps (λ d. d p.0 p.2))

-- ---- the atoms along an edge, whose guard has a place for a chosen value
module _ (n : ℕ) (e : Edge) (atoms : List Atom) (h : IsEdge n e) (w : AllByRecursion (IsAtom n) atoms) where
  abbrev places : ℕ
  places = edge_places n e

  abbrev cut : List Atom
  cut = with_guard places atoms e

  over : AreOver places cut
  over = over_atoms places cut (cuts_are_atoms n e atoms h w)

  asks : empty_problem (atoms ++ e.guard) places ≡ empty_problem cut places
  asks = sym (cuts_ask_the_same places atoms e)

  pub edge_flag : (line : Liveness) → all_of (line_parts (atoms ++ e.guard) places line) ≡ Some true → IsFlag (is_live line) (atoms ++ e.guard)
  edge_flag (Dead v) t =
      let s = (empty_solutions_combine (atoms ++ e.guard) places (at v)).1 (dead_shows (atoms ++ e.guard) places v t) in
      let r : ShowsDead cut places (at v) = (empty_solutions_combine cut places (at v)).0 (subst (λ (q : Linear ℤ). IsSolution (rational q) (at v)) asks s) in
      let d : IsDead cut = (dead_are_shown cut places over).1 (at v, r) in
      dead_flag (atoms ++ e.guard) (λ p m. d p ((cuts_say_the_same n e atoms p h).1 m))
  edge_flag (Live y) t =
      let s = (refutations_show (atoms ++ e.guard) places (at y)).1 (live_shows (atoms ++ e.guard) places y t) in
      let r : ShowsLive cut places (at y) = (refutations_show cut places (at y)).0 (subst (λ (q : Linear ℤ). IsRefutation (rational q) (at y)) asks s) in
      let p = live_are_named cut places (at y) over r in
      live_flag (atoms ++ e.guard) (λ d. d p.0 ((cuts_say_the_same n e atoms p.0 h).0 p.2))

  -- a keep gives the atom after the edge
  pub keep_gives : (a : Atom) (more : List Test) (v : Sparse) → all_of (keep_parts (atoms ++ e.guard) places (atom_after n e a) more v) ≡ Some true → (p : Point) → MeetsAll p (atoms ++ e.guard) → MeetsAt p (atom_after n e a)
  keep_gives a more v t p m =
      let s = subst (λ (q : Linear ℤ). Shows q places (atom_after n e a) (at v)) asks (keep_shows (atoms ++ e.guard) places (atom_after n e a) more v t).1 in
      let b : Atom = record { c0 = (atom_after n e a).c0; coefs = form_after n e a.coefs } in
      let g : ShowsAtom cut places b (at v) = shows_atom cut places (atom_after n e a) b (at v) s (λ i l. sym (get_or-take places (atom_after n e a).coefs i (pos 0) l)) refl in
      let k : Entails cut b = shown_are_entailed cut places b (at v) over (let f = forms_have_places n e a.coefs in omega arith) g in
      (forms_tell_atoms n e cut a h).1 ((atoms_are_forms cut (form_after n e a.coefs) (atom_after n e a).c0).0 k) p ((cuts_say_the_same n e atoms p h).1 m)

-- ---- a keep of the entry gives the atom with the locals 0
pub entry_gives : (case : List Atom) (n : ℕ) (a : Atom) (v : Sparse) → AreOver n case → all_of (keep_parts case n a [] v) ≡ Some true → Entails case (at_start n a)
entry_gives case n a v o t =
    shown_are_entailed case n (at_start n a) (at v) o (take_short n a.coefs)
    (shows_atom case n a (at_start n a) (at v) (keep_shows case n a [] v t).1 (λ i l. sym (get_or-take n a.coefs i (pos 0) l)) refl)
  where
    take_short : (n : ℕ) (xs : List ℤ) → length (take n xs) ≤ n
    take_short n xs = omega (arith, length-take n xs)
