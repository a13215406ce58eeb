-- The sides and the lines of what is made are within the ranges of a certificate.
use Rattle.std.specs.Prelude.{◌≡◌, ℕ, suc, ◌+◌, ◌-◌, ◌≤◌, Bool, true, false, cond, List, [], ◌∷◌, length}
use Rattle.std.specs.List.{AllByRecursion}
use Rattle.std.proofs.Common.{refl, sym, ◌∙◌, ap, arith, length-append}
use Rattle.dc_math.specs.Members.{each_at_or}
use Rattle.dc_affine.specs.declared.atom.Atom.{Atom}
use Rattle.dc_affine.specs.Atoms.{IsAtom, IsFullAtom}
use Rattle.dc_program.specs.Programs.{AllShort}
use Rattle.dc_system.specs.declared.edges.Edge.{Edge}
use Rattle.dc_system.specs.declared.edges.System.{System}
use Rattle.dc_system.specs.Shapes as shapes
use Rattle.dc_system.specs.After.{atom_after}
use Rattle.dc_cert.specs.declared.sparse.Sparse.{Sparse}
use Rattle.dc_cert.specs.declared.certificate.Liveness.{Liveness}
use Rattle.dc_cert.specs.declared.certificate.EdgeCert.{EdgeCert}
use Rattle.dc_cert.specs.declared.certificate.SideCert.{SideCert}
use Rattle.dc_cert.specs.Ranges.{AreAtoms, AreKeeps, IsShown, IsEdge, IsSide}
use Rattle.dc_families.specs.Graphs.{graph_of}
use Rattle.dc_families.specs.Moves.{at_start, form_after}
use Rattle.dc_invariant.specs.Keeps.{AreEntryKeeps, AreEdgeParts}
use Rattle.dc_session.specs.Made.{AreCaseLines}
use Rattle.dc_clauses.specs.Sides.{atoms_at, edge_atoms, exit_atoms, edge_places}
use Rattle.dc_acceptance.proofs.Sides.{IsMadeSide, lines_many, edges_many}
use Rattle.dc_acceptance.proofs.Vectors.{line_shown, keeps_shown}

-- ---- the lines of the cases
pub lines_shown : (n budget : ℕ) (cases : List (List Atom)) (live : List Bool) (ws : List Liveness) → n ≤ 10 → AllShort 130 cases
    → AreCaseLines n budget cases live ws → AllByRecursion IsShown ws
lines_shown n budget [] [] [] l s h = tt
lines_shown n budget [] [] (w ∷ ws) l s h = absurd h
lines_shown n budget [] (b ∷ live) ws l s h = absurd h
lines_shown n budget (case ∷ cases) [] ws l s h = absurd h
lines_shown n budget (case ∷ cases) (b ∷ live) [] l s h = absurd h
lines_shown n budget (case ∷ cases) (b ∷ live) (w ∷ ws) l s h =
    (line_shown case n budget (let q = s.0 in omega arith) w (omega arith) h.1, lines_shown n budget cases live ws l s.1 h.2)

abbrev pub AreFew : List (List Atom) → Type 0
AreFew fs = AllByRecursion (λ (atoms : List Atom). length atoms ≤ 1024) fs

module _ (budget : ℕ) (s : System) (cases : List (List Atom)) (live flags : List Bool) (when : List Liveness) (x : SideCert) (h : IsMadeSide budget s cases live flags when x)
    (few : AreFew x.families) (short : AllShort 130 cases) where
  -- ---- atoms
  some_few : (l : ℕ) → length (atoms_at x l) ≤ 1024
  some_few l = each_at_or (λ (atoms : List Atom). length atoms ≤ 1024) x.families l [] few (omega arith)

  ten_places : (atoms : List Atom) → AllByRecursion (IsFullAtom s.vars) atoms → AllByRecursion (IsAtom 10) atoms
  ten_places [] k = tt
  ten_places (a ∷ atoms) k =
      let w = k.0.within in
      (record { few = (let v = h.system.few_vars in let f = w.few in omega arith); coefs_within = w.coefs_within; constant_within = w.constant_within }, ten_places atoms k.1)

  are_atoms : (fs : List (List Atom)) → AllByRecursion (AllByRecursion (IsFullAtom s.vars)) fs → AreFew fs → AllByRecursion AreAtoms fs
  are_atoms [] k f = tt
  are_atoms (atoms ∷ fs) k f = (record { few = f.0; each = ten_places atoms k.0 }, are_atoms fs k.1 f.1)

  -- ---- the keeps of the entry
  entry_many : (cs : List (List Atom)) (bs : List Bool) (kss : List (List Sparse)) → AreEntryKeeps (graph_of s) x.families budget cs bs kss → length kss ≡ length cs
  entry_many [] bs [] k = refl
  entry_many [] bs (ks ∷ kss) k = absurd k
  entry_many (c ∷ cs) [] kss k = absurd k
  entry_many (c ∷ cs) (b ∷ bs) [] k = absurd k
  entry_many (c ∷ cs) (b ∷ bs) (ks ∷ kss) k = ap suc (entry_many cs bs kss k.1)

  entry_keeps : (cs : List (List Atom)) (bs : List Bool) (kss : List (List Sparse)) → AllShort 130 cs → AreEntryKeeps (graph_of s) x.families budget cs bs kss → AllByRecursion AreKeeps kss
  entry_keeps [] bs [] m k = tt
  entry_keeps [] bs (ks ∷ kss) m k = absurd k
  entry_keeps (c ∷ cs) [] kss m k = absurd k
  entry_keeps (c ∷ cs) (b ∷ bs) [] m k = absurd k
  entry_keeps (c ∷ cs) (b ∷ bs) (ks ∷ kss) m k = (
    keeps_shown c s.params budget (let q = m.0 in omega arith) (λ a. (at_start s.params a).coefs) (at_start s.params) b (atoms_at x 0) ks (some_few 0) k.0,
    entry_keeps cs bs kss m.1 k.1,
  )

  -- ---- the edges
  places_few : (e : Edge) → edge_places s.vars e ≤ 11
  places_few e = by e.any
    where
      by : (b : Bool) → cond b (s.vars + 1) s.vars ≤ 11
      by true = let v = h.system.few_vars in omega arith
      by false = let v = h.system.few_vars in omega arith

  are_edges : (es : List Edge) (fs : List Bool) (ps : List EdgeCert) → AllByRecursion (shapes.IsEdge s.vars) es → AreEdgeParts (graph_of s) x.families budget es fs ps → AllByRecursion IsEdge ps
  are_edges [] fs [] m k = tt
  are_edges [] fs (p ∷ ps) m k = absurd k
  are_edges (e ∷ es) [] ps m k = absurd k
  are_edges (e ∷ es) (f ∷ fs) [] m k = absurd k
  are_edges (e ∷ es) (f ∷ fs) (p ∷ ps) m k =
      let q : length (edge_atoms x e) ≤ 8192 = (let a = some_few e.from in let b = m.0.few_atoms in let d = length-append (atoms_at x e.from) e.guard in omega arith) in (
        record {
          live = line_shown (edge_atoms x e) (edge_places s.vars e) budget q p.live (let r = places_few e in omega arith) k.0.line;
          keeps = keeps_shown (edge_atoms x e) (edge_places s.vars e) budget q (λ a. form_after s.vars e a.coefs) (atom_after s.vars e) f (atoms_at x e.to) p.keeps (some_few e.to) k.0.keeps;
        },
        are_edges es fs ps m.1 k.1,
      )

  pub is_side : IsSide (length when) x
  is_side = record {
    some = (let e = h.one_each in let l = h.system.some_location in omega arith);
    few = (let e = h.one_each in let l = h.system.few_locations in omega arith);
    families = are_atoms x.families h.full few;
    one_each = entry_many cases live x.entry_keeps h.part.entry_keeps ∙ sym (lines_many s.params budget cases live when h.lines);
    entry_keeps = entry_keeps cases live x.entry_keeps short h.part.entry_keeps;
    few_edges = (let e = edges_many budget s cases live flags when x h s.edges flags x.edges h.part.edges in let l = h.system.few_edges in omega arith);
    edges = are_edges s.edges flags x.edges h.system.edges h.part.edges;
    exit_line = line_shown (exit_atoms s x) s.vars budget (let a = some_few (s.locs - 1) in omega arith) x.exit_line (let v = h.system.few_vars in omega arith) h.part.exit_line;
  }
