-- Each part of the session is one list, and there is one side of a certificate.
use Rattle.std.specs.Prelude.{◌≡◌, ℕ, Bool, if◌then◌else◌, List, [], ◌∷◌, map, ℤ}
use Rattle.std.proofs.Common.{refl, sym, ◌∙◌, ap, ap₂, subst}
use Rattle.dc_affine.specs.declared.atom.Atom.{Atom}
use Rattle.dc_lp.specs.Linear.{Linear}
use Rattle.dc_pivots.specs.declared.Ending.TheVariants.{Optimal, Infeasible}
use Rattle.dc_simplex.specs.Limits.{Done}
use Rattle.dc_simplex.proofs.OneAnswer.{has_one_answer}
use Rattle.dc_cert.specs.declared.sparse.Sparse.{Sparse}
use Rattle.dc_cert.specs.declared.sparse.Item.{Item}
use Rattle.dc_cert.specs.declared.certificate.Liveness.{Liveness}
use Rattle.dc_cert.specs.declared.certificate.Liveness.TheVariants.{Dead, Live}
use Rattle.dc_cert.specs.declared.certificate.EdgeCert.{EdgeCert}
use Rattle.dc_cert.specs.declared.certificate.SideCert.{SideCert}
use Rattle.dc_cert.specs.Vectors.{nonzero_from}
use Rattle.dc_system.specs.declared.edges.Edge.{Edge}
use Rattle.dc_entail.specs.Equal.{AreEqual}
use Rattle.dc_entail.proofs.Equal.{equal_have_one_solution, equal_have_one_refutation}
use Rattle.dc_points.specs.Stated.{rational, empty_problem, sup_problem}
use Rattle.dc_families.specs.Graphs.{Graph}
use Rattle.dc_families.specs.Moves.{at_start, edge_places, form_after}
use Rattle.dc_system.specs.After.{atom_after}
use Rattle.dc_families.proofs.Prunes.{has_printed, one_printed_each}
use Rattle.dc_greatest.proofs.Ends.{has_flags, flags_same}
use Rattle.dc_invariant.specs.Prunes.{questions_asked}
use Rattle.dc_invariant.specs.Shown.{IsSolutionOf, IsRefutationOf, AreKeeps, IsLine}
use Rattle.dc_invariant.specs.Keeps.{printed_at, kept_atoms, exit_atoms, keeps_asked, AreEntryKeeps, IsEdgePart, AreEdgeParts}
use Rattle.dc_invariant.specs.Laws.{HasPruning, OnePruning, HasKeeping, OneKeeping, OneSide}

pub has_pruning : HasPruning
has_pruning side s c J = let h = has_printed s c J in (questions_asked side c J 0 h.1, (h.0, h.1, h.2, refl))

pub one_pruning : OnePruning
one_pruning side s c J ps qs h k = h.3 ∙ ap (questions_asked side c J 0) (one_printed_each s c J h.0 k.0 h.1 k.1 h.2 k.2).1 ∙ sym k.3

pub has_keeping : HasKeeping
has_keeping side s printed cases live = let f = has_flags (map (kept_atoms s printed) s.edges) in (keeps_asked side s printed cases live f.0, (f.0, f.1, refl))

pub one_keeping : OneKeeping
one_keeping side s printed cases live ps qs h k = h.2 ∙ ap (keeps_asked side s printed cases live) (flags_same h.0 k.0 (map (kept_atoms s printed) s.edges) h.1 k.1) ∙ sym k.2

-- ---- one side
self : (p : Linear ℤ) → AreEqual p p
self p = record { equations = refl; columns = refl; coefficients = λ i j a b. refl; right_sides = λ i a. refl; costs = λ j a. refl }

same_items : (k j : Sparse) → k.items ≡ j.items → k ≡ j
same_items k j e = let make : List Item → Sparse = λ is. record { items = is } in ap make e

solution_one : (p : Linear ℤ) (budget : ℕ) (k j : Sparse) → IsSolutionOf p budget k → IsSolutionOf p budget j → k ≡ j
solution_one p budget k j h i = same_items k j (h.items ∙ ap (nonzero_from 0) (equal_have_one_solution p p budget h.whole i.whole (self p) h.outcome i.outcome) ∙ sym i.items)

refutation_one : (p : Linear ℤ) (budget : ℕ) (k j : Sparse) → IsRefutationOf p budget k → IsRefutationOf p budget j → k ≡ j
refutation_one p budget k j h i = same_items k j (h.items ∙ ap (nonzero_from 0) (equal_have_one_refutation p p budget h.whole i.whole (self p) h.outcome i.outcome) ∙ sym i.items)

not_both : {X : Type 0} (p : Linear ℤ) (budget : ℕ) (k j : Sparse) → IsSolutionOf p budget k → IsRefutationOf p budget j → X
not_both {X = X} p budget k j h i =
    differ_ends (has_one_answer (rational p) budget (Done h.outcome.comes.pivots Optimal h.outcome.table) (Done i.outcome.comes.pivots Infeasible i.outcome.table) h.outcome.comes.answer i.outcome.comes.answer)
  where
    differ_ends : Done h.outcome.comes.pivots Optimal h.outcome.table ≡ Done i.outcome.comes.pivots Infeasible i.outcome.table → X
    differ_ends e = absurd (cc)

module _ (hyps : List Atom) (n budget : ℕ) where
  pub line_one : (l m : Liveness) → IsLine hyps n budget l → IsLine hyps n budget m → l ≡ m
  line_one (Dead k) (Dead j) h i = ap Dead (solution_one (empty_problem hyps n) budget k j h.vector i.vector)
  line_one (Dead k) (Live j) h i = not_both (empty_problem hyps n) budget k j h.vector i.vector
  line_one (Live k) (Dead j) h i = not_both (empty_problem hyps n) budget j k i.vector h.vector
  line_one (Live k) (Live j) h i = ap Live (refutation_one (empty_problem hyps n) budget k j h.vector i.vector)

  module _ (form : Atom → List ℤ) (shown : Atom → Atom) where
    keeps_one : (atoms : List Atom) (ks js : List Sparse) → AreKeeps hyps n form shown budget atoms ks → AreKeeps hyps n form shown budget atoms js → ks ≡ js
    keeps_one [] [] [] h i = refl
    keeps_one [] [] (j ∷ js) h i = absurd i
    keeps_one [] (k ∷ ks) js h i = absurd h
    keeps_one (a ∷ atoms) [] js h i = absurd h
    keeps_one (a ∷ atoms) (k ∷ ks) [] h i = absurd i
    keeps_one (a ∷ atoms) (k ∷ ks) (j ∷ js) h i = ap₂ ◌∷◌ (solution_one (sup_problem hyps (form a)) budget k j h.0.vector i.0.vector) (keeps_one atoms ks js h.1 i.1)

module _ (s : Graph) (printed : List (List Atom)) (budget : ℕ) where
  pub entry_one : (cases : List (List Atom)) (live : List Bool) (x y : List (List Sparse)) → AreEntryKeeps s printed budget cases live x → AreEntryKeeps s printed budget cases live y → x ≡ y
  entry_one [] live [] [] h i = refl
  entry_one [] live [] (k ∷ y) h i = absurd i
  entry_one [] live (k ∷ x) y h i = absurd h
  entry_one (case ∷ cases) [] x y h i = absurd h
  entry_one (case ∷ cases) (b ∷ live) [] y h i = absurd h
  entry_one (case ∷ cases) (b ∷ live) (k ∷ x) [] h i = absurd i
  entry_one (case ∷ cases) (b ∷ live) (k ∷ x) (j ∷ y) h i =
      ap₂ ◌∷◌ (keeps_one case s.params budget (λ a. (at_start s.params a).coefs) (at_start s.params) (if b then printed_at s printed 0 else []) k j h.0 i.0) (entry_one cases live x y h.1 i.1)

  edge_one : (e : Edge) (b : Bool) (x y : EdgeCert) → IsEdgePart s printed budget e b x → IsEdgePart s printed budget e b y → x ≡ y
  edge_one e b x y h i =
      let make : Liveness → List Sparse → EdgeCert = λ l ks. record { live = l; keeps = ks } in
      ap₂ make (line_one (kept_atoms s printed e) (edge_places s.vars e) budget x.live y.live h.line i.line)
      (keeps_one (kept_atoms s printed e) (edge_places s.vars e) budget (λ a. form_after s.vars e a.coefs) (atom_after s.vars e) (if b then printed_at s printed e.to else []) x.keeps y.keeps h.keeps i.keeps)

  pub edges_one : (es : List Edge) (flags : List Bool) (x y : List EdgeCert) → AreEdgeParts s printed budget es flags x → AreEdgeParts s printed budget es flags y → x ≡ y
  edges_one [] flags [] [] h i = refl
  edges_one [] flags [] (j ∷ y) h i = absurd i
  edges_one [] flags (k ∷ x) y h i = absurd h
  edges_one (e ∷ es) [] x y h i = absurd h
  edges_one (e ∷ es) (b ∷ flags) [] y h i = absurd h
  edges_one (e ∷ es) (b ∷ flags) (k ∷ x) [] h i = absurd i
  edges_one (e ∷ es) (b ∷ flags) (k ∷ x) (j ∷ y) h i = ap₂ ◌∷◌ (edge_one e b k j h.0 i.0) (edges_one es flags x y h.1 i.1)

pub same_side : (x y : SideCert) → x.families ≡ y.families → x.entry_keeps ≡ y.entry_keeps → x.edges ≡ y.edges → x.exit_line ≡ y.exit_line → x ≡ y
same_side x y a b c d = make x.families y.families a x.entry_keeps y.entry_keeps b x.edges y.edges c x.exit_line y.exit_line d
  where
    side_of : List (List Atom) → List (List Sparse) → List EdgeCert → Liveness → SideCert
    side_of f k e l = record { families = f; entry_keeps = k; edges = e; exit_line = l }

    make : (f g : List (List Atom)) → f ≡ g → (k j : List (List Sparse)) → k ≡ j → (e d : List EdgeCert) → e ≡ d → (l m : Liveness) → l ≡ m → side_of f k e l ≡ side_of g j d m
    make f g a k j b e d c l m q = cc

pub one_side : OneSide
one_side side s cases live printed budget x y h k =
    let e = flags_same h.flags k.flags (map (kept_atoms s printed) s.edges) h.right k.right in
    same_side x y (h.part.families ∙ sym k.part.families)
    (entry_one s printed budget cases live x.entry_keeps y.entry_keeps h.part.entry_keeps k.part.entry_keeps)
    (edges_one s printed budget s.edges h.flags x.edges y.edges h.part.edges (subst (λ fs. AreEdgeParts s printed budget s.edges fs y.edges) (sym e) k.part.edges))
    (line_one (exit_atoms s printed) s.vars budget x.exit_line y.exit_line h.part.exit_line k.part.exit_line)
