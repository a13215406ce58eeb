-- The clauses on families hold, for both programs.
use Rattle.std.specs.Prelude.{◌≡◌, true, eqb, List, ◌++◌, map, length, Some}
use Rattle.std.specs.List.{AllByRecursion, list_all}
use Rattle.std.proofs.Common.{◌∙◌, subst}
use Rattle.std.proofs.lemmas.Bool.{and_parts}
use Rattle.std.proofs.lemmas.Option.{same_Some}
use Rattle.dc_affine.specs.declared.atom.Atom.{Atom}
use Rattle.dc_system.specs.declared.edges.System.{System}
use Rattle.dc_system.specs.Shapes.{IsWellFormed}
use Rattle.dc_cert.specs.declared.certificate.Liveness.{Liveness}
use Rattle.dc_cert.specs.declared.certificate.SideCert.{SideCert}
use Rattle.dc_cert.specs.declared.certificate.Certificate.{Certificate}
use Rattle.dc_cert.specs.Ranges.{IsSide, is_live}
use Rattle.dc_points.specs.Flags.{IsFlag, AreFlags}
use Rattle.dc_families.specs.Graphs.{graph_of}
use Rattle.dc_families.specs.Families.{family_of}
use Rattle.dc_families.specs.Rounds.{IsInductive}
use Rattle.dc_clauses.specs.Steps.{AllHold, counted}
use Rattle.dc_clauses.specs.Sides.{atoms_at, edge_atoms, exit_atoms, is_full, entry_fits, shape_fits, shape_tests, case_tests, entry_tests, edge_tests, keep_tests, exit_test, exit_tests, family_steps}
use Rattle.dc_clauses.specs.Lent.{IsCase, IsShaped}
use Rattle.dc_clauses.proofs.Shaped.{is_part, is_shaped}
use Rattle.dc_check.specs.Pairs.{edge_flags}
use Rattle.dc_check.specs.Laws.{ClausesShowFamilies}
use Rattle.dc_check.proofs.Tested.{AreTrue, hold_both, hold_true, true_both}
use Rattle.dc_check.proofs.Inductions.{edges_are_flags, cases_are_flags, exit_is_flag, inductive, reached}

-- ---- what holds of one program
pub record Holds (s : System) (cases : List (List Atom)) (when : List Liveness) (x : SideCert) : Type 0 where
  pub shape : shape_fits s cases when x ≡ true
  pub lines : AreTrue (case_tests s.params cases when)
  pub entry : AreTrue (entry_tests s cases x)
  pub edges : AreTrue (edge_tests s x)
  pub keeps : AreTrue (keep_tests s x)
  pub exit : exit_test s x ≡ Some true

pub record HoldsBoth (s t : System) (cases : List (List Atom)) (c : Certificate) : Type 0 where
  pub new : Holds s cases c.when c.new_side
  pub old : Holds t cases c.when c.old_side

pub holds_both : (s t : System) (cases : List (List Atom)) (c : Certificate) → s.params ≡ t.params → AllHold (family_steps s t cases c) → HoldsBoth s t cases c
holds_both s t cases c e h =
    let a = hold_both (counted 1 0 (shape_tests s t cases c)) _ h in
    let b = hold_both (counted 2 0 (case_tests s.params cases c.when)) _ a.1 in
    let d = hold_both (counted 3 0 (entry_tests s cases c.new_side ++ entry_tests t cases c.old_side)) _ b.1 in
    let f = hold_both (counted 4 0 (edge_tests s c.new_side ++ edge_tests t c.old_side)) _ d.1 in
    let g = hold_both (counted 5 0 (keep_tests s c.new_side ++ keep_tests t c.old_side)) (counted 6 0 (exit_tests s c.new_side t c.old_side)) f.1 in
    let shapes = hold_true 1 0 (shape_tests s t cases c) a.0 in
    let lines = hold_true 2 0 (case_tests s.params cases c.when) b.0 in
    let entries = true_both (entry_tests s cases c.new_side) (entry_tests t cases c.old_side) (hold_true 3 0 (entry_tests s cases c.new_side ++ entry_tests t cases c.old_side) d.0) in
    let edges = true_both (edge_tests s c.new_side) (edge_tests t c.old_side) (hold_true 4 0 (edge_tests s c.new_side ++ edge_tests t c.old_side) f.0) in
    let keeps = true_both (keep_tests s c.new_side) (keep_tests t c.old_side) (hold_true 5 0 (keep_tests s c.new_side ++ keep_tests t c.old_side) g.0) in
    let exits = hold_true 6 0 (exit_tests s c.new_side t c.old_side) g.1 in
    record {
      new = record { shape = same_Some _ true shapes.0; lines = lines; entry = entries.0; edges = edges.0; keeps = keeps.0; exit = exits.0 };
      old = record { shape = same_Some _ true shapes.1.0; lines = subst (λ n. AreTrue (case_tests n cases c.when)) e lines; entry = entries.1; edges = edges.1; keeps = keeps.1; exit = exits.1.0 };
    }

-- ---- what it gives
module _ (s : System) (cases : List (List Atom)) (when : List Liveness) (x : SideCert) (wf : IsWellFormed s) (side : IsSide (length when) x) (ok : AllByRecursion (IsCase s.params) cases) (h : Holds s cases when x) where
  pub shaped : IsShaped s x
  shaped = is_shaped s cases when x (is_part s (length when) x wf side) h.shape

  fit : entry_fits (atoms_at x 0) cases when x.entry_keeps ≡ true
  fit = (and_parts (entry_fits (atoms_at x 0) cases when x.entry_keeps) _ (and_parts (list_all (is_full s) x.families) _ (and_parts (eqb (length x.families) s.locs) _ h.shape).1).1).0

  pub is_inductive : IsInductive (graph_of s) cases (family_of x.families)
  is_inductive = inductive s cases when x wf shaped h.lines ok h.entry side.one_each fit h.edges h.keeps

  pub has_edge_flags : AreFlags (edge_flags x.edges) (map (edge_atoms x) s.edges)
  has_edge_flags = edges_are_flags s cases when x wf shaped h.edges

  pub has_exit_flag : IsFlag (is_live x.exit_line) (exit_atoms s x)
  has_exit_flag = exit_is_flag s cases when x wf shaped h.exit

  pub has_case_flags : AreFlags (map is_live when) cases
  has_case_flags = cases_are_flags s cases when x wf shaped h.lines ok

pub clauses_show_families : ClausesShowFamilies
clauses_show_families s t cases c ws wt e ok cert hold =
    let h = holds_both s t cases c e hold in
    let ko = subst (λ n. AllByRecursion (IsCase n) cases) e ok in
    let new_inductive = is_inductive s cases c.when c.new_side ws cert.new_side ok h.new in
    let old_inductive = is_inductive t cases c.when c.old_side wt cert.old_side ko h.old in
    record {
      new_inductive = new_inductive;
      old_inductive = old_inductive;
      right = record {
        new_edges = has_edge_flags s cases c.when c.new_side ws cert.new_side ok h.new;
        new_exit = has_exit_flag s cases c.when c.new_side ws cert.new_side ok h.new;
        old_edges = has_edge_flags t cases c.when c.old_side wt cert.old_side ko h.old;
        old_exit = has_exit_flag t cases c.when c.old_side wt cert.old_side ko h.old;
        cases = has_case_flags s cases c.when c.new_side ws cert.new_side ok h.new;
      };
      new_reached = λ v cost l y i p. reached s cases c.when c.new_side ws (shaped s cases c.when c.new_side ws cert.new_side ok h.new) new_inductive v l y cost i.one_each i.allowed p;
      old_reached = λ v cost l y i p. reached t cases c.when c.old_side wt (shaped t cases c.when c.old_side wt cert.old_side ko h.old) old_inductive v l y cost (i.one_each ∙ e) i.allowed p;
    }
