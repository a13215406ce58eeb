-- The certificate that is made has the atoms of the analysis, and says rightly what is live.
use Rattle.std.specs.Prelude.{◌≡◌, ℕ, Bool, List, [], ◌∷◌, map}
use Rattle.std.proofs.Common.{refl, ◌∙◌, ap, ap₂}
use Rattle.dc_affine.specs.declared.atom.Atom.{Atom}
use Rattle.dc_system.specs.declared.edges.Edge.{Edge}
use Rattle.dc_system.specs.declared.edges.System.{System}
use Rattle.dc_cert.specs.declared.certificate.Liveness.{Liveness}
use Rattle.dc_cert.specs.declared.certificate.EdgeCert.{EdgeCert}
use Rattle.dc_cert.specs.Ranges.{is_live}
use Rattle.dc_points.specs.Flags.{AreFlags}
use Rattle.dc_families.specs.Graphs.{Graph, graph_of}
use Rattle.dc_invariant.specs.Keeps.{kept_atoms, AreEdgeParts}
use Rattle.dc_claims.specs.Duties.{Pair, Flags}
use Rattle.dc_check.specs.Pairs.{edge_flags}
use Rattle.dc_session.specs.Made.{AreCaseLines}
use Rattle.dc_session.specs.Laws.{MadeRepeats}

edge_flags_are : (s : Graph) (printed : List (List Atom)) (budget : ℕ) (es : List Edge) (flags : List Bool) (xs : List EdgeCert)
    → AreFlags flags (map (kept_atoms s printed) es) → AreEdgeParts s printed budget es flags xs → edge_flags xs ≡ flags
edge_flags_are s printed budget [] [] [] f h = refl
edge_flags_are s printed budget [] [] (x ∷ xs) f h = absurd h
edge_flags_are s printed budget [] (b ∷ flags) xs f h = absurd f
edge_flags_are s printed budget (e ∷ es) [] xs f h = absurd h
edge_flags_are s printed budget (e ∷ es) (b ∷ flags) [] f h = absurd h
edge_flags_are s printed budget (e ∷ es) (b ∷ flags) (x ∷ xs) f h =
    ap₂ ◌∷◌ h.0.flag (edge_flags_are s printed budget es flags xs f.1 h.1)

pub case_flags_are : (params budget : ℕ) (cases : List (List Atom)) (live : List Bool) (ws : List Liveness)
    → AreCaseLines params budget cases live ws → map is_live ws ≡ live
case_flags_are params budget [] [] [] h = refl
case_flags_are params budget [] [] (w ∷ ws) h = absurd h
case_flags_are params budget [] (b ∷ live) ws h = absurd h
case_flags_are params budget (case ∷ cases) [] ws h = absurd h
case_flags_are params budget (case ∷ cases) (b ∷ live) [] h = absurd h
case_flags_are params budget (case ∷ cases) (b ∷ live) (w ∷ ws) h = ap₂ ◌∷◌ h.0 (case_flags_are params budget cases live ws h.2)

abbrev pair_with : System → System → List (List Atom) → List (List Atom) → List (List Atom) → Pair
pair_with s t cases xs ys = record { new = s; new_atoms = xs; old = t; old_atoms = ys; cases = cases }

abbrev flags_with : List Bool → Bool → List Bool → Bool → List Bool → Flags
flags_with new new_exit old old_exit cases = record { new_edges = new; new_exit = new_exit; old_edges = old; old_exit = old_exit; cases = cases }

pub made_repeats : MadeRepeats
made_repeats i a t c h k =
    let n = edge_flags_are (graph_of a.new) a.new_part.printed i.settings.pivots a.new.edges a.new_part.edges_live c.new_side.edges h.new_part.edges_live k.new_side.part.edges in
    let o = edge_flags_are (graph_of a.old) a.old_part.printed i.settings.pivots a.old.edges a.old_part.edges_live c.old_side.edges h.old_part.edges_live k.old_side.part.edges in
    let w = case_flags_are i.new.params i.settings.pivots i.cases a.live c.when k.when in
    record {
      pair_is = ap₂ (pair_with a.new a.old i.cases) k.new_side.part.families k.old_side.part.families;
      flags_are =
          ap₂ (λ x y. flags_with x y (edge_flags c.old_side.edges) (is_live c.old_side.exit_line) (map is_live c.when)) n k.new_side.exit
          ∙ ap₂ (λ x y. flags_with a.new_part.edges_live a.new_part.exit_live x y (map is_live c.when)) o k.old_side.exit
          ∙ ap (λ x. flags_with a.new_part.edges_live a.new_part.exit_live a.old_part.edges_live a.old_part.exit_live x) w;
    }
