-- The programs that a certificate speaks of, with its atoms, and what it says is live.
use Rattle.std.specs.Prelude.{Bool, List, map}
use Rattle.dc_affine.specs.declared.atom.Atom.{Atom}
use Rattle.dc_system.specs.declared.edges.System.{System}
use Rattle.dc_cert.specs.declared.certificate.EdgeCert.{EdgeCert}
use Rattle.dc_cert.specs.declared.certificate.Certificate.{Certificate}
use Rattle.dc_cert.specs.Ranges.{is_live}
use Rattle.dc_claims.specs.Duties.{Pair, Flags}

abbrev pub pair : System → System → List (List Atom) → Certificate → Pair
pair s t cases c = record {
  new = s;
  new_atoms = c.new_side.families;
  old = t;
  old_atoms = c.old_side.families;
  cases = cases;
}

abbrev pub edge_flags : List EdgeCert → List Bool
edge_flags es = map (λ (e : EdgeCert). is_live e.live) es

abbrev pub flags : Certificate → Flags
flags c = record {
  new_edges = edge_flags c.new_side.edges;
  new_exit = is_live c.new_side.exit_line;
  old_edges = edge_flags c.old_side.edges;
  old_exit = is_live c.old_side.exit_line;
  cases = map is_live c.when;
}
