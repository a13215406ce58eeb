-- What `problem_of` is lent, in the words of claims.
use Rattle.std.specs.Prelude.{ℕ, Bool, List}
use Rattle.dc_syntax.specs.declared.tree.Side.{Side}
use Rattle.dc_syntax.specs.declared.tree.Side.TheVariants.{New, Old}
use Rattle.dc_affine.specs.declared.atom.Atom.{Atom}
use Rattle.dc_poly.specs.Terms.{TermList}
use Rattle.dc_poly.specs.Sums.{negated}
use Rattle.dc_system.specs.declared.edges.Edge.{Edge}
use Rattle.dc_duties.specs.declared.plan.SidePlan.{SidePlan}
use Rattle.dc_duties.specs.declared.plan.Programs.{Programs}
use Rattle.dc_claims.specs.Duties.{Pair, Flags}

abbrev pub pair_of : SidePlan → SidePlan → List (List Atom) → Pair
pair_of n o cases = record {
  new = n.system.now;
  new_atoms = n.families.now;
  old = o.system.now;
  old_atoms = o.families.now;
  cases = cases;
}

abbrev pub flags_of : SidePlan → SidePlan → List Bool → Flags
flags_of n o live = record {
  new_edges = n.live.now;
  new_exit = n.exit_live;
  old_edges = o.live.now;
  old_exit = o.exit_live;
  cases = live;
}

abbrev pub plan_of : Programs → Side → SidePlan
plan_of p New = p.new.now
plan_of p Old = p.old.now

abbrev pub lent : Programs → Pair
lent p = pair_of p.new.now p.old.now p.cases.now

-- what stands for an edge's cost in the left side of its duty
abbrev pub cost_at : Side → Edge → TermList
cost_at New e = negated e.cost.terms
cost_at Old e = e.cost.terms
