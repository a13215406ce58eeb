-- What is certified over some atoms is certified over stronger ones.
use Rattle.std.specs.Prelude.{ℕ, List, [], ◌∷◌, ℤ}
use Rattle.std.specs.List.{AllByRecursion}
use Rattle.dc_math.specs.Members.{each-weaker, each-++, each_left, each_right, each-map}
use Rattle.dc_math.specs.Rational.{ℚ}
use Rattle.dc_math.specs.Cones.{Cone}
use Rattle.dc_syntax.specs.declared.tree.Side.{Side}
use Rattle.dc_affine.specs.declared.atom.Atom.{Atom}
use Rattle.dc_points.specs.Points.{Point, MeetsAt, MeetsAll, Entails, IsDead}
use Rattle.dc_syntax.specs.declared.tree.Side.TheVariants.{New, Old}
use Rattle.dc_system.specs.declared.edges.Edge.{Edge}
use Rattle.dc_claims.specs.declared.duty.Duty.{Duty}
use Rattle.dc_claims.specs.declared.duty.Duty.TheVariants.{Along, AtExit, AtEntry}
use Rattle.dc_claims.specs.Duties.{Pair, atoms_at, edge_at, edge_atoms, atoms_of, IsThere, IsOwed}
use Rattle.dc_claims.specs.Claims.{Potential}
use Rattle.dc_folding.specs.Folds.{with_atoms}
use Rattle.dc_folding.specs.Laws.{AreStronger, StrongerAtoms}
use Rattle.dc_folding.proofs.Products.{one, products_of_sums}
use Rattle.dc_folding.proofs.Choices.{atom_values}
use Rattle.dc_folding.proofs.Entailed.{entailed_sum}
use Rattle.dc_folding.proofs.DutySums.{state, IsSum, IsSumAt, met_sum, sums_certify}

-- wherever the atoms of h hold, those of j do
abbrev pub Gives : List Atom → List Atom → Type 0
Gives h j = (x : Point) → MeetsAll x h → MeetsAll x j

pub gives_dead : (h j : List Atom) → Gives h j → IsDead j → IsDead h
gives_dead h j g d x m = d x (g x m)

each_given : (h j : List Atom) → Gives h j → AllByRecursion (Entails h) j
each_given h [] g = tt
each_given h (a ∷ j) g = ((λ x m. (g x m).0), each_given h j (λ x m. (g x m).1))

pub stronger_sum : (n : ℕ) (h j : List Atom) (k : ℕ) (g : List ℤ → ℚ) → ¬ IsDead h → Gives h j → IsSum n j k g → IsSum n h k g
stronger_sum n h j k g live e c =
    products_of_sums (atom_values (state n) h) (atom_values (state n) j)
    (each-map (Cone (one ∷ atom_values (state n) h)) _ j (each-weaker (Entails h) _ (λ a w. entailed_sum (state n) h a live w) j (each_given h j e)))
    k (λ x. g x.0) c

module _ (p : Pair) (new old : List (List Atom)) (s : AreStronger new old p) where
  abbrev q : Pair
  q = with_atoms new old p

  with_guard : (side : Side) (e : Edge) → Gives (edge_atoms q side e) (edge_atoms p side e)
  with_guard side e x m =
      each-++ (MeetsAt x) (atoms_at p side e.from) e.guard
      (s side e.from x (each_left (MeetsAt x) (atoms_at q side e.from) e.guard m))
      (each_right (MeetsAt x) (atoms_at q side e.from) e.guard m)

  gives : (o : Duty) → Gives (atoms_of q o) (atoms_of p o)
  gives (Along New n) x m = with_guard New (edge_at p.new n) x m
  gives (Along Old n) x m = with_guard Old (edge_at p.old n) x m
  gives (AtExit New) x m = s New _ x m
  gives (AtExit Old) x m = s Old _ x m
  gives (AtEntry n) x m = m

  module _ (d k : ℕ) (t : ℚ) (φ χ : Potential) (sums : (o : Duty) → IsOwed p o → IsSumAt p d k t φ χ o) where
    at_duty : (o : Duty) (n : ℕ) (g : List ℤ → ℚ) → ¬ IsDead (atoms_of q o) → IsSum n (atoms_of p o) k g → IsSum n (atoms_of q o) k g
    at_duty o n g live c = stronger_sum n (atoms_of q o) (atoms_of p o) k g live (gives o) c

    owed : (o : Duty) → IsThere p o → ¬ IsDead (atoms_of q o) → IsOwed p o
    owed o h live = record { there = h; live = λ e. live (gives_dead (atoms_of q o) (atoms_of p o) (gives o) e) }

    stronger_sums : (o : Duty) → IsOwed q o → IsSumAt q d k t φ χ o
    stronger_sums (Along New n) w = at_duty (Along New n) _ _ w.live (sums (Along New n) (owed (Along New n) w.there w.live))
    stronger_sums (Along Old n) w = at_duty (Along Old n) _ _ w.live (sums (Along Old n) (owed (Along Old n) w.there w.live))
    stronger_sums (AtExit New) w = at_duty (AtExit New) _ _ w.live (sums (AtExit New) (owed (AtExit New) w.there w.live))
    stronger_sums (AtExit Old) w = at_duty (AtExit Old) _ _ w.live (sums (AtExit Old) (owed (AtExit Old) w.there w.live))
    stronger_sums (AtEntry n) w = sums (AtEntry n) (record { there = w.there; live = w.live })

pub stronger_atoms : StrongerAtoms
stronger_atoms p new old d k t s (φ, χ, multipliers, c) =
    sums_certify (with_atoms new old p) d k t φ χ (stronger_sums p new old s d k t φ χ (λ o w. met_sum p d k t φ χ multipliers o (c.meets o w)))
