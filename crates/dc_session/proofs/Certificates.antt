-- The outcomes of a session give one certificate.
use Rattle.std.specs.Prelude.{◌≡◌, ℕ, Bool, List, [], ◌∷◌, ℤ}
use Rattle.std.proofs.Common.{refl, sym, ◌∙◌, ap, ap₂, subst}
use Rattle.dc_math.specs.Rational.{ℚ}
use Rattle.dc_frac.specs.declared.Frac.{Frac}
use Rattle.dc_frac.proofs.ValueLaws.{same_frac}
use Rattle.dc_affine.specs.declared.atom.Atom.{Atom}
use Rattle.dc_lp.specs.Linear.{Linear}
use Rattle.dc_lp.specs.Tables.{Table}
use Rattle.dc_pivots.specs.declared.Ending.{Ending}
use Rattle.dc_pivots.specs.declared.Ending.TheVariants.{Optimal, Infeasible, Unbounded}
use Rattle.dc_simplex.specs.Limits.{Answer, Done}
use Rattle.dc_simplex.proofs.OneAnswer.{has_one_answer}
use Rattle.dc_simplex.proofs.OneOutcome.{same_vector}
use Rattle.dc_cert.specs.declared.sparse.Item.{Item}
use Rattle.dc_cert.specs.declared.sparse.Sparse.{Sparse}
use Rattle.dc_cert.specs.declared.certificate.Liveness.{Liveness}
use Rattle.dc_cert.specs.declared.certificate.SideCert.{SideCert}
use Rattle.dc_cert.specs.declared.certificate.Body.{Body}
use Rattle.dc_cert.specs.declared.certificate.Body.TheVariants.{Threshold, Nothing, Vacuous}
use Rattle.dc_cert.specs.declared.certificate.Certificate.{Certificate}
use Rattle.dc_cert.specs.Vectors.{nonzero_from}
use Rattle.dc_points.specs.Stated.{rational}
use Rattle.dc_system.specs.declared.edges.System.{System}
use Rattle.dc_families.specs.Graphs.{graph_of}
use Rattle.dc_invariant.specs.Keeps.{exit_atoms}
use Rattle.dc_invariant.proofs.Sessions.{line_one, entry_one, edges_one, same_side}
use Rattle.dc_session.specs.Session.{Input, Part, Analysis, main_of}
use Rattle.dc_session.specs.Made.{AreItemsOf, IsThreshold, IsVacuous, IsBodyOf, unknowns_in, AreCaseLines, IsSideOf, IsMade}
use Rattle.dc_session.specs.Laws.{OneMade}

-- ---- fractions and vectors
sparse_of : List Item → Sparse
sparse_of is = record { items = is }

one_items : (n : ℕ) (f : ℕ → ℚ) (v w : Sparse) → AreItemsOf n f v → AreItemsOf n f w → v ≡ w
unfolding sparse_of
one_items n f v w h k =
    ap sparse_of (h.items ∙ ap (nonzero_from 0) (same_vector n f h.whole k.whole h.vector k.vector) ∙ sym k.items)

-- ---- the body
module _ (main : Linear ℤ) (u : ℕ) (t : Table ℚ) where
  one_threshold : (v w : Frac) (a b l m d e : Sparse) → IsThreshold main u t v a l d → IsThreshold main u t w b m e → Threshold v a l d ≡ Threshold w b m e
  one_threshold v w a b l m d e h k =
      ap₂ (λ x y. Threshold x y l d) (same_frac v w (h.least ∙ sym k.least)) (one_items _ _ a b h.unknown_is k.unknown_is)
      ∙ ap₂ (λ x y. Threshold w b x y) (one_items _ _ l m h.lambda_is k.lambda_is) (one_items _ _ d e h.dual_is k.dual_is)

  one_vacuous : (j : ℕ) (a b l m r s p q : Sparse) → IsVacuous main u t j a l r p → IsVacuous main u t j b m s q → Vacuous a l r p ≡ Vacuous b m s q
  one_vacuous j a b l m r s p q h k =
      ap₂ (λ x y. Vacuous x y r p) (one_items _ _ a b h.unknown_is k.unknown_is) (one_items _ _ l m h.lambda_is k.lambda_is)
      ∙ ap₂ (λ x y. Vacuous b m x y) (one_items _ _ r s h.ray_unknown_is k.ray_unknown_is) (one_items _ _ p q h.ray_lambda_is k.ray_lambda_is)

  one_body : (e : Ending) (b d : Body) → IsBodyOf main u t e b → IsBodyOf main u t e d → b ≡ d
  one_body Optimal (Threshold v a l d) (Threshold w b m e) h k = one_threshold v w a b l m d e h k
  one_body Optimal (Threshold v a l d) (Nothing e) h k = absurd k
  one_body Optimal (Threshold v a l d) (Vacuous b m r s) h k = absurd k
  one_body Optimal (Nothing d) b h k = absurd h
  one_body Optimal (Vacuous a l r s) b h k = absurd h
  one_body Infeasible (Threshold v a l d) b h k = absurd h
  one_body Infeasible (Nothing d) (Threshold v a l e) h k = absurd k
  one_body Infeasible (Nothing d) (Nothing e) h k = ap Nothing (one_items _ _ d e h k)
  one_body Infeasible (Nothing d) (Vacuous b m r s) h k = absurd k
  one_body Infeasible (Vacuous a l r s) b h k = absurd h
  one_body (Unbounded j) (Threshold v a l d) b h k = absurd h
  one_body (Unbounded j) (Nothing d) b h k = absurd h
  one_body (Unbounded j) (Vacuous a l r p) (Threshold v b m d) h k = absurd k
  one_body (Unbounded j) (Vacuous a l r p) (Nothing d) h k = absurd k
  one_body (Unbounded j) (Vacuous a l r p) (Vacuous b m s q) h k = one_vacuous j a b l m r s p q h k

-- ---- the lines of the cases
one_when : (params budget : ℕ) (cases : List (List Atom)) (live : List Bool) (xs ys : List Liveness)
    → AreCaseLines params budget cases live xs → AreCaseLines params budget cases live ys → xs ≡ ys
one_when params budget [] [] [] [] h k = refl
one_when params budget [] [] [] (y ∷ ys) h k = absurd k
one_when params budget [] [] (x ∷ xs) ys h k = absurd h
one_when params budget [] (b ∷ live) xs ys h k = absurd h
one_when params budget (case ∷ cases) [] xs ys h k = absurd h
one_when params budget (case ∷ cases) (b ∷ live) [] ys h k = absurd h
one_when params budget (case ∷ cases) (b ∷ live) (x ∷ xs) [] h k = absurd k
one_when params budget (case ∷ cases) (b ∷ live) (x ∷ xs) (y ∷ ys) h k =
    ap₂ ◌∷◌ (line_one case params budget x y h.1 k.1) (one_when params budget cases live xs ys h.2 k.2)

-- ---- a side
one_side : (i : Input) (s : System) (live : List Bool) (p : Part) (x y : SideCert) → IsSideOf i s live p x → IsSideOf i s live p y → x ≡ y
one_side i s live p x y h k =
    let b = i.settings.pivots in
    same_side x y (h.part.families ∙ sym k.part.families)
    (entry_one (graph_of s) p.printed b i.cases live x.entry_keeps y.entry_keeps h.part.entry_keeps k.part.entry_keeps)
    (edges_one (graph_of s) p.printed b s.edges p.edges_live x.edges y.edges h.part.edges k.part.edges)
    (line_one (exit_atoms (graph_of s) p.printed) s.vars b x.exit_line y.exit_line h.part.exit_line k.part.exit_line)

-- ---- the whole
ending_same : (n m : ℕ) (e f : Ending) (t u : Table ℚ) → ◌≡◌ {A = Answer} (Done n e t) (Done m f u) → e ≡ f
ending_same n m e f t u q = cc

table_same : (n m : ℕ) (e f : Ending) (t u : Table ℚ) → ◌≡◌ {A = Answer} (Done n e t) (Done m f u) → t ≡ u
table_same n m e f t u q = cc

certificate_of : ℕ → Body → ℕ → ℕ → List Liveness → SideCert → SideCert → Certificate
certificate_of version body degree products when new_side old_side =
    record { version = version; body = body; degree = degree; products = products; when = when; new_side = new_side; old_side = old_side }

pub one_made : OneMade
unfolding certificate_of
one_made i a t u c d h k =
    let answer = has_one_answer (rational (main_of i a)) i.settings.pivots _ _ h.main.comes.answer k.main.comes.answer in
    let e = ending_same _ _ h.main.ending k.main.ending t u answer in
    let s = table_same _ _ h.main.ending k.main.ending t u answer in
    let n = unknowns_in i a in
    let body = subst (λ x. IsBodyOf (main_of i a) n x h.main.ending d.body) (sym s) (subst (λ x. IsBodyOf (main_of i a) n u x d.body) (sym e) k.body) in (
      s,
      ap₂ (λ x y. certificate_of x y c.degree c.products c.when c.new_side c.old_side) (h.version ∙ sym k.version)
          (one_body (main_of i a) n t h.main.ending c.body d.body h.body body)
          ∙ ap₂ (λ x y. certificate_of d.version d.body x y c.when c.new_side c.old_side) (h.degree ∙ sym k.degree) (h.products ∙ sym k.products)
          ∙ ap (λ x. certificate_of d.version d.body d.degree d.products x c.new_side c.old_side)
          (one_when i.new.params i.settings.pivots i.cases a.live c.when d.when h.when k.when)
          ∙ ap₂ (λ x y. certificate_of d.version d.body d.degree d.products d.when x y)
          (one_side i a.new a.live a.new_part c.new_side d.new_side h.new_side k.new_side)
          (one_side i a.old a.live a.old_part c.old_side d.old_side h.old_side k.old_side),
    )
