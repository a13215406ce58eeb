-- The unknowns of a task.
use Rattle.std.specs.Prelude.{◌≡◌, ℕ, zero, suc, ◌+◌, ◌<◌, ◌≤◌, List, [], ◌∷◌, ◌++◌, map, flat_map, length, slice_index_or}
use Rattle.std.specs.List.{AllByRecursion, range_with_len}
use Rattle.std.proofs.Common.{refl, sym, ◌∙◌, ap, subst, arith}
use Rattle.dc_math.specs.Members.{each_at, each-++}
use Rattle.dc_syntax.specs.declared.tree.Side.{Side}
use Rattle.dc_syntax.specs.declared.tree.Side.TheVariants.{New, Old}
use Rattle.dc_poly.specs.Terms.{Polynomial, TermList}
use Rattle.dc_poly.specs.Monomials.{IsWithin}
use Rattle.dc_template.proofs.Listed.{are_monomials}
use Rattle.dc_coefficients.specs.Monomials.{all_terms}
use Rattle.dc_claims.specs.declared.duty.Unknown.{Unknown}
use Rattle.dc_claims.specs.declared.duty.Unknown.TheVariants.{Bound, Coefficient}
use Rattle.dc_claims.specs.Duties.{Pair, system_of}
use Rattle.dc_claims.specs.Claims.{monomials_at}
use Rattle.dc_claims.specs.Parts.{monomial_at, unknowns_at, unknowns_on, unknowns_of}
use Rattle.dc_duties.specs.declared.plan.Task.{Task}
use Rattle.dc_duties.specs.Lent.{lent}
use Rattle.dc_duties.specs.Sizes.{IsCoefficientOf}
use Rattle.dc_duties.specs.Tasks.{IsUnknown}

pub coefficient_of : (p : Pair) (d : ℕ) (side : Side) (i : ℕ) → d ≤ 3 → i < length (monomials_at p d side) → IsCoefficientOf p side (monomial_at p d side i)
coefficient_of p d side i h l = let w = each_at (IsWithin (system_of p side).vars d) (monomials_at p d side) i [] (are_monomials (system_of p side).vars d).only l in record { long = w.places; low = (let a = w.low in omega arith) }

-- ---- each unknown of the list is one
module _ (t : Task) where
  at_location : (side : Side) (l a n : ℕ) → a + n ≤ length (monomials_at (lent t.programs.now) t.degree side) → AllByRecursion (IsUnknown t) (map (Coefficient side l) (range_with_len a n))
  at_location side l a zero h = tt
  at_location side l a (suc n) h = (omega arith, at_location side l (a + 1) n (omega arith))

  on_side : (side : Side) (ls : List ℕ) → AllByRecursion (IsUnknown t) (flat_map (unknowns_at (lent t.programs.now) t.degree side) ls)
  on_side side [] = tt
  on_side side (l ∷ ls) = each-++ (IsUnknown t) _ _ (at_location side l 0 (length (monomials_at (lent t.programs.now) t.degree side)) (omega arith)) (on_side side ls)

  all_known : AllByRecursion (IsUnknown t) (unknowns_of (lent t.programs.now) t.degree)
  all_known = (tt, each-++ (IsUnknown t) _ _ (on_side New (range_with_len 0 (system_of (lent t.programs.now) New).locs)) (on_side Old (range_with_len 0 (system_of (lent t.programs.now) Old).locs)))

  index_all : (us : List Unknown) (i : ℕ) → AllByRecursion (IsUnknown t) us → IsUnknown t (slice_index_or us i Bound)
  index_all [] i h = tt
  index_all (u ∷ us) zero h = h.0
  index_all (u ∷ us) (suc i) h = index_all us i h.1

  pub known_at : (us : List Unknown) (i : ℕ) → us ≡ unknowns_of (lent t.programs.now) t.degree → IsUnknown t (slice_index_or us i Bound)
  known_at us i e = subst (λ us. IsUnknown t (slice_index_or us i Bound)) (sym e) (index_all (unknowns_of (lent t.programs.now) t.degree) i all_known)

-- ---- a part more
pub all_terms_more : (qs : List Polynomial) (q : Polynomial) → all_terms (qs ++ q ∷ []) ≡ all_terms qs ++ q.terms ∷ []
all_terms_more [] q = refl
all_terms_more (r ∷ qs) q = ap (λ z. r.terms ∷ z) (all_terms_more qs q)

pub all_more : {A : Type 0} (P : A → Type 0) (xs : List A) (x : A) → AllByRecursion P xs → P x → AllByRecursion P (xs ++ x ∷ [])
all_more P [] x h p = (p, tt)
all_more P (y ∷ xs) x h p = (h.0, all_more P xs x h.1 p)
