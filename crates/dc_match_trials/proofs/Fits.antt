-- The pairs of the tests have the sizes that are required.
use Rattle.std.specs.Prelude.{◌≡◌, ℕ, zero, suc, ◌+◌, ◌*◌, ◌≤◌, Bool, true, false, List, [], ◌∷◌, length, replicate, pos}
use Rattle.std.specs.List.{AllByRecursion}
use Rattle.std.proofs.Common.{refl, sym, ◌∙◌, ap, subst, arith}
use Rattle.std.proofs.lemmas.List.{length-replicate}
use Rattle.dc_affine.specs.declared.atom.Atom.{Atom}
use Rattle.dc_affine.specs.Atoms.{IsAtom}
use Rattle.dc_system.specs.declared.edges.System.{System}
use Rattle.dc_system.specs.Shapes.{IsWellFormed}
use Rattle.dc_claims.specs.Plans.{IsPlan, IsCase, AreCases, IsFit}
use Rattle.dc_match_trials.specs.Systems.{idle_system, first_place}

idle_formed : (n params : ℕ) → n ≤ 10 → params ≤ n → IsWellFormed (idle_system n params)
idle_formed n params few first = record {
  few_vars = few;
  params_first = first;
  some_location = omega arith;
  few_locations = omega arith;
  few_edges = omega arith;
  ends = tt;
  edges = tt;
  small_literals = tt;
}

place_atoms : (n k : ℕ) → k ≤ 1024 * n → AllByRecursion (IsAtom n) (replicate k first_place)
place_atoms n zero l = tt
place_atoms n (suc k) l = (record { few = omega arith; coefs_within = (omega arith, tt); constant_within = omega arith }, place_atoms n k (omega arith))

-- one location, where the first place is at least 0 so many times
pub idle_plan : (n params k : ℕ) (s : System) (xs : List Atom) → n ≤ 10 → params ≤ n → k ≤ 1024 → k ≤ 1024 * n → s ≡ idle_system n params → xs ≡ replicate k first_place → IsPlan s (xs ∷ [])
idle_plan n params k s xs few first small within is are =
    subst (λ q. IsPlan q (xs ∷ [])) (sym is)
    (subst (λ ys. IsPlan (idle_system n params) (ys ∷ [])) (sym are)
    (record {
      system = idle_formed n params few first;
      one_each = refl;
      each = (record { few = (let a = length-replicate k first_place in omega arith); within = place_atoms n k within }, tt);
    }))

no_case : (n : ℕ) (case : List Atom) → case ≡ [] → AreCases n (case ∷ [])
no_case n case are = subst (λ c. AreCases n (c ∷ [])) (sym are) (record { some = omega arith; few = omega arith; each = (record { few = omega arith; within = tt }, tt) })

module _ (s t : System) (xs ys case : List Atom) (n m params k d q : ℕ) (live : Bool)
    (new : s ≡ idle_system n params) (old : t ≡ idle_system m params) (are : xs ≡ replicate k first_place) (none : ys ≡ []) (empty : case ≡ []) where
  pub idle_fits : n ≤ 10 → m ≤ 10 → params ≤ n → params ≤ m → k ≤ 1024 → k ≤ 1024 * n → d ≤ 3 → 1 ≤ q → q ≤ 3
      → IsFit (record { new = s; new_atoms = xs ∷ []; old = t; old_atoms = ys ∷ []; cases = case ∷ [] }) d q (record { new_edges = []; new_exit = true; old_edges = []; old_exit = true; cases = live ∷ [] })
  idle_fits a b e f g h low some few = record {
    pair = record {
      new = idle_plan n params k s xs a e g h new are;
      old = idle_plan m params 0 t ys b f (omega arith) (omega arith) old none;
      params = ap (λ (r : System). r.params) new ∙ sym (ap (λ (r : System). r.params) old);
      cases = no_case s.params case empty;
    };
    flags = record { new = sym (ap (λ (r : System). length r.edges) new); old = sym (ap (λ (r : System). length r.edges) old); cases = refl };
    degree = low;
    some_products = some;
    few_products = few;
  }

-- two locations, without atoms
pub step_fits : (s : System) (first second case : List Atom) → IsWellFormed s → s.locs ≡ 2 → length s.edges ≡ 1 → first ≡ [] → second ≡ [] → case ≡ []
    → IsFit (record { new = s; new_atoms = first ∷ second ∷ []; old = s; old_atoms = first ∷ second ∷ []; cases = case ∷ [] }) 1 1 (record { new_edges = true ∷ []; new_exit = true; old_edges = true ∷ []; old_exit = true; cases = true ∷ [] })
step_fits s first second case formed locs edges a b e =
    let plan : IsPlan s (first ∷ second ∷ []) = subst (λ x. IsPlan s (x ∷ second ∷ [])) (sym a) (subst (λ x. IsPlan s ([] ∷ x ∷ [])) (sym b) (record { system = formed; one_each = sym locs; each = (record { few = omega arith; within = tt }, (record { few = omega arith; within = tt }, tt)) })) in
    record {
      pair = record { new = plan; old = plan; params = refl; cases = no_case s.params case e };
      flags = record { new = sym edges; old = sym edges; cases = refl };
      degree = omega arith;
      some_products = omega arith;
      few_products = omega arith;
    }

-- ---- many cases without atoms
none_each : (n count : ℕ) → AllByRecursion (IsCase n) (replicate count [])
none_each n zero = tt
none_each n (suc count) = (record { few = omega arith; within = tt }, none_each n count)

many_cases : (n count : ℕ) (cases : List (List Atom)) → 1 ≤ count → count ≤ 64 → cases ≡ replicate count [] → AreCases n cases
many_cases n count cases some few are =
    let a = ap length are ∙ length-replicate count [] in
    record { some = omega arith; few = omega arith; each = subst (AllByRecursion (IsCase n)) (sym are) (none_each n count) }

pub many_fit : (s : System) (xs : List Atom) (cases : List (List Atom)) (live : List Bool) (count : ℕ)
    → s ≡ idle_system 10 10 → xs ≡ [] → cases ≡ replicate count [] → live ≡ replicate count true → 1 ≤ count → count ≤ 64
    → IsFit (record { new = s; new_atoms = xs ∷ []; old = s; old_atoms = xs ∷ []; cases = cases }) 3 1 (record { new_edges = []; new_exit = true; old_edges = []; old_exit = true; cases = live })
many_fit s xs cases live count is none are all some few = record {
  pair = record {
    new = idle_plan 10 10 0 s xs (omega arith) (omega arith) (omega arith) (omega arith) is none;
    old = idle_plan 10 10 0 s xs (omega arith) (omega arith) (omega arith) (omega arith) is none;
    params = refl;
    cases = many_cases s.params count cases some few are;
  };
  flags = record {
    new = sym (ap (λ (r : System). length r.edges) is);
    old = sym (ap (λ (r : System). length r.edges) is);
    cases = ap length all ∙ length-replicate count true ∙ sym (ap length are ∙ length-replicate count []);
  };
  degree = omega arith;
  some_products = omega arith;
  few_products = omega arith;
}
