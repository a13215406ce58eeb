-- Clauses 1 to 6 in order.
use Rattle.std.specs.Prelude.{◌≡◌, ℕ, Bool, true, false, List, [], ◌∷◌, ◌++◌, Option, Some, None}
use Rattle.std.proofs.Common.{refl, sym, ◌∙◌, ap, subst}
use Rattle.dc_affine.specs.declared.atom.Atom.{Atom}
use Rattle.dc_system.specs.declared.edges.System.{System}
use Rattle.dc_cert.specs.declared.certificate.Certificate.{Certificate}
use Rattle.dc_clauses.specs.declared.step.Walk.{Walk}
use Rattle.dc_clauses.specs.declared.step.Walk.TheVariants.{Passed, Stopped}
use Rattle.dc_clauses.specs.Steps.{Step, Test, counted, first_failure, IsWalk}
use Rattle.dc_clauses.specs.Sides.{shape_tests, case_tests, entry_tests, edge_tests, keep_tests, exit_tests, family_steps}
use Rattle.dc_clauses.proofs.Walks.{first_failure-++, first_failure-stops, joined_passed, joined_stops}

-- ---- two tests
pub both_true : (c : ℕ) (a b : Bool) → None ≡ first_failure (counted c 0 (Some a ∷ Some b ∷ [])) → (a ≡ true) × (b ≡ true)
both_true c true true e = (refl, refl)
both_true c true false e = absurd cc
both_true c false b e = absurd cc

-- ---- two walks, one after the other
pub second_walk : (c n : ℕ) (a b : List Test) (w v : Walk) (r : Option Step) → IsWalk c 0 a w → w ≡ Passed n → IsWalk c n b v → ((k : ℕ) (ts : List Test) → IsWalk c k ts v → r ≡ first_failure (counted c k ts)) → r ≡ first_failure (counted c 0 (a ++ b))
second_walk c n a b (Passed m) v r h e g f = joined_passed c 0 m a b r (sym h.0) h.1 (f m b (subst (λ i. IsWalk c i b v) (sym (same m n e)) g))
  where
    same : (m n : ℕ) → Passed m ≡ Passed n → m ≡ n
    same m n e = cc
second_walk c n a b (Stopped s) v r h e g f = absurd cc

pub first_walk : (c : ℕ) (a b : List Test) (w : Walk) (s : Step) → IsWalk c 0 a w → w ≡ Stopped s → Some s ≡ first_failure (counted c 0 (a ++ b))
first_walk c a b (Passed m) s h e = absurd cc
first_walk c a b (Stopped t) s h e = joined_stops c 0 a b s (ap Some (same s t (sym e)) ∙ sym h)
  where
    same : (s t : Step) → Stopped s ≡ Stopped t → s ≡ t
    same s t e = cc

-- ---- lists of steps, one after the other
past : (a b : List Step) (r : Option Step) → None ≡ first_failure a → r ≡ first_failure b → r ≡ first_failure (a ++ b)
past a b r n h = h ∙ sym (first_failure-++ a b n)

module _ (new old : System) (cases : List (List Atom)) (c : Certificate) where
  abbrev pub first : List Step
  first = counted 1 0 (shape_tests new old cases c)

  abbrev pub second : List Step
  second = counted 2 0 (case_tests new.params cases c.when)

  abbrev pub third : List Step
  third = counted 3 0 (entry_tests new cases c.new_side ++ entry_tests old cases c.old_side)

  abbrev pub fourth : List Step
  fourth = counted 4 0 (edge_tests new c.new_side ++ edge_tests old c.old_side)

  abbrev pub fifth : List Step
  fifth = counted 5 0 (keep_tests new c.new_side ++ keep_tests old c.old_side)

  abbrev pub sixth : List Step
  sixth = counted 6 0 (exit_tests new c.new_side old c.old_side)

  pub stops_1 : (x : Step) → Some x ≡ first_failure first → Some x ≡ first_failure (family_steps new old cases c)
  stops_1 x h = first_failure-stops first (second ++ (third ++ (fourth ++ (fifth ++ sixth)))) x h

  module _ (p : None ≡ first_failure first) where
    pub stops_2 : (x : Step) → Some x ≡ first_failure second → Some x ≡ first_failure (family_steps new old cases c)
    stops_2 x h = past first (second ++ (third ++ (fourth ++ (fifth ++ sixth)))) (Some x) p (first_failure-stops second (third ++ (fourth ++ (fifth ++ sixth))) x h)

    module _ (q : None ≡ first_failure second) where
      pub stops_3 : (x : Step) → Some x ≡ first_failure third → Some x ≡ first_failure (family_steps new old cases c)
      stops_3 x h =
          past first (second ++ (third ++ (fourth ++ (fifth ++ sixth)))) (Some x) p
          (past second (third ++ (fourth ++ (fifth ++ sixth))) (Some x) q (first_failure-stops third (fourth ++ (fifth ++ sixth)) x h))

      module _ (s : None ≡ first_failure third) where
        pub stops_4 : (x : Step) → Some x ≡ first_failure fourth → Some x ≡ first_failure (family_steps new old cases c)
        stops_4 x h =
            past first (second ++ (third ++ (fourth ++ (fifth ++ sixth)))) (Some x) p
            (past second (third ++ (fourth ++ (fifth ++ sixth))) (Some x) q (past third (fourth ++ (fifth ++ sixth)) (Some x) s (first_failure-stops fourth (fifth ++ sixth) x h)))

        module _ (t : None ≡ first_failure fourth) where
          pub stops_5 : (x : Step) → Some x ≡ first_failure fifth → Some x ≡ first_failure (family_steps new old cases c)
          stops_5 x h =
              past first (second ++ (third ++ (fourth ++ (fifth ++ sixth)))) (Some x) p
              (past second (third ++ (fourth ++ (fifth ++ sixth))) (Some x) q
              (past third (fourth ++ (fifth ++ sixth)) (Some x) s (past fourth (fifth ++ sixth) (Some x) t (first_failure-stops fifth sixth x h))))

          pub last_6 : (r : Option Step) → None ≡ first_failure fifth → r ≡ first_failure sixth → r ≡ first_failure (family_steps new old cases c)
          last_6 r u h =
              past first (second ++ (third ++ (fourth ++ (fifth ++ sixth)))) r p
              (past second (third ++ (fourth ++ (fifth ++ sixth))) r q (past third (fourth ++ (fifth ++ sixth)) r s (past fourth (fifth ++ sixth) r t (past fifth sixth r u h))))
