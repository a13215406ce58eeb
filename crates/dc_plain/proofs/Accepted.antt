-- What the checker accepts of plain programs, without a condition, is the difference.
use Rattle.std.specs.Prelude.{◌≡◌, ℕ, List, [], ◌∷◌, pos, ◌-ℤ◌, None}
use Rattle.std.proofs.Common.{refl, sym, ◌∙◌, arith, inl, inr}
use Rattle.dc_math.specs.Rational.{of_ℤ}
use Rattle.dc_frac.specs.declared.Frac.{Frac}
use Rattle.dc_frac.specs.Value.{value}
use Rattle.dc_syntax.specs.declared.tree.Proc.{Proc}
use Rattle.dc_program.specs.Programs.{IsProgram, IsCondition}
use Rattle.dc_affine.specs.declared.atom.Atom.{Atom}
use Rattle.dc_system.specs.declared.edges.System.{System}
use Rattle.dc_system.specs.Systems.{size_fault}
use Rattle.dc_claims.specs.Duties.{Pair}
use Rattle.dc_claims.specs.Claims.{IsLeast}
use Rattle.dc_claims.proofs.Claims.{at_most_one}
use Rattle.dc_cert.specs.declared.certificate.Claim.{Claim}
use Rattle.dc_cert.specs.declared.certificate.Claim.TheVariants.{Threshold, Nothing, Vacuous}
use Rattle.dc_check.specs.Claims.{ShowsClaim}
use Rattle.dc_check.specs.Pairs.{pair}
use Rattle.dc_check.specs.Systems as checked
use Rattle.dc_check.proofs.Fitting.{accepted_fit}
use Rattle.dc_check.proofs.Holding.{clauses_show_families}
use Rattle.dc_plain.specs.Laws.{IsSystemOf, AcceptedSayDifference}
use Rattle.dc_plain.proofs.Least.{system_formed, system_params, plain_are_least}

-- either version speaks of such a system
system_is : (version : ℕ) (p : Proc) (s : System) → IsProgram p → size_fault p ≡ None → checked.IsSystemOf version p s → IsSystemOf p s
system_is version p s program fits h = record {
  program = program;
  fits = fits;
  system = elim h [ inl e ↦ inl e.1 | inr F ↦ inr F.1 ];
}

no_condition : (n : ℕ) → IsCondition n ([] ∷ [])
no_condition n = record { some = omega arith; few = omega arith; short = (omega arith, tt); atoms = (tt, tt) }

-- beside a least threshold no other claim is so
only_threshold : (new old : Proc) (cases : List (List Atom)) (p : Pair) (d k m n : ℕ) (claim : Claim) → IsLeast p d k (of_ℤ (pos m -ℤ pos n)) → ShowsClaim new old cases p d k claim
    → (t : Frac) × (claim ≡ Threshold t) × (value t ≡ of_ℤ (pos m -ℤ pos n))
only_threshold new old cases p d k m n (Threshold t) h g = (t, refl, at_most_one.one_least p d k (value t) (of_ℤ (pos m -ℤ pos n)) g.least h)
only_threshold new old cases p d k m n Nothing h g = absurd (at_most_one.least_or_none p d k (of_ℤ (pos m -ℤ pos n)) h g)
only_threshold new old cases p d k m n Vacuous h g = absurd (at_most_one.least_or_every p d k (of_ℤ (pos m -ℤ pos n)) h g.every)

pub accepted_say_difference : AcceptedSayDifference
accepted_say_difference new old m n c claim plain first second cert h =
    let s = h.new_system in
    let t = h.old_system in
    let a : IsSystemOf new s = system_is c.version new s first h.systems.new_size h.systems.new_system in
    let b : IsSystemOf old t = system_is c.version old t second h.systems.old_size h.systems.old_system in
    let e : s.params ≡ t.params = system_params new s a ∙ plain.same_params.0 ∙ sym (system_params old t b) in
    let ws = system_formed new s a in
    let wt = system_formed old t b in
    let cases : List (List Atom) = [] ∷ [] in
    let f = clauses_show_families s t cases c ws wt e (record { few = omega arith; within = tt }, tt) cert h.ready.families in
    let sizes = accepted_fit s t cases c ws wt e (no_condition s.params) cert h.ready.families in
    only_threshold new old cases (pair s t cases c) c.degree c.products m n claim
    (plain_are_least new old m n (pair s t cases c) c.degree c.products plain
    (record { new_side = a; old_side = b; cases = refl; sizes = sizes.pair })
    (record { new = f.new_inductive; old = f.old_inductive }))
    h.shows
