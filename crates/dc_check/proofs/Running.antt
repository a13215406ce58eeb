-- Finished runs of programs as runs of the systems of a certificate.
use Rattle.std.specs.Prelude.{◌≡◌, ℕ, ◌-◌, ◌++◌, ℤ, pos, length, replicate, None}
use Rattle.std.proofs.Common.{sym, ◌∙◌, ap, subst, inl, inr}
use Rattle.dc_syntax.specs.declared.tree.Proc.{Proc}
use Rattle.dc_syntax.specs.Value.{State}
use Rattle.dc_syntax.specs.Costs.{Costs}
use Rattle.dc_program.specs.Programs.{IsProgram, IsCondition}
use Rattle.dc_system.specs.declared.edges.System.{System}
use Rattle.dc_system.specs.Systems.{system_of, size_fault}
use Rattle.dc_system.specs.Shapes.{IsWellFormed}
use Rattle.dc_system.specs.Paths.{Path}
use Rattle.dc_system.specs.Laws.{CostsThrough}
use Rattle.dc_claims.specs.Runs.{RunsAt}
use Rattle.dc_claims.proofs.Bounds.{certified_bound_runs, vacuous_run_nowhere}
use Rattle.dc_check.specs.Pairs.{pair}
use Rattle.dc_check.specs.Systems.{IsSystemOf}
use Rattle.dc_check.specs.Laws.{CertificatesSpeakOfRuns}
use Rattle.dc_check.proofs.Holding.{clauses_show_families}
use Rattle.dc_check.proofs.Fitting.{condition_cases, is_pair}
use Rattle.dc_system.proofs.CostPaths.{costs_paths, folded_costs_paths}
use Rattle.dc_system.proofs.Shape as shape
use Rattle.dc_system.proofs.Renumbered.{folded_shaped}

-- ---- the system of a certificate's version
pub well_formed : (version : ℕ) (p : Proc) (s : System) → IsProgram p → size_fault p ≡ None → IsSystemOf version p s → IsWellFormed s
well_formed version p s h z (inl e) = subst IsWellFormed (sym e.1) (shape.shaped p h z)
well_formed version p s h z (inr f) = folded_shaped (system_of p) s (shape.shaped p h z) f.1

pub same_params : (version : ℕ) (p : Proc) (s : System) → IsSystemOf version p s → s.params ≡ p.params
same_params version p s (inl e) = ap (λ (y : System). y.params) e.1
same_params version p s (inr f) = ap (λ (y : System). y.params) f.1.is

pub same_vars : (version : ℕ) (p : Proc) (s : System) → IsSystemOf version p s → s.vars ≡ length p.names
same_vars version p s (inl e) = ap (λ (y : System). y.vars) e.1
same_vars version p s (inr f) = ap (λ (y : System). y.vars) f.1.is

through : (version : ℕ) (p : Proc) (s : System) (v : State) (c : ℤ) → IsProgram p → size_fault p ≡ None → IsSystemOf version p s → Costs p v c → CostsThrough p s v c
through version p s v c h z (inl e) k = subst (λ y. CostsThrough p y v c) (sym e.1) ((costs_paths p h v c).0 k)
through version p s v c h z (inr f) k = (folded_costs_paths p s h z f.1 v c).0 k

pub run_at : (version : ℕ) (p : Proc) (s : System) (v : State) (c : ℤ) → IsProgram p → size_fault p ≡ None → IsSystemOf version p s → Costs p v c → RunsAt s v c
run_at version p s v c h z y k =
    let r = through version p s v c h z y k in (
      r.1,
      subst (λ n. Path s.edges 0 (v ++ replicate (n - s.params) (pos 0)) c (s.locs - 1) r.1) (sym (same_vars version p s y))
          (subst (λ n. Path s.edges 0 (v ++ replicate (length p.names - n) (pos 0)) c (s.locs - 1) r.1) (sym (same_params version p s y)) r.2),
    )

pub certificates_speak_of_runs : CertificatesSpeakOfRuns
certificates_speak_of_runs new old version s t cases c hn ho same ok cert y hold =
    let ws = well_formed version new s hn y.new_size y.new_system in
    let wt = well_formed version old t ho y.old_size y.old_system in
    let ps = same_params version new s y.new_system in
    let e : s.params ≡ t.params = ps ∙ same.0 ∙ sym (same_params version old t y.old_system) in
    let os : IsCondition s.params cases = subst (λ n. IsCondition n cases) (sym ps) ok in
    let f = clauses_show_families s t cases c ws wt e (condition_cases s.params cases os.short os.atoms) cert hold in
    let p = is_pair s t cases c ws wt e os cert hold in
    record {
      bounds = λ d k q x v a b w kn ko. certified_bound_runs (pair s t cases c) d k q p f.new_reached f.old_reached x v a b
          (record { one_each = kn.0 ∙ sym ps; allowed = w }) (run_at version new s v a hn y.new_size y.new_system kn) (run_at version old t v b ho y.old_size y.old_system ko);
      none = λ d k x v a b w kn ko. vacuous_run_nowhere (pair s t cases c) d k p f.new_reached f.old_reached x v a b
          (record { one_each = kn.0 ∙ sym ps; allowed = w }) (run_at version new s v a hn y.new_size y.new_system kn) (run_at version old t v b ho y.old_size y.old_system ko);
    }
