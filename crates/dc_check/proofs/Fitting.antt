-- The sizes of what the clauses hold of.
use Rattle.std.specs.Prelude.{◌≡◌, ℕ, true, List, [], ◌∷◌}
use Rattle.std.specs.List.{AllByRecursion, list_all}
use Rattle.std.proofs.Common.{◌∙◌, subst, arith}
use Rattle.std.proofs.lemmas.List.{length-map}
use Rattle.std.proofs.lemmas.Bool.{and_parts}
use Rattle.dc_affine.specs.declared.atom.Atom.{Atom}
use Rattle.dc_affine.specs.Atoms.{AllCases, IsFullAtom}
use Rattle.dc_affine.proofs.Within.{full_within}
use Rattle.dc_program.specs.Programs.{AllShort, IsCondition}
use Rattle.dc_system.specs.declared.edges.System.{System}
use Rattle.dc_system.specs.Shapes.{IsWellFormed}
use Rattle.dc_cert.specs.declared.certificate.EdgeCert.{EdgeCert}
use Rattle.dc_cert.specs.declared.certificate.SideCert.{SideCert}
use Rattle.dc_cert.specs.declared.certificate.Certificate.{Certificate}
use Rattle.dc_cert.specs.Ranges.{AreAtoms, IsCertificate, is_live}
use Rattle.dc_claims.specs.Plans as plans
use Rattle.dc_clauses.specs.Steps.{AllHold}
use Rattle.dc_clauses.specs.Sides.{is_full, family_steps}
use Rattle.dc_clauses.specs.Lent.{IsCase, IsShaped}
use Rattle.dc_check.specs.Pairs.{pair, flags}
use Rattle.dc_check.specs.Laws.{AcceptedFit}
use Rattle.dc_check.proofs.Inductions.{full_atoms, same_count}
use Rattle.dc_check.proofs.Holding.{HoldsBoth, holds_both, shaped}

-- ---- cases

pub condition_cases : (n : ℕ) (cases : List (List Atom)) → AllShort 130 cases → AllCases (IsFullAtom n) cases → AllByRecursion (IsCase n) cases
condition_cases n [] h g = tt
condition_cases n (case ∷ cases) h g = (record { few = (let l = h.0 in omega arith); within = full_within n case g.0 }, condition_cases n cases h.1 g.1)

same_cases : (n : ℕ) (cases : List (List Atom)) → AllByRecursion (IsCase n) cases → AllByRecursion (plans.IsCase n) cases
same_cases n [] h = tt
same_cases n (case ∷ cases) h = (record { few = h.0.few; within = h.0.within }, same_cases n cases h.1)

-- ---- atoms
plan_atoms : (s : System) (families : List (List Atom)) → list_all (is_full s) families ≡ true → AllByRecursion AreAtoms families → AllByRecursion (plans.AreAtoms s.vars) families
plan_atoms s [] h g = tt
plan_atoms s (atoms ∷ families) h g =
    let b = and_parts (is_full s atoms) (list_all (is_full s) families) h in
    (record { few = g.0.few; within = full_atoms s.vars atoms b.0 g.0.each }, plan_atoms s families b.1 g.1)

is_plan : (s : System) (x : SideCert) → IsShaped s x → plans.IsPlan s x.families
is_plan s x h = record { system = h.part.system; one_each = h.one_list_each; each = plan_atoms s x.families h.full h.part.families }

-- ---- the whole
module _ (s t : System) (cases : List (List Atom)) (c : Certificate) (ws : IsWellFormed s) (wt : IsWellFormed t) (e : s.params ≡ t.params) (ok : IsCondition s.params cases) (cert : IsCertificate c) (hold : AllHold (family_steps s t cases c)) where
  both : HoldsBoth s t cases c
  both = holds_both s t cases c e hold

  pub new_cases : AllByRecursion (IsCase s.params) cases
  new_cases = condition_cases s.params cases ok.short ok.atoms

  old_cases : AllByRecursion (IsCase t.params) cases
  old_cases = subst (λ n. AllByRecursion (IsCase n) cases) e new_cases

  new_shaped : IsShaped s c.new_side
  new_shaped = shaped s cases c.when c.new_side ws cert.new_side new_cases both.new

  old_shaped : IsShaped t c.old_side
  old_shaped = shaped t cases c.when c.old_side wt cert.old_side old_cases both.old

  pub is_pair : plans.IsPair (pair s t cases c)
  is_pair = record {
    new = is_plan s c.new_side new_shaped;
    old = is_plan t c.old_side old_shaped;
    params = e;
    cases = record { some = ok.some; few = ok.few; each = same_cases s.params cases new_cases };
  }

  pub is_fit : plans.IsFit (pair s t cases c) c.degree c.products (flags c)
  is_fit = record {
    pair = is_pair;
    flags = record {
      new = length-map c.new_side.edges (λ (d : EdgeCert). is_live d.live) ∙ new_shaped.one_each;
      old = length-map c.old_side.edges (λ (d : EdgeCert). is_live d.live) ∙ old_shaped.one_each;
      cases = length-map c.when is_live ∙ same_count s cases c.when c.new_side ws new_shaped both.new.lines;
    };
    degree = cert.degree;
    some_products = cert.some_products;
    few_products = cert.few_products;
  }

pub accepted_fit : AcceptedFit
accepted_fit s t cases c ws wt e ok cert hold = is_fit s t cases c ws wt e ok cert hold
