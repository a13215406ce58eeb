-- Fold after fold, what is certified and inductive stays so.
use Rattle.std.specs.Prelude.{◌≡◌, ℕ, ◌-◌, Bool, true, false, eqb, if◌then◌else◌, List, [], length, slice_index_or}
use Rattle.std.proofs.Common.{sym, ap, ◌∙◌, subst, arith, inl, inr}
use Rattle.std.proofs.lemmas.Bool.{cases_eq, cases_lt, eq-eqb, ne_eqb}
use Rattle.std.proofs.lemmas.List.{get_or-set_same, get_or-set_other, length-set}
use mathlib.Core.Path.{fun_ext}
use Rattle.dc_affine.specs.declared.atom.Atom.{Atom}
use Rattle.dc_system.specs.declared.edges.Edge.{Edge}
use Rattle.dc_system.specs.declared.edges.System.{System}
use Rattle.dc_system.specs.Folded.{Folding, unfolded, fold_least, folded, numbers_below}
use Rattle.dc_system.specs.Shapes.{IsWellFormed}
use Rattle.dc_system.proofs.FoldSteps.{less_edges}
use Rattle.dc_families.specs.Graphs.{graph_of}
use Rattle.dc_families.specs.Families.{Family, has_atom, family_of}
use Rattle.dc_families.specs.Rounds.{IsOver, IsInductive, IsWithin}
use Rattle.dc_families.proofs.Folds.{folds_are_graphs}
use Rattle.dc_families.proofs.Lists.{differ, past_none}
use Rattle.dc_folding.specs.Folds.{IsFoldable, without_location, without_atoms, lists_without}
use Rattle.dc_folding.proofs.Induction.{induction_is_kept}

-- ---- one more fold
pub fold_formed : (s : System) (l : ℕ) (c : Edge) → IsWellFormed s → IsFoldable s l c → IsWellFormed (without_location l c s)
fold_formed s l c w h =
    let g = folds_are_graphs s l c w h in
    record {
      few_vars = w.few_vars;
      params_first = w.params_first;
      some_location = w.some_location;
      few_locations = w.few_locations;
      few_edges = (let a = less_edges s.vars (s.locs - 1) l c s.edges h in let b = w.few_edges in omega arith);
      ends = g.ends;
      edges = g.edges;
      small_literals = w.small_literals;
    }

-- the family of the lists that are left is what is left of the family
pub family_without : (l : ℕ) (lists : List (List Atom)) → family_of (lists_without l lists) ≡ without_atoms l (family_of lists)
family_without l lists = fun_ext (λ k. fun_ext (λ a. by k a))
  where
    gone : slice_index_or (lists_without l lists) l [] ≡ []
    gone = elim (cases_lt l (length lists)) [
      | inl h ↦ get_or-set_same lists l [] [] h
      | inr h ↦ past_none (lists_without l lists) l [] (let e = length-set lists l [] in omega arith)
    ]

    by : (k : ℕ) (a : Atom) → family_of (lists_without l lists) k a ≡ without_atoms l (family_of lists) k a
    by k a = elim (cases_eq k l) [
      | inl e ↦ ap (λ j. has_atom (slice_index_or (lists_without l lists) j []) a) e ∙ ap (λ xs. has_atom xs a) gone ∙ ap (λ b. if b then false else family_of lists k a) (sym (eq-eqb k l e))
      | inr e ↦ ap (λ xs. has_atom xs a) (get_or-set_other lists l k [] [] e) ∙ ap (λ b. if b then false else family_of lists k a) (sym (ne_eqb k l e))
    ]

pub without_within : (l : ℕ) (K : Family) → IsWithin (without_atoms l K) K
without_within l K k a t = by (eqb k l) t
  where
    by : (b : Bool) → (if b then false else K k a) ≡ true → K k a ≡ true
    by true t = differ (sym t)
    by false t = t

-- ---- fold after fold, for what each fold keeps
module _ (s : System) (cases : List (List Atom)) (lists : List (List Atom)) (Keeps : System → List (List Atom) → Type 0)
    (step : (s : System) (lists : List (List Atom)) (l : ℕ) (c : Edge) → IsWellFormed s → IsOver s.vars (family_of lists) → IsFoldable s l c
    → IsInductive (graph_of s) cases (family_of lists) → Keeps s lists → Keeps (without_location l c s) (lists_without l lists)) where
  abbrev pub with_edges : List Edge → System
  with_edges es = record { vars = s.vars; params = s.params; locs = s.locs; edges = es; literals = s.literals }

  pub record Folds (es : List Edge) : Type 0 where
    pub now : List (List Atom)
    pub formed : IsWellFormed (with_edges es)
    pub over : IsOver s.vars (family_of now)
    pub inductive : IsInductive (graph_of (with_edges es)) cases (family_of now)
    pub within : IsWithin (family_of now) (family_of lists)
    pub kept : Keeps (with_edges es) now

  module _ (w : IsWellFormed s) (over : IsOver s.vars (family_of lists)) (inductive : IsInductive (graph_of s) cases (family_of lists)) (kept : Keeps s lists) where
    pub folds : {left : List ℕ} {es : List Edge} → Folding s.vars (s.locs - 1) (numbers_below s.locs) s.edges left es → Folds es
    folds unfolded = record { now = lists; formed = w; over = over; inductive = inductive; within = λ l a t. t; kept = kept }
    folds (fold_least {left = left} {es = es} F l c q m) =
        let K = folds F in
        let e = sym (family_without l K.now) in
        record {
          now = lists_without l K.now;
          formed = fold_formed (with_edges es) l c K.formed q;
          over = subst (IsOver s.vars) e (λ k a t. K.over k a (without_within l (family_of K.now) k a t));
          inductive = subst (IsInductive (graph_of (with_edges (folded l c es))) cases) e (induction_is_kept (with_edges es) cases (family_of K.now) l c K.formed K.over q K.inductive);
          within = subst (λ J. IsWithin J (family_of lists)) e (λ k a t. K.within k a (without_within l (family_of K.now) k a t));
          kept = step (with_edges es) K.now l c K.formed K.over q K.inductive K.kept;
        }
