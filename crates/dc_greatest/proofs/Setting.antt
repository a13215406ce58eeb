-- One location's atoms are set.
use Rattle.std.specs.Prelude.{◌≡◌, ◌↔◌, ℕ, ◌<◌, true, List, set, length, slice_index_or, None}
use Rattle.std.proofs.Common.{sym, ◌∙◌, ap, subst, inl, inr, arith}
use Rattle.std.proofs.lemmas.Bool.{cases_eq}
use Rattle.std.proofs.lemmas.Grind.{common_steps}
use Rattle.dc_math.specs.Members.{Among}
use Rattle.dc_affine.specs.declared.atom.Atom.{Atom}
use Rattle.dc_rows.specs.declared.kinds.Candidates.{Candidates}
use Rattle.dc_greatest.specs.declared.family.LocFamily.{LocFamily}
use Rattle.dc_greatest.specs.Kept.{stands_for, atoms_in, IsBelow, IsFit, IsShaped}
use Rattle.dc_greatest.specs.Bounds.{IsTaken}
use Rattle.dc_greatest.proofs.Shapes.{nowhere, IsKept, stands_is, is_stands, kept_atom, atom_kept}

-- what a family has by its lists
pub listed : (n : ℕ) (c : Candidates) (gs : List LocFamily) (m : ℕ) (a : Atom) → m < length gs → stands_for n c gs m a ≡ true ↔ Among a (atoms_in n c (slice_index_or gs m nowhere))
listed n c gs m a i = ((λ t. atom_kept n c _ a (stands_is n c gs m a t).1), (λ x. is_stands n c gs m a i (kept_atom n c _ a x)))

module _ (n locs : ℕ) (c : Candidates) (fs : List LocFamily) (l : ℕ) (new : LocFamily) (h : IsShaped locs c fs) (inside : l < locs) where
  there : l < length fs
  there = let q = h.one_each in omega arith

  here : (d : LocFamily) → slice_index_or (set fs l new) l d ≡ new
  here d = let q = there in grind (arith, common_steps)

  other : (m : ℕ) (d : LocFamily) → (l ≡ m → ⊥) → slice_index_or (set fs l new) m d ≡ slice_index_or fs m d
  other m d k = grind (arith, common_steps)

  long : length (set fs l new) ≡ length fs
  long = grind (arith, common_steps)

  pub shaped_set : IsFit c new → IsShaped locs c (set fs l new)
  shaped_set fit = record {
    one_each = long ∙ h.one_each;
    rows = λ m d i. elim (cases_eq l m) [
      | inl q ↦ ap (λ (f : LocFamily). length f.least) (subst (λ x. slice_index_or (set fs l new) x d ≡ new) q (here d)) ∙ fit.rows
      | inr q ↦ ap (λ (f : LocFamily). length f.least) (other m d q) ∙ h.rows m d i
    ];
    bounds = λ m r d i o. elim (cases_eq l m) [
      | inl q ↦ subst (λ (f : LocFamily). IsBelow (length c.bounds) (slice_index_or f.least r None)) (sym (subst (λ x. slice_index_or (set fs l new) x d ≡ new) q (here d))) (fit.bounds r o)
      | inr q ↦ subst (λ (f : LocFamily). IsBelow (length c.bounds) (slice_index_or f.least r None)) (sym (other m d q)) (h.bounds m r d i o)
    ];
  }

  -- what a way takes there
  pub set_here : (Gives : Atom → Type 0) (old : LocFamily) → slice_index_or fs l nowhere ≡ old → IsTaken Gives n c old new → (a : Atom)
      → stands_for n c (set fs l new) l a ≡ true ↔ (stands_for n c fs l a ≡ true × Gives a)
  set_here Gives old was g a =
      let x = listed n c (set fs l new) l a (let q = there in let p = long in omega arith) in
      let y = listed n c fs l a there in
      let z = g.is a in
      let u : slice_index_or (set fs l new) l nowhere ≡ new = here nowhere in (
        (λ t. let v = z.0 (subst (λ f. Among a (atoms_in n c f)) u (x.0 t)) in (y.1 (subst (λ f. Among a (atoms_in n c f)) (sym was) v.0), v.1)),
        (λ t. x.1 (subst (λ f. Among a (atoms_in n c f)) (sym u) (z.1 (subst (λ f. Among a (atoms_in n c f)) was (y.0 t.0), t.1)))),
      )

  -- and elsewhere nothing
  pub set_other : (m : ℕ) (a : Atom) → (l ≡ m → ⊥) → stands_for n c (set fs l new) m a ≡ true ↔ (stands_for n c fs m a ≡ true)
  set_other m a k = (
    (λ t. let s = stands_is n c (set fs l new) m a t in is_stands n c fs m a (let q = s.0 in let p = long in omega arith) (subst (λ f. IsKept n c f a) (other m nowhere k) s.1)),
    (λ t. let s = stands_is n c fs m a t in is_stands n c (set fs l new) m a (let q = s.0 in let p = long in omega arith) (subst (λ f. IsKept n c f a) (sym (other m nowhere k)) s.1)),
  )
