-- All candidates everywhere, as the code keeps them.
use Rattle.std.specs.Prelude.{◌≡◌, ℕ, zero, suc, ◌<◌, true, List, [], ◌∷◌, length, replicate, slice_index_or, ℤ, pos, None}
use Rattle.std.proofs.Common.{refl, sym, ◌∙◌, ap, ap₂, subst, arith}
use Rattle.std.proofs.lemmas.List.{get_or-replicate}
use Rattle.dc_math.specs.Members.{among_at}
use Rattle.dc_affine.specs.declared.atom.Atom.{Atom}
use Rattle.dc_rows.specs.declared.kinds.Candidates.{Candidates}
use Rattle.dc_rows.specs.Candidate.{AreCandidates}
use Rattle.dc_families.specs.Graphs.{Graph}
use Rattle.dc_families.specs.Families.{bounded, everything}
use Rattle.dc_families.proofs.Greatest.{same_family}
use Rattle.dc_families.proofs.Tests.{IsOne, is_never, is_bounded, candidate_is, everything_is}
use Rattle.dc_greatest.specs.declared.family.LocFamily.{LocFamily}
use Rattle.dc_greatest.specs.Kept.{stands_for, IsFrom, IsBelow, IsShaped}
use Rattle.dc_greatest.specs.Bounds.{first_number, whole_of}
use Rattle.dc_greatest.proofs.Shapes.{nowhere, atom_of, IsKept, kept_never, kept_bound, is_stands}
use Rattle.dc_greatest.proofs.Bridges.{shapes_are_families}

long-replicate : {A : Type 0} (n : ℕ) (x : A) → length (replicate n x) ≡ n
long-replicate zero x = refl
long-replicate (suc n) x = ap suc (long-replicate n x)

first_below : (bs : List ℤ) → IsBelow (length bs) (first_number bs)
first_below [] = tt
first_below (b ∷ bs) = omega arith

first_from : (bs : List ℤ) (k : ℕ) → k < length bs → IsFrom (first_number bs) k
first_from [] k h = absurd (omega arith)
first_from (b ∷ bs) k h = omega arith

module _ (s : Graph) (c : Candidates) where
  abbrev all : List LocFamily
  all = replicate s.locs (whole_of c)

  at_all : (l : ℕ) (d : LocFamily) → l < s.locs → slice_index_or all l d ≡ whole_of c
  at_all l d h = get_or-replicate s.locs l (whole_of c) d h

  least_all : (l r : ℕ) (d : LocFamily) → l < s.locs → r < length c.rows → slice_index_or (slice_index_or all l d).least r None ≡ first_number c.bounds
  least_all l r d h k = ap (λ (f : LocFamily). slice_index_or f.least r None) (at_all l d h) ∙ get_or-replicate (length c.rows) r (first_number c.bounds) None k

  pub whole_shape : IsShaped s.locs c all
  whole_shape = record {
    one_each = long-replicate s.locs (whole_of c);
    rows = λ l d h. ap (λ (f : LocFamily). length f.least) (at_all l d h) ∙ long-replicate (length c.rows) (first_number c.bounds);
    bounds = λ l r d h k. subst (IsBelow (length c.bounds)) (sym (least_all l r d h k)) (first_below c.bounds);
  }

  module _ (kind : AreCandidates s.vars c) where
    there : (l : ℕ) (a : Atom) → everything s c l a ≡ true → stands_for s.vars c all l a ≡ true
    there l a t =
        let e = everything_is s c l a t in
        is_stands s.vars c all l a (let q = long-replicate s.locs (whole_of c) in let h = e.0 in omega arith) (by e.0 (candidate_is s.vars c a e.1))
      where
        by : l < s.locs → IsOne s.vars c a → IsKept s.vars c (slice_index_or all l nowhere) a
        by h (is_never q) = kept_never (ap (λ (f : LocFamily). f.dead) (at_all l nowhere h)) q
        by h (is_bounded row b m k q) =
            let f = among_at row [] c.rows m in
            let g = among_at b (pos 0) c.bounds k in
            let q' : a ≡ atom_of c c.rows f.0 g.0 = q ∙ sym (ap₂ bounded f.2 g.2) in
            kept_bound f.0 g.0 f.1 g.1 (subst (λ o. IsFrom o g.0) (sym (least_all l f.0 nowhere h f.1)) (first_from c.bounds g.0 g.1)) q'

    pub whole_is_everything : stands_for s.vars c all ≡ everything s c
    whole_is_everything = same_family _ _ (shapes_are_families s c all kind whole_shape).0 there
