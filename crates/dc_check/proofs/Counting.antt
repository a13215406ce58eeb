-- Flags one by one, and the number of unknowns.
use Rattle.std.specs.Prelude.{◌≡◌, ℕ, ◌+◌, ◌*◌, ◌<◌, ◌≤◌, Bool, List, [], ◌∷◌, ◌++◌, map, flat_map, take, length}
use Rattle.std.specs.List.{range_with_len}
use Rattle.std.proofs.Common.{refl, sym, ◌∙◌, ap, ap₂, arith, get_or, take_all, length-append}
use Rattle.std.proofs.lemmas.List.{take_more, length-map, map-append}
use Rattle.std.proofs.lemmas.List.FromFn.{length-range_with_len}
use Rattle.dc_syntax.specs.declared.tree.Side.{Side}
use Rattle.dc_syntax.specs.declared.tree.Side.TheVariants.{New, Old}
use Rattle.dc_poly.specs.Monomials.{monomials_of}
use Rattle.dc_claims.specs.declared.duty.Unknown.TheVariants.{Coefficient}
use Rattle.dc_claims.specs.Duties.{Pair, system_of}
use Rattle.dc_claims.specs.Parts.{unknowns_of, unknowns_on, unknowns_at}

module _ {A : Type 0} (f : A → Bool) (xs : List A) where
  pub flags_more : (i : ℕ) (x : A) (b : Bool) (o p : List Bool) → i < length xs → x ≡ get_or xs i x → b ≡ f x → o ≡ map f (take i xs) → p ≡ o ++ b ∷ [] → p ≡ map f (take (i + 1) xs)
  flags_more i x b o p l e q h g =
      g ∙ ap₂ (λ bs c. bs ++ c ∷ []) h q ∙ sym (ap (map f) (take_more xs i x l ∙ ap (λ y. take i xs ++ y ∷ []) (sym e)) ∙ map-append f (take i xs) (x ∷ []))

  pub flags_done : (i : ℕ) (o : List Bool) → length xs ≤ i → o ≡ map f (take i xs) → o ≡ map f xs
  flags_done i o l h = h ∙ ap (map f) (take_all i xs l)

length-flat : {A B : Type 0} (f : A → List B) (n : ℕ) (xs : List A) → ((x : A) → length (f x) ≡ n) → length (flat_map f xs) ≡ length xs * n
length-flat f n [] h = omega arith
length-flat f n (x ∷ xs) h = (let a = length-append (f x) (flat_map f xs) in let b = length-flat f n xs h in let d = h x in omega arith)

length-on : (p : Pair) (d : ℕ) (side : Side) → length (unknowns_on p d side) ≡ (system_of p side).locs * length (monomials_of (system_of p side).vars d)
length-on p d side =
    length-flat (unknowns_at p d side) (length (monomials_of (system_of p side).vars d)) (range_with_len 0 (system_of p side).locs) (λ l. length-map (range_with_len 0 (length (monomials_of (system_of p side).vars d))) (Coefficient side l) ∙ length-range_with_len 0 (length (monomials_of (system_of p side).vars d)))
    ∙ ap (λ n. n * length (monomials_of (system_of p side).vars d)) (length-range_with_len 0 (system_of p side).locs)

pub unknowns-count : (p : Pair) (d : ℕ) → length (unknowns_of p d) ≡ 1 + p.new.locs * length (monomials_of p.new.vars d) + p.old.locs * length (monomials_of p.old.vars d)
unknowns-count p d = (let a = length-append (unknowns_on p d New) (unknowns_on p d Old) in let b = length-on p d New in let e = length-on p d Old in omega arith)
