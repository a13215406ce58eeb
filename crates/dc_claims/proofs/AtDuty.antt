-- Both sides of a duty's identity, as one combination of polynomials.
use Rattle.std.specs.Prelude.{◌≡◌, ℕ, ◌+◌, List, [], ◌∷◌, ◌++◌, map, length, slice_index_or, ℤ, pos}
use Rattle.std.specs.List.{range_with_len, AllByRecursion}
use Rattle.std.proofs.Common.{refl, sym, ◌∙◌, ap, ap₂, subst, arith}
use Rattle.std.proofs.lemmas.List.{length-map, get_or-map}
use Rattle.dc_math.specs.Rational.{ℚ, ◌+ℚ◌, ◌-ℚ◌, ◌*ℚ◌, neg_ℚ, of_ℤ}
use Rattle.dc_math.specs.RationalRing.{ring, reads, read_nat, same_form}
use Rattle.dc_math.specs.Vectors.{dot}
use Rattle.dc_lp.specs.Tables.{made}
use Rattle.dc_poly.specs.Terms.{TermList, value, Polynomial, polynomial}
use Rattle.dc_affine.specs.Atoms.{IsAtom}
use Rattle.dc_handelman.specs.Choices.{Choice, choices_of}
use Rattle.dc_handelman.specs.Products.{product_at, choice_value}
use Rattle.dc_handelman.proofs.Values.{have_values}
use Rattle.dc_claims.specs.Duties.{Pair, atoms_of, places_of}
use Rattle.dc_claims.specs.declared.duty.Duty.{Duty}
use Rattle.dc_claims.specs.Parts.{unknowns_of, part_of, rest_of}
use Rattle.dc_claims.specs.Problems.{products_at, product_number, polynomials_at}
use Rattle.dc_claims.specs.Claims.{Potential, Multipliers, left_value, product_values, products_count}
use Rattle.dc_claims.specs.Laws.{unknown_value}
use Rattle.dc_claims.proofs.Totals.{total, total_same, total-neg, dot_total, by_index}
use Rattle.dc_poly.specs.Combinations.{Multiple, multiple, combination, value_of}
use Rattle.dc_poly.proofs.Combinations.{combination-++}
use Rattle.dc_claims.proofs.PartValues.{AreLocations, left_is}

combination-map : {A : Type 0} (g : TermList → ℤ) (w : A → ℚ) (q : A → TermList) (us : List A) → combination g (map (λ u. multiple (w u) (q u)) us) ≡ total (λ u. w u *ℚ of_ℤ (g (q u))) us
combination-map g w q [] = refl
combination-map g w q (u ∷ us) = ap (λ z. w u *ℚ of_ℤ (g (q u)) +ℚ z) (combination-map g w q us)

terms-map : {A : Type 0} (w : A → ℚ) (q : A → TermList) (us : List A) → map (λ (c : Multiple). c.terms) (map (λ u. multiple (w u) (q u)) us) ≡ map q us
terms-map w q [] = refl
terms-map w q (u ∷ us) = ap (λ z. q u ∷ z) (terms-map w q us)

terms-++ : (cs ds : List Multiple) → map (λ (c : Multiple). c.terms) (cs ++ ds) ≡ map (λ (c : Multiple). c.terms) cs ++ map (λ (c : Multiple). c.terms) ds
terms-++ [] ds = refl
terms-++ (c ∷ cs) ds = ap (λ z. c.terms ∷ z) (terms-++ cs ds)

module _ (p : Pair) (d k : ℕ) (t : ℚ) (φ χ : Potential) (multipliers : Multipliers) where
  -- the parts of the unknowns and the rest, less the products
  abbrev pub unknown_parts : Duty → List Multiple
  unknown_parts o = map (λ u. multiple (unknown_value t φ χ u) (part_of p d o u)) (unknowns_of p d)

  abbrev pub rest_part : Duty → Multiple
  rest_part o = multiple (of_ℤ (pos 1)) (rest_of p o)

  abbrev pub product_parts : Duty → List Multiple
  product_parts o = map (λ i. multiple (neg_ℚ (multipliers o i)) (product_number p k o i).terms) (range_with_len 0 (length (products_at p k o)))

  abbrev pub difference : Duty → List Multiple
  difference o = unknown_parts o ++ (rest_part o ∷ product_parts o)

  pub difference_is : (g : TermList → ℤ) (o : Duty)
      → combination g (difference o) ≡ (total (λ u. unknown_value t φ χ u *ℚ of_ℤ (g (part_of p d o u))) (unknowns_of p d) +ℚ of_ℤ (g (rest_of p o)))
      -ℚ total (λ i. multipliers o i *ℚ of_ℤ (g (product_number p k o i).terms)) (range_with_len 0 (length (products_at p k o)))
  difference_is g o =
      combination-++ g (unknown_parts o) (rest_part o ∷ product_parts o)
      ∙ ap₂ (λ x y. x +ℚ (of_ℤ (pos 1) *ℚ of_ℤ (g (rest_of p o)) +ℚ y)) (combination-map g (unknown_value t φ χ) (part_of p d o) (unknowns_of p d))
      (combination-map g (λ i. neg_ℚ (multipliers o i)) (λ i. (product_number p k o i).terms) range ∙ total_same _ _ range (λ i. turn (multipliers o i) (of_ℤ (g (product_number p k o i).terms))) ∙ total-neg (λ i. multipliers o i *ℚ of_ℤ (g (product_number p k o i).terms)) range)
      ∙ shape _ _ _
    where
      range : List ℕ
      range = range_with_len 0 (length (products_at p k o))

      turn : (a b : ℚ) → neg_ℚ a *ℚ b ≡ neg_ℚ (a *ℚ b)
      turn a b = ring (a ∷ b ∷ []) (λ ρ i j. simp (i, j, reads) (same_form _ _ _ refl))

      shape : (x r y : ℚ) → x +ℚ (of_ℤ (pos 1) *ℚ r +ℚ neg_ℚ y) ≡ (x +ℚ r) -ℚ y
      shape x r y = ring (x ∷ r ∷ y ∷ []) (λ ρ i j k. simp (i, j, k, read_nat ρ, reads) (same_form _ _ _ refl))

  -- its polynomials are those whose monomials have equations
  pub polynomials_are : (o : Duty) → map (λ (c : Multiple). c.terms) (difference o) ≡ polynomials_at p d k o
  polynomials_are o =
      terms-++ (unknown_parts o) (rest_part o ∷ product_parts o)
      ∙ ap₂ (λ x y. x ++ (rest_of p o ∷ y)) (terms-map (unknown_value t φ χ) (part_of p d o) (unknowns_of p d))
      (terms-map (λ i. neg_ℚ (multipliers o i)) (λ i. (product_number p k o i).terms) (range_with_len 0 (length (products_at p k o)))
      ∙ by_index (λ i. (product_number p k o i).terms) (λ (q : Polynomial). q.terms) (products_at p k o) 0 (polynomial 0 [])
      (λ i l. ap (λ j. (product_number p k o j).terms) (let e : 0 + i ≡ i = omega arith in e)))

  -- the values of the products
  products_total : (o : Duty) (x : List ℤ) (n : ℕ) → n ≡ products_count p k o → AllByRecursion (IsAtom (places_of p o)) (atoms_of p o)
      → total (λ i. multipliers o i *ℚ of_ℤ (value (product_number p k o i).terms x)) (range_with_len 0 n) ≡ dot (made (products_count p k o) (multipliers o)) (product_values p k o x)
  products_total o x n e h =
      subst (λ n. total (λ i. multipliers o i *ℚ of_ℤ (value (product_number p k o i).terms x)) (range_with_len 0 n) ≡ dot (made (length cs) (multipliers o)) (product_values p k o x)) (sym e)
      (sym (dot_total (multipliers o) (λ i. of_ℤ (value (product_number p k o i).terms x)) (range_with_len 0 (length cs)))
      ∙ ap (dot (made (length cs) (multipliers o)))
      (by_index (λ i. of_ℤ (value (product_number p k o i).terms x)) (λ c. of_ℤ (choice_value (atoms_of p o) c x)) cs 0 []
      (λ i l. ap (λ j. of_ℤ (value (product_number p k o j).terms x)) (let e : 0 + i ≡ i = omega arith in e)
      ∙ ap (λ (q : Polynomial). of_ℤ (value q.terms x)) (get_or-map (product_at (places_of p o) (atoms_of p o)) cs i [] (polynomial 0 []) l)
      ∙ ap of_ℤ (have_values (places_of p o) (atoms_of p o) (slice_index_or cs i []) x h))))
    where
      cs : List Choice
      cs = choices_of (length (atoms_of p o)) k

  pub count_is : (o : Duty) → length (products_at p k o) ≡ products_count p k o
  count_is o = length-map (choices_of (length (atoms_of p o)) k) (product_at (places_of p o) (atoms_of p o))

  -- the value of the combination is the difference of the sides
  pub difference_value : (o : Duty) (x : List ℤ) → AreLocations p d k t φ χ o → AllByRecursion (IsAtom (places_of p o)) (atoms_of p o) → length x ≡ places_of p o
      → value_of (difference o) x ≡ left_value p d t φ χ o x -ℚ dot (made (products_count p k o) (multipliers o)) (product_values p k o x)
  difference_value o x h a l = difference_is (λ q. value q x) o ∙ ap₂ ◌-ℚ◌ (left_is p d k t φ χ o x h l) (products_total o x (length (products_at p k o)) (count_is o) a)
