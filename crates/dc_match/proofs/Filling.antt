-- A table that is filled duty by duty.
use Rattle.std.specs.Prelude.{◌≡◌, ◌⊎◌, ℕ, ◌+◌, ◌*◌, ◌<◌, ◌≤◌, List, [], ◌∷◌, ◌++◌, flat_map, length, map, take, slice_index_or}
use Rattle.std.specs.List.{AllByRecursion}
use Rattle.std.proofs.Common.{sym, ◌∙◌, ap, subst, arith, inl, inr}
use Rattle.std.proofs.lemmas.List.{take_all, length-map, take_more}
use Rattle.dc_math.specs.Members.{Among, each_left, each_right}
use Rattle.dc_math.specs.OrderedLists.{Ordered}
use Rattle.dc_poly.specs.declared.monomial.Term.{Term}
use Rattle.dc_poly.specs.Terms.{Before, Exponents, Polynomial, TermList}
use Rattle.dc_coefficients.specs.declared.block.Block.{Block}
use Rattle.dc_coefficients.specs.Monomials.{all_terms}
use Rattle.dc_coefficients.proofs.MonoLaws.{all_listed, monos_ordered}
use Rattle.dc_claims.specs.declared.duty.Duty.{Duty}
use Rattle.dc_claims.specs.Duties.{Pair}
use Rattle.dc_claims.specs.Blocks.{IsBlock}
use Rattle.dc_claims.specs.Parts.{unknowns_of, part_of, rest_of}
use Rattle.dc_claims.specs.Problems.{both_signs, polynomials_at, products_at}
use Rattle.dc_table.specs.declared.table.Table.{Table}
use Rattle.dc_table.specs.Tables.{AreListed, IsSound, IsTable, IsWeighed, IsExtended, equations_in, column_in, monos_at}
use Rattle.dc_table.proofs.Columns.{table_more}
use Rattle.dc_table.proofs.Extending.{length_lists}
use Rattle.dc_syntax.specs.declared.tree.Count.TheVariants as count
use Rattle.dc_match.specs.declared.fault.MatchFault.{MatchFault}
use Rattle.dc_match.specs.declared.fault.MatchFault.TheVariants.{NoMemory, TooLarge}
use Rattle.dc_match.specs.Answers.{IsFilled, IsFillFault}
use Rattle.dc_match.proofs.Counting.{all_of_recursion, both_count, equations_there, equations_within}

-- ---- what a block has is in its monomials
of_terms : (P : TermList → Type 0) (qs : List Polynomial) → AllByRecursion P (all_terms qs) → AllByRecursion (λ (q : Polynomial). P q.terms) qs
of_terms P [] h = tt
of_terms P (q ∷ qs) h = (h.0, of_terms P qs h.1)

module _ (p : Pair) (d k : ℕ) where
  abbrev within : List Exponents → TermList → Type 0
  within ms q = AllByRecursion (λ (t : Term). Among t.mono ms) q

  pub sound : (o : Duty) (b : Block) → IsBlock p d k o b → IsSound b
  sound o b h = record {
    in_order = subst (Ordered Before) (sym h.monos) (monos_ordered (polynomials_at p d k o));
    parts = all_of_recursion (AreListed b.monos.items) b.parts.items
        (of_terms (within b.monos.items) b.parts.items
        (subst (AllByRecursion (within b.monos.items)) (sym h.parts) (each_left (within b.monos.items) (map (part_of p d o) (unknowns_of p d)) (rest_of p o ∷ all_terms (products_at p k o)) all_here)));
    products = all_of_recursion (AreListed b.monos.items) b.products.items
        (subst (AllByRecursion (AreListed b.monos.items)) (sym h.products)
        (of_terms (within b.monos.items) (products_at p k o) ((each_right (within b.monos.items) (map (part_of p d o) (unknowns_of p d)) (rest_of p o ∷ all_terms (products_at p k o)) all_here).1)));
  }
    where
      all_here : AllByRecursion (within b.monos.items) (polynomials_at p d k o)
      all_here = subst (λ ms. AllByRecursion (within ms) (polynomials_at p d k o)) (sym h.monos) (all_listed (polynomials_at p d k o))

  -- ---- two columns for each unknown
  columns_counted : (os : List Duty) (t : Table) → IsTable p d k os t → length t.unknowns.items ≡ 2 * length (unknowns_of p d)
  columns_counted os t h =
      sym (length_lists t.unknowns.items) ∙ ap length h.unknowns ∙ length-map (flat_map both_signs (unknowns_of p d)) (column_in p d k os) ∙ both_count p d

  pub two_columns : (os : List Duty) (t : Table) → IsTable p d k os t → 2 ≤ length t.unknowns.items
  two_columns os t h = let a = columns_counted os t h in omega arith

  pub two_each : (os : List Duty) (t : Table) (o : Duty) (b : Block) → IsTable p d k os t → IsBlock p d k o b → length t.unknowns.items ≡ 2 * length b.parts.items
  two_each os t o b h g =
      columns_counted os t h
      ∙ ap (λ n. 2 * n) (sym (length-map (unknowns_of p d) (part_of p d o)) ∙ sym (ap length g.parts) ∙ length-map b.parts.items (λ (q : Polynomial). q.terms))

  -- ---- one block more
  module _ (os : List Duty) (i : ℕ) (o : Duty) (there : i < length os) (e : Duty) (is : o ≡ slice_index_or os i e) where
    next : take (i + 1) os ≡ take i os ++ o ∷ []
    next = take_more os i e there ∙ ap (λ q. take i os ++ q ∷ []) (sym is)

    pub rows_more : (t : Table) (b : Block) (more rows : ℕ) → IsTable p d k (take i os) t → IsBlock p d k o b → more ≡ length b.monos.items → rows ≡ t.rows + more
        → rows ≡ length (equations_in p d k (take (i + 1) os))
    rows_more t b more rows h g m r =
        let a = equations_there p d k os i e there in let c = ap length g.monos in let f = h.rows in let j = ap (λ q. length (monos_at p d k q)) is in omega arith

    pub filled_more : (t : Table) (b : Block) (u : Table) → IsTable p d k (take i os) t → IsBlock p d k o b → IsExtended b t u → IsTable p d k (take (i + 1) os) u
    filled_more t b u h g x = subst (λ q. IsTable p d k q u) (sym next) (table_more p d k (take i os) o b t u h g x)

    pub too_many_there : (rows : ℕ) (fault : MatchFault) → rows ≡ length (equations_in p d k (take (i + 1) os)) → 2048 < rows
        → (fault ≡ NoMemory) ⊎ (fault ≡ TooLarge count.Equations (length (equations_in p d k os))) → IsFillFault p d k os fault
    too_many_there rows fault r m (inl f) = inl f
    too_many_there rows fault r m (inr f) = inr (record { many = (let a = equations_within p d k os (i + 1) in omega arith); told = f })

  pub all_filled : (os : List Duty) (t : Table) (i : ℕ) → i ≤ length os → length os ≤ i → IsTable p d k (take i os) t → IsWeighed i t → length (equations_in p d k (take i os)) ≤ 2048 → IsFilled p d k os t
  all_filled os t i a b h w l = record {
    table = subst (λ q. IsTable p d k q t) (take_all i os b) h;
    weighed = subst (λ n. IsWeighed n t) (let e : i ≡ length os = omega arith in e) w;
    within = subst (λ q. length (equations_in p d k q) ≤ 2048) (take_all i os b) l;
  }
