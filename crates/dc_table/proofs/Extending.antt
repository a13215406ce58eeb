-- Columns to which entries are added, one after another.
use Rattle.std.specs.Prelude.{◌≡◌, ℕ, zero, suc, ◌+◌, ◌*◌, ◌<◌, ◌≤◌, List, [], ◌∷◌, ◌++◌, flat_map, length, map, replicate, take, ◌-◌, slice_index_or, slice_set, Vec}
use Rattle.std.specs.declared.alloc.Global.{Global}
use Rattle.std.proofs.Common.{refl, sym, ◌∙◌, ap, ap₂, subst, arith}
use Rattle.dc_math.specs.Members.{Among}
use Rattle.dc_lp.specs.declared.Entry.{Entry}
use Rattle.dc_poly.specs.Terms.{Exponents, Polynomial, TermList}
use Rattle.dc_poly.specs.Sums.{negated}
use Rattle.dc_poly.specs.declared.monomial.Term.{Term}
use Rattle.std.specs.List.{AllByRecursion}
use Rattle.std.proofs.lemmas.List.{append_assoc, replicate_more}
use Rattle.dc_coefficients.proofs.Lists.{take_there, flat_map_one}
use Rattle.dc_table.specs.Tables.{lists, extended, both_entries, entries_of, opposite_entries}

pub extended_none : (cs : List (List Entry)) → extended cs [] ≡ cs
extended_none [] = refl
extended_none (c ∷ cs) = refl

set_extended : (cs es : List (List Entry)) (e : List Entry) → length es < length cs
    → slice_set (extended cs es) (length es) (slice_index_or (extended cs es) (length es) [] ++ e) ≡ extended cs (es ++ e ∷ [])
set_extended [] es e l = absurd (omega arith)
set_extended (c ∷ cs) [] e l = ap (λ q. (c ++ e) ∷ q) (sym (extended_none cs))
set_extended (c ∷ cs) (d ∷ es) e l = ap (λ q. (c ++ d) ∷ q) (set_extended cs es e (omega arith))

lists_set : (xs : List (Vec Entry Global)) (i : ℕ) (w : Vec Entry Global) → lists (slice_set xs i w) ≡ slice_set (lists xs) i w.items
lists_set [] i w = refl
lists_set (x ∷ xs) zero w = refl
lists_set (x ∷ xs) (suc i) w = ap (λ q. x.items ∷ q) (lists_set xs i w)

lists_index : (xs : List (Vec Entry Global)) (i : ℕ) (v : Vec Entry Global) → i < length xs → (slice_index_or xs i v).items ≡ slice_index_or (lists xs) i []
lists_index [] i v l = absurd (omega arith)
lists_index (x ∷ xs) zero v l = refl
lists_index (x ∷ xs) (suc i) v l = lists_index xs i v (omega arith)

pub length_lists : (xs : List (Vec Entry Global)) → length (lists xs) ≡ length xs
length_lists [] = refl
length_lists (x ∷ xs) = ap suc (length_lists xs)

pub length_extended : (cs es : List (List Entry)) → length (extended cs es) ≡ length cs
length_extended [] es = refl
length_extended (c ∷ cs) [] = refl
length_extended (c ∷ cs) (e ∷ es) = ap suc (length_extended cs es)

-- one column more is extended
pub one_extended : (xs : List (Vec Entry Global)) (cs es : List (List Entry)) (e : List Entry) (i : ℕ) (v w : Vec Entry Global)
    → lists xs ≡ extended cs es → i ≡ length es → i < length xs → w.items ≡ (slice_index_or xs i v).items ++ e → lists (slice_set xs i w) ≡ extended cs (es ++ e ∷ [])
one_extended xs cs es e i v w h n l g =
    let a = length_lists xs in let b = ap length h in let c = length_extended cs es in
    lists_set xs i w
    ∙ ap₂ (λ q r. slice_set q i r) h (g ∙ ap (λ q. q ++ e) (lists_index xs i v l ∙ ap (λ q. slice_index_or q i []) h))
    ∙ ap (λ k. slice_set (extended cs es) k (slice_index_or (extended cs es) k [] ++ e)) n
    ∙ set_extended cs es e (omega arith)

pub length_both : (r : ℕ) (ms : List Exponents) (qs : List Polynomial) → length (flat_map (both_entries r ms) qs) ≡ 2 * length qs
length_both r ms [] = refl
length_both r ms (q ∷ qs) = let a = length_both r ms qs in omega arith

-- both columns of a part
pub both_extended : (cs : List (List Entry)) (r : ℕ) (ms : List Exponents) (qs : List Polynomial) (k : ℕ) (q : Polynomial) → k < length qs → q ≡ slice_index_or qs k q
    → extended cs (flat_map (both_entries r ms) (take k qs) ++ entries_of r ms q ∷ [] ++ opposite_entries r ms q ∷ []) ≡ extended cs (flat_map (both_entries r ms) (take (k + 1) qs))
both_extended cs r ms qs k q l e =
    ap (extended cs) (append_assoc (flat_map (both_entries r ms) (take k qs)) (entries_of r ms q ∷ []) (opposite_entries r ms q ∷ []) ∙ sym (ap (flat_map (both_entries r ms)) (take_there qs k q l e) ∙ flat_map_one (both_entries r ms) (take k qs) q))

-- the opposite of a polynomial has the same monomials
pub listed_negated : (ms : List Exponents) (p : TermList) → AllByRecursion (λ (t : Term). Among t.mono ms) p → AllByRecursion (λ (t : Term). Among t.mono ms) (negated p)
listed_negated ms [] h = tt
listed_negated ms (t ∷ p) h = (h.0, listed_negated ms p h.1)

pub lists_++ : (xs ys : List (Vec Entry Global)) → lists (xs ++ ys) ≡ lists xs ++ lists ys
lists_++ [] ys = refl
lists_++ (x ∷ xs) ys = ap (λ q. x.items ∷ q) (lists_++ xs ys)

pub replicate_next : {A : Type 0} (i a : ℕ) (x : A) → a ≤ i → replicate (i + 1 - a) x ≡ replicate (i - a) x ++ x ∷ []
replicate_next i a x l = ap (λ k. replicate k x) (let e : i + 1 - a ≡ (i - a) + 1 = omega arith in e) ∙ sym (replicate_more (i - a) x)
