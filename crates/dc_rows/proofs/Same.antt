-- Two rows are the same where they are equal.
use Rattle.std.proofs.Common.{◌≡◌, ◌∙◌, Bool, true, false, List, [], ◌∷◌, ◌++◌, map, refl, ap, sym, Global, ℤ, if◌then◌else◌, ◌||◌}
use Rattle.std.specs.List.{list_any}
use Rattle.std.specs.Ordering.{int_eq}
use Rattle.std.specs.Bool.{Decides}
use Rattle.std.specs.Cmp.Lexicographic.{pointwise}
use Rattle.std.specs.declared.vec.Vec.{Vec}
use Rattle.std.proofs.lemmas.Bool.{false_from_ne_true, false≢true}
use Rattle.std.proofs.lemmas.Bool.Decides.{Decides-int_eq}
use Rattle.std.proofs.lemmas.Slice.Eq.{slice_eq-Decides}
use Rattle.indexmap.specs.IndexSet.{insert_key}
use Rattle.dc_rows.specs.Rows.{Row, same_row, with_row}

pub same-Decides : (r q : Row) → Decides (same_row r q) (r ≡ q)
same-Decides r q = slice_eq-Decides Decides-int_eq r q (same_row r q) refl

pub same-self : (r : Row) → same_row r r ≡ true
same-self r = (same-Decides r r).1 refl

pub same-sym : (r q : Row) → same_row r q ≡ same_row q r
same-sym r q = by (same_row r q) refl
  where
    by : (b : Bool) → same_row r q ≡ b → same_row r q ≡ same_row q r
    by true h = h ∙ sym ((same-Decides q r).1 (sym ((same-Decides r q).0 h)))
    by false h = h ∙ sym (false_from_ne_true (same_row q r) (λ k. false≢true (sym h ∙ (same-Decides r q).1 (sym ((same-Decides q r).0 k)))))

-- ---- the keys of a set, as rows
items : Vec ℤ Global → Row
items v = v.items

abbrev same_items : Vec ℤ Global → Vec ℤ Global → Bool
same_items v w = pointwise int_eq v.items w.items

has-keys : (ks : List (Vec ℤ Global)) (k : Vec ℤ Global) → list_any (same_items k) ks ≡ list_any (same_row k.items) (map (λ v. v.items) ks)
has-keys [] k = refl
has-keys (x ∷ ks) k = ap (λ b. same_row k.items x.items || b) (has-keys ks k)

map-snoc : (ks : List (Vec ℤ Global)) (k : Vec ℤ Global) → map (λ v. v.items) (ks ++ k ∷ []) ≡ map (λ v. v.items) ks ++ k.items ∷ []
map-snoc [] k = refl
map-snoc (x ∷ ks) k = ap (λ r. x.items ∷ r) (map-snoc ks k)

pub with_row-keys : (ks : List (Vec ℤ Global)) (k : Vec ℤ Global) → map (λ v. v.items) (insert_key same_items ks k) ≡ with_row (map (λ v. v.items) ks) k.items
with_row-keys ks k =
    go (list_any (same_items k) ks) ∙ ap (λ b. if b then map (λ v. v.items) ks else map (λ v. v.items) ks ++ k.items ∷ []) (has-keys ks k)
  where
    go : (b : Bool) → map (λ v. v.items) (if b then ks else ks ++ k ∷ []) ≡ (if b then map (λ v. v.items) ks else map (λ v. v.items) ks ++ k.items ∷ [])
    go true = refl
    go false = map-snoc ks k
