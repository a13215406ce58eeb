-- The keys of a set of texts, and their bytes.
use Rattle.std.proofs.Common.{◌≡◌, ◌∙◌, ℕ, List, [], ◌∷◌, ◌++◌, map, not, Bool, true, false, if◌then◌else◌, refl, ap, sym, Global, ◌||◌, cond, ◌+◌}
use Rattle.std.specs.List.{list_any, position, prefix_len}
use Rattle.std.specs.Cmp.Lexicographic.{pointwise}
use Rattle.std.proofs.lemmas.List.{length-map}
use Rattle.std.specs.Bool.{Decides}
use Rattle.std.specs.Cmp.Derive.Mapped.{pointwise-map}
use Rattle.std.proofs.lemmas.Slice.Eq.{slice_eq-Decides, bytes_eq-Decides}
use Rattle.std.specs.Str.{bytes_eq}
use Rattle.std.specs.String.{string_bytes, string_eq}
use Rattle.std.specs.declared.string.String.{String}
use Rattle.indexmap.specs.IndexSet.{insert_key}
use Rattle.dc_syntax.specs.Names.{has_name, place_of, with_name}

pub has_name-keys : (ks : List (String Global)) (k : String Global) → list_any (string_eq k) ks ≡ has_name (map string_bytes ks) (string_bytes k)
has_name-keys [] k = refl
has_name-keys (x ∷ ks) k = ap (λ b. bytes_eq (string_bytes k) (string_bytes x) || b) (has_name-keys ks k)

map-snoc : (ks : List (String Global)) (k : String Global) → map string_bytes (ks ++ k ∷ []) ≡ map string_bytes ks ++ string_bytes k ∷ []
map-snoc [] k = refl
map-snoc (x ∷ ks) k = ap (λ r. string_bytes x ∷ r) (map-snoc ks k)

pub with_name-keys : (ks : List (String Global)) (k : String Global) → map string_bytes (insert_key string_eq ks k) ≡ with_name (map string_bytes ks) (string_bytes k)
with_name-keys ks k = go (list_any (string_eq k) ks) ∙ ap (λ b. if b then map string_bytes ks else map string_bytes ks ++ string_bytes k ∷ []) (has_name-keys ks k)
  where
    go : (b : Bool) → map string_bytes (if b then ks else ks ++ k ∷ []) ≡ (if b then map string_bytes ks else map string_bytes ks ++ string_bytes k ∷ [])
    go true = refl
    go false = map-snoc ks k

-- `==` of two lists of texts is that of the lists of their bytes
pub texts_equal : (xs ys : List (String Global)) (r : Bool) → r ≡ pointwise string_eq xs ys → Decides r (map string_bytes xs ≡ map string_bytes ys)
texts_equal xs ys r h = slice_eq-Decides bytes_eq-Decides (map string_bytes xs) (map string_bytes ys) r (h ∙ sym (pointwise-map string_bytes bytes_eq xs ys))

prefix-keys : (p : List ℕ → Bool) (ks : List (String Global)) → prefix_len (λ k. p (string_bytes k)) ks ≡ prefix_len p (map string_bytes ks)
prefix-keys p [] = refl
prefix-keys p (k ∷ ks) = ap (λ n. cond (p (string_bytes k)) (1 + n) 0) (prefix-keys p ks)

-- the place of a text among texts is that of its bytes among theirs
pub place-keys : (ks : List (String Global)) (name : List ℕ) → position (λ k. bytes_eq name (string_bytes k)) ks ≡ place_of (map string_bytes ks) name
place-keys ks name = rw (prefix-keys (λ k. not (bytes_eq name k)) ks, length-map) refl
