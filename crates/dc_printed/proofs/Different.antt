-- Names that are distinct by their bytes differ at any two indices.
use Rattle.std.proofs.Common.{◌≡◌, ℕ, ◌<◌, true, false, List, [], length, get_or, refl, sym, ap, ◌∙◌}
use Rattle.std.specs.Prelude.{slice_index_or}
use Rattle.std.specs.Str.{bytes_eq}
use Rattle.std.specs.List.{IsDistinct}
use Rattle.std.proofs.lemmas.Map.Keys.{apart_from_distinct}
use Rattle.std.proofs.lemmas.Slice.Eq.{bytes_eq-Decides}

-- no name stands at two indices
abbrev pub AreDifferent : List (List ℕ) → Type 0
AreDifferent names = (i j : ℕ) → i < j → j < length names → slice_index_or names i [] ≡ slice_index_or names j [] → ⊥

pub bytes_same : (a : List ℕ) → bytes_eq a a ≡ true
bytes_same a = (bytes_eq-Decides a a).1 refl

pub distinct_different : (ns : List (List ℕ)) → IsDistinct bytes_eq ns → AreDifferent ns
distinct_different ns h i j l m e =
    let z : true ≡ false = sym (bytes_same (get_or ns i [])) ∙ (ap (bytes_eq (get_or ns i [])) e ∙ apart_from_distinct bytes_eq ns i j [] h l m) in cc
