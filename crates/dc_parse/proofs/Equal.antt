-- Equality of bytes is an equivalence.
use Rattle.std.proofs.Common.{◌≡◌, ℕ, true, List, refl, sym, ◌∙◌}
use Rattle.std.specs.Cmp.{IsEquivalence, both_ways}
use Rattle.std.specs.Str.{bytes_eq}
use Rattle.std.proofs.lemmas.Slice.Eq.{bytes_eq-Decides}

pub equal : (x y : List ℕ) → bytes_eq x y ≡ true → x ≡ y
equal x y h = (bytes_eq-Decides x y).0 h

tested : (x y : List ℕ) → x ≡ y → bytes_eq x y ≡ true
tested x y h = (bytes_eq-Decides x y).1 h

pub bytes_equivalence : IsEquivalence bytes_eq
bytes_equivalence = record {
  refl = λ x. tested x x refl;
  symm = λ x y. both_ways (bytes_eq x y) (bytes_eq y x) (λ h. tested y x (sym (equal x y h))) (λ h. tested x y (sym (equal y x h)));
  congr = λ x y z e. both_ways (bytes_eq x z) (bytes_eq y z) (λ h. tested y z (sym (equal x y e) ∙ equal x z h)) (λ h. tested x z (equal x y e ∙ equal y z h));
}
