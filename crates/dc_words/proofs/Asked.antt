-- From the values that a parse holds to the rows that `clap` states.
use Rattle.std.proofs.Common.{◌≡◌, ◌∙◌, ℕ, Bool, true, false, List, [], ◌∷◌, Option, Some, sym, ap, refl, codes, map}
use Rattle.std.specs.Prelude.{option_map, slice_get}
use Rattle.std.specs.Str.{bytes_eq}
use Rattle.std.proofs.lemmas.Slice.Eq.{bytes_eq-Decides}
use Rattle.clap.specs.Walk.{Row, Text, first_of, one_of, rows_of}
use Rattle.clap.specs.Matches.{first_value, one_text}
use Rattle.clap.specs.declared.parser.matches.Found.{Found}
use Rattle.clap.proofs.WalkLemmas.{first_value-rows, one_text-rows}
use Rattle.dc_words.specs.Taken.{number_of}
use Rattle.dc_words.specs.Reading.{takes_words}

pub first_in : (f : Found) (rows : List Row) → rows_of f ≡ rows → (id : Text) (o : Option Text) → first_value f id ≡ o → first_of id rows ≡ o
first_in f rows is id o e = ap (first_of id) (sym is) ∙ (sym (first_value-rows f id) ∙ e)

pub one_in : (f : Found) (rows : List Row) → rows_of f ≡ rows → (id : Text) (n : Option ℕ) → option_map number_of (one_text f id) ≡ n → option_map number_of (one_of id rows) ≡ n
one_in f rows is id n e = ap (λ r. option_map number_of (one_of id r)) (sym is) ∙ (ap (option_map number_of) (sym (one_text-rows f id)) ∙ e)

-- ---- a first word that is no command

other : (a b : Text) → (a ≡ b → ⊥) → bytes_eq a b ≡ false
other a b differ = go (bytes_eq a b) refl
  where
    go : (t : Bool) → bytes_eq a b ≡ t → t ≡ false
    go true e = absurd (differ ((bytes_eq-Decides a b).0 e))
    go false e = refl

pub no_command : (words : List Text) (word : Text) → slice_get words 0 ≡ Some word → (word ≡ codes "analyse" → ⊥) → (word ≡ codes "check" → ⊥) → (word ≡ codes "sample" → ⊥)
    → takes_words words ≡ false
no_command [] word first analyse check sample = refl
no_command (x ∷ rest) word first analyse check sample =
    let is : x ≡ word = cc in
    rw (is, other word (codes "analyse") analyse, other word (codes "check") check, other word (codes "sample") sample) refl

pub first_of_map : {X Y : Type 0} (f : X → Y) (xs : List X) (x : X) → slice_get xs 0 ≡ Some x → slice_get (map f xs) 0 ≡ Some (f x)
first_of_map f [] x e = cc
first_of_map f (y ∷ ys) x e =
    let is : y ≡ x = cc in
    ap (λ z. Some (f z)) is
