-- The name of the rows that was given is one of the two.
use Rattle.std.proofs.Common.{◌≡◌, ◌∙◌, ◌||◌, Bool, true, false, Some, refl, sym, ap, subst, true≢false, codes}
use Rattle.std.specs.List.{list_any}
use Rattle.std.specs.Str.{bytes_eq}
use Rattle.std.specs.Prelude.{option_map}
use Rattle.std.proofs.lemmas.Slice.Eq.{bytes_eq-Decides}
use Rattle.std.proofs.lemmas.Option.{same_Some}
use Rattle.clap.specs.Walk.{Text}
use Rattle.clap.specs.Matches.{first_value}
use Rattle.clap.specs.declared.parser.matches.Found.{Found}
use Rattle.clap.specs.declared.builder.value_parser.ValueParser.TheVariants as vp
use Rattle.clap.proofs.WalkLemmas.{list_any-map}
use Rattle.dc_words.specs.Rules.{Lent, IsRowNames, rows_rule, row_names}
use Rattle.dc_words.specs.Held.{IsHeld}
use Rattle.dc_words.specs.Reading.{row_name}

equal_texts : (a b : Text) → bytes_eq a b ≡ true → a ≡ b
equal_texts a b e = (bytes_eq-Decides a b).0 e

one_of_two : (text : Text) (b first last : Bool) → bytes_eq text (codes "pairs") ≡ b → bytes_eq (codes "intervals") text ≡ first
    → bytes_eq (codes "pairs") text ≡ last → (first || (last || false)) ≡ true → text ≡ row_name b
one_of_two text true first last is e f h = equal_texts _ _ is
one_of_two text false true last is e f h = sym (equal_texts _ _ e)
one_of_two text false false true is e f h =
    let same : codes "pairs" ≡ text = equal_texts _ _ f in
    let bad : true ≡ false = subst (λ (t : Text). bytes_eq t (codes "pairs") ≡ false) (sym same) is in
    absurd (true≢false bad)
one_of_two text false false false is e f h = absurd (true≢false (sym h))

pub rows_in : (found : Found) (names : Lent) (b : Bool) → IsRowNames names → IsHeld found (rows_rule names)
    → option_map (λ t. bytes_eq t (codes "pairs")) (first_value found (codes "rows")) ≡ Some b → first_value found (codes "rows") ≡ Some (row_name b)
rows_in found names b two held read =
    let among = held.passes (vp.Names names) refl in
    let in_texts = sym (list_any-map (λ n. bytes_eq n held.text) (λ s. s.now) names.now) ∙ among in
    let in_names : list_any (λ n. bytes_eq n held.text) row_names ≡ true = rw two at in_texts in
    let same : Some (bytes_eq held.text (codes "pairs")) ≡ Some b = rw held.first at read in
    held.first ∙ ap Some (one_of_two held.text b _ _ (same_Some _ _ same) refl refl in_names)
