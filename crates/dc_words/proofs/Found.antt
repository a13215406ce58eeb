-- Words have a reading exactly where a command takes them.
use Rattle.std.proofs.Common.{◌≡◌, inl, inr, refl, sym, ap, subst, ◌∙◌, ℕ, Bool, true, false, true≢false, ◌||◌, cond, List, [], ◌∷◌, Option, Some, None, codes}
use Rattle.std.specs.Prelude.{pos, slice_get}
use Rattle.std.specs.List.{slice_index_or, AllByRecursion}
use Rattle.std.specs.Option.{option_map_or}
use Rattle.std.specs.Str.{bytes_eq}
use Rattle.std.proofs.lemmas.Slice.Eq.{bytes_eq-Decides}
use Rattle.clap.specs.Walk.{Rule, Text, first_of, nothing_held}
use Rattle.clap.specs.Simple.{App, Shape, built, argument_words, help_rule}
use Rattle.clap.specs.Faults.{level_fault, fault_of}
use Rattle.clap.specs.declared.builder.value_parser.ValueParser.TheVariants as vp
use Rattle.clap.proofs.ValueTestLemmas.{accepts-Accepts}
use Rattle.clap.proofs.SimpleLemmas.{is_nil}
use Rattle.dc_words.specs.Rules.{analyse, check, sample}
use Rattle.dc_words.specs.Taken.{takes_line, line_rows}
use Rattle.dc_words.specs.Reading.{Reading, for_analyse, for_check, for_sample, Command, to_analyse, to_check, to_sample, name_of, clap_of, command_of, takes_words, row_name, IsAnalyse, IsCheck, IsSample, IsAsked, IsLine, IsReading, HaveSomeReading}
use Rattle.dc_words.proofs.Unique.{named_command}
use Rattle.dc_words.proofs.Held.{IsPlain}
use Rattle.dc_words.proofs.Lines.{plain_level, HasRow, required_row, default_row, first_row, one_row, signed_number, unsigned_number}

-- ---- analyse
abbrev analyse_shape : Shape
analyse_shape = (built analyse).top

abbrev analyse_rule : ℕ → Rule
analyse_rule k = slice_index_or analyse_shape.rules k help_rule

analyse_plain : AllByRecursion IsPlain analyse_shape.rules
analyse_plain = (inl (refl, refl), (inl (refl, refl), (inl (refl, refl), (inl (refl, refl), (inl (refl, refl), (inl (refl, refl), (inl (refl, refl), (inr refl, tt))))))))

analyse_level : (words : List Text) → takes_line analyse words ≡ true → level_fault analyse_shape [] nothing_held (argument_words analyse words) false [] ≡ []
unfolding takes_line
analyse_level words h = plain_level analyse_shape (argument_words analyse words) (is_nil (fault_of analyse words) h)

names_rows : (v : Text) (p q : Bool) → bytes_eq (codes "intervals") v ≡ p → bytes_eq (codes "pairs") v ≡ q → (p || (q || false)) ≡ true → (b : Bool) × (v ≡ row_name b)
names_rows v true q e f h = (false, sym ((bytes_eq-Decides (codes "intervals") v).0 e))
names_rows v false true e f h = (true, sym ((bytes_eq-Decides (codes "pairs") v).0 f))
names_rows v false false e f h = absurd (true≢false (sym h))

analyse_read : (words : List Text) → takes_line analyse words ≡ true → (read : Reading) × IsAnalyse (line_rows analyse words) read
unfolding line_rows
analyse_read words h =
    let e = analyse_level words h in
    let ws = argument_words analyse words in
    let rows = line_rows analyse words in
    let new : HasRow (analyse_rule 0) rows = required_row analyse_shape refl analyse_plain ws e (analyse_rule 0) (inl refl) refl in
    let old : HasRow (analyse_rule 1) rows = required_row analyse_shape refl analyse_plain ws e (analyse_rule 1) (inr (inl refl)) refl in
    let degree : HasRow (analyse_rule 3) rows = default_row analyse_shape refl analyse_plain ws e (analyse_rule 3) (inr (inr (inr (inl refl)))) refl in
    let products : HasRow (analyse_rule 4) rows = default_row analyse_shape refl analyse_plain ws e (analyse_rule 4) (inr (inr (inr (inr (inl refl))))) refl in
    let kind : HasRow (analyse_rule 5) rows = default_row analyse_shape refl analyse_plain ws e (analyse_rule 5) (inr (inr (inr (inr (inr (inl refl)))))) refl in
    let pivots : HasRow (analyse_rule 6) rows = default_row analyse_shape refl analyse_plain ws e (analyse_rule 6) (inr (inr (inr (inr (inr (inr (inl refl))))))) refl in
    let d = signed_number 0 3 (codes "degree") rows degree.2.value (accepts-Accepts false (vp.Signed (pos 0) (pos 3)) degree.2.value degree.2.passes) (one_row (analyse_rule 3) rows degree) in
    let p = signed_number 1 3 (codes "products") rows products.2.value (accepts-Accepts false (vp.Signed (pos 1) (pos 3)) products.2.value products.2.passes) (one_row (analyse_rule 4) rows products) in
    let b = names_rows kind.2.value _ _ refl refl kind.2.passes in
    let v = unsigned_number 1 1000000 (codes "pivots") rows pivots.2.value (accepts-Accepts false (vp.Unsigned 1 1000000) pivots.2.value pivots.2.passes) (one_row (analyse_rule 6) rows pivots) in (
      for_analyse new.2.value old.2.value (first_of (codes "when") rows) (record { degree = d.0; products = p.0; pairs = b.0; pivots = v.0 }),
      (
        first_row (analyse_rule 0) rows new,
        first_row (analyse_rule 1) rows old,
        refl,
        record {
          degree_is = d.1.0;
          products_is = p.1.0;
          pairs_is = first_row (analyse_rule 5) rows kind ∙ ap Some b.1;
          pivots_is = v.1.0;
          limits = record { degree = d.1.2; some_products = p.1.1; few_products = p.1.2; some_pivots = v.1.1; few_pivots = v.1.2 };
        },
      ),
    )

-- ---- check
abbrev check_shape : Shape
check_shape = (built check).top

abbrev check_rule : ℕ → Rule
check_rule k = slice_index_or check_shape.rules k help_rule

check_plain : AllByRecursion IsPlain check_shape.rules
check_plain = (inl (refl, refl), (inl (refl, refl), (inl (refl, refl), (inl (refl, refl), (inr refl, tt)))))

check_level : (words : List Text) → takes_line check words ≡ true → level_fault check_shape [] nothing_held (argument_words check words) false [] ≡ []
unfolding takes_line
check_level words h = plain_level check_shape (argument_words check words) (is_nil (fault_of check words) h)

check_read : (words : List Text) → takes_line check words ≡ true → (read : Reading) × IsCheck (line_rows check words) read
unfolding line_rows
check_read words h =
    let e = check_level words h in
    let ws = argument_words check words in
    let rows = line_rows check words in
    let new : HasRow (check_rule 0) rows = required_row check_shape refl check_plain ws e (check_rule 0) (inl refl) refl in
    let old : HasRow (check_rule 1) rows = required_row check_shape refl check_plain ws e (check_rule 1) (inr (inl refl)) refl in
    let cert : HasRow (check_rule 3) rows = required_row check_shape refl check_plain ws e (check_rule 3) (inr (inr (inr (inl refl)))) refl in (
      for_check new.2.value old.2.value cert.2.value (first_of (codes "when") rows),
      (first_row (check_rule 0) rows new, first_row (check_rule 1) rows old, first_row (check_rule 3) rows cert, refl),
    )

-- ---- sample
abbrev sample_shape : Shape
sample_shape = (built sample).top

abbrev sample_rule : ℕ → Rule
sample_rule k = slice_index_or sample_shape.rules k help_rule

sample_plain : AllByRecursion IsPlain sample_shape.rules
sample_plain = (inl (refl, refl), (inl (refl, refl), (inr refl, tt)))

sample_level : (words : List Text) → takes_line sample words ≡ true → level_fault sample_shape [] nothing_held (argument_words sample words) false [] ≡ []
unfolding takes_line
sample_level words h = plain_level sample_shape (argument_words sample words) (is_nil (fault_of sample words) h)

sample_read : (words : List Text) → takes_line sample words ≡ true → (read : Reading) × IsSample (line_rows sample words) read
unfolding line_rows
sample_read words h =
    let e = sample_level words h in
    let ws = argument_words sample words in
    let rows = line_rows sample words in
    let seed : HasRow (sample_rule 0) rows = required_row sample_shape refl sample_plain ws e (sample_rule 0) (inl refl) refl in
    let count : HasRow (sample_rule 1) rows = required_row sample_shape refl sample_plain ws e (sample_rule 1) (inr (inl refl)) refl in
    let s = signed_number 0 2147483647 (codes "SEED") rows seed.2.value (accepts-Accepts false (vp.Signed (pos 0) (pos 2147483647)) seed.2.value seed.2.passes) (one_row (sample_rule 0) rows seed) in
    let n = signed_number 1 8 (codes "COUNT") rows count.2.value (accepts-Accepts false (vp.Signed (pos 1) (pos 8)) count.2.value count.2.passes) (one_row (sample_rule 1) rows count) in
    (for_sample s.0 n.0, (s.1, n.1))

-- ---- words
read_of : (command : Command) (words : List Text) → takes_line (clap_of command) words ≡ true → (read : Reading) × IsAsked command (line_rows (clap_of command) words) read
read_of to_analyse = analyse_read
read_of to_check = check_read
read_of to_sample = sample_read

-- a command that the first word names has that name
name_found : (word : Text) (rest : List Text) (command : Command) → command_of (word ∷ rest) ≡ Some command → word ≡ name_of command
name_found w ws command = go (bytes_eq w (name_of to_analyse)) (bytes_eq w (name_of to_check)) (bytes_eq w (name_of to_sample)) refl refl refl
  where
    named : (c : Command) → bytes_eq w (name_of c) ≡ true → ◌≡◌ {A = Option Command} (Some c) (Some command) → w ≡ name_of command
    named c e h = (bytes_eq-Decides w (name_of c)).0 e ∙ ap name_of (let f : ◌≡◌ {A = Option Command} (Some c) (Some command) = h in cc)

    go : (x y z : Bool) → bytes_eq w (name_of to_analyse) ≡ x → bytes_eq w (name_of to_check) ≡ y → bytes_eq w (name_of to_sample) ≡ z
        → cond x (Some to_analyse) (cond y (Some to_check) (cond z (Some to_sample) None)) ≡ Some command → w ≡ name_of command
    go true y z e f g h = named to_analyse e h
    go false true z e f g h = named to_check f h
    go false false true e f g h = named to_sample g h
    go false false false e f g h = absurd (let q : ◌≡◌ {A = Option Command} None (Some command) = h in cc)

pub has_reading : (words : List Text) → takes_words words ≡ true → (read : Reading) × IsReading words read
has_reading [] h = absurd (true≢false (sym h))
has_reading (w ∷ ws) h = go (command_of (w ∷ ws)) refl h
  where
    go : (o : Option Command) → command_of (w ∷ ws) ≡ o → option_map_or (λ c. takes_line (clap_of c) (w ∷ ws)) o false ≡ true → (read : Reading) × IsReading (w ∷ ws) read
    go None e h = absurd (true≢false (sym h))
    go (Some c) e h =
        let r = read_of c (w ∷ ws) h in
        (r.0, (c, record { named = ap Some (name_found w ws c e); taken = h; asked = r.1 }))

pub reading_taken : (words : List Text) (read : Reading) → IsReading words read → takes_words words ≡ true
reading_taken words read (c, h) = ap (λ o. option_map_or (λ d. takes_line (clap_of d) words) o false) (named_command c words h.named) ∙ h.taken

pub some_reading : (words : List Text) → HaveSomeReading words
some_reading words = (has_reading words, λ r. reading_taken words r.0 r.1)
