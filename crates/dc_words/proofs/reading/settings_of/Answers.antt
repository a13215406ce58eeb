use Rattle.std.proofs.Common.{arith, ◌∙◌, refl, sym, ap, codes}
use Rattle.std.specs.Prelude.{option_map}
use Rattle.clap.specs.Matches.{found_of}
use Rattle.clap.proofs.WalkLemmas.{first_value-rows, one_text-rows}
use Rattle.dc_words.specs.Taken.{number_of}
use Rattle.dc_words.proofs.Numbers.{signed_held, unsigned_held, fits_number, number_in}
use Rattle.dc_words.proofs.Settings.{rows_in}
use Rattle.dc_words.proofs.reading.settings_of.Goals as goal

pub number_u8-requires : goal.number_u8-requires
number_u8-requires c = fits_number _ _ 0 3 256 (signed_held _ _ 0 3 (c.requires.2.0 refl) refl) (omega arith)

pub number_u8-requires-2 : goal.number_u8-requires-2
number_u8-requires-2 c = fits_number _ _ 1 3 256 (signed_held _ _ 1 3 (c.requires.2.1.0 refl) refl) (omega arith)

pub number_u64-requires : goal.number_u64-requires
number_u64-requires c = fits_number _ _ 1 1000000 18446744073709551616 (unsigned_held _ _ 1 1000000 (c.requires.2.1.1.1.0 refl) refl) (omega arith)

pub returns : goal.returns
returns c =
    let f = found_of c.args.matches.now in
    let held = c.requires.2 in
    let degree = number_in f (codes "degree") 0 3 c.number_u8.result (signed_held f _ 0 3 (held.0 refl) refl) c.number_u8.ensures in
    let products = number_in f (codes "products") 1 3 c.number_u8-2.result (signed_held f _ 1 3 (held.1.0 refl) refl) c.number_u8-2.ensures in
    let pivots = number_in f (codes "pivots") 1 1000000 c.number_u64.result (unsigned_held f _ 1 1000000 (held.1.1.1.0 refl) refl) c.number_u64.ensures in
    record {
      degree_is = ap (option_map number_of) (sym (one_text-rows f (codes "degree"))) ∙ c.number_u8.ensures;
      products_is = ap (option_map number_of) (sym (one_text-rows f (codes "products"))) ∙ c.number_u8-2.ensures;
      pairs_is = sym (first_value-rows f (codes "rows")) ∙ rows_in f c.requires.0 c.is_value.result c.requires.1 (held.1.1.0 refl) c.is_value.ensures;
      pivots_is = ap (option_map number_of) (sym (one_text-rows f (codes "pivots"))) ∙ c.number_u64.ensures;
      limits = record { degree = degree.1; some_products = products.0; few_products = products.1; some_pivots = pivots.0; few_pivots = pivots.1 };
    }
