-- A text that passed a parser of numbers stands for a number in the parser's range.
use Rattle.std.proofs.Common.{◌≡◌, ◌<◌, ◌≤◌, ◌==◌, ℕ, Bool, true, false, cond, drop, [], ◌∷◌, Some, None, refl, sym, ap, subst, arith}
use Rattle.std.specs.Prelude.{pos, option_map, unwrap_or}
use Rattle.std.specs.Str.Parse.{IsNumeral, starts_with_minus, without_leading_plus}
use Rattle.std.proofs.lemmas.Bool.{ne_eqb}
use Rattle.std.proofs.lemmas.Str.Parse.{digit_from_value}
use Rattle.std.proofs.lemmas.Int.{ints}
use Rattle.std.proofs.lemmas.Option.{same_Some}
use Rattle.clap.specs.Lexer.{without_minus}
use Rattle.clap.specs.Walk.{Text, Rule}
use Rattle.clap.specs.Values.{IsSignedIn, IsUnsignedIn}
use Rattle.clap.specs.Matches.{one_text}
use Rattle.clap.specs.declared.parser.matches.Found.{Found}
use Rattle.clap.specs.declared.builder.value_parser.ValueParser.TheVariants as vp
use Rattle.dc_words.specs.Held.{IsHeld}
use Rattle.dc_words.specs.Taken.{number_of, IsNumber}

without_minus-cond : (t : Text) → without_minus t ≡ cond (starts_with_minus t) (drop 1 t) t
without_minus-cond [] = refl
without_minus-cond (x ∷ xs) = go (x == 45)
  where
    go : (b : Bool) → unwrap_or (cond b (Some xs) None) (x ∷ xs) ≡ cond b xs (x ∷ xs)
    go true = refl
    go false = refl

no_plus : (ds : Text) → IsNumeral 10 ds → without_leading_plus ds ≡ ds
no_plus [] h = refl
no_plus (d ∷ ds) h =
    let plus : (d == 43) ≡ false = ne_eqb _ _ (λ e. omega (arith, digit_from_value d h.1.0)) in
    ap (λ (b : Bool). drop (cond b 1 0) (d ∷ ds)) plus

-- the text is a numeral, and its number lies in a range
pub record InRange (low high : ℕ) (text : Text) : Type 0 where
  pub digits : IsNumeral 10 (without_leading_plus text)
  pub least : low ≤ number_of text
  pub most : number_of text ≤ high

pub signed_range : (low high : ℕ) (t : Text) → IsSignedIn (pos low) (pos high) t → InRange low high (without_minus t)
signed_range low high t passed = subst (InRange low high) (sym (without_minus-cond t)) (go (starts_with_minus t) refl)
  where
    go : (b : Bool) → starts_with_minus t ≡ b → InRange low high (cond b (drop 1 t) t)
    go true minus =
        let numeral : IsNumeral 10 (drop 1 t) = rw minus at passed.0 in
        let same = no_plus (drop 1 t) numeral in
        let low_ok = rw minus at passed.2 in
        let high_ok = rw minus at passed.3 in
        record { digits = rw same numeral; least = rw same (omega (arith, ints)); most = rw same (omega (arith, ints)) }
    go false minus =
        let low_ok = rw minus at passed.2 in
        let high_ok = rw minus at passed.3 in
        record { digits = rw minus at passed.0; least = omega (arith, ints); most = omega (arith, ints) }

pub unsigned_range : (low high : ℕ) (t : Text) → IsUnsignedIn low high t → InRange low high t
unsigned_range low high t passed = record { digits = passed.0; least = passed.2; most = passed.3 }

-- a number that an argument holds
pub record HasNumber (found : Found) (id : Text) (low high : ℕ) : Type 0 where
  pub text : Text
  pub one : one_text found id ≡ Some text
  pub range : InRange low high text

pub signed_held : (found : Found) (r : Rule) (low high : ℕ) → IsHeld found r → r.parser ≡ Some (vp.Signed (pos low) (pos high)) → HasNumber found r.id low high
signed_held found r low high h parser = record {
  text = without_minus h.text;
  one = h.one (vp.Signed (pos low) (pos high)) parser;
  range = signed_range low high h.text (h.passes (vp.Signed (pos low) (pos high)) parser);
}

pub unsigned_held : (found : Found) (r : Rule) (low high : ℕ) → IsHeld found r → r.parser ≡ Some (vp.Unsigned low high) → HasNumber found r.id low high
unsigned_held found r low high h parser = record {
  text = h.text;
  one = h.one (vp.Unsigned low high) parser;
  range = unsigned_range low high h.text (h.passes (vp.Unsigned low high) parser);
}

-- it fits, so it can be read
pub fits_number : (found : Found) (id : Text) (low high bound : ℕ) → HasNumber found id low high → high < bound → IsNumber found id bound
fits_number found id low high bound h lt = record {
  text = h.text;
  one = h.one;
  digits = h.range.digits;
  small = omega (arith, h.range.most);
}

-- and what was read is that number
pub number_in : (found : Found) (id : Text) (low high n : ℕ) → HasNumber found id low high → option_map number_of (one_text found id) ≡ Some n → (low ≤ n) × (n ≤ high)
number_in found id low high n h read =
    let same : Some (number_of h.text) ≡ Some n = rw h.one at read in
    let is : number_of h.text ≡ n = same_Some (number_of h.text) n same in
    (omega (arith, is, h.range.least), omega (arith, is, h.range.most))
