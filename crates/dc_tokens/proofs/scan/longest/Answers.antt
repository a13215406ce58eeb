use Rattle.std.proofs.Common.{sym, ◌∙◌, subst}
use Rattle.dc_tokens.specs.Pieces.{Longest}
use Rattle.dc_tokens.proofs.Front.{word_longest, number_longest, long_longest, short_longest, no_token}
use Rattle.dc_tokens.proofs.scan.longest.Goals as goal

pub returns-then-is_letter : goal.returns-then-is_letter
returns-then-is_letter c = subst (Longest c.args.bytes.now c.word_len-len.result) (sym c.word_kind-kind.ensures) (word_longest c.args.bytes.now c.word_len-len.result c.requires (sym c.is_letter.ensures ∙ c.if-is_letter.true) c.word_len-len.ensures.within c.word_len-len.ensures.each c.word_len-len.ensures.stops)

pub returns-then-is_digit : goal.returns-then-is_digit
returns-then-is_digit c = number_longest c.args.bytes.now c.digits_len-len.result c.requires (sym c.is_letter.ensures ∙ c.if-is_letter.false) (sym c.is_digit.ensures ∙ c.if-is_digit.true) c.digits_len-len.ensures.within c.digits_len-len.ensures.each c.digits_len-len.ensures.stops

pub returns-in-Some : goal.returns-in-Some
returns-in-Some c = long_longest c.args.bytes.now c.in-Some.kind (sym c.is_letter.ensures ∙ c.if-is_letter.false) (sym c.is_digit.ensures ∙ c.if-is_digit.false) c.in-Some.ensures.0 c.in-Some.ensures.1

pub returns-in-Some-short_sign : goal.returns-in-Some-short_sign
returns-in-Some-short_sign c = short_longest c.args.bytes.now c.in-Some-short_sign.kind (sym c.is_letter.ensures ∙ c.if-is_letter.false) (sym c.is_digit.ensures ∙ c.if-is_digit.false) c.requires c.in_default.ensures (sym c.in-Some-short_sign.ensures)

pub returns-in-None : goal.returns-in-None
returns-in-None c = no_token c.args.bytes.now (sym c.is_letter.ensures ∙ c.if-is_letter.false) (sym c.is_digit.ensures ∙ c.if-is_digit.false) c.requires c.in_default.ensures (sym c.in-None.ensures)
