use Rattle.std.proofs.Common.{sym, refl}
use Rattle.dc_certtext.proofs.Fractions.{refuse_index, refuse_colon, refuse_value, refuse_high, refuse_nothing, item_is}
use Rattle.dc_certtext.proofs.read.item.Goals as goal

pub returns-in_default : goal.returns-in_default
returns-in_default c = refuse_index c.args.word.now _ _ c.cut.ensures.front c.cut.ensures.rest c.in_default.ensures

pub returns-in_default-strip : goal.returns-in_default-strip
returns-in_default-strip c = refuse_colon c.args.word.now _ _ c.cut.ensures.front c.cut.ensures.rest c.in_default-strip.ensures

pub returns-in_default-fraction : goal.returns-in_default-fraction
returns-in_default-fraction c = refuse_value c.args.word.now _ _ _ c.cut.ensures.front c.cut.ensures.rest c.in-Some-strip.ensures c.in_default-fraction.ensures

pub returns-then-index-gt-MOST_INDEX : goal.returns-then-index-gt-MOST_INDEX
returns-then-index-gt-MOST_INDEX c = refuse_high c.args.word.now _ _ _ c.cut.ensures.front c.cut.ensures.rest c.in-Some.ensures.0 c.in-Some.ensures.1 c.if-index-gt-MOST_INDEX.true

pub returns-then-is_zero : goal.returns-then-is_zero
returns-then-is_zero c =
    refuse_nothing c.args.word.now _ _ _ c.in-Some-fraction.value c.cut.ensures.front c.cut.ensures.rest c.in-Some-strip.ensures c.in-Some-fraction.ensures.0 c.in-Some-fraction.ensures.1 (sym c.if-is_zero.ensures)

pub returns : goal.returns
returns c = (
  record { low = c.if-index-gt-MOST_INDEX.false; nonzero = sym c.if-is_zero.ensures; small = c.in-Some-fraction.ensures.0 },
  item_is c.args.word.now _ _ _ c.in-Some.index c.in-Some-fraction.value _ refl c.cut.ensures.front c.cut.ensures.rest c.in-Some.ensures.1 c.in-Some-strip.ensures c.in-Some-fraction.ensures.1,
)
