use Rattle.std.proofs.Common.{arith, ◌≡◌, ◌/◌}
use Rattle.dc_frac.proofs.Sizes.{whole_less, same_whole, no_rests, left_rest, right_rest, by_rests}
use Rattle.dc_frac.proofs.order.+compare_sizes.Goals as goal

pub returns-then-left-right : goal.returns-then-left-right
returns-then-left-right t c = whole_less c.args.a c.args.b c.args.c c.args.d c.requires.b c.requires.d c.if-left-right.true

pub returns-then-right-left : goal.returns-then-right-left
returns-then-right-left t c = whole_less c.args.c c.args.d c.args.a c.args.b c.requires.d c.requires.b c.if-right-left.true

pub returns-then-left_rest-eq0 : goal.returns-then-left_rest-eq0
returns-then-left_rest-eq0 t c =
    let e : c.args.a / c.args.b ≡ c.args.c / c.args.d = omega arith in
    no_rests c.args.a c.args.b c.args.c c.args.d _ _ c.requires.b c.requires.d (same_whole c.args.a c.args.b c.args.c c.args.d e) (omega arith) (omega arith)

pub returns-else-left_rest-eq0 : goal.returns-else-left_rest-eq0
returns-else-left_rest-eq0 t c =
    let e : c.args.a / c.args.b ≡ c.args.c / c.args.d = omega arith in
    left_rest c.args.a c.args.b c.args.c c.args.d _ _ c.requires.b c.requires.d (same_whole c.args.a c.args.b c.args.c c.args.d e) (omega arith) (omega arith)

pub returns-then-left_rest-eq0-2 : goal.returns-then-left_rest-eq0-2
returns-then-left_rest-eq0-2 t c =
    let e : c.args.a / c.args.b ≡ c.args.c / c.args.d = omega arith in
    right_rest c.args.a c.args.b c.args.c c.args.d _ _ c.requires.b c.requires.d (same_whole c.args.a c.args.b c.args.c c.args.d e) (omega arith) (omega arith)

pub returns : goal.returns
returns t c =
    let e : c.args.a / c.args.b ≡ c.args.c / c.args.d = omega arith in
    by_rests c.args.a c.args.b c.args.c c.args.d _ _ c.requires.b c.requires.d (same_whole c.args.a c.args.b c.args.c c.args.d e) c.compare_sizes.result c.compare_sizes.ensures
