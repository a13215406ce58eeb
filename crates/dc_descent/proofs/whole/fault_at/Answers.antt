use Rattle.std.proofs.Common.{◌-◌, ◌≤◌, Some, length, subst, arith}
use Rattle.dc_tokens.specs.declared.token.TokenKind.TheVariants as k
use Rattle.dc_tokens.specs.declared.token.Token.{Token}
use Rattle.dc_descent.specs.Reading.{IsCut}
use Rattle.dc_descent.proofs.Judged.{read_offset, cut_within, tells_unexpected, tells_deep, tells_end}
use Rattle.dc_descent.proofs.whole.fault_at.Goals as goal

abbrev nothing : Token
nothing = record { kind = k.Name; at = 0; end = 0; value = 0 }

pub returns-then-left-gt0 : goal.returns-then-left-gt0
returns-then-left-gt0 c x o d e =
    let w : length c.args.part.now ≤ length c.args.tokens.now = cut_within c.args.tokens.now c.args.part.now c.args.deep c.requires.cut in
    tells_unexpected x c.args.tokens.now c.args.part.now c.args.deep o c.args.left _ c.requires.cut d e c.if-left-gt0.true (read_offset c.args.tokens.now (length c.args.part.now - c.args.left) nothing (omega arith))

pub returns-in-Some : goal.returns-in-Some
returns-in-Some c x o d e =
    let cut : IsCut c.args.tokens.now (Some c.in-Some.index) c.args.part.now = subst (λ z. IsCut c.args.tokens.now z c.args.part.now) c.in-Some.is c.requires.cut in
    tells_deep x c.args.tokens.now c.args.part.now c.in-Some.index o _ cut d (omega arith) (read_offset c.args.tokens.now c.in-Some.index nothing cut.0.0)

pub returns-in-None : goal.returns-in-None
returns-in-None c x o d e =
    tells_end x c.args.tokens.now c.args.part.now o (subst (λ z. IsCut c.args.tokens.now z c.args.part.now) c.in-None.is c.requires.cut) d (omega arith)
