use Rattle.std.proofs.Common.{[], ap, subst, append-nil, arith, length, length-drop}
use Rattle.std.proofs.lemmas.Result.{err_from_is_err_and}
use Rattle.dc_tokens.specs.Texts.{Tokens}
use Rattle.dc_tokens.proofs.OnlyAscii.{only_ascii}
use Rattle.dc_tokens.proofs.Readings.{piece_some}
use Rattle.dc_tokens.proofs.Steps.{end_at, found_more, fails_later, cause, rising}
use Rattle.dc_tokens.proofs.lex.tokens.Goals as goal

pub returns-in_err-piece-clause-cases : goal.returns-in_err-piece-clause-cases
returns-in_err-piece-clause-cases c = let p = err_from_is_err_and c.from_residual.result c.from_residual.ensures.1 in rw (p.1, p.2) (cause c.bytes.invariant.fails c.in_err-piece.field-0.0 c.in_err-piece.ensures)

pub bytes-smaller : goal.bytes-smaller
bytes-smaller c = let p = piece_some c.in_ok-piece.ensures in omega (arith, ap length c.after-rest.ensures, length-drop c.in_ok-piece.piece.len c.bytes.rest.now, p.0, p.1)

pub bytes-preserved : goal.bytes-preserved
bytes-preserved c =
    let p = piece_some c.in_ok-piece.ensures in
    record {
      offset = omega (arith, ap length c.after-rest.ensures, length-drop c.in_ok-piece.piece.len c.bytes.rest.now, c.bytes.invariant.offset, p.1);
      found = found_more c.bytes.found.items c.keep.new.found.items c.bytes-test.true c.in_ok-piece.ensures c.after-rest.ensures c.in_ok-keep.ensures c.bytes.invariant.found;
      fails = fails_later c.in_ok-piece.ensures c.after-rest.ensures c.bytes.invariant.fails;
    }

pub returns-clause-cases : goal.returns-clause-cases
returns-clause-cases c = subst (Tokens 0 c.args.bytes.now) (append-nil c.bytes.found.items) (c.bytes.invariant.found [] (end_at c.bytes.at c.bytes.rest.now c.bytes-test.false))

pub returns-clause-rising : goal.returns-clause-rising
returns-clause-rising c = rising (length c.args.bytes.now) (subst (Tokens 0 c.args.bytes.now) (append-nil c.bytes.found.items) (c.bytes.invariant.found [] (end_at c.bytes.at c.bytes.rest.now c.bytes-test.false))) (omega arith)

pub returns-clause-ascii : goal.returns-clause-ascii
returns-clause-ascii c = only_ascii (c.bytes.invariant.found [] (end_at c.bytes.at c.bytes.rest.now c.bytes-test.false))
