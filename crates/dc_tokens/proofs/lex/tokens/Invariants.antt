use Rattle.std.proofs.Common.{◌≡◌, ◌+◌, length, List, ◌++◌}
use Rattle.dc_tokens.specs.declared.token.Token.{Token}
use Rattle.dc_tokens.specs.declared.token.LexFault.{LexFault}
use Rattle.dc_tokens.specs.Texts.{Tokens, Fails}
use Rattle.dc_tokens.proofs.lex.tokens.Given as goal

abbrev pub invariant-bytes : goal.invariant-bytes
invariant-bytes l = record {
  offset : l.at + length l.rest ≡ length l.bytes;
  found : (ts : List Token) → Tokens l.at l.rest ts → Tokens 0 l.bytes (l.found.items ++ ts);
  fails : (f : LexFault) → Fails l.at l.rest f → Fails 0 l.bytes f;
}

abbrev pub decreases-bytes : goal.decreases-bytes
decreases-bytes l = length l.rest
