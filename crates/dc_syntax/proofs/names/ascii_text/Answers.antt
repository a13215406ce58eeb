use Rattle.std.proofs.Common.{subst, sym, IsUtf8}
use Rattle.std.proofs.lemmas.Str.{IsUtf8-from_ascii}
use Rattle.dc_syntax.proofs.names.ascii_text.Goals as goal

pub unwrap-requires : goal.unwrap-requires
unwrap-requires c = c.from_utf8.ensures.succeeds (subst IsUtf8 (sym c.in_ok-bytes.ensures.items) (IsUtf8-from_ascii c.args.bytes.now c.requires))
