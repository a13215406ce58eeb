use Rattle.std.proofs.Common.{map}
use Rattle.std.specs.String.{string_bytes}
use Rattle.dc_words.proofs.Unique.{one_reading}
use Rattle.dc_words.proofs.laws.one_reading.Goals as goal

pub returns : goal.returns
returns c = one_reading (map string_bytes c.args.words.now.items)
