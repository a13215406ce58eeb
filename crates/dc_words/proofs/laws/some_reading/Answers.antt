use Rattle.std.proofs.Common.{map}
use Rattle.std.specs.String.{string_bytes}
use Rattle.dc_words.proofs.Found.{some_reading}
use Rattle.dc_words.proofs.laws.some_reading.Goals as goal

pub returns : goal.returns
returns c = some_reading (map string_bytes c.args.words.now.items)
