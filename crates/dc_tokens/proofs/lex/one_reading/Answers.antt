use Rattle.dc_tokens.proofs.Readings as readings
use Rattle.dc_tokens.proofs.lex.one_reading.Goals as goal

pub returns : goal.returns
returns c = readings.one_reading c.args.bytes.now
