use Rattle.dc_rows.proofs.Sources.{rows_have_sources as sources}
use Rattle.dc_rows.proofs.laws.rows_have_sources.Goals as goal

pub returns : goal.returns
returns c = sources
