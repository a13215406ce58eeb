use Rattle.std.proofs.Common.{sym}
use Rattle.dc_descent.specs.Scopes.{place_in}
use Rattle.dc_descent.specs.Sources.{parts_of, names_of}
use Rattle.dc_parse.proofs.Begins.{begin_source}
use Rattle.dc_parse.proofs.laws.statements_have_offsets.Goals as goal

pub returns : goal.returns
returns c = λ ts a n d. sym (begin_source n (place_in c.args.text.now (names_of c.args.text.now (parts_of a))) d)
