use Rattle.std.proofs.Common.{◌∙◌, ap, sym, take}
use Rattle.std.specs.String.{string_bytes}
use Rattle.std.proofs.lemmas.List.{take-map}
use Rattle.dc_parse.proofs.parse.params.Goals as goal

pub returns : goal.returns
returns c = sym (take-map string_bytes c.args.p.now.params c.as_slice-names.result.now) ∙ ap (take c.args.p.now.params) c.as_slice-names.ensures
