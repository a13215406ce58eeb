use Rattle.std.proofs.Common.{◌∙◌, ap, sym, take}
use Rattle.std.specs.String.{string_bytes}
use Rattle.std.proofs.lemmas.List.{take-map}
use Rattle.dc_syntax.proofs.params.first_names.Goals as goal

pub returns-then-count-all : goal.returns-then-count-all
returns-then-count-all c = sym (take-map string_bytes c.args.count c.as_slice-all.result.now) ∙ ap (take c.args.count) c.as_slice-all.ensures
