use Rattle.std.proofs.Common.{◌∙◌, ap}
use Rattle.dc_syntax.specs.Names.{place_of}
use Rattle.dc_syntax.proofs.Keys.{place-keys}
use Rattle.dc_syntax.proofs.names.Names.place.Goals as goal

pub returns : goal.returns
returns c =
    c.get_index_of.ensures.index ∙ (place-keys c.self.inside.set.keys c.args.name.now ∙ ap (λ n. place_of n c.args.name.now) c.self.view_is)
